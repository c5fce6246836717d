-- `store` copies the words over a part.
use mathlib.Core.Path.{◌≡◌, ap, ◌∙◌}
use mathlib.Core.List.{List, ◌++◌}
use Prim.Native.Nat.{ℕ, ◌+◌, ◌-◌, ◌≤◌}
use native.Mathlib.Omega.{arith}
use borrow.Author.Rules.{rules}
use borrow.Rule.Slice.PartMut.{put_mid}
use lib.ListN.{length, get_or, take, drop, length-append, length-drop}
use lib.Seq.{length-take-le, get_or-drop}
use Rattle.std.proofs.Common.{⊎_elim}
use Rattle.std.proofs.lemmas.List.{places, get_or-append_right}
use Rattle.limits.specs.Limits.{most_settings}
use Rattle.network.specs.Stored.{Stored, words_of}
use Rattle.network.proofs.rows.store.Goals as goal

-- the words of a list, put over as many
part : (T0 w ys : List ℕ) (base k : ℕ) → base + most_settings ≤ length T0 → length w ≡ most_settings → ys ≡ w → k ≡ most_settings
    → Stored T0 base (words_of w) most_settings (put_mid base k T0 ys)
unfolding words_of
part T0 w ys base k l s e d =
    let rest = drop most_settings (drop base T0) in
    let a : length (take base T0) ≡ base = length-take-le base T0 (omega arith) in
    rw (e, d) (record {
      sized = omega (
        arith,
        length-append (take base T0) (w ++ rest),
        length-append w rest,
        length-drop most_settings (drop base T0),
        length-drop base T0,
      );
      here = λ h b. search (rules, places);
      there = λ j o. ⊎_elim (λ q. search (rules, places))
          (λ q. get_or-append_right (take base T0) (w ++ rest) base j 0 a (omega arith)
          ∙ get_or-append_right w rest most_settings (j - base) 0 s (omega arith)
          ∙ get_or-drop most_settings (drop base T0) (j - base - most_settings) 0
          ∙ get_or-drop base T0 (most_settings + (j - base - most_settings)) 0
          ∙ ap (λ (i : ℕ). get_or T0 i 0) (omega arith)) o;
    })

pub returns : goal.returns
returns c = part _ _ _ _ _ c.requires (search rules) c.copy_from_slice.ensures.after (omega arith)
