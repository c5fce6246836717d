-- The bytes are copied over a part of the output.
use Rattle.std.specs.Prelude.{◌≡◌, refl, List, ℕ, ◌+◌, ◌≤◌, length, take, drop}
use Rattle.std.proofs.Common.{arith, drop-drop}
use Rattle.std.proofs.lemmas.List.Edits.{sets, sets-eq}
use mathlib.Core.List.{append_assoc}
use borrow.Rule.Slice.PartMut.{put_mid}
use Rattle.printing.proofs.put_bytes.Goals as goal

-- bytes put over as many
copied : (o ys bs : List ℕ) (p k : ℕ) → p + length bs ≤ length o → ys ≡ bs → k ≡ length bs → put_mid p k o ys ≡ sets o p bs
copied o ys bs p k l e d = rw (e, d, sets-eq bs o p l, drop-drop (length bs) p o, append_assoc (take p o) bs (drop (p + length bs) o)) refl

pub returns : goal.returns
returns c = record {
  ends = refl;
  written = copied _ _ _ _ _ c.requires c.copy_from_slice.ensures.after (omega arith);
}
