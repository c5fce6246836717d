-- What the functions of the engines ask of the set and of the tables. Assumes nothing.
use Rattle.std.specs.Prelude.{◌≡◌, Bool, ◌&&◌, List, ℕ, ◌^◌, ◌<◌, length, get_or}
use Rattle.std.proofs.Math.Path.{refl, sym}
use Rattle.std.proofs.Common.{ap, ◌∙◌, true≢false}
use Rattle.std.proofs.Math.Logic.{⊎_elim}
use Rattle.std.proofs.Math.Bool.{true, false, not, xor, and-true}
use native.Mathlib.Omega.{arith}
use Rattle.std.specs.Int.Bits.{bit_or, bit_xor}
use borrow.Author.Tests.{eq-eqb, ne_eqb}
use Rattle.limits.specs.Limits.{most_fields, most_settings, counter_words, support_words, list_places}
use Rattle.masks.specs.Tests.{never, not_so, bool_cases, eq_cases, iff_eq}
use Rattle.masks.specs.Bits.{bit, Within}
use Rattle.masks.proofs.Bits.{bit_bound}
use Rattle.masks.specs.Words.{clear}
use Rattle.masks.proofs.Words.{bit-xor, bit-one, clear_within, clear-same}
use Rattle.masks.specs.Sets.{has, ◌⊆◌, ⊆_trans}
use Rattle.masks.proofs.Sets.{has_ext}
use Rattle.masks.specs.Settings.{cut, lose, length-lose, empty}
use Rattle.masks.proofs.Settings.{cut_⊆, cut_by, lose_⊆, lose-by, lose-set, empty-at, empty-by, empty-not}
use Rattle.removal_list.specs.Count.{Small, count_most}
use Rattle.removal_list.specs.Moved.{Moved, without, has-without, length_without}
use Rattle.consistency.specs.Problem.{has_field, Problem, triple_at, all_fields, in_all_fields, all_fields_bound}
use Rattle.consistency.specs.Closing.{closing}
use Rattle.consistency.proofs.Closing.{closing-is}
use Rattle.consistency.specs.Revising.{rules_only, closed_under-other}
use Rattle.consistency.specs.Passing.{NoneEmpty, none_empty, none_empty-at}
use Rattle.network.specs.declared.tables.Tables.{Tables}
use Rattle.network.specs.Tables.{rule_problem}
use Rattle.network.specs.TripleTable.{problem_of, no_triples, triples_in}
use Rattle.network.specs.Network.{problem, rules, WiredTables, Tripled}
use Rattle.pruning.specs.Shrunk.{or-within, one-within, small_⊆, Shrunk, shrunk-then, shrunk-set}
use Rattle.pruning.specs.Supports.{Counts, Supports, supports-less, closed_positive}
use Rattle.pruning.specs.Prune.{PruneAsks}
use Rattle.pruning.specs.Close.{Closes}
use Rattle.revising.specs.Narrow.{ClosedElse}
use Rattle.closing.specs.declared.ac4.Ac4.{Ac4}
use Rattle.closing.specs.Frame.{Live, Tested, Removed}

-- a set: a mask for each field, with a bit for each setting
pub record Masks (S : List ℕ) : Type 0 where
  pub long : length S ≡ most_fields
  pub small : Small S

-- what closing keeps, as an engine makes it: no support set, no count, and a place for each setting (lines 1 to 4 of SAC_2 in Figure 2)
pub record Blank (a : Ac4) : Type 0 where
  pub long-support : length a.support ≡ support_words
  pub long_counter : length a.counter.counts ≡ counter_words
  pub long-copy : length a.copy.counts ≡ counter_words
  pub places : length a.list.places ≡ list_places
  pub no_support : (q : ℕ) → get_or a.support q 0 ≡ 0
  pub no_count : (q : ℕ) → get_or a.counter.counts q 0 ≡ 0

-- the start of an engine: no field is empty
pub record CloseAsks (t : Tables) (S : List ℕ) (a : Ac4) : Type 0 where
  pub wired : WiredTables t
  pub table : Tripled t
  pub masks : Masks S
  pub full : NoneEmpty (problem t) (all_fields (problem t)) S
  pub blank : Blank a

-- Between two tests: the support sets serve the set, the counts are exact, and so is their copy.
pub record Counted (P : Problem) (a : Ac4) (S : List ℕ) : Type 0 where
  pub supported : Supports P a.support S
  pub counts : Counts P.fields a.support a.counter.counts S
  pub copied : a.copy.counts ≡ a.counter.counts
  pub spent : a.counter.spent ≡ 0
  pub spent-copy : a.copy.spent ≡ 0
  pub places : length a.list.places ≡ list_places

-- a test changes the removal list alone
pub record Kept (before after : Ac4) : Type 0 where
  pub counter : after.counter ≡ before.counter
  pub support : after.support ≡ before.support

-- support is under the rules over two fields alone
pub supports-rules : (P : Problem) (support S : List ℕ) → Supports P support S → Supports (rules_only P) support S
supports-rules P support S s = record { sized = s.sized; sound = s.sound; complete = s.complete }

pub rules-supports : (P : Problem) (support S : List ℕ) → Supports (rules_only P) support S → Supports P support S
rules-supports P support S s = record { sized = s.sized; sound = s.sound; complete = s.complete }

-- D became R, and the list from its front on has each setting that D lost a single time, and nothing else
abbrev pub Lists : List ℕ → List ℕ → List ℕ → List ℕ → Type 0
Lists D L R K = (u : ℕ) × Moved D L 0 R K u

-- a set that an engine works on
pub record LiveAsks (t : Tables) (S : List ℕ) : Type 0 where
  pub wired : WiredTables t
  pub table : Tripled t
  pub masks : Masks S
  pub live : Live (problem t) S

module _ (t : Tables) (S : List ℕ) (a : LiveAsks t S) where
  abbrev P : Problem
  P = problem t

  abbrev n : ℕ
  n = t.network.now.fields

  -- after a shrinking that keeps the set alive
  pub asks-shrunk : {R : List ℕ} {changed : ℕ} → Shrunk S R changed → Live P R → LiveAsks t R
  asks-shrunk {R} s l = record {
    wired = a.wired;
    table = a.table;
    masks = record { long = s.sized ∙ a.masks.long; small = small_⊆ S R s.inside a.masks.small };
    live = l;
  }

  -- a setting of the set is within the tables
  pub place_bound : (f v : ℕ) → has S f v ≡ true → (f < n) × (f < most_fields) × (v < most_settings)
  unfolding problem_of has
  place_bound f v e =
      let l = a.live.on f v e in
      let k = a.wired.few in
      (l, omega arith, bit_bound most_settings (get_or S f 0) v (a.masks.small f) e)

  -- what a passed test left is a set
  pub tested-masks : {W f v : ℕ} {ok : Bool} {R : List ℕ} → Tested P W S f v ok R → ok ≡ true → Masks R
  tested-masks {W} {f} {v} {ok} {R} d e =
      let part = ⊆_trans R (cut S f v) S (rw (d.rest e) (closing-is P W (cut S f v)).inside) (cut_⊆ S f v) in
      record { long = d.sized ∙ a.masks.long; small = small_⊆ S R part a.masks.small }

  -- ---- settings of one field leave the set and enter the list

  module _ (R : List ℕ) (f : ℕ) (sized : length R ≡ length S) (inside : R ⊆ S)
      (same : (g u : ℕ) → (g ≡ f → ⊥) → has R g u ≡ has S g u) where
    off-bit : (u : ℕ) → bit (bit_xor (get_or S f 0) (get_or R f 0)) u ≡ xor (has S f u) (has R f u)
    unfolding has
    off-bit u = bit-xor (get_or S f 0) (get_or R f 0) u

    -- those that R lacks are of S
    pub off-within : Within (bit_xor (get_or S f 0) (get_or R f 0)) (get_or S f 0)
    unfolding has xor
    off-within u e = ⊎_elim (λ q. q)
        (λ q. let r = not_so (has R f u) (λ x. never (inside f u x) q) in absurd (never e (off-bit u ∙ rw (q, r)))) (bool_cases (has S f u))

    pub without-off : without S f (bit_xor (get_or S f 0) (get_or R f 0)) ≡ R
    unfolding xor
    without-off = has_ext _ R (length_without S f _ ∙ sym sized) (λ g u. has-without S f _ g u
        ∙ ⊎_elim (λ (q : g ≡ f). rw (q, eq-eqb f f refl, off-bit u) (part (has S f u) (has R f u) (inside f u)))
        (λ q. rw (ne_eqb g f q, and-true, same g u q)) (eq_cases g f))
      where
        part : (x y : Bool) → (y ≡ true → x ≡ true) → (x && not (xor x y)) ≡ y
        part true true h = refl
        part true false h = refl
        part false true h = h refl
        part false false h = refl

    module _ (c : Ac4) (ct : Counted P c S) (W : ℕ) (fields : Within W (all_fields P))
        (in_W : bit W f ≡ true) (full : NoneEmpty P W R) where
      -- what pruneAC asks then, for the counts or their copy
      pub prune_asks : (C : List ℕ) → C ≡ c.counter.counts → (K : List ℕ) (u : ℕ) → Moved S c.list.places 0 R K u
          → PruneAsks (rules t) W c.support 0 R K u C
      unfolding problem_of rule_problem
      prune_asks C e K u m = record {
        alone = no_triples n t.network.now.joined t.forward.now t.turned.now;
        listed = record {
          whole = S;
          before = c.list.places;
          long = a.masks.long;
          small = a.masks.small;
          places = ct.places;
          room = let c = count_most S a.masks.small in let l = a.masks.long in omega arith;
          moved = m;
          counts = rw e ct.counts;
          fields = λ j b x y. ⊎_elim (λ q. rw q in_W) (λ q. absurd (never (same j b q ∙ x) y)) (eq_cases j f);
        };
        supported = supports-less (rules t) c.support S R inside (supports-rules P c.support S ct.supported);
        positive = λ i j v x y r h. rw e
            (closed_positive P c.support c.counter.counts S ct.supported (all_fields P) ct.counts a.masks.small a.live.shut
            i j v (x.0, fields i x.1) (y.0, fields j y.1) r (inside i v h));
        full = full;
        on = λ g b. all_fields_bound P g (fields g b);
        few = a.wired.few;
      }

    -- the set is still closed under each triple rule that f is not in
    pub closed_else : (W : ℕ) → ClosedElse P W (2 ^ f) R
    closed_else W k l out =
        closed_under-other P (triples_in n t.network.now.joined t.forward.now t.turned.now t.triples.now a.table) S a.live.shut
        W R f inside same k l
        (not_so (has_field (triple_at P k) f) (λ h. never (bit-one f f ∙ eq-eqb f f refl) (out f h)))

  -- the set cut to a setting, and the set without it, differ from it in one field
  pub cut-same : (f v g u : ℕ) → (g ≡ f → ⊥) → has (cut S f v) g u ≡ has S g u
  cut-same f v g u d = iff_eq _ _ (cut_⊆ S f v g u) (λ e. cut_by S f v g u e (λ q. absurd (d q)))

  pub lose-same : (f v g u : ℕ) → (g ≡ f → ⊥) → has (lose S f v) g u ≡ has S g u
  lose-same f v g u d = iff_eq _ _ (lose_⊆ S f v g u) (λ e. lose-by S f v g u e (λ q _. d q))

  pub lose-full : (f v : ℕ) → empty (lose S f v) f ≡ false → NoneEmpty P (all_fields P) (lose S f v)
  lose-full f v z g i =
      ⊎_elim (λ q. rw q z)
      (λ q. let s = empty-not S g (a.live.full g i) in
      not_so (empty (lose S f v) g) (λ y. never (lose-by S f v g s.0 s.1 (λ x _. q x)) (empty-at (lose S f v) g s.0 y)))
      (eq_cases g f)

  lose-shrunk : (f v : ℕ) → has S f v ≡ true → Shrunk S (lose S f v) (2 ^ f)
  unfolding has
  lose-shrunk f v e =
      let l = place_bound f v e in
      rw (lose-set S f v)
      (shrunk-set S f (clear (get_or S f 0) v) (let k = a.masks.long in let i = l.1 in omega arith) (clear_within (get_or S f 0) v)
      (λ q. never e (ap (λ (x : ℕ). bit x v) (sym q) ∙ clear-same (get_or S f 0) v)))

  -- the field has nothing left
  pub removed_empty : (f v : ℕ) → has S f v ≡ true → empty (lose S f v) f ≡ true → Removed P S f v true 0 S
  unfolding problem_of
  removed_empty f v e z = record {
    sized = refl;
    wipes = sym (ap not (not_so (none_empty P (all_fields P) (closing P (all_fields P) (lose S f v))) (λ n.
        never (empty-by (closing P (all_fields P) (lose S f v)) f
        (λ u i. never ((closing-is P (all_fields P) (lose S f v)).inside f u i) (empty-at (lose S f v) f u z)))
        (none_empty-at P (all_fields P) (closing P (all_fields P) (lose S f v)) n f (in_all_fields P f (a.live.on f v e))))));
    made = λ q. absurd (true≢false q);
    shrunk = λ q. absurd (true≢false q);
    marks = λ q. absurd (true≢false q);
  }

  pub removed_closed : (f v : ℕ) → has S f v ≡ true → (wiped : Bool) (changed : ℕ) (R : List ℕ)
      → Closes P (all_fields P) (lose S f v) wiped changed R
      → Removed P S f v wiped (bit_or (2 ^ f) changed) R
  unfolding problem_of
  removed_closed f v e wiped changed R c = record {
    sized = c.sized ∙ length-lose S f v;
    wipes = c.wipes;
    made = c.made;
    shrunk = λ q. shrunk-then (lose-shrunk f v e) (c.shrunk q);
    marks = λ q. or-within (2 ^ f) changed (all_fields P) (one-within (all_fields P) f (in_all_fields P f (a.live.on f v e)).1)
        (c.marks q);
  }
