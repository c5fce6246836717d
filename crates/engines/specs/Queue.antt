-- Engine 3, the queue method: a selected field that is not on the queue passes. Assumes nothing.
use Rattle.std.specs.Prelude.{◌≡◌, refl, ◌⊎◌, Bool, true, false, List, ℕ, ◌+◌, ◌*◌, ◌^◌, ◌≤◌, ◌<◌, length, get_or}
use Rattle.std.proofs.Common.{sym, ap, ◌∙◌, inl, inr, ⊎_elim, true≢false, eq-or-lt_of_le, lt_of_le_of_lt, arith}
use Rattle.std.specs.Int.Bits.{bit_or}
use Rattle.limits.specs.Limits.{most_fields}
use Rattle.masks.specs.Tests.{never, not_so, eq_cases}
use Rattle.masks.specs.Bits.{bit, Within}
use Rattle.masks.proofs.Bits.{bit-some, within-le}
use Rattle.masks.specs.Words.{clear}
use Rattle.masks.proofs.Words.{clear_within, clear-same, clear-other}
use Rattle.masks.specs.Sets.{count}
use Rattle.consistency.specs.Problem.{Problem, In, all_fields, all_fields_bound}
use Rattle.pruning.specs.Shrunk.{zero_or, shrunk-still, shrunk_fewer}
use Rattle.closing.specs.Frame.{Live, passes_same}
use Rattle.visiting.specs.Visit.{Visited}
use Rattle.engines.specs.Engine.{IsOrder, Hoods, Kept, kept-start, kept_then, kept-wiped, Wiped, visit-kept, visit-wiped, FieldPasses}
use Rattle.engines.specs.PutBack.{put_back, BackAsks, back-asks, back_none, back-keeps, back-small, back-adds}

-- ---- one round: the fields on the queue are visited in the lent order

module _ (P : Problem) (order hood : List ℕ) (selected : ℕ) where
  -- the settings of the selected fields that are not on the queue pass
  abbrev pub Off : List ℕ → ℕ → Type 0
  Off S queue = (f : ℕ) → In P selected f → bit queue f ≡ false → FieldPasses P hood S f

  module _ (S0 : List ℕ) (queue0 : ℕ) where
    pub record Waiting (p queue touched : ℕ) (S : List ℕ) : Type 0 where
      pub kept : Kept P hood selected S0 touched S
      pub small : Within queue selected
      pub gone : touched ≡ 0 → (q : ℕ) → q < p → bit queue (get_or order q 0) ≡ false
      pub off : Off S0 queue0 → Off S queue

    -- What a round leaves: the same offers, and the queue is empty or the set smaller. Or else the set is wiped out.
    pub record Rounded (wiped : Bool) (queue : ℕ) (S : List ℕ) : Type 0 where
      pub sized : length S ≡ length S0
      pub kept : wiped ≡ false → (touched : ℕ) × Kept P hood selected S0 touched S
      pub small : wiped ≡ false → Within queue selected
      pub ends : wiped ≡ false → (count S < count S0) ⊎ ((S ≡ S0) × (queue ≡ 0))
      pub off : wiped ≡ false → Off S0 queue0 → Off S queue
      pub none : wiped ≡ true → Wiped P hood selected S0

    pub waiting_start : Live P S0 → Within queue0 selected → Waiting 0 queue0 0 S0
    waiting_start l w = record { kept = kept-start P hood selected S0 l; small = w; gone = λ z q i. absurd (omega arith); off = λ o. o }

    pub waiting_end : (p queue touched : ℕ) (S : List ℕ) → Within selected (all_fields P) → IsOrder P.fields order → P.fields ≤ p
        → Waiting p queue touched S → Rounded false queue S
    waiting_end p queue touched S fields o h w =
        record {
          sized = w.kept.shrunk.sized;
          kept = λ _. (touched, w.kept);
          small = λ _. w.small;
          ends = λ _. ⊎_elim (λ z. inr (shrunk-still w.kept.shrunk z, none z)) (λ z. inl (shrunk_fewer w.kept.shrunk z))
              (eq_cases touched 0);
          off = λ _. w.off;
          none = λ e. absurd (true≢false (sym e));
        }
      where
        none : touched ≡ 0 → queue ≡ 0
        none z = ⊎_elim (λ q. q) (λ q.
            let b = bit-some queue q in
            let x = o.every b.0 (all_fields_bound P b.0 (fields b.0 (w.small b.0 b.1))) in
            absurd (never b.1 (ap (bit queue) (sym x.2) ∙ w.gone z x.0 (let i = x.1 in omega arith)))) (eq_cases queue 0)

    module _ (p queue touched : ℕ) (S : List ℕ) (w : Waiting p queue touched S) where
      abbrev f : ℕ
      f = get_or order p 0

      -- a field that is not on the queue is passed over
      pub waiting_skip : bit queue (get_or order p 0) ≡ false → Waiting (p + 1) queue touched S
      waiting_skip e = record {
        kept = w.kept;
        small = w.small;
        gone = λ z q i. ⊎_elim (λ j. ap (λ (x : ℕ). bit queue (get_or order x 0)) j ∙ e) (λ j. w.gone z q j)
            (eq-or-lt_of_le (let k : q ≤ p = omega arith in k));
        off = w.off;
      }

      module _ (l : In P selected (get_or order p 0)) (wiped : Bool) (changed : ℕ) (R : List ℕ)
          (v : Visited P (get_or hood (get_or order p 0) 0) (get_or order p 0) S wiped changed R) where
        pub waiting_none : wiped ≡ true → (any : ℕ) → Rounded true any R
        waiting_none e any = record {
          sized = v.sized ∙ w.kept.shrunk.sized;
          kept = λ q. absurd (true≢false q);
          small = λ q. absurd (true≢false q);
          ends = λ q. absurd (true≢false q);
          off = λ q. absurd (true≢false q);
          none = λ _. kept-wiped P hood selected w.kept (visit-wiped P hood selected f l S wiped changed R v e);
        }

        pub waiting_turn : wiped ≡ false → P.fields ≤ most_fields → Within selected (all_fields P) → Hoods P hood → (reach r : ℕ)
            → r ≡ put_back P.fields reach hood selected (clear queue (get_or order p 0)) changed
            → Waiting (p + 1) r (bit_or touched changed) R
        waiting_turn e few fields hs reach r b =
            record {
              kept = kept_then P hood selected w.kept (visit-kept P hood selected f l S wiped changed R v e);
              small = rw b (back-small P.fields reach hood selected (clear queue f) changed asks);
              gone = gone;
              off = λ o g i n. ⊎_elim (λ q. rw q (own (rw q at n))) (λ q. other g i n q (w.off o g i (was_off g n q))) (eq_cases g f);
            }
          where
            asks : BackAsks P.fields hood selected (clear queue f) changed
            asks =
                back-asks P hood few hs selected (clear queue f) changed fields (λ g c. w.small g (clear_within queue f g c)) (v.marks e)

            keeps : Within (clear queue f) r
            keeps = rw b (back-keeps P.fields reach hood selected (clear queue f) changed asks)

            adds : (h g : ℕ) → bit changed h ≡ true → bit (get_or hood h 0) g ≡ true → (g ≡ h → ⊥) → bit selected g ≡ true → bit r g ≡ true
            adds = rw b (back-adds P.fields reach hood selected (clear queue f) changed asks)

            gone : bit_or touched changed ≡ 0 → (q : ℕ) → q < p + 1 → bit r (get_or order q 0) ≡ false
            gone z q i =
                let y = zero_or touched changed z in
                ap (λ (x : ℕ). bit x (get_or order q 0)) (b ∙ back_none P.fields reach hood selected (clear queue f) changed y.1)
                ∙ ⊎_elim (λ j. rw j (clear-same queue f))
                (λ j. not_so _ (λ c. never (clear_within queue f (get_or order q 0) c) (w.gone y.0 q j)))
                (eq-or-lt_of_le (let k : q ≤ p = omega arith in k))

            was_off : (g : ℕ) → bit r g ≡ false → (g ≡ f → ⊥) → bit queue g ≡ false
            was_off g n d = not_so (bit queue g) (λ c. never (keeps g (clear-other queue f g d ∙ c)) n)

            -- a field i of the neighbourhood of a selected field g, other than g, did not change where g is off the queue
            unchanged : (g : ℕ) → In P selected g → bit r g ≡ false → (i : ℕ) → bit (get_or hood g 0) i ≡ true → bit changed i ≡ true
                → (g ≡ i → ⊥) → ⊥
            unchanged g k n i y c d = never (adds i g c (hs.back g i k.0 (all_fields_bound P i (v.marks e i c)) y) d k.1) n

            own : bit r f ≡ false → FieldPasses P hood R f
            own n = v.passed e (λ i c y. ⊎_elim (λ q. q) (λ q. absurd (unchanged f l n i y c (λ z. q (sym z)))) (eq_cases i f))

            other : (g : ℕ) → In P selected g → bit r g ≡ false → (g ≡ f → ⊥) → FieldPasses P hood S g → FieldPasses P hood R g
            other g k n d o u h =
                passes_same P (get_or hood g 0) S R g u h
                (λ i j q. (v.shrunk e).same i (not_so (bit changed i) (λ c. unchanged g k n i j c (λ z. q (sym z)))))
                (o u ((v.shrunk e).inside g u h))

  -- ---- the rounds; M is the set after the start, when every selected field is on the queue

  pub record Turning (M : List ℕ) (queue : ℕ) (S : List ℕ) : Type 0 where
    pub kept : (touched : ℕ) × Kept P hood selected M touched S
    pub small : Within queue selected
    pub off : Off S queue

  pub turning_start : (M : List ℕ) → Live P M → Turning M selected M
  turning_start M l =
      record { kept = (0, kept-start P hood selected M l); small = λ v e. e; off = λ f i n. absurd (never i.1 n) }

  module _ (M S R : List ℕ) (queue next : ℕ) (t : Turning M queue S) (r : Rounded S queue false next R) where
    pub turning_turn : Turning M next R
    turning_turn = record {
      kept = (_, kept_then P hood selected t.kept.1 (r.kept refl).1);
      small = r.small refl;
      off = r.off refl t.off;
    }

    pub turning_less : selected < 2 ^ most_fields → (queue ≡ 0 → ⊥) → count R * 2 ^ most_fields + next < count S * 2 ^ most_fields + queue
    turning_less a d =
        let b = lt_of_le_of_lt (within-le next selected (r.small refl)) a in
        ⊎_elim (λ q. omega arith) (λ q. let e = ap count q.0 in let z = q.1 in omega arith) (r.ends refl)
