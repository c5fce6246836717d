-- What a session shows: the ledger that it stands for. Assumes nothing.
use Rattle.std.specs.Prelude.{◌≡◌, Bool, ◌||◌, eqb, length, get_or, set}
use Rattle.std.proofs.Math.Path.{refl, ap}
use Rattle.std.proofs.Common.{sym, ◌∙◌, le_refl, arith, get_or-set_same, get_or-set_other}
use Rattle.std.proofs.Math.Logic.{⊎_elim}
use Rattle.std.proofs.Math.Bool.{true, false}
use mathlib.Core.List.{List, [], ◌∷◌, ◌++◌}
use Prim.Native.Nat.{ℕ, zero, suc, ◌-◌, ◌/◌, ◌%◌, ◌≤◌, ◌<◌}
use Rattle.std.proofs.Math.Arith.{half_le}
use Rattle.limits.specs.Limits.{most_events}
use Rattle.masks.specs.Tests.{never, iff_eq, or_l, or_r, or_at}
use Rattle.masks.specs.Bits.{bit, bit-zero, bit-suc}
use Rattle.masks.proofs.Bits.{bit_of-zero}
use Rattle.masks.specs.Sets.{has}
use Rattle.masks.specs.Pick.{pick}
use Rattle.ledger.specs.declared.Decision.{Decision}
use Rattle.ledger.specs.declared.Decision.TheVariants.{Choice, Strike}
use Rattle.ledger.specs.declared.Event.{Event}
use Rattle.ledger.specs.Ledger.{Ledger, same_decision, in_force}
use Rattle.ledger.proofs.Laws.{decision-at, decision-self}
use Rattle.session.specs.declared.Session.{Session}
use Rattle.session.specs.declared.decisions.Decisions.{Decisions}
use Rattle.session.specs.Decisions.{held_in, Long}

-- a decision for each position of a mask. The first number is how many digits are still to be looked at, for which m itself serves.
unfoldable pub list_in : (ℕ → Decision) → ℕ → ℕ → List Decision
list_in make zero m = []
list_in make (suc n) zero = []
list_in make (suc n) (suc a) =
    pick (eqb (suc a % 2) 1) (make 0 ∷ list_in (λ v. make (suc v)) n (suc a / 2)) (list_in (λ v. make (suc v)) n (suc a / 2))

-- a decision for each position of each mask
unfoldable pub listed : (ℕ → ℕ → Decision) → List ℕ → List Decision
listed make [] = []
listed make (m ∷ ms) = list_in (make 0) m m ++ listed (λ f. make (suc f)) ms

unfoldable pub decisions_of : Decisions → List Decision
decisions_of d = listed Choice d.choices ++ listed Strike d.strikes

-- what the place of an event past the end would hold
abbrev pub no_event : Event
no_event = record { kind = 0; field = 0; position = 0 }

-- the first k events, the latest first
unfoldable pub past : List Event → ℕ → List Event
past es zero = []
past es (suc k) = get_or es k no_event ∷ past es k

-- The ledger that a session shows.
unfoldable pub view : Session → Ledger
view s = record { decisions = decisions_of s.decisions; events = past s.events s.count; selected = s.selected }

-- a session with other decisions, with other events, and with another mask of selected fields
abbrev pub with_decisions : Decisions → Session → Session
with_decisions d s = record { decisions = d; events = s.events; count = s.count; selected = s.selected }

abbrev pub with_events : List Event → ℕ → Session → Session
with_events es count s = record { decisions = s.decisions; events = es; count = count; selected = s.selected }

abbrev pub with_selected : ℕ → Session → Session
with_selected selected s = record { decisions = s.decisions; events = s.events; count = s.count; selected = selected }

-- The arrays of a session have their lengths. Every session in memory is so; a record of lists need not be.
pub record Sized (s : Session) : Type 0 where
  pub decisions : Long s.decisions
  pub events : length s.events ≡ most_events

-- ---- the past events

pub length-past : (es : List Event) (k : ℕ) → length (past es k) ≡ k
unfolding past
length-past es zero = refl
length-past es (suc k) = ap suc (length-past es k)

pub events-counted : (s : Session) (k : ℕ) → eqb (length (view s).events) k ≡ eqb s.count k
unfolding view
events-counted s k = ap (λ (n : ℕ). eqb n k) (length-past s.events s.count)

-- the latest of them
pub past-latest : (es : List Event) (k : ℕ) → 0 < k → past es k ≡ get_or es (k - 1) no_event ∷ past es (k - 1)
past-latest es zero h = absurd (omega arith)
past-latest es (suc k) h = let q : suc k - 1 ≡ k = omega arith in rw q (unfold past in refl)

-- a place at or past k is not among them
pub past-set : (es : List Event) (k i : ℕ) (e : Event) → k ≤ i → past (set es i e) k ≡ past es k
unfolding past
past-set es zero i e h = refl
past-set es (suc k) i e h = ap (λ (x : Event). x ∷ past (set es i e) k) (get_or-set_other es i k e no_event (λ z. omega arith))
    ∙ ap (λ (l : List Event). get_or es k no_event ∷ l) (past-set es k i e (omega arith))

-- one event more
pub past-push : (es : List Event) (k : ℕ) (e : Event) → k < length es → past (set es k e) (suc k) ≡ e ∷ past es k
past-push es k e h =
    let n : past (set es k e) (suc k) ≡ get_or (set es k e) k no_event ∷ past (set es k e) k = unfold past in refl in
    n ∙ ap (λ (x : Event). x ∷ past (set es k e) k) (get_or-set_same es k e no_event h)
    ∙ ap (λ (l : List Event). e ∷ l) (past-set es k k e (omega arith))

-- ---- which decisions are listed

in_force_++ : (ds es : List Decision) (d : Decision) → in_force (ds ++ es) d ≡ (in_force ds d || in_force es d)
unfolding in_force
in_force_++ [] es d = refl
in_force_++ (e ∷ ds) es d =
    ap (λ (b : Bool). same_decision e d || b) (in_force_++ ds es d) ∙ or_assoc (same_decision e d) (in_force ds d) (in_force es d)
  where
    or_assoc : (a b c : Bool) → (a || (b || c)) ≡ ((a || b) || c)
    or_assoc true b c = refl
    or_assoc false b c = refl

list_in-at : (make : ℕ → Decision) (n m : ℕ) (d : Decision) → in_force (list_in make n m) d ≡ true
    → (v : ℕ) × (bit m v ≡ true) × (same_decision (make v) d ≡ true)
unfolding list_in in_force
list_in-at make zero m d h = absurd (never h refl)
list_in-at make (suc n) zero d h = absurd (never h refl)
list_in-at make (suc n) (suc a) d h = go (eqb (suc a % 2) 1) refl (list_in-at (λ v. make (suc v)) n (suc a / 2) d) h
  where
    go : (t : Bool) → eqb (suc a % 2) 1 ≡ t
        → (in_force (list_in (λ v. make (suc v)) n (suc a / 2)) d ≡ true
        → (v : ℕ) × (bit (suc a / 2) v ≡ true) × (same_decision (make (suc v)) d ≡ true))
        → in_force (pick t (make 0 ∷ list_in (λ v. make (suc v)) n (suc a / 2)) (list_in (λ v. make (suc v)) n (suc a / 2))) d ≡ true
        → (v : ℕ) × (bit (suc a) v ≡ true) × (same_decision (make v) d ≡ true)
    go true e ih h = unfold pick in ⊎_elim
        (λ q. (0, bit-zero (suc a) ∙ e, q))
        (λ q. let x = ih q in (suc x.0, bit-suc (suc a) x.0 ∙ x.1, x.2))
        (or_at (same_decision (make 0) d) (in_force (list_in (λ v. make (suc v)) n (suc a / 2)) d) h)
    go false e ih h = unfold pick in (let x = ih h in (suc x.0, bit-suc (suc a) x.0 ∙ x.1, x.2))

list_in-by : (make : ℕ → Decision) (n m : ℕ) (d : Decision) → m ≤ n → (v : ℕ) → bit m v ≡ true → same_decision (make v) d ≡ true
    → in_force (list_in make n m) d ≡ true
unfolding list_in in_force
list_in-by make zero m d l v b q = absurd (never b (ap (λ (x : ℕ). bit x v) (let z : m ≡ 0 = omega arith in z) ∙ bit_of-zero v))
list_in-by make (suc n) zero d l v b q = absurd (never b (bit_of-zero v))
list_in-by make (suc n) (suc a) d l v b q = go (eqb (suc a % 2) 1) refl v b q (list_in-by (λ v. make (suc v)) n (suc a / 2) d (half_le l))
  where
    go : (t : Bool) → eqb (suc a % 2) 1 ≡ t → (v : ℕ) → bit (suc a) v ≡ true → same_decision (make v) d ≡ true
        → ((v : ℕ) → bit (suc a / 2) v ≡ true → same_decision (make (suc v)) d ≡ true
        → in_force (list_in (λ v. make (suc v)) n (suc a / 2)) d ≡ true)
        → in_force (pick t (make 0 ∷ list_in (λ v. make (suc v)) n (suc a / 2)) (list_in (λ v. make (suc v)) n (suc a / 2))) d ≡ true
    go true e zero b q ih = unfold pick in or_l _ _ q
    go true e (suc v) b q ih = unfold pick in or_r (same_decision (make 0) d) _ (ih v (sym (bit-suc (suc a) v) ∙ b) q)
    go false e zero b q ih = absurd (never b (bit-zero (suc a) ∙ e))
    go false e (suc v) b q ih = unfold pick in ih v (sym (bit-suc (suc a) v) ∙ b) q

listed_at : (make : ℕ → ℕ → Decision) (ms : List ℕ) (d : Decision) → in_force (listed make ms) d ≡ true
    → (f : ℕ) × (v : ℕ) × (has ms f v ≡ true) × (same_decision (make f v) d ≡ true)
unfolding listed in_force has
listed_at make [] d h = absurd (never h refl)
listed_at make (m ∷ ms) d h = ⊎_elim
    (λ q. let x = list_in-at (make 0) m m d q in (0, x.0, x.1, x.2))
    (λ q. let x = listed_at (λ f. make (suc f)) ms d q in (suc x.0, x.1, x.2, x.3))
    (or_at (in_force (list_in (make 0) m m) d) _ (sym (in_force_++ (list_in (make 0) m m) (listed (λ f. make (suc f)) ms) d) ∙ h))

listed_by : (make : ℕ → ℕ → Decision) (ms : List ℕ) (d : Decision) (f v : ℕ) → has ms f v ≡ true
    → same_decision (make f v) d ≡ true → in_force (listed make ms) d ≡ true
unfolding listed has
listed_by make [] d f v b q = absurd (never b (bit_of-zero v))
listed_by make (m ∷ ms) d zero v b q = in_force_++ (list_in (make 0) m m) _ d ∙ or_l _ _ (list_in-by (make 0) m m d (le_refl m) v b q)
listed_by make (m ∷ ms) d (suc f) v b q =
    in_force_++ (list_in (make 0) m m) _ d
    ∙ or_r (in_force (list_in (make 0) m m) d) _ (listed_by (λ f. make (suc f)) ms d f v b q)

-- The decisions that masks list are those in force.
pub in_force_of : (d : Decisions) (e : Decision) → in_force (decisions_of d) e ≡ held_in d e
unfolding decisions_of
in_force_of d e = iff_eq _ _
    (λ h. ⊎_elim
    (λ q. let x = listed_at Choice d.choices e q in ap (held_in d) (sym (decision-at (Choice x.0 x.1) e x.3)) ∙ x.2)
    (λ q. let x = listed_at Strike d.strikes e q in ap (held_in d) (sym (decision-at (Strike x.0 x.1) e x.3)) ∙ x.2)
    (or_at (in_force (listed Choice d.choices) e) _ (sym (in_force_++ (listed Choice d.choices) (listed Strike d.strikes) e) ∙ h)))
    (λ h. in_force_++ (listed Choice d.choices) (listed Strike d.strikes) e ∙ back e h)
  where
    back : (e : Decision) → held_in d e ≡ true → (in_force (listed Choice d.choices) e || in_force (listed Strike d.strikes) e) ≡ true
    back (Choice f v) h = or_l _ _ (listed_by Choice d.choices (Choice f v) f v h (decision-self (Choice f v)))
    back (Strike f v) h = or_r (in_force (listed Choice d.choices) (Strike f v)) _
        (listed_by Strike d.strikes (Strike f v) f v h (decision-self (Strike f v)))
