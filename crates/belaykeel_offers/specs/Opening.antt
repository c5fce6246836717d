-- What the program asks of the library: the sheet opened by engine 1, the fields in rising order and every field selected. Assumes nothing.
use Rattle.std.specs.Prelude.{◌≡◌, refl, Bool, true, false, ◌||◌, List, [], ◌∷◌, ℕ, ◌≤◌, length, take, Result, Ok, Err, IfOk}
use Rattle.std.proofs.Common.{sym, ◌∙◌, arith, ne_eqb, le-ltb}
use Rattle.std.proofs.Math.Path.{ap}
use Rattle.masks.specs.Masks.{mask_of}
use Rattle.masks.specs.Pick.{pick, pick-false}
use Rattle.limits.specs.Limits.{most_numbers, offers_words, rows_words, memory_words}
use Rattle.limits.specs.Refusals.{number_of}
use Rattle.limits.specs.declared.refusals.Refusal.{Refusal}
use Rattle.sheet.specs.Sources.{Accepted, Gives, refusal, numbers, of_bytes, reading, answer_of}
use Rattle.sheet.specs.Progress.{number-some}
use Rattle.accepted.specs.Parts.{fields_of}
use Rattle.accepted.specs.Reads.{read-refused, read-front, read-ends, front-accepted}
use Rattle.ledger.specs.declared.Call.{Call}
use Rattle.ledger.specs.declared.Call.TheVariants.{Open}
use Rattle.ledger.specs.Ledger.{Given, number, space_short}
use Rattle.ledger.proofs.Judging.{number-sheet}
use Rattle.session.specs.declared.Session.{Session}
use Rattle.session.specs.View.{view}
use Rattle.session.specs.Steps.{fresh_session}
use Rattle.answering.specs.Answer.{Spaces, CallResult, result, Answers}

abbrev pub rising : List ℕ
rising = 0 ∷ 1 ∷ 2 ∷ 3 ∷ 4 ∷ 5 ∷ 6 ∷ 7 ∷ 8 ∷ 9 ∷ 10 ∷ 11 ∷ 12 ∷ 13 ∷ 14 ∷ 15 ∷ 16 ∷ 17 ∷ 18 ∷ 19 ∷ 20 ∷ 21 ∷ 22 ∷ 23 ∷ []

-- what open is given beside the session: a sheet, its n fields in rising order, and an offers list of so many words
abbrev pub given_to : (sheet : List ℕ) (n words : ℕ) → Given
given_to sheet n words =
    record { sheet = sheet; engine = 1; order = take n rising; offers = words; rows = rows_words; memory = memory_words }

-- open with all n fields selected
abbrev pub open_all : ℕ → Call
open_all n = Open (mask_of n (λ f. true))

-- What open answers, over the offers list `before`.
abbrev pub opening : (sheet : List ℕ) (n : ℕ) (before : List ℕ) → CallResult
opening sheet n before = result (given_to sheet n (length before)) (open_all n) fresh_session before

-- The call's promise in these words.
pub opening-is : (sheet : List ℕ) (n selected : ℕ) (lent : Spaces) (s : Session) (k : ℕ) (s' : Session) (left : Spaces)
    → selected ≡ mask_of n (λ f. true) → s ≡ fresh_session → length lent.rows ≡ rows_words → length lent.memory ≡ memory_words
    → Answers (Open selected) s sheet 1 (take n rising) lent k s' left
    → (k ≡ (opening sheet n lent.offers).number) × (left.offers ≡ (opening sheet n lent.offers).offers)
opening-is sheet n selected lent s k s' left a e r m w = (ap (λ (a : CallResult). a.number) same, ap (λ (a : CallResult). a.offers) same)
  where
    same : record { number = k; session = s'; offers = left.offers } ≡ opening sheet n lent.offers
    same = rw (r, m, e, a) at w.answers

-- a sheet that is refused by 1 to 5
pub opening-refused : (sheet : List ℕ) (n : ℕ) (before : List ℕ) → offers_words ≤ length before → (refusal (of_bytes sheet) ≡ 0 → ⊥)
    → opening sheet n before ≡ record { number = refusal (of_bytes sheet); session = fresh_session; offers = before }
unfolding result
opening-refused sheet n before l e = rw (sym number_is) (pick-false _ _ _ (ne_eqb _ 0 e))
  where
    roomy : space_short (given_to sheet n (length before)) ≡ false
    roomy = unfold space_short in ap (λ (b : Bool). b || false) (le-ltb (length before) offers_words l)

    number_is : refusal (of_bytes sheet) ≡ number (given_to sheet n (length before)) (open_all n) (view fresh_session)
    number_is = number-sheet (given_to sheet n (length before)) (open_all n) (view fresh_session) roomy (refusal (of_bytes sheet)) e refl

-- the list of the numbers of a sheet
abbrev pub list_of : List ℕ → List ℕ
list_of sheet = numbers (of_bytes sheet)

-- The sheet read, then opened: open's number and offers, and, where it is accepted, the sheet's numbers at the front of a list.
pub record Opened (sheet before : List ℕ) (r : Result ℕ Refusal) (front after : List ℕ) : Type 0 where
  pub number : number_of r ≡ (opening sheet (fields_of (list_of sheet)) before).number
  pub offers : after ≡ (opening sheet (fields_of (list_of sheet)) before).offers
  pub numbers : IfOk r (λ count. take count front ≡ list_of sheet)
  pub accepted : IfOk r (λ count. Accepted (take count front))
  pub ends : IfOk r (λ count. count ≤ length front)

module _ (sheet list : List ℕ) (room : most_numbers ≤ length list) (front : List ℕ) where
  -- where the sheet is refused by 1 to 5, open's number is the same
  pub opened-refused : (r : Refusal) → Gives (reading sheet list) (answer_of (Err r)) front →
      (before : List ℕ) → offers_words ≤ length before
      → Opened sheet before (Err r) front before
  opened-refused r g before l = record {
    number = (read-refused sheet list room (answer_of (Err r)) front g some).0 ∙ sym (ap (λ (a : CallResult). a.number) same);
    offers = sym (ap (λ (a : CallResult). a.offers) same);
    numbers = tt;
    accepted = tt;
    ends = tt;
  }
    where
      some : (answer_of (Err r)).number ≡ 0 → ⊥
      some z = omega (arith, z, number-some r)

      same : opening sheet (fields_of (list_of sheet)) before
          ≡ record { number = refusal (of_bytes sheet); session = fresh_session; offers = before }
      same = opening-refused sheet (fields_of (list_of sheet)) before l
          (λ z. some ((read-refused sheet list room (answer_of (Err r)) front g some).0 ∙ z))

  -- the sheet is read
  module _ (count : ℕ) (g : Gives (reading sheet list) (answer_of (Ok count)) front) where
    pub opened-front : take count front ≡ list_of sheet
    unfolding pick
    opened-front = read-front sheet list room (answer_of (Ok count)) front g refl

    pub opened-accepted : Accepted (take count front)
    unfolding pick
    opened-accepted = front-accepted sheet list room (answer_of (Ok count)) front g refl

    pub opened-ends : count ≤ length front
    unfolding pick
    opened-ends = read-ends sheet list room (answer_of (Ok count)) front g refl
