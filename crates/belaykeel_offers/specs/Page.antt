-- What the program prints for a sheet: the text of what open answers. Assumes nothing.
use Rattle.std.specs.Prelude.{◌≡◌, refl, List, [], ℕ, ◌≤◌, length, take, replicate, Ok, Err}
use Rattle.std.proofs.Common.{sym, ap, ◌∙◌, arith, take_at}
use Rattle.std.proofs.lemmas.List.Edits.{sets}
use Rattle.limits.specs.Limits.{offers_words}
use Rattle.limits.specs.Refusals.{number}
use Rattle.limits.specs.declared.refusals.Refusal.{Refusal}
use Rattle.groups.specs.Storing.{sets_front}
use Rattle.sheet.specs.Progress.{number-some}
use Rattle.accepted.specs.Parts.{fields_of}
use Rattle.answering.specs.Answer.{CallResult}
use Rattle.printing.specs.Text.{text, refused_line}
use Rattle.printing.specs.Lengths.{text-refused}
use Rattle.belaykeel_offers.specs.Opening.{opening, Opened, list_of}

-- the offers list that open is lent
abbrev pub no_offers : List ℕ
no_offers = replicate offers_words 0

-- what open answers, by engine 1 and the fields in rising order
abbrev pub answer_to : List ℕ → CallResult
answer_to sheet = opening sheet (fields_of (list_of sheet)) no_offers

-- The page of a sheet.
unfoldable pub page_of : List ℕ → List ℕ
page_of sheet = text (list_of sheet) (answer_to sheet).number (answer_to sheet).offers

page-text : (sheet : List ℕ) → page_of sheet ≡ text (list_of sheet) (answer_to sheet).number (answer_to sheet).offers
unfolding page_of
page-text sheet = refl

pub page-refused : (sheet : List ℕ) → ((answer_to sheet).number ≡ 0 → ⊥) → page_of sheet ≡ refused_line (answer_to sheet).number
page-refused sheet n = page-text sheet ∙ text-refused (list_of sheet) (answer_to sheet).number (answer_to sheet).offers n

-- ---- what the program writes is the page

module _ (sheet front after : List ℕ) where
  -- of a sheet that is opened
  pub page-opened : (count : ℕ) → Opened sheet no_offers (Ok count) front after → text (take count front) 0 after ≡ page_of sheet
  page-opened count g =
      rw (g.numbers, g.offers)
      (ap (λ (k : ℕ). text (list_of sheet) k (answer_to sheet).offers) g.number ∙ sym (page-text sheet))

  -- of one that is refused
  pub page-by : (r : Refusal) → Opened sheet no_offers (Err r) front after → text [] (number r) after ≡ page_of sheet
  page-by r g = text-refused [] (number r) after some ∙ ap refused_line g.number ∙ sym (page-refused sheet (λ z. some (g.number ∙ z)))
    where
      some : number r ≡ 0 → ⊥
      some z = omega (arith, z, number-some r)

-- bytes written over the front are in front
pub front-is : (out all after : List ℕ) (r : ℕ) → r ≡ length all → after ≡ sets out 0 all → r ≤ length out → take r after ≡ all
front-is out all after r e w h = rw (w, sets_front out all (omega (arith, e))) (take_at all _ r (sym e))
