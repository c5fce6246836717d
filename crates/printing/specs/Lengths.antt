-- The parts of the text one after the other, and their lengths: a text has at most `text_bytes` bytes. Assumes nothing.
use Rattle.std.specs.Prelude.{◌≡◌, Bool, true, false, ℕ, zero, suc, ◌+◌, ◌*◌, ◌^◌, ◌≤◌, ◌<◌, eqb, length, get_or}
use Rattle.std.proofs.Math.Path.{refl, ap}
use Rattle.std.proofs.Common.{sym, ◌∙◌, add-one, arith, length-append, eqb-true, eq-eqb, ne_eqb}
use mathlib.Core.List.{List, [], ◌∷◌, ◌++◌, append_assoc, append-nil}
use Rattle.std.proofs.lemmas.Bool.{eqb-false}
use Rattle.limits.specs.Limits.{text_bytes}
use Rattle.masks.specs.Bits.{bit}
use Rattle.masks.specs.Pick.{pick_true, pick-false}
use Rattle.sheet.specs.Sources.{Accepted}
use Rattle.accepted.specs.Parts.{Field, fields_of, count_of, setting_of}
use Rattle.accepted.specs.Facts.{facts}
use Rattle.printing.specs.Text.{decimal, offer, offered, blank_each, line, lines, refused_word, refused_line, text}
use Rattle.printing.specs.Rooms.{offer_room, offers_room, line_room}
use Rattle.printing.specs.Decimal.{decimal-length, decimal-word}

-- ---- the parts one after the other

pub blanks_none : blank_each [] ≡ []
unfolding blank_each
blanks_none = refl

blanks_then : (a b : List ℕ) → blank_each (a ++ b) ≡ blank_each a ++ blank_each b
unfolding blank_each
blanks_then [] b = refl
blanks_then (s ∷ a) b =
    ap (λ (l : List ℕ). 32 ∷ decimal s ++ l) (blanks_then a b) ∙ sym (append_assoc (32 ∷ decimal s) (blank_each a) (blank_each b))

module _ (xs : List ℕ) (f mask : ℕ) where
  pub offers-none : blank_each (offered xs f mask 0) ≡ []
  unfolding offered
  offers-none = blanks_none

  pub offers-next : (v : ℕ) → blank_each (offered xs f mask (v + 1)) ≡ blank_each (offered xs f mask v) ++ blank_each (offer xs f mask v)
  unfolding offered
  offers-next v = rw (add-one v) (blanks_then (offered xs f mask v) (offer xs f mask v))

  pub offer_in : (v : ℕ) → bit mask v ≡ true → blank_each (offer xs f mask v) ≡ 32 ∷ decimal (setting_of xs f v)
  unfolding blank_each
  offer_in v e = ap blank_each (pick_true _ _ _ e) ∙ append-nil (32 ∷ decimal (setting_of xs f v))

  pub offer-out : (v : ℕ) → bit mask v ≡ false → blank_each (offer xs f mask v) ≡ []
  offer-out v e = ap blank_each (pick-false _ _ _ e) ∙ blanks_none

  pub line-is : line xs f mask ≡ decimal f ++ 58 ∷ [] ++ blank_each (offered xs f mask (count_of xs f)) ++ 10 ∷ []
  unfolding line
  line-is = refl

module _ (xs offers : List ℕ) where
  pub lines_none : lines xs offers 0 ≡ []
  unfolding lines
  lines_none = refl

  pub lines_next : (f : ℕ) → lines xs offers (f + 1) ≡ lines xs offers f ++ line xs f (get_or offers f 0)
  unfolding lines
  lines_next f = rw (add-one f)

pub refused-is : (number : ℕ) → refused_line number ≡ refused_word ++ decimal number ++ 10 ∷ []
unfolding refused_line
refused-is number = refl

module _ (xs : List ℕ) (number : ℕ) (offers : List ℕ) where
  pub text-accepted : number ≡ 0 → text xs number offers ≡ lines xs offers (fields_of xs)
  unfolding text
  text-accepted z = pick_true _ _ _ (eq-eqb number 0 z)

  pub text-refused : (number ≡ 0 → ⊥) → text xs number offers ≡ refused_line number
  unfolding text
  text-refused n = pick-false _ _ _ (ne_eqb number 0 n)

-- ---- their lengths

module _ (xs : List ℕ) (f : ℕ) (g : Field xs f) where
  pub setting-word : (v : ℕ) → v < count_of xs f → length (decimal (setting_of xs f v)) + 1 ≤ offer_room
  setting-word v h =
      let l = (facts xs g.accepted).setting-le f v g.within h in
      omega (arith, decimal-word (setting_of xs f v) (omega arith))

  offer-length : (mask v : ℕ) → v < count_of xs f → length (blank_each (offer xs f mask v)) ≤ offer_room
  offer-length mask v h = go (bit mask v) refl
    where
      go : (t : Bool) → bit mask v ≡ t → length (blank_each (offer xs f mask v)) ≤ offer_room
      go true e = rw (offer_in xs f mask v e) (omega (arith, setting-word v h))
      go false e = rw (offer-out xs f mask v e) (omega arith)

  pub offers-length : (mask v : ℕ) → v ≤ count_of xs f → length (blank_each (offered xs f mask v)) ≤ v * offer_room
  offers-length mask zero h = rw (offers-none xs f mask) (omega arith)
  offers-length mask (suc v) h =
      let a = blank_each (offered xs f mask v) in
      let b = blank_each (offer xs f mask v) in
      let e = ap length (offers-next xs f mask v) ∙ length-append a b in
      rw (← add-one v) (omega (arith, e, offers-length mask v (omega arith), offer-length mask v (omega arith)))

  pub all_offers-length : (mask : ℕ) → length (blank_each (offered xs f mask (count_of xs f))) ≤ offers_room
  all_offers-length mask = omega (arith, offers-length mask (count_of xs f) (omega arith), (facts xs g.accepted).count-few f g.within)

  pub position-length : length (decimal f) ≤ 2
  position-length = decimal-length 1 f (let h = g.within in omega (arith, (facts xs g.accepted).fields-few))

  pub line-length : (mask : ℕ) → length (line xs f mask) ≤ line_room
  line-length mask =
      let b = blank_each (offered xs f mask (count_of xs f)) in
      let e = ap length (line-is xs f mask) ∙ length-append (decimal f ++ 58 ∷ [] ++ b) (10 ∷ []) in
      omega (arith, e, length-append (decimal f ++ 58 ∷ []) b, length-append (decimal f) (58 ∷ []), position-length, all_offers-length mask)

pub lines-length : (xs offers : List ℕ) → Accepted xs → (f : ℕ) → f ≤ fields_of xs → length (lines xs offers f) ≤ f * line_room
lines-length xs offers a zero h = rw (lines_none xs offers) (omega arith)
lines-length xs offers a (suc f) h =
    let m = get_or offers f 0 in
    let e = ap length (lines_next xs offers f) ∙ length-append (lines xs offers f) (line xs f m) in
    rw (← add-one f)
    (omega (arith, e, lines-length xs offers a f (omega arith), line-length xs f (record { accepted = a; within = omega arith }) m))

pub refused-length : (number : ℕ) → number < 2 ^ 32 → length (refused_line number) ≤ text_bytes
refused-length number h =
    let e = ap length (refused-is number) ∙ length-append (refused_word ++ decimal number) (10 ∷ []) in
    omega (arith, e, length-append refused_word (decimal number), decimal-word number h)

-- The longest text.
pub text-length : (xs : List ℕ) (number : ℕ) (offers : List ℕ) → (number ≡ 0 → Accepted xs) → number < 2 ^ 32
    → length (text xs number offers) ≤ text_bytes
text-length xs number offers a h = go (eqb number 0) refl
  where
    go : (t : Bool) → eqb number 0 ≡ t → length (text xs number offers) ≤ text_bytes
    go true e =
        let z = eqb-true number 0 e in
        rw (text-accepted xs number offers z)
        (omega (arith, lines-length xs offers (a z) (fields_of xs) (omega arith), (facts xs (a z)).fields-few))
    go false e = rw (text-refused xs number offers (eqb-false number 0 e)) (refused-length number h)
