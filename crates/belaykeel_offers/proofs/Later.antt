-- Open answers to the 32,768 bytes that the program reads as to the whole input. Assumes nothing.
use Rattle.std.specs.Prelude.{◌≡◌, refl, Bool, true, false, List, ℕ, ◌≤◌, ltb, length, take}
use Rattle.std.proofs.Common.{sym, ap, ◌∙◌, arith, take_all, ltb-true, ltb-false}
use Rattle.limits.specs.Limits.{offers_words}
use Rattle.accepted.specs.Parts.{fields_of}
use Rattle.session.specs.Steps.{fresh_session}
use Rattle.answering.specs.Answer.{CallResult}
use Rattle.belaykeel_offers.specs.Opening.{opening, opening-refused, list_of}
use Rattle.belaykeel_offers.specs.Input.{first-bytes, input_bytes, long_input}

pub later-bytes : (s before : List ℕ) → offers_words ≤ length before
    → opening (take input_bytes s) (fields_of (list_of (take input_bytes s))) before ≡ opening s (fields_of (list_of s)) before
later-bytes s before l = go (ltb input_bytes (length s)) refl
  where
    go : (t : Bool) → ltb input_bytes (length s) ≡ t
        → opening (take input_bytes s) (fields_of (list_of (take input_bytes s))) before ≡ opening s (fields_of (list_of s)) before
    go true e =
        let r = long_input s (ltb-true input_bytes (length s) e) in
        let q = first-bytes s input_bytes (omega arith) in
        opening-refused (take input_bytes s) (fields_of (list_of (take input_bytes s))) before l (λ z. r (sym q ∙ z))
        ∙ ap {B = CallResult} (λ (k : ℕ). record { number = k; session = fresh_session; offers = before }) q
        ∙ sym (opening-refused s (fields_of (list_of s)) before l r)
    go false e = ap (λ (x : List ℕ). opening x (fields_of (list_of x)) before) (take_all input_bytes s (ltb-false input_bytes (length s) e))
