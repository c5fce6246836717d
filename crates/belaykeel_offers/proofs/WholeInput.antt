-- The program, which reads 32,768 bytes, prints the page of the whole input. Assumes nothing.
use Rattle.std.specs.Prelude.{◌≡◌, refl, Bool, true, false, List, ℕ, ◌<◌, ◌≤◌, ltb, length, take}
use Rattle.std.proofs.Common.{sym, ap, ◌∙◌, arith, take_all, ltb-true, ltb-false}
use Rattle.std.proofs.lemmas.List.{length-replicate}
use Rattle.limits.specs.Limits.{offers_words}
use Rattle.accepted.specs.Parts.{fields_of}
use Rattle.answering.specs.Answer.{CallResult}
use Rattle.printing.specs.Text.{refused_line}
use Rattle.belaykeel_offers.specs.Opening.{opening-refused, list_of}
use Rattle.belaykeel_offers.specs.Input.{input_bytes, long_input}
use Rattle.belaykeel_offers.specs.Page.{no_offers, answer_to, page_of, page-refused}
use Rattle.belaykeel_offers.proofs.Later.{later-bytes}

pub page_of_input : (s : List ℕ) → page_of (take input_bytes s) ≡ page_of s
page_of_input s = go (ltb input_bytes (length s)) refl
  where
    room : offers_words ≤ length no_offers
    room = omega (arith, length-replicate {A = ℕ} offers_words 0)

    same : (answer_to (take input_bytes s)).number ≡ (answer_to s).number
    same = ap (λ (a : CallResult). a.number) (later-bytes s no_offers room)

    refused : input_bytes < length s → (answer_to s).number ≡ 0 → ⊥
    refused l z =
        let e = ap (λ (a : CallResult). a.number) (opening-refused s (fields_of (list_of s)) no_offers room (long_input s l)) in
        long_input s l (sym e ∙ z)

    go : (t : Bool) → ltb input_bytes (length s) ≡ t → page_of (take input_bytes s) ≡ page_of s
    go true e =
        let n = refused (ltb-true input_bytes (length s) e) in
        page-refused (take input_bytes s) (λ z. n (sym same ∙ z)) ∙ ap refused_line same ∙ sym (page-refused s n)
    go false e = ap page_of (take_all input_bytes s (ltb-false input_bytes (length s) e))
