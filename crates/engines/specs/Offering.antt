-- Building the network of a sheet and running an engine on it, as one: what is asked. Assumes nothing.
use Rattle.std.specs.Prelude.{◌≡◌, true, List, ℕ, ◌+◌, ◌*◌, ◌≤◌, ◌<◌, length, replicate}
use Rattle.std.proofs.Common.{arith}
use Rattle.std.proofs.lemmas.List.{length-replicate}
use Rattle.limits.specs.Limits.{rows_words, memory_words, triples_front, triple_words, triples_words}
use Rattle.masks.specs.Bits.{bit}
use Rattle.masks.specs.Sets.{has, get_d_zeros}
use Rattle.sheet.specs.Sources.{Accepted}
use Rattle.accepted.specs.Parts.{fields_of, triples_of}
use Rattle.accepted.specs.Outline.{outline_of}
use Rattle.accepted.specs.Facts.{facts}
use Rattle.network.specs.declared.build.Network.{Network}
use Rattle.network.specs.Drafts.{ZerosFrom}
use Rattle.network.specs.Network.{NetworkOf}
use Rattle.closing.specs.Asks.{Masks}
use Rattle.engines.specs.Engine.{IsOrder}

-- An accepted sheet at the front of the memory, an order of its fields, selected fields and settings of its fields only, and room enough.
pub record OfferAsks (xs : List ℕ) (count : ℕ) (order : List ℕ) (selected : ℕ) (S rows memory : List ℕ) : Type 0 where
  pub accepted : Accepted xs
  pub ends : count ≤ length memory
  pub visits : IsOrder (fields_of xs) order
  pub selected-fields : (f : ℕ) → bit selected f ≡ true → f < fields_of xs
  pub masks : Masks S
  pub on : (f v : ℕ) → has S f v ≡ true → f < fields_of xs
  pub tables : rows_words ≤ length rows
  pub room : memory_words ≤ length memory

-- other tables in the same room
pub asks-on : (xs : List ℕ) (count : ℕ) (order : List ℕ) (selected : ℕ) (S rows after memory : List ℕ)
    → OfferAsks xs count order selected S rows memory → length after ≡ length rows → OfferAsks xs count order selected S after memory
asks-on xs count order selected S rows after memory a e = record {
  accepted = a.accepted;
  ends = a.ends;
  visits = a.visits;
  selected-fields = a.selected-fields;
  masks = a.masks;
  on = a.on;
  tables = rw e a.tables;
  room = a.room;
}

-- ---- a table of triple rules, made of zeros

module _ (xs : List ℕ) (net : Network) (forward turned : List ℕ) (t : NetworkOf xs net forward turned) (a : Accepted xs) where
  -- with room for the triple rules that there are
  pub zeros-room : (full : List ℕ) → full ≡ (outline_of xs).full → (words : ℕ) → triples_front + net.triples * triple_words ≤ words
      → Accepted xs × (full ≡ (outline_of xs).full)
      × (triples_front + triples_of xs * triple_words ≤ length {A = ℕ} (replicate words 0))
      × ZerosFrom 0 (replicate words 0)
  zeros-room full e words h =
      (a, e, (let n = t.triples in let l = length-replicate {A = ℕ} words 0 in omega arith), λ q _. get_d_zeros words q)

  -- room for all that a sheet may have is enough
  pub room-all : triples_front + net.triples * triple_words ≤ triples_words
  room-all = let few = (facts xs a).triples-few in let n = t.triples in omega arith
