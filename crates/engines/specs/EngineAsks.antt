-- What the engines ask, and that their parts ask no more. Assumes nothing.
use Rattle.std.specs.Prelude.{◌≡◌, refl, true, false, List, ℕ, ◌≤◌, ◌<◌, length, get_or}
use Rattle.std.proofs.Common.{◌∙◌, arith}
use Rattle.limits.specs.Limits.{most_fields}
use Rattle.masks.specs.Bits.{bit, Within}
use Rattle.masks.specs.Settings.{some_empty}
use Rattle.consistency.specs.Problem.{Problem, In, OnFields, all_fields}
use Rattle.network.specs.declared.tables.Tables.{Tables}
use Rattle.network.specs.TripleTable.{problem_of}
use Rattle.network.specs.Network.{problem, hoods, WiredTables, Tripled}
use Rattle.pruning.specs.Shrunk.{small_⊆}
use Rattle.closing.specs.declared.ac4.Ac4.{Ac4}
use Rattle.closing.specs.Asks.{Masks, Blank, CloseAsks, LiveAsks, asks-shrunk}
use Rattle.visiting.specs.Store.{HoodAsks}
use Rattle.engines.specs.Engine.{IsOrder, Hoods, Begun, all_full, Kept}

-- a set as it is given: settings of the problem's fields only
pub record StartAsks (t : Tables) (S : List ℕ) : Type 0 where
  pub wired : WiredTables t
  pub table : Tripled t
  pub masks : Masks S
  pub on : OnFields (problem t) S

-- an order, the mask of the selected fields, and the masks of the neighbourhoods
pub record Lent (t : Tables) (order : List ℕ) (selected : ℕ) : Type 0 where
  pub visits : IsOrder t.network.now.fields order
  pub selected-fields : Within selected (all_fields (problem t))
  pub near : Hoods (problem t) (hoods t)

-- What an engine asks of a network, its tables, an order, a mask of selected fields and a set.
abbrev pub RunAsks : Tables → List ℕ → ℕ → List ℕ → Type 0
RunAsks t order selected S = StartAsks t S × Lent t order selected

module _ (t : Tables) where
  abbrev P : Problem
  P = problem t

  abbrev n : ℕ
  n = t.network.now.fields

  -- closing at the start
  pub start-asks : (S : List ℕ) (c : Ac4) → StartAsks t S → Blank c → some_empty n S ≡ false → CloseAsks t S c
  unfolding problem_of
  start-asks S c a b e = record {
    wired = a.wired;
    table = a.table;
    masks = a.masks;
    full = all_full P S e;
    blank = b;
  }

  pub begun-asks : (S R : List ℕ) → StartAsks t S → Begun P S false R → LiveAsks t R
  begun-asks S R a b = record {
    wired = a.wired;
    table = a.table;
    masks = record { long = b.sized ∙ a.masks.long; small = small_⊆ S R (b.inside refl) a.masks.small };
    live = b.live refl;
  }

  pub kept-asks : {hood : List ℕ} {selected : ℕ} {S R : List ℕ} {touched : ℕ} → LiveAsks t S → Kept P hood selected S touched R
      → LiveAsks t R
  kept-asks {S = S} a k = asks-shrunk t S a k.shrunk k.live

  -- what the visit of a field of the order asks
  module _ (order : List ℕ) (selected : ℕ) (l : Lent t order selected) (few : n ≤ most_fields)
      (q : ℕ) (h : q < n) where
    abbrev f : ℕ
    f = get_or order q 0

    pub order-low : (q < length order) × (get_or order q 0 < most_fields)
    order-low = let a = l.visits.sized in let b = l.visits.low q h in (omega arith, omega arith)

    pub visit-asks : (get_or order q 0 < n) × HoodAsks P (hoods t) (get_or order q 0)
    unfolding problem_of
    visit-asks = let b = l.visits.low q h in (b, record { fields = l.near.fields f b; self = l.near.self f b })

    -- and that it is selected, where the mask has it
    pub visit-selected : bit selected (get_or order q 0) ≡ true → In P selected (get_or order q 0)
    unfolding problem_of
    visit-selected b = (l.visits.low q h, b)
