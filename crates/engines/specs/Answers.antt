-- What the engines answer on the network of a sheet, and that they answer the same. Assumes nothing.
use Rattle.std.specs.Prelude.{◌≡◌, Bool, true, false, List, ℕ, ◌<◌, get_or}
use Rattle.std.proofs.Common.{sym, ◌∙◌}
use Rattle.std.proofs.Math.Path.{ap}
use Rattle.masks.specs.Bits.{bit}
use Rattle.masks.specs.Sets.{has}
use Rattle.masks.specs.Settings.{some_empty}
use Rattle.consistency.specs.Problem.{Problem, in_all_fields}
use Rattle.consistency.specs.Neighbourhood.{neighbourhood}
use Rattle.consistency.proofs.Neighbourhood.{neighbourhood_bound, neighbourhood-self, neighbourhood-symmetric}
use Rattle.consistency.specs.Offers.{wiped_out}
use Rattle.consistency.proofs.Order.{offers-same-hoods}
use Rattle.accepted.specs.Parts.{fields_of, reach_of}
use Rattle.network.specs.declared.tables.Tables.{Tables}
use Rattle.network.specs.TripleTable.{problem_of}
use Rattle.network.specs.SheetProblem.{sheet_problem, sheet-symmetric}
use Rattle.network.specs.Network.{problem, hoods, NetworkOf, TriplesOf, network-holds}
use Rattle.closing.specs.Asks.{Masks}
use Rattle.engines.specs.Engine.{IsOrder, Hoods, hood_in, Offered, Engine}
use Rattle.engines.specs.EngineAsks.{RunAsks}

-- Whichever engine and order: the same answer.
pub same_answer : (P : Problem) (hood : List ℕ) (selected : ℕ) (S : List ℕ) (wiped wiped' : Bool) (R R' : List ℕ)
    → Engine P hood selected S wiped R → Engine P hood selected S wiped' R' → (wiped ≡ wiped') × (wiped ≡ false → R ≡ R')
same_answer P hood selected S wiped wiped' R R' a b =
    let same = a.wipes ∙ sym b.wipes in
    (same, λ e. a.made e ∙ sym (b.made (sym same ∙ e)))

-- masks that are the neighbourhoods at a reach are what the engines ask
hoods-at : (xs hood : List ℕ) → ((f : ℕ) → f < (sheet_problem xs).fields
    → get_or hood f 0 ≡ neighbourhood (sheet_problem xs) (reach_of xs) f)
    → Hoods (sheet_problem xs) hood
hoods-at xs hood e = record {
  fields = λ f h. rw (e f h) (λ g b. (in_all_fields (sheet_problem xs) g (neighbourhood_bound (sheet_problem xs) (reach_of xs) f g b)).1);
  self = λ f h. rw (e f h) (neighbourhood-self (sheet_problem xs) (reach_of xs) f h).1;
  back = λ f g h l b. rw (e g l) (neighbourhood-symmetric (sheet_problem xs) (sheet-symmetric xs) (reach_of xs) f g h (rw (e f h) at b));
}

-- ---- the network of an accepted sheet: it may be built once, and engines run on it many times

module _ (xs : List ℕ) (t : Tables) (w : NetworkOf xs t.network.now t.forward.now t.turned.now) (d : TriplesOf xs t.triples.now) where
  holds : problem t ≡ sheet_problem xs
  holds = network-holds xs t.network.now t.forward.now t.turned.now t.triples.now w d

  near : (f : ℕ) → f < (sheet_problem xs).fields → get_or (hoods t) f 0 ≡ neighbourhood (sheet_problem xs) (reach_of xs) f
  unfolding sheet_problem
  near f h = w.near f (rw w.fields h)

  -- the network of a sheet is what the engines ask
  pub network-hoods : Hoods (problem t) (hoods t)
  network-hoods = rw holds (hoods-at xs (hoods t) near)

  -- What `run` asks, from an order of the sheet's fields, a mask of these and a set with settings of these fields only.
  pub run-asks : (order : List ℕ) (selected : ℕ) (S : List ℕ) → IsOrder (fields_of xs) order
      → ((f : ℕ) → bit selected f ≡ true → f < fields_of xs) → Masks S → ((f v : ℕ) → has S f v ≡ true → f < fields_of xs)
      → RunAsks t order selected S
  unfolding problem_of
  run-asks order selected S visits low masks on = (
    record { wired = w.wired; table = rw w.fields d.table; masks = masks; on = λ f v h. rw w.fields (on f v h) },
    record {
      visits = rw w.fields visits;
      selected-fields = λ f b. (in_all_fields (problem t) f (rw w.fields (low f b))).1;
      near = network-hoods;
    },
  )

  -- An engine on the network of a sheet answers with the sheet's offers at its reach, under the same selected fields.
  pub answers : (selected : ℕ) (S : List ℕ) (wiped : Bool) (R : List ℕ) → Engine (problem t) (hoods t) selected S wiped R
      → Offered (sheet_problem xs) (neighbourhood (sheet_problem xs) (reach_of xs)) selected S wiped R
  unfolding wiped_out hood_in
  answers selected S wiped R e =
      let P = sheet_problem xs in
      let own : Engine P (hoods t) selected S wiped R = rw holds at e in
      let same = offers-same-hoods P (hood_in (hoods t)) (neighbourhood P (reach_of xs)) selected (λ f i. near f i.0) S in
      record { wipes = own.wipes ∙ ap (some_empty P.fields) same; made = λ z. own.made z ∙ same }
