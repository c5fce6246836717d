-- What the theorems of the ledger speak of: a complete set-up that obeys decisions, and a number other than 7 and 9. Assumes nothing.
use Rattle.std.specs.Prelude.{◌≡◌, true, false, List, ℕ, ◌<◌}
use Rattle.limits.specs.Refusals.{UNKNOWN, NO_ORDER}
use Rattle.accepted.specs.Parts.{fields_of, count_of, rules_of, first_of, second_of, rule_allows, triples_of, triple_first, triple_second}
use Rattle.accepted.specs.Parts.{triple_third, triple_allows}
use Rattle.ledger.specs.declared.Decision.{Decision}
use Rattle.ledger.specs.declared.Decision.TheVariants.{Choice, Strike}
use Rattle.ledger.specs.Ledger.{in_force}

-- a setting for each field, each rule allowing its pair and each triple rule its three, none struck, and none other than a chosen one
pub record Obeys (xs : List ℕ) (ds : List Decision) (a : ℕ → ℕ) : Type 0 where
  pub on : (f : ℕ) → f < fields_of xs → a f < count_of xs f
  pub allowed : (r : ℕ) → r < rules_of xs → rule_allows xs r (a (first_of xs r)) (a (second_of xs r)) ≡ true
  pub even : (t : ℕ) → t < triples_of xs → triple_allows xs t (a (triple_first xs t)) (a (triple_second xs t)) (a (triple_third xs t))
      ≡ true
  pub unstruck : (f : ℕ) → f < fields_of xs → in_force ds (Strike f (a f)) ≡ false
  pub chosen : (f u : ℕ) → f < fields_of xs → in_force ds (Choice f u) ≡ true → u ≡ a f

-- not refused for its engine, decision or order
pub record Admitted (k : ℕ) : Type 0 where
  pub not_7 : k ≡ UNKNOWN → ⊥
  pub not_9 : k ≡ NO_ORDER → ⊥
