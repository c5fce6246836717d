-- What an event does, by its kind. Assumes nothing.
use Rattle.std.specs.Prelude.{◌≡◌, Bool, ℕ, eqb}
use Rattle.std.proofs.Common.{◌∙◌, ne_eqb}
use Rattle.std.proofs.Math.Bool.{true, false}
use Rattle.masks.specs.Pick.{pick, pick-false}
use Rattle.ledger.specs.declared.Decision.TheVariants.{Choice, Strike}
use Rattle.ledger.specs.declared.Change.{Change}
use Rattle.ledger.specs.declared.Change.TheVariants.{Adds, Withdraws, Neither}
use Rattle.ledger.specs.Ledger.{CHOOSE, STRIKE, WITHDRAW_CHOICE}
use Rattle.ledger.specs.Ledger.{WITHDRAW_STRIKE, change_by}

module _ (kind f v : ℕ) where
  pub change_choose : kind ≡ CHOOSE → change_by kind f v ≡ Adds (Choice f v)
  unfolding change_by pick
  change_choose e = rw e

  pub change_strike : kind ≡ STRIKE → change_by kind f v ≡ Adds (Strike f v)
  unfolding change_by pick
  change_strike e = rw e

  pub change_withdraw-choice : kind ≡ WITHDRAW_CHOICE → change_by kind f v ≡ Withdraws (Choice f v)
  unfolding change_by pick
  change_withdraw-choice e = rw e

  pub change_withdraw-strike : kind ≡ WITHDRAW_STRIKE → change_by kind f v ≡ Withdraws (Strike f v)
  unfolding change_by pick
  change_withdraw-strike e = rw e

  pub change_none : (kind ≡ CHOOSE → ⊥) → (kind ≡ STRIKE → ⊥) → (kind ≡ WITHDRAW_CHOICE → ⊥) → (kind ≡ WITHDRAW_STRIKE → ⊥)
      → change_by kind f v ≡ Neither
  unfolding change_by
  change_none a b c d =
      pick-false _ _ _ (ne_eqb kind CHOOSE a) ∙ pick-false _ _ _ (ne_eqb kind STRIKE b)
      ∙ pick-false _ _ _ (ne_eqb kind WITHDRAW_CHOICE c) ∙ pick-false _ _ _ (ne_eqb kind WITHDRAW_STRIKE d)

  -- what holds of all that an event may do
  pub change_any : (P : Change → Type 0) → P (Adds (Choice f v)) → P (Adds (Strike f v)) → P (Withdraws (Choice f v))
      → P (Withdraws (Strike f v)) → P Neither → P (change_by kind f v)
  unfolding change_by
  change_any P a b c d e = go (eqb kind CHOOSE) (eqb kind STRIKE) (eqb kind WITHDRAW_CHOICE) (eqb kind WITHDRAW_STRIKE)
    where
      go : (w x y z : Bool)
          → P (pick w (Adds (Choice f v))
          (pick x (Adds (Strike f v))
          (pick y (Withdraws (Choice f v))
          (pick z (Withdraws (Strike f v))
          Neither))))
      go true x y z = unfold pick in a
      go false true y z = unfold pick in b
      go false false true z = unfold pick in c
      go false false false true = unfold pick in d
      go false false false false = unfold pick in e
