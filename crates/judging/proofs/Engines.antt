-- The number of an engine, decoded, is refused as the ledger says.
use Rattle.std.specs.Prelude.{◌≡◌, Bool, true, ℕ, ltb, Result, Ok, Err}
use Rattle.std.proofs.Common.{ap, ⊎_elim}
use borrow.Author.Tests.{eq-eqb, lt-ltb}
use Rattle.masks.specs.Pick.{pick}
use Rattle.masks.specs.Tests.{or_l, or_r}
use Rattle.limits.specs.declared.engine.Engine.{Engine}
use Rattle.limits.specs.declared.engine.Engine.TheVariants.{Sac1, Sac2, Queue}
use Rattle.limits.specs.declared.refusals.Refusal.{Refusal}
use Rattle.limits.specs.Engines.{DecodesEngine}
use Rattle.limits.specs.Refusals.{number_of}
use Rattle.ledger.specs.Ledger.{first, engine_causes, no_engine}

pub engine_decoded : (k : ℕ) (r : Result Engine Refusal) → DecodesEngine k r → number_of r ≡ first (engine_causes k)
unfolding no_engine first pick
engine_decoded k (Ok Sac1) e = ap (λ (n : ℕ). first (engine_causes n)) e
engine_decoded k (Ok Sac2) e = ap (λ (n : ℕ). first (engine_causes n)) e
engine_decoded k (Ok Queue) e = ap (λ (n : ℕ). first (engine_causes n)) e
engine_decoded k (Err u) e =
    let none : no_engine k ≡ true = ⊎_elim (λ q. or_l _ (ltb 3 k) (eq-eqb k 0 q)) (λ q. or_r _ (ltb 3 k) (lt-ltb 3 k q)) e.0 in
    rw (e.1, none)
