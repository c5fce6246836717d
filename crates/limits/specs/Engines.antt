-- The engines, by 01's numbers. Assumes nothing.
use Rattle.std.specs.Prelude.{◌≡◌, ℕ, Result, Ok, Err, ◌<◌, ◌⊎◌}
use Rattle.limits.specs.declared.engine.Engine.{Engine}
use Rattle.limits.specs.declared.engine.Engine.TheVariants.{Sac1, Sac2, Queue}
use Rattle.limits.specs.declared.refusals.Refusal.{Refusal}
use Rattle.limits.specs.declared.refusals.Refusal.TheVariants.{Unknown}

-- the number of an engine
abbrev pub engine_number : Engine → ℕ
engine_number Sac1 = 1
engine_number Sac2 = 2
engine_number Queue = 3

-- the engine with this number; no engine has 0 or a number above 3
abbrev pub DecodesEngine : ℕ → Result Engine Refusal → Type 0
DecodesEngine number (Ok engine) = engine_number engine ≡ number
DecodesEngine number (Err refusal) = ((number ≡ 0) ⊎ (3 < number)) × (refusal ≡ Unknown)
