-- An error is that a set was wiped out.
use Rattle.std.specs.Prelude.{◌≡◌, refl, Result, Ok, Err}
use Rattle.std.specs.Result.{is_err}
use Rattle.limits.specs.Refusals.{is_wiped}

pub err-wiped : {A E : Type 0} (r : Result A E) → is_err r ≡ is_wiped r
err-wiped (Ok x) = refl
err-wiped (Err e) = refl
