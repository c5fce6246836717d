use mathlib.Core.Path.{sym}
use native.Mathlib.Omega.{arith}
use Rattle.groups.specs.Groups.{size_1, size_2, size_3, size_4}
use Rattle.groups.proofs.groups.size.Goals as goal

pub returns-then-x-lt128 : goal.returns-then-x-lt128
returns-then-x-lt128 c = (sym (size_1 c.args.x (omega arith)), omega arith)

pub returns-then-x-lt16384 : goal.returns-then-x-lt16384
returns-then-x-lt16384 c = (sym (size_2 c.args.x (omega arith) (omega arith)), omega arith)

pub returns-then-x-lt2097152 : goal.returns-then-x-lt2097152
returns-then-x-lt2097152 c = (sym (size_3 c.args.x (omega arith) (omega arith)), omega arith)

pub returns : goal.returns
returns c = (sym (size_4 c.args.x (omega arith)), omega arith)
