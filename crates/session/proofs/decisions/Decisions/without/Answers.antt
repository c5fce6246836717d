use Rattle.masks.proofs.Settings.{lose-set}
use Rattle.session.proofs.decisions.Decisions.without.Goals as goal

pub returns-in-Choice : goal.returns-in-Choice
returns-in-Choice c =
    let x = c.in-Choice in
    rw (x.is, c.clear_bit.ensures, lose-set c.args.self.choices x.f x.v)

pub returns-in-Strike : goal.returns-in-Strike
returns-in-Strike c =
    let x = c.in-Strike in
    rw (x.is, c.clear_bit-in-Strike.ensures, lose-set c.args.self.strikes x.f x.v)
