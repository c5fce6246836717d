-- `add_to_three` changes three masks one after the other.
use borrow.Author.Rules.{rules}
use Rattle.network.specs.Linking.{added}
use Rattle.network.proofs.links.add_to_three.Goals as goal

pub returns : goal.returns
returns c =
    let p = c.requires in
    added _ _ _ _ _ p.0 p.1 p.2 (search rules)
