-- `link` adds the fields of a triple rule to each of them, triple rule after triple rule.
use Rattle.network.specs.Linking.{LinksTo}
use Rattle.network.proofs.links.link.Given as goal

abbrev pub invariant-loop-t : goal.invariant-loop-t
invariant-loop-t l = LinksTo l.from.numbers.now l.joined l.t l.links
