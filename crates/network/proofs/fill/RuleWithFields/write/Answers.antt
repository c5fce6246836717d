-- `write` stores the rows of a rule in both tables.
use Rattle.network.specs.RuleFields.{fields-low}
use Rattle.network.specs.RuleRows.{rows-rows, rule-stored}
use Rattle.network.proofs.fill.RuleWithFields.write.Goals as goal

pub turn-turned-requires : goal.turn-turned-requires
turn-turned-requires c =
    let s = c.args.self in
    rw (rw s.second_list at c.count-wide.ensures, rw s.first_list at c.count-n.ensures)
    (rows-rows _ _ _ _ _ s.fields _ c.rows-forward.ensures)

pub slot-base-requires : goal.slot-base-requires
slot-base-requires c = let l = fields-low _ _ _ _ _ c.args.self.fields in (l.0, l.1)

pub returns : goal.returns
returns c =
    let s = c.args.self in
    let n = rw s.first_list at c.count-n.ensures in
    rule-stored _ _ _ _ _ s.fields _ c.rows-forward.ensures _ _ _ _ _
    c.slot-base.ensures.0 c.slot-base.ensures.1 (rw n at c.turn-turned.ensures) c.store.ensures c.store-2.ensures
