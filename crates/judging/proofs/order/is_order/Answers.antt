use borrow.Author.Rules.{rules}
use Rattle.ledger.specs.Orders.{order_wrong_length, order-right}
use Rattle.judging.proofs.order.is_order.Goals as goal

pub returns-then-order-n : goal.returns-then-order-n
returns-then-order-n c = order_wrong_length _ _ c.if-order-n.true

pub returns : goal.returns
returns c = order-right _ _ c.if-order-n.false (λ g l. c.loop-f.invariant g (search rules))
