use Rattle.std.proofs.Common.{◌≡◌, length, arith}
use Rattle.sf_asking.proofs.Bodies.{body_whole, body_none, body_more}
use Rattle.sf_asking.proofs.packet.body_of.Goals as goal

pub returns-in_err-body-clause-none : goal.returns-in_err-body-clause-none
returns-in_err-body-clause-none c = rw c.from_residual.ensures (body_none c.args.bytes.now c.in_err-body.ensures)

pub returns-then-is_empty-clause-some : goal.returns-then-is_empty-clause-some
returns-then-is_empty-clause-some c =
    let none : length c.in_ok-body.rest.now ≡ 0 = grind (arith, c.if-is_empty.ensures) in
    body_whole c.args.bytes.now c.in_ok-body.body.now c.in_ok-body.rest.now (λ i. omega (arith, c.type_inv.bytes i)) c.in_ok-body.ensures none

pub returns-else-is_empty-clause-none : goal.returns-else-is_empty-clause-none
returns-else-is_empty-clause-none c =
    let some : (length c.in_ok-body.rest.now ≡ 0 → ⊥) = λ e. grind (arith, c.if-is_empty.ensures, e) in
    body_more c.args.bytes.now c.in_ok-body.body.now c.in_ok-body.rest.now c.in_ok-body.ensures some
