use Rattle.std.proofs.Common.{◌+◌, refl, sym, subst}
use Rattle.sf_pool.specs.SessionLanes.{Notes}
use Rattle.sf_server.specs.Accepting.{nothing}
use Rattle.sf_server.proofs.Connections.{notes_none, notes_more, nothing_more}
use Rattle.sf_server.proofs.accepting.next_line.Goals as goal

pub loop-init : goal.loop-init
loop-init g c = (0, notes_none _ _ refl)

pub loop-preserved : goal.loop-preserved
loop-preserved g c =
    let (n, so_far) = c.loop.invariant in
    let start = g.A.Acceptor.given c.args.acceptor.now in
    let more = subst (λ asked. Notes start (g.A.Acceptor.given c.accept.new.self) asked) (nothing_more n) (notes_more start _ _ (nothing n) _ so_far c.in_default.ensures) in
    (n + 1, subst (λ given. Notes start given (nothing (n + 1))) (sym c.wait.ensures) more)

pub returns-then-is_closed-clause-none : goal.returns-then-is_closed-clause-none
returns-then-is_closed-clause-none g c =
    let (n, so_far) = c.loop.invariant in
    let start = g.A.Acceptor.given c.args.acceptor.now in
    ((n + 1, subst (λ asked. Notes start (g.A.Acceptor.given c.accept.new.self) asked) (nothing_more n) (notes_more start _ _ (nothing n) _ so_far c.in_default.ensures)), c.if-is_closed.ensures refl)
