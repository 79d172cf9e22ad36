use Rattle.sf_connection.proofs.Turns.{may_end}
use Rattle.sf_connection.proofs.connection.Connection.turn.Goals as goal

pub returns-in-Ending-clause-turned : goal.returns-in-Ending-clause-turned
returns-in-Ending-clause-turned g c = λ start from p tells s _.
    let moments = g.C.Clock.moments c.args.clock.now in
    c.end.ensures.ended start moments from p tells s
    (may_end c.args.self.now p c.in-Ending.outcome s (c.has_due.ensures.clear c.if-has_due.false start moments p tells) c.in-Ending.is)
