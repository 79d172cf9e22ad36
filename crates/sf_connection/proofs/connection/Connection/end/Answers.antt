use Rattle.sf_connection.specs.Hosts.{ended}
use Rattle.sf_connection.specs.Progress.{progress}
use Rattle.sf_connection.proofs.Turns.{ends}
use Rattle.sf_connection.proofs.connection.Connection.end.Goals as goal

pub returns-clause-ended : goal.returns-clause-ended
returns-clause-ended g c = λ start moments from p tells s may. (
  progress (ended p.state) p.unfed p.written,
  c.end.ensures.ended start moments p.state tells,
  ends g.H.Host.held _ p c.args.outcome may c.end.ensures.work s.passed,
)
