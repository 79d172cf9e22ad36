use Rattle.std.proofs.Common.{refl}
use Rattle.sf_connection.specs.Hosts.{with_sent}
use Rattle.sf_connection.specs.Progress.{progress}
use Rattle.sf_connection.proofs.Turns.{gathers}
use Rattle.sf_connection.proofs.connection.Connection.gather.Goals as goal

pub returns-clause-gathered : goal.returns-clause-gathered
returns-clause-gathered g c = λ start moments from p tells s zero. (
  progress (with_sent p.state) p.unfed p.written,
  c.sent.ensures.sent start moments p.state tells,
  (gathers c.args.self.now _ c.output.result.now (c.output.ensures start moments p.state tells) zero c.sent.ensures.work (c.add.ensures.added c.if-not-add.false) (c.add.ensures.few s.buffer) refl refl refl refl s, refl),
)
