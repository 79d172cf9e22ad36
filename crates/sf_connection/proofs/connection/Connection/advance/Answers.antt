use Rattle.std.proofs.Common.{refl}
use Rattle.sf_connection.proofs.Turns.{if_going, returns_rested}
use Rattle.sf_connection.proofs.connection.Connection.advance.Goals as goal

pub returns : goal.returns
returns g c = record {
  ended = if_going c.turns-wants.result _ _ c.in_default.not-Ended c.rest.ensures.sound;
  served = λ start from p tells s.
      let t = c.turns-wants.ensures.served start from p tells s in (
        t.0,
        c.rest.ensures.serves start (g.C.Clock.moments c.turns-wants.new.clock) t.0.state t.1,
        returns_rested g.H.Host.held _ _ from (g.S.Stream.view c.turns-wants.new.self.stream) c.turns-wants.result c.turns-wants.new.self _ p t.0 c.in_default.not-Ended c.shrink.ensures refl refl refl refl c.rest.ensures.work t.2,
      );
  rests = if_going c.turns-wants.result _ _ c.in_default.not-Ended c.rest.ensures.rests;
  blocks = c.turns-wants.ensures.blocks;
  len = c.turns-wants.ensures.len;
  waits = c.turns-wants.ensures.waits;
}
