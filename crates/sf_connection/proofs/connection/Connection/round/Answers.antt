use Rattle.std.proofs.Common.{◌<◌, refl, sym, subst}
use Rattle.sf_connection.specs.declared.connection.Connection.{Connection}
use Rattle.sf_connection.specs.Waits.{WaitsPromptly}
use Rattle.sf_connection.specs.Streams.{WaitsView}
use Rattle.sf_connection.proofs.Sessions.{rose_since}
use Rattle.sf_connection.proofs.Turns.{line_may_end}
use Rattle.sf_connection.proofs.Rounds.{going_of, serving_of, waits_once, serving_on, ended_as}
use Rattle.sf_connection.proofs.connection.Connection.round.Goals as goal

pub returns-in-Ok : goal.returns-in-Ok
returns-in-Ok g c = record {
  going = going_of c.advance-wants.result _ _ c.in_default.not-Ended c.advance-wants.ensures.ended;
  left = tt;
  waits = subst (λ (w : WaitsView). (g.S.Stream.waits c.wait.new.self).left < w.left) c.advance-wants.ensures.waits c.in-Ok.ensures.left;
  served = λ start from p tells s.
      let before = c.advance-wants.new.self in
      let after : Connection g.row.H.Denot g.row.S.Denot = record before { stream = c.wait.new.self } in
      let now = g.S.Stream.view before.stream in
      let work = g.H.Host.work before.host c.advance-wants.new.place in
      let t = c.advance-wants.ensures.served start from p tells s in (
        t.0,
        t.1,
        (
          serving_on g.H.Host.held work from now (g.S.Stream.view c.wait.new.self) c.advance-wants.result before after p t.0 c.in_default.not-Ended refl refl refl refl refl c.wait.ensures.incoming c.wait.ensures.outgoing c.wait.ensures.failures t.2,
          waits_once g.H.Host.held work from now c.advance-wants.result before p t.0 (g.S.Stream.waits c.args.self.now.stream) (g.S.Stream.waits before.stream) (g.S.Stream.waits c.wait.new.self) t.2 c.advance-wants.ensures.waits c.wait.ensures.made,
        ),
      );
  len = c.advance-wants.ensures.len;
}

pub returns-in-Err : goal.returns-in-Err
returns-in-Err g c = record {
  going = tt;
  left = c.end.ensures.left;
  waits = tt;
  served = λ start from p tells s.
      let moments = g.C.Clock.moments c.advance-wants.new.clock in
      let before = c.advance-wants.new.self in
      let after : Connection g.row.H.Denot g.row.S.Denot = record before { stream = c.wait.new.self } in
      let now = g.S.Stream.view before.stream in
      let now' = g.S.Stream.view c.wait.new.self in
      let work = g.H.Host.work before.host c.advance-wants.new.place in
      let t = c.advance-wants.ensures.served start from p tells s in
      let on = serving_on g.H.Host.held work from now now' c.advance-wants.result before after p t.0 c.in_default.not-Ended refl refl refl refl refl c.wait.ensures.incoming c.wait.ensures.outgoing c.wait.ensures.failures t.2 in
      let rose = rose_since from.failed now.failed now'.failed (serving_of g.H.Host.held work from now c.advance-wants.result before p t.0 c.in_default.not-Ended t.2).failures c.wait.ensures.failures c.in-Err.ensures.fault in
      let e = c.end.ensures.ended start moments from t.0 t.1 on (line_may_end work from now' t.0 rose) in (
        e.0,
        e.1,
        (
          ended_as g.H.Host.held (g.H.Host.work c.end.new.self.host c.end.new.place) from (g.S.Stream.view c.end.new.self.stream) c.end.result _ c.end.new.self t.0 e.0 c.end.ensures.wants e.2,
          subst (λ (x : g.row.S.Denot). WaitsPromptly from (g.S.Stream.waits c.args.self.now.stream) (g.S.Stream.waits x)) (sym c.end.ensures.stream)
              (waits_once g.H.Host.held work from now c.advance-wants.result before p t.0 (g.S.Stream.waits c.args.self.now.stream) (g.S.Stream.waits before.stream) (g.S.Stream.waits c.wait.new.self) t.2 c.advance-wants.ensures.waits c.wait.ensures.made),
        ),
      );
  len = c.advance-wants.ensures.len;
}
