use Rattle.std.proofs.Common.{◌∙◌, Option, Result, refl, sym, subst}
use Rattle.sf_session.specs.declared.cause.Cause.{Cause}
use Rattle.sf_session.specs.declared.fault.ServeFault.{ServeFault}
use Rattle.sf_connection.specs.Waits.{HasRounded}
use Rattle.sf_connection.proofs.Rounds.{waits_none, waits_on, returns_ended}
use Rattle.sf_connection.proofs.connection.Connection.serve.Goals as goal

pub loop-outcome-init : goal.loop-outcome-init
loop-outcome-init g c = record {
  sound = c.requires.sound;
  room = c.requires.room;
  served = λ start from p tells s. (p, tells, s, waits_none from (g.S.Stream.waits c.args.self.now.stream) _ refl);
}

pub loop-outcome-preserved : goal.loop-outcome-preserved
loop-outcome-preserved g c = record {
  sound = c.in-None.ensures.going;
  room = c.round.ensures.len ∙ c.loop-outcome.invariant.room;
  served = λ start from p tells s.
      let after = c.round.new.self in
      let work = g.H.Host.work after.host c.round.new.place in
      let now = g.S.Stream.view after.stream in
      let i = c.loop-outcome.invariant.served start from p tells s in
      let t = c.round.ensures.served start from i.0 i.1 i.2 in
      let on = subst (λ (r : Option (Result Cause ServeFault)). HasRounded r g.H.Host.held work from now after i.0 t.0) c.in-None.is t.2.0 in
      (t.0, t.1, on, waits_on from (g.S.Stream.waits c.args.self.now.stream) (g.S.Stream.waits c.loop-outcome.self.stream) (g.S.Stream.waits after.stream) i.3 t.2.1);
}

pub returns-in-Some-clause-served : goal.returns-in-Some-clause-served
returns-in-Some-clause-served g c = λ start from p tells s.
    let after = c.round.new.self in
    let work = g.H.Host.work after.host c.round.new.place in
    let now = g.S.Stream.view after.stream in
    let i = c.loop-outcome.invariant.served start from p tells s in
    let t = c.round.ensures.served start from i.0 i.1 i.2 in
    let ended = subst (λ (r : Option (Result Cause ServeFault)). HasRounded r g.H.Host.held work from now after i.0 t.0) c.in-Some.is t.2.0 in
    (t.0, t.1, (returns_ended g.H.Host.held work from now c.in-Some.outcome after i.0 p t.0 ended, waits_on from (g.S.Stream.waits c.args.self.now.stream) (g.S.Stream.waits c.loop-outcome.self.stream) (g.S.Stream.waits after.stream) i.3 t.2.1))

pub returns-in-Some-clause-len : goal.returns-in-Some-clause-len
returns-in-Some-clause-len g c = c.round.ensures.len ∙ c.loop-outcome.invariant.room ∙ sym c.requires.room
