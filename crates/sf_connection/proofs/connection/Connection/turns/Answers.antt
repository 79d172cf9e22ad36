use Rattle.std.proofs.Common.{refl, ◌∙◌, Option, subst, arith}
use Rattle.sf_connection.specs.declared.connection.Wants.{Wants}
use Rattle.sf_connection.specs.Connections.{IfEnded}
use Rattle.sf_connection.specs.Steps.{HasTurned, wants_of}
use Rattle.sf_connection.proofs.Turns.{moved_none, moved_by, moved_at_last, moved_at_least, returns_since}
use Rattle.sf_connection.proofs.connection.Connection.turns.Goals as goal

pub loop-steps-init : goal.loop-steps-init
loop-steps-init g c = record {
  sound = c.requires.sound;
  room = c.requires.room;
  served = λ start from p tells s. (p, tells, s, moved_none c.args.self.now p);
  waits = refl;
}

pub returns-in-Some-clause-served : goal.returns-in-Some-clause-served
returns-in-Some-clause-served g c = λ start from p tells s.
    let before = c.loop-steps.self in
    let after = c.turn.new.self in
    let work = g.H.Host.work after.host c.turn.new.place in
    let now = g.S.Stream.view after.stream in
    let i = c.loop-steps.invariant.served start from p tells s in
    let t = c.turn.ensures.turned start from i.0 i.1 i.2 tt in
    let wants = subst (λ (r : Option Wants). HasTurned r g.H.Host.held work from now before after i.0 t.0) c.in-Some.is t.2 in
    (t.0, t.1, returns_since g.H.Host.held work from now c.in-Some.wants after p i.0 t.0 (moved_at_least c.loop-steps.steps before p i.0 i.3) wants)

pub loop-steps-preserved : goal.loop-steps-preserved
loop-steps-preserved g c = record {
  sound = subst (λ (r : Option Wants). IfEnded (wants_of r) (g.H.Host.sound c.turn.new.self.host c.turn.new.place) (g.H.Host.left c.turn.new.self.host c.turn.new.place)) c.in-None.is c.turn.ensures.ended;
  room = c.turn.ensures.len ∙ c.loop-steps.invariant.room;
  served = λ start from p tells s.
      let before = c.loop-steps.self in
      let after = c.turn.new.self in
      let work = g.H.Host.work after.host c.turn.new.place in
      let now = g.S.Stream.view after.stream in
      let i = c.loop-steps.invariant.served start from p tells s in
      let t = c.turn.ensures.turned start from i.0 i.1 i.2 tt in
      let on = subst (λ (r : Option Wants). HasTurned r g.H.Host.held work from now before after i.0 t.0) c.in-None.is t.2 in
      (t.0, t.1, on.0, moved_by c.loop-steps.steps before after p i.0 t.0 i.3 on.1);
  waits = c.turn.ensures.waits ∙ c.loop-steps.invariant.waits;
}

pub returns-clause-served : goal.returns-clause-served
returns-clause-served g c = λ start from p tells s.
    let i = c.loop-steps.invariant.served start from p tells s in
    (i.0, i.1, (i.2, moved_at_last c.loop-steps.steps c.loop-steps.self p i.0 (omega arith) i.3))
