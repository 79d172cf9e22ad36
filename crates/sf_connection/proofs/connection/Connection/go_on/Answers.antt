use Rattle.std.proofs.Common.{◌≡◌, ◌≢◌, refl, sym, ◌∙◌, subst}
use Rattle.sf_connection.specs.declared.connection.Connection.{Connection}
use Rattle.sf_connection.specs.declared.connection.ServeState.{ServeState}
use Rattle.sf_connection.specs.declared.connection.ServeState.TheVariants.{Processing, Waiting}
use Rattle.sf_connection.specs.Progress.{progress}
use Rattle.sf_connection.specs.Connections.{IsInState}
use Rattle.sf_connection.specs.Steps.{state_after}
use Rattle.sf_connection.proofs.Turns.{went, moved_to, moved_same}
use Rattle.sf_connection.proofs.connection.Connection.go_on.Goals as goal

pub returns-clause-went : goal.returns-clause-went
returns-clause-went g c = λ start from p tells s given.
    let self = c.args.self.now in
    let work = g.H.Host.work self.host c.args.place.now in
    let processing : IsInState Processing work p = subst (λ (x : ServeState). IsInState x work p) given.1 s.state in
    let step = c.go_on.ensures.step start p.state tells processing.0 s.passed.bodies given.0.0 in
    let p1 = progress step.0 p.unfed p.written in
    let c1 : Connection g.row.H.Denot g.row.S.Denot = record self { host = c.go_on.new.self; state = c.state_after-self.result; ahead = c.ahead_in-self.result } in
    let reset = λ (e : state_after c.go_on.result ≡ Waiting). c.ahead_in-self.ensures.none (c.state_after-self.ensures ∙ e) in
    let kept = λ (other : state_after c.go_on.result ≢ Waiting). c.ahead_in-self.ensures.same (λ e. other (sym c.state_after-self.ensures ∙ e)) in
    let w = went c.go_on.result self c1 step.0 given.0 given.1 step.2 step.3 c.go_on.ensures.fault refl refl reset kept c.state_after-self.ensures refl s in
    let h = c.gather.ensures.gathered start (g.C.Clock.moments c.go_on.new.clock) from p1 step.1 w.1 w.0 in
    (h.0, h.1, (h.2.0, moved_same self c1 c.gather.new.self p p1 h.0 c.gather.ensures.rank h.2.1 (moved_to c.go_on.result self c1 p step.0 given.1 c.state_after-self.ensures refl step.2 step.3)))
