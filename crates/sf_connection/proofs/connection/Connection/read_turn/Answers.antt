use Rattle.std.proofs.Common.{◌≡◌, ◌<◌, ◌^◌, Bool, sym, subst, arith}
use Rattle.sf_connection.specs.declared.connection.InputState.{InputState}
use Rattle.sf_connection.specs.declared.connection.ServeState.{ServeState}
use Rattle.sf_connection.specs.declared.connection.ServeState.TheVariants.{Waiting}
use Rattle.sf_connection.specs.Progress.{Progress, HasWritten}
use Rattle.sf_connection.specs.Connections.{IsInState, IsInput}
use Rattle.sf_connection.specs.Steps.{HasRead}
use Rattle.sf_connection.proofs.Turns.{closed_may_end, line_may_end, answers_all}
use Rattle.sf_connection.proofs.connection.Connection.read_turn.Goals as goal

pub returns-in-AtEnd-clause-turned : goal.returns-in-AtEnd-clause-turned
returns-in-AtEnd-clause-turned g c = λ start moments from p tells s given.
    let self = c.args.self.now in
    let now = g.S.Stream.view self.stream in
    let work = g.H.Host.work self.host c.args.place.now in
    let waits : IsInState Waiting work p = subst (λ (x : ServeState). IsInState x work p) given.1 s.state in
    c.end.ensures.ended start moments from p tells s
    (closed_may_end work from now p s.passed.bodies given.0 waits (subst (λ (i : InputState). IsInput i from now) c.in-AtEnd.is s.input))

pub returns-in-Failed-clause-turned : goal.returns-in-Failed-clause-turned
returns-in-Failed-clause-turned g c = λ start moments from p tells s given.
    let self = c.args.self.now in
    let now = g.S.Stream.view self.stream in
    c.end-in-Failed.ensures.ended start moments from p tells s
    (line_may_end (g.H.Host.work self.host c.args.place.now) from now p (subst (λ (i : InputState). IsInput i from now) c.in-Failed.is s.input))

pub returns-else-read-clause-turned : goal.returns-else-read-clause-turned
returns-else-read-clause-turned g c = λ start moments from p tells s given.
    let self = c.args.self.now in
    let work = g.H.Host.work self.host c.args.place.now in
    let waits : IsInState Waiting work p = subst (λ (x : ServeState). IsInState x work p) given.1 s.state in
    let small : self.ahead < 2 ^ 24 = omega (arith, s.waits given.1) in
    let r = c.read.ensures.read start moments from p tells s (waits.0.0, waits.1, c.in-Open.is, small) in
    let same : r.0 ≡ p = subst (λ (b : Bool). HasRead b self c.read.new.self p r.0) c.if-read.false r.2.1 in
    let wrote : HasWritten r.0 = subst (λ (q : Progress). HasWritten q) (sym same) given.0 in
    (r.0, r.1, (r.2.0, answers_all r.0 r.2.0.passed.bodies wrote (subst (λ (q : Progress). IsInState Waiting work q) (sym same) waits)))
