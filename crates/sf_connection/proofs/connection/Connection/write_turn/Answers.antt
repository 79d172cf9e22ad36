use Rattle.std.proofs.Common.{◌≡◌, Ok, Result, Bool, subst, sym, ap, ◌∙◌}
use Rattle.sf_line.specs.declared.line.LineFault.{LineFault}
use Rattle.sf_connection.specs.Connections.{HasDue}
use Rattle.sf_connection.specs.Steps.{HasTried}
use Rattle.sf_connection.specs.Progress.{Progress}
use Rattle.sf_connection.proofs.Turns.{line_may_end, turned_since, returns_same}
use Rattle.sf_connection.proofs.connection.Connection.write_turn.Goals as goal

pub returns-in-Ok-false-clause-turned : goal.returns-in-Ok-false-clause-turned
returns-in-Ok-false-clause-turned g c = λ start moments from p tells s due.
    let now = g.S.Stream.view c.write.new.self.stream in
    let after = c.full_turn.new.self in
    let work = g.H.Host.work after.host c.full_turn.new.place in
    let w = c.write.ensures.wrote start moments from p tells s due in
    let same : w.0 ≡ p = subst (λ (r : Result Bool LineFault). HasTried r from now p w.0) (c.in-Ok-false.is ∙ ap (λ (b : Bool). Ok b) c.in-Ok-false.field-0-test) w.2.1 in
    let f = c.full_turn.ensures.turned start moments from w.0 w.1 w.2.0 (subst (λ (q : Progress). HasDue q) (sym same) due) in
    (f.0, f.1, turned_since g.H.Host.held work from (g.S.Stream.view after.stream) c.full_turn.result c.args.self.now c.write.new.self after p w.0 f.0 c.write.ensures.rank same f.2)

pub returns-in-Err-clause-turned : goal.returns-in-Err-clause-turned
returns-in-Err-clause-turned g c = λ start moments from p tells s due.
    let self = c.write.new.self in
    let now = g.S.Stream.view self.stream in
    let after = c.end.new.self in
    let w = c.write.ensures.wrote start moments from p tells s due in
    let tried = subst (λ (r : Result Bool LineFault). HasTried r from now p w.0) c.in-Err.is w.2.1 in
    let e = c.end.ensures.ended start moments from w.0 w.1 w.2.0 (line_may_end (g.H.Host.work self.host c.write.new.place) from now w.0 tried.1) in
    (e.0, e.1, returns_same g.H.Host.held (g.H.Host.work after.host c.end.new.place) from (g.S.Stream.view after.stream) c.end.result after p w.0 e.0 tried.0 e.2)
