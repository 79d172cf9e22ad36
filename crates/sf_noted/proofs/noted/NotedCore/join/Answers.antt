use Rattle.std.proofs.Common.{◌<◌, ◌+◌, ℕ, List, sym, ap, ◌∙◌, subst, arith}
use Rattle.sf_call.specs.declared.record.Record.{Record}
use Rattle.sf_core.specs.Lanes.{LaneView}
use Rattle.sf_audit.specs.Audits.{call_records}
use Rattle.sf_noted.specs.Pages.{Page}
use Rattle.sf_noted.specs.Noted.{PagesAgree}
use Rattle.sf_noted.proofs.Agreeing.{joins}
use Rattle.sf_noted.proofs.noted.NotedCore.join.Goals as goal

pub invariant_of-self-2 : goal.invariant_of-self-2
invariant_of-self-2 g c =
    let n = c.self.invariant in
    let log = c.self.inside.log in
    let e = c.in_ok-lane.ensures in (
      subst (λ (h : List Record). PagesAgree c.join.new.self c.open-ticket.new.self h) (sym c.show.ensures.log)
          (subst (λ (ps : List Page). PagesAgree c.join.new.self ps log) (sym c.open-ticket.ensures.all) (joins _ _ _ log n.0 (e.history log n.0.history) e.ok)),
      n.1 ∙ sym e.ok.drawn,
    )

pub returns-clause-own : goal.returns-clause-own
returns-clause-own g c =
    let n = c.self.invariant in
    let log = c.self.inside.log in
    let joins = c.self.inside.core.joins in
    let lane = c.in_ok-lane.lane in
    let next : joins < joins + 1 = omega arith in
    ap (call_records lane.session) c.show.ensures.seen
    ∙ (ap (λ (l : LaneView). call_records l.session log) c.in_ok-lane.ensures.lane
    ∙ (n.0.later (joins + 1) next ∙ sym (ap (λ (t : ℕ × Page). t.1.told) c.open-ticket.ensures.ticket)))
