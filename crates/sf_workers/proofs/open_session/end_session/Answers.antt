use Rattle.std.proofs.Common.{Ok, sym, ap, ◌∙◌, subst}
use Rattle.sf_pool.specs.OnCores.{IsVisitOf}
use Rattle.sf_workers.specs.LaneSessions.{shared_scene}
use Rattle.sf_workers.specs.Sessions.{WasServed, IsVisitBetween}
use Rattle.sf_workers.proofs.Conversing.{conversing}
use Rattle.sf_workers.proofs.Ending.{was_served, visit_between}
use Rattle.sf_workers.proofs.open_session.end_session.Goals as goal

pub returns-clause-talk : goal.returns-clause-talk
returns-clause-talk g c =
    let s = c.args.session in
    let x = c.in-Ok.visit in
    let view = g.L.Stream.view in
    let is = c.requires.2 in
    let page = subst (λ l. IsVisitOf l.transcript_lane (Ok x)) c.into_parts-lane.ensures.lane (subst (IsVisitOf c.into_parts-lane.result.0.transcript_lane) c.in-Ok.is c.end-ended.ensures.visit) in
    let served = was_served is.0 x (shared_scene s.start_lane.value) (shared_scene s.lane) (view s.start_stream.value) (view s.connection.stream) s.connection is.1 is.2 page is.3.0 is.3.1 is.3.2 in
    λ history visit. conversing x (view s.start_stream.value) (view c.into_parts-lane.result.1) s.lane.transcript_lane.steps history
    (subst (λ l. WasServed x (view s.start_stream.value) (view l) s.lane.transcript_lane.steps) (sym c.into_parts-lane.ensures.stream) served) visit

pub returns-clause-between : goal.returns-clause-between
returns-clause-between g c =
    let s = c.args.session in
    let x = c.in-Ok.visit in
    let is = c.requires.2 in
    let page = subst (λ l. IsVisitOf l.transcript_lane (Ok x)) c.into_parts-lane.ensures.lane (subst (IsVisitOf c.into_parts-lane.result.0.transcript_lane) c.in-Ok.is c.end-ended.ensures.visit) in
    subst (λ h. IsVisitBetween s.start_lane.value.seen h x) (sym (c.end-ended.ensures.seen ∙ ap (λ l. l.seen) c.into_parts-lane.ensures.lane))
    (visit_between s.lane.transcript_lane x s.start_lane.value.seen s.lane.seen page is.3.1.stands)
