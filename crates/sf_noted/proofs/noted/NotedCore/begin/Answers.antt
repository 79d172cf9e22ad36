use Rattle.std.proofs.Common.{◌≡◌, ◌≢◌, ◌<◌, ◌+◌, ℕ, List, sym, ap, ◌∙◌, subst, arith}
use Rattle.std.specs.Prelude.{slice_set}
use Rattle.sf_call.specs.declared.request.Request.{Request}
use Rattle.sf_call.specs.declared.record.Record.{Record}
use Rattle.sf_call.specs.Histories.{IsNewNumber}
use Rattle.sf_core.specs.declared.fault.CoreFault.{CoreFault}
use Rattle.sf_core.specs.Lanes.{LaneView}
use Rattle.sf_core.specs.Cores.{CoreView, lane_state}
use Rattle.sf_core.specs.Cores.LaneState.{Idle, Busy}
use Rattle.sf_core.specs.Events.{RefusesBegin}
use Rattle.sf_noted.specs.Pages.{begun_call, Page}
use Rattle.sf_noted.specs.declared.page.PageChange.TheVariants.{Begins}
use Rattle.sf_noted.specs.PageChanges.{page, page_after}
use Rattle.sf_noted.specs.Noted.{PagesAgree}
use Rattle.sf_noted.proofs.Lanes.{own_place}
use Rattle.sf_noted.proofs.Agreeing.{idle_there, begins, seen_at_rest}
use Rattle.sf_noted.proofs.noted.NotedCore.begin.Goals as goal

pub unreachable-requires : goal.unreachable-requires
unreachable-requires g c =
    let n = c.self.invariant in
    let t = c.lane.inside.ticket in
    let lane = c.lane.inside.lane in
    let rests = ap (λ (x : ℕ × Page). x.1.state) c.lane.view_is ∙ c.requires.resting in
    let idle = idle_there c.self.inside.core c.self.inside.keeper c.self.inside.log n.0 t.0 t.1 c.agrees.ensures.known rests in
    subst (λ (f : CoreFault). RefusesBegin c.self.inside.core lane f) c.in-Err-Stranger.field-0-is c.in-Err-Stranger.ensures.fault (ap (lane_state c.self.inside.core) (own_place _ _ _ c.lane.invariant) ∙ idle)

pub invariant_of-self-2 : goal.invariant_of-self-2
invariant_of-self-2 g c =
    let n = c.self.invariant in
    let t = c.lane.inside.ticket in
    let a = c.agrees.ensures in
    let e = c.in-Ok.ensures in
    let number = c.calls-number.result in
    let request = c.args.request in
    let rests = ap (λ (x : ℕ × Page). x.1.state) c.lane.view_is ∙ c.requires.resting in
    let b = begins c.self.inside.core c.begin.new.self c.lane.inside.lane request c.args.moment c.self.inside.keeper c.self.inside.log n.0 (e.history c.self.inside.log n.0.history) e.ok t.0 t.1 a.known (own_place _ _ _ c.lane.invariant) rests number c.calls-number.ensures in
    let lines : c.change.new.self ≡ slice_set c.self.inside.keeper t.0 (page (Busy (begun_call number c.args.moment request)) t.1.told) =
    c.change.ensures.all ∙ ((λ i. slice_set (a.all i) (a.ticket i).0 (page_after (a.ticket i).1 (Begins number c.args.moment c.of-asked.result))) ∙ ap (λ (r : Request). slice_set c.self.inside.keeper t.0 (page (Busy (begun_call number c.args.moment r)) t.1.told)) c.of-asked.ensures) in (
      subst (λ (h : List Record). PagesAgree c.begin.new.self c.change.new.self h) (sym c.show.ensures.log) (subst (λ (ps : List Page). PagesAgree c.begin.new.self ps c.self.inside.log) (sym lines) b),
      c.add.ensures.total ∙ (ap (λ k. k + 1) n.1 ∙ sym e.ok.drawn),
    )

pub returns-in-Err-Refused-clause-own : goal.returns-in-Err-Refused-clause-own
returns-in-Err-Refused-clause-own g c =
    let n = c.self.invariant in
    let t = c.lane.inside.ticket in
    let rests = ap (λ (x : ℕ × Page). x.1.state) c.lane.view_is ∙ c.requires.resting in
    seen_at_rest c.self.inside.core c.self.inside.keeper c.self.inside.log n.0 t.0 t.1 c.agrees.ensures.known rests c.lane.inside.lane.session (own_place _ _ _ c.lane.invariant) c.show.new.seen c.show.ensures.seen c.args.lane.now c.lane.view_is

pub returns-clause-own : goal.returns-clause-own
returns-clause-own g c =
    let n = c.self.invariant in
    let t = c.lane.inside.ticket in
    let rests = ap (λ (x : ℕ × Page). x.1.state) c.lane.view_is ∙ c.requires.resting in
    seen_at_rest c.self.inside.core c.self.inside.keeper c.self.inside.log n.0 t.0 t.1 c.agrees.ensures.known rests c.lane.inside.lane.session (own_place _ _ _ c.lane.invariant) c.show.new.seen c.show.ensures.seen c.args.lane.now c.lane.view_is

pub returns-clause-new_number : goal.returns-clause-new_number
returns-clause-new_number g c =
    let number = c.calls-number.result in
    let drawn : number ≡ c.self.inside.core.drawn + 1 = c.calls-number.ensures ∙ c.in-Ok.ensures.ok.drawn in
    let more : c.self.inside.core.drawn < number = omega arith in
    subst (λ (h : List Record). IsNewNumber number h) (sym c.show.ensures.seen) (c.self.invariant.0.history.later number more)
