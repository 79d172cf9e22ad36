use Rattle.std.proofs.Common.{◌≡◌, ◌+◌, ◌++◌, ℕ, List, refl, sym, ap, ◌∙◌, subst}
use Rattle.std.specs.Prelude.{slice_set}
use Rattle.sf_call.specs.declared.record.Record.{Record}
use Rattle.sf_core.specs.declared.step.Step.{Step}
use Rattle.sf_core.specs.declared.step.Step.TheVariants as step
use Rattle.sf_core.specs.Lanes.{LaneView}
use Rattle.sf_core.specs.Cores.{CoreView}
use Rattle.sf_core.specs.Cores.LaneState.{Idle}
use Rattle.sf_core.specs.Events.{Before, After, TakesStep}
use Rattle.sf_audit.specs.Audits.{call_records}
use Rattle.sf_roll.specs.Seen.{IsPrefixOf}
use Rattle.sf_roll.proofs.Laws.{prefix_self}
use Rattle.sf_noted.specs.Seen.{HasSeen, StepShows}
use Rattle.sf_noted.specs.Pages.{Page}
use Rattle.sf_noted.specs.declared.page.PageChange.TheVariants.{Answered}
use Rattle.sf_noted.specs.PageChanges.{page, page_after, as_told, IsUnderWay}
use Rattle.sf_noted.specs.Noted.{FitsPage, PagesAgree, lane_of}
use Rattle.sf_noted.proofs.Lanes.{answered_calls, own_place, lane_seen, lane_kept, lane_answered, lane_goes, steps_as, adds_as}
use Rattle.sf_noted.proofs.Keeping.{own_goes, own_waits, own_answers, not_strange}
use Rattle.sf_noted.proofs.Agreeing.{joins_stay, steps, step_goes, told_at_rest}
use Rattle.sf_noted.proofs.noted.NotedCore.step.Goals.{in-Moved, in-Blocked, in-Answered}
use Rattle.sf_noted.proofs.noted.NotedCore.step.Goals as goal

pub unreachable-requires : goal.unreachable-requires
unreachable-requires g c =
    let n = c.self.invariant in
    let h = c.self.inside.log in
    let t = c.lane.inside.ticket in
    let lane = c.lane.inside.lane in
    let x = c.step-step.ensures h n.0.history in
    let fits = subst (λ s. FitsPage c.self.inside.core h s t.1) (sym (own_place _ _ _ c.lane.invariant)) (n.0.each t.0 t.1 c.agrees-in-Stranger.ensures.known) in
    let B : Before = record { core = c.self.inside.core; history = h; lane = lane } in
    let A : After = record { core = c.step-step.new.self; added = x.0; lane = c.step-step.new.lane } in
    let takes = subst (λ (s : Step). TakesStep B s A) c.in-Stranger.is x.2 in
    not_strange c.self.inside.core h lane t.0 t.1 c.owners.ensures fits c.lane.invariant (subst (λ (y : ℕ × Page). IsUnderWay y.1.state) (sym c.lane.view_is) c.requires) takes.0

pub invariant_of-self : goal.invariant_of-self
invariant_of-self g c =
    let n = c.self.invariant in
    let h = c.self.inside.log in
    let t = c.lane.inside.ticket in
    let lane = c.lane.inside.lane in
    let is = (own_place _ _ _ c.lane.invariant) in
    let grew = c.grow.ensures in
    let x = adds_as _ _ _ _ _ _ _ _ _ _ h grew.0 c.of-before.ensures c.of-lane_before.ensures c.of-made.ensures c.of-after.ensures c.of-lane_after.ensures grew.2 in
    let B : Before = record { core = c.self.inside.core; history = h; lane = lane } in
    let A : After = record { core = c.step-step.new.self; added = grew.0; lane = c.step-step.new.lane } in
    elim c.match-step.branch [
      | in-Moved w ↦
          let takes = subst (λ (s : Step). TakesStep B s A) w.in-Moved.is x.1 in
          subst (λ s. PagesAgree s.core s.keeper s.log × (s.calls.total ≡ s.core.drawn)) (sym w.self-inside-is)
          (subst (λ (rs : List Record). PagesAgree A.core c.self.inside.keeper rs) (sym grew.1) (step_goes B step.Moved A c.self.inside.keeper takes c.owners.ensures c.owners-2.ensures x.0 n.0 (own_goes B A takes)), n.1 ∙ sym (joins_stay B step.Moved A takes).1)
      | in-Blocked w ↦
          let holder = w.in-Blocked.holder in
          let takes = subst (λ (s : Step). TakesStep B s A) w.in-Blocked.is x.1 in
          subst (λ s. PagesAgree s.core s.keeper s.log × (s.calls.total ≡ s.core.drawn)) (sym w.self-inside-is)
          (subst (λ (rs : List Record). PagesAgree A.core c.self.inside.keeper rs) (sym grew.1) (step_goes B (step.Blocked holder) A c.self.inside.keeper takes c.owners.ensures c.owners-2.ensures x.0 n.0 (own_waits B holder A takes)), n.1 ∙ sym (joins_stay B (step.Blocked holder) A takes).1)
      | in-Answered w ↦
          let given = w.in-Answered.answer in
          let a = w.agrees.ensures in
          let takes = subst (λ (s : Step). TakesStep B s A) w.in-Answered.is x.1 in
          let fits = subst (λ s. FitsPage c.self.inside.core h s t.1) (sym is) (n.0.each t.0 t.1 a.known) in
          let busy = subst (λ (y : ℕ × Page). IsUnderWay y.1.state) (sym c.lane.view_is) c.requires in
          let now = page Idle (t.1.told ++ as_told t.1.state given.reply) in
          let lines : w.change.new.self ≡ slice_set c.self.inside.keeper t.0 now =
          w.change.ensures.all ∙ ((λ i. slice_set (a.all i) (a.ticket i).0 (page_after (a.ticket i).1 (Answered w.of.result))) ∙ ap (λ r. slice_set c.self.inside.keeper t.0 (page Idle (t.1.told ++ as_told t.1.state r))) (w.of.ensures ∙ w.reply.ensures.reply)) in
          subst (λ s. PagesAgree s.core s.keeper s.log × (s.calls.total ≡ s.core.drawn)) (sym w.self-inside-is)
          (subst (λ (rs : List Record). PagesAgree A.core w.change.new.self rs) (sym (w.show.ensures.log ∙ grew.1)) (subst (λ (ps : List Page). PagesAgree A.core ps (h ++ grew.0)) (sym lines) (steps B (step.Answered given) A c.self.inside.keeper takes c.owners.ensures c.owners-2.ensures x.0 n.0 t.0 t.1 now a.known is (own_answers B given A takes t.1 fits) (answered_calls t.1.state t.1.told given.reply busy))), n.1 ∙ sym (joins_stay B (step.Answered given) A takes).1)
    ]

pub invariant_of-lane : goal.invariant_of-lane
invariant_of-lane g c =
    let n = c.self.invariant in
    let h = c.self.inside.log in
    let t = c.lane.inside.ticket in
    let lane = c.lane.inside.lane in
    let x = c.step-step.ensures h n.0.history in
    let busy = subst (λ (y : ℕ × Page). IsUnderWay y.1.state) (sym c.lane.view_is) c.requires in
    let B : Before = record { core = c.self.inside.core; history = h; lane = lane } in
    let A : After = record { core = c.step-step.new.self; added = x.0; lane = c.step-step.new.lane } in
    elim c.match-step.branch [
      | in-Moved w ↦
          let takes = subst (λ (s : Step). TakesStep B s A) w.in-Moved.is x.2 in
          subst (λ l. l.lane ≡ lane_of (l.ticket.0 + 1, l.ticket.1)) (sym w.lane-inside-is) (lane_kept lane A.lane t t c.lane.invariant (lane_goes B A takes) refl)
      | in-Blocked w ↦
          let takes = subst (λ (s : Step). TakesStep B s A) w.in-Blocked.is x.2 in
          subst (λ l. l.lane ≡ lane_of (l.ticket.0 + 1, l.ticket.1)) (sym w.lane-inside-is) (lane_kept lane A.lane t t c.lane.invariant takes.1.lane refl)
      | in-Answered w ↦
          let given = w.in-Answered.answer in
          let a = w.agrees.ensures in
          let takes = subst (λ (s : Step). TakesStep B s A) w.in-Answered.is x.2 in
          let told = w.change.ensures.ticket ∙ ((λ i. ((a.ticket i).0, page_after (a.ticket i).1 (Answered w.of.result))) ∙ ap (λ r. (t.0, page Idle (t.1.told ++ as_told t.1.state r))) (w.of.ensures ∙ w.reply.ensures.reply)) in
          subst (λ l. l.lane ≡ lane_of (l.ticket.0 + 1, l.ticket.1)) (sym w.lane-inside-is) (lane_answered lane A.lane t _ given.reply c.lane.invariant busy takes.1.lane told)
    ]

pub returns-clause-steps : goal.returns-clause-steps
returns-clause-steps g c =
    let inside = c.match-step.lane-inside in
    let same : (c.step-step.result ≡ c.match-step.result) × (c.step-step.new.self ≡ c.match-step.self-inside.core) × (c.step-step.new.lane ≡ inside.lane) = elim c.match-step.branch [
      | in-Moved w ↦ (w.in-Moved.is ∙ sym w.result-is, ap (λ s. s.core) (sym w.self-inside-is), ap (λ l. l.lane) (sym w.lane-inside-is))
      | in-Blocked w ↦ (w.in-Blocked.is ∙ sym w.result-is, ap (λ s. s.core) (sym w.self-inside-is), ap (λ l. l.lane) (sym w.lane-inside-is))
      | in-Answered w ↦ (w.in-Answered.is ∙ sym w.result-is, ap (λ s. s.core) (sym w.self-inside-is), ap (λ l. l.lane) (sym w.lane-inside-is))
    ] in
    let was : c.lane.inside.lane ≡ lane_of c.args.lane.now = sym (lane_seen _ _ _ c.lane.invariant) ∙ ap lane_of c.lane.view_is in
    let now = lane_seen inside.lane inside.ticket.0 inside.ticket.1 (invariant_of-lane g c) in
    steps_as _ _ _ _ _ _ _ _ _ _ (ap (λ (x : CoreView × List Page × List Record). x.0) c.self.view_is) was same.0 same.1 (same.2 ∙ sym now) c.step-step.ensures

pub grow-requires : goal.grow-requires
grow-requires g c =
    let x = c.step-step.ensures c.self.inside.log c.self.invariant.0.history in
    (x.0, adds_as _ _ _ _ _ _ _ _ _ _ c.self.inside.log x.0 (sym c.of-before.ensures) (sym c.of-lane_before.ensures) (sym c.of-made.ensures) (sym c.of-after.ensures) (sym c.of-lane_after.ensures) (x.1, x.2))

pub returns-clause-seen : goal.returns-clause-seen
returns-clause-seen g c =
    let was = c.args.seen.now in
    elim c.match-step.branch [
      | in-Moved w ↦ subst (λ (h : List Record). IsPrefixOf was h) (sym w.seen-is) (prefix_self was)
      | in-Blocked w ↦ subst (λ (h : List Record). IsPrefixOf was h) (sym w.seen-is) (prefix_self was)
      | in-Answered w ↦ subst (λ (h : List Record). IsPrefixOf was h) (sym (w.seen-is ∙ w.show.ensures.seen)) w.show.ensures.known
    ]

pub returns-clause-shows : goal.returns-clause-shows
returns-clause-shows g c =
    let n = c.self.invariant in
    let h = c.self.inside.log in
    let t = c.lane.inside.ticket in
    let lane = c.lane.inside.lane in
    let is = (own_place _ _ _ c.lane.invariant) in
    let grew = c.grow.ensures in
    let x = adds_as _ _ _ _ _ _ _ _ _ _ h grew.0 c.of-before.ensures c.of-lane_before.ensures c.of-made.ensures c.of-after.ensures c.of-lane_after.ensures grew.2 in
    let B : Before = record { core = c.self.inside.core; history = h; lane = lane } in
    let A : After = record { core = c.step-step.new.self; added = grew.0; lane = c.step-step.new.lane } in
    let was = c.args.seen.now in
    let seen = c.match-step.seen in
    let after : ℕ × Page = (c.match-step.lane-inside.lane.session, c.match-step.lane-inside.ticket.1) in
    elim c.match-step.branch [
      | in-Moved w ↦ subst (λ (s : Step). StepShows s after was seen) (sym w.result-is) w.seen-is
      | in-Blocked w ↦ subst (λ (s : Step). StepShows s after was seen) (sym w.result-is) w.seen-is
      | in-Answered w ↦
          let given = w.in-Answered.answer in
          let a = w.agrees.ensures in
          let takes = subst (λ (s : Step). TakesStep B s A) w.in-Answered.is x.1 in
          let fits = subst (λ s. FitsPage c.self.inside.core h s t.1) (sym is) (n.0.each t.0 t.1 a.known) in
          let now = page Idle (t.1.told ++ as_told t.1.state given.reply) in
          let ticket : w.change.new.ticket ≡ (t.0, now) = w.change.ensures.ticket ∙ ((λ i. ((a.ticket i).0, page_after (a.ticket i).1 (Answered w.of.result))) ∙ ap (λ r. (t.0, page Idle (t.1.told ++ as_told t.1.state r))) (w.of.ensures ∙ w.reply.ensures.reply)) in
          let told = told_at_rest A.core (h ++ grew.0) lane.session now (own_answers B given A takes t.1 fits) refl in
          let own : HasSeen seen (A.lane.session, w.change.new.ticket.1) =
          ap (call_records A.lane.session) (w.seen-is ∙ (w.show.ensures.seen ∙ grew.1))
          ∙ (ap (λ (l : LaneView). call_records l.session (h ++ grew.0)) takes.1.lane ∙ (told ∙ sym (ap (λ (u : ℕ × Page). u.1.told) ticket))) in
          subst (λ (s : Step). StepShows s after was seen) (sym w.result-is)
          (subst (λ l. HasSeen seen (l.lane.session, l.ticket.1)) (sym w.lane-inside-is) own)
    ]
