use Rattle.std.proofs.Common.{◌≡◌, ◌+◌, ◌∙◌, refl, ap, sym, subst, arith}
use Rattle.sf_call.specs.Histories.{IsGiven}
use Rattle.sf_core.specs.Cores.{CoreView}
use Rattle.sf_core.specs.Events.{AnswersAtOnce, begun, walk_end}
use Rattle.sf_core.specs.Lanes.{LaneView, at_rest}
use Rattle.sf_core.specs.Parts.{core_of}
use Rattle.sf_core.specs.Progress.{undecided_in}
use Rattle.sf_core.specs.declared.step.Step.TheVariants.{Answered}
use Rattle.sf_core.proofs.AtOnce.{given_at_once, answered_at_once, core_at_once}
use Rattle.sf_core.proofs.Starting.{no_call}
use Rattle.sf_core.proofs.Unrecorded.{roomy}
use Rattle.sf_core.proofs.cores.Core.call.Goals as goal

pub answer_at_once-requires-clause-new : goal.answer_at_once-requires-clause-new
answer_at_once-requires-clause-new c = no_call c.self.inside.parts c.self.invariant.0.sound.ledger

pub answer_at_once-requires-clause-settled : goal.answer_at_once-requires-clause-settled
answer_at_once-requires-clause-settled c = c.self.invariant.0.sound.copied.copies.settled

pub invariant_of-self : goal.invariant_of-self
invariant_of-self c =
    let core = c.self.invariant.0 in
    let err = c.in_default.ensures.err in
    let places = c.self.invariant.1 in
    let calls = ap undecided_in err.calls in
    (record { history = core.history; sound = roomy c.self.inside.parts c.answer_at_once.new.self core.history core.sound err }, omega (arith, places, calls))

pub new-answer-requires : goal.new-answer-requires
new-answer-requires c =
    let p = c.self.inside.parts in
    let at = c.in-Ok.ensures.ok in
    let lane : LaneView = record { session = c.lane.inside.session; call = c.lane.inside.call; begun = c.lane.inside.begun } in
    let once = sym c.is_at_once.ensures ∙ c.if-not-is_at_once.false in
    subst (λ k. IsGiven k lane.session c.in-Ok.reply) (sym (c.drawn-2.ensures ∙ at.finished.records.drawn ∙ at.begun.drawn))
    (given_at_once lane p c.answer_at_once.new.self c.self.invariant.0 c.args.request c.args.moment c.in-Ok.reply once (c.if-not-is_idle.ensures.0 refl) (omega (arith, c.drawn.ensures, c.if-drawn-ge-LAST_NUMBER.false)) c.look_ups-count.ensures.fits at)

pub invariant_of-self-2 : goal.invariant_of-self-2
invariant_of-self-2 c =
    let p = c.self.inside.parts in
    let at = c.in-Ok.ensures.ok in
    let lane : LaneView = record { session = c.lane.inside.session; call = c.lane.inside.call; begun = c.lane.inside.begun } in
    let once = sym c.is_at_once.ensures ∙ c.if-not-is_at_once.false in
    let places = c.self.invariant.1 in
    let calls = ap undecided_in at.calls in (
      core_at_once lane p c.answer_at_once.new.self c.self.invariant.0 c.args.request c.args.moment c.in-Ok.reply once (c.if-not-is_idle.ensures.0 refl) (omega (arith, c.drawn.ensures, c.if-drawn-ge-LAST_NUMBER.false)) c.look_ups-count.ensures.fits at,
      omega (arith, places, calls),
    )

pub returns-clause-answered : goal.returns-clause-answered
returns-clause-answered c =
    let p = c.self.inside.parts in
    let q = c.answer_at_once.new.self in
    let at = c.in-Ok.ensures.ok in
    let lane : LaneView = record { session = c.lane.inside.session; call = c.lane.inside.call; begun = c.lane.inside.begun } in
    let new : LaneView = record { session = c.lane.inside.session; call = c.lane.inside.call; begun = c.saturating_add-lane-inside.result } in
    let once = sym c.is_at_once.ensures ∙ c.if-not-is_at_once.false in
    let number = c.drawn-2.ensures ∙ at.finished.records.drawn ∙ at.begun.drawn in
    let a = c.new-answer.result in
    let rests : at_rest (begun lane (p.drawn + 1)) ≡ new =
    λ i. record { session = c.lane.inside.session; call = sym (ap (λ (l : LaneView). l.call) c.lane.view_is ∙ c.requires) i; begun = sym c.saturating_add-lane-inside.ensures i } in
    subst (λ (v : CoreView). AnswersAtOnce v c.args.lane.now c.args.request c.args.moment (walk_end (Answered a) (core_of q) new)) c.self.view_is
    (subst (λ (l : LaneView). AnswersAtOnce (core_of p) l c.args.request c.args.moment (walk_end (Answered a) (core_of q) new)) c.lane.view_is
    (subst (λ (l : LaneView). AnswersAtOnce (core_of p) lane c.args.request c.args.moment (walk_end (Answered a) (core_of q) l)) rests
    (answered_at_once lane p q c.self.invariant.0 c.args.request c.args.moment c.in-Ok.reply once (c.if-not-is_idle.ensures.0 refl) (omega (arith, c.drawn.ensures, c.if-drawn-ge-LAST_NUMBER.false)) c.look_ups-count.ensures.fits at
    a (c.new-answer.ensures ∙ ap (λ k. record { number = k; session = lane.session; reply = c.in-Ok.reply }) number))))
