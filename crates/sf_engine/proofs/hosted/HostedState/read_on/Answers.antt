use Rattle.std.proofs.Common.{◌≡◌, List, Option, false, IfSome, IfNone, ap, sym, subst, ◌∙◌}
use Rattle.sf_call.specs.declared.record.Record.{Record}
use Rattle.sf_call.specs.Answers.{AnswerView}
use Rattle.sf_session.specs.Sessions.{SessionView}
use Rattle.sf_core.specs.declared.fault.CoreFault.{CoreFault}
use Rattle.sf_core.specs.declared.step.Step.TheVariants as step
use Rattle.sf_core.specs.Lanes.{LaneView}
use Rattle.sf_core.specs.Events.{CallBegins, begun, AnswersAtOnce, RefusesBegin, walk_end}
use Rattle.sf_core.specs.Histories.{IsHistory}
use Rattle.sf_engine.specs.declared.event.Happened.TheVariants as happened
use Rattle.sf_engine.specs.declared.hosted.HostedState.{HostedState}
use Rattle.sf_engine.specs.declared.hosted.HostedState.TheVariants as state
use Rattle.sf_engine.specs.Turns.{IsHostedState, IsReady, GoesFar, TurnGives, Stand, stand, finding}
use Rattle.sf_engine.proofs.Chains.{AnsweredEnd, going, read_far, unread_far}
use Rattle.sf_engine.proofs.Packets.{asked, CallBegun, IsAnsweredAtOnce, refused_turn, can_go_on, goes_far, placed_at_once, far_at_once}
use Rattle.sf_engine.proofs.hosted.HostedState.read_on.Goals as goal

pub returns-in_default : goal.returns-in_default
returns-in_default c =
    let old = c.args in
    let a = stand old.core.now old.session.now old.self.now in
    unread_far a (finding old.closed old.moment) (stand old.core.now c.next.new.self old.self.now) c.requires.resting (ap (λ (x : SessionView). stand old.core.now x old.self.now) c.in_default.ensures.err)

pub returns-in_default-next : goal.returns-in_default-next
returns-in_default-next c =
    let old = c.args in
    let new = c.read_other.new in
    let known = c.read_other.ensures old.session.now c.next.new.self c.in-Ok.ensures.ok in
    read_far (stand old.core.now old.session.now old.self.now) (finding old.closed old.moment) c.read_other.result (stand new.core c.next.new.self new.self) c.requires.resting c.requires.ready (known.0 old.moment) known.1

pub returns-in-Err-Refused : goal.returns-in-Err-Refused
returns-in-Err-Refused c =
    let old = c.args in
    let a = asked old.core.now old.session.now c.next.new.self old.self.now c.in-Ok.ensures.ok c.in-Call.is c.in-Resting.is in
    let same = c.in-Err-Refused.ensures.err in
    let refused = subst (λ (f : CoreFault). RefusesBegin old.core.now a.lane f) c.in-Err-Refused.field-0-is c.in-Err-Refused.ensures.fault in
    let turn = refused_turn a old.moment c.in-Err-Refused.fault c.refuse.new.self refused.1 c.refuse.ensures in
    let end = stand c.call.new.self c.refuse.new.self (state.Resting c.call.new.lane) in
    let moved : stand old.core.now c.refuse.new.self (state.Resting a.lane) ≡ end = λ i. stand (sym same.0 i) c.refuse.new.self (state.Resting (sym same.1 i)) in
    read_far a.from (finding old.closed old.moment) happened.Wrote end c.requires.resting c.requires.ready (subst (λ (b : Stand). TurnGives a.from (finding false old.moment) happened.Wrote b) moved turn) (λ e. cc)

pub write_on-requires-clause-placed : goal.write_on-requires-clause-placed
write_on-requires-clause-placed c = λ lane is.
    let old = c.args in
    let a = asked old.core.now old.session.now c.next.new.self old.self.now c.in-Ok.ensures.ok c.in-Call.is c.in-Resting.is in
    let end : AnsweredEnd = record { core = c.call.new.self; lane = c.call.new.lane; answer = c.in-Some.answer } in
    let made : IsAnsweredAtOnce a old.moment end = subst (λ (o : Option AnswerView). IfSome o (λ answer. AnswersAtOnce old.core.now a.lane a.request old.moment (walk_end (step.Answered answer) c.call.new.self c.call.new.lane))) c.in-Some.is c.in-Ok-call.ensures.answered in
    subst (λ (l : LaneView). IsHostedState end.core a.session (state.Decided l end.answer)) (sym (is ∙ c.take_lane.ensures)) (placed_at_once a old.moment end made c.requires.ready)

pub walk_on-requires-clause-ready : goal.walk_on-requires-clause-ready
walk_on-requires-clause-ready c =
    let old = c.args in
    let a = asked old.core.now old.session.now c.next.new.self old.self.now c.in-Ok.ensures.ok c.in-Call.is c.in-Resting.is in
    let begins = subst (λ (o : Option AnswerView). IfNone o (CallBegins old.core.now c.call.new.self a.lane a.request old.moment × (c.call.new.lane ≡ begun a.lane c.call.new.self.drawn) × ((h : List Record) → IsHistory old.core.now h → IsHistory c.call.new.self h))) c.in-None.is c.in-Ok-call.ensures.begun in
    let b : CallBegun a old.moment = record { core = c.call.new.self; begins = begins.0; history = begins.2 } in
    subst (λ (l : LaneView). IsReady (going b.core a.session l)) (sym (c.take_lane.ensures ∙ begins.1)) (can_go_on a old.moment b c.requires.ready)

pub returns-in-Some : goal.returns-in-Some
returns-in-Some c =
    let old = c.args in
    let a = asked old.core.now old.session.now c.next.new.self old.self.now c.in-Ok.ensures.ok c.in-Call.is c.in-Resting.is in
    let end : AnsweredEnd = record { core = c.call.new.self; lane = c.call.new.lane; answer = c.in-Some.answer } in
    let made : IsAnsweredAtOnce a old.moment end = subst (λ (o : Option AnswerView). IfSome o (λ answer. AnswersAtOnce old.core.now a.lane a.request old.moment (walk_end (step.Answered answer) c.call.new.self c.call.new.lane))) c.in-Some.is c.in-Ok-call.ensures.answered in
    let wrote = c.write_on.ensures c.call.new.lane (sym c.take_lane.ensures) old.moment in
    far_at_once a (finding old.closed old.moment) end made c.write_on.result (stand c.write_on.new.core c.write_on.new.session c.write_on.new.self) wrote

pub returns-in-None : goal.returns-in-None
returns-in-None c =
    let old = c.args in
    let a = asked old.core.now old.session.now c.next.new.self old.self.now c.in-Ok.ensures.ok c.in-Call.is c.in-Resting.is in
    let begins = subst (λ (o : Option AnswerView). IfNone o (CallBegins old.core.now c.call.new.self a.lane a.request old.moment × (c.call.new.lane ≡ begun a.lane c.call.new.self.drawn) × ((h : List Record) → IsHistory old.core.now h → IsHistory c.call.new.self h))) c.in-None.is c.in-Ok-call.ensures.begun in
    let b : CallBegun a old.moment = record { core = c.call.new.self; begins = begins.0; history = begins.2 } in
    let end = stand c.walk_on.new.core c.walk_on.new.session c.walk_on.new.self in
    goes_far a (finding old.closed old.moment) b c.walk_on.result end
    (subst (λ (l : LaneView). GoesFar (going b.core a.session l) (finding old.closed old.moment) c.walk_on.result end) (c.take_lane.ensures ∙ begins.1) (c.walk_on.ensures old.moment))

pub unreachable-requires-in-Err-Stranger : goal.unreachable-requires-in-Err-Stranger
unreachable-requires-in-Err-Stranger c =
    let idle = subst (λ (p : HostedState). IsHostedState c.args.core.now c.args.session.now p) c.in-Resting.is c.requires.ready.placed in
    subst (λ (f : CoreFault). RefusesBegin c.args.core.now c.in-Resting.lane f) c.in-Err-Stranger.field-0-is c.in-Err-Stranger.ensures.fault idle.1
