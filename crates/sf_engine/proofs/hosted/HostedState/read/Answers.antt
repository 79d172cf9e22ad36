use Rattle.std.proofs.Common.{◌≡◌, false, sym, subst, ◌∙◌}
use Rattle.sf_core.specs.declared.fault.CoreFault.{CoreFault}
use Rattle.sf_core.specs.Lanes.{LaneView}
use Rattle.sf_core.specs.Events.{RefusesBegin}
use Rattle.sf_engine.specs.declared.event.Happened.TheVariants as happened
use Rattle.sf_engine.specs.declared.hosted.HostedState.{HostedState}
use Rattle.sf_engine.specs.declared.hosted.HostedState.TheVariants as state
use Rattle.sf_engine.specs.Turns.{IsHostedState, Stand, TurnGives, stand, finding}
use Rattle.sf_engine.proofs.Chains.{going}
use Rattle.sf_engine.proofs.Packets.{asked, begun_turn, refused_turn}
use Rattle.sf_engine.proofs.hosted.HostedState.read.Goals as goal

pub returns-in_default-next-clause-ok : goal.returns-in_default-next-clause-ok
returns-in_default-next-clause-ok c = (c.read_other.ensures c.args.session.now c.next.new.self c.in-Ok.ensures.ok).0 c.args.moment

pub returns-in-Ok-begin-clause-ok : goal.returns-in-Ok-begin-clause-ok
returns-in-Ok-begin-clause-ok c =
    let old = c.args in
    let a = asked old.core.now old.session.now c.next.new.self old.self.now c.in-Ok.ensures.ok c.in-Call.is c.in-Resting.is in
    subst (λ (l : LaneView). TurnGives a.from (finding false old.moment) happened.Begun (going c.begin.new.self a.session l)) (sym (c.take_lane.ensures ∙ c.in-Ok-begin.ensures.place))
    (begun_turn a old.moment (record { core = c.begin.new.self; begins = c.in-Ok-begin.ensures.ok; history = c.in-Ok-begin.ensures.history }))

pub returns-in-Err-Refused-clause-ok : goal.returns-in-Err-Refused-clause-ok
returns-in-Err-Refused-clause-ok c =
    let old = c.args in
    let a = asked old.core.now old.session.now c.next.new.self old.self.now c.in-Ok.ensures.ok c.in-Call.is c.in-Resting.is in
    let same = c.in-Err-Refused.ensures.err in
    let refused = subst (λ (f : CoreFault). RefusesBegin old.core.now a.lane f) c.in-Err-Refused.field-0-is c.in-Err-Refused.ensures.fault in
    let moved : stand old.core.now c.refuse.new.self (state.Resting a.lane) ≡ stand c.begin.new.self c.refuse.new.self (state.Resting c.begin.new.lane) =
    λ i. stand (sym same.0 i) c.refuse.new.self (state.Resting (sym same.1 i)) in
    subst (λ (b : Stand). TurnGives a.from (finding false old.moment) happened.Wrote b) moved (refused_turn a old.moment c.in-Err-Refused.fault c.refuse.new.self refused.1 c.refuse.ensures)

pub unreachable-requires-in-Err-Stranger : goal.unreachable-requires-in-Err-Stranger
unreachable-requires-in-Err-Stranger c =
    let idle = subst (λ (p : HostedState). IsHostedState c.args.core.now c.args.session.now p) c.in-Resting.is c.requires.placed in
    subst (λ (f : CoreFault). RefusesBegin c.args.core.now c.in-Resting.lane f) c.in-Err-Stranger.field-0-is c.in-Err-Stranger.ensures.fault idle.1
