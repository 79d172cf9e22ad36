use Rattle.std.proofs.Common.{◌-◌, ◌^◌, Ok, refl, sym, subst}
use Rattle.sf_core.specs.Lanes.{LaneView}
use Rattle.sf_engine.specs.declared.event.Happened.TheVariants as happened
use Rattle.sf_engine.specs.declared.hosted.HostedState.{HostedState}
use Rattle.sf_engine.specs.declared.hosted.HostedState.TheVariants as state
use Rattle.sf_engine.specs.Turns.{IsHostedState, stand, IsReady, GoesFar, finding}
use Rattle.sf_engine.proofs.Chains.{AnsweredEnd, going, answered_placed, answered_walk, blocked_walk, moved_walk, no_stranger}
use Rattle.sf_engine.proofs.hosted.HostedState.walk_on.Goals as goal

pub write_on-requires-clause-placed : goal.write_on-requires-clause-placed
write_on-requires-clause-placed c = λ lane is.
    let old = c.args in
    let ready = subst (λ (p : HostedState). IsReady (stand old.core.now old.session.now p)) c.in-UnderWay.is c.requires.ready in
    let P : LaneView → Type 0 = λ l. IsHostedState c.walk.new.self old.session.now (state.Decided l c.in-Answered.answer) in
    subst P (sym is) (answered_placed (stand old.core.now old.session.now old.self.now) c.in-UnderWay.lane (2 ^ 64 - 1) (record { core = c.walk.new.self; lane = c.walk.new.lane; answer = c.in-Answered.answer }) c.in-Answered.ensures ready)

pub unreachable-requires-in-Stranger : goal.unreachable-requires-in-Stranger
unreachable-requires-in-Stranger c =
    let old = c.args in
    let ready = subst (λ (p : HostedState). IsReady (stand old.core.now old.session.now p)) c.in-UnderWay.is c.requires.ready in
    no_stranger (stand old.core.now old.session.now old.self.now) c.in-UnderWay.lane (2 ^ 64 - 1) c.walk.new.self c.walk.new.lane c.in-Stranger.ensures ready

pub returns-in-Answered : goal.returns-in-Answered
returns-in-Answered c = λ moment.
    let old = c.args in
    let new = stand c.write_on.new.core c.write_on.new.session c.write_on.new.self in
    let P : HostedState → Type 0 = λ p. GoesFar (stand old.core.now old.session.now p) (finding old.closed moment) c.write_on.result new in
    let end : AnsweredEnd = record { core = c.walk.new.self; lane = c.walk.new.lane; answer = c.in-Answered.answer } in
    subst P (sym c.in-UnderWay.is) (answered_walk (stand old.core.now old.session.now old.self.now) c.in-UnderWay.lane (finding old.closed moment) (2 ^ 64 - 1) end c.write_on.result new c.in-Answered.ensures (c.write_on.ensures c.walk.new.lane refl moment))

pub returns-in-Blocked : goal.returns-in-Blocked
returns-in-Blocked c = λ moment.
    let old = c.args in
    let new = going c.walk.new.self old.session.now c.walk.new.lane in
    let P : HostedState → Type 0 = λ p. GoesFar (stand old.core.now old.session.now p) (finding old.closed moment) (Ok (happened.Blocked c.in-Blocked.holder)) new in
    subst P (sym c.in-UnderWay.is) (blocked_walk (stand old.core.now old.session.now old.self.now) c.in-UnderWay.lane (finding old.closed moment) (2 ^ 64 - 1) c.in-Blocked.holder c.walk.new.self c.walk.new.lane c.in-Blocked.ensures)

pub returns-in-Moved : goal.returns-in-Moved
returns-in-Moved c = λ moment.
    let old = c.args in
    let new = going c.walk.new.self old.session.now c.walk.new.lane in
    let P : HostedState → Type 0 = λ p. GoesFar (stand old.core.now old.session.now p) (finding old.closed moment) (Ok happened.Moved) new in
    subst P (sym c.in-UnderWay.is) (moved_walk (stand old.core.now old.session.now old.self.now) c.in-UnderWay.lane (finding old.closed moment) (2 ^ 64 - 1) c.walk.new.self c.walk.new.lane refl c.in-Moved.ensures)
