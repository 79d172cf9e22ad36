use Rattle.std.proofs.Common.{Ok, sym, subst}
use Rattle.sf_engine.specs.declared.event.Happened.TheVariants as happened
use Rattle.sf_engine.specs.declared.hosted.HostedState.{HostedState}
use Rattle.sf_engine.specs.declared.hosted.HostedState.TheVariants as state
use Rattle.sf_engine.specs.Turns.{stand, GoesFar, finding}
use Rattle.sf_engine.proofs.Chains.{answer_far, left_far}
use Rattle.sf_engine.proofs.hosted.HostedState.turns.Goals as goal

pub returns-in-Decided : goal.returns-in-Decided
returns-in-Decided c =
    let old = c.args in
    let new = c.turn.new in
    let g = c.turn.ensures in
    answer_far (stand old.core.now old.session.now old.self.now) (finding old.closed old.moment) c.turn.result (stand new.core new.session new.self) c.in-Decided.field-0 c.in-Decided.field-1 c.in-Decided.is c.requires (record { ok = g.ok; err = g.err; fault = g.fault })

pub returns-in-Gone : goal.returns-in-Gone
returns-in-Gone c =
    let old = c.args in
    let P : HostedState → Type 0 = λ p. GoesFar (stand old.core.now old.session.now p) (finding old.closed old.moment) (Ok (happened.Ended c.in-Gone.cause)) (stand old.core.now old.session.now (state.Gone c.in-Gone.cause)) in
    subst P (sym c.in-Gone.is) (left_far old.core.now old.session.now c.in-Gone.cause (finding old.closed old.moment))
