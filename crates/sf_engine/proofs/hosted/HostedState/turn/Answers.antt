use Rattle.std.proofs.Common.{subst}
use Rattle.sf_engine.specs.declared.hosted.HostedState.{HostedState}
use Rattle.sf_engine.specs.Turns.{IsHostedState}
use Rattle.sf_engine.proofs.hosted.HostedState.turn.Goals as goal

pub unreachable-requires : goal.unreachable-requires
unreachable-requires c =
    let P : HostedState → Type 0 = λ p. IsHostedState c.args.core.now c.args.session.now p in
    let own = subst P c.in-UnderWay.is c.requires in
    (c.in-Stranger.ensures own.0 own.2).2.0 own.1 own.3
