use Rattle.std.proofs.Common.{◌≡◌, false, [], refl, inr}
use Rattle.std.proofs.KnownBytes.{Appends-nil}
use Rattle.sf_alone.proofs.on_engine.turns.Goals as goal

pub returns-then-not-may_begin : goal.returns-then-not-may_begin
returns-then-not-may_begin g c =
    let none : c.args.may_begin ≡ false = search in (0, [], c.turns.ensures, Appends-nil (g.C.Clock.moments c.args.clock.now), inr (refl, none))
