use Rattle.std.proofs.Common.{◌<◌, ℕ, zero, suc, subst, arith}
use Rattle.sf_core.specs.declared.step.Step.{Step}
use Rattle.sf_core.specs.Lanes.{LaneView}
use Rattle.sf_core.specs.Cores.{CoreView}
use Rattle.sf_core.specs.Events.{StepsOn, TakesMoves}
use Rattle.sf_core.proofs.cores.Core.step.Goals as goal

-- the one step
only_step : (v : CoreView) (lane : LaneView) (s : Step) (w : CoreView) (lane' : LaneView) (k : ℕ) (mid : CoreView) → k < 1 → TakesMoves k v lane mid → StepsOn mid lane s w lane' → StepsOn v lane s w lane'
unfolding TakesMoves
only_step v lane s w lane' zero mid few moved last = subst (λ (x : CoreView). StepsOn x lane s w lane') moved last
only_step v lane s w lane' (suc k) mid few moved last = absurd (omega (arith, few))

pub returns : goal.returns
returns c =
    let it = c.walk.ensures in
    only_step c.args.self.now c.args.lane.now c.walk.result c.walk.new.self c.walk.new.lane it.moves it.mid it.few it.moved it.last
