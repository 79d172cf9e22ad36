use Rattle.std.proofs.Common.{◌∙◌, refl, sym, subst, arith}
use Rattle.sf_pool.specs.SessionLanes.{HasCallUnderWay, SessionLaneView}
use Rattle.sf_pool.proofs.Seeing.{sees_same, sees_along}
use Rattle.sf_pool.proofs.calling.finish.Goals as goal

pub loop-steps-init : goal.loop-steps-init
loop-steps-init g c = record { same = refl; count = omega arith; begins = refl; sees = sees_same refl refl }

pub step-requires : goal.step-requires
step-requires g c = subst (λ (d : SessionLaneView). HasCallUnderWay d.place) (sym (c.stop_at.ensures.at ∙ c.loop-steps.invariant.same)) c.requires
