use Rattle.std.proofs.Common.{subst, sym}
use Rattle.sf_coupling.specs.Walks.{Namespace, walkers_at, AreWalks}
use Rattle.sf_coupling.proofs.Laws.{step_keeps}
use Rattle.sf_coupling.proofs.walk_laws.steps_kept.Goals as goal

pub returns : goal.returns
returns c s new n q walks same free there takes others hands =
    subst (λ (t : Namespace). AreWalks (walkers_at t new.held_paths new.holder)) (sym same)
    (step_keeps s.namespace s.held_paths s.holder n walks q free there new.held_paths new.holder takes others hands)
