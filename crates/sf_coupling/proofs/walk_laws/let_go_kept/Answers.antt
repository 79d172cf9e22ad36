use Rattle.std.proofs.Common.{subst, sym}
use Rattle.sf_coupling.specs.Walks.{Namespace, walkers_at, AreWalks}
use Rattle.sf_coupling.proofs.Laws.{let_go_keeps}
use Rattle.sf_coupling.proofs.walk_laws.let_go_kept.Goals as goal

pub returns : goal.returns
returns c s new n walks same none others hands =
    subst (λ (t : Namespace). AreWalks (walkers_at t new.held_paths new.holder)) (sym same)
    (let_go_keeps s.namespace s.held_paths new.held_paths s.holder new.holder n walks none others hands)
