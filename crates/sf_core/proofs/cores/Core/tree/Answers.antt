use Rattle.std.proofs.Common.{◌≡◌, List, [], ◌∷◌, Ok, Err, IfOk, sym, subst}
use Rattle.sf_call.specs.declared.record.Record.{Record}
use Rattle.sf_call.specs.Histories.{replay}
use Rattle.sf_inode.specs.Leaves.{AreLeaves}
use Rattle.sf_inode.specs.Stores.{StoreState}
use Rattle.sf_call.specs.Leaves.{leaves_of}
use Rattle.sf_keeps.proofs.Laws.{leaves_kept}
use Rattle.sf_core.specs.Cores.{CoreView}
use Rattle.sf_core.specs.Histories.{IsHistory}
use Rattle.sf_core.proofs.cores.Core.tree.Goals as goal

pub returns : goal.returns
returns c =
    let now : CoreView = c.args.self.now in
    let s : StoreState = c.self.inside.parts.store in
    elim c.leaves.result as (λ r. IfOk r (λ leaves. AreLeaves s.nodes (([], s.root) ∷ []) leaves.items) → IfOk r (λ leaves. (h : List Record) → IsHistory now h → leaves.items ≡ leaves_of (replay h))) [
      | Ok leaves ↦ λ r h is. leaves_kept s (replay h) (subst (λ (v : CoreView). IsHistory v h) (sym c.self.view_is) is).tree leaves.items r
      | Err e ↦ λ r. tt
    ] c.leaves.ensures
