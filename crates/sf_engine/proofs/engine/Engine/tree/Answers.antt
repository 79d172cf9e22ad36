use Rattle.std.proofs.Common.{◌≡◌, List, Ok, Err, IfOk, sym, subst}
use Rattle.sf_call.specs.declared.record.Record.{Record}
use Rattle.sf_call.specs.Histories.{replay}
use Rattle.sf_call.specs.Leaves.{leaves_of}
use Rattle.sf_core.specs.Histories.{IsHistory}
use Rattle.sf_engine.specs.Views.{EngineView}
use Rattle.sf_engine.specs.Promise.{Entry, linearization}
use Rattle.sf_engine.specs.HasLog.{HasLog}
use Rattle.sf_engine.proofs.engine.Engine.tree.Goals as goal

pub returns : goal.returns
returns c =
    let now : EngineView = c.args.self.now in
    elim c.tree.result as (λ r. IfOk r (λ leaves. (h : List Record) → IsHistory c.self.inside.core h → leaves.items ≡ leaves_of (replay h)) → IfOk r (λ leaves. (log : List Entry) → HasLog now log → leaves.items ≡ leaves_of (replay (linearization log)))) [
      | Ok leaves ↦ λ r log h. r (linearization log) (subst (λ (e : EngineView). IsHistory e.core (linearization log)) (sym c.self.view_is) h.history)
      | Err e ↦ λ r. tt
    ] c.tree.ensures
