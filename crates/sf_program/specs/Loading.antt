-- An engine with the contents of a folder.
use Rattle.std.specs.Prelude.{◌≡◌, ℕ, List, [], Option, Some, Ok}
use Rattle.sf_engine.specs.Views.{EngineView}
use Rattle.sf_engine.specs.HasLog.{HasLog}
use Rattle.sf_engine.specs.contracts.promise.EngineSftp.TheImpl.{ghosts}
use Rattle.sf_trees.specs.Operations.{Does}
use Rattle.sf_asking.specs.Askers.{AskerView}
use Rattle.sf_asking.specs.Asking.{Reaches}
use Rattle.sf_loading.specs.declared.folder.Item.{Item}
use Rattle.sf_loading.specs.Loading.{Loads}

abbrev pub asked_at : ℕ → EngineView → AskerView EngineView
asked_at moment e = record { engine = e; moment = moment }

-- A new engine that keeps `keep` records, on which one session created all that a folder has.
pub record IsLoaded (keep moment : ℕ) (old new : Option (List Item)) (e : EngineView) : Type 0 where
  pub first : EngineView
  pub has : HasLog first []
  pub keeps : first.core.keep ≡ Some keep
  pub last : AskerView EngineView
  pub loads : Does (Reaches ghosts.has_log) (asked_at moment first) last (Loads old new) (Ok tt)
  pub engine : last.engine ≡ e
