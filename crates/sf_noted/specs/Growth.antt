-- No public clause cites this module.
-- What the events of a core add to its history.
use Rattle.std.specs.Prelude.{◌≡◌, List, [], ◌∷◌, ◌++◌}
use Rattle.sf_call.specs.declared.record.Record.{Record}
use Rattle.sf_call.specs.declared.record.Record.TheVariants.{Left}
use Rattle.sf_core.specs.declared.step.Step.{Step}
use Rattle.sf_core.specs.Lanes.{LaneView}
use Rattle.sf_core.specs.Cores.{CoreView}
use Rattle.sf_core.specs.Histories.{IsHistory}
use Rattle.sf_core.specs.Events.{TakesStep}
use Rattle.sf_noted.specs.declared.growth.HistoryGrowth.{HistoryGrowth}
use Rattle.sf_noted.specs.declared.growth.HistoryGrowth.TheVariants.{Steps, Leaves}

-- a step of a core with this history, and the records that it adds
abbrev pub AddsBy : CoreView → LaneView → Step → CoreView → LaneView
    → (history added : List Record) → Type 0
AddsBy v lane made w lane' history added = IsHistory w (history ++ added)
    × TakesStep (record { core = v; history = history; lane = lane }) made (record {
      core = w;
      added = added;
      lane = lane';
    })

-- what may be added: the records of the step, or the end of the session
abbrev pub MayAdd : HistoryGrowth → (history added : List Record) → Type 0
MayAdd (Steps x) history added =
    AddsBy x.before.value x.lane_before.value x.made.value x.after.value x.lane_after.value
    history added
MayAdd (Leaves session) history added = added ≡ Left session ∷ []
