-- The steps and the work of an event, in the core's words.
use Rattle.std.specs.Prelude.{◌≡◌, ◌≤◌, ◌+◌, ◌⊎◌, ℕ, nat_eq, not, Bool, false, List, filter, Result, Ok}
use Rattle.sf_reply.specs.declared.reply.Reply.{Reply}
use Rattle.sf_call.specs.declared.call.Call.{Call}
use Rattle.sf_call.specs.declared.record.Record.{Record}
use Rattle.sf_call.specs.declared.record.Record.TheVariants.{Did, Left}
use Rattle.sf_core.specs.Lanes.{LaneView}
use Rattle.sf_core.specs.Cores.{CoreView}
use Rattle.sf_core.specs.Progress.{names_in_records}
use Rattle.sf_core.specs.Events.{Before, After, MovesOn, IsBlocked, Fetches, Decides}
use Rattle.sf_engine.specs.declared.event.Event.{Event}
use Rattle.sf_engine.specs.declared.event.Event.TheVariants as event
use Rattle.sf_engine.specs.declared.event.Happened.{Happened}
use Rattle.sf_engine.specs.declared.event.Happened.TheVariants as happened
use Rattle.sf_engine.specs.declared.event.EngineFault.{EngineFault}

-- the number of components in the paths of the records of other sessions' calls
abbrev pub is_of_other : ℕ → Record → Bool
is_of_other s (Did number session moment request given) = not (nat_eq session s)
is_of_other s (Left session) = false

abbrev pub names_helped : ℕ → List Record → ℕ
names_helped s added = names_in_records (filter (is_of_other s) added)

-- A turn makes at most two look-ups, and one for each component in the paths of the calls that it
-- helps. No other event makes any.
abbrev pub IsWork : Event → CoreView → List Record → CoreView → Type 0
IsWork (event.Turn s m) old added new = (old.look_ups ≤ new.look_ups)
    × (new.look_ups ≤ old.look_ups + (2 + names_helped s added))
IsWork _ old added new = new.look_ups ≡ old.look_ups

-- A step of a lane's call. `Moved`: it resolves one component, or copies a block, the first one
-- with its record. `Blocked`: a call that is further down, or that copies, holds the lock it needs.
-- `Decided`: its record exists, or it takes effect after the calls that it helps.
abbrev pub StepsTo : Before → Happened → After → Type 0
StepsTo b happened.Moved a = MovesOn b a
StepsTo b (happened.Blocked holder) a = (c : Call) × IsBlocked b.core a.core b.lane c holder
StepsTo b happened.Decided a =
    (c : Call) × (given : Reply) × (Fetches b a c given ⊎ Decides b a c given)
StepsTo b _ a = Unit {0}

-- A turn is a step of the session's lane, from a core with its history to the core with the records
-- that were added.
abbrev pub IsStep : Event → Result Happened EngineFault → CoreView → List Record → List Record
    → CoreView → Type 0
IsStep (event.Turn s m) (Ok r) old history added new =
    (lane : LaneView) × (lane' : LaneView) × (lane.session ≡ s)
    × StepsTo (record { core = old; history = history; lane = lane }) r (record {
      core = new;
      added = added;
      lane = lane';
    })
IsStep _ _ old history added new = Unit {0}
