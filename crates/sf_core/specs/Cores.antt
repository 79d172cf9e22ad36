-- A core as contracts see it.
use Rattle.std.specs.Prelude.{ℕ, ◌-◌, ◌^◌, List, [], length, Option, Some, None}
use Rattle.std.specs.Ordering.{nat_cmp}
use Rattle.std.specs.Map.{lookup}
use Rattle.std.specs.BTreeMap.{is_at}
use Rattle.sf_call.specs.declared.call.Call.{Call}
use Rattle.sf_call.specs.declared.record.Record.{Record}
use Rattle.sf_inode.specs.Stores.{StoreState}

-- A core. `records` are the retained records, the oldest first, and at most `keep` if that is set.
-- `folded` counts the dropped call records. `drawn` and `joins` count the calls and the sessions so
-- far, which are numbered from 1. `sessions` has the joined sessions in ascending order, each with
-- the number of its unanswered call, and `calls` the unanswered calls. `look_ups` counts the
-- lookups. Only the clauses about the history and about a blocked step speak of `store`.
pub record CoreView : Type 0 where
  pub records : List Record
  pub keep : Option ℕ
  pub folded : ℕ
  pub drawn : ℕ
  pub joins : ℕ
  pub sessions : List (ℕ × Option ℕ)
  pub calls : List (ℕ × Call)
  pub look_ups : ℕ
  pub store : StoreState

-- the state of a session: it never joined or has left; it is idle; or it has an unanswered call,
-- with something `Known` about it
pub data LaneState (Known : Type 0) : Type 0 where
  NoLane : LaneState Known
  Idle : LaneState Known
  Busy : (call : Known) → LaneState Known

abbrev pub call_at : List (ℕ × Call) → ℕ → Option Call
call_at calls number = lookup (is_at (nat_cmp number)) calls

abbrev pub session_at : List (ℕ × Option ℕ) → ℕ → Option (Option ℕ)
session_at sessions session = lookup (is_at (nat_cmp session)) sessions

-- no core has a session with the number of a call that doesn't exist
abbrev pub busy_with : Option Call → LaneState Call
busy_with None = NoLane
busy_with (Some call) = Busy call

abbrev pub lane_state_by : List (ℕ × Call) → Option (Option ℕ) → LaneState Call
lane_state_by calls None = NoLane
lane_state_by calls (Some None) = Idle
lane_state_by calls (Some (Some number)) = busy_with (call_at calls number)

abbrev pub lane_state : CoreView → ℕ → LaneState Call
lane_state v session = lane_state_by v.calls (session_at v.sessions session)

-- the number of joined sessions
abbrev pub joined : CoreView → ℕ
joined v = length v.sessions

-- the last number of a call and of a session
abbrev pub last_number : ℕ
last_number = 2 ^ 63 - 1

-- the most sessions that may be joined at once
abbrev pub most_sessions : ℕ
most_sessions = 256

abbrev pub new_core : Option ℕ → StoreState → CoreView
new_core keep store = record {
  records = [];
  keep = keep;
  folded = 0;
  drawn = 0;
  joins = 0;
  sessions = [];
  calls = [];
  look_ups = 0;
  store = store;
}
