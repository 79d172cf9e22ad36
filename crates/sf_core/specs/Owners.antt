-- Which session each call belongs to.
use Rattle.std.specs.Prelude.{◌≡◌, ◌<◌, ℕ, Some}
use Rattle.sf_call.specs.declared.call.Call.{Call}
use Rattle.sf_core.specs.Cores.{CoreView, call_at, lane_state}
use Rattle.sf_core.specs.Cores.LaneState.{NoLane, Busy}

-- A session's unanswered call belongs to that session, and `calls` has it under its number. A
-- session that hasn't joined yet has no state.
pub record OwnsCalls (v : CoreView) : Type 0 where
  pub session : (s : ℕ) (c : Call) → lane_state v s ≡ Busy c → c.session ≡ s
  pub number : (s : ℕ) (c : Call) → lane_state v s ≡ Busy c → call_at v.calls c.number ≡ Some c
  pub later : (s : ℕ) → v.joins < s → lane_state v s ≡ NoLane
