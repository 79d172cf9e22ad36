-- Progress: some unanswered call can always proceed. And the number of steps that remain to all
-- calls.
use Rattle.std.specs.Prelude.{◌≡◌, ◌+◌, ℕ, zero, suc, Bool, true, false}
use Rattle.sf_call.specs.declared.call.Call.{Call}
use Rattle.sf_core.specs.declared.step.Step.{Step}
use Rattle.sf_core.specs.declared.step.Step.TheVariants.{Moved, Blocked, Answered, Stranger}
use Rattle.sf_core.specs.Lanes.{LaneView}
use Rattle.sf_core.specs.Cores.{CoreView, LaneState, lane_state}
use Rattle.sf_core.specs.Cores.LaneState.{NoLane, Idle, Busy}
use Rattle.sf_core.specs.Progress.{left_of}
use Rattle.sf_core.specs.Events.{OwnCall, StepsOn}

-- whether a step moved the call, or answered it
abbrev pub is_onward : Step → Bool
is_onward Moved = true
is_onward (Blocked holder) = false
is_onward (Answered given) = true
is_onward Stranger = false

-- The session has an unanswered call, and any step of its lane moves the call or answers it.
pub record CanGoOn (v : CoreView) (session : ℕ) : Type 0 where
  pub call : Call
  pub slot : lane_state v session ≡ Busy call
  pub own : call.session ≡ session
  pub steps : (lane : LaneView) → OwnCall v lane call → (s : Step) (w : CoreView)
      (lane' : LaneView) → StepsOn v lane s w lane' → is_onward s ≡ true

-- if a session has an unanswered call, then some session's call can proceed
abbrev pub IsNeverStuck : CoreView → Type 0
IsNeverStuck v =
    (session : ℕ) (call : Call) → lane_state v session ≡ Busy call → (other : ℕ) × CanGoOn v other

-- the most steps that remain to a session's call, or 0 if it has none
abbrev pub steps_left_in : LaneState Call → ℕ
steps_left_in NoLane = 0
steps_left_in Idle = 0
steps_left_in (Busy call) = left_of call

-- the most steps that remain to the calls of all sessions with numbers below n
abbrev pub left_below : CoreView → ℕ → ℕ
left_below v zero = 0
left_below v (suc n) = left_below v n + steps_left_in (lane_state v n)
