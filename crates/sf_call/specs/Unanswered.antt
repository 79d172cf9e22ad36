-- Pending calls, by number.
use Rattle.std.specs.Prelude.{ℕ, List, Option, Some, None}
use Rattle.std.specs.Ordering.{nat_cmp}
use Rattle.std.specs.Map.{lookup, set_value, remove_entry}
use Rattle.std.specs.BTreeMap.{is_at}
use Rattle.sf_reply.specs.declared.reply.Reply.{Reply}
use Rattle.sf_call.specs.declared.call.Call.{Call}
use Rattle.sf_call.specs.declared.call.Stage.{Stage}

-- the call with this stage
abbrev pub at_stage : Stage → Call → Call
at_stage stage call = record call { stage = stage }

abbrev pub staged_by : List (ℕ × Call) → ℕ → Stage → Option Call → List (ℕ × Call)
staged_by calls number stage None = calls
staged_by calls number stage (Some call) =
    set_value (is_at (nat_cmp number)) calls (at_stage stage call)

-- the calls after the one with this number has reached a stage
abbrev pub staged : List (ℕ × Call) → ℕ → Stage → List (ℕ × Call)
staged calls number stage = staged_by calls number stage (lookup (is_at (nat_cmp number)) calls)

-- a call with a pending reply, without the copy of its request
abbrev pub with_reply : Reply → Call → Call
with_reply given call = record call { reply = Some given; copy = None }

abbrev pub answered_by : List (ℕ × Call) → ℕ → Reply → Option Call → List (ℕ × Call)
answered_by calls number given None = calls
answered_by calls number given (Some call) =
    set_value (is_at (nat_cmp number)) calls (with_reply given call)

-- the calls after the one with this number has received its reply
abbrev pub answered : List (ℕ × Call) → ℕ → Reply → List (ℕ × Call)
answered calls number given = answered_by calls number given (lookup (is_at (nat_cmp number)) calls)

-- the calls without the one with this number, if it has a reply
abbrev pub gone_where_answered : List (ℕ × Call) → ℕ → Option Reply → List (ℕ × Call)
gone_where_answered calls number None = calls
gone_where_answered calls number (Some given) = remove_entry (is_at (nat_cmp number)) calls
