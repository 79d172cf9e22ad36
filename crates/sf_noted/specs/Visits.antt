-- The calls of sessions in a history.
use Rattle.std.specs.Prelude.{◌≡◌, ◌≢◌, ◌⊎◌, ◌<◌, ◌-◌, ℕ, List, [], ◌++◌, All, Some, slice_get}
use Rattle.std.specs.List.{sum_by}
use Rattle.sf_reply.specs.declared.reply.Reply.{Reply}
use Rattle.sf_call.specs.declared.record.Record.{Record}
use Rattle.sf_core.specs.Cores.{LaneState}
use Rattle.sf_audit.specs.Audits.{CallRecord, call_records}
use Rattle.sf_noted.specs.Pages.{BegunCall, Page, page_calls}
use Rattle.sf_noted.specs.PageChanges.{as_told}

-- what may be pending: the reply to the call under way
abbrev pub MayWait : LaneState BegunCall → List CallRecord → Type 0
MayWait state waits = (waits ≡ []) ⊎ ((reply : Reply) × (waits ≡ as_told state reply))

-- The calls of a session in a history are those whose replies it received, in order, and then the
-- call under way, if its reply is pending.
abbrev pub IsVisitIn : List Record → ℕ × Page → Type 0
IsVisitIn h x =
    (waits : List CallRecord) × (call_records x.0 h ≡ x.1.told ++ waits)
    × MayWait x.1.state waits

-- the number of calls that these sessions began
abbrev pub visit_calls : List (ℕ × Page) → ℕ
visit_calls visits = sum_by (λ x. page_calls x.1) visits

-- The calls of a history are those of these sessions, and no others. No session occurs twice.
pub record AreCallsOf (history : List Record) (visits : List (ℕ × Page)) : Type 0 where
  pub each : All (IsVisitIn history) visits
  pub others : (session : ℕ) → All (λ x. x.0 ≢ session) visits
      → call_records session history ≡ []
  pub distinct : (i j : ℕ) (x y : ℕ × Page) → slice_get visits i ≡ Some x
      → slice_get visits j ≡ Some y → x.0 ≡ y.0 → i ≡ j

-- the session's page is among the pages
abbrev pub IsOnPage : List Page → ℕ × Page → Type 0
IsOnPage pages x = (0 < x.0) × (slice_get pages (x.0 - 1) ≡ Some x.1)
