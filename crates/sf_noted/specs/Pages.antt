-- What is noted of a session.
use Rattle.std.specs.Prelude.{◌+◌, ℕ, List, length}
use Rattle.sf_call.specs.declared.request.Request.{Request}
use Rattle.sf_core.specs.Cores.{LaneState}
use Rattle.sf_core.specs.Cores.LaneState.{Busy}
use Rattle.sf_audit.specs.Audits.{CallRecord}

-- a call that began under a number, at a moment
pub record BegunCall : Type 0 where
  pub number : ℕ
  pub moment : ℕ
  pub request : Request

abbrev pub begun_call : ℕ → ℕ → Request → BegunCall
begun_call number moment request =
    record { number = number; moment = moment; request = request }

-- the state of a session's lane, and the calls that it was told
pub record Page : Type 0 where
  pub state : LaneState BegunCall
  pub told : List CallRecord

-- the number of calls that the session began: those with a reply, and the one under way
abbrev pub calls_under_way : LaneState BegunCall → ℕ
calls_under_way (Busy call) = 1
calls_under_way _ = 0

abbrev pub page_calls : Page → ℕ
page_calls p = length p.told + calls_under_way p.state
