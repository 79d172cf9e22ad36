-- How what is noted of a session changes.
use Rattle.std.specs.Prelude.{List, [], ◌∷◌, ◌++◌}
use Rattle.sf_reply.specs.declared.reply.Reply.{Reply}
use Rattle.sf_core.specs.Cores.{LaneState}
use Rattle.sf_core.specs.Cores.LaneState.{NoLane, Idle, Busy}
use Rattle.sf_audit.specs.Audits.{CallRecord}
use Rattle.sf_noted.specs.Pages.{BegunCall, begun_call, Page}
use Rattle.sf_noted.specs.declared.page.PageChange.{PageChange}
use Rattle.sf_noted.specs.declared.page.PageChange.TheVariants.{Begins, Answered, Leaves}

abbrev pub page : LaneState BegunCall → List CallRecord → Page
page state told = record { state = state; told = told }

abbrev pub fresh_page : Page
fresh_page = page Idle []

-- the answer to the call under way, as it is told
abbrev pub as_told : LaneState BegunCall → Reply → List CallRecord
as_told (Busy call) reply =
    record { number = call.number; request = call.request; reply = reply } ∷ []
as_told _ reply = []

abbrev pub page_after : Page → PageChange → Page
page_after p (Begins number moment request) =
    page (Busy (begun_call number moment request.value)) p.told
page_after p (Answered reply) = page Idle (p.told ++ as_told p.state reply.value)
page_after p Leaves = page NoLane p.told

-- another state, and a page with it that has no calls
abbrev pub other_state : LaneState BegunCall → LaneState BegunCall
other_state NoLane = Idle
other_state Idle = NoLane
other_state (Busy call) = NoLane

abbrev pub cleared : Page → Page
cleared p = page (other_state p.state) []

abbrev pub IsUnderWay : LaneState BegunCall → Type 0
IsUnderWay (Busy call) = Unit {0}
IsUnderWay _ = ⊥
