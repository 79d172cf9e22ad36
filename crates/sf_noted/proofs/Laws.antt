-- For the crates above.
use Rattle.std.proofs.Common.{◌≡◌, ◌<◌, ◌+◌, ◌-◌, ℕ, Option, Some, None, List, refl, subst, inl, inr, arith}
use Rattle.std.specs.Prelude.{slice_get}
use Rattle.sf_reply.specs.declared.reply.Reply.{Reply}
use Rattle.sf_call.specs.declared.call.Call.{Call}
use Rattle.sf_call.specs.declared.record.Record.{Record}
use Rattle.sf_core.specs.Cores.{CoreView, LaneState, lane_state}
use Rattle.sf_core.specs.Cores.LaneState.{NoLane, Idle, Busy}
use Rattle.sf_core.specs.Progress.{waiting_reply}
use Rattle.sf_noted.specs.Pages.{Page}
use Rattle.sf_noted.specs.Noted.{waiting_for, waits_in, noted_state, FitsPage, PagesAgree}
use Rattle.sf_noted.specs.Visits.{MayWait, IsVisitIn}
-- the calls of a session among more records
pub use Rattle.sf_noted.proofs.Records.{records_append}

waits_so : (l : LaneState Call) → MayWait (noted_state l) (waits_in l)
waits_so NoLane = inl refl
waits_so Idle = inl refl
waits_so (Busy c) = by_reply (waiting_reply c)
  where
    by_reply : (o : Option Reply) → MayWait (noted_state (Busy c)) (waiting_for c o)
    by_reply None = inl refl
    by_reply (Some given) = inr (given, refl)

-- what is on a session's page is what it was told
pub visit_is_in : (v : CoreView) (pages : List Page) (h : List Record) → PagesAgree v pages h → (session : ℕ) (p : Page) → 0 < session → slice_get pages (session - 1) ≡ Some p → IsVisitIn h (session, p)
visit_is_in v pages h agree session p above at =
    let same : session - 1 + 1 ≡ session = omega arith in
    let f = subst (λ s. FitsPage v h s p) same (agree.each (session - 1) p at) in
    (waits_in (lane_state v session), f.told, subst (λ state. MayWait state (waits_in (lane_state v session))) f.state (waits_so (lane_state v session)))
