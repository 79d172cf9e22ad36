use Rattle.std.proofs.Common.{◌∙◌, sym, subst}
use Rattle.sf_audit.specs.Audits.{call_record}
use Rattle.sf_pool.specs.SessionLanes.{IsLast, SessionLaneView}
use Rattle.sf_pool.proofs.Transcribing.{last_kept}
use Rattle.sf_pool.proofs.transcript_lane.TranscriptLane.last_call.Goals as goal

pub returns : goal.returns
returns g c =
    let call = c.in-Some.call.now in
    subst (λ (d : SessionLaneView). IsLast d.calls (call_record call)) c.self.view_is
    (last_kept _ _ c.self.inside.transcript c.self.invariant.0 c.in-Some._earlier.now call (sym c.as_slice.ensures.value ∙ c.in-Some.ensures.cases.0))
