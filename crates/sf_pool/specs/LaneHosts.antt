-- A session whose calls a lane makes, between two of its packets.
use Rattle.std.specs.Prelude.{◌≡◌, ◌<◌, ◌≤◌, ℕ, List, [], ◌∷◌, ◌++◌, length, Option, Some, None, Ok, IfSome}
use Rattle.sf_call.specs.declared.request.Request.{Request}
use Rattle.sf_field.specs.Fields.{packet}
use Rattle.sf_reply.specs.declared.reply.Reply.{Reply}
use Rattle.sf_reply.specs.Replies.{reply_body}
use Rattle.sf_core.specs.Cores.LaneState.{NoLane, Busy}
use Rattle.sf_session.specs.declared.asking.Ask.TheVariants as ask
use Rattle.sf_session.specs.declared.fault.ServeFault.{ServeFault}
use Rattle.sf_session.specs.declared.fault.ServeFault.TheVariants as fault
use Rattle.sf_session.specs.Sessions.{SessionView, reply_room}
use Rattle.sf_session.specs.Responses.{Response, ask_behind, packet_for, transcript, has_begun}
use Rattle.sf_session.specs.SessionStates.{Resting, SessionState, HasShortPacket}
use Rattle.sf_connection.specs.Hosts.{most_counted}
use Rattle.sf_audit.specs.Audits.{CallRecord}
use Rattle.sf_noted.specs.Pages.{begun_call}
use Rattle.sf_pool.specs.declared.calling.Stop.{Stop}
use Rattle.sf_pool.specs.declared.calling.Stop.TheVariants as stop
use Rattle.sf_pool.specs.declared.lane_host.Standing.{Standing}
use Rattle.sf_pool.specs.declared.lane_host.Standing.TheVariants as standing
use Rattle.sf_pool.specs.SessionLanes.{Joined, IsResting, HasCallUnderWay, SessionLaneView, session_answered}
use Rattle.sf_pool.specs.Scenes.{LaneScene, NotesCalls, IsInCall, response_calls, Attempt, attempt, answer_attempts}

-- A lane, and the session that asks it.
pub record Talk : Type 0 where
  pub lane : SessionLaneView
  pub session : SessionView

abbrev pub talk : SessionLaneView → SessionView → Talk
talk lane session = record { lane = lane; session = session }

-- the lane once so many steps were made
abbrev pub after_steps : SessionLaneView → ℕ → SessionLaneView
after_steps d steps = record d { steps = steps }

-- and these calls were noted
abbrev pub after_calls : SessionLaneView → List CallRecord → ℕ → SessionLaneView
after_calls d calls steps = record d { calls = d.calls ++ calls; steps = steps }

-- the call under way was answered
abbrev pub IsAnsweredAt : SessionLaneView → SessionLaneView → Type 0
IsAnsweredAt d d' = (reply : Reply) × (d' ≡ after_steps (session_answered d reply) d'.steps)

-- The session's call was made, or refused by the lane: its reply, which is no longer than any, is
-- appended to the output. The lane was asked for it alone.
abbrev pub MakesCall : Request → (List Attempt → Type 0) → Talk → Talk → Type 0
MakesCall request Asked x y =
    IfSome x.session.waiting (λ id. (a : Response) × (ask_behind a ≡ ask.Call id request)
    × (y.session ≡ record x.session { output = x.session.output ++ packet_for a; waiting = None })
    × (y.lane ≡ after_calls x.lane (response_calls a) y.lane.steps)
    × Asked (answer_attempts a) × HasShortPacket a)

-- a reply to this request has more bytes than were reserved
abbrev pub IsLong : Option ℕ → Reply → Type 0
IsLong waiting reply = IfSome waiting (λ id. reply_room < length (packet (reply_body id reply)))

-- The session's call of this number was made, and its reply, which is no short one, found no room;
-- or it has no answer.
abbrev pub LacksReply : Option ℕ → Request → ℕ → Stop → SessionLaneView → SessionLaneView → Type 0
LacksReply waiting request number stop.OutOfMemory d d' = (reply : Reply) × (d' ≡ after_calls d
    (record { number = number; request = request; reply = reply } ∷ []) d'.steps)
    × IsLong waiting reply
LacksReply waiting request number stop.UnderWay d d' = (moment : ℕ)
    × (d' ≡ after_steps (record d { place = Joined (Busy (begun_call number moment request)) })
    d'.steps)
    × (most_counted ≤ d'.steps)

-- The session's call began, and has no reply. The lane was asked for it alone.
abbrev pub FailsCall : Option ℕ → Request → Stop → (List Attempt → Type 0) → SessionLaneView
    → SessionLaneView → Type 0
FailsCall waiting request stop Asked d d' = (number : ℕ)
    × LacksReply waiting request number stop d d' × Asked (attempt request (Ok number) ∷ [])

-- ---- how it stands

-- a session goes on as it was told
pub record GoesOnAs (v : SessionView) (t : SessionState) : Type 0 where
  pub unread : v.unread ≡ t.unread
  pub begun : v.begun ≡ has_begun t.bodies
  pub ended : v.ended ≡ None

-- where the lane is
abbrev pub IsPlaced : Standing → SessionView → SessionLaneView → Type 0
IsPlaced standing.Joined v d = IsResting d.place × (v.waiting ≡ None)
IsPlaced standing.Unanswered v d = IsResting d.place
IsPlaced standing.UnderWay v d = HasCallUnderWay d.place × (most_counted ≤ d.steps)
IsPlaced standing.Left v d = d.place ≡ Joined NoLane

-- and where the session has ended
abbrev pub IsOver : Standing → SessionLaneView → Type 0
IsOver standing.Joined d = ⊥
IsOver standing.Unanswered d = ⊥
IsOver standing.UnderWay d = HasCallUnderWay d.place × (most_counted ≤ d.steps)
IsOver standing.Left d = d.place ≡ Joined NoLane

-- the session waits for a call that has no reply after 2^64 - 1 steps
abbrev pub LeavesCall : Standing → SessionLaneView → SessionState → Type 0
LeavesCall standing.UnderWay d t = IsInCall d.place t.phase
LeavesCall _ d t = Unit {0}

-- since the start the session was told this, by its host
pub record IsToldAt (start : LaneScene) (at : Standing) (v : SessionView) (now : LaneScene)
    (t : SessionState) : Type 0 where
  pub notes : NotesCalls start now t
  pub stands : t.phase ≡ Resting → GoesOnAs v t
  pub waits : transcript t.answers ≡ t.sent ++ v.output
  pub leaves : LeavesCall at now.lane t

-- why it goes on no more
abbrev pub standing_fault : Standing → Option ServeFault
standing_fault standing.Joined = None
standing_fault standing.Unanswered = Some fault.OutOfMemory
standing_fault standing.UnderWay = Some fault.NumbersSpent
standing_fault standing.Left = Some fault.OutOfMemory

abbrev pub standing_after : Stop → Standing
standing_after stop.OutOfMemory = standing.Unanswered
standing_after stop.UnderWay = standing.UnderWay

abbrev pub stop_fault : Stop → ServeFault
stop_fault stop.OutOfMemory = fault.OutOfMemory
stop_fault stop.UnderWay = fault.NumbersSpent
