-- Open sessions of a worker: connections whose lanes make their calls on a shared core.
use Rattle.std.specs.Prelude.{◌≡◌, List, ◌∷◌, Bool, None, All, IsPermutation, Result}
use Rattle.sf_connection.specs.declared.connection.Wants.TheVariants.{Ended}
use Rattle.sf_connection.specs.Streams.{StreamView}
use Rattle.sf_session.specs.declared.cause.Cause.{Cause}
use Rattle.sf_session.specs.declared.fault.ServeFault.{ServeFault}
use Rattle.sf_connection.specs.Progress.{Progress}
use Rattle.sf_pool.specs.declared.lane_connection.LaneConnection.{LaneConnection}
use Rattle.sf_pool.specs.declared.shared_lane.SharedLane.{SharedLane}
use Rattle.sf_pool.specs.LaneConnections.{IsServingOnLane, ReturnsOnLane, HasEnded}
use Rattle.sf_pool.specs.Scenes.{LaneScene, lane_scene}
use Rattle.sf_pool.specs.SessionLanes.{new_session_lane}

-- what contracts see of a lane
abbrev pub shared_scene : {R B : Type 0} → SharedLane R B → LaneScene
shared_scene d = lane_scene d.transcript_lane None None d.seen

module _ {R B G L : Type 0} where
  -- the stream before its session, and whether the session's transcript is retained
  abbrev pub stream_before : LaneConnection (SharedLane R B) G L → L
  stream_before c = c.start_stream.value

  abbrev pub keeps_calls : LaneConnection (SharedLane R B) G L → Bool
  keeps_calls c = c.start_lane.value.transcript_lane.keeps

  -- its lane was new
  abbrev pub BeganNew : LaneConnection (SharedLane R B) G L → Type 0
  BeganNew c = c.start_lane.value.transcript_lane ≡ new_session_lane (keeps_calls c)

  -- a session that can be advanced
  abbrev pub IsOpenSession : (view : L → StreamView) → LaneConnection (SharedLane R B) G L → Type 0
  IsOpenSession view c = BeganNew c × ((p : Progress) × IsServingOnLane shared_scene view c p)

  -- a session that has ended
  abbrev pub IsEndedSession : (view : L → StreamView) → LaneConnection (SharedLane R B) G L
      → Type 0
  IsEndedSession view c = BeganNew c × HasEnded c.lane.transcript_lane.place
      × ((outcome : Result Cause ServeFault) × (p p' : Progress)
      × ReturnsOnLane (Ended outcome) shared_scene view c p p')

  -- sessions that can be advanced, and their transcripts are retained or not
  abbrev pub AreOpenSessions : (view : L → StreamView) → (keeps : Bool)
      → List (LaneConnection (SharedLane R B) G L) → Type 0
  AreOpenSessions view keeps sessions =
      All (λ c. IsOpenSession view c × (keeps_calls c ≡ keeps)) sessions

  -- one more session, over this stream
  abbrev pub OpensSession : (view : L → StreamView) → L → (keeps : Bool)
      → (before after : List (LaneConnection (SharedLane R B) G L)) → Type 0
  OpensSession view stream keeps before after = (c : LaneConnection (SharedLane R B) G L)
      × IsPermutation (c ∷ before) after × (stream_before c ≡ stream) × IsOpenSession view c
      × (keeps_calls c ≡ keeps)
