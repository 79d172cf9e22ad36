-- A session over a lane and a non-blocking stream. `scene` and `view` are what contracts see of a
-- lane and of a stream.
use Rattle.std.specs.Prelude.{◌≡◌, ◌≤◌, ◌⊎◌, List, Option, None}
use Rattle.sf_call.specs.declared.record.Record.{Record}
use Rattle.sf_core.specs.Cores.LaneState.{NoLane}
use Rattle.sf_session.specs.SessionStates.{SessionState}
use Rattle.sf_connection.specs.Hosts.{most_counted}
use Rattle.sf_connection.specs.Progress.{Progress}
use Rattle.sf_connection.specs.declared.connection.Wants.{Wants}
use Rattle.sf_connection.specs.Streams.{StreamView}
use Rattle.sf_connection.specs.Connections.{IsServing, Returns, IfEnded}
use Rattle.sf_pool.specs.declared.lane_connection.LaneConnection.{LaneConnection}
use Rattle.sf_pool.specs.declared.session_lane.Begin.{Begin}
use Rattle.sf_pool.specs.SessionLanes.{SessionLaneState, Joined, HasCallUnderWay, SessionLaneView}
use Rattle.sf_pool.specs.Scenes.{LaneScene, lane_scene, lane_held, NotesCalls, IsInCall}
use Rattle.sf_pool.specs.LaneHosts.{IsPlaced, IsToldAt}

-- what contracts see of a lane, without a clock's timestamps
abbrev pub scene_of : {D : Type 0} → (at : D → SessionLaneView) → (begins : D → Option (List Begin))
    → (seen : D → List Record) → D → LaneScene
scene_of at begins seen d = lane_scene (at d) (begins d) None (seen d)

-- the lane is in the state that the session needs for its next call, or for its end
abbrev pub MayAdvance : {D G S : Type 0} → (scene : D → LaneScene) → LaneConnection D G S → Type 0
MayAdvance scene c =
    IsPlaced c.connection.host.standing c.connection.host.session (scene c.lane).lane

-- A session between two calls of `advance`: since it joined it has progressed to `p`.
pub record IsServingOnLane {D G S : Type 0} (scene : D → LaneScene) (view : S → StreamView)
    (c : LaneConnection D G S) (p : Progress) : Type 0 where
  pub may : MayAdvance scene c
  pub told : IsToldAt (scene c.start_lane.value) c.connection.host.standing
      c.connection.host.session (scene c.lane) p.state
  pub serving : IsServing lane_held (scene c.lane).lane.steps (view c.start_stream.value)
      (view c.connection.stream) c.connection p

-- the session has left, or its call is under way
abbrev pub HasEnded : SessionLaneState → Type 0
HasEnded place = (place ≡ Joined NoLane) ⊎ HasCallUnderWay place

-- the lane has left, or its call has no reply after 2^64 - 1 steps
abbrev pub EndsOnLane : SessionLaneView → SessionState → Type 0
EndsOnLane lane t =
    (lane.place ≡ Joined NoLane) ⊎ (IsInCall lane.place t.phase × (most_counted ≤ lane.steps))

-- What holds after `advance`: what holds of every connection, and the lane has noted exactly the
-- session's calls. The session goes on, or it has ended at the lane.
abbrev pub ReturnsOnLane : {D G S : Type 0} → Wants → (scene : D → LaneScene)
    → (view : S → StreamView) → LaneConnection D G S → (p p' : Progress) → Type 0
ReturnsOnLane wants scene view c p p' =
    Returns wants lane_held (scene c.lane).lane.steps (view c.start_stream.value)
    (view c.connection.stream) c.connection p p'
    × NotesCalls (scene c.start_lane.value) (scene c.lane) p'.state
    × IfEnded wants (IsServingOnLane scene view c p') (EndsOnLane (scene c.lane).lane p'.state)
