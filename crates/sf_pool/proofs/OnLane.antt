-- A session over a lane and a non-blocking stream: it begins, goes on, and ends.
use Rattle.std.proofs.Common.{◌≡◌, Option, None, List, [], sym, ap, ◌∙◌, subst, inl, inr}
use Rattle.sf_call.specs.declared.record.Record.{Record}
use Rattle.sf_session.specs.Sessions.{SessionView, new_session}
use Rattle.sf_session.specs.SessionStates.{SessionState, new_state}
use Rattle.sf_connection.specs.Progress.{Progress, progress}
use Rattle.sf_connection.specs.declared.connection.Wants.{Wants}
use Rattle.sf_connection.specs.declared.connection.Wants.TheVariants.{Read, Write, Both, Again, Ended}
use Rattle.sf_connection.specs.Streams.{StreamView}
use Rattle.sf_connection.specs.Connections.{IsServing, Returns, IfEnded}
use Rattle.sf_pool.specs.declared.session_lane.Begin.{Begin}
use Rattle.sf_pool.specs.declared.lane_host.Standing.{Standing}
use Rattle.sf_pool.specs.declared.lane_host.Standing.TheVariants as standing
use Rattle.sf_pool.specs.declared.lane_connection.LaneConnection.{LaneConnection}
use Rattle.sf_pool.specs.SessionLanes.{SessionLaneView, IsResting}
use Rattle.sf_pool.specs.Scenes.{LaneScene, lane_scene, lane_held}
use Rattle.sf_pool.specs.LaneHosts.{IsPlaced, IsOver, LeavesCall, IsToldAt}
use Rattle.sf_pool.specs.LaneConnections.{MayAdvance, IsServingOnLane, EndsOnLane, ReturnsOnLane}

-- ---- it begins

pub placed_new : (at : Standing) (v : SessionView) (d : SessionLaneView) → at ≡ standing.Joined → v ≡ new_session → IsResting d.place → IsPlaced at v d
placed_new at v d e new rests = subst (λ (s : Standing). IsPlaced s v d) (sym e) (rests, ap (λ (x : SessionView). x.waiting) new)

pub begins_on_lane : {D G S : Type 0} (scene : D → LaneScene) (view : S → StreamView) (c : LaneConnection D G S) (lane : D) (stream : S) → c.start_lane.value ≡ lane → c.start_stream.value ≡ stream → c.connection.stream ≡ stream → MayAdvance scene c
    → IsToldAt (scene lane) c.connection.host.standing c.connection.host.session (scene c.lane) new_state → ((now : StreamView) → IsServing lane_held (scene c.lane).lane.steps now now c.connection (progress new_state [] []))
    → IsServingOnLane scene view c (progress new_state [] [])
begins_on_lane {D = D} scene view c lane stream e f g may told serving = record {
  may = may;
  told = subst (λ (d : D). IsToldAt (scene d) c.connection.host.standing c.connection.host.session (scene c.lane) new_state) (sym e) told;
  serving = subst (λ (n : StreamView). IsServing lane_held (scene c.lane).lane.steps (view c.start_stream.value) n c.connection (progress new_state [] [])) (ap view (f ∙ sym g)) (serving (view c.start_stream.value));
}

-- ---- it ends

ends_on_lane : (at : Standing) (d : SessionLaneView) (t : SessionState) → IsOver at d → LeavesCall at d t → EndsOnLane d t
ends_on_lane standing.Joined d t over leaves = absurd over
ends_on_lane standing.Unanswered d t over leaves = absurd over
ends_on_lane standing.UnderWay d t over leaves = inr (leaves, over.1)
ends_on_lane standing.Left d t over leaves = inl over

-- ---- it goes on

pub scene_same : {d d' : SessionLaneView} {b b' : Option (List Begin)} {s s' : List Record} → d' ≡ d → b' ≡ b → s' ≡ s → lane_scene d' b' None s' ≡ lane_scene d b None s
scene_same {d = d} {d' = d'} {b = b} {b' = b'} {s' = s'} p q r =
    ap (λ (x : SessionLaneView). lane_scene x b' None s') p ∙ ap (λ (x : Option (List Begin)). lane_scene d x None s') q ∙ ap (λ (x : List Record). lane_scene d b None x) r

-- what its connection and its host ensure of `advance`, with the lane at `now`
abbrev AdvancesOnLane : {D G S : Type 0} → Wants → (scene : D → LaneScene) → (view : S → StreamView) → LaneConnection D G S → (p p' : Progress) → (now : LaneScene) → Type 0
AdvancesOnLane w scene view c p p' now =
    Returns w lane_held now.lane.steps (view c.start_stream.value) (view c.connection.stream) c.connection p p'
    → IsToldAt (scene c.start_lane.value) c.connection.host.standing c.connection.host.session now p'.state
    → IfEnded w (IsPlaced c.connection.host.standing c.connection.host.session now.lane) (IsOver c.connection.host.standing now.lane)
    → ReturnsOnLane w scene view c p p'

returned_at : {D G S : Type 0} (w : Wants) (scene : D → LaneScene) (view : S → StreamView) (c : LaneConnection D G S) (p p' : Progress) → AdvancesOnLane w scene view c p p' (scene c.lane)
returned_at Read scene view c p p' r told placed = (r, told.notes, record { may = placed; told = told; serving = r.0 })
returned_at Write scene view c p p' r told placed = (r, told.notes, record { may = placed; told = told; serving = r.0 })
returned_at Both scene view c p p' r told placed = (r, told.notes, record { may = placed; told = told; serving = r.0 })
returned_at Again scene view c p p' r told placed = (r, told.notes, record { may = placed; told = told; serving = r.0 })
returned_at (Ended o) scene view c p p' r told over =
    (r, told.notes, ends_on_lane c.connection.host.standing (scene c.lane).lane p'.state over told.leaves)

pub returned : {D G S : Type 0} (w : Wants) (scene : D → LaneScene) (view : S → StreamView) (c : LaneConnection D G S) (p p' : Progress) (now : LaneScene) → scene c.lane ≡ now → AdvancesOnLane w scene view c p p' now
returned w scene view c p p' now e = subst (λ (n : LaneScene). AdvancesOnLane w scene view c p p' n) e (returned_at w scene view c p p')
