use Rattle.std.proofs.Common.{List, sym, ap, ◌∙◌, subst}
use Rattle.sf_call.specs.declared.record.Record.{Record}
use Rattle.sf_roll.specs.Seen.{IsPrefixOf}
use Rattle.sf_pool.specs.SessionLanes.{SessionLaneView, HasSeenCalls}
use Rattle.sf_pool.specs.declared.lane_connection.LaneConnection.{LaneConnection}
use Rattle.sf_pool.specs.LaneConnections.{scene_of}
use Rattle.sf_pool.proofs.Talking.{told_new}
use Rattle.sf_pool.proofs.OnLane.{placed_new, begins_on_lane}
use Rattle.sf_pool.proofs.lane_connection.LaneConnection.open.Goals as goal

pub returns-clause-serving : goal.returns-clause-serving
returns-clause-serving g c =
    let at = g.D.SessionLane.at in
    let seen = g.D.SessionLane.seen in
    let scene = scene_of at g.D.SessionLane.begins seen in
    let lane = c.rest.new.self in
    let same = c.rest.ensures in
    let joins = same.at ∙ c.in-Ok.ensures.ok in
    let further = subst (λ (h : List Record). IsPrefixOf (seen c.args.lane) h) (sym same.seen) c.join.ensures.further in
    let own_then = subst (λ (h : List Record). HasSeenCalls h (at c.join.new.self)) (sym same.seen) c.in-Ok.ensures.own in
    let own = subst (λ (d : SessionLaneView). HasSeenCalls (seen lane) d) (sym same.at) own_then in
    let host = c.new-connection.ensures.host in
    let standing = ap (λ h. h.standing) host ∙ c.new-host.ensures.standing in
    let session = ap (λ h. h.session) host ∙ c.new-host.ensures.session in
    let result : LaneConnection g.row.D.Denot g.row.G.Denot g.row.S.Denot =
    record { lane = lane; connection = c.new-connection.result; number = c.in-Ok.number; observer = c.args.observer; start_lane = c.of-start_lane.result; start_stream = c.of-start_stream.result } in
    begins_on_lane scene g.S.Stream.view result c.args.lane c.args.stream c.of-start_lane.ensures c.of-start_stream.ensures c.new-connection.ensures.stream
    (placed_new _ _ (at lane) standing session (ap (λ (d : SessionLaneView). d.place) joins))
    (told_new {start = scene c.args.lane} c.in-Ok.number (same.begins ∙ c.join.ensures.begins) joins further own session standing)
    (λ now. c.new-connection.ensures.begins _ _ now)
