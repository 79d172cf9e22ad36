use Rattle.std.proofs.Common.{refl}
use Rattle.sf_connection.specs.declared.connection.Wants.TheVariants.{Ended}
use Rattle.sf_pool.specs.LaneConnections.{scene_of, HasEnded}
use Rattle.sf_connection.proofs.Laws.{if_going, going_of}
use Rattle.sf_pool.proofs.OnLane.{scene_same, returned}
use Rattle.sf_pool.proofs.lane_connection.LaneConnection.advance.Goals as goal

pub returns-in_default-clause-served : goal.returns-in_default-clause-served
returns-in_default-clause-served g c = λ p s.
    let scene = scene_of g.D.SessionLane.at g.D.SessionLane.begins g.D.SessionLane.seen in
    let old = c.args.self.now in
    let e = c.advance-wants.ensures in
    let a = e.served (scene old.start_lane.value) (g.S.Stream.view old.start_stream.value) p s.told s.serving in
    let new = record old { lane = c.advance-wants.new.place; connection = c.advance-wants.new.self } in
    (a.0, returned c.advance-wants.result scene g.S.Stream.view new p a.0 (scene new.lane) refl a.2 a.1 e.ended)

pub returns-in_default-clause-ended : goal.returns-in_default-clause-ended
returns-in_default-clause-ended g c = if_going c.advance-wants.result (Unit {0}) (HasEnded (g.D.SessionLane.at c.advance-wants.new.place).place) c.in_default.not-Ended tt

pub returns-in_default-clause-rests : goal.returns-in_default-clause-rests
returns-in_default-clause-rests g c = going_of c.advance-wants.result (g.D.SessionLane.rests c.advance-wants.new.place) (Unit {0}) c.in_default.not-Ended c.advance-wants.ensures.rests

pub returns-clause-served : goal.returns-clause-served
returns-clause-served g c = λ p s.
    let scene = scene_of g.D.SessionLane.at g.D.SessionLane.begins g.D.SessionLane.seen in
    let old = c.args.self.now in
    let after = c.rest.ensures in
    let e = c.in-Ended.ensures in
    let a = e.served (scene old.start_lane.value) (g.S.Stream.view old.start_stream.value) p s.told s.serving in
    let new = record old { lane = c.rest.new.self; connection = c.advance-wants.new.self } in
    (a.0, returned (Ended c.in-Ended.outcome) scene g.S.Stream.view new p a.0 (scene c.advance-wants.new.place) (scene_same after.at after.begins after.seen) a.2 a.1 e.ended)
