use Rattle.std.proofs.Common.{Ok, refl, subst}
use Rattle.sf_core.specs.Lanes.{LaneView}
use Rattle.sf_engine.specs.declared.event.Happened.TheVariants as happened
use Rattle.sf_engine.specs.Turns.{stand, TurnsGive, finding}
use Rattle.sf_engine.proofs.ReplyRooms.{is_long}
use Rattle.sf_engine.proofs.Chains.{answered, lane_same, written_turn, unwritten_turn}
use Rattle.sf_engine.proofs.hosted.HostedState.write_on.Goals as goal

pub returns-in-Ok : goal.returns-in-Ok
returns-in-Ok c = λ lane is moment.
    let old = c.args in
    let f = finding old.closed moment in
    let a = stand old.core.now old.session.now old.self.now in
    let end = stand c.settle.new.core c.settle.new.session c.settle.result in
    let same = lane_same old.self.now c.take_lane-lane.result lane c.take_lane-lane.ensures is in
    let P : LaneView → Type 0 = λ l. TurnsGive 0 (answered old.core.now old.session.now l old.answer) f (Ok happened.Wrote) end in
    (subst P same (written_turn a c.take_lane-lane.result old.answer f c.answer-2.new.self end c.in-Ok.ensures.ok c.settle.ensures), refl)

pub returns-in-Err : goal.returns-in-Err
returns-in-Err c = λ lane is moment.
    let old = c.args in
    let same = lane_same old.self.now c.take_lane-lane.result lane c.take_lane-lane.ensures is in
    (unwritten_turn (stand old.core.now old.session.now old.self.now) lane old.answer (finding old.closed moment) c.answer-2.new.self c.take_lane-lane.result same c.in-Err.ensures.err (is_long old.session.now.waiting old.answer.reply (c.requires.placed lane is).2 c.in-Err.ensures.enough), refl)
