use Rattle.std.proofs.Common.{Ok, Err, refl, sym, ◌∙◌, subst}
use Rattle.sf_pool.specs.Scenes.{BeginsCalls}
use Rattle.sf_pool.specs.SessionLanes.{SessionLaneView, IsLastAnswer}
use Rattle.sf_pool.proofs.Calls.{IsMade, one_begin, call_made, call_refused, call_unanswered, on_ok_at}
use Rattle.sf_pool.proofs.calling.make_call.Goals as goal

pub returns-in-Err-clause-made : goal.returns-in-Err-clause-made
returns-in-Err-clause-made g c = call_refused c.args.request
    (BeginsCalls (g.C.Clock.moments c.args.clock.now) (g.C.Clock.moments c.now-moment.new.self) (g.D.SessionLane.begins c.args.lane.now) (g.D.SessionLane.begins c.begin.new.self)) c.in-Err.fault _ _ c.in-Err.ensures.err c.refuse.ensures
    (one_begin _ _ _ c.args.request c.now-moment.result (Err c.in-Err.fault) c.now-moment.ensures c.in-Err.ensures.asked refl)

pub returns-clause-made : goal.returns-clause-made
returns-clause-made g c =
    let made : IsMade (g.D.SessionLane.at c.args.lane.now) (g.D.SessionLane.at c.begin.new.self) (g.D.SessionLane.at c.finish.new.lane) c.args.request c.in-Ok.call c.now-moment.result = record {
      rests = c.requires.resting;
      begun = c.in-Ok.ensures.ok;
      answered = c.finish.ensures.answered c.if-not-finish.false;
    } in
    let made_here = subst (λ (d : SessionLaneView). IsMade (g.D.SessionLane.at c.args.lane.now) (g.D.SessionLane.at c.begin.new.self) d c.args.request c.in-Ok.call c.now-moment.result) (sym c.tell_call.ensures.at) made in
    let call = c.last_call.result.now in
    let last : IsLastAnswer (g.D.SessionLane.at c.tell_call.new.lane).calls call.answer.number call.answer.reply = (c.last_call.ensures.0, call.request, c.last_call.ensures.1) in
    call_made (BeginsCalls (g.C.Clock.moments c.args.clock.now) (g.C.Clock.moments c.now-moment.new.self) (g.D.SessionLane.begins c.args.lane.now) (g.D.SessionLane.begins c.tell_call.new.lane))
    call.answer _ _ made_here last
    (on_ok_at c.answer.result _ (sym c.is_err.ensures.value ∙ c.if-is_err.false) c.answer.ensures.ok)
    c.answer.ensures.short
    (one_begin _ _ _ c.args.request c.now-moment.result (Ok c.in-Ok.call) c.now-moment.ensures c.in-Ok.ensures.asked (c.tell_call.ensures.begins ∙ c.finish.ensures.begins))

pub returns-then-is_err-clause-fails : goal.returns-then-is_err-clause-fails
returns-then-is_err-clause-fails g c =
    let made : IsMade (g.D.SessionLane.at c.args.lane.now) (g.D.SessionLane.at c.begin.new.self) (g.D.SessionLane.at c.finish.new.lane) c.args.request c.in-Ok.call c.now-moment.result = record {
      rests = c.requires.resting;
      begun = c.in-Ok.ensures.ok;
      answered = c.finish.ensures.answered c.if-not-finish.false;
    } in
    let made_here = subst (λ (d : SessionLaneView). IsMade (g.D.SessionLane.at c.args.lane.now) (g.D.SessionLane.at c.begin.new.self) d c.args.request c.in-Ok.call c.now-moment.result) (sym c.tell_call.ensures.at) made in
    let call = c.last_call.result.now in
    let last : IsLastAnswer (g.D.SessionLane.at c.tell_call.new.lane).calls call.answer.number call.answer.reply = (c.last_call.ensures.0, call.request, c.last_call.ensures.1) in
    call_unanswered c.args.session.now.waiting (BeginsCalls (g.C.Clock.moments c.args.clock.now) (g.C.Clock.moments c.now-moment.new.self) (g.D.SessionLane.begins c.args.lane.now) (g.D.SessionLane.begins c.tell_call.new.lane))
    call.answer c.answer.result made_here last c.answer.ensures.enough (sym c.is_err.ensures.value ∙ c.if-is_err.true)
    (one_begin _ _ _ c.args.request c.now-moment.result (Ok c.in-Ok.call) c.now-moment.ensures c.in-Ok.ensures.asked (c.tell_call.ensures.begins ∙ c.finish.ensures.begins))
