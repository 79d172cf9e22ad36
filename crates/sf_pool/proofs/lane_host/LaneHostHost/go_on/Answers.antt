use Rattle.std.proofs.Common.{Ok, Err, refl, sym, ap, ◌∙◌, subst}
use Rattle.sf_session.specs.declared.fault.ServeFault.{ServeFault}
use Rattle.sf_session.specs.declared.fault.ServeFault.TheVariants.{OutOfMemory}
use Rattle.sf_session.specs.declared.session.Next.{Next}
use Rattle.sf_session.specs.Sessions.{NextGives}
use Rattle.sf_connection.specs.declared.host.SessionStep.{SessionStep}
use Rattle.sf_connection.specs.declared.host.SessionStep.TheVariants as session_step
use Rattle.sf_pool.specs.Scenes.{lane_scene}
use Rattle.sf_pool.specs.LaneHosts.{stop_fault}
use Rattle.sf_pool.proofs.Talking.{goes_not, goes_more, goes_ended, goes_local, goes_called, goes_stopped, joined, may_go, goes_still}
use Rattle.sf_pool.proofs.lane_host.LaneHostHost.go_on.Goals as goal

pub returns-in-Ended-clause-step : goal.returns-in-Ended-clause-step
returns-in-Ended-clause-step g c = λ start t tells is_open read sent.
    let v = c.args.self.now.session in
    let w = c.next.new.self in
    let now = lane_scene (g.D.SessionLane.at c.args.lane.now) (g.D.SessionLane.begins c.args.lane.now) (g.C.Clock.moments c.args.clock.now) (g.D.SessionLane.seen c.args.lane.now) in
    goes_still (Ok (session_step.Ended c.in-Ended.cause)) (joined _ (sym c.in_default.ensures)) refl refl refl refl refl
    (goes_ended (may_go {now = now} (sym c.in_default.ensures) tells is_open read sent) (subst (λ (n : Next). NextGives v n w) c.in-Ended.is c.in-Ok.ensures.ok))

pub returns-in-Local-clause-step : goal.returns-in-Local-clause-step
returns-in-Local-clause-step g c = λ start t tells is_open read sent.
    let v = c.args.self.now.session in
    let w = c.next.new.self in
    let now = lane_scene (g.D.SessionLane.at c.args.lane.now) (g.D.SessionLane.begins c.args.lane.now) (g.C.Clock.moments c.args.clock.now) (g.D.SessionLane.seen c.args.lane.now) in
    goes_still (Ok session_step.Answered) (c.answered.ensures.standing ∙ joined _ (sym c.in_default.ensures)) c.answered.ensures.session c.answered.ensures.at c.answered.ensures.begins c.answered.ensures.seen (ap (λ (x : SessionStep). Ok x) c.answered.ensures.step)
    (goes_local (may_go {now = now} (sym c.in_default.ensures) tells is_open read sent) (subst (λ (n : Next). NextGives v n w) c.in-Local.is c.in-Ok.ensures.ok) c.next.ensures.short)

pub returns-in-Ok-make_call-clause-step : goal.returns-in-Ok-make_call-clause-step
returns-in-Ok-make_call-clause-step g c = λ start t tells is_open read sent.
    let v = c.args.self.now.session in
    let m = c.next.new.self in
    let now = lane_scene (g.D.SessionLane.at c.args.lane.now) (g.D.SessionLane.begins c.args.lane.now) (g.C.Clock.moments c.args.clock.now) (g.D.SessionLane.seen c.args.lane.now) in
    let now' = lane_scene (g.D.SessionLane.at c.make_call.new.lane) (g.D.SessionLane.begins c.make_call.new.lane) (g.C.Clock.moments c.make_call.new.clock) (g.D.SessionLane.seen c.make_call.new.lane) in
    let after = c.answered-in-Ok-make_call.ensures in
    goes_still (Ok session_step.Answered) (after.standing ∙ joined _ (sym c.in_default.ensures)) after.session after.at after.begins after.seen (ap (λ (x : SessionStep). Ok x) after.step)
    (goes_called {now' = now'} (may_go {now = now} (sym c.in_default.ensures) tells is_open read sent) (subst (λ (n : Next). NextGives v n m) c.in-Call.is c.in-Ok.ensures.ok) c.in-Ok-make_call.ensures.made c.make_call.ensures.sees)

pub returns-in-Err-clause-step : goal.returns-in-Err-clause-step
returns-in-Err-clause-step g c = λ start t tells is_open read sent.
    let v = c.args.self.now.session in
    let m = c.next.new.self in
    let now = lane_scene (g.D.SessionLane.at c.args.lane.now) (g.D.SessionLane.begins c.args.lane.now) (g.C.Clock.moments c.args.clock.now) (g.D.SessionLane.seen c.args.lane.now) in
    let now' = lane_scene (g.D.SessionLane.at c.make_call.new.lane) (g.D.SessionLane.begins c.make_call.new.lane) (g.C.Clock.moments c.make_call.new.clock) (g.D.SessionLane.seen c.make_call.new.lane) in
    let why = c.in-Err.why in
    let after = c.stand_after.ensures in
    goes_still (Err (stop_fault why)) after.standing after.session refl refl refl (ap (λ (x : ServeFault). Err x) after.fault)
    (goes_stopped {now' = now'} why (may_go {now = now} (sym c.in_default.ensures) tells is_open read sent) (subst (λ (n : Next). NextGives v n m) c.in-Call.is c.in-Ok.ensures.ok) c.in-Err.ensures.session c.in-Err.ensures.fails c.make_call.ensures.sees)

pub returns-in-Some-clause-step : goal.returns-in-Some-clause-step
returns-in-Some-clause-step g c = λ start t tells is_open read sent. goes_not OutOfMemory tells read sent refl

pub returns-in_default-next-clause-step : goal.returns-in_default-next-clause-step
returns-in_default-next-clause-step g c = λ start t tells is_open read sent. goes_not OutOfMemory tells read sent c.in_default-next.ensures.err

pub returns-in-More-clause-step : goal.returns-in-More-clause-step
returns-in-More-clause-step g c = λ start t tells is_open read sent.
    let v = c.args.self.now.session in
    let w = c.next.new.self in
    let now = lane_scene (g.D.SessionLane.at c.args.lane.now) (g.D.SessionLane.begins c.args.lane.now) (g.C.Clock.moments c.args.clock.now) (g.D.SessionLane.seen c.args.lane.now) in
    goes_still (Ok session_step.Waits) refl refl c.let_go-self.ensures.at c.let_go-self.ensures.begins c.let_go-self.ensures.seen refl
    (goes_more {now = now} tells is_open read sent (subst (λ (n : Next). NextGives v n w) c.in-More.is c.in-Ok.ensures.ok))
