use Rattle.std.proofs.Common.{List, ℕ, refl, ap, subst, arith}
use Rattle.sf_call.specs.declared.call.Call.{Call}
use Rattle.sf_call.specs.declared.record.Record.{Record}
use Rattle.sf_core.specs.Cores.{CoreView}
use Rattle.sf_core.specs.Lanes.{LaneView}
use Rattle.sf_core.specs.Parts.{core_of}
use Rattle.sf_core.specs.Events.{CallBegins}
use Rattle.sf_core.specs.Histories.{IsHistory}
use Rattle.sf_core.specs.Progress.{undecided_in}
use Rattle.sf_core.proofs.Starting.{undecided_few, begun_sound, begun_told}
use Rattle.sf_core.proofs.Unrecorded.{roomy}
use Rattle.sf_core.proofs.Turns.{sound_of}
use Rattle.sf_core.proofs.cores.Core.begin.Goals as goal

pub invariant_of-self : goal.invariant_of-self
invariant_of-self c = c.self.invariant

pub invariant_of-self-in_default-begin : goal.invariant_of-self-in_default-begin
invariant_of-self-in_default-begin c =
    let core = c.self.invariant.0 in
    let err = c.in_default-begin.ensures.err in
    let places = c.self.invariant.1 in
    let calls = ap (λ (cs : List (ℕ × Call)). undecided_in cs) err.calls in
    (record { history = core.history; sound = roomy c.self.inside.parts c.begin.new.self core.history core.sound err }, omega (arith, places, calls, c.reserve.ensures.capacity))

pub invariant_of-self-2 : goal.invariant_of-self-2
invariant_of-self-2 c =
    let p = c.self.inside.parts in
    let q = c.begin.new.self in
    let core = c.self.invariant.0 in
    let sound = begun_sound p q core.history core.sound c.lane.inside.session c.args.request c.args.moment c.in-Ok-begin.ensures.ok (c.if-not-is_idle.ensures.0 refl) (omega (arith, c.drawn.ensures, c.if-drawn-ge-LAST_NUMBER.false)) in
    let few = undecided_few p.calls in
    let x = core.sound.history.counted in
    let y = sound.history.counted in
    let drawn = c.in-Ok-begin.ensures.ok.drawn in
    (record { history = core.history; sound = sound }, omega (arith, few, x, y, drawn, c.unanswered-places.ensures.count, c.in-Ok.ensures.ok))

pub returns-clause-ok : goal.returns-clause-ok
returns-clause-ok c =
    let core = c.self.invariant.0 in
    subst (λ (v : CoreView). CallBegins v (core_of c.begin.new.self) c.args.lane.now c.args.request c.args.moment) c.self.view_is
    (subst (λ (l : LaneView). CallBegins (core_of c.self.inside.parts) (core_of c.begin.new.self) l c.args.request c.args.moment) c.lane.view_is
    (begun_told c.self.inside.parts c.begin.new.self core.history core.sound c.lane.inside.session c.args.request c.args.moment c.in-Ok-begin.ensures.ok (c.if-not-is_idle.ensures.0 refl)
    (omega (arith, c.drawn.ensures, c.if-drawn-ge-LAST_NUMBER.false)) c.lane.inside.call c.lane.inside.begun))

pub returns-clause-history : goal.returns-clause-history
returns-clause-history c =
    let p = c.self.inside.parts in
    subst (λ (v : CoreView). (h : List Record) → IsHistory v h → IsHistory (core_of c.begin.new.self) h) c.self.view_is
    (λ h is. (begun_sound p c.begin.new.self h (sound_of p c.self.invariant.0 h is) c.lane.inside.session c.args.request c.args.moment c.in-Ok-begin.ensures.ok (c.if-not-is_idle.ensures.0 refl)
    (omega (arith, c.drawn.ensures, c.if-drawn-ge-LAST_NUMBER.false))).history)
