use Rattle.std.proofs.Common.{List, [], ◌∷◌, ◌++◌, ℕ, refl, subst, ap, arith}
use Rattle.sf_call.specs.declared.call.Call.{Call}
use Rattle.sf_call.specs.declared.record.Record.{Record}
use Rattle.sf_call.specs.declared.record.Record.TheVariants.{Left}
use Rattle.sf_core.specs.Progress.{undecided_in}
use Rattle.sf_core.specs.Cores.{CoreView}
use Rattle.sf_core.specs.Lanes.{LaneView}
use Rattle.sf_core.specs.Parts.{core_of}
use Rattle.sf_core.specs.Events.{SessionLeaves}
use Rattle.sf_core.specs.Histories.{IsHistory}
use Rattle.sf_core.proofs.Leaving.{left_sound, left_told}
use Rattle.sf_core.proofs.Turns.{sound_of}
use Rattle.sf_core.proofs.cores.Core.leave.Goals as goal

pub invariant_of-self : goal.invariant_of-self
invariant_of-self c =
    let core = c.self.invariant.0 in
    let session = c.lane.inside.session in
    let calls = ap (λ (cs : List (ℕ × Call)). undecided_in cs) c.leave.ensures.calls in
    let places = c.self.invariant.1 in (
      record { history = core.history ++ Left session ∷ []; sound = left_sound c.self.inside.parts c.leave.new.self core.history core.sound session c.leave.ensures (c.if-not-is_idle.ensures.0 refl) },
      omega (arith, calls, places),
    )

pub returns-clause-ok : goal.returns-clause-ok
returns-clause-ok c =
    let core = c.self.invariant.0 in
    subst (λ (v : CoreView). SessionLeaves v (core_of c.leave.new.self) c.args.lane.session) c.self.view_is
    (subst (λ (s : ℕ). SessionLeaves (core_of c.self.inside.parts) (core_of c.leave.new.self) s) (ap (λ (l : LaneView). l.session) c.lane.view_is)
    (left_told c.self.inside.parts c.leave.new.self core.history core.sound c.lane.inside.session c.leave.ensures (c.if-not-is_idle.ensures.0 refl)))

pub returns-clause-history : goal.returns-clause-history
returns-clause-history c =
    let p = c.self.inside.parts in
    subst (λ (v : CoreView). (h : List Record) → IsHistory v h → IsHistory (core_of c.leave.new.self) (h ++ Left c.args.lane.session ∷ [])) c.self.view_is
    (subst (λ (s : ℕ). (h : List Record) → IsHistory (core_of c.self.inside.parts) h → IsHistory (core_of c.leave.new.self) (h ++ Left s ∷ [])) (ap (λ (l : LaneView). l.session) c.lane.view_is)
    (λ h is. (left_sound p c.leave.new.self h (sound_of p c.self.invariant.0 h is) c.lane.inside.session c.leave.ensures (c.if-not-is_idle.ensures.0 refl)).history))
