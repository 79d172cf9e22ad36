use Rattle.std.proofs.Common.{List, subst, ap, arith, ℕ}
use Rattle.sf_call.specs.declared.call.Call.{Call}
use Rattle.sf_call.specs.declared.record.Record.{Record}
use Rattle.sf_core.specs.Progress.{undecided_in}
use Rattle.sf_core.specs.Cores.{CoreView}
use Rattle.sf_core.specs.Parts.{core_of}
use Rattle.sf_core.specs.Events.{Joins}
use Rattle.sf_core.specs.Histories.{IsHistory}
use Rattle.sf_core.proofs.Joining.{joined_sound, joined_told}
use Rattle.sf_core.proofs.Unrecorded.{roomy}
use Rattle.sf_core.proofs.Turns.{sound_of}
use Rattle.sf_core.proofs.cores.Core.join.Goals as goal

pub invariant_of-self : goal.invariant_of-self
invariant_of-self c =
    let core = c.self.invariant.0 in
    let calls = ap (λ (cs : List (ℕ × Call)). undecided_in cs) c.in_default.ensures.err.calls in
    let places = c.self.invariant.1 in
    (record { history = core.history; sound = roomy c.self.inside.parts c.join.new.self core.history core.sound c.in_default.ensures.err }, omega (arith, calls, places))

pub invariant_of-self-2 : goal.invariant_of-self-2
invariant_of-self-2 c =
    let core = c.self.invariant.0 in
    let calls = ap (λ (cs : List (ℕ × Call)). undecided_in cs) c.in-Ok.ensures.ok.calls in
    let places = c.self.invariant.1 in (
      record {
        history = core.history;
        sound = joined_sound c.self.inside.parts c.join.new.self core.history core.sound c.in-Ok.ensures.ok (omega (arith, c.joins.ensures, c.if-joins-ge-LAST_NUMBER.false))
            (omega (arith, c.joined.ensures, c.if-joined-ge-MOST_SESSIONS.false));
      },
      omega (arith, calls, places),
    )

pub returns-clause-ok : goal.returns-clause-ok
returns-clause-ok c =
    let core = c.self.invariant.0 in
    subst (λ (v : CoreView). Joins v (core_of c.join.new.self)) c.self.view_is
    (joined_told c.self.inside.parts c.join.new.self core.history core.sound c.in-Ok.ensures.ok (omega (arith, c.joins.ensures, c.if-joins-ge-LAST_NUMBER.false)) (omega (arith, c.joined.ensures, c.if-joined-ge-MOST_SESSIONS.false)))

pub returns-clause-history : goal.returns-clause-history
returns-clause-history c =
    let p = c.self.inside.parts in
    subst (λ (v : CoreView). (h : List Record) → IsHistory v h → IsHistory (core_of c.join.new.self) h) c.self.view_is
    (λ h is. (joined_sound p c.join.new.self h (sound_of p c.self.invariant.0 h is) c.in-Ok.ensures.ok (omega (arith, c.joins.ensures, c.if-joins-ge-LAST_NUMBER.false)) (omega (arith, c.joined.ensures, c.if-joined-ge-MOST_SESSIONS.false))).history)
