use Rattle.std.proofs.Common.{◌≡◌, ◌<◌, ◌^◌, ℕ, true, false, Option, Some, None, is_some, inl, inr, refl, sym, ap, subst, ◌∙◌}
use Rattle.sf_reply.specs.declared.reply.Reply.{Reply}
use Rattle.sf_call.specs.declared.call.Call.{Call}
use Rattle.sf_call.specs.declared.call.Stage.TheVariants as stage
use Rattle.sf_call.specs.Unanswered.{at_stage}
use Rattle.sf_walk.specs.Files.{IsFileFree, WaitsForFile}
use Rattle.sf_core.specs.Cores.{call_at}
use Rattle.sf_core.specs.Parts.{PartsView}
use Rattle.sf_core.specs.Progress.{IsCopying, is_write}
use Rattle.sf_core.specs.Sound.{IsCore}
use Rattle.sf_core.specs.Stepping.{WalkComesTo, WalkState, ending}
use Rattle.sf_core.specs.declared.parts.WalkOutcome.{WalkOutcome}
use Rattle.sf_core.specs.declared.parts.WalkOutcome.TheVariants as outcome
use Rattle.sf_walk.specs.declared.walking.Walk.TheVariants as walk
use Rattle.sf_call.specs.declared.call.Stage.{Stage}
use Rattle.sf_core.proofs.Maps.{some_eq, none_some, there_is, reply_is}
use Rattle.sf_core.proofs.SparedFiles.{copying_stage}
use Rattle.sf_core.proofs.UnderWay.{staged_there}
use Rattle.sf_core.proofs.Walks.{none_moved}
use Rattle.sf_core.proofs.parts.Parts.walk_on.Goals as goal

-- the call takes no step
no_step : (p : PartsView) (session number most : ℕ) → 0 < most → IsCore p → p.store.look_ups < 2 ^ 64 → (o : WalkOutcome) → ((after : Stage) → o ≡ outcome.Walked (walk.Moved after) → ⊥) → WalkComesTo p p session number o
    → WalkState p session number most (ending o p)
no_step p session number most some core fits o not comes = record {
  moves = 0;
  mid = p;
  few = some;
  moved = none_moved p session number;
  last = record { core = core; fits = fits; comes = comes };
  full = λ after e. absurd (not after e);
}

pub returns-in_default-clause-comes : goal.returns-in_default-clause-comes
returns-in_default-clause-comes c =
    let none = c.in_default.ensures.call ∙ ap (λ (p : PartsView). call_at p.calls c.args.number) c.self.view_is in
    no_step c.args.self.now c.args.session c.args.number c.args.most c.requires.some c.requires.core (subst (λ (k : ℕ). k < 2 ^ 64) (c.look_ups-count.ensures ∙ ap (λ (p : PartsView). p.store.look_ups) c.self.view_is) c.look_ups-count.type_inv) outcome.Foreign (λ after e. cc)
    (refl, λ d at same. none_some d (none ∙ at))

pub returns-then-call-session-clause-comes : goal.returns-then-call-session-clause-comes
returns-then-call-session-clause-comes c =
    let there = c.in-Some.ensures.call ∙ ap (λ (p : PartsView). call_at p.calls c.args.number) c.self.view_is in
    no_step c.args.self.now c.args.session c.args.number c.args.most c.requires.some c.requires.core (subst (λ (k : ℕ). k < 2 ^ 64) (c.look_ups-count.ensures ∙ ap (λ (p : PartsView). p.store.look_ups) c.self.view_is) c.look_ups-count.type_inv) outcome.Foreign (λ after e. cc)
    (refl, λ d at same. c.if-call-session.true (ap (λ (x : Call). x.session) (some_eq c.in-Some.call.now d (there ∙ at)) ∙ same))

none_reply : (o : Option Reply) → is_some o ≡ false → o ≡ None
none_reply None e = refl
none_reply _ e = cc

-- a call whose reply is pending, and that isn't copying, holds nothing
rests : (p : PartsView) → IsCore p → (n : ℕ) (d : Call) → call_at p.calls n ≡ Some d → is_some d.reply ≡ true → ((node left : ℕ) → d.stage ≡ stage.Copies node left → ⊥) → d.stage ≡ stage.Fresh
rests p core n d at some not =
    let given = there_is d.reply some in
    elim (core.sound.coupled.waiting n d given.0 at (reply_is d ∙ given.1)) [
      | inl fresh ↦ fresh
      | inr copies ↦ let g = copying_stage d.stage copies in absurd (not g.0 g.1 g.2)
    ]

pub returns-in-Copies-clause-comes : goal.returns-in-Copies-clause-comes
returns-in-Copies-clause-comes c =
    let there = c.in-Some.ensures.call ∙ ap (λ (p : PartsView). call_at p.calls c.args.number) c.self.view_is in
    no_step c.args.self.now c.args.session c.args.number c.args.most c.requires.some c.requires.core (subst (λ (k : ℕ). k < 2 ^ 64) (c.look_ups-count.ensures ∙ ap (λ (p : PartsView). p.store.look_ups) c.self.view_is) c.look_ups-count.type_inv) outcome.Copies (λ after e. cc)
    (refl, c.in-Some.call.now, sym there, c.if-call-session.false, subst IsCopying (sym c.in-Copies.is) tt)

pub returns-then-is_some-clause-comes : goal.returns-then-is_some-clause-comes
returns-then-is_some-clause-comes c =
    let there = c.in-Some.ensures.call ∙ ap (λ (p : PartsView). call_at p.calls c.args.number) c.self.view_is in
    no_step c.args.self.now c.args.session c.args.number c.args.most c.requires.some c.requires.core (subst (λ (k : ℕ). k < 2 ^ 64) (c.look_ups-count.ensures ∙ ap (λ (p : PartsView). p.store.look_ups) c.self.view_is) c.look_ups-count.type_inv) outcome.Waits (λ after e. cc)
    (refl, c.in-Some.call.now, sym there, c.if-call-session.false, sym c.is_some.ensures ∙ c.if-is_some.true, rests c.args.self.now c.requires.core c.args.number c.in-Some.call.now (sym there) (sym c.is_some.ensures ∙ c.if-is_some.true) c.in_default-stage.not-Copies)

pub returns-in-Some-file_holder-clause-comes : goal.returns-in-Some-file_holder-clause-comes
returns-in-Some-file_holder-clause-comes c =
    let there = c.in-Some.ensures.call ∙ ap (λ (p : PartsView). call_at p.calls c.args.number) c.self.view_is in
    no_step c.args.self.now c.args.session c.args.number c.args.most c.requires.some c.requires.core (subst (λ (k : ℕ). k < 2 ^ 64) (c.look_ups-count.ensures ∙ ap (λ (p : PartsView). p.store.look_ups) c.self.view_is) c.look_ups-count.type_inv) (outcome.FileHeld c.in-Some-file_holder.holder) (λ after e. cc)
    (refl, c.in-Some.call.now, sym there, c.if-call-session.false, none_reply c.in-Some.call.now.reply (sym c.is_some.ensures ∙ c.if-is_some.false), subst (λ (p : PartsView). WaitsForFile p.store c.in-Some.call.now c.in-Some-file_holder.holder) c.self.view_is c.in-Some-file_holder.ensures.held)

pub returns-then-is_write-clause-comes : goal.returns-then-is_write-clause-comes
returns-then-is_write-clause-comes c =
    let there = c.in-Some.ensures.call ∙ ap (λ (p : PartsView). call_at p.calls c.args.number) c.self.view_is in
    let free = c.in_default-file_holder.ensures.free in
    no_step c.args.self.now c.args.session c.args.number c.args.most c.requires.some c.requires.core (subst (λ (k : ℕ). k < 2 ^ 64) (c.look_ups-count.ensures ∙ ap (λ (p : PartsView). p.store.look_ups) c.self.view_is) c.look_ups-count.type_inv) outcome.Writes (λ after e. cc)
    (refl, c.in-Some.call.now, sym there, c.if-call-session.false, none_reply c.in-Some.call.now.reply (sym c.is_some.ensures ∙ c.if-is_some.false), record { free = (subst (λ (p : PartsView). IsFileFree p.store c.in-Some.call.now) c.self.view_is free).free }, sym c.is_write.ensures ∙ c.if-is_write.true)

pub returns-clause-other : goal.returns-clause-other
returns-clause-other c = λ _ d at.
    let call = c.in-Some.call.now in
    let there = staged_there c.self.inside.calls c.args.number c.go_on-walk.new.stage call (sym c.in-Some.ensures.call) in
    let same : at_stage c.go_on-walk.new.stage call ≡ d = some_eq (at_stage c.go_on-walk.new.stage call) d (sym there ∙ ap (λ cs. call_at cs c.args.number) (sym c.set_stage.ensures) ∙ at) in
    ap (λ (x : Call). is_write x.request) (sym same) ∙ sym c.is_write.ensures ∙ c.if-is_write.false
