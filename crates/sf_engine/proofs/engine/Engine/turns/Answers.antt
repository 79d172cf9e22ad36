use Rattle.std.proofs.Common.{[], ◌∷◌, Err, ◌≡◌, ℕ, ◌≤◌, ◌-◌, ◌^◌, true, Some, refl, arith, ap, sym, subst, inl, inr, slice_get, length}
use Rattle.std.proofs.lemmas.Option.{slice_get_read}
use Rattle.sf_engine.specs.declared.event.Event.TheVariants as event
use Rattle.sf_engine.specs.declared.event.EngineFault.TheVariants as fault
use Rattle.sf_engine.specs.Views.{EngineView}
use Rattle.sf_engine.specs.HasLog.{AppendsTurns}
use Rattle.sf_engine.proofs.EventSteps.{unknown_log}
use Rattle.sf_engine.proofs.Runs.{turns_log, last_turn}
use Rattle.sf_engine.proofs.Base.{change_at, engine, changed}
use Rattle.sf_engine.proofs.Runs.{stays_engine, turns_stay, is_placed, is_ready}
use Rattle.sf_engine.proofs.engine.Engine.turns.Goals as goal

pub turns_hosted-requires : goal.turns_hosted-requires
turns_hosted-requires c =
    let i = c.self.inside in
    let at : ℕ = c.in-Some.at in
    let was : slice_get i.hosted.items at ≡ Some c.index_mut.result.now =
    slice_get_read i.hosted.items (length i.hosted.items) at c.index_mut.result.now refl (omega (arith, c.in-Some.ensures.some.1, c.len.ensures, i.hosted.ok.0)) c.index_mut.ensures.value in
    is_ready (engine i.core i.hosted.items) c.self.invariant.0 c.self.invariant.1 at c.index_mut.result.now was

pub invariant_of-self : goal.invariant_of-self
invariant_of-self c =
    let i = c.self.inside in
    let s = change_at c.in-Some.at i.core c.turns_hosted.new.core i.hosted.items c.turns_hosted.new.hosted c.in-Some.ensures.some.0
    (slice_get_read i.hosted.items (length i.hosted.items) c.in-Some.at c.index_mut.result.now refl (omega (arith, c.in-Some.ensures.some.1, c.len.ensures, i.hosted.ok.0)) c.index_mut.ensures.value) in
    let k = c.turns_hosted.ensures.turns in
    turns_stay k.turns s c.args.moment c.turns_hosted.result c.turns_hosted.ensures.closed k.give c.self.invariant

pub returns : goal.returns
returns c =
    let i = c.self.inside in
    let s = change_at c.in-Some.at i.core c.turns_hosted.new.core i.hosted.items c.turns_hosted.new.hosted c.in-Some.ensures.some.0
    (slice_get_read i.hosted.items (length i.hosted.items) c.in-Some.at c.index_mut.result.now refl (omega (arith, c.in-Some.ensures.some.1, c.len.ensures, i.hosted.ok.0)) c.index_mut.ensures.value) in
    let P : EngineView → Type 0 = λ e. AppendsTurns e c.args.session c.args.moment c.turns_hosted.result (changed s) in
    let k = c.turns_hosted.ensures.turns in
    subst P c.self.view_is (λ log h.
    let it = turns_log k.turns s c.args.moment c.turns_hosted.result c.turns_hosted.ensures.closed k.give log h in
    let count = it.count in
    (it.entries, it.are, it.has, λ goes. let far = k.far goes in omega (arith, far, count)))

pub returns-in_default : goal.returns-in_default
returns-in_default c = λ log h.
    let old = c.args.self.now in
    let count : length old.hosted ≡ length c.self.inside.hosted.items = ap (λ (e : EngineView). length e.hosted) (sym c.self.view_is) in
    let it = unknown_log old c.args.session (event.Turn c.args.session c.args.moment) (elim c.in_default.ensures.none [ inl e ↦ inl e | inr lt ↦ inr (omega (arith, lt, count, c.len.ensures, c.self.inside.hosted.ok.0)) ]) (λ log none. none) log h in
    (it.0 ∷ [], last_turn c.args.session c.args.moment (Err fault.NoSuchSession) it.0 it.1 it.2, it.3, λ e. absurd cc)
