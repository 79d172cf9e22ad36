use Rattle.std.proofs.Common.{◌≡◌, Err, refl, arith, ap, sym, subst, inl, inr, length}
use Rattle.std.proofs.lemmas.Option.{slice_get_read}
use Rattle.sf_engine.specs.declared.event.Event.TheVariants as event
use Rattle.sf_engine.specs.declared.event.EngineFault.TheVariants as fault
use Rattle.sf_engine.specs.Views.{EngineView}
use Rattle.sf_engine.specs.HasLog.{AppendsEntry}
use Rattle.sf_engine.proofs.EventSteps.{any_send_log, unknown_log}
use Rattle.sf_engine.proofs.Base.{change_at, engine, changed}
use Rattle.sf_engine.proofs.Runs.{stays_engine, turns_stay, is_placed, is_ready}
use Rattle.sf_engine.proofs.engine.Engine.sent.Goals as goal

pub returns-in_default-clause-log : goal.returns-in_default-clause-log
returns-in_default-clause-log c =
    let old = c.args.self.now in
    let count : length old.hosted ≡ length c.self.inside.hosted.items = ap (λ (e : EngineView). length e.hosted) (sym c.self.view_is) in
    unknown_log old c.args.session (event.Sent c.args.session c.args.n) (elim c.in_default.ensures.none [ inl e ↦ inl e | inr lt ↦ inr (omega (arith, lt, count, c.len.ensures, c.self.inside.hosted.ok.0)) ]) (λ log none. none)

pub invariant_of-self : goal.invariant_of-self
invariant_of-self c =
    let i = c.self.inside in
    let s = change_at c.in-Some.at i.core i.core i.hosted.items c.send_hosted.new.hosted c.in-Some.ensures.some.0
    (slice_get_read i.hosted.items (length i.hosted.items) c.in-Some.at c.index_mut.result.now refl (omega (arith, c.in-Some.ensures.some.1, c.len.ensures, i.hosted.ok.0)) c.index_mut.ensures.value) in
    stays_engine s.old (event.Sent c.args.session c.args.n) c.send_hosted.result (changed s) (any_send_log s c.args.n c.send_hosted.result (record { core = refl; ok = c.send_hosted.ensures.ok; err = c.send_hosted.ensures.err; fault = c.send_hosted.ensures.fault })) c.self.invariant

pub returns-clause-log : goal.returns-clause-log
returns-clause-log c =
    let i = c.self.inside in
    let s = change_at c.in-Some.at i.core i.core i.hosted.items c.send_hosted.new.hosted c.in-Some.ensures.some.0
    (slice_get_read i.hosted.items (length i.hosted.items) c.in-Some.at c.index_mut.result.now refl (omega (arith, c.in-Some.ensures.some.1, c.len.ensures, i.hosted.ok.0)) c.index_mut.ensures.value) in
    let P : EngineView → Type 0 = λ e. AppendsEntry e (event.Sent c.args.session c.args.n) c.send_hosted.result (changed s) in
    subst P c.self.view_is (any_send_log s c.args.n c.send_hosted.result (record { core = refl; ok = c.send_hosted.ensures.ok; err = c.send_hosted.ensures.err; fault = c.send_hosted.ensures.fault }))
