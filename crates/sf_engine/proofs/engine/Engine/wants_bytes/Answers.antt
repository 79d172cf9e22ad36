use Rattle.std.proofs.Common.{◌≡◌, ℕ, Some, refl, arith, ap, sym, ◌∙◌, inl, inr, slice_get, length}
use Rattle.std.proofs.lemmas.Option.{slice_get_read}
use Rattle.sf_engine.specs.declared.hosted.HostedSession.{HostedSession}
use Rattle.sf_engine.specs.Views.{EngineView}
use Rattle.sf_engine.proofs.WaitingForBytes.{waits_log, none_waits}
use Rattle.sf_engine.proofs.engine.Engine.wants_bytes.Goals as goal

pub returns : goal.returns
returns c =
    let i = c.self.inside in
    let at : ℕ = c.in-Some.at in
    let hosted_session : HostedSession = c.index.result.now in
    let read : slice_get i.hosted.items at ≡ Some hosted_session = slice_get_read i.hosted.items (length i.hosted.items) at hosted_session refl (omega (arith, c.in-Some.ensures.some.1, c.len.ensures, i.hosted.ok.0)) c.index.ensures in
    let was : slice_get c.args.self.now.hosted at ≡ Some hosted_session = ap (λ (e : EngineView). slice_get e.hosted at) (sym c.self.view_is) ∙ read in
    waits_log c.args.self.now c.in-Some.at c.args.session hosted_session c.wants_bytes.result c.in-Some.ensures.some.0 was c.wants_bytes.ensures

pub returns-in_default : goal.returns-in_default
returns-in_default c =
    let count : length c.args.self.now.hosted ≡ length c.self.inside.hosted.items = ap (λ (e : EngineView). length e.hosted) (sym c.self.view_is) in
    none_waits c.args.self.now c.args.session (elim c.in_default.ensures.none [ inl e ↦ inl e | inr lt ↦ inr (omega (arith, lt, count, c.len.ensures, c.self.inside.hosted.ok.0)) ])
