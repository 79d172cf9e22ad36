use Rattle.std.proofs.Common.{◌≡◌, Some, sym, ap, subst, ◌∙◌}
use Rattle.sf_walk.specs.Files.{IsSettled}
use Rattle.sf_core.specs.Cores.{call_at}
use Rattle.sf_core.specs.Parts.{PartsView}
use Rattle.sf_core.proofs.CopySteps.{no_write}
use Rattle.sf_core.proofs.parts.Parts.finish.Goals as goal

pub decide-reply-requires-clause-settled : goal.decide-reply-requires-clause-settled
decide-reply-requires-clause-settled c =
    let call = c.as_call.result.now in
    let at : call_at c.self.inside.calls c.args.number ≡ Some call = sym c.remove.ensures.call ∙ c.in-Some.is ∙ ap Some (sym c.as_call.ensures) in
    subst (λ (v : PartsView). IsSettled v.store call.session call.request c.args.ways.path) (sym c.self.view_is)
    (c.requires.settled call (subst (λ (v : PartsView). call_at v.calls c.args.number ≡ Some call) c.self.view_is at))

pub decide-reply-requires-clause-not_write : goal.decide-reply-requires-clause-not_write
decide-reply-requires-clause-not_write c =
    let call = c.as_call.result.now in
    let at : call_at c.self.inside.calls c.args.number ≡ Some call = sym c.remove.ensures.call ∙ c.in-Some.is ∙ ap Some (sym c.as_call.ensures) in
    no_write call.request (c.requires.not_write call (subst (λ (v : PartsView). call_at v.calls c.args.number ≡ Some call) c.self.view_is at))
