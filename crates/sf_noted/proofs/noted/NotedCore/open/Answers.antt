use Rattle.std.proofs.Common.{[], List, sym, ◌∙◌, subst}
use Rattle.sf_call.specs.declared.record.Record.{Record}
use Rattle.sf_noted.specs.Pages.{Page}
use Rattle.sf_noted.specs.Noted.{PagesAgree}
use Rattle.sf_noted.proofs.Agreeing.{begins_noted}
use Rattle.sf_noted.proofs.noted.NotedCore.open.Goals as goal

pub invariant_of-result : goal.invariant_of-result
invariant_of-result g c =
    (subst (λ (h : List Record). PagesAgree c.args.core c.named-keeper.result.0 h) (sym c.named-keeper.ensures.log) (subst (λ (ps : List Page). PagesAgree c.args.core ps []) (sym c.named-keeper.ensures.keeper) (begins_noted c.args.core c.requires.new c.requires.none.0 c.requires.none.1 c.owners.ensures)), c.requires.total ∙ sym c.requires.none.1)
