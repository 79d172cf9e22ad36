use Rattle.std.proofs.Common.{◌++◌, ℕ, List, ap, sym, subst, ◌∙◌, All}
use Rattle.std.proofs.lemmas.List.Elements.{All-push}
use Rattle.sf_call.specs.declared.record.Record.{Record}
use Rattle.sf_core.specs.Cores.{CoreView}
use Rattle.sf_noted.specs.Pages.{Page}
use Rattle.sf_noted.specs.Visits.{IsOnPage}
use Rattle.sf_noted.proofs.Lists.{one_taken}
use Rattle.sf_noted.proofs.noted.confirm_all.Goals as goal

pub loop-visit-preserved : goal.loop-visit-preserved
loop-visit-preserved g c =
    let i = c.loop-visit.invariant in
    let e = c.confirm.ensures in
    let left = c.next.new.self.rest.items in
    let visit = c.in-Some.visit in
    let taken = c.loop-visit.all.items in
    let pushed = c.in_ok-push.ensures.items in
    record {
      core = e.core ∙ i.core;
      visits = ap (λ (l : List (ℕ × Page)). l ++ left) pushed
          ∙ one_taken taken left c.args.visits.items visit c.confirm.new.visit (ap (λ (l : List (ℕ × Page)). taken ++ l) (sym c.in-Some.ensures.steps.0) ∙ i.visits) e.visit;
      pages =
          let own = subst (λ (v : CoreView × List Page × List Record). IsOnPage v.1 visit) i.core e.page in
          subst (All (IsOnPage c.args.core.now.1)) (sym pushed)
          (All-push (IsOnPage c.args.core.now.1) taken c.confirm.new.visit i.pages (subst (IsOnPage c.args.core.now.1) (sym e.visit) own));
    }
