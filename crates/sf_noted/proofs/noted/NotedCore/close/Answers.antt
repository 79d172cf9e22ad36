use Rattle.std.proofs.Common.{◌≡◌, ℕ, List, All, sym, ap, ◌∙◌, subst}
use Rattle.sf_call.specs.declared.record.Record.{Record}
use Rattle.sf_core.specs.Cores.{CoreView}
use Rattle.sf_noted.specs.Pages.{Page}
use Rattle.sf_noted.specs.Noted.{PagesAgree}
use Rattle.sf_noted.specs.Visits.{IsOnPage}
use Rattle.sf_noted.specs.Closing.{AreCleared}
use Rattle.sf_noted.proofs.Closing.{closed}
use Rattle.sf_noted.proofs.noted.NotedCore.close.Goals as goal

pub returns-clause-calls : goal.returns-clause-calls
returns-clause-calls g c =
    let start = c.gather.ensures.core in
    let e = c.in_ok-visits.ensures in
    let visits = c.args.visits.items in
    let agree = subst (λ (v : CoreView × List Page × List Record). PagesAgree v.0 v.1 v.2) start c.agrees.ensures in
    let pages = subst (λ (v : CoreView × List Page × List Record). All (IsOnPage v.1) visits) start e.pages in
    let keeper : c.noted.inside.keeper ≡ c.args.self.1 = ap (λ (v : CoreView × List Page × List Record). v.1) (c.noted.view_is ∙ (e.core ∙ start)) in
    let cleared = subst (λ (ps : List Page). AreCleared ps visits c.clear.new.keeper) keeper (subst (λ (vs : List (ℕ × Page)). AreCleared c.noted.inside.keeper vs c.clear.new.keeper) e.visits c.clear.ensures) in
    closed c.args.self.0 c.args.self.1 c.args.self.2 agree visits pages (sym c.requires.calls ∙ c.gather.ensures.all) c.clear.new.keeper cleared
