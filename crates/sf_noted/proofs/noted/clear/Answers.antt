use Rattle.std.proofs.Common.{◌≡◌, ◌+◌, ◌++◌, ◌∷◌, [], ℕ, List, All, rules, sym, ap, ◌∙◌, subst}
use Rattle.std.specs.Prelude.{slice_set}
use Rattle.std.proofs.lemmas.List.Elements.{All-head}
use Rattle.sf_noted.specs.Pages.{Page}
use Rattle.sf_noted.specs.PageChanges.{cleared}
use Rattle.sf_noted.specs.Visits.{IsOnPage}
use Rattle.sf_noted.proofs.Lists.{all_front, all_next, one_taken}
use Rattle.sf_noted.proofs.Closing.{none_cleared, clears}
use Rattle.sf_noted.proofs.noted.clear.Goals as goal

pub loop-visit-init : goal.loop-visit-init
loop-visit-init g c = ([], search rules, none_cleared _)

pub loop-visit-preserved : goal.loop-visit-preserved
loop-visit-preserved g c =
    let (done, taken, so_far) = c.loop-visit.invariant in
    let left = c.next.new.self.rest.items in
    let visit = c.in-Some.visit in
    let pages = c.args.keeper.now in
    let t = c.visit.inside.ticket in
    let split : done ++ visit ∷ left ≡ c.args.visits.items = ap (λ (l : List (ℕ × Page)). done ++ l) (sym c.in-Some.ensures.steps.0) ∙ taken in
    let all = subst (All (IsOnPage pages)) (sym split) c.requires in
    let on_page = All-head (IsOnPage pages) visit left (all_next (IsOnPage pages) done (visit ∷ left) all) in
    let a = c.agrees.ensures in (
      done ++ (t.0 + 1, t.1) ∷ [],
      one_taken done left c.args.visits.items visit (t.0 + 1, t.1) split c.visit.view_is,
      clears pages c.loop-visit.keeper c.change.new.self done t.0 t.1 (all_front (IsOnPage pages) done (visit ∷ left) all) (subst (IsOnPage pages) (sym c.visit.view_is) on_page) so_far a.known
          (c.change.ensures.all ∙ (λ i. slice_set (a.all i) (a.ticket i).0 (cleared (a.ticket i).1))),
    )
