use Rattle.std.proofs.Common.{◌≡◌, ℕ, ap, sym, subst, ◌∙◌, length, arith, All}
use Rattle.std.proofs.lemmas.List.Sums.{sum_by-append}
use Rattle.std.proofs.lemmas.List.Elements.{All-head, All-tail}
use Rattle.sf_noted.specs.Pages.{Page}
use Rattle.sf_noted.specs.Pages.{page_calls}
use Rattle.sf_noted.specs.Visits.{visit_calls}
use Rattle.sf_workers.specs.declared.workers.Worked.{Worked}
use Rattle.sf_workers.specs.Streams.{ServesEach}
use Rattle.sf_workers.proofs.Receiving.{each_none, each_both}
use Rattle.sf_workers.proofs.lines.together.Goals as goal

pub loop-worked-init : goal.loop-worked-init
loop-worked-init g c =
    let gives = c.into_iter-worked-iterator.ensures.into_iter_gives.0 in
    let Keeps : Worked g.row.B.Denot g.row.S.Denot g.B.RollName → Type 0 = λ it. it.served.sessions.keeps ≡ c.args.keeps in
    let Each : Worked g.row.B.Denot g.row.S.Denot g.B.RollName → Type 0 = λ it. ServesEach it.receipts it.served.sessions.visits.items in
    record {
      counted = c.requires.none.0 ∙ sym (ap visit_calls c.none-sessions.ensures.visits);
      parts = (let as_many = ap length gives in omega arith);
      keeps = c.none-sessions.ensures.keeps;
      each = each_none _ _ c.requires.none.1 c.none-sessions.ensures.visits;
      left = subst (All Keeps) (sym gives) c.requires.keeps;
      left_each = subst (All Each) (sym gives) c.requires.each;
    }

pub loop-worked-preserved : goal.loop-worked-preserved
loop-worked-preserved g c =
    let i = c.loop-worked.invariant in
    let w = c.in-Some.worked in
    let s = w.served in
    let next = c.in-Some.ensures.steps.0 in
    let old = c.loop-worked.sessions.visits.items in
    let more = s.sessions.visits.items in
    let all = ap visit_calls c.in_ok-sessions.ensures.visits ∙ sum_by-append (λ (x : ℕ × Page). page_calls x.1) old more in
    let one = ap length next in
    let Keeps : Worked g.row.B.Denot g.row.S.Denot g.B.RollName → Type 0 = λ it. it.served.sessions.keeps ≡ c.args.keeps in
    let Each : Worked g.row.B.Denot g.row.S.Denot g.B.RollName → Type 0 = λ it. ServesEach it.receipts it.served.sessions.visits.items in
    record {
      counted = (let merged = c.merge.ensures.amount in let theirs = s.counted in let ours = i.counted in omega arith);
      parts = (let merged = c.merge.ensures.parts in let two = s.parts in let ours = i.parts in omega arith);
      keeps = c.in_ok-sessions.ensures.keeps ∙ i.keeps;
      each = each_both _ _ _ _ _ _ i.each (All-head Each w c.next.new.self.rest.items (subst (All Each) next i.left_each)) c.merge-in-loop-worked.ensures c.in_ok-sessions.ensures.visits;
      left = All-tail Keeps w c.next.new.self.rest.items (subst (All Keeps) next i.left);
      left_each = All-tail Each w c.next.new.self.rest.items (subst (All Each) next i.left_each);
    }
