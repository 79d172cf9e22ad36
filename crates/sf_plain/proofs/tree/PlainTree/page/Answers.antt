use Rattle.std.proofs.Common.{arith}
use Rattle.std.specs.Map.Iter.{deref_pair}
use Rattle.std.proofs.lemmas.Map.Iter.{rest_more, rest_all}
use Rattle.sf_plain.proofs.Pages.{page_turn, page_full, page_ends, last_full, last_ends}
use Rattle.sf_plain.proofs.tree.PlainTree.page.Goals.{in-None, in-Some+then-len-eq-MAX_ENTRIES}
use Rattle.sf_plain.proofs.tree.PlainTree.page.Goals as goal

pub names-preserved-in_ok-push : goal.names-preserved-in_ok-push
names-preserved-in_ok-push c =
    page_turn {n = (c.in-Some.path.now, c.in-Some.label.now)} c.names.invariant
    (rest_more deref_pair _ _ _ (c.in-Some.path, c.in-Some.label) c.in-Some.is c.next.ensures.steps) (omega arith) (record { given = c.in_ok-entry.ensures.entry; is = c.in-Some-2.is; named = c.in_ok-entry.ensures.name }) c.in_ok-push.ensures.items

pub names-preserved-in_ok-push-2 : goal.names-preserved-in_ok-push-2
names-preserved-in_ok-push-2 c =
    page_turn {n = (c.in-Some.path.now, c.in-Some.label.now)} c.names.invariant
    (rest_more deref_pair _ _ _ (c.in-Some.path, c.in-Some.label) c.in-Some.is c.next.ensures.steps) (omega arith) (record { given = c.in_ok-entry.ensures.entry; is = c.in-Some-2.is; named = c.in_ok-entry.ensures.name }) c.in_ok-push.ensures.items

pub returns-clause-entries : goal.returns-clause-entries
returns-clause-entries c =
    elim c.match-next.branch [
      | in-None w ↦ page_ends c.names.invariant (rest_all deref_pair _ _ _ w.in-None.is c.next.ensures.steps)
      | in-Some+then-len-eq-MAX_ENTRIES w ↦ page_full c.names.invariant (omega (arith, w.len.ensures, w.if-len-eq-MAX_ENTRIES.true))
    ]

pub returns-clause-last : goal.returns-clause-last
returns-clause-last c =
    elim c.match-next.branch [
      | in-None w ↦ last_ends c.names.invariant (rest_all deref_pair _ _ _ w.in-None.is c.next.ensures.steps)
      | in-Some+then-len-eq-MAX_ENTRIES w ↦ last_full c.names.invariant (omega (arith, w.len.ensures, w.if-len-eq-MAX_ENTRIES.true))
    ]
