use Rattle.std.proofs.Common.{sym, ◌∙◌}
use Rattle.std.specs.Map.Iter.{deref_pair}
use Rattle.sf_plain.proofs.Renames.{last_left, carries_one, carries_none}
use Rattle.sf_plain.proofs.tree.PlainTree.moved_names.Goals as goal

pub names-preserved-in_ok-insert : goal.names-preserved-in_ok-insert
names-preserved-in_ok-insert c =
    carries_one c.args.old.now c.args.new.now _ _ (c.in-Some.path.now, c.in-Some.label.now)
    (last_left deref_pair _ _ _ (c.in-Some.path, c.in-Some.label) c.in-Some.is c.next.ensures.steps) (sym c.in-Some-2.is ∙ c.in_ok-there.ensures) c.in_ok-insert.ensures.entries c.names.invariant

pub names-preserved : goal.names-preserved
names-preserved c =
    carries_none c.args.old.now c.args.new.now _ _ (c.in-Some.path.now, c.in-Some.label.now)
    (last_left deref_pair _ _ _ (c.in-Some.path, c.in-Some.label) c.in-Some.is c.next.ensures.steps) (sym c.in_default.is ∙ c.in_ok-there.ensures) c.names.invariant
