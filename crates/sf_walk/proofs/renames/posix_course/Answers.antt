use Rattle.std.proofs.Common.{refl, sym, ◌∙◌}
use Rattle.sf_call.specs.Calls.{posix_rename}
use Rattle.sf_walk.proofs.Courses.{roots_refused, no_roots, nested_there, apart_there, not_same, never_same, old_named, new_named, old_found, new_found, old_no_way, old_missing, posix_same, posix_nested, posix_no_way, posix_moves, posix_one, posix_replaces, posix_refused}
use Rattle.sf_walk.proofs.renames.posix_course.Goals as goal

pub returns-then-eq-clause-course : goal.returns-then-eq-clause-course
returns-then-eq-clause-course c = λ t moment k.
    posix_same c.args.store.now t k moment c.args.old.now c.args.new.now (no_roots c.args.store.now c.args.old.now c.args.new.now c.args.ways c.requires c.in_default.not-NoPath) c.in-At.parent c.in-At.node (old_found c.args.store.now c.args.old.now c.args.new.now c.args.ways c.requires (no_roots c.args.store.now c.args.old.now c.args.new.now c.args.ways c.requires c.in_default.not-NoPath) _ c.in-At.is) (sym c.eq.ensures.value ∙ c.if-eq.true)

pub returns-in-Along-clause-course : goal.returns-in-Along-clause-course
returns-in-Along-clause-course c = λ t moment k.
    posix_nested c.args.store.now t k moment c.args.old.now c.args.new.now (no_roots c.args.store.now c.args.old.now c.args.new.now c.args.ways c.requires c.in_default.not-NoPath) c.in-At.parent c.in-At.node (old_found c.args.store.now c.args.old.now c.args.new.now c.args.ways c.requires (no_roots c.args.store.now c.args.old.now c.args.new.now c.args.ways c.requires c.in_default.not-NoPath) _ c.in-At.is) (sym c.eq.ensures.value ∙ c.if-eq.false) (nested_there c.args.store.now c.args.old.now c.args.new.now c.args.ways c.requires c.in-Along.is)

pub returns-in-NoWay-clause-course : goal.returns-in-NoWay-clause-course
returns-in-NoWay-clause-course c = λ t moment k.
    old_no_way c.args.store.now t k moment c.args.old.now c.args.new.now (no_roots c.args.store.now c.args.old.now c.args.new.now c.args.ways c.requires c.in_default.not-NoPath) (posix_rename t moment c.args.old.now c.args.new.now) refl (old_found c.args.store.now c.args.old.now c.args.new.now c.args.ways c.requires (no_roots c.args.store.now c.args.old.now c.args.new.now c.args.ways c.requires c.in_default.not-NoPath) _ c.in-NoWay.is)

pub returns-in-Missing-clause-course : goal.returns-in-Missing-clause-course
returns-in-Missing-clause-course c = λ t moment k.
    old_missing c.args.store.now t k moment c.args.old.now c.args.new.now (no_roots c.args.store.now c.args.old.now c.args.new.now c.args.ways c.requires c.in_default.not-NoPath) (posix_rename t moment c.args.old.now c.args.new.now) refl c.in-Missing.parent (old_found c.args.store.now c.args.old.now c.args.new.now c.args.ways c.requires (no_roots c.args.store.now c.args.old.now c.args.new.now c.args.ways c.requires c.in_default.not-NoPath) _ c.in-Missing.is)

pub returns-in-NoWay-new-clause-course : goal.returns-in-NoWay-new-clause-course
returns-in-NoWay-new-clause-course c = λ t moment k.
    posix_no_way c.args.store.now t k moment c.args.old.now c.args.new.now (no_roots c.args.store.now c.args.old.now c.args.new.now c.args.ways c.requires c.in_default.not-NoPath) c.in-At.parent c.in-At.node (old_found c.args.store.now c.args.old.now c.args.new.now c.args.ways c.requires (no_roots c.args.store.now c.args.old.now c.args.new.now c.args.ways c.requires c.in_default.not-NoPath) _ c.in-At.is) (apart_there c.args.store.now c.args.old.now c.args.new.now c.args.ways c.requires c.in_default.not-NoPath c.in_default-kind.not-Along) (not_same c.args.store.now c.args.old.now c.args.new.now c.args.ways c.requires c.in_default.not-NoPath c.in_default-kind.not-Along) (new_found c.args.store.now c.args.old.now c.args.new.now c.args.ways c.requires (apart_there c.args.store.now c.args.old.now c.args.new.now c.args.ways c.requires c.in_default.not-NoPath c.in_default-kind.not-Along) c.in-At.parent c.in-At.node c.in-At.is _ c.in-NoWay-new.is)

pub returns-in-Missing-new-clause-course : goal.returns-in-Missing-new-clause-course
returns-in-Missing-new-clause-course c = λ t moment k.
    posix_moves c.args.store.now t k moment c.args.old.now c.args.new.now (no_roots c.args.store.now c.args.old.now c.args.new.now c.args.ways c.requires c.in_default.not-NoPath) c.in-At.parent c.in-At.node (old_found c.args.store.now c.args.old.now c.args.new.now c.args.ways c.requires (no_roots c.args.store.now c.args.old.now c.args.new.now c.args.ways c.requires c.in_default.not-NoPath) _ c.in-At.is) (apart_there c.args.store.now c.args.old.now c.args.new.now c.args.ways c.requires c.in_default.not-NoPath c.in_default-kind.not-Along) (not_same c.args.store.now c.args.old.now c.args.new.now c.args.ways c.requires c.in_default.not-NoPath c.in_default-kind.not-Along) c.in-Missing-new.into (new_found c.args.store.now c.args.old.now c.args.new.now c.args.ways c.requires (apart_there c.args.store.now c.args.old.now c.args.new.now c.args.ways c.requires c.in_default.not-NoPath c.in_default-kind.not-Along) c.in-At.parent c.in-At.node c.in-At.is _ c.in-Missing-new.is)

pub returns-then-node-target-clause-course : goal.returns-then-node-target-clause-course
returns-then-node-target-clause-course c = λ t moment k.
    posix_one c.args.store.now t k moment c.args.old.now c.args.new.now (no_roots c.args.store.now c.args.old.now c.args.new.now c.args.ways c.requires c.in_default.not-NoPath) c.in-At.parent c.in-At.node (old_found c.args.store.now c.args.old.now c.args.new.now c.args.ways c.requires (no_roots c.args.store.now c.args.old.now c.args.new.now c.args.ways c.requires c.in_default.not-NoPath) _ c.in-At.is) (apart_there c.args.store.now c.args.old.now c.args.new.now c.args.ways c.requires c.in_default.not-NoPath c.in_default-kind.not-Along) (not_same c.args.store.now c.args.old.now c.args.new.now c.args.ways c.requires c.in_default.not-NoPath c.in_default-kind.not-Along) c.in-At-new.into c.in-At-new.target (new_found c.args.store.now c.args.old.now c.args.new.now c.args.ways c.requires (apart_there c.args.store.now c.args.old.now c.args.new.now c.args.ways c.requires c.in_default.not-NoPath c.in_default-kind.not-Along) c.in-At.parent c.in-At.node c.in-At.is _ c.in-At-new.is) c.if-node-target.true

pub returns-then-may_replace-clause-course : goal.returns-then-may_replace-clause-course
returns-then-may_replace-clause-course c = λ t moment k.
    posix_replaces c.args.store.now t k moment c.args.old.now c.args.new.now (no_roots c.args.store.now c.args.old.now c.args.new.now c.args.ways c.requires c.in_default.not-NoPath) c.in-At.parent c.in-At.node (old_found c.args.store.now c.args.old.now c.args.new.now c.args.ways c.requires (no_roots c.args.store.now c.args.old.now c.args.new.now c.args.ways c.requires c.in_default.not-NoPath) _ c.in-At.is) (apart_there c.args.store.now c.args.old.now c.args.new.now c.args.ways c.requires c.in_default.not-NoPath c.in_default-kind.not-Along) (not_same c.args.store.now c.args.old.now c.args.new.now c.args.ways c.requires c.in_default.not-NoPath c.in_default-kind.not-Along) c.in-At-new.into c.in-At-new.target (new_found c.args.store.now c.args.old.now c.args.new.now c.args.ways c.requires (apart_there c.args.store.now c.args.old.now c.args.new.now c.args.ways c.requires c.in_default.not-NoPath c.in_default-kind.not-Along) c.in-At.parent c.in-At.node c.in-At.is _ c.in-At-new.is) c.if-node-target.false (sym c.may_replace.ensures ∙ c.if-may_replace.true)

pub returns-else-may_replace-clause-course : goal.returns-else-may_replace-clause-course
returns-else-may_replace-clause-course c = λ t moment k.
    posix_refused c.args.store.now t k moment c.args.old.now c.args.new.now (no_roots c.args.store.now c.args.old.now c.args.new.now c.args.ways c.requires c.in_default.not-NoPath) c.in-At.parent c.in-At.node (old_found c.args.store.now c.args.old.now c.args.new.now c.args.ways c.requires (no_roots c.args.store.now c.args.old.now c.args.new.now c.args.ways c.requires c.in_default.not-NoPath) _ c.in-At.is) (apart_there c.args.store.now c.args.old.now c.args.new.now c.args.ways c.requires c.in_default.not-NoPath c.in_default-kind.not-Along) (not_same c.args.store.now c.args.old.now c.args.new.now c.args.ways c.requires c.in_default.not-NoPath c.in_default-kind.not-Along) c.in-At-new.into c.in-At-new.target (new_found c.args.store.now c.args.old.now c.args.new.now c.args.ways c.requires (apart_there c.args.store.now c.args.old.now c.args.new.now c.args.ways c.requires c.in_default.not-NoPath c.in_default-kind.not-Along) c.in-At.parent c.in-At.node c.in-At.is _ c.in-At-new.is) c.if-node-target.false (sym c.may_replace.ensures ∙ c.if-may_replace.false)

pub returns-in-NoPath-clause-course : goal.returns-in-NoPath-clause-course
returns-in-NoPath-clause-course c = λ t moment k. roots_refused c.args.store.now c.args.old.now c.args.new.now c.args.ways c.requires c.in-NoPath.is _

pub returns-in-Missing-new-clause-named : goal.returns-in-Missing-new-clause-named
returns-in-Missing-new-clause-named c = (old_named c.args.store.now c.args.old.now c.args.new.now c.args.ways c.requires c.in_default.not-NoPath, new_named c.args.store.now c.args.old.now c.args.new.now c.args.ways c.requires c.in_default.not-NoPath)

pub returns-in-Missing-new-clause-same : goal.returns-in-Missing-new-clause-same
returns-in-Missing-new-clause-same c = never_same c.args.store.now c.args.old.now c.args.new.now c.args.ways c.requires c.in_default.not-NoPath c.in_default-kind.not-Along

pub returns-then-may_replace-clause-named : goal.returns-then-may_replace-clause-named
returns-then-may_replace-clause-named c = (old_named c.args.store.now c.args.old.now c.args.new.now c.args.ways c.requires c.in_default.not-NoPath, new_named c.args.store.now c.args.old.now c.args.new.now c.args.ways c.requires c.in_default.not-NoPath)

pub returns-then-may_replace-clause-same : goal.returns-then-may_replace-clause-same
returns-then-may_replace-clause-same c = never_same c.args.store.now c.args.old.now c.args.new.now c.args.ways c.requires c.in_default.not-NoPath c.in_default-kind.not-Along
