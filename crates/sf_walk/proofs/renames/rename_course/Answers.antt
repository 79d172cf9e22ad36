use Rattle.std.proofs.Common.{refl}
use Rattle.sf_call.specs.Calls.{rename}
use Rattle.sf_walk.proofs.Courses.{roots_refused, no_roots, nested_there, apart_there, old_named, new_named, old_found, new_found, old_no_way, old_missing, rename_nested, rename_no_way, rename_taken, rename_moves}
use Rattle.sf_walk.proofs.renames.rename_course.Goals as goal

pub returns-in-Along-clause-course : goal.returns-in-Along-clause-course
returns-in-Along-clause-course c = λ s t old new moment k w.
    rename_nested s t k moment old new (no_roots s old new c.args.ways w c.in_default.not-NoPath) c.in-At.parent c.in-At.node (old_found s old new c.args.ways w (no_roots s old new c.args.ways w c.in_default.not-NoPath) _ c.in-At.is) (nested_there s old new c.args.ways w c.in-Along.is)

pub returns-in-NoWay-clause-course : goal.returns-in-NoWay-clause-course
returns-in-NoWay-clause-course c = λ s t old new moment k w.
    old_no_way s t k moment old new (no_roots s old new c.args.ways w c.in_default.not-NoPath) (rename t moment old new) refl (old_found s old new c.args.ways w (no_roots s old new c.args.ways w c.in_default.not-NoPath) _ c.in-NoWay.is)

pub returns-in-Missing-clause-course : goal.returns-in-Missing-clause-course
returns-in-Missing-clause-course c = λ s t old new moment k w.
    old_missing s t k moment old new (no_roots s old new c.args.ways w c.in_default.not-NoPath) (rename t moment old new) refl c.in-Missing.parent (old_found s old new c.args.ways w (no_roots s old new c.args.ways w c.in_default.not-NoPath) _ c.in-Missing.is)

pub returns-in-NoWay-new-clause-course : goal.returns-in-NoWay-new-clause-course
returns-in-NoWay-new-clause-course c = λ s t old new moment k w.
    rename_no_way s t k moment old new (no_roots s old new c.args.ways w c.in_default.not-NoPath) c.in-At.parent c.in-At.node (old_found s old new c.args.ways w (no_roots s old new c.args.ways w c.in_default.not-NoPath) _ c.in-At.is) (apart_there s old new c.args.ways w c.in_default.not-NoPath c.in_default-kind.not-Along) (new_found s old new c.args.ways w (apart_there s old new c.args.ways w c.in_default.not-NoPath c.in_default-kind.not-Along) c.in-At.parent c.in-At.node c.in-At.is _ c.in-NoWay-new.is)

pub returns-in-At-new-clause-course : goal.returns-in-At-new-clause-course
returns-in-At-new-clause-course c = λ s t old new moment k w.
    rename_taken s t k moment old new (no_roots s old new c.args.ways w c.in_default.not-NoPath) c.in-At.parent c.in-At.node (old_found s old new c.args.ways w (no_roots s old new c.args.ways w c.in_default.not-NoPath) _ c.in-At.is) (apart_there s old new c.args.ways w c.in_default.not-NoPath c.in_default-kind.not-Along) _ _ (new_found s old new c.args.ways w (apart_there s old new c.args.ways w c.in_default.not-NoPath c.in_default-kind.not-Along) c.in-At.parent c.in-At.node c.in-At.is _ c.in-At-new.is)

pub returns-in-Missing-new-clause-course : goal.returns-in-Missing-new-clause-course
returns-in-Missing-new-clause-course c = λ s t old new moment k w.
    rename_moves s t k moment old new (no_roots s old new c.args.ways w c.in_default.not-NoPath) c.in-At.parent c.in-At.node (old_found s old new c.args.ways w (no_roots s old new c.args.ways w c.in_default.not-NoPath) _ c.in-At.is) (apart_there s old new c.args.ways w c.in_default.not-NoPath c.in_default-kind.not-Along) c.in-Missing-new.into (new_found s old new c.args.ways w (apart_there s old new c.args.ways w c.in_default.not-NoPath c.in_default-kind.not-Along) c.in-At.parent c.in-At.node c.in-At.is _ c.in-Missing-new.is)

pub returns-in-NoPath-clause-course : goal.returns-in-NoPath-clause-course
returns-in-NoPath-clause-course c = λ s t old new moment k w. roots_refused s old new c.args.ways w c.in-NoPath.is _

pub returns-in-Missing-new-clause-named : goal.returns-in-Missing-new-clause-named
returns-in-Missing-new-clause-named c = λ s old new w. (old_named s old new c.args.ways w c.in_default.not-NoPath, new_named s old new c.args.ways w c.in_default.not-NoPath)
