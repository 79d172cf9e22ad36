use Rattle.std.proofs.Common.{sym, ap, ◌∙◌, arith}
use Rattle.std.proofs.lemmas.Bool.{le-leb, lt-leb}
use Rattle.sf_reply.specs.declared.reply.StatusCode.{StatusCode}
use Rattle.sf_call.specs.Calls.{refuses}
use Rattle.sf_inode.specs.Stores.{link_count_at}
use Rattle.sf_walk.proofs.Courses.{roots_refused, no_roots, nested_there, apart_there, new_named, old_found, new_found}
use Rattle.sf_walk.proofs.Linking.{link_no_way, link_missing, link_directory, link_nested, link_new_no_way, link_taken, link_full, link_made}
use Rattle.sf_walk.proofs.links.link_course.Goals as goal

pub returns-in-NoWay-clause-course : goal.returns-in-NoWay-clause-course
returns-in-NoWay-clause-course c = λ t moment k.
    link_no_way c.args.store.now t k moment c.args.old.now c.args.new.now (no_roots c.args.store.now c.args.old.now c.args.new.now c.args.ways c.requires c.in_default.not-NoPath) (old_found c.args.store.now c.args.old.now c.args.new.now c.args.ways c.requires (no_roots c.args.store.now c.args.old.now c.args.new.now c.args.ways c.requires c.in_default.not-NoPath) _ c.in-NoWay.is)

pub returns-in-Missing-clause-course : goal.returns-in-Missing-clause-course
returns-in-Missing-clause-course c = λ t moment k.
    link_missing c.args.store.now t k moment c.args.old.now c.args.new.now (no_roots c.args.store.now c.args.old.now c.args.new.now c.args.ways c.requires c.in_default.not-NoPath) c.in-Missing.parent (old_found c.args.store.now c.args.old.now c.args.new.now c.args.ways c.requires (no_roots c.args.store.now c.args.old.now c.args.new.now c.args.ways c.requires c.in_default.not-NoPath) _ c.in-Missing.is)

pub returns-then-is_directory-clause-course : goal.returns-then-is_directory-clause-course
returns-then-is_directory-clause-course c = λ t moment k.
    link_directory c.args.store.now t k moment c.args.old.now c.args.new.now (no_roots c.args.store.now c.args.old.now c.args.new.now c.args.ways c.requires c.in_default.not-NoPath) c.in-At.parent c.in-At.node (old_found c.args.store.now c.args.old.now c.args.new.now c.args.ways c.requires (no_roots c.args.store.now c.args.old.now c.args.new.now c.args.ways c.requires c.in_default.not-NoPath) _ c.in-At.is) (sym c.is_directory.ensures ∙ c.if-is_directory.true)

pub returns-in-Along-clause-course : goal.returns-in-Along-clause-course
returns-in-Along-clause-course c = λ t moment k.
    link_nested c.args.store.now t k moment c.args.old.now c.args.new.now (no_roots c.args.store.now c.args.old.now c.args.new.now c.args.ways c.requires c.in_default.not-NoPath) c.in-At.parent c.in-At.node (old_found c.args.store.now c.args.old.now c.args.new.now c.args.ways c.requires (no_roots c.args.store.now c.args.old.now c.args.new.now c.args.ways c.requires c.in_default.not-NoPath) _ c.in-At.is) (sym c.is_directory.ensures ∙ c.if-is_directory.false) (nested_there c.args.store.now c.args.old.now c.args.new.now c.args.ways c.requires c.in-Along.is) ∙ ap (λ (code : StatusCode). refuses code) (sym c.nested_code.ensures)

pub returns-in-NoWay-new-clause-course : goal.returns-in-NoWay-new-clause-course
returns-in-NoWay-new-clause-course c = λ t moment k.
    link_new_no_way c.args.store.now t k moment c.args.old.now c.args.new.now (no_roots c.args.store.now c.args.old.now c.args.new.now c.args.ways c.requires c.in_default.not-NoPath) c.in-At.parent c.in-At.node (old_found c.args.store.now c.args.old.now c.args.new.now c.args.ways c.requires (no_roots c.args.store.now c.args.old.now c.args.new.now c.args.ways c.requires c.in_default.not-NoPath) _ c.in-At.is) (sym c.is_directory.ensures ∙ c.if-is_directory.false) (new_found c.args.store.now c.args.old.now c.args.new.now c.args.ways c.requires (apart_there c.args.store.now c.args.old.now c.args.new.now c.args.ways c.requires c.in_default.not-NoPath c.in_default-kind.not-Along) c.in-At.parent c.in-At.node c.in-At.is _ c.in-NoWay-new.is)

pub returns-in-At-new-clause-course : goal.returns-in-At-new-clause-course
returns-in-At-new-clause-course c = λ t moment k.
    link_taken c.args.store.now t k moment c.args.old.now c.args.new.now (no_roots c.args.store.now c.args.old.now c.args.new.now c.args.ways c.requires c.in_default.not-NoPath) c.in-At.parent c.in-At.node (old_found c.args.store.now c.args.old.now c.args.new.now c.args.ways c.requires (no_roots c.args.store.now c.args.old.now c.args.new.now c.args.ways c.requires c.in_default.not-NoPath) _ c.in-At.is) (sym c.is_directory.ensures ∙ c.if-is_directory.false) _ _ (new_found c.args.store.now c.args.old.now c.args.new.now c.args.ways c.requires (apart_there c.args.store.now c.args.old.now c.args.new.now c.args.ways c.requires c.in_default.not-NoPath c.in_default-kind.not-Along) c.in-At.parent c.in-At.node c.in-At.is _ c.in-At-new.is)

pub returns-then-links-ge-MAX_LINKS-clause-course : goal.returns-then-links-ge-MAX_LINKS-clause-course
returns-then-links-ge-MAX_LINKS-clause-course c = λ t moment k.
    link_full c.args.store.now t k moment c.args.old.now c.args.new.now (no_roots c.args.store.now c.args.old.now c.args.new.now c.args.ways c.requires c.in_default.not-NoPath) c.in-At.parent c.in-At.node (old_found c.args.store.now c.args.old.now c.args.new.now c.args.ways c.requires (no_roots c.args.store.now c.args.old.now c.args.new.now c.args.ways c.requires c.in_default.not-NoPath) _ c.in-At.is) (sym c.is_directory.ensures ∙ c.if-is_directory.false) c.in-Missing-new.into (new_found c.args.store.now c.args.old.now c.args.new.now c.args.ways c.requires (apart_there c.args.store.now c.args.old.now c.args.new.now c.args.ways c.requires c.in_default.not-NoPath c.in_default-kind.not-Along) c.in-At.parent c.in-At.node c.in-At.is _ c.in-Missing-new.is) (le-leb 1024 (link_count_at c.args.store.now.nodes c.in-At.node) (omega (arith, c.if-links-ge-MAX_LINKS.true, c.links.ensures)))

pub returns-else-links-ge-MAX_LINKS-clause-course : goal.returns-else-links-ge-MAX_LINKS-clause-course
returns-else-links-ge-MAX_LINKS-clause-course c = λ t moment k.
    link_made c.args.store.now t k moment c.args.old.now c.args.new.now (no_roots c.args.store.now c.args.old.now c.args.new.now c.args.ways c.requires c.in_default.not-NoPath) c.in-At.parent c.in-At.node (old_found c.args.store.now c.args.old.now c.args.new.now c.args.ways c.requires (no_roots c.args.store.now c.args.old.now c.args.new.now c.args.ways c.requires c.in_default.not-NoPath) _ c.in-At.is) (sym c.is_directory.ensures ∙ c.if-is_directory.false) c.in-Missing-new.into (new_found c.args.store.now c.args.old.now c.args.new.now c.args.ways c.requires (apart_there c.args.store.now c.args.old.now c.args.new.now c.args.ways c.requires c.in_default.not-NoPath c.in_default-kind.not-Along) c.in-At.parent c.in-At.node c.in-At.is _ c.in-Missing-new.is) (lt-leb 1024 (link_count_at c.args.store.now.nodes c.in-At.node) (omega (arith, c.if-links-ge-MAX_LINKS.false, c.links.ensures)))

pub returns-in-NoPath-clause-course : goal.returns-in-NoPath-clause-course
returns-in-NoPath-clause-course c = λ t moment k. roots_refused c.args.store.now c.args.old.now c.args.new.now c.args.ways c.requires c.in-NoPath.is _

pub returns-else-links-ge-MAX_LINKS-clause-named : goal.returns-else-links-ge-MAX_LINKS-clause-named
returns-else-links-ge-MAX_LINKS-clause-named c = new_named c.args.store.now c.args.old.now c.args.new.now c.args.ways c.requires c.in_default.not-NoPath
