use Rattle.std.proofs.Common.{Option, ◌≡◌, ap, sym, subst, ◌∙◌, is_some}
use Rattle.sf_path.specs.Names.{Path}
use Rattle.sf_field.specs.declared.operation.PairOp.{PairOp}
use Rattle.sf_field.specs.declared.operation.PairOp.TheVariants as pair_op
use Rattle.sf_call.specs.declared.request.Request.{Request}
use Rattle.sf_call.specs.declared.request.Request.TheVariants as request
use Rattle.sf_call.specs.Changes.{moved_by}
use Rattle.sf_call.specs.Calls.{answer_to}
use Rattle.sf_walk.specs.Ways.{IsLocated}
use Rattle.sf_walk.proofs.NoMoves.{others_stay, course_moves}
use Rattle.sf_walk.proofs.renames.is_move.Goals as goal

pub returns-in_default : goal.returns-in_default
returns-in_default c = λ t k.
    sym (ap (λ (o : Option Path). is_some o) (others_stay t c.args.call.now.session c.args.call.now.number c.args.call.now.moment c.args.call.now.request (c.in_default.not-OnPaths pair_op.Rename) (c.in_default.not-OnPaths pair_op.PosixRename)))

pub returns-in-Rename : goal.returns-in-Rename
returns-in-Rename c = λ t k.
    let is : c.args.call.now.request ≡ request.OnPaths pair_op.Rename c.in-OnPaths.old c.in-OnPaths.new = c.in-OnPaths.is ∙ ap (λ (op : PairOp). request.OnPaths op c.in-OnPaths.old c.in-OnPaths.new) c.in-Rename.is in
    let w = subst (λ (r : Request). IsLocated c.args.store.now r c.args.ways) is c.requires in
    c.does_move.ensures ∙ course_moves c.args.store.now t c.args.call.now.moment _ _ _ _ (c.rename_course.ensures.course c.args.store.now t c.in-OnPaths.old c.in-OnPaths.new c.args.call.now.moment k w)
    ∙ ap (λ (r : Request). is_some (moved_by (answer_to t c.args.call.now.session c.args.call.now.number c.args.call.now.moment r).changes)) (sym is)

pub returns-in-PosixRename : goal.returns-in-PosixRename
returns-in-PosixRename c = λ t k.
    let is : c.args.call.now.request ≡ request.OnPaths pair_op.PosixRename c.in-OnPaths.old c.in-OnPaths.new = c.in-OnPaths.is ∙ ap (λ (op : PairOp). request.OnPaths op c.in-OnPaths.old c.in-OnPaths.new) c.in-PosixRename.is in
    c.does_move-in-PosixRename.ensures ∙ course_moves c.args.store.now t c.args.call.now.moment _ _ _ _ (c.posix_course.ensures.course t c.args.call.now.moment k)
    ∙ ap (λ (r : Request). is_some (moved_by (answer_to t c.args.call.now.session c.args.call.now.number c.args.call.now.moment r).changes)) (sym is)

pub returns-in-Link : goal.returns-in-Link
returns-in-Link c = λ t k.
    let is : c.args.call.now.request ≡ request.OnPaths pair_op.Link c.in-OnPaths.old c.in-OnPaths.new = c.in-OnPaths.is ∙ ap (λ (op : PairOp). request.OnPaths op c.in-OnPaths.old c.in-OnPaths.new) c.in-Link.is in
    sym (ap (λ (o : Option Path). is_some o) (others_stay t c.args.call.now.session c.args.call.now.number c.args.call.now.moment c.args.call.now.request (λ old new e. cc) (λ old new e. cc)))
