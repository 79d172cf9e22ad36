use Rattle.std.proofs.Common.{sym, ap, subst, ◌∙◌}
use Rattle.sf_reply.specs.declared.reply.Reply.{Reply}
use Rattle.sf_field.specs.declared.operation.PathOp.{PathOp}
use Rattle.sf_field.specs.declared.operation.PathOp.TheVariants as path_op
use Rattle.sf_field.specs.declared.operation.PairOp.{PairOp}
use Rattle.sf_field.specs.declared.operation.PairOp.TheVariants as pair_op
use Rattle.sf_field.specs.declared.operation.HandleOp.{HandleOp}
use Rattle.sf_call.specs.declared.request.Request.TheVariants as request
use Rattle.sf_call.specs.Calls.{answer_to, stat_opened}
use Rattle.sf_call.specs.Handles.{opened}
use Rattle.sf_walk.specs.Served.{IsCarriedOut}
use Rattle.sf_walk.proofs.Rooted.{twice_copies, served_twice, wanted_twice}
use Rattle.sf_walk.proofs.Dispatch.{stat_opened_served}
use Rattle.sf_walk.proofs.calls.answer.Goals as goal

pub returns-in-Mkdir-clause-served : goal.returns-in-Mkdir-clause-served
returns-in-Mkdir-clause-served c = λ t k fresh.
    served_twice c.mkdir.new.store t c.args.call.now.session c.args.call.now.number c.args.call.now.moment c.args.call.now.request (request.OnPath (path_op.Mkdir c.in-Mkdir.attrs) c.in-OnPath.path) (c.in-OnPath.is ∙ ap (λ (op : PathOp). request.OnPath op c.in-OnPath.path) c.in-Mkdir.is)
    c.mkdir.result c.twice_ok.result c.twice_ok.ensures (c.mkdir.ensures.served t k fresh)

pub returns-in-Mkdir-clause-wants : goal.returns-in-Mkdir-clause-wants
returns-in-Mkdir-clause-wants c = λ t k fresh.
    wanted_twice c.mkdir.new.store t c.args.call.now.session c.args.call.now.number c.args.call.now.moment c.args.call.now.request (request.OnPath (path_op.Mkdir c.in-Mkdir.attrs) c.in-OnPath.path) (c.in-OnPath.is ∙ ap (λ (op : PathOp). request.OnPath op c.in-OnPath.path) c.in-Mkdir.is)
    c.mkdir.result c.twice_ok.result c.twice_ok.ensures (c.mkdir.ensures.served t k fresh)

pub returns-in-OpenDir-clause-copy : goal.returns-in-OpenDir-clause-copy
returns-in-OpenDir-clause-copy c = twice_copies c.open_directory.result c.twice_ok-in-OpenDir.result c.twice_ok-in-OpenDir.ensures

pub returns-in-Open-clause-served : goal.returns-in-Open-clause-served
returns-in-Open-clause-served c = λ t k fresh.
    served_twice c.open-opened.new.store t c.args.call.now.session c.args.call.now.number c.args.call.now.moment c.args.call.now.request (request.OnPath (path_op.Open c.in-Open.flags c.in-Open.attrs) c.in-OnPath.path) (c.in-OnPath.is ∙ ap (λ (op : PathOp). request.OnPath op c.in-OnPath.path) c.in-Open.is)
    c.open-opened.result c.twice_ok-in-Open.result c.twice_ok-in-Open.ensures (c.open-opened.ensures.served t k fresh)

pub returns-in-Open-clause-wants : goal.returns-in-Open-clause-wants
returns-in-Open-clause-wants c = λ t k fresh.
    wanted_twice c.open-opened.new.store t c.args.call.now.session c.args.call.now.number c.args.call.now.moment c.args.call.now.request (request.OnPath (path_op.Open c.in-Open.flags c.in-Open.attrs) c.in-OnPath.path) (c.in-OnPath.is ∙ ap (λ (op : PathOp). request.OnPath op c.in-OnPath.path) c.in-Open.is)
    c.open-opened.result c.twice_ok-in-Open.result c.twice_ok-in-Open.ensures (c.open-opened.ensures.served t k fresh)

pub returns-in-Open-clause-copy : goal.returns-in-Open-clause-copy
returns-in-Open-clause-copy c = twice_copies c.open-opened.result c.twice_ok-in-Open.result c.twice_ok-in-Open.ensures

pub returns-in-Rename-clause-served : goal.returns-in-Rename-clause-served
returns-in-Rename-clause-served c = λ t k fresh.
    served_twice c.rename.new.store t c.args.call.now.session c.args.call.now.number c.args.call.now.moment c.args.call.now.request (request.OnPaths pair_op.Rename c.in-OnPaths.old c.in-OnPaths.new) (c.in-OnPaths.is ∙ ap (λ (op : PairOp). request.OnPaths op c.in-OnPaths.old c.in-OnPaths.new) c.in-Rename.is)
    c.rename.result c.twice_ok-in-Rename.result c.twice_ok-in-Rename.ensures (c.rename.ensures.served t k)

pub returns-in-Rename-clause-wants : goal.returns-in-Rename-clause-wants
returns-in-Rename-clause-wants c = λ t k fresh.
    wanted_twice c.rename.new.store t c.args.call.now.session c.args.call.now.number c.args.call.now.moment c.args.call.now.request (request.OnPaths pair_op.Rename c.in-OnPaths.old c.in-OnPaths.new) (c.in-OnPaths.is ∙ ap (λ (op : PairOp). request.OnPaths op c.in-OnPaths.old c.in-OnPaths.new) c.in-Rename.is)
    c.rename.result c.twice_ok-in-Rename.result c.twice_ok-in-Rename.ensures (c.rename.ensures.served t k)

pub returns-in-PosixRename-clause-served : goal.returns-in-PosixRename-clause-served
returns-in-PosixRename-clause-served c = λ t k fresh.
    served_twice c.posix_rename.new.store t c.args.call.now.session c.args.call.now.number c.args.call.now.moment c.args.call.now.request (request.OnPaths pair_op.PosixRename c.in-OnPaths.old c.in-OnPaths.new) (c.in-OnPaths.is ∙ ap (λ (op : PairOp). request.OnPaths op c.in-OnPaths.old c.in-OnPaths.new) c.in-PosixRename.is)
    c.posix_rename.result c.twice_ok-in-PosixRename.result c.twice_ok-in-PosixRename.ensures (c.posix_rename.ensures.served t k)

pub returns-in-PosixRename-clause-wants : goal.returns-in-PosixRename-clause-wants
returns-in-PosixRename-clause-wants c = λ t k fresh.
    wanted_twice c.posix_rename.new.store t c.args.call.now.session c.args.call.now.number c.args.call.now.moment c.args.call.now.request (request.OnPaths pair_op.PosixRename c.in-OnPaths.old c.in-OnPaths.new) (c.in-OnPaths.is ∙ ap (λ (op : PairOp). request.OnPaths op c.in-OnPaths.old c.in-OnPaths.new) c.in-PosixRename.is)
    c.posix_rename.result c.twice_ok-in-PosixRename.result c.twice_ok-in-PosixRename.ensures (c.posix_rename.ensures.served t k)

pub returns-in-Link-clause-served : goal.returns-in-Link-clause-served
returns-in-Link-clause-served c = λ t k fresh.
    served_twice c.link.new.store t c.args.call.now.session c.args.call.now.number c.args.call.now.moment c.args.call.now.request (request.OnPaths pair_op.Link c.in-OnPaths.old c.in-OnPaths.new) (c.in-OnPaths.is ∙ ap (λ (op : PairOp). request.OnPaths op c.in-OnPaths.old c.in-OnPaths.new) c.in-Link.is)
    c.link.result c.twice_ok-in-Link.result c.twice_ok-in-Link.ensures (c.link.ensures.served t k)

pub returns-in-Link-clause-wants : goal.returns-in-Link-clause-wants
returns-in-Link-clause-wants c = λ t k fresh.
    wanted_twice c.link.new.store t c.args.call.now.session c.args.call.now.number c.args.call.now.moment c.args.call.now.request (request.OnPaths pair_op.Link c.in-OnPaths.old c.in-OnPaths.new) (c.in-OnPaths.is ∙ ap (λ (op : PairOp). request.OnPaths op c.in-OnPaths.old c.in-OnPaths.new) c.in-Link.is)
    c.link.result c.twice_ok-in-Link.result c.twice_ok-in-Link.ensures (c.link.ensures.served t k)

pub returns-in-FStat-clause-served : goal.returns-in-FStat-clause-served
returns-in-FStat-clause-served c = λ t k fresh.
    subst (λ request. IsCarriedOut c.args.store.now t (answer_to t c.args.call.now.session c.args.call.now.number c.args.call.now.moment request) c.twice-in-FStat.result.0) (sym (c.in-ByHandle.is ∙ ap (λ (op : HandleOp). request.ByHandle op c.in-ByHandle.handle) c.in-FStat.is))
    (subst (λ (r : Reply). IsCarriedOut c.args.store.now t (stat_opened (opened t c.args.call.now.session c.in-ByHandle.handle)) r) (sym (ap (λ (p : Reply × Reply). p.0) c.twice-in-FStat.ensures))
    (stat_opened_served (opened t c.args.call.now.session c.in-ByHandle.handle) c.args.store.now t c.stat_handle.result k (c.stat_handle.ensures.served t k)))
