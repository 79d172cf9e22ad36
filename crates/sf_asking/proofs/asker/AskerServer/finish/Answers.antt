use Rattle.std.proofs.Common.{◌∙◌, ap}
use Rattle.sf_trees.specs.Operations.{Ends}
use Rattle.sf_asking.specs.Askers.{AskerView}
use Rattle.sf_asking.proofs.Once.{one_operation}
use Rattle.sf_asking.proofs.asker.AskerServer.finish.Goals as goal

pub returns : goal.returns
returns g c =
    let moment = ap (λ (v : AskerView g.row.E.Denot). v.moment) c.self.view_is in
    let engine = c.deref_mut.ensures.value ∙ ap (λ (v : AskerView g.row.E.Denot). v.engine) c.self.view_is in
    one_operation g.E.Sftp.has_log c.self.inside.moment c.args.self.now.moment (Ends c.args.session) c.args.self.now.engine c.deref_mut.result.now c.close.new.engine moment engine c.close.ensures
