use Rattle.std.proofs.Common.{◌≡◌, ap, ◌∙◌}
use Rattle.sf_path.specs.Names.{Name}
use Rattle.sf_call.specs.Attributes.{modified_at}
use Rattle.sf_inode.specs.Nodes.{with_metadata}
use Rattle.sf_inode.specs.Stores.{StoreState, edited, unlinked}
use Rattle.sf_walk.specs.Ways.{last_name_of}
use Rattle.sf_walk.proofs.LastNames.{last_name}
use Rattle.sf_walk.proofs.Parents.{goes_served}
use Rattle.sf_walk.proofs.path_calls.remove_last.Goals as goal

pub returns-clause-served : goal.returns-clause-served
returns-clause-served c = λ t node h at bare.
    let state : c.touch.new.self ≡ edited (with_metadata (modified_at c.args.moment)) (unlinked c.args.store.now c.args.dir (last_name_of c.args.path.now)) c.args.dir =
    c.touch.ensures ∙ ap (λ (x : StoreState). edited (with_metadata (modified_at c.args.moment)) x c.args.dir)
    (c.unlink.ensures ∙ ap (λ (n : Name). unlinked c.args.store.now c.args.dir n) (last_name c.args.path.now c.len.result c.name.result.now c.name.ensures c.len.ensures)) in
    goes_served c.args.store.now c.touch.new.self t c.args.path.now h (record { moment = c.args.moment; dir = c.args.dir; node = node; some = c.requires; way = at; bare = bare; state = state })
