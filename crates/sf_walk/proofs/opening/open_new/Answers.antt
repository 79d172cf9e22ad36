use Rattle.std.proofs.Common.{ap, ◌∙◌, refl}
use Rattle.sf_inode.specs.Stores.{unlinked}
use Rattle.sf_walk.proofs.LastNames.{last_name}
use Rattle.sf_walk.proofs.Undone.{undone}
use Rattle.sf_walk.proofs.opening.open_new.Goals as goal

pub returns-in-Err-clause-err : goal.returns-in-Err-clause-err
returns-in-Err-clause-err c =
    undone _ _ _ (record { dir = _; name = _; id = _; node = _; directory = c.requires.directory; free = c.requires.missing; closed = refl; one = refl; inserted = c.in_ok-node.ensures.ok })
    (c.unlink.ensures ∙ ap (λ s. unlinked s c.args.parent c.name.result.now) c.in-Err.ensures.err
    ∙ ap (unlinked c.insert_last.new.store c.args.parent) (last_name c.args.path.now c.len.result c.name.result.now c.name.ensures c.len.ensures))
