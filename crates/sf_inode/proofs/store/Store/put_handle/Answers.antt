use Rattle.std.proofs.Common.{rules}
use Rattle.std.specs.Ordering.{nat_cmp}
use Rattle.std.specs.BTreeMap.{is_at}
use Rattle.std.proofs.lemmas.Map.Steps.{set_value_same}
use Rattle.sf_inode.proofs.store.Store.put_handle.Goals as goal

pub returns-in_err-insert-in-Some-clause-err : goal.returns-in_err-insert-in-Some-clause-err
returns-in_err-insert-in-Some-clause-err c =
    let same = set_value_same (is_at (nat_cmp c.args.session)) c.self.inside.sessions.entries c.in-Some.handles.now (search rules) in
    search (rules, same)
