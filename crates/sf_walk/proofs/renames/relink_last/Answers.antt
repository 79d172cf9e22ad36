use Rattle.std.proofs.Common.{subst, ◌≡◌, ◌∙◌, ℕ, List, OnOk}
use Rattle.sf_inode.specs.Stores.{relinked}
use Rattle.sf_walk.specs.Ways.{last_name_of}
use Rattle.sf_walk.proofs.LastNames.{last_name}
use Rattle.sf_walk.proofs.renames.relink_last.Goals as goal

pub returns-clause-ok : goal.returns-clause-ok
returns-clause-ok c =
    let from : c.name-2.result.now ≡ last_name_of c.args.old.now = last_name _ _ _ c.name-2.ensures c.len-2.ensures in
    let into : c.in_ok-name.name ≡ last_name_of c.args.new.now = c.in_ok-name.ensures ∙ last_name _ _ _ c.name.ensures c.len.ensures in
    subst (λ (name : List ℕ). OnOk c.relink.result (c.relink.new.self ≡ relinked c.args.store.now c.args.from (last_name_of c.args.old.now) c.args.into name)) into
    (subst (λ (name : List ℕ). OnOk c.relink.result (c.relink.new.self ≡ relinked c.args.store.now c.args.from name c.args.into c.in_ok-name.name)) from
    c.relink.ensures.ok)
