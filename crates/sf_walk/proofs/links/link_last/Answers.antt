use Rattle.std.proofs.Common.{subst, ◌≡◌, ◌∙◌, ℕ, List, OnOk}
use Rattle.sf_inode.specs.Stores.{linked}
use Rattle.sf_walk.specs.Ways.{last_name_of}
use Rattle.sf_walk.proofs.LastNames.{last_name}
use Rattle.sf_walk.proofs.links.link_last.Goals as goal

pub returns-clause-ok : goal.returns-clause-ok
returns-clause-ok c =
    let name : c.in_ok-name.name ≡ last_name_of c.args.new.now = c.in_ok-name.ensures ∙ last_name _ _ _ c.name.ensures c.len.ensures in
    subst (λ (n : List ℕ). OnOk c.link.result (c.link.new.self ≡ linked c.args.store.now c.args.into n c.args.node)) name c.link.ensures.ok
