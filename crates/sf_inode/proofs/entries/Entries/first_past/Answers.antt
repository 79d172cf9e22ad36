use Rattle.std.proofs.Common.{ap, ◌∙◌, ℕ, List, [], ◌∷◌, ◌++◌, take}
use Rattle.sf_path.specs.Names.{Name}
use Rattle.sf_inode.proofs.Firsts.{one_more_taken}
use Rattle.sf_inode.proofs.entries.Entries.first_past.Goals as goal

pub loop-name-preserved : goal.loop-name-preserved
loop-name-preserved c =
    let steps = c.in-Some-2.ensures.steps in
    let rest = c.next.new.self in
    let put = c.in_ok-push.ensures.items ∙ ap (λ (n : Name). c.loop-name.found.items ++ (n, c.in-Some-2.node.now) ∷ []) c.in_ok-try_copy.ensures in
    ap (λ (found : List (Name × ℕ)). found ++ take rest.n rest.iter) put
    ∙ one_more_taken c.loop-name.found.items c.loop-name.name-iterator.iter rest.iter rest.n c.loop-name.name-iterator.n (c.in-Some-2.name.now, c.in-Some-2.node.now) steps.0 steps.1
    ∙ c.loop-name.invariant
