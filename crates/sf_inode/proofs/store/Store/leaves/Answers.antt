use Rattle.std.proofs.Common.{◌≡◌, ◌∙◌, sym, ap, ℕ, List, [], ◌∷◌, ◌++◌, Option, None, Some}
use Rattle.sf_path.specs.Names.{Path}
use Rattle.sf_call.specs.Leaves.{Leaf}
use Rattle.sf_inode.specs.Stores.{StoreState, node_in, shown_node}
use Rattle.sf_inode.specs.declared.node.Node.{Node}
use Rattle.sf_inode.specs.Nodes.{entries_in}
use Rattle.sf_inode.specs.Leaves.{below}
use Rattle.sf_inode.proofs.Leaving.{none_left, passed_over, one_named}
use Rattle.sf_inode.proofs.store.Store.leaves.Goals as goal

pub returns : goal.returns
returns c =
    let s : StoreState = c.args.self.now in
    none_left s.nodes (([], s.root) ∷ []) c.paths.waiting.items c.paths.leaves.items c.paths.invariant (c.in_default.ensures.items ∙ c.in_default.ensures.rest)

pub paths-preserved : goal.paths-preserved
paths-preserved c =
    let s : StoreState = c.args.self.now in
    let nodes : c.self.inside.nodes.slots ≡ s.nodes = ap (λ (v : StoreState). v.nodes) c.self.view_is in
    let gone : node_in s.nodes c.in-Some.id ≡ None = ap (λ (x : List (Option Node)). node_in x c.in-Some.id) (sym nodes) ∙ sym c.in_default-get.ensures in
    passed_over s.nodes (([], s.root) ∷ []) c.in-Some.path c.in-Some.id c.paths.waiting.items c.pop_front.new.self.items c.paths.leaves.items c.paths.invariant c.in-Some.ensures.items gone

pub paths-preserved-in_ok-push : goal.paths-preserved-in_ok-push
paths-preserved-in_ok-push c =
    let s : StoreState = c.args.self.now in
    let path : Path = c.in-Some.path in
    let node : Node = c.in-Some-get.node.now in
    let others : List (Path × ℕ) = c.pop_front.new.self.items in
    let nodes : c.self.inside.nodes.slots ≡ s.nodes = ap (λ (v : StoreState). v.nodes) c.self.view_is in
    let there : node_in s.nodes c.in-Some.id ≡ Some node = ap (λ (x : List (Option Node)). node_in x c.in-Some.id) (sym nodes) ∙ sym c.in-Some-get.ensures in
    let next : c.put_first.new.waiting.items ≡ below path (entries_in node.content) ++ others = c.in_ok-put_first.ensures ∙ ap (λ (x : List (Path × ℕ)). x ++ others) c.in_ok-below.ensures in
    let more : c.push.new.self.items ≡ c.paths.leaves.items ++ (path, shown_node node) ∷ [] = c.in_ok-push.ensures.items ∙ ap (λ (x : Leaf). c.paths.leaves.items ++ x ∷ []) c.in_ok-leaf.ensures in
    one_named s.nodes (([], s.root) ∷ []) path c.in-Some.id c.paths.waiting.items others c.put_first.new.waiting.items c.paths.leaves.items c.push.new.self.items node
    c.paths.invariant c.in-Some.ensures.items there next more
