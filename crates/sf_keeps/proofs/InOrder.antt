-- The entries of each directory are in the order of their names, also after a change of one inode.
use Rattle.std.specs.Prelude.{◌≡◌, ℕ, T, List, [], Option, Some}
use Rattle.std.specs.Option.{option_map_or}
use Rattle.std.proofs.Common.{sym, subst}
use Rattle.std.specs.FinMap.{is_sorted}
use Rattle.sf_path.specs.Names.{Name}
use Rattle.sf_path.specs.Order.{same_name, name_cmp, name_total}
use Rattle.sf_call.proofs.Laws.{sorted_put, sorted_removed}
use Rattle.sf_inode.specs.declared.node.Node.{Node}
use Rattle.sf_inode.specs.declared.node.Content.{Content}
use Rattle.sf_inode.specs.declared.node.Content.TheVariants as content
use Rattle.sf_block.specs.Contents.{FileBytes}
use Rattle.sf_inode.specs.Nodes.{entries_in, less_content, more_content, with_file, with_left}
use Rattle.sf_inode.specs.Stores.{node_in, node_entries}
use Rattle.sf_keeps.proofs.SetsAt.{SetsAt, at_or_beside}

abbrev pub IsInOrder : Content → Type 0
IsInOrder c = T (is_sorted name_cmp (entries_in c))

-- of each existing inode
abbrev pub InOrder : List (Option Node) → Type 0
InOrder nodes = (id : ℕ) → T (is_sorted name_cmp (node_entries nodes id))

abbrev pub entries_of_node : Option Node → List (Name × ℕ)
entries_of_node o = option_map_or (λ (it : Node). entries_in it.content) o []

pub node_in_order : (nodes : List (Option Node)) (id : ℕ) (node : Node) → InOrder nodes → node_in nodes id ≡ Some node → IsInOrder node.content
node_in_order nodes id node ordered here = subst (λ (o : Option Node). T (is_sorted name_cmp (entries_of_node o))) here (ordered id)

-- ---- a changed inode
pub in_order_put : {before after : ℕ → Option Node} {d : ℕ} {o : Option Node} → SetsAt before after d o → ((id : ℕ) → T (is_sorted name_cmp (entries_of_node (before id)))) → T (is_sorted name_cmp (entries_of_node o))
    → (id : ℕ) → T (is_sorted name_cmp (entries_of_node (after id)))
in_order_put {d = d} put ordered own =
    let in_order = λ (o : Option Node). T (is_sorted name_cmp (entries_of_node o)) in
    at_or_beside _ d (subst in_order (sym put.at) own) (λ id ne. subst in_order (sym (put.beside id ne)) (ordered id))

-- ---- changes of entries and of bytes
pub less_in_order : (n : Name) (c : Content) → IsInOrder c → IsInOrder (less_content n c)
less_in_order n (content.Directory es) h = sorted_removed name_cmp (same_name n) es h
less_in_order n (content.File contents) h = h

pub more_in_order : (n : Name) (id : ℕ) (c : Content) → IsInOrder c → IsInOrder (more_content n id c)
more_in_order n id (content.Directory es) h = sorted_put name_cmp name_total es n id h
more_in_order n id (content.File contents) h = h

pub stored_in_order : (new : FileBytes) (c : Content) → IsInOrder c → IsInOrder (with_file new c)
stored_in_order new (content.Directory es) h = h
stored_in_order new (content.File contents) h = h

pub left_in_order : (left : ℕ) (c : Content) → IsInOrder c → IsInOrder (with_left left c)
left_in_order left (content.Directory es) h = h
left_in_order left (content.File contents) h = h
