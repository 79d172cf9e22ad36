-- A new inode whose entry is removed again: the store is as before.
use Rattle.std.specs.Prelude.{◌≡◌, ◌≢◌, ℕ, ◌-◌, nat_eq, true, false, cond, ◌&&◌, List, [], ◌∷◌, option_map, option_and_then, Option, Some, None, slice_set, refl}
use Rattle.std.specs.Option.{option_map_or}
use Rattle.std.specs.Ordering.{is_eq, match_ordering}
use Rattle.std.specs.declared.cmp.Ordering.TheVariants.{Less, Equal, Greater}
use Rattle.std.specs.Map.{lookup, remove_entry}
use Rattle.std.specs.BTreeMap.{insert_entry}
use Rattle.std.proofs.Common.{sym, ap, subst, ◌∙◌, eqb-true, eq-eqb}
use Rattle.std.proofs.lemmas.Cmp.{eq_by_cmp_equiv}
use Rattle.sf_path.specs.Names.{Name}
use Rattle.sf_path.specs.Order.{same_name, name_cmp, name_total}
use Rattle.sf_inode.specs.declared.node.Node.{Node}
use Rattle.sf_inode.specs.declared.node.Content.{Content}
use Rattle.sf_inode.specs.declared.node.Content.TheVariants as content
use Rattle.sf_inode.specs.Nodes.{child_in, is_directory_content, less_content, more_content, with_content, without_name}
use Rattle.sf_inode.specs.Stores.{StoreState, node_in, child_of, is_directory_at, with_nodes, edited_by, edited, entry_taken, released_if, unlinked_from, unlinked, Inserted, new_entry}
use Rattle.sf_keeps.proofs.Laws.{node_in-set}
use Rattle.sf_walk.specs.Served.{IsAlike}
use Rattle.sf_walk.proofs.Holders.{apart}

same_name_itself : (n : Name) → same_name n n ≡ true
same_name_itself n = (eq_by_cmp_equiv name_total).refl n

-- ---- entries
put_here : (n : Name) (id : ℕ) (es : List (Name × ℕ)) → lookup (same_name n) (insert_entry name_cmp es n id) ≡ Some id
put_here n id [] = ap (λ b. cond b (Some id) None) (same_name_itself n)
put_here n id (e ∷ es) =
    elim (name_cmp n e.0) as (λ r. name_cmp n e.0 ≡ r → lookup (same_name n) (match_ordering r ((n, id) ∷ e ∷ es) ((e.0, id) ∷ es) (e ∷ insert_entry name_cmp es n id)) ≡ Some id) [
      | Less ↦ λ p. ap (λ b. cond b (Some id) (lookup (same_name n) (e ∷ es))) (same_name_itself n)
      | Equal ↦ λ p. ap (λ r. cond (is_eq r) (Some id) (lookup (same_name n) es)) p
      | Greater ↦ λ p. ap (λ r. cond (is_eq r) (Some e.1) (lookup (same_name n) (insert_entry name_cmp es n id))) p ∙ put_here n id es
    ] refl

-- a new name that is removed again
taken_out : (n : Name) (id : ℕ) (es : List (Name × ℕ)) → lookup (same_name n) es ≡ None → remove_entry (same_name n) (insert_entry name_cmp es n id) ≡ es
taken_out n id [] = λ h. ap (λ b. cond b [] ((n, id) ∷ [])) (same_name_itself n)
taken_out n id (e ∷ es) =
    elim (name_cmp n e.0) as (λ r. name_cmp n e.0 ≡ r → cond (is_eq r) (Some e.1) (lookup (same_name n) es) ≡ None → remove_entry (same_name n) (match_ordering r ((n, id) ∷ e ∷ es) ((e.0, id) ∷ es) (e ∷ insert_entry name_cmp es n id)) ≡ e ∷ es) [
      | Less ↦ λ p h. ap (λ b. cond b (e ∷ es) ((n, id) ∷ remove_entry (same_name n) (e ∷ es))) (same_name_itself n)
      | Equal ↦ λ p h. cc
      | Greater ↦ λ p h. ap (λ r. cond (is_eq r) (insert_entry name_cmp es n id) (e ∷ remove_entry (same_name n) (insert_entry name_cmp es n id))) p ∙ ap (λ (rest : List (Name × ℕ)). e ∷ rest) (taken_out n id es h)
    ] refl

entry_made : (n : Name) (id : ℕ) (c : Content) → is_directory_content c ≡ true → child_in c n ≡ None → child_in (more_content n id c) n ≡ Some id
entry_made n id (content.Directory es) d h = put_here n id es
entry_made n id (content.File contents) d h = cc

entry_out : (n : Name) (id : ℕ) (c : Content) → child_in c n ≡ None → less_content n (more_content n id c) ≡ c
entry_out n id (content.Directory es) h = ap content.Directory (taken_out n id es h)
entry_out n id (content.File contents) h = refl

-- ---- inodes
edited_at : (f : Node → Node) (nodes : List (Option Node)) (id : ℕ) (o : Option Node) → node_in nodes id ≡ o → (i : ℕ) → node_in (edited_by f nodes id o) i ≡ cond (nat_eq id i) (option_map f o) (node_in nodes i)
edited_at f nodes id None e i = elim (nat_eq id i) as (λ b. nat_eq id i ≡ b → node_in nodes i ≡ cond b None (node_in nodes i)) [
  | true ↦ λ h. ap (node_in nodes) (sym (eqb-true id i h)) ∙ e
  | false ↦ λ h. refl
] refl
edited_at f nodes id (Some node) e i = node_in-set nodes id node (Some (f node)) e i

pub edited_node : (f : Node → Node) (s : StoreState) (id i : ℕ) → node_in (edited f s id).nodes i ≡ cond (nat_eq id i) (option_map f (node_in s.nodes id)) (node_in s.nodes i)
edited_node f s id i = edited_at f s.nodes id (node_in s.nodes id) refl i

pub same_number : (i : ℕ) → nat_eq i i ≡ true
same_number i = eq-eqb i i refl

pub other_number : (i j : ℕ) → i ≢ j → nat_eq i j ≡ false
other_number i j h = elim (nat_eq i j) as (λ b. nat_eq i j ≡ b → b ≡ false) [
  | true ↦ λ e. absurd (h (eqb-true i j e))
  | false ↦ λ e. refl
] refl

pub edited_itself : (f : Node → Node) (s : StoreState) (id : ℕ) → node_in (edited f s id).nodes id ≡ option_map f (node_in s.nodes id)
edited_itself f s id = edited_node f s id id ∙ ap (λ b. cond b (option_map f (node_in s.nodes id)) (node_in s.nodes id)) (same_number id)

pub edited_here : (f : Node → Node) (s : StoreState) (id : ℕ) (node : Node) → node_in s.nodes id ≡ Some node → node_in (edited f s id).nodes id ≡ Some (f node)
edited_here f s id node at = edited_itself f s id ∙ ap (option_map f) at

pub edited_apart : (f : Node → Node) (s : StoreState) (id i : ℕ) → id ≢ i → node_in (edited f s id).nodes i ≡ node_in s.nodes i
edited_apart f s id i h = edited_node f s id i ∙ ap (λ b. cond b (option_map f (node_in s.nodes id)) (node_in s.nodes i)) (other_number id i h)

module _ (old mid : StoreState) (dir : ℕ) (n : Name) (id : ℕ) (node above : Node)
    (at : node_in old.nodes dir ≡ Some above) (isdir : is_directory_content above.content ≡ true) (none : child_in above.content n ≡ None)
    (closed : node.opens ≡ 0) (one : node.names ≡ 1) (did : Inserted old mid (new_entry dir n id) node) where
  other : dir ≢ id
  other e = let f = did.fresh in let h = ap (node_in old.nodes) e in cc

  here : node_in mid.nodes dir ≡ Some (with_content (more_content n id) above)
  here = did.others dir other ∙ edited_here (with_content (more_content n id)) old dir above at

  found : child_of mid.nodes dir n ≡ Some id
  found = ap (option_and_then (λ (it : Node). child_in it.content n)) here ∙ entry_made n id above.content isdir none

  abbrev taken : StoreState
  taken = entry_taken mid dir n

  abbrev bare : StoreState
  bare = edited without_name taken id

  unnamed : node_in bare.nodes id ≡ Some (without_name node)
  unnamed = edited_here without_name taken id node (edited_apart (with_content (less_content n)) mid dir id other ∙ did.at)

  gone : unlinked mid dir n ≡ with_nodes bare (slice_set bare.nodes id None)
  gone = ap (unlinked_from mid dir n) found ∙ ap (released_if bare id) unnamed ∙ (λ i. cond (nat_eq (one i - 1) 0 && nat_eq (closed i) 0) (with_nodes bare (slice_set bare.nodes id None)) bare)

  back : node_in taken.nodes dir ≡ Some above
  back = edited_here (with_content (less_content n)) mid dir (with_content (more_content n id) above) here
      ∙ ap (λ (c : Content). Some (with_content (λ x. c) above)) (entry_out n id above.content none)

  node_back : (i : ℕ) → node_in (slice_set bare.nodes id None) i ≡ node_in old.nodes i
  node_back i =
      node_in-set bare.nodes id (without_name node) None unnamed i
      ∙ elim (nat_eq id i) as (λ b. nat_eq id i ≡ b → cond b None (node_in bare.nodes i) ≡ node_in old.nodes i) [
        | true ↦ λ e. sym (ap (node_in old.nodes) (sym (eqb-true id i e)) ∙ did.fresh)
        | false ↦ λ e. edited_apart without_name taken id i (apart id i e)
            ∙ elim (nat_eq dir i) as (λ b. nat_eq dir i ≡ b → node_in taken.nodes i ≡ node_in old.nodes i) [
              | true ↦ λ same. let h = eqb-true dir i same in ap (node_in taken.nodes) (sym h) ∙ back ∙ sym at ∙ ap (node_in old.nodes) h
              | false ↦ λ away. edited_apart (with_content (less_content n)) mid dir i (apart dir i away)
                  ∙ did.others i (λ h. apart id i e (sym h)) ∙ edited_apart (with_content (more_content n id)) old dir i (apart dir i away)
            ] refl
      ] refl

  alike_again : (new : StoreState) → new ≡ unlinked mid dir n → IsAlike old new
  alike_again new state = subst (λ (s : StoreState). IsAlike old s) (sym (state ∙ gone)) (record { nodes = node_back; root = did.root; sessions = did.sessions })

-- a new inode was added under a name that its directory lacked, and no handle opens it
pub record NewEntryIn (old mid : StoreState) : Type 0 where
  pub dir : ℕ
  pub name : Name
  pub id : ℕ
  pub node : Node
  pub directory : is_directory_at old.nodes dir ≡ true
  pub free : child_of old.nodes dir name ≡ None
  pub closed : node.opens ≡ 0
  pub one : node.names ≡ 1
  pub inserted : Inserted old mid (new_entry dir name id) node

pub undone : (old mid new : StoreState) (e : NewEntryIn old mid) → new ≡ unlinked mid e.dir e.name → IsAlike old new
undone old mid new e state =
    elim (node_in old.nodes e.dir) as (λ o. node_in old.nodes e.dir ≡ o → IsAlike old new) [
      | None ↦ λ at. let off = ap (λ (o : Option Node). option_map_or (λ (it : Node). is_directory_content it.content) o false) at in let d = e.directory in cc
      | Some above ↦ λ at. alike_again old mid e.dir e.name e.id e.node above at
          (sym (ap (λ (o : Option Node). option_map_or (λ (it : Node). is_directory_content it.content) o false) at) ∙ e.directory)
          (sym (ap (option_and_then (λ (it : Node). child_in it.content e.name)) at) ∙ e.free)
          e.closed e.one e.inserted new state
    ] refl
