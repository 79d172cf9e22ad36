-- Lookups in the leaves of a store, which are the tree's.
use Rattle.std.specs.Prelude.{◌≡◌, ℕ, T, cond, true, false, List, [], ◌∷◌, ◌++◌, option_map, option_and_then, Option, Some, None, refl}
use Rattle.std.proofs.Common.{sym, ap, subst, ◌∙◌}
use Rattle.std.specs.Option.{option_map_or}
use Rattle.std.specs.Map.{lookup}
use Rattle.std.specs.FinMap.{is_sorted}
use Rattle.std.specs.FinMap.Entries.{below_all}
use Rattle.sf_path.specs.Names.{Name, Path}
use Rattle.sf_path.specs.Order.{name_cmp, path_cmp, name_total, path_total, same_name, same_path}
use Rattle.sf_call.specs.Attributes.{Object}
use Rattle.sf_call.specs.Leaves.{Leaf, named_by, leaves_of}
use Rattle.sf_call.specs.Tree.{Tree, after_front}
use Rattle.sf_call.proofs.Laws.{exact_paths, same_name_is, same_name_itself, after_front-append, append-after_front, and_first, and_second, is_equal, lookup_below, found_leaf, ordered_leaves}
use Rattle.sf_inode.specs.declared.node.Node.{Node}
use Rattle.sf_inode.specs.declared.node.Content.{Content}
use Rattle.sf_inode.specs.declared.node.Content.TheVariants as content
use Rattle.sf_inode.specs.Nodes.{entries_in, child_in}
use Rattle.sf_inode.specs.Stores.{StoreState, node_in, child_of, shown_of, shown_node}
use Rattle.sf_inode.specs.Leaves.{AreLeaves, below}
use Rattle.sf_inode.specs.Leaves.AreLeaves.{NoneLeft, Passed, Named}
use Rattle.sf_keeps.specs.Steps.{walk}
use Rattle.sf_keeps.specs.Shows.{label_by}
use Rattle.sf_keeps.specs.Keeps.{Keeps}
use Rattle.sf_keeps.proofs.Orderly.{same_sorted}
use Rattle.sf_keeps.proofs.Shown.{same_path_itself}
use Rattle.sf_keeps.proofs.SetsAt.{name_keys, path_keys, apart}
use Rattle.sf_keeps.proofs.LeavesInOrder.{append_nil, leaves_sorted}

-- the first that exists
abbrev first_of : {A : Type 0} → Option A → Option A → Option A
first_of None o = o
first_of (Some x) o = Some x

first_or_none : {A : Type 0} (o : Option A) → first_of o None ≡ o
first_or_none None = refl
first_or_none (Some x) = refl

first_in_turn : {A : Type 0} (a b c : Option A) → first_of (first_of a b) c ≡ first_of a (first_of b c)
first_in_turn None b c = refl
first_in_turn (Some x) b c = refl

through : {A B C : Type 0} (f : A → Option B) (g : B → Option C) (o : Option A) → option_and_then g (option_and_then f o) ≡ option_and_then (λ x. option_and_then g (f x)) o
through f g None = refl
through f g (Some x) = refl

-- the suffix after a path and a name
front_on : (p : Path) (n : Name) (q : Path) → after_front (p ++ n ∷ []) q ≡ option_and_then (after_front (n ∷ [])) (after_front p q)
front_on [] n q = refl
front_on (m ∷ p) n [] = refl
front_on (m ∷ p) n (k ∷ q) = elim (same_name m k) as (λ b. cond b (after_front (p ++ n ∷ []) q) None ≡ option_and_then (after_front (n ∷ [])) (cond b (after_front p q) None)) [
  | true ↦ front_on p n q
  | false ↦ refl
]

after_itself : (p : Path) → after_front p p ≡ Some []
after_itself p = ap (after_front p) (sym (append_nil p)) ∙ after_front-append p []

module _ (nodes : List (Option Node)) where
  -- the object that a path resolves to from an inode
  abbrev ends : ℕ → Path → Option (ℕ × Object)
  ends id r = option_and_then (shown_of nodes) (walk (child_of nodes) id r)

  abbrev ends_after : ℕ → Option Path → Option (ℕ × Object)
  ends_after id rest = option_and_then (ends id) rest

  -- the first pending path by which a path resolves
  abbrev found : List (Path × ℕ) → Path → Option (ℕ × Object)
  found [] q = None
  found (e ∷ waiting) q = first_of (ends_after e.1 (after_front e.0 q)) (found waiting q)

  found_both : (xs ys : List (Path × ℕ)) (q : Path) → found (xs ++ ys) q ≡ first_of (found xs q) (found ys q)
  found_both [] ys q = refl
  found_both (x ∷ xs) ys q =
      ap (first_of (ends_after x.1 (after_front x.0 q))) (found_both xs ys q)
      ∙ sym (first_in_turn (ends_after x.1 (after_front x.0 q)) (found xs q) (found ys q))

  -- ---- by a directory's entries
  abbrev by_entries : List (Name × ℕ) → Option Path → Option (ℕ × Object)
  by_entries es None = None
  by_entries es (Some []) = None
  by_entries es (Some (m ∷ r)) = option_and_then (λ y. ends y r) (lookup (same_name m) es)

  by_none : (rest : Option Path) → by_entries [] rest ≡ None
  by_none None = refl
  by_none (Some []) = refl
  by_none (Some (m ∷ r)) = refl

  by_more : (e : Name × ℕ) (es : List (Name × ℕ)) → T (below_all name_cmp e.0 es) → (rest : Option Path)
      → first_of (ends_after e.1 (option_and_then (after_front (e.0 ∷ [])) rest)) (by_entries es rest) ≡ by_entries (e ∷ es) rest
  by_more e es h None = refl
  by_more e es h (Some []) = refl
  by_more e es h (Some (m ∷ r)) =
      elim (same_name m e.0) as (λ b. same_name m e.0 ≡ b → first_of (ends_after e.1 (cond (same_name e.0 m) (Some r) None)) (option_and_then (λ y. ends y r) (lookup (same_name m) es)) ≡ option_and_then (λ y. ends y r) (cond b (Some e.1) (lookup (same_name m) es))) [
        | true ↦ λ t.
            let is : m ≡ e.0 = same_name_is m e.0 t in
            let same : same_name e.0 m ≡ true = ap (same_name e.0) is ∙ same_name_itself e.0 in
            ap (λ b. first_of (ends_after e.1 (cond b (Some r) None)) (option_and_then (λ y. ends y r) (lookup (same_name m) es))) same
            ∙ ap (λ (o : Option ℕ). first_of (ends e.1 r) (option_and_then (λ y. ends y r) o)) (lookup_below name_cmp name_total m e.0 es (is_equal (name_cmp m e.0) t) h)
            ∙ first_or_none (ends e.1 r)
        | false ↦ λ t.
            let other : same_name e.0 m ≡ false = apart name_keys e.0 m (λ is. let yes : same_name m e.0 ≡ true = ap (same_name m) is ∙ same_name_itself m in cc) in
            ap (λ b. first_of (ends_after e.1 (cond b (Some r) None)) (option_and_then (λ y. ends y r) (lookup (same_name m) es))) other
      ] refl

  found_below : (p : Path) (es : List (Name × ℕ)) → T (is_sorted name_cmp es) → (q : Path) → found (below p es) q ≡ by_entries es (after_front p q)
  found_below p [] h q = sym (by_none (after_front p q))
  found_below p (e ∷ es) h q =
      ap (λ (o : Option Path). first_of (ends_after e.1 o) (found (below p es) q)) (front_on p e.0 q)
      ∙ ap (first_of (ends_after e.1 (option_and_then (after_front (e.0 ∷ [])) (after_front p q)))) (found_below p es (and_second (below_all name_cmp e.0 es) (is_sorted name_cmp es) h) q)
      ∙ by_more e es (and_first (below_all name_cmp e.0 es) (is_sorted name_cmp es) h) (after_front p q)

  -- ---- by an inode
  child_found : (c : Content) (m : Name) → child_in c m ≡ lookup (same_name m) (entries_in c)
  child_found (content.Directory es) m = refl
  child_found (content.File contents) m = refl

  on_from : (id : ℕ) (node : Node) → node_in nodes id ≡ Some node → (m : Name) (r : Path) → ends id (m ∷ r) ≡ by_entries (entries_in node.content) (Some (m ∷ r))
  on_from id node there m r =
      through (λ y. walk (child_of nodes) y r) (shown_of nodes) (child_of nodes id m)
      ∙ ap (option_and_then (λ y. ends y r)) (ap (option_and_then (λ (x : Node). child_in x.content m)) there ∙ child_found node.content m)

  none_from : (id : ℕ) → node_in nodes id ≡ None → (rest : Option Path) → ends_after id rest ≡ None
  none_from id gone None = refl
  none_from id gone (Some []) = ap (option_map shown_node) gone
  none_from id gone (Some (m ∷ r)) =
      ap (λ (o : Option Node). option_and_then (shown_of nodes) (option_and_then (λ y. walk (child_of nodes) y r) (option_and_then (λ (x : Node). child_in x.content m) o))) gone

  -- a leaf, or the leaves of its inode's entries
  at_leaf : (path : Path) (id : ℕ) (node : Node) → node_in nodes id ≡ Some node → (q : Path) (others : Option (ℕ × Object)) (rest : Option Path) → after_front path q ≡ rest
      → cond (same_path q path) (Some (shown_node node)) (first_of (by_entries (entries_in node.content) rest) others) ≡ first_of (ends_after id rest) others
  at_leaf path id node there q others None e =
      let other : same_path q path ≡ false = apart path_keys q path (λ is. let f = ap (after_front path) is in let g = after_itself path in cc) in
      ap (λ b. cond b (Some (shown_node node)) others) other
  at_leaf path id node there q others (Some []) e =
      let is : q ≡ path = append-after_front path q [] e ∙ append_nil path in
      let same : same_path q path ≡ true = ap (same_path q) (sym is) ∙ same_path_itself q in
      ap (λ b. cond b (Some (shown_node node)) others) same
      ∙ sym (ap (λ (o : Option Node). first_of (option_map shown_node o) others) there)
  at_leaf path id node there q others (Some (m ∷ r)) e =
      let other : same_path q path ≡ false = apart path_keys q path (λ is. let f = ap (after_front path) is in let g = after_itself path in cc) in
      ap (λ b. cond b (Some (shown_node node)) (first_of (by_entries (entries_in node.content) (Some (m ∷ r))) others)) other
      ∙ ap (λ o. first_of o others) (sym (on_from id node there m r))

  module _ (sorted : (id : ℕ) (node : Node) → node_in nodes id ≡ Some node → T (is_sorted name_cmp (entries_in node.content))) where
    pub leaf_found : (waiting : List (Path × ℕ)) (leaves : List Leaf) → AreLeaves nodes waiting leaves → (q : Path) → lookup (same_path q) leaves ≡ found waiting q
    leaf_found waiting leaves NoneLeft q = refl
    leaf_found waiting leaves (Passed path id others ls gone r) q =
        leaf_found others ls r q ∙ sym (ap (λ o. first_of o (found others q)) (none_from id gone (after_front path q)))
    leaf_found waiting leaves (Named path id others ls node there r) q =
        let es : List (Name × ℕ) = entries_in node.content in
        ap (cond (same_path q path) (Some (shown_node node))) (
        leaf_found (below path es ++ others) ls r q
        ∙ found_both (below path es) others q
        ∙ ap (λ o. first_of o (found others q)) (found_below path es (sorted id node there) q))
        ∙ at_leaf path id node there q (found others q) (after_front path q) refl

-- ---- the tree's
module _ (s : StoreState) (t : Tree) (k : Keeps s t) where
  sorted_in : (id : ℕ) (node : Node) → node_in s.nodes id ≡ Some node → T (is_sorted name_cmp (entries_in node.content))
  sorted_in id node there = subst (λ (o : Option Node). T (is_sorted name_cmp (option_map_or (λ (x : Node). entries_in x.content) o []))) there (k.entries id)

  -- the object of an inode is the tree's under its inode number
  shown_named : (o : Option ℕ) → option_and_then (shown_of s.nodes) o ≡ option_and_then (named_by t.objects) (option_and_then (label_by (shown_of s.nodes)) o)
  shown_named None = refl
  shown_named (Some id) = elim (shown_of s.nodes id) as (λ v. shown_of s.nodes id ≡ v → v ≡ option_and_then (named_by t.objects) (option_map (λ (w : ℕ × Object). w.0) v)) [
    | None ↦ λ e. refl
    | Some v ↦ λ e. sym (ap (option_map (λ o. (v.0, o))) (k.shows.by.objects id v.0 v.1 e))
  ] refl

  pub leaves_kept : (leaves : List Leaf) → AreLeaves s.nodes (([], s.root) ∷ []) leaves → leaves ≡ leaves_of t
  leaves_kept leaves r = same_sorted path_cmp path_total exact_paths leaves (leaves_of t)
      (leaves_sorted s.nodes sorted_in (([], s.root) ∷ []) leaves r (tt, tt))
      (ordered_leaves t k.shows.ordered)
      (λ q.
      leaf_found s.nodes sorted_in (([], s.root) ∷ []) leaves r q
      ∙ first_or_none (ends s.nodes s.root q)
      ∙ shown_named (walk (child_of s.nodes) s.root q)
      ∙ sym (ap (option_and_then (named_by t.objects)) (k.shows.by.names q))
      ∙ sym (found_leaf t q k.shows.ordered))
