-- A directory's entries, and the names below its path.
use Rattle.std.specs.Prelude.{◌≡◌, ℕ, true, false, cond, List, [], ◌∷◌, ◌++◌, option_map, option_and_then, Option, Some, None, refl}
use Rattle.std.specs.Option.{option_map_or}
use Rattle.std.specs.List.{cons_option}
use Rattle.std.specs.Map.{lookup}
use Rattle.std.proofs.Common.{sym, ap, ◌∙◌, inl, inr}
use Rattle.sf_path.specs.Names.{Name, Path}
use Rattle.sf_path.specs.Order.{same_name, same_path}
use Rattle.sf_call.specs.Tree.{Tree, after_front, label_at, only_name, children, is_nil, is_empty}
use Rattle.sf_call.proofs.Laws.{same_path_is, same_name_itself, after_front-append, append-after_front}
use Rattle.sf_inode.specs.declared.node.Node.{Node}
use Rattle.sf_inode.specs.declared.node.Content.{Content}
use Rattle.sf_inode.specs.declared.node.Content.TheVariants as content
use Rattle.sf_inode.specs.Nodes.{child_in, is_bare_content}
use Rattle.sf_keeps.specs.Steps.{walk}
use Rattle.sf_inode.specs.Stores.{StoreState, node_in, child_of, shown_node, is_bare_at}
use Rattle.sf_keeps.specs.Keeps.{view_of, Keeps}
use Rattle.sf_keeps.proofs.Through.{by_test, was_none}
use Rattle.sf_keeps.proofs.Sound.{IsBare, reached_there}
use Rattle.sf_keeps.proofs.Shown.{same_path_itself}
use Rattle.sf_keeps.proofs.Whole.{free_name, label_there}
use Rattle.sf_keeps.proofs.Openings.{entry_node}
use Rattle.sf_keeps.proofs.Forgotten.{bare_at}

no_children : (es : List (Path × ℕ)) (p : Path) → ((q : Path) (n : Name) → only_name (after_front p q) ≡ Some n → label_at es q ≡ None) → children es p ≡ []
no_children [] p h = refl
no_children (e ∷ es) p h =
    elim (only_name (after_front p e.0)) as (λ o. only_name (after_front p e.0) ≡ o → cons_option o (children es p) ≡ []) [
      | None ↦ λ f. no_children es p (λ q n g. was_none (same_path q e.0) _ (h q n g))
      | Some n ↦ λ f. let g = h e.0 n f in let k = ap (λ b. cond b (Some e.1) (label_at es e.0)) (same_path_itself e.0) in cc
    ] refl

some_children : (es : List (Path × ℕ)) (p q : Path) (n : Name) (l : ℕ) → only_name (after_front p q) ≡ Some n → label_at es q ≡ Some l → is_nil (children es p) ≡ false
some_children [] p q n l h e = cc
some_children (e ∷ es) p q n l h at =
    elim (by_test (same_path q e.0) at) [
      | inl s ↦ ap (λ (o : Option Name). is_nil (cons_option o (children es p))) (ap (λ (z : Path). only_name (after_front p z)) (sym (same_path_is q e.0 s.0)) ∙ h)
      | inr s ↦ elim (only_name (after_front p e.0)) as (λ o. is_nil (cons_option o (children es p)) ≡ false) [ None ↦ some_children es p q n l h s.1 | Some m ↦ refl ]
    ]

only_rest : (p q r : Path) (n : Name) → after_front p q ≡ Some r → only_name (Some r) ≡ Some n → q ≡ p ++ n ∷ []
only_rest p q [] n e f = cc
only_rest p q (m ∷ []) n e f = let h : m ≡ n = cc in append-after_front p q (m ∷ []) e ∙ ap (λ (z : Name). p ++ z ∷ []) h
only_rest p q (m ∷ k ∷ r) n e f = cc

only_is : (p q : Path) (n : Name) → only_name (after_front p q) ≡ Some n → q ≡ p ++ n ∷ []
only_is p q n = elim (after_front p q) as (λ o. after_front p q ≡ o → only_name o ≡ Some n → q ≡ p ++ n ∷ []) [
  | None ↦ λ e f. cc
  | Some r ↦ λ e f. only_rest p q r n e f
] refl

-- an inode that is not bare has an entry
first_entry : (c : Content) → is_bare_content c ≡ false → (n : Name) × (id : ℕ) × (child_in c n ≡ Some id)
first_entry (content.Directory []) e = absurd (cc)
first_entry (content.Directory (x ∷ es)) e = (x.0, x.1, ap (λ b. cond b (Some x.1) (lookup (same_name x.0) es)) (same_name_itself x.0))
first_entry (content.File contents) e = absurd (cc)

module _ (s : StoreState) (t : Tree) (k : Keeps s t) (p : Path) (id : ℕ) (at : walk (child_of s.nodes) s.root p ≡ Some id) where
  none_below : IsBare (child_of s.nodes) id → children t.names p ≡ []
  none_below bare = no_children t.names p (λ q n e. ap (label_at t.names) (only_is p q n e) ∙ free_name (view_of s) t k.shows p id n at (bare n))

  some_below : (n : Name) (c : ℕ) → child_of s.nodes id n ≡ Some c → is_nil (children t.names p) ≡ false
  some_below n c there =
      let w = entry_node s t k id c n there in
      some_children t.names p (p ++ n ∷ []) n w.0.label (ap only_name (after_front-append p (n ∷ [])))
      (label_there (view_of s) t k.shows p id n c w.0.label (shown_node w.0).1 at there (ap (option_map shown_node) w.1))

  -- the inode of a path is bare if no name is below the path
  pub bare_found : is_empty t.names p ≡ is_bare_at s.nodes id
  bare_found = elim (node_in s.nodes id) as (λ o. node_in s.nodes id ≡ o → is_empty t.names p ≡ option_map_or (λ (it : Node). is_bare_content it.content) o false) [
    | None ↦ λ e. absurd (reached_there (child_of s.nodes) (view_of s).shown s.root k.shows.by.sound p id at (ap (option_map shown_node) e))
    | Some node ↦ λ e. elim (is_bare_content node.content) as (λ b. is_bare_content node.content ≡ b → is_empty t.names p ≡ b) [
      | true ↦ λ f. ap is_nil (none_below (bare_at s.nodes id (ap (λ (o : Option Node). option_map_or (λ (it : Node). is_bare_content it.content) o false) e ∙ f)))
      | false ↦ λ f.
          let w = first_entry node.content f in
          some_below w.0 w.1 (ap (option_and_then (λ (z : Node). child_in z.content w.0)) e ∙ w.2)
    ] refl
  ] refl
