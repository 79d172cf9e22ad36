-- What a path leads to in the store and in the tree that it represents.
use Rattle.std.specs.Prelude.{◌≡◌, ◌⊎◌, ℕ, Bool, true, false, not, cond, ◌||◌, List, [], ◌∷◌, ◌++◌, map, option_map, option_and_then, is_some, Option, Some, None, refl}
use Rattle.std.specs.Option.{option_map_or}
use Rattle.std.specs.List.{list_any}
use Rattle.std.proofs.Common.{sym, ap, subst, ◌∙◌, inl, inr, append_assoc, append-nil}
use Rattle.sf_path.specs.Names.{Name, Path}
use Rattle.sf_call.specs.declared.metadata.Metadata.{Metadata}
use Rattle.sf_call.specs.declared.lookup.Lookup.TheVariants as lookup
use Rattle.sf_call.specs.Attributes.{Object}
use Rattle.sf_call.specs.Tree.{Tree, label_at, object_of, directory_metadata, is_directory, proper_fronts, lookup_of, look_up, found_at, found_place}
use Rattle.sf_inode.specs.declared.node.Node.{Node}
use Rattle.sf_inode.specs.declared.node.Content.{Content}
use Rattle.sf_inode.specs.declared.node.Content.TheVariants as content
use Rattle.sf_inode.specs.Nodes.{object_in, is_directory_content}
use Rattle.sf_keeps.specs.Steps.{walk}
use Rattle.sf_keeps.specs.Shows.{label_by, is_directory_by}
use Rattle.sf_inode.specs.Stores.{StoreState, node_in, child_of, is_directory_at, shown_node, shown_of}
use Rattle.sf_keeps.specs.Keeps.{Keeps}
use Rattle.sf_keeps.proofs.Laws.{walk-append, last_step}
use Rattle.sf_walk.specs.declared.finding.Located.{Located}
use Rattle.sf_walk.specs.declared.finding.Located.TheVariants as located
use Rattle.sf_walk.specs.Ways.{missing, way_from, found_node}

-- whether a prefix of the path after `front` is no directory
abbrev pub fails_behind : Tree → Path → Path → Bool
fails_behind t front rest = list_any (λ f. not (is_directory t (front ++ f))) (proper_fronts rest)

any-map : (t : Tree) (front : Path) (n : Name) (fs : List Path) → list_any (λ f. not (is_directory t (front ++ f))) (map (λ f. n ∷ f) fs) ≡ list_any (λ f. not (is_directory t ((front ++ n ∷ []) ++ f))) fs
any-map t front n [] = refl
any-map t front n (f ∷ fs) = λ i. not (is_directory t (sym (append_assoc front (n ∷ []) f) i)) || any-map t front n fs i

fails_further : (t : Tree) (front : Path) (n : Name) (rest : Path) → fails_behind t front (n ∷ rest) ≡ (not (is_directory t front) || fails_behind t (front ++ n ∷ []) rest)
fails_further t front n rest = λ i. not (is_directory t (append-nil front i)) || any-map t front n (proper_fronts rest) i

-- the path is the root, or extends the directory `above` by a name of y
abbrev pub Known : List (Option Node) → ℕ → Path → ℕ → ℕ → Type 0
Known nodes root p above y = (p ≡ []) ⊎ ((r : Path) × (n : Name) × (p ≡ r ++ n ∷ []) × (walk (child_of nodes) root r ≡ Some above) × (child_of nodes above n ≡ Some y))

-- the located inode is as the tree has it
abbrev pub Fits : StoreState → Tree → Path → Path → Located → Type 0
Fits s t front rest located.NoWay = fails_behind t front rest ≡ true
Fits s t front rest (located.Missing d) =
    (fails_behind t front rest ≡ false)
    × ((r : Path) × (n : Name) × (front ++ rest ≡ r ++ n ∷ []) × (walk (child_of s.nodes) s.root r ≡ Some d) × (child_of s.nodes d n ≡ None) × (is_directory_at s.nodes d ≡ true))
Fits s t front rest (located.At above y) = (fails_behind t front rest ≡ false) × (walk (child_of s.nodes) s.root (front ++ rest) ≡ Some y) × Known s.nodes s.root (front ++ rest) above y

directory_object : (l : ℕ) (m : Metadata) (c : Content) → is_some {T = ℕ × Metadata} (option_map (λ (k : Metadata). (l, k)) (directory_metadata (object_in m c))) ≡ is_directory_content c
directory_object l m (content.Directory es) = refl
directory_object l m (content.File bytes) = refl

module _ (s : StoreState) (t : Tree) (h : Keeps s t) where
  -- the inode that a path leads to exists
  pub node_there : (p : Path) (x : ℕ) → walk (child_of s.nodes) s.root p ≡ Some x → (node : Node) × (node_in s.nodes x ≡ Some node)
  node_there p x at =
      elim (node_in s.nodes x) as (λ o. node_in s.nodes x ≡ o → (node : Node) × (o ≡ Some node)) [
        | None ↦ λ e. elim (last_step (child_of s.nodes) p s.root x at) [
          | inl r ↦ let is = h.shows.by.sound.rooted in let none : is_directory_by (shown_of s.nodes) s.root ≡ false = ap (is_directory_by (shown_of s.nodes)) r ∙ ap (λ (o : Option Node). is_some (option_and_then (λ (v : ℕ × Object). directory_metadata v.1) (option_map shown_node o))) e in cc
          | inr w ↦ absurd (h.shows.by.sound.to w.0 x w.1 w.2 (ap (option_map shown_node) e))
        ]
        | Some node ↦ λ e. (node, refl)
      ] refl

  pub label_there : (p : Path) (x : ℕ) (node : Node) → walk (child_of s.nodes) s.root p ≡ Some x → node_in s.nodes x ≡ Some node → label_at t.names p ≡ Some node.label
  label_there p x node at here = h.shows.by.names p ∙ ap (option_and_then (label_by (shown_of s.nodes))) at ∙ ap (λ (o : Option Node). option_map (λ (v : ℕ × Object). v.0) (option_map shown_node o)) here

  pub object_there : (x : ℕ) (node : Node) → node_in s.nodes x ≡ Some node → object_of t.objects node.label ≡ Some (object_in node.metadata node.content)
  object_there x node here = h.shows.by.objects x node.label (object_in node.metadata node.content) (ap (option_map shown_node) here)

  pub directory_says : (p : Path) (x : ℕ) → walk (child_of s.nodes) s.root p ≡ Some x → is_directory t p ≡ is_directory_at s.nodes x
  directory_says p x at =
      let w = node_there p x at in
      ap (λ (o : Option ℕ). is_some {T = ℕ × Metadata} (option_and_then (λ (label : ℕ). option_map (λ (m : Metadata). (label, m)) (option_and_then directory_metadata (object_of t.objects label))) o)) (label_there p x w.0 at w.1)
      ∙ ap (λ (o : Option Object). is_some {T = ℕ × Metadata} (option_map (λ (m : Metadata). (w.0.label, m)) (option_and_then directory_metadata o))) (object_there x w.0 w.1)
      ∙ directory_object w.0.label w.0.metadata w.0.content ∙ sym (ap (λ (o : Option Node). option_map_or (λ (node : Node). is_directory_content node.content) o false) w.1)

  goes_on : (front : Path) (x : ℕ) (n : Name) → walk (child_of s.nodes) s.root front ≡ Some x → walk (child_of s.nodes) s.root (front ++ n ∷ []) ≡ option_and_then (λ z. Some z) (child_of s.nodes x n)
  goes_on front x n at = walk-append (child_of s.nodes) s.root front (n ∷ []) ∙ ap (option_and_then (λ y. walk (child_of s.nodes) y (n ∷ []))) at

  no_label : (p : Path) → walk (child_of s.nodes) s.root p ≡ None → label_at t.names p ≡ None
  no_label p e = h.shows.by.names p ∙ ap (option_and_then (label_by (shown_of s.nodes))) e

  no_directory : (p : Path) → label_at t.names p ≡ None → is_directory t p ≡ false
  no_directory p e = ap (λ (o : Option ℕ). is_some {T = ℕ × Metadata} (option_and_then (λ (label : ℕ). option_map (λ (m : Metadata). (label, m)) (option_and_then directory_metadata (object_of t.objects label))) o)) e

  way_missing : (rest front : Path) (x : ℕ) (n : Name) → walk (child_of s.nodes) s.root front ≡ Some x → is_directory t front ≡ true → is_directory_at s.nodes x ≡ true → child_of s.nodes x n ≡ None
      → Fits s t front (n ∷ rest) (missing x rest)
  way_missing [] front x n at dir d e = (fails_further t front n [] ∙ ap (λ b. not b || false) dir, (front, n, refl, at, e, d))
  way_missing (m ∷ rest) front x n at dir d e =
      let gone : label_at t.names (front ++ n ∷ []) ≡ None = no_label (front ++ n ∷ []) (goes_on front x n at ∙ ap (option_and_then (λ z. Some z)) e) in
      fails_further t front n (m ∷ rest) ∙ ap (λ b. not b || fails_behind t (front ++ n ∷ []) (m ∷ rest)) dir
      ∙ fails_further t (front ++ n ∷ []) m rest ∙ ap (λ b. not b || fails_behind t ((front ++ n ∷ []) ++ m ∷ []) rest) (no_directory (front ++ n ∷ []) gone)

  way_further : (l : Located) (rest front : Path) (n : Name) → is_directory t front ≡ true → Fits s t (front ++ n ∷ []) rest l → Fits s t front (n ∷ rest) l
  way_further located.NoWay rest front n dir f = fails_further t front n rest ∙ ap (λ b. not b || fails_behind t (front ++ n ∷ []) rest) dir ∙ f
  way_further (located.Missing d) rest front n dir f =
      (fails_further t front n rest ∙ ap (λ b. not b || fails_behind t (front ++ n ∷ []) rest) dir ∙ f.0, (f.1.0, f.1.1, sym (append_assoc front (n ∷ []) rest) ∙ f.1.2, f.1.3, f.1.4, f.1.5))
  way_further (located.At a y) rest front n dir f =
      let e : (front ++ n ∷ []) ++ rest ≡ front ++ n ∷ rest = append_assoc front (n ∷ []) rest in
      (fails_further t front n rest ∙ ap (λ b. not b || fails_behind t (front ++ n ∷ []) rest) dir ∙ f.0, ap (walk (child_of s.nodes) s.root) (sym e) ∙ f.1, subst (λ (p : Path). Known s.nodes s.root p a y) e f.2)

  pub way_fits : (rest front : Path) (above x : ℕ) → walk (child_of s.nodes) s.root front ≡ Some x → Known s.nodes s.root front above x → Fits s t front rest (way_from s.nodes above x rest)
  way_fits [] front above x at known =
      let e : front ≡ front ++ [] = sym (append-nil front) in
      (refl, ap (walk (child_of s.nodes) s.root) (sym e) ∙ at, subst (λ (p : Path). Known s.nodes s.root p above x) e known)
  way_fits (n ∷ rest) front above x at known =
      elim (is_directory_at s.nodes x) as (λ b. is_directory_at s.nodes x ≡ b → Fits s t front (n ∷ rest) (cond b (option_map_or (λ y. way_from s.nodes x y rest) (child_of s.nodes x n) (missing x rest)) located.NoWay)) [
        | false ↦ λ d. fails_further t front n rest ∙ ap (λ b. not b || fails_behind t (front ++ n ∷ []) rest) (directory_says front x at ∙ d)
        | true ↦ λ d.
            let dir : is_directory t front ≡ true = directory_says front x at ∙ d in
            elim (child_of s.nodes x n) as (λ o. child_of s.nodes x n ≡ o → Fits s t front (n ∷ rest) (option_map_or (λ y. way_from s.nodes x y rest) o (missing x rest))) [
              | None ↦ λ e. way_missing rest front x n at dir d e
              | Some y ↦ λ e.
                  let on : walk (child_of s.nodes) s.root (front ++ n ∷ []) ≡ Some y = goes_on front x n at ∙ ap (option_and_then (λ z. Some z)) e in
                  way_further (way_from s.nodes x y rest) rest front n dir (way_fits rest (front ++ n ∷ []) x y on (inr (front, n, refl, at, e)))
            ] refl
      ] refl

  -- ---- paths resolved from the root
  pub no_way : (p : Path) → way_from s.nodes s.root s.root p ≡ located.NoWay → look_up t p ≡ lookup.NoWay
  no_way p e = ap (λ (b : Bool). cond b lookup.NoWay (lookup_of (label_at t.names p))) (subst (λ (l : Located). Fits s t [] p l) e (way_fits p [] s.root s.root refl (inl refl)))

  pub name_missing : (p : Path) (d : ℕ) → way_from s.nodes s.root s.root p ≡ located.Missing d
      → (look_up t p ≡ lookup.Absent) × ((r : Path) × (n : Name) × (p ≡ r ++ n ∷ []) × (walk (child_of s.nodes) s.root r ≡ Some d) × (child_of s.nodes d n ≡ None) × (is_directory_at s.nodes d ≡ true))
  name_missing p d e =
      let f = subst (λ (l : Located). Fits s t [] p l) e (way_fits p [] s.root s.root refl (inl refl)) in
      let gone : label_at t.names p ≡ None = no_label p (ap (walk (child_of s.nodes) s.root) f.1.2 ∙ goes_on f.1.0 d f.1.1 f.1.3 ∙ ap (option_and_then (λ z. Some z)) f.1.4) in
      (ap (λ (b : Bool). cond b lookup.NoWay (lookup_of (label_at t.names p))) f.0 ∙ ap lookup_of gone, f.1)

  pub node_at : (p : Path) (above y : ℕ) → way_from s.nodes s.root s.root p ≡ located.At above y
      → (walk (child_of s.nodes) s.root p ≡ Some y) × Known s.nodes s.root p above y
      × ((node : Node) × (node_in s.nodes y ≡ Some node) × (look_up t p ≡ lookup.At node.label) × (found_at t p ≡ found_node node))
  node_at p above y e =
      let f = subst (λ (l : Located). Fits s t [] p l) e (way_fits p [] s.root s.root refl (inl refl)) in
      let w = node_there p y f.1 in
      let is : look_up t p ≡ lookup.At w.0.label = ap (λ (b : Bool). cond b lookup.NoWay (lookup_of (label_at t.names p))) f.0 ∙ ap lookup_of (label_there p y w.0 f.1 w.1) in
      (f.1, f.2, (w.0, w.1, is, ap (found_place t.objects) is ∙ ap (option_map {U = ℕ × Object} (λ (object : Object). (w.0.label, object))) (object_there y w.0 w.1)))
