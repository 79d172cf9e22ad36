-- Path resolution in a tree, by that in the store.
use Rattle.std.specs.Prelude.{◌≡◌, ℕ, Bool, true, false, not, ◌||◌, List, [], ◌∷◌, ◌++◌, map, option_map, option_and_then, is_some, Option, Some, None, if◌then◌else◌, refl}
use Rattle.std.specs.Option.{option_map_or}
use Rattle.std.specs.List.{list_any}
use Rattle.std.proofs.Common.{sym, ap, ◌∙◌, append_assoc}
use Rattle.sf_path.specs.Names.{Name, Path}
use Rattle.sf_call.specs.declared.metadata.Metadata.{Metadata}
use Rattle.sf_call.specs.declared.lookup.Lookup.TheVariants.{NoWay, Absent, At}
use Rattle.sf_call.specs.Attributes.{Object}
use Rattle.sf_call.specs.Attributes.Object.{Directory}
use Rattle.sf_call.specs.Tree.{Tree, directory_metadata, directory_at, label_at, object_of, is_directory, proper_fronts, is_faulty_way, lookup_of, look_up, found_place, found_at}
use Rattle.sf_inode.specs.declared.node.Node.{Node}
use Rattle.sf_inode.specs.declared.node.Content.TheVariants as content
use Rattle.sf_inode.specs.Nodes.{object_in, is_directory_content, is_file_content}
use Rattle.sf_keeps.specs.Steps.{walk}
use Rattle.sf_keeps.specs.Shows.{View, ShowsBy, is_directory_by, label_by}
use Rattle.sf_inode.specs.Stores.{StoreState, node_in, child_of, shown_node, shown_of, is_directory_at, is_file_at}
use Rattle.sf_keeps.specs.Keeps.{view_of, Keeps}
use Rattle.sf_keeps.proofs.Through.{found_through, some_there}
use Rattle.sf_keeps.proofs.Sound.{is_directory_shown, reached_there}
use Rattle.sf_keeps.proofs.Whole.{one_more}
use Rattle.sf_keeps.proofs.Openings.{object_there}

-- ---- the prefixes of a path
any_mapped : {A B : Type 0} (f : A → B) (test : B → Bool) (xs : List A) → list_any test (map f xs) ≡ list_any (λ x. test (f x)) xs
any_mapped f test [] = refl
any_mapped f test (x ∷ xs) = ap (λ b. test (f x) || b) (any_mapped f test xs)

-- whether a proper prefix fails
abbrev fails : (Path → Bool) → Path → Bool
fails passes path = list_any (λ front. not (passes front)) (proper_fronts path)

fails_further : (passes : Path → Bool) (n : Name) (path : Path) → fails passes (n ∷ path) ≡ (not (passes []) || fails (λ front. passes (n ∷ front)) path)
fails_further passes n path = ap (λ b. not (passes []) || b) (any_mapped (λ (front : Path). n ∷ front) (λ front. not (passes front)) (proper_fronts path))

or_true : (b : Bool) → b || true ≡ true
or_true true = refl
or_true false = refl

fails_at : (passes : Path → Bool) (front : Path) (m : Name) (q : Path) → passes front ≡ false → fails passes (front ++ m ∷ q) ≡ true
fails_at passes [] m q e = ap (λ b. not b || list_any (λ front. not (passes front)) (map (λ (front : Path). m ∷ front) (proper_fronts q))) e
fails_at passes (n ∷ front) m q e =
    fails_further passes n (front ++ m ∷ q) ∙ ap (λ b. not (passes []) || b) (fails_at (λ z. passes (n ∷ z)) front m q e) ∙ or_true (not (passes []))

-- ---- which paths name directories
abbrev paired : ℕ → Option Metadata → Option (ℕ × Metadata)
paired label o = option_map (λ m. (label, m)) o

abbrev directory_labelled : Tree → ℕ → Option (ℕ × Metadata)
directory_labelled t label = paired label (option_and_then directory_metadata (object_of t.objects label))

some_pair : (label : ℕ) (o : Option Metadata) → is_some (paired label o) ≡ is_some o
some_pair label None = refl
some_pair label (Some m) = refl

module _ (view : View) (t : Tree) (s : ShowsBy view t) where
  abbrev leads_to_directory : Option ℕ → Bool
  leads_to_directory w = option_map_or (is_directory_by view.shown) w false

  directory_by : (path : Path) → is_directory t path ≡ leads_to_directory (walk view.step view.root path)
  directory_by path =
      ap (λ (o : Option ℕ). is_some (option_and_then (directory_labelled t) o)) (s.names path)
      ∙ elim (walk view.step view.root path) as (λ w. is_some (option_and_then (directory_labelled t) (option_and_then (label_by view.shown) w)) ≡ leads_to_directory w) [
        | None ↦ refl
        | Some x ↦ elim (view.shown x) as (λ v. view.shown x ≡ v → is_some (option_and_then (directory_labelled t) (option_map (λ (z : ℕ × Object). z.0) v)) ≡ is_directory_shown v) [
          | None ↦ λ e. refl
          | Some v ↦ λ e. ap (λ (o : Option Object). is_some (paired v.0 (option_and_then directory_metadata o))) (s.objects x v.0 v.1 e) ∙ some_pair v.0 (directory_metadata v.1)
        ] refl
      ]

  abbrev way_from : ℕ → Path → Bool
  way_from x path = fails (λ front. leads_to_directory (walk view.step x front)) path

  way_by : (path : Path) → is_faulty_way t path ≡ way_from view.root path
  way_by path = ap (λ (passes : Path → Bool). fails passes path) (λ i front. directory_by front i)

  further : (x y : ℕ) (n : Name) (path : Path) → view.step x n ≡ Some y → way_from x (n ∷ path) ≡ way_from y path
  further x y n path there =
      fails_further (λ front. leads_to_directory (walk view.step x front)) n path
      ∙ ap (λ b. not b || fails (λ front. leads_to_directory (option_and_then (λ z. walk view.step z front) (view.step x n))) path) (s.sound.owns x y n there)
      ∙ ap (λ (o : Option ℕ). fails (λ front. leads_to_directory (option_and_then (λ z. walk view.step z front) o)) path) there

  -- the path to an inode resolves
  clear_way : (path : Path) (x id : ℕ) → walk view.step x path ≡ Some id → way_from x path ≡ false
  clear_way [] x id w = refl
  clear_way (n ∷ path) x id w =
      let y = found_through (view.step x n) w in further x y.0 n path y.1 ∙ clear_way path y.0 id y.2

  -- and so does the path to each name of a directory
  clear_name : (p : Path) (n : Name) (x d : ℕ) → walk view.step x p ≡ Some d → is_directory_by view.shown d ≡ true → way_from x (p ++ n ∷ []) ≡ false
  clear_name [] n x d w is = let same : x ≡ d = cc in ap (λ b. not b || false) (ap (is_directory_by view.shown) same ∙ is)
  clear_name (m ∷ p) n x d w is =
      let y = found_through (view.step x m) w in further x y.0 m (p ++ n ∷ []) y.1 ∙ clear_name p n y.0 d y.2 is

  -- resolution fails after an inode that is no directory
  no_way : (p : Path) (m : Name) (q : Path) → leads_to_directory (walk view.step view.root p) ≡ false → look_up t (p ++ m ∷ q) ≡ NoWay
  no_way p m q e =
      ap (λ (b : Bool). if b then NoWay else lookup_of (label_at t.names (p ++ m ∷ q)))
      (way_by (p ++ m ∷ q) ∙ fails_at (λ front. leads_to_directory (walk view.step view.root front)) p m q e)

-- ---- in a store that represents a tree
label_in : (nodes : List (Option Node)) (w : Option ℕ) → option_and_then (label_by (shown_of nodes)) w ≡ option_map (λ (node : Node). node.label) (option_and_then (node_in nodes) w)
label_in nodes None = refl
label_in nodes (Some x) = elim (node_in nodes x) as (λ o. option_map (λ (z : ℕ × Object). z.0) (option_map shown_node o) ≡ option_map (λ (node : Node). node.label) o) [ None ↦ refl | Some node ↦ refl ]

directory_in : (nodes : List (Option Node)) (x : ℕ) → is_directory_by (shown_of nodes) x ≡ is_directory_at nodes x
directory_in nodes x = elim (node_in nodes x) as (λ o. is_directory_shown (option_map shown_node o) ≡ option_map_or (λ (it : Node). is_directory_content it.content) o false) [
  | None ↦ refl
  | Some node ↦ elim node.content as (λ c. is_some (directory_metadata (object_in node.metadata c)) ≡ is_directory_content c) [ content.Directory es ↦ refl | content.File contents ↦ refl ]
]

no_file : (nodes : List (Option Node)) (x : ℕ) → is_file_at nodes x ≡ true → is_directory_at nodes x ≡ false
no_file nodes x = elim (node_in nodes x) as (λ o. option_map_or (λ (it : Node). is_file_content it.content) o false ≡ true → option_map_or (λ (it : Node). is_directory_content it.content) o false ≡ false) [
  | None ↦ λ e. refl
  | Some node ↦ elim node.content as (λ c. is_file_content c ≡ true → is_directory_content c ≡ false) [ content.Directory es ↦ λ e. absurd (cc) | content.File contents ↦ λ e. refl ]
]

module _ (s : StoreState) (t : Tree) (k : Keeps s t) where
  -- one more name
  pub walk_on : (p : Path) (dir : ℕ) (n : Name) → walk (child_of s.nodes) s.root p ≡ Some dir → walk (child_of s.nodes) s.root (p ++ n ∷ []) ≡ child_of s.nodes dir n
  walk_on p dir n at = one_more (view_of s) t k.shows p dir n at

  pub label_found : (path : Path) → label_at t.names path ≡ option_map (λ (node : Node). node.label) (option_and_then (node_in s.nodes) (walk (child_of s.nodes) s.root path))
  label_found path = k.shows.by.names path ∙ label_in s.nodes (walk (child_of s.nodes) s.root path)

  pub way_found : (p : Path) (dir : ℕ) (n : Name) → walk (child_of s.nodes) s.root p ≡ Some dir → is_directory_at s.nodes dir ≡ true → is_faulty_way t (p ++ n ∷ []) ≡ false
  way_found p dir n at is = way_by (view_of s) t k.shows.by (p ++ n ∷ []) ∙ clear_name (view_of s) t k.shows.by p n s.root dir at (directory_in s.nodes dir ∙ is)

  -- a resolved inode is at the path
  pub place_found : (path : Path) (id : ℕ) (node : Node) → walk (child_of s.nodes) s.root path ≡ Some id → node_in s.nodes id ≡ Some node → look_up t path ≡ At node.label
  place_found path id node at here =
      ap (λ (b : Bool). if b then NoWay else lookup_of (label_at t.names path)) (way_by (view_of s) t k.shows.by path ∙ clear_way (view_of s) t k.shows.by path s.root id at)
      ∙ ap lookup_of (label_found path ∙ ap (λ (w : Option ℕ). option_map (λ (node : Node). node.label) (option_and_then (node_in s.nodes) w)) at ∙ ap (option_map (λ (node : Node). node.label)) here)

  pub object_found : (path : Path) (id : ℕ) (node : Node) → walk (child_of s.nodes) s.root path ≡ Some id → node_in s.nodes id ≡ Some node → found_at t path ≡ Some (node.label, object_in node.metadata node.content)
  object_found path id node at here = ap (found_place t.objects) (place_found path id node at here) ∙ ap (option_map {U = ℕ × Object} (λ (object : Object). (node.label, object))) (object_there s t k id node here)

  -- an absent name of a directory
  pub absent_found : (p : Path) (dir : ℕ) (n : Name) → walk (child_of s.nodes) s.root p ≡ Some dir → is_directory_at s.nodes dir ≡ true → child_of s.nodes dir n ≡ None → look_up t (p ++ n ∷ []) ≡ Absent
  absent_found p dir n at is none =
      ap (λ (b : Bool). if b then NoWay else lookup_of (label_at t.names (p ++ n ∷ []))) (way_found p dir n at is)
      ∙ ap lookup_of (label_found (p ++ n ∷ []) ∙ ap (λ (w : Option ℕ). option_map (λ (node : Node). node.label) (option_and_then (node_in s.nodes) w)) (walk_on p dir n at ∙ none))

  pub no_way_on : (p : Path) (dir : ℕ) (n m : Name) (q : Path) → walk (child_of s.nodes) s.root p ≡ Some dir → child_of s.nodes dir n ≡ None → look_up t (p ++ n ∷ m ∷ q) ≡ NoWay
  no_way_on p dir n m q at none =
      ap (λ (z : Path). look_up t z) (sym (append_assoc p (n ∷ []) (m ∷ q)))
      ∙ no_way (view_of s) t k.shows.by (p ++ n ∷ []) m q (ap (leads_to_directory (view_of s) t k.shows.by) (walk_on p dir n at ∙ none))

  pub file_in_way : (p : Path) (id : ℕ) (n : Name) (q : Path) → walk (child_of s.nodes) s.root p ≡ Some id → is_file_at s.nodes id ≡ true → look_up t (p ++ n ∷ q) ≡ NoWay
  file_in_way p id n q at is = no_way (view_of s) t k.shows.by p n q (ap (leads_to_directory (view_of s) t k.shows.by) at ∙ directory_in s.nodes id ∙ no_file s.nodes id is)

  -- the inode of a path exists
  pub reached_node : (path : Path) (id : ℕ) → walk (child_of s.nodes) s.root path ≡ Some id → (node : Node) × (node_in s.nodes id ≡ Some node)
  reached_node path id at = some_there (node_in s.nodes id) (λ e. reached_there (child_of s.nodes) (shown_of s.nodes) s.root k.shows.by.sound path id at (ap (option_map shown_node) e))

  -- a path's directory, with its metadata
  pub directory_found : (path : Path) (dir label : ℕ) (m : Metadata) → walk (child_of s.nodes) s.root path ≡ Some dir → shown_of s.nodes dir ≡ Some (label, Directory m) → directory_at t path ≡ Some (label, m)
  directory_found path dir label m at is =
      ap (option_and_then (directory_labelled t)) (k.shows.by.names path ∙ ap (option_and_then (label_by (shown_of s.nodes))) at ∙ ap (option_map (λ (z : ℕ × Object). z.0)) is)
      ∙ ap (λ (o : Option Object). paired label (option_and_then directory_metadata o)) (k.shows.by.objects dir label (Directory m) is)
