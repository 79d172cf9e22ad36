-- The tree's listing of a directory consists of the store's entries.
use Rattle.std.specs.Prelude.{◌≡◌, ℕ, suc, zero, nat_eq, Bool, true, false, cond, ◌||◌, List, [], ◌∷◌, ◌++◌, filter_map, map, take, is_some, option_map, option_and_then, Option, Some, None, refl}
use Rattle.std.proofs.Common.{sym, ap, ◌∙◌, inl, inr, eqb-true, eq-eqb}
use Rattle.std.specs.List.{cons_option, find, list_any, All, AllByRecursion}
use Rattle.std.proofs.lemmas.List.Elements.{All-from_recursion}
use Rattle.std.specs.Option.{option_map_or}
use Rattle.std.specs.Map.{lookup}
use Rattle.std.proofs.lemmas.Map.Made.{lookup-map_values}
use Rattle.sf_path.specs.Names.{Name, Path}
use Rattle.sf_path.specs.Order.{same_name, same_path, name_cmp, path_cmp, name_total, path_total}
use Rattle.sf_reply.specs.declared.reply.Entry.{Entry}
use Rattle.sf_call.specs.declared.limits.TheConstants.{MAX_ENTRIES}
use Rattle.sf_call.specs.Attributes.{Object}
use Rattle.sf_call.specs.Tree.{Tree, directory_metadata, label_at, object_of, links}
use Rattle.sf_call.specs.Listings as listings
use Rattle.sf_call.specs.Listings.{is_past, name_past, listing, listing_of, names_of, path_of}
use Rattle.sf_call.proofs.Laws.{exact_names, same_name_itself}
use Rattle.sf_inode.specs.declared.node.Node.{Node}
use Rattle.sf_inode.specs.declared.node.Content.TheVariants as content
use Rattle.sf_inode.specs.Nodes.{child_in, entries_in, object_in, is_directory_content, entries_past}
use Rattle.sf_keeps.specs.Steps.{walk}
use Rattle.sf_keeps.specs.Shows.{label_by, is_directory_by}
use Rattle.sf_inode.specs.Stores.{StoreState, node_in, child_of, node_entries, is_directory_at, shown_node}
use Rattle.sf_keeps.specs.Keeps.{view_of, Keeps, IsUnlinked}
use Rattle.sf_keeps.specs.Listed.{node_entry}
use Rattle.sf_keeps.proofs.Through.{by_test}
use Rattle.sf_keeps.proofs.Orderly.{same_sorted, sorted_mapped}
use Rattle.sf_keeps.proofs.Shown.{once}
use Rattle.sf_keeps.proofs.Sound.{never_reached}
use Rattle.sf_keeps.proofs.Less.{led_by, unnamed}
use Rattle.sf_keeps.proofs.Whole.{one_more}
use Rattle.sf_keeps.proofs.Forgotten.{directory_at}
use Rattle.sf_keeps.proofs.Openings.{object_there, entry_node, some_names, named_path, unnamed_node}
use Rattle.sf_keeps.proofs.ListedNames.{each_found, past_sorted, past_lookup, with_label, child, child_found, child_sorted}

-- ---- a directory's path
find_one : (p : Path) (label : ℕ) (names : List (Path × ℕ)) → AllByRecursion (λ e. nat_eq e.1 label ≡ true → e.0 ≡ p) names → label_at names p ≡ Some label → path_of names label ≡ Some p
find_one p label [] all there = cc
find_one p label (e ∷ names) all there =
    elim (nat_eq e.1 label) as (λ b. nat_eq e.1 label ≡ b → option_map (λ (x : Path × ℕ). x.0) (cond b (Some e) (find (λ (x : Path × ℕ). nat_eq x.1 label) names)) ≡ Some p) [
      | true ↦ λ t. ap Some (all.0 t)
      | false ↦ λ t. find_one p label names all.1 (elim (by_test (same_path p e.0) there) [
        | inl f ↦ let same : e.1 ≡ label = cc in let yes = eq-eqb e.1 label same in cc
        | inr f ↦ f.1
      ])
    ] refl

find_none : (label : ℕ) (names : List (Path × ℕ)) → list_any (λ e. nat_eq e.1 label) names ≡ false → path_of names label ≡ None
find_none label [] = λ e. refl
find_none label (e ∷ names) =
    elim (nat_eq e.1 label) as (λ b. (b || list_any (λ e. nat_eq e.1 label) names) ≡ false → option_map (λ (x : Path × ℕ). x.0) (cond b (Some e) (find (λ (x : Path × ℕ). nat_eq x.1 label) names)) ≡ None) [
      | true ↦ λ f. cc
      | false ↦ λ f. find_none label names f
    ]

is_directory_shown : (node : Node) → is_directory_content node.content ≡ true → is_some (directory_metadata (object_in node.metadata node.content)) ≡ true
is_directory_shown node = elim node.content as (λ c. is_directory_content c ≡ true → is_some (directory_metadata (object_in node.metadata c)) ≡ true) [
  | content.Directory es ↦ λ e. refl
  | content.File contents ↦ λ e. cc
]

pub content_is : (s : StoreState) (d : ℕ) (node : Node) → node_in s.nodes d ≡ Some node → is_directory_at s.nodes d ≡ true → is_directory_content node.content ≡ true
content_is s d node here is = sym (ap (λ (o : Option Node). option_map_or (λ (it : Node). is_directory_content it.content) o false) here) ∙ is

module _ (s : StoreState) (t : Tree) (k : Keeps s t) (d : ℕ) where
  module _ (node : Node) (here : node_in s.nodes d ≡ Some node) where
    shown : (view_of s).shown d ≡ Some (shown_node node)
    shown = ap (option_map shown_node) here

    pub path_found : (p : Path) → walk (child_of s.nodes) s.root p ≡ Some d → is_directory_content node.content ≡ true → path_of t.names node.label ≡ Some p
    path_found p at dir =
        let is : is_directory_by (view_of s).shown d ≡ true = ap (λ (v : Option (ℕ × Object)). is_some (option_and_then (λ (w : ℕ × Object). directory_metadata w.1) v)) shown ∙ is_directory_shown node dir in
        let there : label_at t.names p ≡ Some node.label = k.shows.by.names p ∙ ap (option_and_then (label_by (view_of s).shown)) at ∙ ap (option_map (λ (v : ℕ × Object). v.0)) shown in
        find_one p node.label t.names
        (each_found path_cmp path_total (λ e. nat_eq e.1 node.label ≡ true → e.0 ≡ p) t.names k.shows.ordered.names
        (λ q v l h. once (view_of s) t k.shows.by p d is at q (led_by (view_of s) t k.shows.by d node.label (shown_node node).1 shown q (l ∙ ap Some (eqb-true v node.label h))))) there

    no_path : IsUnlinked s d → path_of t.names node.label ≡ None
    no_path u = find_none node.label t.names
        (unnamed (view_of s) t k.shows.by k.shows.ordered d node.label (shown_node node).1 shown (λ q. never_reached (child_of s.nodes) s.root d q u.free u.other))

  -- ---- its entries
  entries_found : (q : Name) → child_of s.nodes d q ≡ lookup (same_name q) (node_entries s.nodes d)
  entries_found q = elim (node_in s.nodes d) as (λ o. option_and_then (λ (x : Node). child_in x.content q) o ≡ lookup (same_name q) (option_map_or (λ (x : Node). entries_in x.content) o [])) [
    | None ↦ refl
    | Some node ↦ elim node.content as (λ c. child_in c q ≡ lookup (same_name q) (entries_in c)) [ content.Directory es ↦ refl | content.File contents ↦ refl ]
  ]

  no_entries : (es : List (Name × ℕ)) → ((q : Name) → lookup (same_name q) es ≡ None) → es ≡ []
  no_entries [] h = refl
  no_entries (e ∷ es) h = let none = h e.0 in let some = ap (λ b. cond b (Some e.1) (lookup (same_name e.0) es)) (same_name_itself e.0) in absurd (cc)

  abbrev label_in : ℕ → ℕ
  label_in id = option_map_or (λ (x : Node). x.label) (node_in s.nodes id) 0

  module _ (last : Option Name) where
    abbrev past : List (Name × ℕ)
    past = entries_past last (node_entries s.nodes d)

    abbrev labelled : Name × ℕ → Name × ℕ
    labelled e = (e.0, label_in e.1)

    -- the listing by an inode number
    abbrev shown_label : Name × ℕ → Option Entry
    shown_label e = option_map (listings.entry_of e.0 (links t.names e.1)) (object_of t.objects e.1)

    abbrev shown_object : Node → Object
    shown_object node = object_in node.metadata node.content

    -- its inode exists, and the listings by inode number and by inode are equal
    abbrev IsListed : Name × ℕ → Type 0
    IsListed e = (node : Node) × (node_in s.nodes e.1 ≡ Some node) × (shown_label (labelled e) ≡ Some (listings.entry_of e.0 node.names (shown_object node)))

    past_found : (q : Name) (c : ℕ) → lookup (same_name q) past ≡ Some c → child_of s.nodes d q ≡ Some c
    past_found q c l =
        entries_found q ∙ elim (by_test (is_past last q) (sym (past_lookup last (node_entries s.nodes d) q) ∙ l)) [ inl e ↦ e.1 | inr e ↦ cc ]

    is_listed : (q : Name) (c : ℕ) → lookup (same_name q) past ≡ Some c → IsListed (q, c)
    is_listed q c l =
        let w = entry_node s t k d c q (past_found q c l) in (
          w.0,
          w.1,
          ap (λ (x : Option Node). shown_label (q, option_map_or (λ (y : Node). y.label) x 0)) w.1 ∙ ap (option_map (listings.entry_of q (links t.names w.0.label))) (object_there s t k c w.0 w.1)
              ∙ ap (λ (l : ℕ). Some (listings.entry_of q l (shown_object w.0))) (sym (k.linked c w.0 w.1)),
        )

    all_listed : AllByRecursion IsListed past
    all_listed = each_found name_cmp name_total IsListed past (past_sorted last (node_entries s.nodes d) (k.entries d)) is_listed

    listed_first : (n : ℕ) (es : List (Name × ℕ)) → AllByRecursion IsListed es → take n (filter_map shown_label (map labelled es)) ≡ filter_map (node_entry s.nodes) (take n es)
    listed_first zero [] all = refl
    listed_first zero (e ∷ es) all = refl
    listed_first (suc n) [] all = refl
    listed_first (suc n) (e ∷ es) all =
        ap (λ (o : Option Entry). take (suc n) (cons_option o (filter_map shown_label (map labelled es)))) all.0.2
        ∙ ap (λ (xs : List Entry). listings.entry_of e.0 all.0.0.names (shown_object all.0.0) ∷ xs) (listed_first n es all.1)
        ∙ sym (ap (λ (o : Option Node). cons_option (option_map (λ (x : Node). listings.entry_of e.0 x.names (shown_object x)) o) (filter_map (node_entry s.nodes) (take n es))) all.0.1)

    first_names : (n : ℕ) (es : List (Name × ℕ)) → AllByRecursion IsListed es → names_of (filter_map (node_entry s.nodes) (take n es)) ≡ map (λ e. e.0) (take n es)
    first_names zero [] all = refl
    first_names zero (e ∷ es) all = refl
    first_names (suc n) [] all = refl
    first_names (suc n) (e ∷ es) all =
        ap (λ (o : Option Node). names_of (cons_option (option_map (λ (x : Node). listings.entry_of e.0 x.names (shown_object x)) o) (filter_map (node_entry s.nodes) (take n es)))) all.0.1
        ∙ ap (λ (xs : List Name). e.0 ∷ xs) (first_names n es all.1)

    first_there : (n : ℕ) (es : List (Name × ℕ)) → AllByRecursion IsListed es → AllByRecursion (λ e. (node : Node) × (node_in s.nodes e.1 ≡ Some node)) (take n es)
    first_there zero [] all = tt
    first_there zero (e ∷ es) all = tt
    first_there (suc n) [] all = tt
    first_there (suc n) (e ∷ es) all = ((all.0.0, all.0.1), first_there n es all.1)

    pub names_listed : names_of (filter_map (node_entry s.nodes) (take MAX_ENTRIES past)) ≡ map (λ e. e.0) (take MAX_ENTRIES past)
    names_listed = first_names MAX_ENTRIES past all_listed

    pub nodes_listed : All (λ e. (node : Node) × (node_in s.nodes e.1 ≡ Some node)) (take MAX_ENTRIES past)
    nodes_listed = All-from_recursion (λ e. (node : Node) × (node_in s.nodes e.1 ≡ Some node)) (take MAX_ENTRIES past) (first_there MAX_ENTRIES past all_listed)

    -- ---- a directory with a path
    module _ (p : Path) (at : walk (child_of s.nodes) s.root p ≡ Some d) where
      name_found : (q : Name) → label_at t.names (p ++ q ∷ []) ≡ option_map label_in (child_of s.nodes d q)
      name_found q =
          k.shows.by.names (p ++ q ∷ []) ∙ ap (option_and_then (label_by (view_of s).shown)) (one_more (view_of s) t k.shows p d q at)
          ∙ elim (child_of s.nodes d q) as (λ o. child_of s.nodes d q ≡ o → option_and_then (label_by (view_of s).shown) o ≡ option_map label_in o) [
            | None ↦ λ e. refl
            | Some c ↦ λ e.
                let w = entry_node s t k d c q e in
                ap (λ (o : Option Node). option_map (λ (v : ℕ × Object). v.0) (option_map shown_node o)) w.1 ∙ sym (ap (λ (o : Option Node). Some (option_map_or (λ (x : Node). x.label) o 0)) w.1)
          ] refl

      mapped : (b : Bool) (o : Option ℕ) → cond b (option_map label_in o) None ≡ option_map label_in (cond b o None)
      mapped true o = refl
      mapped false o = refl

      same_names : filter_map (child last p) t.names ≡ map labelled past
      same_names = same_sorted name_cmp name_total exact_names (filter_map (child last p) t.names) (map labelled past)
          (child_sorted last p t.names k.shows.ordered.names) (sorted_mapped name_cmp label_in past (past_sorted last (node_entries s.nodes d) (k.entries d)))
          (λ q. child_found last p t.names q
          ∙ ap (λ (o : Option ℕ). cond (is_past last q) o None) (name_found q ∙ ap (option_map label_in) (entries_found q))
          ∙ mapped (is_past last q) (lookup (same_name q) (node_entries s.nodes d))
          ∙ sym (lookup-map_values label_in (same_name q) past ∙ ap (option_map label_in) (past_lookup last (node_entries s.nodes d) q)))

      by_labels : (names : List (Path × ℕ)) → filter_map (listings.listed_entry t p last) names ≡ filter_map shown_label (filter_map (child last p) names)
      by_labels [] = refl
      by_labels (e ∷ names) =
          elim (name_past p last e.0) as (λ o. cons_option (option_and_then (λ (n : Name). option_map (listings.entry_of n (links t.names e.1)) (object_of t.objects e.1)) o) (filter_map (listings.listed_entry t p last) names)
          ≡ filter_map shown_label (cons_option (option_map (with_label e.1) o) (filter_map (child last p) names))) [
            | None ↦ by_labels names
            | Some n ↦ ap (cons_option (option_map (listings.entry_of n (links t.names e.1)) (object_of t.objects e.1))) (by_labels names)
          ]

      listing_found : listing t last p ≡ filter_map (node_entry s.nodes) (take MAX_ENTRIES past)
      listing_found = ap (take MAX_ENTRIES) (by_labels t.names ∙ ap (filter_map shown_label) same_names) ∙ listed_first MAX_ENTRIES past all_listed

    -- ---- an existing directory, by its inode number: one without a path has no entries
    pub label_listed : (node : Node) → node_in s.nodes d ≡ Some node → is_directory_content node.content ≡ true → listing_of t last (path_of t.names node.label) ≡ filter_map (node_entry s.nodes) (take MAX_ENTRIES past)
    label_listed node here dir = elim (nat_eq node.names 0) as (λ b. nat_eq node.names 0 ≡ b → listing_of t last (path_of t.names node.label) ≡ filter_map (node_entry s.nodes) (take MAX_ENTRIES past)) [
      | false ↦ λ e.
          let w = named_path s t k d node here (some_names node.names e) in
          ap (listing_of t last) (path_found node here w.0 w.1 dir) ∙ listing_found w.0 w.1
      | true ↦ λ e.
          let u = unnamed_node s t k d node here (eqb-true node.names 0 e) in
          ap (listing_of t last) (no_path node here u)
          ∙ sym (ap (λ (es : List (Name × ℕ)). filter_map (node_entry s.nodes) (take MAX_ENTRIES (entries_past last es))) (no_entries (node_entries s.nodes d) (λ q. sym (entries_found q) ∙ u.bare q)))
    ] refl

-- only one path leads to a directory
pub one_way : (s : StoreState) (t : Tree) (k : Keeps s t) (p q : Path) (d : ℕ) → walk (child_of s.nodes) s.root p ≡ Some d → walk (child_of s.nodes) s.root q ≡ Some d → is_directory_at s.nodes d ≡ true → p ≡ q
one_way s t k p q d to_p to_q dir =
    let w = directory_at s.nodes d dir in
    let is : is_directory_by (view_of s).shown d ≡ true =
    ap (λ (v : Option Node). is_some (option_and_then (λ (x : ℕ × Object). directory_metadata x.1) (option_map shown_node v))) w.2 ∙ ap (λ c. is_some (directory_metadata (object_in w.0.metadata c))) w.3 in
    once (view_of s) t k.shows.by q d is to_q p to_p
