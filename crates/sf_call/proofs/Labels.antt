-- No number of a future call is an inode number or a handle. A directory has at most one path, and
-- a file at most MAX_LINKS.
use Rattle.std.proofs.Common.{◌≡◌, ◌≢◌, ◌<◌, ◌≤◌, ◌⊎◌, ℕ, true, false, cond, not, nat_eq, List, [], ◌∷◌, ◌++◌, filter, Some, None, option_map, refl, sym, ap, ◌∙◌, subst, inl, inr, arith}
use Rattle.std.specs.Ordering.{nat_cmp}
use Rattle.std.specs.Cmp.{nat_cmp_total}
use Rattle.std.specs.Map.{lookup, remove_entry}
use Rattle.std.specs.BTreeMap.{insert_entry, is_at}
use Rattle.std.specs.FinMap.{nat_cmp-IsAntisymmetric}
use Rattle.std.proofs.lemmas.Bool.{eqb-true}
use Rattle.std.proofs.lemmas.Map.Entries.{lookup-filter-keys}
use Rattle.std.proofs.lemmas.List.Sums.{count_by-le-length}
use Rattle.sf_path.specs.Names.{Path}
use Rattle.sf_path.specs.Order.{path_cmp, same_path}
use Rattle.sf_call.specs.declared.limits.TheConstants.{MAX_LINKS}
use Rattle.sf_call.specs.Attributes.{Object, made_at}
use Rattle.sf_call.specs.Attributes.Object.{Directory}
use Rattle.sf_call.specs.Tree.{Tree, IsOrderedTree, label_at, object_of, handle_of, links, is_directory_object, is_used, kept, after_front, empty_tree}
use Rattle.sf_call.specs.Changes.{Change, changed}
use Rattle.sf_call.specs.Changes.Change.{SetObject, NewPath, NewName, GonePath, Move, OpenHandle, SetHandle, CloseHandle}
use Rattle.sf_call.specs.Moves.{moved}
use Rattle.sf_call.specs.declared.handle.Handle.{Handle}
use Rattle.sf_call.specs.declared.metadata.FileType.TheVariants as file_type
use Rattle.sf_call.specs.Allowed.{file_type_of, MayChange}
use Rattle.sf_call.proofs.Orders.{exact_paths}
use Rattle.sf_call.proofs.LookUps.{lookup-put, other_put, none_set, none_removed, none_filtered, found_removed}
use Rattle.sf_call.proofs.ObjectKinds.{kinds_set, directory_by_kind, no_directory}
use Rattle.sf_call.proofs.Links.{links_more, links_fewer, links_moved_less, is_link, none_linked}
use Rattle.sf_call.proofs.MovedNames.{lookup-insert_entry, same_path_is, is_equal, after_front-append, came_from}

-- no path, object or handle has a free number, no two paths name one directory, and no file has too
-- many
pub record IsLabelled (Free : ℕ → Type 0) (tree : Tree) : Type 0 where
  pub unused : (number : ℕ) → Free number → (path : Path) → label_at tree.names path ≢ Some number
  pub no_object : (number : ℕ) → Free number → object_of tree.objects number ≡ None
  pub unopened : (number : ℕ) → Free number → handle_of tree.handles number ≡ None
  pub one_path : (path other : Path) (label : ℕ) → is_directory_object (object_of tree.objects label) ≡ true → label_at tree.names path ≡ Some label → label_at tree.names other ≡ Some label → path ≡ other
  pub few : (label : ℕ) → links tree.names label ≤ MAX_LINKS

-- with fewer free numbers
pub labelled_less : (Free Less : ℕ → Type 0) (tree : Tree) → ((n : ℕ) → Less n → Free n) → IsLabelled Free tree → IsLabelled Less tree
labelled_less Free Less tree less h = record {
  unused = λ n free path. h.unused n (less n free) path;
  no_object = λ n free. h.no_object n (less n free);
  unopened = λ n free. h.unopened n (less n free);
  one_path = h.one_path;
  few = h.few;
}

there : (names : List (Path × ℕ)) (new_path : Path) (number : ℕ) (path : Path) (label : ℕ) → label_at (insert_entry path_cmp names new_path number) path ≡ Some label
    → ((path ≡ new_path) × (label ≡ number)) ⊎ (label_at names path ≡ Some label)
there names new_path number path label e =
    elim (same_path path new_path) as (λ b. same_path path new_path ≡ b → cond b (Some number) (label_at names path) ≡ Some label → ((path ≡ new_path) × (label ≡ number)) ⊎ (label_at names path ≡ Some label)) [
      | true ↦ λ same f. inl (same_path_is path new_path same, cc)
      | false ↦ λ other f. inr f
    ] refl (sym (lookup-insert_entry names new_path number path) ∙ e)

other_entry : {X : Type 0} (entries : List (ℕ × X)) (number n : ℕ) (x : X) → n ≢ number → lookup (is_at (nat_cmp n)) entries ≡ None → lookup (is_at (nat_cmp n)) (insert_entry nat_cmp entries number x) ≡ None
other_entry entries number n x other none =
    lookup-put nat_cmp nat_cmp_total entries number x n
    ∙ elim (is_at (nat_cmp n) number) as (λ b. is_at (nat_cmp n) number ≡ b → cond b (Some x) (lookup (is_at (nat_cmp n)) entries) ≡ None) [
      | true ↦ λ tied. absurd (other (nat_cmp-IsAntisymmetric n number (is_equal (nat_cmp n number) tied)))
      | false ↦ λ _. none
    ] refl

-- the suffix after a prefix is unique, and a path without the prefix is not below it
same_rest : (p r s : Path) → p ++ r ≡ p ++ s → r ≡ s
same_rest p r s same =
    let rests : Some r ≡ Some s = sym (after_front-append p r) ∙ ap (after_front p) same ∙ after_front-append p s in cc

not_below : (p r q : Path) → p ++ r ≡ q → after_front p q ≡ None → ⊥
not_below p r q same none =
    let some : Some r ≡ None = sym (after_front-append p r) ∙ ap (after_front p) same ∙ none in cc

-- a directory that was kept was one
was_directory : (names : List (Path × ℕ)) (handles : List (ℕ × Handle)) (objects : List (ℕ × Object)) (label : ℕ)
    → is_directory_object (object_of (filter (λ e. is_used names handles e.0) objects) label) ≡ true → is_directory_object (object_of objects label) ≡ true
was_directory names handles objects label is =
    elim (is_used names handles label) as (λ b. is_directory_object (cond b (object_of objects label) None) ≡ true → is_directory_object (object_of objects label) ≡ true) [
      | true ↦ λ k. k
      | false ↦ λ k. cc
    ] (sym (ap is_directory_object (lookup-filter-keys (is_at (nat_cmp label)) (is_used names handles) (is_used names handles label)
    (λ k t. ap (is_used names handles) (sym (nat_cmp-IsAntisymmetric label k (is_equal (nat_cmp label k) t)))) objects)) ∙ is)

-- with one more path of an inode number that has fewer than MAX_LINKS
few_more : (names : List (Path × ℕ)) (path : Path) (l label : ℕ) → label_at names path ≡ None → links names label ≤ MAX_LINKS → links names l < MAX_LINKS → links (insert_entry path_cmp names path l) label ≤ MAX_LINKS
few_more names path l label free few fewer =
    elim (nat_eq l label) as (λ b. nat_eq l label ≡ b → links (insert_entry path_cmp names path l) label ≤ MAX_LINKS) [
      | true ↦ λ t.
          let same : l ≡ label = eqb-true l label t in
          let one : is_link label l ≡ 1 = ap (λ b. cond b 1 0) t in
          omega (arith, links_more names label path l free, one, subst (λ (k : ℕ). links names k < MAX_LINKS) same fewer)
      | false ↦ λ f.
          let none : is_link label l ≡ 0 = ap (λ b. cond b 1 0) f in
          omega (arith, links_more names label path l free, none, few)
    ] refl

root_linked : (label : ℕ) → links empty_tree.names label ≤ MAX_LINKS
root_linked label = omega (arith, count_by-le-length (λ (e : Path × ℕ). nat_eq e.1 label) empty_tree.names)

pub labelled_changed : (Free : ℕ → Type 0) (number : ℕ) → ¬ Free number → (tree : Tree) (change : Change) → MayChange number tree change → IsOrderedTree tree → IsLabelled Free tree → IsLabelled Free (changed tree change)
labelled_changed Free number taken tree (SetObject label object) may o h = record {
  unused = h.unused;
  no_object = λ n free. none_set (is_at (nat_cmp n)) (is_at (nat_cmp label)) tree.objects object (h.no_object n free);
  unopened = h.unopened;
  one_path = λ path other l is. h.one_path path other l (sym (directory_by_kind _ _ (kinds_set tree.objects label l object may)) ∙ is);
  few = h.few;
}
labelled_changed Free number taken tree (NewPath new_path new_label object) may o h = record {
  unused = λ n free path e. elim (there tree.names new_path new_label path n e) [
    | inl z ↦ taken (let is : n ≡ number = z.1 ∙ may.is_number in subst Free is free)
    | inr f ↦ h.unused n free path f
  ];
  no_object = λ n free. other_entry tree.objects new_label n object (λ same. taken (let is : n ≡ number = same ∙ may.is_number in subst Free is free)) (h.no_object n free);
  unopened = h.unopened;
  one_path = λ path other label is e f. elim (there tree.names new_path new_label path label e) [
    | inl z ↦ elim (there tree.names new_path new_label other label f) [
      | inl w ↦ z.0 ∙ sym w.0
      | inr g ↦ absurd (may.unused other (g ∙ ap Some z.1))
    ]
    | inr k ↦ elim (there tree.names new_path new_label other label f) [
      | inl w ↦ absurd (may.unused path (k ∙ ap Some w.1))
      | inr g ↦ h.one_path path other label
          (sym (ap is_directory_object (other_put nat_cmp nat_cmp-IsAntisymmetric nat_cmp_total tree.objects new_label object label (λ same. may.unused path (k ∙ ap Some same)))) ∙ is) k g
    ]
  ];
  few = λ label. few_more tree.names new_path new_label label may.free (h.few label) (omega (arith, none_linked tree.names new_label o.names may.unused));
}
labelled_changed Free number taken tree (NewName new_path new_label) may o h = record {
  unused = λ n free path e. elim (there tree.names new_path new_label path n e) [
    | inl z ↦ let some : option_map file_type_of (object_of tree.objects n) ≡ Some file_type.File = ap (λ (l : ℕ). option_map file_type_of (object_of tree.objects l)) z.1 ∙ may.of_file in
        let none : option_map file_type_of (object_of tree.objects n) ≡ None = ap (option_map file_type_of) (h.no_object n free) in cc
    | inr f ↦ h.unused n free path f
  ];
  no_object = h.no_object;
  unopened = h.unopened;
  one_path = λ path other label is e f. elim (there tree.names new_path new_label path label e) [
    | inl z ↦ absurd (file_alone label z.1 is)
    | inr k ↦ elim (there tree.names new_path new_label other label f) [
      | inl w ↦ absurd (file_alone label w.1 is)
      | inr g ↦ h.one_path path other label is k g
    ]
  ];
  few = λ label. few_more tree.names new_path new_label label may.free (h.few label) may.fewer;
} where
  file_alone : (label : ℕ) → label ≡ new_label → is_directory_object (object_of tree.objects label) ≡ true → ⊥
  file_alone label same is =
      let no : is_directory_object (object_of tree.objects label) ≡ false = ap (λ (l : ℕ). is_directory_object (object_of tree.objects l)) same ∙ no_directory (object_of tree.objects new_label) may.of_file in cc
labelled_changed Free number taken tree (GonePath gone) may o h =
    let back : (path : Path) (label : ℕ) → label_at (remove_entry (is_at (path_cmp gone)) tree.names) path ≡ Some label → label_at tree.names path ≡ Some label =
    λ path label e. found_removed path_cmp exact_paths (is_at (path_cmp gone)) tree.names path label o.names e in
    record {
      unused = λ n free path e. h.unused n free path (back path n e);
      no_object = λ n free. none_filtered (is_at (nat_cmp n)) (λ e. is_used (remove_entry (is_at (path_cmp gone)) tree.names) tree.handles e.0) tree.objects (h.no_object n free);
      unopened = h.unopened;
      one_path = λ path other label is e f. h.one_path path other label (was_directory (remove_entry (is_at (path_cmp gone)) tree.names) tree.handles tree.objects label is) (back path label e) (back other label f);
      few = λ label. omega (arith, links_fewer tree.names label gone, h.few label);
    }
labelled_changed Free number taken tree (Move old new) may o h =
    record {
      unused = λ n free path e. elim (came_from tree.names old new path n e) [
        | inl c ↦ h.unused n free (old ++ c.0) c.2
        | inr c ↦ h.unused n free path c.2
      ];
      no_object = λ n free. none_filtered (is_at (nat_cmp n)) (λ e. is_used (moved tree.names old new) tree.handles e.0) tree.objects (h.no_object n free);
      unopened = h.unopened;
      one_path = λ path other label is e f. let was = was_directory (moved tree.names old new) tree.handles tree.objects label is in elim (came_from tree.names old new path label e) [
        | inl c ↦ elim (came_from tree.names old new other label f) [
          | inl d ↦ c.1 ∙ ap (λ (rest : Path). new ++ rest) (same_rest old c.0 d.0 (h.one_path (old ++ c.0) (old ++ d.0) label was c.2 d.2)) ∙ sym d.1
          | inr d ↦ absurd (not_below old c.0 other (h.one_path (old ++ c.0) other label was c.2 d.2) d.0)
        ]
        | inr c ↦ elim (came_from tree.names old new other label f) [
          | inl d ↦ absurd (not_below old d.0 path (h.one_path (old ++ d.0) path label was d.2 c.2) c.0)
          | inr d ↦ h.one_path path other label was c.2 d.2
        ]
      ];
      few = λ label. omega (arith, links_moved_less tree.names label old new, h.few label);
    }
labelled_changed Free number taken tree (OpenHandle handle opened) may o h = record {
  unused = h.unused;
  no_object = h.no_object;
  unopened = λ n free. other_entry tree.handles handle n opened (λ same. taken (let is : n ≡ number = same ∙ may.is_number in subst Free is free)) (h.unopened n free);
  one_path = h.one_path;
  few = h.few;
}
labelled_changed Free number taken tree (SetHandle handle opened) may o h = record {
  unused = h.unused;
  no_object = h.no_object;
  unopened = λ n free. none_set (is_at (nat_cmp n)) (is_at (nat_cmp handle)) tree.handles opened (h.unopened n free);
  one_path = h.one_path;
  few = h.few;
}
labelled_changed Free number taken tree (CloseHandle handle) may o h = record {
  unused = h.unused;
  no_object = λ n free. none_filtered (is_at (nat_cmp n)) (λ e. is_used tree.names (remove_entry (is_at (nat_cmp handle)) tree.handles) e.0) tree.objects (h.no_object n free);
  unopened = λ n free. none_removed (is_at (nat_cmp n)) (is_at (nat_cmp handle)) tree.handles (h.unopened n free);
  one_path = λ path other label is. h.one_path path other label (was_directory tree.names (remove_entry (is_at (nat_cmp handle)) tree.handles) tree.objects label is);
  few = h.few;
}

pub labelled_left : (Free : ℕ → Type 0) (tree : Tree) (session : ℕ) → IsLabelled Free tree
    → IsLabelled Free (kept (record tree { handles = filter (λ e. not (nat_eq e.1.session session)) tree.handles }))
labelled_left Free tree session h = record {
  unused = h.unused;
  no_object = λ n free. none_filtered (is_at (nat_cmp n)) (λ e. is_used tree.names (filter (λ o. not (nat_eq o.1.session session)) tree.handles) e.0) tree.objects (h.no_object n free);
  unopened = λ n free. none_filtered (is_at (nat_cmp n)) (λ e. not (nat_eq e.1.session session)) tree.handles (h.unopened n free);
  one_path = λ path other label is. h.one_path path other label (was_directory tree.names (filter (λ e. not (nat_eq e.1.session session)) tree.handles) tree.objects label is);
  few = h.few;
}

pub root_alone : (path : Path) (label : ℕ) → label_at empty_tree.names path ≡ Some label → (path ≡ []) × (label ≡ 0)
root_alone [] label e = (refl, cc)
root_alone (n ∷ path) label e = cc

root_label : (n : ℕ) → 0 < n → object_of empty_tree.objects n ≡ None
root_label n over =
    elim (is_at (nat_cmp n) 0) as (λ b. is_at (nat_cmp n) 0 ≡ b → cond b (Some (Directory (made_at 0o755 0))) None ≡ None) [
      | true ↦ λ tied. let is : n ≡ 0 = nat_cmp-IsAntisymmetric n 0 (is_equal (nat_cmp n 0) tied) in absurd (omega arith)
      | false ↦ λ _. refl
    ] refl

pub labelled_empty : (Free : ℕ → Type 0) → ((n : ℕ) → Free n → 0 < n) → IsLabelled Free empty_tree
labelled_empty Free above = record {
  unused = λ number free path e. let z = root_alone path number e in let is : number ≡ 0 = z.1 in let over : 0 < number = above number free in absurd (omega arith);
  no_object = λ n free. root_label n (above n free);
  unopened = λ n free. refl;
  one_path = λ path other label is e f. (root_alone path label e).0 ∙ sym (root_alone other label f).0;
  few = λ label. root_linked label;
}
