-- An entry of a directory after the last one is listed, or the listing is full of smaller names,
-- and nothing else is listed.
use Rattle.std.proofs.Common.{◌≡◌, ◌⊎◌, ℕ, zero, suc, true, false, T, cond, List, [], ◌∷◌, ◌++◌, length, take, Option, Some, None, option_map, option_and_then, inl, inr, refl, sym, ap, ◌∙◌, subst, arith}
use Rattle.std.specs.Option.{IfSome}
use Rattle.std.specs.List.{AllByRecursion, Contains, cons_option}
use Rattle.std.specs.List.Sorted.{IsStrictlySortedBy}
use Rattle.std.specs.Ordering.{is_lt, is_eq}
use Rattle.std.specs.Cmp.{tied_itself, eq_by_cmp_equiv}
use Rattle.std.specs.FinMap.{is_sorted}
use Rattle.std.specs.FinMap.Entries.{below_all}
use Rattle.sf_path.specs.Names.{Name, Path}
use Rattle.sf_path.specs.Order.{name_cmp, path_cmp, path_total, same_path}
use Rattle.sf_reply.specs.declared.reply.Entry.{Entry}
use Rattle.sf_call.specs.declared.limits.TheConstants.{MAX_ENTRIES}
use Rattle.sf_call.specs.Attributes.{Object}
use Rattle.sf_call.specs.Tree.{Tree, IsOrderedTree, label_at, object_of, links, after_front, only_name}
use Rattle.sf_call.specs.Listings.{is_past, entry_of, listed_entry, listing, names_of}
use Rattle.sf_call.proofs.Laws.{after_front-append, same_path_is}
use Rattle.sf_laws.proofs.InOrder.{listed, at_name, in_order}
use Rattle.sf_call.proofs.Laws.{and_first, and_second}
use Rattle.sf_call.proofs.Laws.{not_at}
use Rattle.sf_call.proofs.Laws.{all_made}
use Rattle.sf_call.proofs.Laws.{taken_short}

-- an entry is in a list
abbrev pub IsIn : Entry → List Entry → Type 0
IsIn x [] = ⊥
IsIn x (e ∷ es) = (e ≡ x) ⊎ IsIn x es

contained : (x : Entry) (entries : List Entry) → IsIn x entries → Contains entries x
contained x [] is = absurd is
contained x (e ∷ es) is = elim is [
  | inl same ↦ (0, omega arith, same)
  | inr later ↦ let there = contained x es later in let lt = there.1 in (suc there.0, omega arith, there.2)
]

behind : (x : Entry) (o : Option Entry) (entries : List Entry) → IsIn x entries → IsIn x (cons_option o entries)
behind x None entries is = is
behind x (Some e) entries is = inr is

-- a property of all names holds for this entry's
of_name : (P : Name → Type 0) (x : Entry) (entries : List Entry) → AllByRecursion P (names_of entries) → IsIn x entries → P x.filename
of_name P x [] all is = absurd is
of_name P x (e ∷ es) all is = elim is [
  | inl same ↦ subst (λ (y : Entry). P y.filename) same all.0
  | inr later ↦ of_name P x es all.1 later
]

module _ (tree : Tree) (last : Option Name) (directory : Path) (name : Name) (object : Object) (past : is_past last name ≡ true) where
  is_entry : (path : Path) (label : ℕ) → path ≡ directory ++ name ∷ [] → object_of tree.objects label ≡ Some object → listed_entry tree directory last (path, label) ≡ Some (entry_of name (links tree.names label) object)
  is_entry path label at there =
      ap (λ (p : Path). listed_entry tree directory last (p, label)) at
      ∙ ap (λ (rest : Option Path). option_and_then (λ n. option_map (entry_of n (links tree.names label)) (object_of tree.objects label)) (option_and_then (λ n. cond (is_past last n) (Some n) None) (only_name rest)))
      (after_front-append directory (name ∷ []))
      ∙ ap (λ b. option_and_then (λ n. option_map (entry_of n (links tree.names label)) (object_of tree.objects label)) (cond b (Some name) None)) past
      ∙ ap (option_map (entry_of name (links tree.names label))) there

  found : (names : List (Path × ℕ)) (label : ℕ) → label_at names (directory ++ name ∷ []) ≡ Some label → object_of tree.objects label ≡ Some object
      → IsIn (entry_of name (links tree.names label) object) (listed tree last directory names)
  found [] label at there = cc
  found (e ∷ es) label at there =
      elim (same_path (directory ++ name ∷ []) e.0) as (λ b. same_path (directory ++ name ∷ []) e.0 ≡ b → cond b (Some e.1) (label_at es (directory ++ name ∷ [])) ≡ Some label
      → IsIn (entry_of name (links tree.names label) object) (cons_option (listed_entry tree directory last e) (listed tree last directory es))) [
        | true ↦ λ tied k.
            let same : e.1 ≡ label = cc in
            let is = is_entry e.0 e.1 (sym (same_path_is (directory ++ name ∷ []) e.0 tied)) (ap (object_of tree.objects) same ∙ there) ∙ ap (λ (l : ℕ). Some (entry_of name (links tree.names l) object)) same in
            subst (λ (o : Option Entry). IsIn (entry_of name (links tree.names label) object) (cons_option o (listed tree last directory es))) (sym is) (inl refl)
        | false ↦ λ _ k. behind (entry_of name (links tree.names label) object) (listed_entry tree directory last e) (listed tree last directory es) (found es label k there)
      ] refl at

-- of ordered entries, one is among the first n, or there are n before it
taken : (n : ℕ) (x : Entry) (entries : List Entry) → IsStrictlySortedBy name_cmp (names_of entries) → IsIn x entries
    → IsIn x (take n entries) ⊎ ((length (take n entries) ≡ n) × AllByRecursion (λ m. is_lt (name_cmp m x.filename) ≡ true) (names_of (take n entries)))
unfolding IsStrictlySortedBy
taken zero x (e ∷ es) sorted is = inr (refl, tt)
taken _ x [] sorted is = absurd is
taken (suc n) x (e ∷ es) sorted is = elim is [
  | inl same ↦ inl (inl same)
  | inr later ↦ elim (taken n x es sorted.1 later) [
    | inl there ↦ inl (inr there)
    | inr full ↦ inr (ap suc full.0, (ap is_lt (of_name _ x es sorted.0 later), full.1))
  ]
]

-- a name in a directory, and its object
pub record NamedObject (tree : Tree) (directory : Path) : Type 0 where
  pub name : Name
  pub label : ℕ
  pub object : Object
  pub at : label_at tree.names (directory ++ name ∷ []) ≡ Some label
  pub there : object_of tree.objects label ≡ Some object

pub listing_complete : (tree : Tree) (last : Option Name) (directory : Path) (n : NamedObject tree directory) → IsOrderedTree tree → is_past last n.name ≡ true
    → Contains (listing tree last directory) (entry_of n.name (links tree.names n.label) n.object)
    ⊎ ((length (listing tree last directory) ≡ MAX_ENTRIES) × AllByRecursion (λ listed. is_lt (name_cmp listed n.name) ≡ true) (names_of (listing tree last directory)))
listing_complete tree last directory n o past =
    let entry = entry_of n.name (links tree.names n.label) n.object in
    elim (taken 32 entry (listed tree last directory tree.names) (in_order tree last directory tree.names o.names)
    (found tree last directory n.name n.object past tree.names n.label n.at n.there)) [
      | inl is ↦ inl (contained entry (listing tree last directory) is)
      | inr full ↦ inr full
    ]

-- the entries after the first are found after it
past_first : (e : Path × ℕ) (es fs : List (Path × ℕ)) → T (below_all path_cmp e.0 fs) → AllByRecursion (λ x. label_at es x.0 ≡ Some x.1) fs → AllByRecursion (λ x. label_at (e ∷ es) x.0 ≡ Some x.1) fs
past_first e es [] below all = tt
past_first e es (f ∷ fs) below all =
    let other : same_path f.0 e.0 ≡ false =
    (eq_by_cmp_equiv path_total).symm f.0 e.0 ∙ not_at (path_cmp e.0 f.0) (and_first _ (below_all path_cmp e.0 fs) below) in
    (ap (λ b. cond b (Some e.1) (label_at es f.0)) other ∙ all.0, past_first e es fs (and_second _ (below_all path_cmp e.0 fs) below) all.1)

-- each entry in order is found by its path
each_found : (names : List (Path × ℕ)) → T (is_sorted path_cmp names) → AllByRecursion (λ e. label_at names e.0 ≡ Some e.1) names
each_found [] sorted = tt
each_found (e ∷ es) sorted = (
  ap (λ r. cond (is_eq r) (Some e.1) (label_at es e.0)) (tied_itself path_total e.0),
  past_first e es es (and_first (below_all path_cmp e.0 es) (is_sorted path_cmp es) sorted) (each_found es (and_second (below_all path_cmp e.0 es) (is_sorted path_cmp es) sorted)),
)

shown : (name : Name) (count : ℕ) (o : Option Object) (entry : Entry) → option_map (entry_of name count) o ≡ Some entry → (object : Object) × (o ≡ Some object) × (entry ≡ entry_of entry.filename count object)
shown name count None entry e = cc
shown name count (Some object) entry e = let same : entry_of name count object ≡ entry = cc in (object, refl, subst (λ (x : Entry). x ≡ entry_of x.filename count object) same refl)

-- a listed entry has the object of its inode number
shows_object : (last : Option Name) (count : ℕ) (o : Option Object) (rest : Option Path) (entry : Entry)
    → option_and_then (λ name. option_map (entry_of name count) o) (option_and_then (λ name. cond (is_past last name) (Some name) None) (only_name rest)) ≡ Some entry
    → (object : Object) × (o ≡ Some object) × (entry ≡ entry_of entry.filename count object)
shows_object last count o (Some (n ∷ [])) entry e =
    elim (is_past last n) as (λ b. option_and_then (λ name. option_map (entry_of name count) o) (cond b (Some n) None) ≡ Some entry
    → (object : Object) × (o ≡ Some object) × (entry ≡ entry_of entry.filename count object)) [
      | true ↦ λ k. shown n count o entry k
      | false ↦ λ k. cc
    ] e
shows_object last count o _ entry e = cc

-- an entry has the object under its name in the directory
abbrev pub IsThere : Tree → Path → Entry → Type 0
IsThere tree directory entry =
    (label : ℕ) × (object : Object) × (label_at tree.names (directory ++ entry.filename ∷ []) ≡ Some label) × (object_of tree.objects label ≡ Some object) × (entry ≡ entry_of entry.filename (links tree.names label) object)

entry_there : (tree : Tree) (last : Option Name) (directory : Path) (e : Path × ℕ) → label_at tree.names e.0 ≡ Some e.1 → IfSome (listed_entry tree directory last e) (IsThere tree directory)
entry_there tree last directory e at =
    elim (listed_entry tree directory last e) as (λ o. listed_entry tree directory last e ≡ o → IfSome o (IsThere tree directory)) [
      | None ↦ λ _. tt
      | Some entry ↦ λ is.
          let of_object = shows_object last (links tree.names e.1) (object_of tree.objects e.1) (after_front directory e.0) entry is in
          (e.1, of_object.0, subst (λ (p : Path). label_at tree.names p ≡ Some e.1) (at_name tree last directory e entry is).0 at, of_object.1, of_object.2)
    ] refl

pub listing_there : (tree : Tree) (last : Option Name) (directory : Path) → IsOrderedTree tree → AllByRecursion (IsThere tree directory) (listing tree last directory)
listing_there tree last directory o =
    taken_short (IsThere tree directory) 32 (listed tree last directory tree.names)
    (all_made _ (IsThere tree directory) (listed_entry tree directory last) (entry_there tree last directory) tree.names (each_found tree.names o.names))
