-- The names of a listing are in order, after the last one that was listed.
use Rattle.std.proofs.Common.{◌≡◌, ℕ, suc, true, false, T, cond, List, [], ◌∷◌, ◌++◌, filter_map, take, Option, Some, None, option_map, option_and_then, refl, sym, ap, ◌∙◌, subst}
use Rattle.std.specs.List.{AllByRecursion, cons_option}
use Rattle.std.specs.List.Sorted.{IsStrictlySortedBy}
use Rattle.std.specs.declared.cmp.Ordering.TheVariants.{Less, Equal, Greater}
use Rattle.std.specs.Ordering.{is_lt}
use Rattle.std.specs.FinMap.{is_sorted}
use Rattle.std.specs.FinMap.Entries.{below_all}
use Rattle.sf_path.specs.Names.{Name, Path}
use Rattle.sf_path.specs.Order.{name_cmp, path_cmp}
use Rattle.sf_reply.specs.declared.reply.Entry.{Entry}
use Rattle.sf_call.specs.Attributes.{Object}
use Rattle.sf_call.specs.Tree.{Tree, IsOrderedTree, object_of, links, after_front, only_name}
use Rattle.sf_call.specs.Listings.{is_past, entry_of, listed_entry, listing, names_of}
use Rattle.sf_call.proofs.Laws.{and_first, and_second}
use Rattle.sf_call.proofs.Laws.{append-after_front, path_cmp-front}

named : (name : Name) (count : ℕ) (o : Option Object) (entry : Entry) → option_map (entry_of name count) o ≡ Some entry → name ≡ entry.filename
named name count None entry e = cc
named name count (Some object) entry e = let same : entry_of name count object ≡ entry = cc in ap (λ (x : Entry). x.filename) same

-- a listed entry has a name directly below the directory, after the last one
entry_name : (last : Option Name) (count : ℕ) (o : Option Object) (rest : Option Path) (entry : Entry)
    → option_and_then (λ name. option_map (entry_of name count) o) (option_and_then (λ name. cond (is_past last name) (Some name) None) (only_name rest)) ≡ Some entry
    → (rest ≡ Some (entry.filename ∷ [])) × (is_past last entry.filename ≡ true)
entry_name last count o (Some (n ∷ [])) entry e =
    elim (is_past last n) as (λ b. is_past last n ≡ b → option_and_then (λ name. option_map (entry_of name count) o) (cond b (Some n) None) ≡ Some entry
    → (Some (n ∷ []) ≡ Some (entry.filename ∷ [])) × (is_past last entry.filename ≡ true)) [
      | true ↦ λ past k. let same = named n count o entry k in (ap (λ (m : Name). Some (m ∷ [])) same, ap (is_past last) (sym same) ∙ past)
      | false ↦ λ past k. cc
    ] refl e
entry_name last count o _ entry e = cc

less : (n m : Name) → T (is_lt (path_cmp (n ∷ []) (m ∷ []))) → name_cmp n m ≡ Less
less n m t =
    elim (name_cmp n m) as (λ r. name_cmp n m ≡ r → r ≡ Less) [
      | Less ↦ λ _. refl
      | Equal ↦ λ same. absurd (rw same at t)
      | Greater ↦ λ same. absurd (rw same at t)
    ] refl

module _ (tree : Tree) (last : Option Name) (directory : Path) where
  abbrev pub listed : List (Path × ℕ) → List Entry
  listed names = filter_map (listed_entry tree directory last) names

  pub at_name : (e : Path × ℕ) (entry : Entry) → listed_entry tree directory last e ≡ Some entry → (e.0 ≡ directory ++ entry.filename ∷ []) × (is_past last entry.filename ≡ true)
  at_name e entry is =
      let there = entry_name last (links tree.names e.1) (object_of tree.objects e.1) (after_front directory e.0) entry is in
      (append-after_front directory e.0 (entry.filename ∷ []) there.0, there.1)

  -- a property of each entry's name holds for the listed names
  all_names : (P : Name → Type 0) (names : List (Path × ℕ)) (R : Path → Type 0) → AllByRecursion (λ e. R e.0) names
      → ((path : Path) (entry : Entry) → path ≡ directory ++ entry.filename ∷ [] → is_past last entry.filename ≡ true → R path → P entry.filename)
      → AllByRecursion P (names_of (listed names))
  all_names P [] R all more = tt
  all_names P (e ∷ es) R all more =
      elim (listed_entry tree directory last e) as (λ o. listed_entry tree directory last e ≡ o → AllByRecursion P (names_of (cons_option o (listed es)))) [
        | None ↦ λ _. all_names P es R all.1 more
        | Some entry ↦ λ is. let there = at_name e entry is in (more e.0 entry there.0 there.1 all.0, all_names P es R all.1 more)
      ] refl

  each_below : (path : Path) (names : List (Path × ℕ)) → T (below_all path_cmp path names) → AllByRecursion (λ e. T (is_lt (path_cmp path e.0))) names
  each_below path [] below = tt
  each_below path (e ∷ es) below = (and_first (is_lt (path_cmp path e.0)) (below_all path_cmp path es) below, each_below path es (and_second (is_lt (path_cmp path e.0)) (below_all path_cmp path es) below))

  pub in_order : (names : List (Path × ℕ)) → T (is_sorted path_cmp names) → IsStrictlySortedBy name_cmp (names_of (listed names))
  unfolding IsStrictlySortedBy
  in_order [] sorted = tt
  in_order (e ∷ es) sorted =
      let below = and_first (below_all path_cmp e.0 es) (is_sorted path_cmp es) sorted in
      let rest = in_order es (and_second (below_all path_cmp e.0 es) (is_sorted path_cmp es) sorted) in
      elim (listed_entry tree directory last e) as (λ o. listed_entry tree directory last e ≡ o → IsStrictlySortedBy name_cmp (names_of (cons_option o (listed es)))) [
        | None ↦ λ _. rest
        | Some entry ↦ λ is. (
          all_names (λ m. name_cmp entry.filename m ≡ Less) es (λ path. T (is_lt (path_cmp e.0 path))) (each_below e.0 es below)
              (λ path other at _ lt. less entry.filename other.filename
              (subst (λ r. T (is_lt r)) (path_cmp-front directory (entry.filename ∷ []) (other.filename ∷ []))
              (subst (λ (p : Path). T (is_lt (path_cmp p (directory ++ other.filename ∷ [])))) (at_name e entry is).0
              (subst (λ (p : Path). T (is_lt (path_cmp e.0 p))) at lt)))),
          rest,
        )
      ] refl

all_true : (names : List (Path × ℕ)) → AllByRecursion (λ e. Unit {0}) names
all_true [] = tt
all_true (e ∷ es) = (tt, all_true es)

all_taken : (P : Name → Type 0) (n : ℕ) (entries : List Entry) → AllByRecursion P (names_of entries) → AllByRecursion P (names_of (take n entries))
all_taken P (suc n) (e ∷ es) all = (all.0, all_taken P n es all.1)
all_taken P _ _ all = tt

order_taken : (n : ℕ) (entries : List Entry) → IsStrictlySortedBy name_cmp (names_of entries) → IsStrictlySortedBy name_cmp (names_of (take n entries))
unfolding IsStrictlySortedBy
order_taken (suc n) (e ∷ es) sorted = (all_taken (λ m. name_cmp e.filename m ≡ Less) n es sorted.0, order_taken n es sorted.1)
order_taken _ _ sorted = tt

pub listing_order : (tree : Tree) (last : Option Name) (directory : Path) → IsOrderedTree tree → IsStrictlySortedBy name_cmp (names_of (listing tree last directory))
listing_order tree last directory o = order_taken 32 (listed tree last directory tree.names) (in_order tree last directory tree.names o.names)

pub listing_past : (tree : Tree) (last : Option Name) (directory : Path) → AllByRecursion (λ name. is_past last name ≡ true) (names_of (listing tree last directory))
listing_past tree last directory =
    all_taken (λ name. is_past last name ≡ true) 32 (listed tree last directory tree.names)
    (all_names tree last directory (λ name. is_past last name ≡ true) tree.names (λ path. Unit {0}) (all_true tree.names) (λ path entry at past _. past))
