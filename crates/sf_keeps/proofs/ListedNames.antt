-- The names of a directory past a name, in the tree and in the store.
use Rattle.std.specs.Prelude.{◌≡◌, ℕ, true, false, cond, T, List, [], ◌∷◌, ◌++◌, filter_map, option_map, option_and_then, Option, Some, None, if◌then◌else◌, refl}
use Rattle.std.proofs.Common.{sym, ap, subst, ◌∙◌}
use Rattle.std.specs.List.{cons_option, AllByRecursion}
use Rattle.std.specs.declared.cmp.Ordering.{Ordering}
use Rattle.std.specs.declared.cmp.Ordering.TheVariants.{Less, Equal, Greater}
use Rattle.std.specs.Ordering.{is_lt, is_eq}
use Rattle.std.specs.Cmp.{IsTotalOrder, tied_itself}
use Rattle.std.specs.Map.{lookup}
use Rattle.std.proofs.lemmas.Map.Entries.{lookup-filter-keys}
use Rattle.std.specs.BTreeMap.{is_at}
use Rattle.std.specs.FinMap.{is_sorted}
use Rattle.std.specs.FinMap.Entries.{below_all}
use Rattle.sf_path.specs.Names.{Name, Path}
use Rattle.sf_path.specs.Order.{same_name, same_path, name_cmp, path_cmp}
use Rattle.sf_call.specs.Tree.{after_front, only_name, label_at}
use Rattle.sf_call.specs.Listings.{is_past, name_past}
use Rattle.sf_call.proofs.Laws.{same_path_is, same_name_is, same_name_itself, after_front-append, append-after_front, path_cmp-front, and_first, and_second, and_both, sorted_filtered}
use Rattle.sf_inode.specs.Nodes.{entries_past}
use Rattle.sf_keeps.proofs.Through.{found_as, some_there}
use Rattle.sf_keeps.proofs.Keyed.{found_on}
use Rattle.sf_keeps.proofs.SetsAt.{name_keys, apart}
use Rattle.sf_keeps.proofs.Shown.{same_path_itself}

-- ---- a property of all found entries holds for each entry
module _ {K X : Type 0} (R : K → K → Ordering) (o : IsTotalOrder R) (P : K × X → Type 0) where
  pub each_found : (es : List (K × X)) → T (is_sorted R es) → ((q : K) (v : X) → lookup (is_at (R q)) es ≡ Some v → P (q, v)) → AllByRecursion P es
  each_found [] sorted h = tt
  each_found (e ∷ es) sorted h = (
    h e.0 e.1 (ap (λ r. cond (is_eq r) (Some e.1) (lookup (is_at (R e.0)) es)) (tied_itself o e.0)),
    each_found es (and_second (below_all R e.0 es) (is_sorted R es) sorted) (λ q v l. h q v (found_on R o e es sorted q v l)),
  )

abbrev pub with_label : ℕ → Name → Name × ℕ
with_label label n = (n, label)

module _ (last : Option Name) where
  -- ---- a directory's entries
  pub past_sorted : (es : List (Name × ℕ)) → T (is_sorted name_cmp es) → T (is_sorted name_cmp (entries_past last es))
  past_sorted es h = sorted_filtered name_cmp (λ e. is_past last e.0) es h

  pub past_lookup : (es : List (Name × ℕ)) (q : Name) → lookup (same_name q) (entries_past last es) ≡ cond (is_past last q) (lookup (same_name q) es) None
  past_lookup es q = lookup-filter-keys (same_name q) (is_past last) (is_past last q) (λ k t. ap (is_past last) (sym (same_name_is q k t))) es

  -- ---- the tree's names directly below a path, with their inode numbers
  module _ (p : Path) where
    abbrev pub child : Path × ℕ → Option (Name × ℕ)
    child e = option_map (with_label e.1) (name_past p last e.0)

    abbrev past : Option Path → Option Name
    past rest = option_and_then (λ n. if is_past last n then Some n else None) (only_name rest)

    past_rest : (path rest : Path) (n : Name) → after_front p path ≡ Some rest → past (Some rest) ≡ Some n → path ≡ p ++ n ∷ []
    past_rest path [] n e f = cc
    past_rest path (m ∷ []) n e f =
        let same : m ≡ n = elim (is_past last m) as (λ b. (if b then Some m else None) ≡ Some n → m ≡ n) [ true ↦ λ g. cc | false ↦ λ g. cc ] f in
        append-after_front p path (m ∷ []) e ∙ ap (λ (z : Name). p ++ z ∷ []) same
    past_rest path (m ∷ k ∷ r) n e f = cc

    child_is : (e : Path × ℕ) (c : Name × ℕ) → child e ≡ Some c → e.0 ≡ p ++ c.0 ∷ []
    child_is e c f =
        let n = found_as (past (after_front p e.0)) f in
        let rest = some_there (after_front p e.0) (λ none. let g = ap past none in let h = n.1 in cc) in
        past_rest e.0 rest.0 n.0 rest.1 (ap past (sym rest.1) ∙ n.1) ∙ ap (λ (z : Name × ℕ). p ++ z.0 ∷ []) n.2

    child_at : (q : Name) (label : ℕ) → child (p ++ q ∷ [], label) ≡ cond (is_past last q) (Some (q, label)) None
    child_at q label =
        ap (λ (o : Option Path). option_map (with_label label) (past o)) (after_front-append p (q ∷ []))
        ∙ elim (is_past last q) as (λ b. option_map (with_label label) (if b then Some q else None) ≡ cond b (Some (q, label)) None) [ true ↦ refl | false ↦ refl ]

    pub child_found : (names : List (Path × ℕ)) (q : Name) → lookup (same_name q) (filter_map child names) ≡ cond (is_past last q) (label_at names (p ++ q ∷ [])) None
    child_found [] q = elim (is_past last q) as (λ b. ◌≡◌ {A = Option ℕ} None (cond b None None)) [ true ↦ refl | false ↦ refl ]
    child_found (e ∷ names) q =
        let rest = filter_map child names in
        elim (same_path (p ++ q ∷ []) e.0) as (λ b. same_path (p ++ q ∷ []) e.0 ≡ b → lookup (same_name q) (cons_option (child e) rest) ≡ cond (is_past last q) (cond b (Some e.1) (label_at names (p ++ q ∷ []))) None) [
          | true ↦ λ t.
              ap (λ (o : Option (Name × ℕ)). lookup (same_name q) (cons_option o rest)) (ap (λ (z : Path). child (z, e.1)) (sym (same_path_is (p ++ q ∷ []) e.0 t)) ∙ child_at q e.1)
              ∙ elim (is_past last q) as (λ b. is_past last q ≡ b → lookup (same_name q) (cons_option (cond b (Some (q, e.1)) None) rest) ≡ cond b (Some e.1) None) [
                | true ↦ λ _. ap (λ b. cond b (Some e.1) (lookup (same_name q) rest)) (same_name_itself q)
                | false ↦ λ f. child_found names q ∙ ap (λ b. cond b (label_at names (p ++ q ∷ [])) None) f
              ] refl
          | false ↦ λ t.
              elim (child e) as (λ o. child e ≡ o → lookup (same_name q) (cons_option o rest) ≡ lookup (same_name q) rest) [
                | None ↦ λ c. refl
                | Some x ↦ λ c. ap (λ b. cond b (Some x.1) (lookup (same_name q) rest)) (apart name_keys q x.0 (λ s.
                    let is : p ++ q ∷ [] ≡ e.0 = ap (λ (z : Name). p ++ z ∷ []) s ∙ sym (child_is e x c) in
                    let yes : same_path (p ++ q ∷ []) e.0 ≡ true = sym (ap (same_path (p ++ q ∷ [])) is) ∙ same_path_itself (p ++ q ∷ []) in cc))
              ] refl
              ∙ child_found names q
        ] refl

    -- they are in order
    less : (n m : Name) → T (is_lt (path_cmp (n ∷ []) (m ∷ []))) → T (is_lt (name_cmp n m))
    less n m t =
        elim (name_cmp n m) as (λ r. name_cmp n m ≡ r → T (is_lt r)) [
          | Less ↦ λ _. tt
          | Equal ↦ λ same. absurd (rw same at t)
          | Greater ↦ λ same. absurd (rw same at t)
        ] refl

    child_below : (path : Path) (n : Name) (names : List (Path × ℕ)) → path ≡ p ++ n ∷ [] → T (below_all path_cmp path names) → T (below_all name_cmp n (filter_map child names))
    child_below path n [] is below = tt
    child_below path n (e ∷ names) is below =
        let rest = child_below path n names is (and_second (is_lt (path_cmp path e.0)) (below_all path_cmp path names) below) in
        elim (child e) as (λ o. child e ≡ o → T (below_all name_cmp n (cons_option o (filter_map child names)))) [
          | None ↦ λ c. rest
          | Some x ↦ λ c. and_both (is_lt (name_cmp n x.0)) (below_all name_cmp n (filter_map child names))
              (less n x.0 (subst (λ r. T (is_lt r)) (path_cmp-front p (n ∷ []) (x.0 ∷ []))
              (subst (λ (z : Path). T (is_lt (path_cmp z (p ++ x.0 ∷ [])))) is
              (subst (λ (z : Path). T (is_lt (path_cmp path z))) (child_is e x c) (and_first (is_lt (path_cmp path e.0)) (below_all path_cmp path names) below))))) rest
        ] refl

    pub child_sorted : (names : List (Path × ℕ)) → T (is_sorted path_cmp names) → T (is_sorted name_cmp (filter_map child names))
    child_sorted [] sorted = tt
    child_sorted (e ∷ names) sorted =
        let rest = child_sorted names (and_second (below_all path_cmp e.0 names) (is_sorted path_cmp names) sorted) in
        elim (child e) as (λ o. child e ≡ o → T (is_sorted name_cmp (cons_option o (filter_map child names)))) [
          | None ↦ λ c. rest
          | Some x ↦ λ c. and_both (below_all name_cmp x.0 (filter_map child names)) (is_sorted name_cmp (filter_map child names))
              (child_below e.0 x.0 names (child_is e x c) (and_first (below_all path_cmp e.0 names) (is_sorted path_cmp names) sorted)) rest
        ] refl
