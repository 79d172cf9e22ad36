-- The number of links of an inode, before and after a change of the names.
use Rattle.std.proofs.Common.{◌≡◌, ◌≢◌, ℕ, ◌+◌, ◌<◌, ◌≤◌, nat_eq, Bool, true, false, cond, T, ◌&&◌, List, [], ◌∷◌, ◌++◌, filter, filter_map, Some, None, is_none, option_map, zero, suc, refl, sym, ap, ◌∙◌, eq-eqb, arith}
use Rattle.std.proofs.lemmas.Bool.{eqb-true}
use Rattle.std.specs.List.{sum_by, cons_option}
use Rattle.std.proofs.lemmas.List.Sums.{sum_by-cons}
use Rattle.std.specs.declared.cmp.Ordering.{Ordering}
use Rattle.std.specs.declared.cmp.Ordering.TheVariants.{Less, Equal, Greater}
use Rattle.std.specs.Ordering.{is_eq, match_ordering}
use Rattle.std.specs.Cmp.{tied_itself}
use Rattle.std.specs.Map.{lookup, remove_entry}
use Rattle.std.specs.BTreeMap.{insert_entry, is_at}
use Rattle.std.specs.FinMap.{is_sorted}
use Rattle.std.specs.FinMap.Entries.{below_all}
use Rattle.std.proofs.lemmas.List.{append-nil}
use Rattle.sf_path.specs.Names.{Name, Path}
use Rattle.sf_path.specs.Order.{path_cmp, path_total, same_path}
use Rattle.sf_call.specs.Tree.{label_at, links, after_front}
use Rattle.sf_call.specs.Moves.{is_outside, carried, with_entries, moved}
use Rattle.sf_call.proofs.Orders.{exact_paths, same_entries}
use Rattle.sf_call.proofs.Ordered.{and_first, and_second, sorted_filtered, sorted_removed, sorted_entries}
use Rattle.sf_call.proofs.LookUps.{none_below, other_removed, none_removed, removed_itself}
use Rattle.sf_call.proofs.MovedNames.{same_path_is, after_front-append, append-after_front, moved_to_new, moved_outside, moved_from_old}

-- ---- sums over the values of entries
module _ {K X : Type 0} (g : X → ℕ) where
  abbrev weight : K × X → ℕ
  weight e = g e.1

  -- after a removal
  pub sum_removed : (test : K → Bool) (es : List (K × X)) (v : X) → lookup test es ≡ Some v → sum_by weight es ≡ g v + sum_by weight (remove_entry test es)
  sum_removed test [] v = λ l. cc
  sum_removed test (e ∷ es) v =
      elim (test e.0) as (λ b. cond b (Some e.1) (lookup test es) ≡ Some v → sum_by weight (e ∷ es) ≡ g v + sum_by weight (cond b es (e ∷ remove_entry test es))) [
        | true ↦ λ l. let w : e.1 ≡ v = cc in sum_by-cons weight e es ∙ ap (λ x. g x + sum_by weight es) w
        | false ↦ λ l.
            let h = sum_removed test es v l in
            let a = sum_by-cons weight e es in
            let b = sum_by-cons weight e (remove_entry test es) in omega (arith, h, a, b)
      ]

  -- of an optional entry
  pub sum_removed_less : (test : K → Bool) (es : List (K × X)) → sum_by weight (remove_entry test es) ≤ sum_by weight es
  sum_removed_less test [] = omega arith
  sum_removed_less test (e ∷ es) =
      elim (test e.0) as (λ b. sum_by weight (cond b es (e ∷ remove_entry test es)) ≤ sum_by weight (e ∷ es)) [
        | true ↦ omega (arith, sum_by-cons weight e es)
        | false ↦ omega (arith, sum_removed_less test es, sum_by-cons weight e es, sum_by-cons weight e (remove_entry test es))
      ]

  -- of a new entry
  pub sum_inserted : (R : K → K → Ordering) (es : List (K × X)) (k : K) (v : X) → lookup (is_at (R k)) es ≡ None → sum_by weight (insert_entry R es k v) ≡ g v + sum_by weight es
  sum_inserted R [] k v = λ l. sum_by-cons weight (k, v) []
  sum_inserted R (e ∷ es) k v =
      elim (R k e.0) as (λ r. cond (is_eq r) (Some e.1) (lookup (is_at (R k)) es) ≡ None → sum_by weight (match_ordering r ((k, v) ∷ e ∷ es) ((e.0, v) ∷ es) (e ∷ insert_entry R es k v)) ≡ g v + sum_by weight (e ∷ es)) [
        | Less ↦ λ l. sum_by-cons weight (k, v) (e ∷ es)
        | Equal ↦ λ l. cc
        | Greater ↦ λ l.
            let h = sum_inserted R es k v l in
            let a = sum_by-cons weight e es in
            let b = sum_by-cons weight e (insert_entry R es k v) in omega (arith, h, a, b)
      ]

  -- of an inserted or a replaced entry
  pub sum_put_less : (R : K → K → Ordering) (es : List (K × X)) (k : K) (v : X) → sum_by weight (insert_entry R es k v) ≤ g v + sum_by weight es
  sum_put_less R [] k v = omega (arith, sum_by-cons weight (k, v) [])
  sum_put_less R (e ∷ es) k v =
      elim (R k e.0) as (λ r. sum_by weight (match_ordering r ((k, v) ∷ e ∷ es) ((e.0, v) ∷ es) (e ∷ insert_entry R es k v)) ≤ g v + sum_by weight (e ∷ es)) [
        | Less ↦ omega (arith, sum_by-cons weight (k, v) (e ∷ es))
        | Equal ↦ omega (arith, sum_by-cons weight (e.0, v) es, sum_by-cons weight e es)
        | Greater ↦ omega (arith, sum_put_less R es k v, sum_by-cons weight e es, sum_by-cons weight e (insert_entry R es k v))
      ]

-- 1 for a path of the inode number, 0 for another
abbrev pub is_link : ℕ → ℕ → ℕ
is_link label l = cond (nat_eq l label) 1 0

pub is_link_itself : (label : ℕ) → is_link label label ≡ 1
is_link_itself label = ap (λ b. cond b 1 0) (eq-eqb label label refl)

pub is_link_other : (label l : ℕ) → l ≢ label → is_link label l ≡ 0
is_link_other label l other =
    elim (nat_eq l label) as (λ b. nat_eq l label ≡ b → ◌≡◌ {A = ℕ} (cond b 1 0) 0) [
      | true ↦ λ t. absurd (other (eqb-true l label t))
      | false ↦ λ t. refl
    ] refl

-- if no entry is found, none is removed
none_gone : {K X : Type 0} (test : K → Bool) (es : List (K × X)) → lookup test es ≡ None → remove_entry test es ≡ es
none_gone test [] none = refl
none_gone test (e ∷ es) none =
    elim (test e.0) as (λ b. cond b (Some e.1) (lookup test es) ≡ None → cond b es (e ∷ remove_entry test es) ≡ e ∷ es) [
      | true ↦ λ k. cc
      | false ↦ λ k. ap (λ fs. e ∷ fs) (none_gone test es k)
    ] none

module _ (names : List (Path × ℕ)) (label : ℕ) where
  -- an absent path
  pub links_same : (path : Path) → label_at names path ≡ None → links (remove_entry (is_at (path_cmp path)) names) label ≡ links names label
  links_same path none = ap (λ (ns : List (Path × ℕ)). links ns label) (none_gone (is_at (path_cmp path)) names none)

  -- one more path
  pub links_more : (path : Path) (l : ℕ) → label_at names path ≡ None → links (insert_entry path_cmp names path l) label ≡ is_link label l + links names label
  links_more path l free = sum_inserted (is_link label) path_cmp names path l free

  -- one path fewer
  pub links_less : (path : Path) (l : ℕ) → label_at names path ≡ Some l → links names label ≡ is_link label l + links (remove_entry (is_at (path_cmp path)) names) label
  links_less path l there = sum_removed (is_link label) (is_at (path_cmp path)) names l there

  pub links_fewer : (path : Path) → links (remove_entry (is_at (path_cmp path)) names) label ≤ links names label
  links_fewer path = sum_removed_less (is_link label) (is_at (path_cmp path)) names

  -- ---- a move: at most the links before
  entries_most : (es : List (Path × ℕ)) → links (with_entries names es) label ≤ links es label + links names label
  entries_most [] = omega arith
  entries_most (e ∷ es) =
      omega (arith, sum_put_less (is_link label) path_cmp (with_entries names es) e.0 e.1, entries_most es, sum_by-cons (λ (x : Path × ℕ). is_link label x.1) e es)

-- unmoved entries and moved ones differ
two_parts : (names : List (Path × ℕ)) (label : ℕ) (old new : Path) → links (filter (λ e. is_outside old new e.0) names) label + links (filter_map (carried old new) names) label ≤ links names label
two_parts [] label old new = omega arith
two_parts (e ∷ es) label old new =
    let rest = two_parts es label old new in
    let whole = sum_by-cons (λ (x : Path × ℕ). is_link label x.1) e es in
    elim (after_front old e.0) as (λ f. links (cond (is_none f && is_none (after_front new e.0)) (e ∷ filter (λ x. is_outside old new x.0) es) (filter (λ x. is_outside old new x.0) es)) label
    + links (cons_option (option_map (λ r. (new ++ r, e.1)) f) (filter_map (carried old new) es)) label ≤ links (e ∷ es) label) [
      | Some r ↦ omega (arith, rest, whole, sum_by-cons (λ (x : Path × ℕ). is_link label x.1) (new ++ r, e.1) (filter_map (carried old new) es))
      | None ↦ elim (is_none (after_front new e.0)) as (λ b. links (cond b (e ∷ filter (λ x. is_outside old new x.0) es) (filter (λ x. is_outside old new x.0) es)) label + links (filter_map (carried old new) es) label ≤ links (e ∷ es) label) [
        | true ↦ omega (arith, rest, whole, sum_by-cons (λ (x : Path × ℕ). is_link label x.1) e (filter (λ x. is_outside old new x.0) es))
        | false ↦ omega (arith, rest, whole)
      ]
    ]

pub links_moved_less : (names : List (Path × ℕ)) (label : ℕ) (old new : Path) → links (moved names old new) label ≤ links names label
links_moved_less names label old new =
    omega (arith, entries_most (filter (λ e. is_outside old new e.0) names) label (filter_map (carried old new) names), two_parts names label old new)

-- ---- a path with an inode number
pub named_linked : (names : List (Path × ℕ)) (path : Path) (label : ℕ) → label_at names path ≡ Some label → 0 < links names label
named_linked names path label there = omega (arith, links_less names label path label there, is_link_itself label)

pub linked_path : (names : List (Path × ℕ)) (label : ℕ) → T (is_sorted path_cmp names) → 0 < links names label → (path : Path) × (label_at names path ≡ Some label)
linked_path [] label sorted some = absurd (omega (arith, some))
linked_path (e ∷ es) label sorted some =
    elim (nat_eq e.1 label) as (λ b. nat_eq e.1 label ≡ b → (path : Path) × (label_at (e ∷ es) path ≡ Some label)) [
      | true ↦ λ t. (e.0, ap (λ b. cond b (Some e.1) (label_at es e.0)) (here e.0) ∙ ap Some (eqb-true e.1 label t))
      | false ↦ λ f.
          let none : is_link label e.1 ≡ 0 = ap (λ b. cond b 1 0) f in
          let fewer : 0 < links es label = omega (arith, some, none, sum_by-cons (λ (x : Path × ℕ). is_link label x.1) e es) in
          let rest = linked_path es label (and_second (below_all path_cmp e.0 es) (is_sorted path_cmp es) sorted) fewer in
          (rest.0, ap (λ b. cond b (Some e.1) (label_at es rest.0)) (apart rest.0 rest.1) ∙ rest.1)
    ] refl where
      here : (p : Path) → same_path p p ≡ true
      here p = ap is_eq (tied_itself path_total p)

      apart : (p : Path) → label_at es p ≡ Some label → same_path p e.0 ≡ false
      apart p there = elim (same_path p e.0) as (λ b. same_path p e.0 ≡ b → b ≡ false) [
        | true ↦ λ t.
            let none : label_at es e.0 ≡ None = none_below path_cmp exact_paths e.0 es (and_first (below_all path_cmp e.0 es) (is_sorted path_cmp es) sorted) in
            let some : label_at es e.0 ≡ Some label = ap (label_at es) (sym (same_path_is p e.0 t)) ∙ there in cc
        | false ↦ λ t. refl
      ] refl

pub none_linked : (names : List (Path × ℕ)) (label : ℕ) → T (is_sorted path_cmp names) → ((path : Path) → label_at names path ≢ Some label) → links names label ≡ 0
none_linked names label sorted none =
    elim (nat_eq (links names label) 0) as (λ b. nat_eq (links names label) 0 ≡ b → links names label ≡ 0) [
      | true ↦ λ t. eqb-true (links names label) 0 t
      | false ↦ λ f. let there = linked_path names label sorted (above (links names label) f) in absurd (none there.0 there.1)
    ] refl where
      above : (n : ℕ) → nat_eq n 0 ≡ false → 0 < n
      above zero f = cc
      above (suc n) f = omega arith

-- two paths of an inode with one link are equal
pub only_path : (names : List (Path × ℕ)) (label : ℕ) (p q : Path) → links names label ≡ 1 → label_at names p ≡ Some label → label_at names q ≡ Some label → p ≡ q
only_path names label p q one at_p at_q =
    elim (same_path q p) as (λ b. same_path q p ≡ b → p ≡ q) [
      | true ↦ λ t. sym (same_path_is q p t)
      | false ↦ λ f.
          let other : q ≢ p = λ same. let tied : same_path q p ≡ true = ap (λ (z : Path). same_path z p) same ∙ ap is_eq (tied_itself path_total p) in cc in
          let still : label_at (remove_entry (is_at (path_cmp p)) names) q ≡ Some label = other_removed path_cmp exact_paths p q names other ∙ at_q in
          absurd (omega (arith, one, links_less names label p label at_p, is_link_itself label, named_linked (remove_entry (is_at (path_cmp p)) names) q label still))
    ] refl

-- ---- a move: the links without the replaced one
module _ (names : List (Path × ℕ)) (old new : Path) (sorted : T (is_sorted path_cmp names)) (not_inside : after_front old new ≡ None)
    (bare : (name : Name) (rest : Path) → label_at names (new ++ name ∷ rest) ≡ None) where
  abbrev without : List (Path × ℕ)
  without = remove_entry (is_at (path_cmp new)) names

  sorted_without : T (is_sorted path_cmp without)
  sorted_without = sorted_removed path_cmp (is_at (path_cmp new)) names sorted

  sorted_moved : (ns : List (Path × ℕ)) (from to : Path) → T (is_sorted path_cmp ns) → T (is_sorted path_cmp (moved ns from to))
  sorted_moved ns from to h = sorted_entries _ (filter_map (carried from to) ns) (sorted_filtered path_cmp (λ e. is_outside from to e.0) ns h)

  other_without : (q : Path) → q ≢ new → label_at without q ≡ label_at names q
  other_without q other = other_removed path_cmp exact_paths new q names other

  not_new : (q : Path) → after_front new q ≡ None → q ≢ new
  not_new q none same =
      let some : Some [] ≡ None = sym (after_front-append new []) ∙ ap (after_front new) (append-nil new ∙ sym same) ∙ none in cc

  behind_old : (r : Path) → old ++ r ≢ new
  behind_old r same = let some : Some r ≡ None = sym (after_front-append old r) ∙ ap (after_front old) same ∙ not_inside in cc

  moved_alike : (q : Path) → label_at (moved names old new) q ≡ label_at (moved without old new) q
  moved_alike q = elim (after_front new q) as (λ o. after_front new q ≡ o → label_at (moved names old new) q ≡ label_at (moved without old new) q) [
    | Some r ↦ λ e.
        let at : q ≡ new ++ r = append-after_front new q r e in
        ap (label_at (moved names old new)) at ∙ moved_to_new names old new r ∙ sym (other_without (old ++ r) (behind_old r))
        ∙ sym (moved_to_new without old new r) ∙ sym (ap (label_at (moved without old new)) at)
    | None ↦ λ e. elim (after_front old q) as (λ o. after_front old q ≡ o → label_at (moved names old new) q ≡ label_at (moved without old new) q) [
      | Some r ↦ λ f. moved_from_old names old new q r f e ∙ sym (moved_from_old without old new q r f e)
      | None ↦ λ f. moved_outside names old new q f e ∙ sym (other_without q (not_new q e)) ∙ sym (moved_outside without old new q f e)
    ] refl
  ] refl

  none_new : (r : Path) → label_at without (new ++ r) ≡ None
  none_new [] = ap (label_at without) (append-nil new) ∙ removed_itself path_cmp exact_paths new names sorted
  none_new (name ∷ rest) = none_removed (is_at (path_cmp (new ++ name ∷ rest))) (is_at (path_cmp new)) names (bare name rest)

  moved_back : (q : Path) → label_at (moved (moved without old new) new old) q ≡ label_at without q
  moved_back q = elim (after_front old q) as (λ o. after_front old q ≡ o → label_at (moved (moved without old new) new old) q ≡ label_at without q) [
    | Some r ↦ λ e.
        let at : q ≡ old ++ r = append-after_front old q r e in
        ap (label_at (moved (moved without old new) new old)) at ∙ moved_to_new (moved without old new) new old r ∙ moved_to_new without old new r ∙ sym (ap (label_at without) at)
    | None ↦ λ e. elim (after_front new q) as (λ o. after_front new q ≡ o → label_at (moved (moved without old new) new old) q ≡ label_at without q) [
      | Some r ↦ λ f.
          moved_from_old (moved without old new) new old q r f e ∙ sym (none_new r) ∙ sym (ap (label_at without) (append-after_front new q r f))
      | None ↦ λ f. moved_outside (moved without old new) new old q f e ∙ moved_outside without old new q e f
    ] refl
  ] refl

  pub links_moved : (label : ℕ) → links (moved names old new) label ≡ links without label
  links_moved label =
      let there = same_entries path_total exact_paths (moved names old new) (moved without old new) (sorted_moved names old new sorted) (sorted_moved without old new sorted_without) moved_alike in
      let back = same_entries path_total exact_paths (moved (moved without old new) new old) without (sorted_moved (moved without old new) new old (sorted_moved without old new sorted_without)) sorted_without moved_back in
      let same : links (moved names old new) label ≡ links (moved without old new) label = ap (λ (ns : List (Path × ℕ)). links ns label) there in
      let same_back : links (moved (moved without old new) new old) label ≡ links without label = ap (λ (ns : List (Path × ℕ)). links ns label) back in
      omega (arith, same, same_back, links_moved_less without label old new, links_moved_less (moved without old new) label new old)
