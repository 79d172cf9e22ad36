-- The inode number at each path after a move.
use Rattle.std.proofs.Common.{◌≡◌, ◌<◌, ◌⊎◌, ℕ, zero, suc, Bool, true, false, cond, ◌&&◌, List, [], ◌∷◌, ◌++◌, filter, filter_map, length, take, option_map, is_none, Option, Some, None, refl, sym, ap, ◌∙◌, inl, inr, arith}
use Rattle.std.specs.List.{cons_option}
use Rattle.std.specs.Option.{option_or}
use Rattle.std.specs.Ordering.{is_eq, match_ordering}
use Rattle.std.specs.declared.cmp.Ordering.{Ordering}
use Rattle.std.specs.declared.cmp.Ordering.TheVariants.{Less, Equal, Greater}
use Rattle.std.specs.Cmp.{tied_itself, eq_by_cmp_equiv}
use Rattle.std.specs.BTreeMap.{insert_entry, is_at}
use Rattle.std.specs.FinMap.{find, put}
use Rattle.std.specs.FinMap.Entries.{by_order, find-put}
use Rattle.std.proofs.lemmas.Map.Entries.{lookup-filter-keys}
use Rattle.sf_path.specs.Names.{Name, Path}
use Rattle.sf_path.specs.Order.{name_cmp, path_cmp, same_name, same_path, name_total, path_total}
use Rattle.sf_call.specs.Tree.{after_front, label_at}
use Rattle.sf_call.specs.Moves.{with_entries, carried, is_outside, moved}
use Rattle.sf_call.proofs.Orders.{exact_names, exact_paths}

pub is_equal : (r : Ordering) → is_eq r ≡ true → r ≡ Equal
is_equal Less e = cc
is_equal Equal e = refl
is_equal Greater e = cc

-- the equality test for paths is correct
pub same_path_is : (p q : Path) → same_path p q ≡ true → p ≡ q
same_path_is p q e = exact_paths p q (is_equal (path_cmp p q) e)

pub same_name_is : (n m : Name) → same_name n m ≡ true → n ≡ m
same_name_is n m e = exact_names n m (is_equal (name_cmp n m) e)

pub same_name_itself : (n : Name) → same_name n n ≡ true
same_name_itself n = ap is_eq (tied_itself name_total n)

-- the suffix of p ++ r after p
pub after_front-append : (p r : Path) → after_front p (p ++ r) ≡ Some r
after_front-append [] r = refl
after_front-append (n ∷ p) r = ap (λ b. cond b (after_front p (p ++ r)) None) (same_name_itself n) ∙ after_front-append p r

-- a path with a prefix is the prefix and the suffix
pub append-after_front : (p q r : Path) → after_front p q ≡ Some r → q ≡ p ++ r
append-after_front [] q r = λ e. cc
append-after_front (n ∷ p) [] r = λ e. cc
append-after_front (n ∷ p) (m ∷ q) r =
    elim (same_name n m) as (λ b. same_name n m ≡ b → cond b (after_front p q) None ≡ Some r → m ∷ q ≡ n ∷ (p ++ r)) [
      | true ↦ λ t e. let head : n ≡ m = same_name_is n m t in let tail : q ≡ p ++ r = append-after_front p q r e in cc
      | false ↦ λ t e. cc
    ] refl

pub path_cmp-front : (p r s : Path) → path_cmp (p ++ r) (p ++ s) ≡ path_cmp r s
path_cmp-front [] r s = refl
path_cmp-front (n ∷ p) r s = rw (tied_itself name_total n) (path_cmp-front p r s)

put_is : (es : List (Path × ℕ)) (k : Path) (v : ℕ) → insert_entry path_cmp es k v ≡ put path_cmp k v es
put_is [] k v = refl
put_is (e ∷ es) k v =
    elim (path_cmp k e.0) as (λ r. match_ordering r ((k, v) ∷ e ∷ es) ((e.0, v) ∷ es) (e ∷ insert_entry path_cmp es k v) ≡ by_order r ((k, v) ∷ e ∷ es) ((e.0, v) ∷ es) (e ∷ put path_cmp k v es)) [
      | Less ↦ refl
      | Equal ↦ refl
      | Greater ↦ ap (λ (rest : List (Path × ℕ)). e ∷ rest) (put_is es k v)
    ]

find_is : (es : List (Path × ℕ)) (q : Path) → label_at es q ≡ find path_cmp q es
find_is [] q = refl
find_is (e ∷ es) q = ap (cond (same_path q e.0) (Some e.1)) (find_is es q)

-- the value at q after an insertion
pub lookup-insert_entry : (es : List (Path × ℕ)) (k : Path) (v : ℕ) (q : Path) → label_at (insert_entry path_cmp es k v) q ≡ cond (same_path q k) (Some v) (label_at es q)
lookup-insert_entry es k v q =
    ap (λ (l : List (Path × ℕ)). label_at l q) (put_is es k v) ∙ find_is (put path_cmp k v es) q ∙ find-put path_cmp path_total q k v es
    ∙ ap (cond (same_path q k) (Some v)) (sym (find_is es q))

or_cond : (b : Bool) (v : ℕ) (x y : Option ℕ) → cond b (Some v) (option_or x y) ≡ option_or (cond b (Some v) x) y
or_cond true v x y = refl
or_cond false v x y = refl

-- inserted entries hide the older ones
pub lookup-with_entries : (names es : List (Path × ℕ)) (q : Path) → label_at (with_entries names es) q ≡ option_or (label_at es q) (label_at names q)
lookup-with_entries names [] q = refl
lookup-with_entries names (e ∷ es) q =
    lookup-insert_entry (with_entries names es) e.0 e.1 q ∙ ap (cond (same_path q e.0) (Some e.1)) (lookup-with_entries names es q)
    ∙ or_cond (same_path q e.0) e.1 (label_at es q) (label_at names q)

-- a path with another prefix is another path
other_path : (p q r : Path) → after_front p q ≡ None → same_path (p ++ r) q ≡ false
other_path p q r none =
    elim (same_path (p ++ r) q) as (λ b. same_path (p ++ r) q ≡ b → b ≡ false) [
      | true ↦ λ t. let e : p ++ r ≡ q = same_path_is (p ++ r) q t in let some = after_front-append p r in let same = ap (after_front p) e in cc
      | false ↦ λ t. refl
    ] refl

other_path_back : (p q r : Path) → after_front p q ≡ None → same_path q (p ++ r) ≡ false
other_path_back p q r none = (eq_by_cmp_equiv path_total).symm q (p ++ r) ∙ other_path p q r none

-- a lookup of the new path finds the entry of the old one
abbrev pub at_old : List (Path × ℕ) → Path → Option Path → Option ℕ
at_old names old None = None
at_old names old (Some r) = label_at names (old ++ r)

-- among the moved entries, new ++ r has the value of old ++ r
pub lookup-carried : (names : List (Path × ℕ)) (old new q : Path) → label_at (filter_map (carried old new) names) q ≡ at_old names old (after_front new q)
lookup-carried [] old new q = elim (after_front new q) as (λ f. None ≡ at_old [] old f) [ None ↦ refl | Some r ↦ refl ]
lookup-carried (e ∷ es) old new q =
    let rest = lookup-carried es old new q in
    elim (after_front old e.0) as (λ f. after_front old e.0 ≡ f → label_at (cons_option (option_map (λ r. (new ++ r, e.1)) f) (filter_map (carried old new) es)) q ≡ at_old (e ∷ es) old (after_front new q)) [
      | None ↦ λ gone. rest ∙ elim (after_front new q) as (λ g. at_old es old g ≡ at_old (e ∷ es) old g) [
        | None ↦ refl
        | Some r ↦ ap (λ b. cond b (Some e.1) (label_at es (old ++ r))) (sym (other_path old e.0 r gone))
      ]
      | Some s ↦ λ there. elim (after_front new q) as (λ g. after_front new q ≡ g → label_at (filter_map (carried old new) es) q ≡ at_old es old g → cond (same_path q (new ++ s)) (Some e.1) (label_at (filter_map (carried old new) es) q) ≡ at_old (e ∷ es) old g) [
        | None ↦ λ none r. ap (λ b. cond b (Some e.1) (label_at (filter_map (carried old new) es) q)) (other_path_back new q s none) ∙ r
        | Some t ↦ λ some r.
            let at_q : q ≡ new ++ t = append-after_front new q t some in
            let at_e : e.0 ≡ old ++ s = append-after_front old e.0 s there in
            let tests : same_path q (new ++ s) ≡ same_path (old ++ t) e.0 =
            ap (λ (p : Path). same_path p (new ++ s)) at_q ∙ ap is_eq (path_cmp-front new t s ∙ sym (path_cmp-front old t s)) ∙ ap (same_path (old ++ t)) (sym at_e) in
            ap (λ b. cond b (Some e.1) (label_at (filter_map (carried old new) es) q)) tests ∙ ap (cond (same_path (old ++ t) e.0) (Some e.1)) r
      ] refl rest
    ] refl

alone : (x : Option ℕ) (b : Bool) (y : Option ℕ) → option_or x (cond (b && false) y None) ≡ x
alone None true y = refl
alone None false y = refl
alone (Some n) b y = refl

-- the inode number at each path after a move
abbrev pub label_after_move : List (Path × ℕ) → Path → Path → Path → Option ℕ
label_after_move names old new q = option_or (at_old names old (after_front new q)) (cond (is_outside old new q) (label_at names q) None)

pub lookup-moved : (names : List (Path × ℕ)) (old new q : Path) → label_at (moved names old new) q ≡ label_after_move names old new q
lookup-moved names old new q =
    lookup-with_entries (filter (λ e. is_outside old new e.0) names) (filter_map (carried old new) names) q
    ∙ ap (λ (x : Option ℕ). option_or x (label_at (filter (λ e. is_outside old new e.0) names) q)) (lookup-carried names old new q)
    ∙ ap (option_or (at_old names old (after_front new q)))
    (lookup-filter-keys (is_at (path_cmp q)) (is_outside old new) (is_outside old new q) (λ k t. ap (is_outside old new) (sym (same_path_is q k t))) names)

-- new ++ rest has what old ++ rest had
pub moved_to_new : (names : List (Path × ℕ)) (old new rest : Path) → label_at (moved names old new) (new ++ rest) ≡ label_at names (old ++ rest)
moved_to_new names old new rest =
    lookup-moved names old new (new ++ rest)
    ∙ ap (λ (f : Option Path). option_or (at_old names old f) (cond (is_none (after_front old (new ++ rest)) && is_none f) (label_at names (new ++ rest)) None)) (after_front-append new rest)
    ∙ alone (label_at names (old ++ rest)) (is_none (after_front old (new ++ rest))) (label_at names (new ++ rest))

-- a path with neither prefix keeps its inode number
pub moved_outside : (names : List (Path × ℕ)) (old new path : Path) → after_front old path ≡ None → after_front new path ≡ None → label_at (moved names old new) path ≡ label_at names path
moved_outside names old new path none_old none_new =
    lookup-moved names old new path
    ∙ ap (λ (f : Option Path). option_or (at_old names old f) (cond (is_none (after_front old path) && is_none f) (label_at names path) None)) none_new
    ∙ ap (λ (f : Option Path). cond (is_none f && true) (label_at names path) None) none_old

-- and no path is left at old
pub moved_from_old : (names : List (Path × ℕ)) (old new path rest : Path) → after_front old path ≡ Some rest → after_front new path ≡ None → label_at (moved names old new) path ≡ None
moved_from_old names old new path rest some_old none_new =
    lookup-moved names old new path
    ∙ ap (λ (f : Option Path). option_or (at_old names old f) (cond (is_none (after_front old path) && is_none f) (label_at names path) None)) none_new
    ∙ ap (λ (f : Option Path). cond (is_none f && true) (label_at names path) None) some_old

-- the path before a move of an inode number after it: below old for a path at or below new, and
-- otherwise the same path
abbrev pub IsCarried : List (Path × ℕ) → Path → Path → Path → ℕ → Type 0
IsCarried names old new q label = (rest : Path) × (q ≡ new ++ rest) × (label_at names (old ++ rest) ≡ Some label)

abbrev pub IsUntouched : List (Path × ℕ) → Path → Path → Path → ℕ → Type 0
IsUntouched names old new q label = (after_front old q ≡ None) × (after_front new q ≡ None) × (label_at names q ≡ Some label)

pub came_from : (names : List (Path × ℕ)) (old new q : Path) (label : ℕ) → label_at (moved names old new) q ≡ Some label
    → IsCarried names old new q label ⊎ IsUntouched names old new q label
came_from names old new q label e =
    elim (after_front new q) as (λ f. after_front new q ≡ f → IsCarried names old new q label ⊎ IsUntouched names old new q label) [
      | Some r ↦ λ some. let is : q ≡ new ++ r = append-after_front new q r some in
          inl (r, is, sym (moved_to_new names old new r) ∙ ap (label_at (moved names old new)) (sym is) ∙ e)
      | None ↦ λ none_new. elim (after_front old q) as (λ f. after_front old q ≡ f → IsCarried names old new q label ⊎ IsUntouched names old new q label) [
        | Some r ↦ λ some_old. let gone : label_at (moved names old new) q ≡ None = moved_from_old names old new q r some_old none_new in cc
        | None ↦ λ none_old. inr (none_old, none_new, sym (moved_outside names old new q none_old none_new) ∙ e)
      ] refl
    ] refl

-- ---- prefixes of a path
-- a path without the prefix p has no prefix with it
pub no_front : (p q : Path) (n : ℕ) → after_front p q ≡ None → after_front p (take n q) ≡ None
no_front [] q n none = cc
no_front (x ∷ p) [] zero none = refl
no_front (x ∷ p) [] (suc n) none = refl
no_front (x ∷ p) (y ∷ q) zero none = refl
no_front (x ∷ p) (y ∷ q) (suc n) none =
    elim (same_name x y) as (λ b. cond b (after_front p q) None ≡ None → cond b (after_front p (take n q)) None ≡ None) [
      | true ↦ λ k. no_front p q n k
      | false ↦ λ k. refl
    ] none

-- no path is a prefix of its proper prefixes
pub no_proper_front : (p : Path) (n : ℕ) → n < length p → after_front p (take n p) ≡ None
no_proper_front [] n lt = absurd (omega arith)
no_proper_front (x ∷ p) zero lt = refl
no_proper_front (x ∷ p) (suc n) lt =
    let short : n < length p = omega arith in
    ap (λ b. cond b (after_front p (take n p)) None) (same_name_itself x) ∙ no_proper_front p n short

-- the proper prefixes of p ++ r are those of p, and p followed by those of r
pub fronts_append : (P : Path → Type 0) (p r : Path) → ((n : ℕ) → n < length p → P (take n p)) → ((n : ℕ) → n < length r → P (p ++ take n r)) → (n : ℕ) → n < length (p ++ r) → P (take n (p ++ r))
fronts_append P [] r first second n lt = second n lt
fronts_append P (x ∷ p) r first second zero lt = first zero (omega arith)
fronts_append P (x ∷ p) r first second (suc n) lt =
    fronts_append (λ q. P (x ∷ q)) p r (λ m short. first (suc m) (omega arith)) second n (omega arith)

pub fronts_behind : (P : Path → Type 0) (p r : Path) → ((n : ℕ) → n < length (p ++ r) → P (take n (p ++ r))) → (n : ℕ) → n < length r → P (p ++ take n r)
fronts_behind P [] r all n lt = all n lt
fronts_behind P (x ∷ p) r all n lt = fronts_behind (λ q. P (x ∷ q)) p r (λ m short. all (suc m) (omega arith)) n lt
