-- Facts about paths that a call has passed.
use Rattle.std.specs.Prelude.{◌≡◌, ◌<◌, ◌≤◌, ◌+◌, ◌-◌, ℕ, zero, suc, nat_le, Bool, true, false, cond, ◌&&◌, ◌||◌, List, [], ◌∷◌, ◌++◌, length, take, drop, ◌↔◌, IsTrue, Option, Some, None, IsSome, is_some, refl}
use Rattle.std.proofs.Common.{sym, ap, ◌∙◌, inl, inr, arith, append-nil}
use Rattle.std.proofs.lemmas.Bool.{leb-true, le-leb}
use Rattle.std.proofs.lemmas.List.{length-append, append_assoc, take-append-drop}
use Rattle.std.proofs.Math.Seq.{take-append-add}
use Rattle.sf_path.specs.Names.{Name, Path, BeginsWith}
use Rattle.sf_path.specs.Order.{same_name}
use Rattle.sf_call.specs.declared.call.Reached.{Reached}
use Rattle.sf_call.specs.Tree.{after_front}
use Rattle.sf_call.proofs.Laws.{append-after_front, after_front-append, both_true}
use Rattle.sf_coupling.specs.Fronts.{IsPrefix}
use Rattle.sf_coupling.specs.Walks.{HeldPath, Holds}
use Rattle.sf_coupling.proofs.Laws.{fronts_meet}
use Rattle.sf_call.specs.Routes.{Route}
use Rattle.sf_walk.specs.Routes.{held_paths_on}
use Rattle.sf_call.specs.Routes.Route.{NoPath, Along, Between}
use Rattle.sf_core.specs.Progress.{has_walked, are_past}
use Rattle.sf_core.proofs.Maps.{not_true, no_value, there_is}

-- ---- passing a path
-- a prefix of the walked names is a prefix of the path
front_taken : (old path : Path) (w : ℕ) (rest : Path) → after_front old (take w path) ≡ Some rest → (length old ≤ w) × (is_some (after_front old path) ≡ true)
front_taken [] path w rest e = (omega arith, refl)
front_taken (n ∷ old) (m ∷ path) (suc w) rest e =
    elim (same_name n m) as (λ b. cond b (after_front old (take w path)) None ≡ Some rest → (length (n ∷ old) ≤ suc w) × (is_some (cond b (after_front old path) None) ≡ true)) [
      | true ↦ λ f. let r = front_taken old path w rest f in let a = r.0 in (omega (arith, a), r.1)
      | false ↦ λ f. cc
    ] e
front_taken (n ∷ old) [] zero rest e = cc
front_taken _ _ _ rest e = cc

-- a path that hasn't passed another is neither at it nor below it
pub stands_aside : (old path : Path) (w : ℕ) → has_walked path w old ≡ false → after_front old (take w path) ≡ None
stands_aside old path w never =
    no_value (after_front old (take w path)) (λ rest e.
    let r = front_taken old path w rest e in
    let y = sym never ∙ ap (λ b. b && is_some (after_front old path)) (le-leb (length old) w r.0) ∙ r.1 in cc)

-- what has passed a path has passed it after more names
pub past_on : (old path : Path) (v w : ℕ) → v ≤ w → has_walked path v old ≡ true → has_walked path w old ≡ true
past_on old path v w more past =
    let both = both_true (nat_le (length old) v) (is_some (after_front old path)) past in
    let many = leb-true (length old) v both.0 in
    ap (λ b. b && is_some (after_front old path)) (le-leb (length old) w (omega (arith, many, more))) ∙ both.1

-- and after fewer names, if they are no fewer than the path's
pub past_back : (old path : Path) (v w : ℕ) → length old ≤ v → has_walked path w old ≡ true → has_walked path v old ≡ true
past_back old path v w many past =
    let both = both_true (nat_le (length old) w) (is_some (after_front old path)) past in
    ap (λ b. b && is_some (after_front old path)) (le-leb (length old) v many) ∙ both.1

pub past_length : (old path : Path) (w : ℕ) → has_walked path w old ≡ true → length old ≤ w
past_length old path w past = leb-true (length old) w (both_true (nat_le (length old) w) (is_some (after_front old path)) past).0

pub never_past : (old path : Path) (w : ℕ) → w < length old → has_walked path w old ≡ false
never_past old path w less = not_true (has_walked path w old) (λ e. let h = past_length old path w e in omega (arith, h, less))

-- the walked names of what has passed a path begin with it
pub past_front : (old path : Path) (w : ℕ) → has_walked path w old ≡ true → w ≤ length path → (rest : Path) × (take w path ≡ old ++ rest)
past_front old path w past within =
    let both = both_true (nat_le (length old) w) (is_some (after_front old path)) past in
    let many = leb-true (length old) w both.0 in
    let rest = there_is (after_front old path) both.1 in
    let is = append-after_front old path rest.0 rest.1 in
    let cut : length old + (w - length old) ≡ w = omega (arith, many) in
    (take (w - length old) rest.0, ap (λ (k : ℕ). take k path) (sym cut) ∙ ap (take (length old + (w - length old))) is ∙ take-append-add old rest.0 (w - length old))

-- names that begin with a path have passed it
pub front_past : (old path : Path) (w : ℕ) (rest : Path) → take w path ≡ old ++ rest → has_walked path w old ≡ true
front_past old path w rest is =
    let r = front_taken old path w rest (ap (after_front old) is ∙ after_front-append old rest) in
    ap (λ b. b && is_some (after_front old path)) (le-leb (length old) w r.0) ∙ r.1

behind : (old path : Path) (o : Option Path) → after_front old path ≡ o → is_some o ≡ true → length old < length path → (name : Name) × (rest : Path) × (after_front old path ≡ Some (name ∷ rest))
behind old path None e t less = cc
behind old path (Some []) e t less =
    let l = ap (λ (p : Path). length p) (append-after_front old path [] e) in
    absurd (omega (arith, l, length-append old [], less))
behind old path (Some (name ∷ rest)) e t less = (name, rest, e)

-- a shorter prefix is a prefix, too
pub begins_more : (path : Path) (v w : ℕ) → v ≤ w → IsPrefix (take v path) (take w path)
begins_more path v w few = record { rest = drop v (take w path); is = sym (take-append-drop v (take w path)) ∙ ap (λ (x : Path). x ++ drop v (take w path)) (twice path v w few) }
  where
    twice : (x : Path) (a b : ℕ) → a ≤ b → take a (take b x) ≡ take a x
    twice x zero b few = refl
    twice [] (suc a) zero few = refl
    twice [] (suc a) (suc b) few = refl
    twice (n ∷ x) (suc a) zero few = absurd (omega (arith, few))
    twice (n ∷ x) (suc a) (suc b) few = ap (λ (y : Path). n ∷ y) (twice x a b (omega (arith, few)))

-- of two prefixes of a path, one that isn't a prefix of the other is longer
pub longer_front : (c p e : Path) → IsPrefix c e → IsPrefix p e → (IsPrefix c p → ⊥) → length p < length c
longer_front c p e begins other never = elim (fronts_meet c p e begins other) [
  | inl b ↦ absurd (never b)
  | inr b ↦ by_rest b.rest b.is
]
  where
    by_rest : (r : Path) → c ≡ p ++ r → length p < length c
    by_rest [] is = absurd (never (record { rest = []; is = sym is' ∙ sym (append-nil c) }))
      where
        is' : c ≡ p
        is' = is ∙ append-nil p
    by_rest (n ∷ r) is = let l = ap (λ (x : Path). length x) is in omega (arith, l, length-append p (n ∷ r))

-- the path leads strictly below another
abbrev pub IsBelow : Path → Path → Type 0
IsBelow old path = (name : Name) × (rest : Path) × (after_front old path ≡ Some (name ∷ rest))

-- a path with a proper prefix that has passed another leads strictly below it
pub passed_below : (old path : Path) (w : ℕ) → has_walked path w old ≡ true → w < length path → IsBelow old path
passed_below old path w passed short =
    let both = both_true (nat_le (length old) w) (is_some (after_front old path)) passed in
    let many = leb-true (length old) w both.0 in
    behind old path (after_front old path) refl both.1 (omega (arith, many, short))

-- what begins with a path that leads strictly below another also does so
pub begins_below : (old path q : Path) → IsBelow old path → IsSome (after_front path q) → IsBelow old q
begins_below old path q below some =
    let more = there_is (after_front path q) some in
    let is : q ≡ old ++ (below.0 ∷ (below.1 ++ more.0)) =
    append-after_front path q more.0 more.1 ∙ ap (λ (x : Path). x ++ more.0) (append-after_front old path (below.0 ∷ below.1) below.2) ∙ append_assoc old (below.0 ∷ below.1) more.0 in
    (below.0, below.1 ++ more.0, ap (after_front old) is ∙ after_front-append old (below.0 ∷ (below.1 ++ more.0)))

-- a call on a route lies below a path: all paths that it can change do, unless it moves nothing
abbrev pub LiesBelow : Path → Route → Type 0
LiesBelow old NoPath = ⊥
LiesBelow old (Along path) = IsBelow old path
LiesBelow old (Between from to) = IsBelow old from × IsBelow old to

pub or_false : (x y : Bool) → (x || y) ≡ false → (x ≡ false) × (y ≡ false)
or_false true y e = cc
or_false false y e = (refl, e)

-- a call that hasn't passed a path holds nothing at it or below it
pub held_aside : (old : Path) (at : List Reached) (paths : List Path) → are_past at paths old ≡ false → (s : HeldPath) → Holds (held_paths_on at paths) s → after_front old s.path ≡ None
held_aside old (r ∷ at) (path ∷ paths) never s (inl e) = ap (λ (x : HeldPath). after_front old x.path) e ∙ stands_aside old path r.walked (or_false (has_walked path r.walked old) (are_past at paths old) never).0
held_aside old (r ∷ at) (path ∷ paths) never s (inr hold) = held_aside old at paths (or_false (has_walked path r.walked old) (are_past at paths old) never).1 s hold
held_aside old _ _ never s hold = absurd hold

-- a test of whether a path is a prefix of another
pub begins_is : (path old : Path) (b : Bool) → (IsTrue b ↔ BeginsWith path old) → b ≡ is_some (after_front old path)
begins_is path old true h =
    let front = h.0 refl in
    sym (ap is_some (ap (after_front old) front.1 ∙ after_front-append old front.0))
begins_is path old false h =
    sym (not_true (is_some (after_front old path)) (λ some.
    let rest = there_is (after_front old path) some in
    let z : false ≡ true = h.1 (rest.0, append-after_front old path rest.0 rest.1) in cc))
