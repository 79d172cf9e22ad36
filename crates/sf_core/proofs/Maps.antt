-- Maps from numbers: lookups and lengths after each change.
use Rattle.std.specs.Prelude.{◌≡◌, ◌≢◌, ◌+◌, ℕ, nat_eq, Bool, true, false, cond, if◌then◌else◌, ◌||◌, T, List, [], ◌∷◌, length, filter, Option, Some, None, IsSome, is_some, is_none, refl}
use Rattle.std.proofs.Common.{sym, ap, ◌∙◌, arith, eqb-true}
use Rattle.std.specs.declared.cmp.Ordering.TheVariants.{Less, Equal, Greater}
use Rattle.std.specs.Ordering.{nat_cmp, match_ordering, is_eq}
use Rattle.std.specs.Cmp.{nat_cmp_total}
use Rattle.std.specs.Map.{lookup, set_value, remove_entry}
use Rattle.std.specs.BTreeMap.{is_at, insert_entry}
use Rattle.std.specs.FinMap.{is_sorted}
use Rattle.sf_call.specs.declared.call.Call.{Call}
use Rattle.sf_call.specs.declared.call.Stage.{Stage}
use Rattle.sf_call.specs.Unanswered.{at_stage}
use Rattle.sf_core.specs.Progress.{waiting_reply}
use Rattle.sf_call.proofs.Laws.{lookup-put}
use Rattle.sf_keeps.proofs.Laws.{lookup-set, lookup-removed, at_is, nat_at_itself}

pub some_eq : {A : Type 0} (a b : A) → Some a ≡ Some b → a ≡ b
some_eq a b e = cc

pub none_some : {A : Type 0} (a : A) → None ≡ Some a → ⊥
none_some a e = cc

-- inversion: a test that isn't true, and an option without a value or with one
pub not_true : (b : Bool) → (b ≡ true → ⊥) → b ≡ false
not_true true never = absurd (never refl)
not_true false never = refl

pub no_value : {A : Type 0} (o : Option A) → ((a : A) → o ≡ Some a → ⊥) → o ≡ None
no_value None never = refl
no_value (Some a) never = absurd (never a refl)

pub some_value : {A : Type 0} (o : Option A) → (o ≡ None → ⊥) → (a : A) × (o ≡ Some a)
some_value None never = absurd (never refl)
some_value (Some a) never = (a, refl)

pub by_value : {A P : Type 0} (o : Option A) → (o ≡ None → P) → ((a : A) → o ≡ Some a → P) → P
by_value None without value = without refl
by_value (Some a) without value = value a refl

pub by_test : {P : Type 0} (b : Bool) → (b ≡ true → P) → (b ≡ false → P) → P
by_test true holds fails = holds refl
by_test false holds fails = fails refl

pub there_is : {A : Type 0} (o : Option A) → IsSome o → (a : A) × (o ≡ Some a)
there_is (Some a) some = (a, refl)
there_is _ some = cc

pub none_of : {A : Type 0} (o : Option A) → is_none o ≡ true → o ≡ None
none_of None e = refl
none_of _ e = cc

pub or_right : (a b : Bool) → b ≡ true → (a || b) ≡ true
or_right true b e = refl
or_right false b e = e

pub if_some : (b : Bool) (o : Option ℕ) (n : ℕ) → (if b then o else None) ≡ Some n → (b ≡ true) × (o ≡ Some n)
if_some true o n e = (refl, e)
if_some _ o n e = cc

pub apart_at : (k q : ℕ) → k ≢ q → is_at (nat_cmp k) q ≡ false
apart_at k q ne = at_is k q ∙ not_true (nat_eq k q) (λ e. ne (eqb-true k q e))

-- 1 for an entry that passes
abbrev pub one_if : Bool → ℕ
one_if true = 1
one_if false = 0

module _ {X : Type 0} where
  pub put_same : (es : List (ℕ × X)) (k : ℕ) (v : X) → lookup (is_at (nat_cmp k)) (insert_entry nat_cmp es k v) ≡ Some v
  put_same es k v = lookup-put nat_cmp nat_cmp_total es k v k ∙ ap (λ b. cond b (Some v) (lookup (is_at (nat_cmp k)) es)) (nat_at_itself k)

  pub put_other : (es : List (ℕ × X)) (k : ℕ) (v : X) (q : ℕ) → q ≢ k → lookup (is_at (nat_cmp q)) (insert_entry nat_cmp es k v) ≡ lookup (is_at (nat_cmp q)) es
  put_other es k v q ne = lookup-put nat_cmp nat_cmp_total es k v q ∙ ap (λ b. cond b (Some v) (lookup (is_at (nat_cmp q)) es)) (apart_at q k ne)

  pub set_same : (es : List (ℕ × X)) (k : ℕ) (v w : X) → lookup (is_at (nat_cmp k)) es ≡ Some w → lookup (is_at (nat_cmp k)) (set_value (is_at (nat_cmp k)) es v) ≡ Some v
  set_same es k v w e = lookup-set nat_cmp nat_cmp_total es k v k (ap is_some e) ∙ ap (λ b. cond b (Some v) (lookup (is_at (nat_cmp k)) es)) (nat_at_itself k)

  pub set_other : (es : List (ℕ × X)) (k : ℕ) (v w : X) (q : ℕ) → q ≢ k → lookup (is_at (nat_cmp k)) es ≡ Some w → lookup (is_at (nat_cmp q)) (set_value (is_at (nat_cmp k)) es v) ≡ lookup (is_at (nat_cmp q)) es
  set_other es k v w q ne e = lookup-set nat_cmp nat_cmp_total es k v q (ap is_some e) ∙ ap (λ b. cond b (Some v) (lookup (is_at (nat_cmp q)) es)) (apart_at k q (λ x. ne (sym x)))

  pub removed_same : (es : List (ℕ × X)) (k : ℕ) → T (is_sorted nat_cmp es) → lookup (is_at (nat_cmp k)) (remove_entry (is_at (nat_cmp k)) es) ≡ None
  removed_same es k h = lookup-removed nat_cmp nat_cmp_total es k k h ∙ ap (λ b. cond b None (lookup (is_at (nat_cmp k)) es)) (nat_at_itself k)

  pub removed_other : (es : List (ℕ × X)) (k q : ℕ) → q ≢ k → T (is_sorted nat_cmp es) → lookup (is_at (nat_cmp q)) (remove_entry (is_at (nat_cmp k)) es) ≡ lookup (is_at (nat_cmp q)) es
  removed_other es k q ne h = lookup-removed nat_cmp nat_cmp_total es k q h ∙ ap (λ b. cond b None (lookup (is_at (nat_cmp q)) es)) (apart_at k q (λ x. ne (sym x)))

  pub count_removed : (test : ℕ → Bool) (es : List (ℕ × X)) (v : X) → lookup test es ≡ Some v → length (remove_entry test es) + 1 ≡ length es
  count_removed test [] v e = cc
  count_removed test (x ∷ es) v e =
      elim (test x.0) as (λ b. cond b (Some x.1) (lookup test es) ≡ Some v → length (cond b es (x ∷ remove_entry test es)) + 1 ≡ length (x ∷ es)) [
        | true ↦ λ h. omega arith
        | false ↦ λ h. let r = count_removed test es v h in omega (arith, r)
      ] e

  pub count_put : (es : List (ℕ × X)) (k : ℕ) (v : X) → lookup (is_at (nat_cmp k)) es ≡ None → length (insert_entry nat_cmp es k v) ≡ length es + 1
  count_put [] k v e = refl
  count_put (x ∷ es) k v e =
      elim (nat_cmp k x.0) as (λ r. cond (is_eq r) (Some x.1) (lookup (is_at (nat_cmp k)) es) ≡ None
      → length (match_ordering r ((k, v) ∷ x ∷ es) ((x.0, v) ∷ es) (x ∷ insert_entry nat_cmp es k v)) ≡ length (x ∷ es) + 1) [
        | Less ↦ λ h. omega arith
        | Equal ↦ λ h. cc
        | Greater ↦ λ h. let r = count_put es k v h in omega (arith, r)
      ] e

  -- inserting a new entry and then removing it changes nothing
  pub put_removed : (es : List (ℕ × X)) (k : ℕ) (v : X) → lookup (is_at (nat_cmp k)) es ≡ None → remove_entry (is_at (nat_cmp k)) (insert_entry nat_cmp es k v) ≡ es
  put_removed [] k v e = ap (λ b. cond {A = List (ℕ × X)} b [] ((k, v) ∷ [])) (nat_at_itself k)
  put_removed (x ∷ es) k v e =
      elim (nat_cmp k x.0) as (λ r. nat_cmp k x.0 ≡ r → remove_entry (is_at (nat_cmp k)) (match_ordering r ((k, v) ∷ x ∷ es) ((x.0, v) ∷ es) (x ∷ insert_entry nat_cmp es k v)) ≡ x ∷ es) [
        | Less ↦ λ r. ap (λ b. cond {A = List (ℕ × X)} b (x ∷ es) ((k, v) ∷ remove_entry (is_at (nat_cmp k)) (x ∷ es))) (nat_at_itself k)
        | Equal ↦ λ r. absurd (let z : Some x.1 ≡ None = sym (ap (λ o. cond (is_eq o) (Some x.1) (lookup (is_at (nat_cmp k)) es)) r) ∙ e in cc)
        | Greater ↦ λ r.
            let none = sym (ap (λ o. cond (is_eq o) (Some x.1) (lookup (is_at (nat_cmp k)) es)) r) ∙ e in
            ap (λ o. cond {A = List (ℕ × X)} (is_eq o) (insert_entry nat_cmp es k v) (x ∷ remove_entry (is_at (nat_cmp k)) (insert_entry nat_cmp es k v))) r
            ∙ ap (λ (rest : List (ℕ × X)). x ∷ rest) (put_removed es k v none)
      ] refl

  -- of two values set in turn the second remains
  pub set_twice : (test : ℕ → Bool) (es : List (ℕ × X)) (v w : X) → set_value test (set_value test es v) w ≡ set_value test es w
  set_twice test [] v w = refl
  set_twice test (x ∷ es) v w =
      elim (test x.0) as (λ b. test x.0 ≡ b → set_value test (cond b ((x.0, v) ∷ es) (x ∷ set_value test es v)) w ≡ cond b ((x.0, w) ∷ es) (x ∷ set_value test es w)) [
        | true ↦ λ e. ap (λ b. cond b ((x.0, w) ∷ es) ((x.0, v) ∷ set_value test es w)) e
        | false ↦ λ e. ap (λ b. cond b ((x.0, w) ∷ set_value test es v) (x ∷ set_value test (set_value test es v) w)) e ∙ ap (λ (rest : List (ℕ × X)). x ∷ rest) (set_twice test es v w)
      ] refl

  -- the number of entries whose values pass a test
  module _ (passes : X → Bool) where
    first_more : (b : Bool) (x : ℕ × X) (ys : List (ℕ × X)) → length (cond b (x ∷ ys) ys) ≡ length ys + one_if b
    first_more true x ys = omega arith
    first_more false x ys = omega arith

    more : (x : ℕ × X) (es : List (ℕ × X)) → length (filter (λ (e : ℕ × X). passes e.1) (x ∷ es)) ≡ length (filter (λ (e : ℕ × X). passes e.1) es) + one_if (passes x.1)
    more x es = first_more (passes x.1) x (filter (λ (e : ℕ × X). passes e.1) es)

    the_same : (v w : X) → Some v ≡ Some w → one_if (passes v) ≡ one_if (passes w)
    the_same v w e = let same : v ≡ w = cc in ap (λ y. one_if (passes y)) same

    pub passing_removed : (test : ℕ → Bool) (es : List (ℕ × X)) (v : X) → lookup test es ≡ Some v
        → length (filter (λ (e : ℕ × X). passes e.1) (remove_entry test es)) + one_if (passes v) ≡ length (filter (λ (e : ℕ × X). passes e.1) es)
    passing_removed test [] v e = cc
    passing_removed test (x ∷ es) v e =
        elim (test x.0) as (λ b. cond b (Some x.1) (lookup test es) ≡ Some v
        → length (filter (λ (e : ℕ × X). passes e.1) (cond b es (x ∷ remove_entry test es))) + one_if (passes v) ≡ length (filter (λ (e : ℕ × X). passes e.1) (x ∷ es))) [
          | true ↦ λ h. let a = more x es in let s = the_same x.1 v h in omega (arith, a, s)
          | false ↦ λ h. let r = passing_removed test es v h in let a = more x es in let b = more x (remove_entry test es) in omega (arith, r, a, b)
        ] e

    pub passing_put : (es : List (ℕ × X)) (k : ℕ) (v : X) → lookup (is_at (nat_cmp k)) es ≡ None
        → length (filter (λ (e : ℕ × X). passes e.1) (insert_entry nat_cmp es k v)) ≡ length (filter (λ (e : ℕ × X). passes e.1) es) + one_if (passes v)
    passing_put [] k v e = more (k, v) []
    passing_put (x ∷ es) k v e =
        elim (nat_cmp k x.0) as (λ r. cond (is_eq r) (Some x.1) (lookup (is_at (nat_cmp k)) es) ≡ None
        → length (filter (λ (e : ℕ × X). passes e.1) (match_ordering r ((k, v) ∷ x ∷ es) ((x.0, v) ∷ es) (x ∷ insert_entry nat_cmp es k v)))
        ≡ length (filter (λ (e : ℕ × X). passes e.1) (x ∷ es)) + one_if (passes v)) [
          | Less ↦ λ h. more (k, v) (x ∷ es)
          | Equal ↦ λ h. cc
          | Greater ↦ λ h. let r = passing_put es k v h in let a = more x es in let b = more x (insert_entry nat_cmp es k v) in omega (arith, r, a, b)
        ] e

    pub passing_set : (test : ℕ → Bool) (es : List (ℕ × X)) (v w : X) → lookup test es ≡ Some w
        → length (filter (λ (e : ℕ × X). passes e.1) (set_value test es v)) + one_if (passes w) ≡ length (filter (λ (e : ℕ × X). passes e.1) es) + one_if (passes v)
    passing_set test [] v w e = cc
    passing_set test (x ∷ es) v w e =
        elim (test x.0) as (λ b. cond b (Some x.1) (lookup test es) ≡ Some w
        → length (filter (λ (e : ℕ × X). passes e.1) (cond b ((x.0, v) ∷ es) (x ∷ set_value test es v))) + one_if (passes w)
        ≡ length (filter (λ (e : ℕ × X). passes e.1) (x ∷ es)) + one_if (passes v)) [
          | true ↦ λ h. let a = more x es in let b = more (x.0, v) es in let s = the_same x.1 w h in omega (arith, a, b, s)
          | false ↦ λ h. let r = passing_set test es v w h in let a = more x es in let b = more x (set_value test es v) in omega (arith, r, a, b)
        ] e

-- ---- fields of calls
pub reply_is : (c : Call) → waiting_reply c ≡ c.reply
unfolding waiting_reply
reply_is c = refl

pub staged_reply : (c : Call) (g : Stage) → waiting_reply (at_stage g c) ≡ waiting_reply c
unfolding waiting_reply
staged_reply c g = refl
