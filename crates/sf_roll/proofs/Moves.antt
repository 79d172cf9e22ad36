-- Each move keeps the rule.
use Rattle.std.proofs.Common.{◌≡◌, ◌≢◌, ◌⊎◌, ℕ, zero, suc, List, [], ◌∷◌, ◌++◌, length, set, Some, true, false, cond, eqb, eq-eqb, ne_eqb, true≢false, refl, sym, ap, ◌∙◌, subst, inl, inr, ⊎_elim}
use Rattle.std.specs.Prelude.{slice_get, slice_set}
use mathlib.Core.Option.{some, some-ne-none, some-injective}
use lib.ListN.{get_elem?}
use Rattle.atomic_table.proofs.Lists.{at_set, set_again}
use Rattle.sf_roll.specs.declared.rule.Knowledge.{Knowledge}
use Rattle.sf_roll.specs.Kept.{keeper, nobody, with_entry, new_ticket, with_ticket, without_ticket, its_ticket, changed_to, FitsSeat, AreKept}

pub off : false ≡ true → ⊥
off e = true≢false (sym e)

-- a function that is x at k, and as before elsewhere
abbrev put : (ℕ → ℕ) → ℕ → ℕ → ℕ → ℕ
put f k x n = cond (eqb n k) x (f n)

put_same : (f : ℕ → ℕ) (k x : ℕ) → put f k x k ≡ x
put_same f k x = ap (λ b. cond b x (f k)) (eq-eqb k k refl)

put_other : (f : ℕ → ℕ) (k x n : ℕ) → n ≢ k → put f k x n ≡ f n
put_other f k x n apart = ap (λ b. cond b x (f n)) (ne_eqb n k apart)

module _ {A : Type 0} where
  pub at_end : (l : List A) (a b : A) (j : ℕ) → get_elem? (l ++ a ∷ []) j ≡ some b → (get_elem? l j ≡ some b) ⊎ ((j ≡ length l) × (a ≡ b))
  at_end [] a b zero e = inr (refl, some-injective a b e)
  at_end [] a b (suc j) e = absurd (some-ne-none b (sym e))
  at_end (x ∷ xs) a b zero e = inl e
  at_end (x ∷ xs) a b (suc j) e = ⊎_elim (λ t. inl t) (λ t. inr (ap suc t.0, t.1)) (at_end xs a b j e)

  none_there : (l : List A) (a : A) → slice_get l (length l) ≡ Some a → ⊥
  none_there [] a e = absurd (cc)
  none_there (x ∷ xs) a e = none_there xs a e

  pub get_front : (l m : List A) (k : ℕ) (a : A) → slice_get l k ≡ Some a → slice_get (l ++ m) k ≡ Some a
  get_front [] m k a e = absurd (cc)
  get_front (x ∷ xs) m zero a e = e
  get_front (x ∷ xs) m (suc k) a e = get_front xs m k a e

  pub get_last : (l : List A) (a : A) → slice_get (l ++ a ∷ []) (length l) ≡ Some a
  get_last [] a = refl
  get_last (x ∷ xs) a = get_last xs a

  pub get_set : (l : List A) (k : ℕ) (a b : A) → slice_get l k ≡ Some a → slice_get (slice_set l k b) k ≡ Some b
  get_set [] k a b e = absurd (cc)
  get_set (x ∷ xs) zero a b e = refl
  get_set (x ∷ xs) (suc k) a b e = get_set xs k a b e

  pub get_set_else : (l : List A) (k j : ℕ) (b : A) → j ≢ k → slice_get (slice_set l k b) j ≡ slice_get l j
  get_set_else [] k j b n = refl
  get_set_else (x ∷ xs) zero zero b n = absurd (n refl)
  get_set_else (x ∷ xs) zero (suc j) b n = refl
  get_set_else (x ∷ xs) (suc k) zero b n = refl
  get_set_else (x ∷ xs) (suc k) (suc j) b n = get_set_else xs k j b (λ e. n (ap suc e))

module _ {E : Type 0} where
  nobody_fits : (fresh : E) (seat : ℕ) (all : List E) (owner : ℕ → ℕ) (by : ℕ) → FitsSeat seat all owner by (nobody fresh)
  nobody_fits fresh seat all owner by = ((λ k. absurd (off k)), (λ h. absurd (off h)))

  -- the place of a ticket that another has is another
  apart_from : (seat : ℕ) (all : List E) (owner : ℕ → ℕ) (i j : ℕ) (v w : Knowledge E) → FitsSeat seat all owner i v → v.holds ≡ true → FitsSeat seat all owner j w → w.holds ≡ true → j ≢ i → w.place ≢ v.place
  apart_from seat all owner i j v w fi hi fj hj apart same = apart ((fj.1 hj).0 ∙ ap owner same ∙ sym (fi.1 hi).0)

  pub opens : (fresh : E) (id : ℕ) (v : Knowledge E) → v.keeps ≡ true → (views : List (Knowledge E)) → AreKept views → get_elem? views id ≡ some v → AreKept (set views id (with_entry fresh v) ++ new_ticket fresh v ∷ [])
  opens fresh id v keeps views h at =
      let mine = (h.3 id v at).0 keeps in
      let n = length (set views id (with_entry fresh v)) in
      let all' = v.all ++ fresh ∷ [] in
      let owner' = put h.2 (length v.all) n in (
        id,
        all',
        owner',
        λ j u e. ⊎_elim
            (λ was. ⊎_elim
            (λ (x : (j ≡ id) × (with_entry fresh v ≡ u)). subst (λ (y : ℕ × Knowledge E). FitsSeat id all' owner' y.0 y.1) (λ i. (sym x.0 i, x.1 i)) ((λ _. (refl, refl)), (λ c. absurd (off c))))
            (λ (x : (j ≢ id) × (get_elem? views j ≡ some u)).
            let f = h.3 j u x.1 in (
              (λ k. absurd (x.0 ((f.0 k).0 ∙ sym mine.0))),
              (λ k.
                  let known : slice_get v.all u.place ≡ Some u.own = subst (λ l. slice_get l u.place ≡ Some u.own) (sym mine.1) (f.1 k).1 in
                  let there : u.place ≢ length v.all = λ same. none_there v.all u.own (subst (λ p. slice_get v.all p ≡ Some u.own) same known) in
                  ((f.1 k).0 ∙ sym (put_other h.2 (length v.all) n u.place there), get_front v.all (fresh ∷ []) u.place u.own known)),
            ))
            (at_set views id j (with_entry fresh v) u was))
            (λ new. subst (λ (y : ℕ × Knowledge E). FitsSeat id all' owner' y.0 y.1) (λ i. (sym new.0 i, new.1 i)) ((λ k. absurd (off k)), (λ _. (sym (put_same h.2 (length v.all) n), get_last v.all fresh))))
            (at_end (set views id (with_entry fresh v)) (new_ticket fresh v) u j e),
      )

  pub spares : (fresh : E) (id : ℕ) (v : Knowledge E) → (views : List (Knowledge E)) → AreKept views → get_elem? views id ≡ some v → AreKept (set views id v ++ nobody fresh ∷ [])
  spares fresh id v views h at = (
    h.0,
    h.1,
    h.2,
    λ j u e. ⊎_elim
        (λ was. h.3 j u (subst (λ l. get_elem? l j ≡ some u) (set_again views id v at) was))
        (λ (new : (j ≡ length (set views id v)) × (nobody fresh ≡ u)). subst (FitsSeat h.0 h.1 h.2 j) new.1 (nobody_fits fresh h.0 h.1 h.2 j))
        (at_end (set views id v) (nobody fresh) u j e),
  )

  pub takes : (fresh : E) (id : ℕ) (v : Knowledge E) (other : ℕ) (w : Knowledge E) → v.keeps ≡ true → w.holds ≡ true → (views : List (Knowledge E)) → AreKept views → get_elem? views id ≡ some v → ¬ (other ≡ id) → get_elem? (set views id (with_ticket v w)) other ≡ some w
      → AreKept (set (set views id (with_ticket v w)) other (nobody fresh))
  takes fresh id v other w keeps holds views h at apart there =
      let t = with_ticket v w in
      let mine = (h.3 id v at).0 keeps in
      let theirs = ⊎_elim (λ (x : (other ≡ id) × (t ≡ w)). absurd (apart x.0)) (λ (x : (other ≢ id) × (get_elem? views other ≡ some w)). h.3 other w x.1) (at_set views id other t w there) in
      let owner' = put h.2 w.place id in (
        id,
        h.1,
        owner',
        λ j u e. ⊎_elim
            (λ (x : (j ≡ other) × (nobody fresh ≡ u)). subst (FitsSeat id h.1 owner' j) x.1 (nobody_fits fresh id h.1 owner' j))
            (λ (x : (j ≢ other) × (get_elem? (set views id t) j ≡ some u)). ⊎_elim
            (λ (y : (j ≡ id) × (t ≡ u)). subst (λ (z : ℕ × Knowledge E). FitsSeat id h.1 owner' z.0 z.1) (λ i. (sym y.0 i, y.1 i)) ((λ _. (refl, mine.1)), (λ _. (sym (put_same h.2 w.place id), (theirs.1 holds).1))))
            (λ (y : (j ≢ id) × (get_elem? views j ≡ some u)).
            let f = h.3 j u y.1 in (
              (λ k. absurd (y.0 ((f.0 k).0 ∙ sym mine.0))),
              (λ k. ((f.1 k).0 ∙ sym (put_other h.2 w.place id u.place (apart_from h.0 h.1 h.2 other j w u theirs holds f k x.0)), (f.1 k).1)),
            ))
            (at_set views id j t u x.1))
            (at_set (set views id t) other j (nobody fresh) u e),
      )

  -- what a keeper with a ticket knows
  pub compared : (id : ℕ) (v : Knowledge E) → v.keeps ≡ true → v.holds ≡ true → (views : List (Knowledge E)) → AreKept views → get_elem? views id ≡ some v → AreKept (set views id v) × (slice_get v.all v.place ≡ Some v.own)
  compared id v keeps holds views h at =
      let f = h.3 id v at in
      (subst AreKept (sym (set_again views id v at)) h, subst (λ l. slice_get l v.place ≡ Some v.own) (sym (f.0 keeps).1) (f.1 holds).1)

  pub changed : (id : ℕ) (v : Knowledge E) (e : E) → v.keeps ≡ true → v.holds ≡ true → (views : List (Knowledge E)) → AreKept views → get_elem? views id ≡ some v → AreKept (set views id (changed_to v e))
  changed id v e keeps holds views h at =
      let f = h.3 id v at in
      let mine = f.0 keeps in
      let known = subst (λ l. slice_get l v.place ≡ Some v.own) (sym mine.1) (f.1 holds).1 in
      let all' = slice_set v.all v.place e in (
        id,
        all',
        h.2,
        λ j u there. ⊎_elim
            (λ (x : (j ≡ id) × (changed_to v e ≡ u)). subst (λ (z : ℕ × Knowledge E). FitsSeat id all' h.2 z.0 z.1) (λ i. (sym x.0 i, x.1 i)) ((λ _. (refl, refl)), (λ _. ((f.1 holds).0, get_set v.all v.place v.own e known))))
            (λ (x : (j ≢ id) × (get_elem? views j ≡ some u)).
            let g = h.3 j u x.1 in (
              (λ k. absurd (x.0 ((g.0 k).0 ∙ sym mine.0))),
              (λ k. ((g.1 k).0, get_set_else v.all v.place u.place e (apart_from h.0 h.1 h.2 id j v u f holds g k x.0) ∙ subst (λ l. slice_get l u.place ≡ Some u.own) (sym mine.1) (g.1 k).1)),
            ))
            (at_set views id j (changed_to v e) u there),
      )

  pub gives : (fresh : E) (id : ℕ) (v : Knowledge E) → v.keeps ≡ true → v.holds ≡ true → (views : List (Knowledge E)) → AreKept views → get_elem? views id ≡ some v → AreKept (set views id (without_ticket fresh v) ++ its_ticket v ∷ [])
  gives fresh id v keeps holds views h at =
      let f = h.3 id v at in
      let mine = f.0 keeps in
      let n = length (set views id (without_ticket fresh v)) in
      let owner' = put h.2 v.place n in (
        id,
        h.1,
        owner',
        λ j u e. ⊎_elim
            (λ was. ⊎_elim
            (λ (x : (j ≡ id) × (without_ticket fresh v ≡ u)). subst (λ (y : ℕ × Knowledge E). FitsSeat id h.1 owner' y.0 y.1) (λ i. (sym x.0 i, x.1 i)) ((λ _. (refl, mine.1)), (λ c. absurd (off c))))
            (λ (x : (j ≢ id) × (get_elem? views j ≡ some u)).
            let g = h.3 j u x.1 in (
              (λ k. absurd (x.0 ((g.0 k).0 ∙ sym mine.0))),
              (λ k. ((g.1 k).0 ∙ sym (put_other h.2 v.place n u.place (apart_from h.0 h.1 h.2 id j v u f holds g k x.0)), (g.1 k).1)),
            ))
            (at_set views id j (without_ticket fresh v) u was))
            (λ new. subst (λ (y : ℕ × Knowledge E). FitsSeat id h.1 owner' y.0 y.1) (λ i. (sym new.0 i, new.1 i)) ((λ k. absurd (off k)), (λ _. (sym (put_same h.2 v.place n), (f.1 holds).1))))
            (at_end (set views id (without_ticket fresh v)) (its_ticket v) u j e),
      )

  -- a seat that is a keeper's, or a ticket's
  pub kept_so : {C : Type 0} (m : Knowledge E × C) (fresh : E) (all : List E) (c : C) → m ≡ (keeper fresh all, c) → m ≡ (keeper fresh m.0.all, c)
  kept_so m fresh all c e = e ∙ ap (λ l. (keeper fresh l, c)) (ap (λ x. x.0.all) (sym e))

  pub kept_with : {C : Type 0} (m : Knowledge E × C) (fresh : E) (all : List E) (c d : C) → m ≡ (keeper fresh all, c) → c ≡ d → m ≡ (keeper fresh m.0.all, d)
  kept_with m fresh all c d e f = kept_so m fresh all d (e ∙ ap (λ x. (keeper fresh all, x)) f)

  pub begins : (fresh : E) → AreKept (keeper fresh [] ∷ [])
  begins fresh = (0, [], (λ n. n), one)
    where
      one : (by : ℕ) (v : Knowledge E) → get_elem? (keeper fresh [] ∷ []) by ≡ some v → FitsSeat 0 [] (λ n. n) by v
      one zero v e = subst (FitsSeat 0 [] (λ n. n) 0) (some-injective _ _ e) ((λ _. (refl, refl)), (λ c. absurd (off c)))
      one (suc by) v e = absurd (some-ne-none v (sym e))
