-- Each move of a log preserves its rule.
use Rattle.std.proofs.Common.{◌≡◌, ◌≢◌, ℕ, zero, suc, List, [], ◌∷◌, ◌++◌, length, set, true, refl, sym, ap, ◌∙◌, subst, ⊎_elim, append_assoc, append-nil}
use mathlib.Core.Option.{some, some-ne-none, some-injective}
use lib.ListN.{get_elem?}
use Rattle.atomic_table.proofs.Lists.{at_set, set_again}
use Rattle.sf_roll.specs.declared.log_rule.LogView.{LogView}
use Rattle.sf_roll.specs.Seen.{IsPrefixOf, writer, reader, with_reader, without_reader, grown, FitsLog, AreSeen}
use Rattle.sf_roll.proofs.Moves.{off, at_end}

module _ {T : Type 0} where
  -- ---- prefixes of a list
  pub prefix_self : (l : List T) → IsPrefixOf l l
  prefix_self l = ([], sym (append-nil l))

  pub prefix_empty : (l : List T) → IsPrefixOf [] l
  prefix_empty l = (l, refl)

  pub prefix_append : (a b more : List T) → IsPrefixOf a b → IsPrefixOf a (b ++ more)
  prefix_append a b more f = (f.0 ++ more, ap (λ l. l ++ more) f.1 ∙ append_assoc a f.0 more)

  pub prefix_trans : (a b c : List T) → IsPrefixOf a b → IsPrefixOf b c → IsPrefixOf a c
  prefix_trans a b c f g = subst (IsPrefixOf a) (sym g.1) (prefix_append a b g.0 f)

  -- ---- the moves
  reader_fits : (seat : ℕ) (log : List T) (by : ℕ) (seen : List T) → IsPrefixOf seen log → FitsLog seat log by (reader seen)
  reader_fits seat log by seen f = ((λ k. absurd (off k)), f, prefix_empty log)

  pub copies : (id : ℕ) (v : LogView T) (views : List (LogView T)) → AreSeen views → get_elem? views id ≡ some v → AreSeen (set views id v ++ reader v.log ∷ [])
  copies id v views h at = (
    h.0,
    h.1,
    λ j u e. ⊎_elim
        (λ was. h.2 j u (subst (λ l. get_elem? l j ≡ some u) (set_again views id v at) was))
        (λ (new : (j ≡ length (set views id v)) × (reader v.log ≡ u)). subst (FitsLog h.0 h.1 j) new.1 (reader_fits h.0 h.1 j v.log (h.2 id v at).1))
        (at_end (set views id v) (reader v.log) u j e),
  )

  pub takes : (id : ℕ) (v : LogView T) (other : ℕ) (w : LogView T) (views : List (LogView T)) → AreSeen views → get_elem? views id ≡ some v → ¬ (other ≡ id) → get_elem? (set views id (with_reader v w)) other ≡ some w
      → AreSeen (set (set views id (with_reader v w)) other (reader []))
  takes id v other w views h at apart there =
      let t = with_reader v w in
      let mine = h.2 id v at in
      let theirs = ⊎_elim (λ (x : (other ≡ id) × (t ≡ w)). absurd (apart x.0)) (λ (x : (other ≢ id) × (get_elem? views other ≡ some w)). h.2 other w x.1) (at_set views id other t w there) in (
        h.0,
        h.1,
        λ j u e. ⊎_elim
            (λ (x : (j ≡ other) × (reader [] ≡ u)). subst (FitsLog h.0 h.1 j) x.1 (reader_fits h.0 h.1 j [] (prefix_empty h.1)))
            (λ (x : (j ≢ other) × (get_elem? (set views id t) j ≡ some u)). ⊎_elim
            (λ (y : (j ≡ id) × (t ≡ u)). subst (λ (z : ℕ × LogView T). FitsLog h.0 h.1 z.0 z.1) (λ i. (sym y.0 i, y.1 i)) (mine.0, mine.1, theirs.1))
            (λ (y : (j ≢ id) × (get_elem? views j ≡ some u)). h.2 j u y.1)
            (at_set views id j t u x.1))
            (at_set (set views id t) other j (reader []) u e),
      )

  -- what a writer with a reader knows
  pub compared : (id : ℕ) (v : LogView T) → v.writes ≡ true → (views : List (LogView T)) → AreSeen views → get_elem? views id ≡ some v → AreSeen (set views id (without_reader v)) × IsPrefixOf v.beside v.log
  compared id v writes views h at =
      let mine = h.2 id v at in
      let w = without_reader v in (
        (
          h.0,
          h.1,
          λ j u e. ⊎_elim
              (λ (x : (j ≡ id) × (w ≡ u)). subst (λ (z : ℕ × LogView T). FitsLog h.0 h.1 z.0 z.1) (λ i. (sym x.0 i, x.1 i)) (mine.0, mine.1, prefix_empty h.1))
              (λ (x : (j ≢ id) × (get_elem? views j ≡ some u)). h.2 j u x.1)
              (at_set views id j w u e),
        ),
        subst (IsPrefixOf v.beside) (sym (mine.0 writes).1) mine.2,
      )

  pub added_to : (id : ℕ) (v : LogView T) (added : List T) → v.writes ≡ true → (views : List (LogView T)) → AreSeen views → get_elem? views id ≡ some v → AreSeen (set views id (grown v added))
  added_to id v added writes views h at =
      let mine = h.2 id v at in
      let log' = v.log ++ added in
      let longer : (l : List T) → IsPrefixOf l h.1 → IsPrefixOf l log' = λ l f. prefix_append l v.log added (subst (IsPrefixOf l) (sym (mine.0 writes).1) f) in (
        id,
        log',
        λ j u e. ⊎_elim
            (λ (x : (j ≡ id) × (grown v added ≡ u)). subst (λ (z : ℕ × LogView T). FitsLog id log' z.0 z.1) (λ i. (sym x.0 i, x.1 i)) ((λ _. (refl, refl)), prefix_self log', longer v.beside mine.2))
            (λ (x : (j ≢ id) × (get_elem? views j ≡ some u)).
            let f = h.2 j u x.1 in
            ((λ k. absurd (x.0 ((f.0 k).0 ∙ sym (mine.0 writes).0))), longer u.log f.1, longer u.beside f.2))
            (at_set views id j (grown v added) u e),
      )

  -- a seat that writes
  pub writes_so : {C : Type 0} (m : LogView T × C) (log : List T) (c : C) → m ≡ (writer log, c) → m ≡ (writer m.0.log, c)
  writes_so m log c e = e ∙ ap (λ l. (writer l, c)) (ap (λ x. x.0.log) (sym e))

  pub begins : AreSeen {T = T} (writer [] ∷ [])
  begins = (0, [], one)
    where
      one : (by : ℕ) (v : LogView T) → get_elem? (writer {T = T} [] ∷ []) by ≡ some v → FitsLog 0 [] by v
      one zero v e = subst (FitsLog 0 [] 0) (some-injective _ _ e) ((λ _. (refl, refl)), prefix_empty [], prefix_empty [])
      one (suc by) v e = absurd (some-ne-none v (sym e))
