-- The effect of a changed entry on path resolution.
use Rattle.std.specs.Prelude.{◌≡◌, ◌≢◌, ℕ, true, false, cond, ◌&&◌, [], ◌∷◌, ◌++◌, option_and_then, Option, Some, None, refl}
use Rattle.std.proofs.Common.{sym, ap, ◌∙◌, eq-eqb}
use Rattle.sf_path.specs.Names.{Name, Path}
use Rattle.sf_path.specs.Order.{same_name}
use Rattle.sf_call.specs.Tree.{after_front}
use Rattle.sf_call.proofs.Laws.{same_name_is, same_name_itself}
use Rattle.sf_keeps.specs.Steps.{EntryMap, walk, changed_step}
use Rattle.sf_keeps.proofs.SetsAt.{nat_eq_apart}

pub walk-append : (step : EntryMap) (x : ℕ) (p q : Path) → walk step x (p ++ q) ≡ option_and_then (λ y. walk step y q) (walk step x p)
walk-append step x [] q = refl
walk-append step x (n ∷ p) q =
    elim (step x n) as (λ y. option_and_then (λ z. walk step z (p ++ q)) y ≡ option_and_then (λ z. walk step z q) (option_and_then (λ z. walk step z p) y)) [
      | None ↦ refl
      | Some y ↦ walk-append step y p q
    ]

-- the empty path
pub to_it : (o : Option ℕ) → option_and_then (λ x. Some x) o ≡ o
to_it None = refl
to_it (Some x) = refl

-- no path from x leads to d
abbrev pub Avoids : EntryMap → ℕ → ℕ → Type 0
Avoids step x d = (q : Path) → walk step x q ≡ Some d → ⊥

-- p alone leads from x to d
abbrev pub LeadsOnce : EntryMap → ℕ → Path → ℕ → Type 0
LeadsOnce step x p d = (q : Path) → walk step x q ≡ Some d → q ≡ p

-- the inode of a path: continued from r, if it began with the changed step
abbrev pub led : EntryMap → Option ℕ → Option Path → Option ℕ → Option ℕ
led step r None otherwise = otherwise
led step r (Some rest) otherwise = option_and_then (λ c. walk step c rest) r

first : (step : EntryMap) (x : ℕ) (m : Name) (y : ℕ) (q : Path) (d : ℕ) → step x m ≡ Some y → walk step y q ≡ Some d → walk step x (m ∷ q) ≡ Some d
first step x m y q d s w = ap (option_and_then (λ z. walk step z q)) s ∙ w

module _ (step : EntryMap) (d : ℕ) (n : Name) (r : Option ℕ) where
  other_node : (x : ℕ) (m : Name) → d ≢ x → changed_step step d n r x m ≡ step x m
  other_node x m ne = ap (λ b. cond (b && same_name n m) r (step x m)) (nat_eq_apart d x ne)

  -- a path that does not pass d is unchanged
  pub walk_apart : (q : Path) (x : ℕ) → Avoids step x d → walk (changed_step step d n r) x q ≡ walk step x q
  walk_apart [] x avoids = refl
  walk_apart (m ∷ q) x avoids =
      ap (option_and_then (λ y. walk (changed_step step d n r) y q)) (other_node x m (λ e. avoids [] (ap Some (sym e))))
      ∙ elim (step x m) as (λ o. step x m ≡ o → option_and_then (λ y. walk (changed_step step d n r) y q) o ≡ option_and_then (λ y. walk step y q) o) [
        | None ↦ λ s. refl
        | Some y ↦ λ s. walk_apart q y (λ t w. avoids (m ∷ t) (first step x m y t d s w))
      ] refl

  module _ (clear : (c : ℕ) → r ≡ Some c → Avoids step c d) where
    from_r : (q : Path) (o : Option ℕ) → r ≡ o → option_and_then (λ y. walk (changed_step step d n r) y q) o ≡ option_and_then (λ y. walk step y q) o
    from_r q None e = refl
    from_r q (Some c) e = walk_apart q c (clear c e)

    -- a step from d
    at_d : (m : Name) (q : Path) (x : ℕ) → d ≡ x → LeadsOnce step x [] d
        → walk (changed_step step d n r) x (m ∷ q) ≡ led step r (after_front (n ∷ []) (m ∷ q)) (walk step x (m ∷ q))
    at_d m q x e once =
        ap (λ b. option_and_then (λ y. walk (changed_step step d n r) y q) (cond (b && same_name n m) r (step x m))) (eq-eqb d x e)
        ∙ elim (same_name n m) as (λ b. option_and_then (λ y. walk (changed_step step d n r) y q) (cond b r (step x m)) ≡ led step r (cond b (Some q) None) (walk step x (m ∷ q))) [
          | true ↦ from_r q r refl
          | false ↦ elim (step x m) as (λ o. step x m ≡ o → option_and_then (λ y. walk (changed_step step d n r) y q) o ≡ option_and_then (λ y. walk step y q) o) [
            | None ↦ λ s. refl
            | Some y ↦ λ s. walk_apart q y (λ t w. let z = once (m ∷ t) (first step x m y t d s w) in cc)
          ] refl
        ]

    -- the effect of the changed step on each path, if only p leads to d
    pub walk_changed : (p : Path) (x : ℕ) (q : Path) → walk step x p ≡ Some d → LeadsOnce step x p d
        → walk (changed_step step d n r) x q ≡ led step r (after_front (p ++ n ∷ []) q) (walk step x q)
    walk_changed [] x [] there once = refl
    walk_changed [] x (m ∷ q) there once = let e : d ≡ x = cc in at_d m q x e once
    walk_changed (k ∷ p) x [] there once = refl
    walk_changed (k ∷ p) x (m ∷ q) there once =
        ap (option_and_then (λ y. walk (changed_step step d n r) y q)) (other_node x m (λ e. let z = once [] (ap Some (sym e)) in cc))
        ∙ elim (step x m) as (λ o. step x m ≡ o → option_and_then (λ y. walk (changed_step step d n r) y q) o ≡ led step r (after_front (k ∷ (p ++ n ∷ [])) (m ∷ q)) (option_and_then (λ y. walk step y q) o)) [
          | None ↦ λ s. elim (same_name k m) as (λ b. same_name k m ≡ b → None ≡ led step r (cond b (after_front (p ++ n ∷ []) q) None) None) [
            | true ↦ λ t. let e = same_name_is k m t in let f = ap (step x) e in let g = ap (option_and_then (λ y. walk step y p)) (f ∙ s) in cc
            | false ↦ λ t. refl
          ] refl
          | Some y ↦ λ s. elim (same_name k m) as (λ b. same_name k m ≡ b → walk (changed_step step d n r) y q ≡ led step r (cond b (after_front (p ++ n ∷ []) q) None) (walk step y q)) [
            | true ↦ λ t.
                let e = same_name_is k m t in
                let f : step x k ≡ Some y = ap (step x) e ∙ s in
                let g = ap (option_and_then (λ z. walk step z p)) f in
                walk_changed p y q (sym g ∙ there) (λ u w. let z = once (k ∷ u) (first step x k y u d f w) in cc)
            | false ↦ λ t. walk_apart q y (λ u w. let z = once (m ∷ u) (first step x m y u d s w) in let h : k ≡ m = cc in let i = ap (same_name k) h in let j = same_name_itself k in cc)
          ] refl
        ] refl
