-- The place at which two paths part.
use Rattle.std.specs.Prelude.{◌≡◌, ◌≢◌, ◌<◌, ◌≤◌, ℕ, zero, suc, true, false, cond, ◌||◌, [], ◌∷◌, length, take, slice_get, is_some, Option, None, refl}
use Rattle.std.proofs.Common.{sym, ap, subst, ◌∙◌, inl, inr, arith}
use Rattle.sf_path.specs.Names.{Name, Path}
use Rattle.sf_path.specs.Order.{same_name}
use Rattle.sf_call.specs.declared.call.Reached.{Reached}
use Rattle.sf_call.specs.declared.call.Stage.TheVariants as stage
use Rattle.sf_call.specs.Tree.{after_front}
use Rattle.sf_call.proofs.Laws.{same_name_is, same_name_itself}
use Rattle.sf_call.specs.Routes.{are_nested}
use Rattle.sf_walk.specs.Routes.{PartAt}
use Rattle.sf_walk.specs.Further.{ComesToBoth, PartLater}

get_take : (n : ℕ) (p : Path) (i : ℕ) → i < n → slice_get (take n p) i ≡ slice_get p i
get_take zero p i h = absurd (omega arith)
get_take (suc n) [] i h = refl
get_take (suc n) (x ∷ p) zero h = refl
get_take (suc n) (x ∷ p) (suc i) h = get_take n p i (omega arith)

alike_below : (p q : Path) (n i : ℕ) → take n p ≡ take n q → i < n → slice_get p i ≡ slice_get q i
alike_below p q n i e h = sym (get_take n p i h) ∙ ap (λ (r : Path). slice_get r i) e ∙ get_take n q i h

-- the longest common prefix of two paths ends where they part
pub parts_there : (p q : Path) (r count : ℕ) → PartAt p q count → take r p ≡ take r q → r ≤ length p → r ≤ length q → (r < length p → r < length q → slice_get p r ≢ slice_get q r) → r ≡ count
parts_there p q r count part alike in_p in_q longest =
    let short = part.short in
    let short_new = part.short_new in
    let not_below : r < count → ⊥ = λ h. longest (omega arith) (omega arith) (alike_below p q count r part.alike h) in
    let not_above : count < r → ⊥ = λ h. part.apart (alike_below p q r count alike h) in
    omega (arith, not_below, not_above)

further : (n m : Name) (p q : Path) → n ≡ m → (count : ℕ) × PartAt p q count → (count : ℕ) × PartAt (n ∷ p) (m ∷ q) count
further n m p q e h =
    let part = h.1 in
    let short = part.short in
    let short_new = part.short_new in
    (suc h.0, record { alike = λ i. e i ∷ part.alike i; short = omega arith; short_new = omega arith; apart = part.apart })

-- two paths part, unless one is a prefix of the other
pub parts : (p q : Path) → are_nested p q ≡ false → (count : ℕ) × PartAt p q count
parts [] q e = cc
parts (n ∷ p) [] e = cc
parts (n ∷ p) (m ∷ q) e =
    elim (same_name n m) as (λ b. same_name n m ≡ b → (count : ℕ) × PartAt (n ∷ p) (m ∷ q) count) [
      | true ↦ λ s.
          let same = same_name_is n m s in
          let back : same_name m n ≡ true = ap (same_name m) same ∙ same_name_itself m in
          further n m p q same (parts p q ((λ i. is_some (cond {A = Option Path} (sym s i) (after_front p q) None) || is_some (cond {A = Option Path} (sym back i) (after_front q p) None)) ∙ e))
      | false ↦ λ s. (
        0,
        record {
          alike = refl;
          short = omega arith;
          short_new = omega arith;
          apart = λ h. let same : n ≡ m = cc in let t : same_name n m ≡ true = ap (λ (k : Name). same_name k m) same ∙ same_name_itself m in cc;
        },
      )
    ] refl

pub part_at_first : (old new : Path) → are_nested old new ≡ false → PartLater old new 0
part_at_first old new h = let w = parts old new h in record { count = w.0; part = w.1; later = omega arith }

-- If the next names differ, the paths part here; if they are equal, the paths part later.
module _ (old new : Path) (to : Reached) (later : PartLater old new to.walked) where
  pub comes_apart : slice_get old to.walked ≢ slice_get new to.walked → ComesToBoth old new to (stage.Ends to to to)
  comes_apart ne =
      let l = later.later in
      let not_later : to.walked < later.count → ⊥ = λ h. ne (alike_below old new later.count to.walked later.part.alike h) in
      inr (subst (λ k. PartAt old new k) (omega (arith, l, not_later)) later.part, refl)

  pub comes_before : slice_get old to.walked ≡ slice_get new to.walked → ComesToBoth old new to (stage.At to.walked to.node)
  comes_before same =
      let l = later.later in
      let not_here : later.count ≡ to.walked → ⊥ = λ e. later.part.apart (ap (slice_get old) e ∙ same ∙ ap (slice_get new) (sym e)) in
      inl (later.count, later.part, omega (arith, l, not_here), refl)

pub not_nothing : (p : Path) → (p ≡ [] → ⊥) → 0 < length p
not_nothing [] ne = absurd (ne refl)
not_nothing (n ∷ p) ne = omega arith

-- two paths part at one place
pub parts_once : (p q : Path) (count other : ℕ) → PartAt p q count → PartAt p q other → count ≡ other
parts_once p q count other a b =
    let short = a.short in
    let short_new = a.short_new in
    parts_there p q count other b a.alike (omega arith) (omega arith) (λ _ _. a.apart)
