-- One operation.
use Rattle.std.proofs.Common.{◌≡◌, ℕ, List, [], ◌∷◌, refl, subst}
use Rattle.sf_engine.specs.Promise.{Entry}
use Rattle.sf_trees.specs.Operations.{Operation}
use Rattle.sf_asking.specs.Asking.{IsDone, AreDone}

pub one_operation : {E : Type 0} (has_log : E → List Entry → Type 0) (m moment : ℕ) (operation : Operation) (old e new : E) → m ≡ moment → e ≡ old → IsDone has_log m operation e new
    → ((m ≡ moment) × AreDone has_log moment (operation ∷ []) old new)
unfolding AreDone
one_operation {E} has_log m moment operation old e new same here done =
    (same, (new, subst (λ (k : ℕ). IsDone has_log k operation old new) same (subst (λ (x : E). IsDone has_log m operation x new) here done), refl))
