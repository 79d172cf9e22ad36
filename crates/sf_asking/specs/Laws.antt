-- No public clause cites this module.
-- Operations in sequence.
use Rattle.std.specs.Prelude.{ℕ, List, [], ◌∷◌, ◌++◌, refl}
use Rattle.std.proofs.Common.{◌∙◌, subst}
use Rattle.sf_engine.specs.Promise.{Entry}
use Rattle.sf_trees.specs.Operations.{Operation}
use Rattle.sf_asking.specs.Askers.{AskerView}
use Rattle.sf_asking.specs.Asking.{AreDone, Reaches}

module _ {E : Type 0} (has_log : E → List Entry → Type 0) where
  pub none_done : (a : AskerView E) → Reaches has_log a [] a
  unfolding AreDone
  none_done a = (refl, refl)

  done_both : (moment : ℕ) (a b c : E) (first second : List Operation)
      → AreDone has_log moment first a b → AreDone has_log moment second b c
      → AreDone has_log moment (first ++ second) a c
  unfolding AreDone
  done_both moment a b c [] second one more =
      subst (λ (e : E). AreDone has_log moment second e c) one more
  done_both moment a b c (d ∷ first) second one more =
      (one.0, one.1, done_both moment one.0 b c first second one.2 more)

  pub done_on : (a b c : AskerView E) (first second : List Operation)
      → Reaches has_log a first b → Reaches has_log b second c
      → Reaches has_log a (first ++ second) c
  done_on a b c first second one more = (
    more.0 ∙ one.0,
    done_both a.moment a.engine b.engine c.engine first second one.1
        (subst (λ (m : ℕ). AreDone has_log m second b.engine c.engine) one.0 more.1),
  )
