use Rattle.std.proofs.Common.{◌≡◌, ℕ, [], Some, None, Result, Ok, Err, IfOk, arith}
use Rattle.sf_engine.specs.HasLog.{HasLog}
use Rattle.sf_engine.specs.Views.{EngineView}
use Rattle.sf_engine.proofs.Laws.{promised}
use Rattle.sf_c.specs.Numbers.{IsFresh}
use Rattle.sf_c.proofs.new_engine.Goals as goal

keeps_all : {F : Type 0} (r : Result EngineView F) (keep : ℕ) → IfOk r (λ engine. HasLog engine []) → IfOk r (λ engine. engine.core.keep ≡ None) → keep ≡ 0 → IfOk r (λ engine. IsFresh keep engine)
keeps_all (Ok engine) keep log all none = (promised log, (λ e. all), λ some. absurd (omega (arith, none, some)))
keeps_all (Err fault) keep log all none = tt

keeps_some : {F : Type 0} (r : Result EngineView F) (keep : ℕ) → IfOk r (λ engine. HasLog engine []) → IfOk r (λ engine. engine.core.keep ≡ Some keep) → (keep ≡ 0 → ⊥) → IfOk r (λ engine. IsFresh keep engine)
keeps_some (Ok engine) keep log last some = (promised log, (λ none. absurd (some none)), λ e. last)
keeps_some (Err fault) keep log last some = tt

pub returns-then-keep-eq0 : goal.returns-then-keep-eq0
returns-then-keep-eq0 c = keeps_all c.new.result c.args.keep c.new.ensures.log c.new.ensures.keep c.if-keep-eq0.true

pub returns : goal.returns
returns c = keeps_some c.with_keep.result c.args.keep c.with_keep.ensures.log c.with_keep.ensures.keep c.if-keep-eq0.false
