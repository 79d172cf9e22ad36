use Rattle.std.proofs.Common.{arith}
use Rattle.std.specs.Prelude.{IfOk, Result, Ok, Err}
use Rattle.sf_workers.proofs.workers.work_all.Goals as goal

if_both : {X E : Type 0} {P Q : X → Type 0} {T : X → Type 0} (r : Result X E) → IfOk r P → IfOk r Q → ((x : X) → P x → Q x → T x) → IfOk r T
if_both (Ok x) p q f = f x p q
if_both (Err e) p q f = tt

pub returns-clause-each : goal.returns-clause-each
returns-clause-each g c = if_both c.map_vec.result c.map_vec.ensures.len c.map_vec.ensures.each (λ v len each k d lt. (each k d (omega arith)).1.call.met.1)
