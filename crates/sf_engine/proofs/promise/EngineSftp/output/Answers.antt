use Rattle.std.proofs.Common.{◌≡◌, List, Option, Some, None}
use Rattle.std.specs.Option.{IfSome, IfNone}
use Rattle.sf_engine.specs.Promise.{Entry, of_session, IsKnown, IsUnsent}
use Rattle.sf_engine.specs.HasLog.{HasPromise, ShowsOutput, IsNoSession}
use Rattle.sf_engine.proofs.promise.EngineSftp.output.Goals as goal

some_weaker : {X : Type 0} (o : Option X) (P Q : X → Type 0) → ((x : X) → P x → Q x) → IfSome o P → IfSome o Q
some_weaker None P Q so h = tt
some_weaker (Some x) P Q so h = so x h

none_weaker : {X : Type 0} (o : Option X) (P Q : Type 0) → (P → Q) → IfNone o P → IfNone o Q
none_weaker None P Q so h = so h
none_weaker (Some x) P Q so h = tt

pub returns-clause-some : goal.returns-clause-some
returns-clause-some c =
    let e = c.args.self.now in
    let s = c.args.session in
    some_weaker c.output.result (λ output. ShowsOutput e s output.now) (λ output. (log : List Entry) → HasPromise e log → IsKnown log s × IsUnsent (of_session s log).wrote (of_session s log).sent output.now)
    (λ x h log has. h log has.0) c.output.ensures.log

pub returns-clause-none : goal.returns-clause-none
returns-clause-none c =
    let e = c.args.self.now in
    let s = c.args.session in
    none_weaker c.output.result (IsNoSession e s) ((log : List Entry) → HasPromise e log → IsKnown log s → ⊥) (λ h log has. h log has.0) c.output.ensures.none
