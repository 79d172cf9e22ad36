use Rattle.std.proofs.Common.{◌≡◌, ◌∙◌, ◌++◌, ℕ, ℤ, List, Option, Some, None, IfSome, take, drop, ap, sym, subst, rules}
use Rattle.std.proofs.lemmas.List.{take-append-drop}
use Rattle.sf_call.specs.declared.record.Record.{Record}
use mir.Syntax.{w64}
use mir.Val.{to_z, of_z}
use Rattle.sf_engine.specs.Views.{EngineView}
use Rattle.sf_c.specs.Numbers.{KeepsLastRecords}
use Rattle.sf_c.specs.Records.{TellsRecord}
use Rattle.sf_c.proofs.Calls.{stored}
use Rattle.sf_c.proofs.lucernetick_call.Goals as goal

pub returns-clause-tells : goal.returns-clause-tells
returns-clause-tells c =
    let n = c.copy_record-number.result in
    let parts = c.copy_record-number.new.parts in
    let new = c.copy_record-number.new.room in
    subst (λ (o : Option EngineView). IfSome o (λ e. TellsRecord e c.args.at c.args.parts.now c.args.room.now (to_z w64 (of_z w64 n)) parts new)) (sym c.take-engine.ensures.engine)
    (stored (λ (m : ℤ). TellsRecord c.take-engine.result.value c.args.at c.args.parts.now c.args.room.now m parts new) n (search rules)
    (subst (λ (e : EngineView). TellsRecord e c.args.at c.args.parts.now c.args.room.now n parts new) c.deref.ensures c.copy_record-number.ensures))

last_of : (n : ℕ) (h rs : List Record) → rs ≡ drop n h → (gone : List Record) × (h ≡ gone ++ rs)
last_of n h rs is = (take n h, sym (take-append-drop n h) ∙ ap (λ (xs : List Record). take n h ++ xs) (sym is))

last : (o : Option EngineView) → IfSome o KeepsLastRecords
last (Some engine) = λ log has. last_of _ _ engine.core.records has.0.history.records
last None = tt

pub returns-clause-last : goal.returns-clause-last
returns-clause-last c = last c.args.held.now.engine
