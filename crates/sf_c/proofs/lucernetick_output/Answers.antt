use Rattle.std.proofs.Common.{ℤ, rules}
use mir.Syntax.{w64}
use mir.Val.{to_z, of_z}
use Rattle.sf_c.specs.Journals.{Outputs}
use Rattle.sf_c.proofs.Calls.{stored, of_both}
use Rattle.sf_c.proofs.lucernetick_output.Goals as goal

pub returns-clause-copied : goal.returns-clause-copied
returns-clause-copied c =
    let n = c.copy_output-number.result in
    let new = c.copy_output-number.new.room in
    let copied = stored (λ (m : ℤ). Outputs c.deref.result.now c.deref-2.result.now c.args.session c.args.room.now m new) n (search rules) c.copy_output-number.ensures in
    of_both (λ e r. Outputs e r c.args.session c.args.room.now (to_z w64 (of_z w64 n)) new) c.take-engine.ensures.engine c.take-refusals.ensures.refusals c.deref.ensures c.deref-2.ensures copied
