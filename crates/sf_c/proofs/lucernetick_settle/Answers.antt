use Rattle.std.proofs.Common.{ℤ, rules}
use Rattle.sf_c.specs.Journals.{Settles}
use Rattle.sf_c.proofs.Calls.{in_both}
use Rattle.sf_c.proofs.lucernetick_settle.Goals as goal

pub returns : goal.returns
returns c = in_both (λ (n : ℤ). Settles c.args.most c.args.session c.args.moment n c.settle_at-number.new.moved) c.settle_at-number.result (search rules) c.take-engine.ensures.engine c.take-refusals.ensures.refusals c.put.ensures c.put-2.ensures c.deref_mut.ensures.value c.deref_mut-2.ensures.value c.settle_at-number.ensures
