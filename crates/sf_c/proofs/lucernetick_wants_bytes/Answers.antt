use Rattle.sf_c.specs.Journals.{SaysItWaits}
use Rattle.sf_c.proofs.Calls.{of_both}
use Rattle.sf_c.proofs.lucernetick_wants_bytes.Goals as goal

pub returns-clause-wants : goal.returns-clause-wants
returns-clause-wants c = of_both (λ e r. SaysItWaits e r c.args.session c.wants_bytes-wants.result) c.take-engine.ensures.engine c.take-refusals.ensures.refusals c.deref.ensures c.deref-2.ensures c.wants_bytes-wants.ensures
