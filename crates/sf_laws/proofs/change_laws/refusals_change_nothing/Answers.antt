use Rattle.std.proofs.Common.{List, ap}
use Rattle.sf_call.specs.Changes.{Change, done}
use Rattle.sf_laws.proofs.Refusals.{refused_still}
use Rattle.sf_laws.proofs.change_laws.refusals_change_nothing.Goals as goal

pub returns : goal.returns
returns c tree session number moment request code is other = ap (λ (changes : List Change). done tree changes) (refused_still tree session number moment request code is other)
