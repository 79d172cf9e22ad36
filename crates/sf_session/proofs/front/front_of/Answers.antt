use Rattle.std.proofs.Common.{subst, List, ℕ, rules}
use Rattle.std.specs.Prelude.{slice_range}
use Rattle.sf_session.specs.Asking.{AsksFor}
use Rattle.sf_session.proofs.front.front_of.Goals as goal

pub returns-in_ok-ask-in-Whole : goal.returns-in_ok-ask-in-Whole
returns-in_ok-ask-in-Whole c = (
  slice_range c.args.unread.now 4 c.in-Whole.len,
  search rules,
  subst (λ (bytes : List ℕ). AsksFor c.args.begun (slice_range bytes 4 c.in-Whole.len) c.in_ok-ask-in-Whole.ask)
      c.as_slice.ensures c.in_ok-ask-in-Whole.ensures,
  search rules,
)
