use Rattle.std.proofs.Common.{sym, ◌∙◌}
use Rattle.sf_audit.proofs.Exact as exact
use Rattle.sf_audit.proofs.same.same_flags.Goals as goal

pub returns : goal.returns
returns c = let d = exact.flags c.args.a c.args.b in ((λ h. d.0 (sym c.eq.ensures ∙ h)), (λ e. c.eq.ensures ∙ d.1 e))
