use Rattle.std.proofs.Common.{sym, ◌∙◌}
use Rattle.sf_audit.proofs.Exact as exact
use Rattle.sf_audit.proofs.same.same_listing.Goals as goal

pub returns : goal.returns
returns c =
    let d = exact.listings c.as_slice.result.now c.as_slice-2.result.now in
    let left = c.as_slice.ensures in
    let right = c.as_slice-2.ensures in
    ((λ h. sym left ∙ (d.0 (sym c.eq.ensures ∙ h) ∙ right)), (λ e. c.eq.ensures ∙ d.1 (left ∙ (e ∙ sym right))))
