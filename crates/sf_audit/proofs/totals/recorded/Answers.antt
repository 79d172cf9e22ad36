use Rattle.std.proofs.Common.{◌≡◌, arith, ap, ◌∙◌}
use Rattle.std.specs.List.{count_by}
use Rattle.sf_book.specs.Books.{is_call}
use Rattle.sf_audit.proofs.Counted.{counted, not_more}
use Rattle.sf_audit.proofs.totals.recorded.Goals as goal

pub overflow_add-result : goal.overflow_add-result
overflow_add-result c =
    let whole = c.history.ensures.whole in
    let kept : c.call_count-kept.result ≡ count_by is_call c.args.core.now.records = c.call_count-kept.ensures ∙ ap (count_by is_call) c.history.ensures.records in
    omega (arith, kept, c.folded.ensures, counted c.args.core.now whole.0 whole.1, not_more c.args.core.now whole.0 whole.1, c.requires, c.ranges.calls.fits)

pub returns-clause-all : goal.returns-clause-all
returns-clause-all c = λ h is.
    let kept : c.call_count-kept.result ≡ count_by is_call c.args.core.now.records = c.call_count-kept.ensures ∙ ap (count_by is_call) c.history.ensures.records in
    omega (arith, kept, c.folded.ensures, counted c.args.core.now h is)

pub returns-clause-most : goal.returns-clause-most
returns-clause-most c =
    let whole = c.history.ensures.whole in
    let kept : c.call_count-kept.result ≡ count_by is_call c.args.core.now.records = c.call_count-kept.ensures ∙ ap (count_by is_call) c.history.ensures.records in
    omega (arith, kept, c.folded.ensures, counted c.args.core.now whole.0 whole.1, not_more c.args.core.now whole.0 whole.1, c.requires)
