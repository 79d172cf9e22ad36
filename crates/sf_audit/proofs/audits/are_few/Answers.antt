use Rattle.std.proofs.Common.{◌≡◌, not, get_or, ap, ◌∙◌, arith}
use Rattle.std.specs.List.{prefix_len}
use Rattle.std.proofs.lemmas.List.Sums.{sum_by_more_le}
use Rattle.sf_audit.specs.Audits.{is_kept, front_len}
use Rattle.sf_audit.proofs.audits.are_few.Goals as goal

pub returns-then-front-left : goal.returns-then-front-left
returns-then-front-left c =
    let records = c.args.records.now in
    let ts = c.args.transcripts.now in
    let i = c.loop-transcript.transcript-index in
    let t = c.transcript-item.result in
    let within = sum_by_more_le (front_len records) ts i t c.loop-transcript-test.true in
    let front : c.front_len-front.result ≡ front_len records t = c.front_len-front.ensures.count ∙ ap (λ es. prefix_len (λ e. not (is_kept records e)) es) c.as_slice.ensures.value in
    let at : front_len records t ≡ front_len records (get_or ts i t) = ap (front_len records) c.transcript-item.is in
    ((λ h. absurd cc), (λ few. absurd (omega (arith, within, front, at, c.loop-transcript.invariant, c.if-front-left.true, few))))
