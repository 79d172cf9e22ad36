use Rattle.std.proofs.Common.{ℕ, refl, subst}
use Rattle.std.specs.Io.KnownBytes.{Appends}
use Rattle.sf_server.specs.Totals.{totals_text}
use Rattle.sf_server.proofs.totals.tell.Goals as goal

pub returns-in-Ok-write_totals-clause-told : goal.returns-in-Ok-write_totals-clause-told
returns-in-Ok-write_totals-clause-told g c =
    let old = g.W.Write.contents c.args.output.now in
    let new = g.W.Write.contents c.write_totals.new.output in
    let text = subst (λ (folded : ℕ). Appends old new (totals_text c.args.sessions c.of-totals.result.recorded folded)) c.folded.ensures c.in-Ok-write_totals.ensures in
    (c.in-Ok.ensures.ok.0 refl, λ h is. subst (λ (calls : ℕ). Appends old new (totals_text c.args.sessions calls c.args.core.now.folded)) (c.of-totals.ensures.recorded h is) text)
