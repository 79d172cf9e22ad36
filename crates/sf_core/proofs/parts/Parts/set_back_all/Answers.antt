use Rattle.std.proofs.Common.{◌+◌, ◌∙◌, sym, ap, drop}
use Rattle.std.proofs.lemmas.List.{drop_more}
use Rattle.sf_core.specs.Parts.{PartsView}
use Rattle.sf_core.specs.Stepping.{all_set_back}
use Rattle.sf_core.proofs.parts.Parts.set_back_all.Goals as goal

pub loop-number-preserved : goal.loop-number-preserved
loop-number-preserved c =
    let ns = c.args.numbers.now in
    let i = c.loop-number.number-index in
    let more = drop_more ns i 0 c.loop-number-test.true in
    ap (λ (q : PartsView). all_set_back q (drop (i + 1) ns)) c.set_back.ensures ∙ sym (ap (all_set_back c.loop-number.self) more) ∙ c.loop-number.invariant
