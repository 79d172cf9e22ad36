use Rattle.std.proofs.Common.{ℕ, List, [], ◌∷◌, ◌++◌, ap, subst, ◌∙◌}
use Rattle.sf_program.specs.Terminal.{IsTerminalText}
use Rattle.sf_program.proofs.Lines.{lines_none, line_more, lines_all}
use Rattle.sf_program.proofs.client.list_lines.Goals as goal

pub loop-entry-init : goal.loop-entry-init
loop-entry-init c = lines_none _ c.args.entries.now c.before.new-lines.ensures.items

pub loop-entry-preserved : goal.loop-entry-preserved
loop-entry-preserved c =
    let text = c.in_ok-text.text.items in
    let made = c.in_ok-push.ensures.items ∙ ap (λ (t : List ℕ). t ++ 10 ∷ []) (c.in_ok-extend_from_slice.ensures.items ∙ ap (λ (t : List ℕ). c.loop-entry.lines.items ++ t) c.deref.ensures.value) in
    let shown = subst (λ (t : List ℕ). IsTerminalText t text) c.as_slice.ensures c.in_ok-text.ensures in
    line_more c.loop-entry.lines.items text _ c.args.entries.now c.loop-entry.entry-index c.entry-item.result c.entry-item.is c.loop-entry-test.true shown made c.loop-entry.invariant

pub returns : goal.returns
returns c = lines_all _ c.args.entries.now c.loop-entry.entry-index c.loop-entry-test.false c.loop-entry.invariant
