use Rattle.std.proofs.Common.{rules, arith, ◌<◌, ap, ◌∙◌, ◌==◌, []}
use Rattle.std.specs.Prelude.{fold}
use borrow.Author.Tests.{tests}
use Rattle.std.proofs.lemmas.Iterator.Splits.{YieldsList-from_slice_split}
use Rattle.std.proofs.lemmas.Iterator.Consumers.{YieldsList-turn, YieldsList-end}
use Rattle.std.proofs.lemmas.List.Elements.{All-from_get_or}
use Rattle.sf_path.specs.Normal.{with_part}
use Rattle.sf_path.proofs.Parts.{are_parts}
use Rattle.sf_path.proofs.parse.names_of.Goals as goal

pub add_part-requires : goal.add_part-requires
add_part-requires c =
    let gave = c.into_iter-part-iterator.ensures in
    let turn = YieldsList-turn (YieldsList-from_slice_split _ (λ b. b == 47) c.args.text.now (search rules) (search rules) (search rules) (λ x r q k. search (rules, tests))) c.loop-part.yielded _ c.loop-part.yielded_by _ _ _ c.in-Some.is c.next.ensures.steps in
    rw turn.1 (are_parts c.args.text.now (All-from_get_or (λ b. b < 256) _ 0 (λ i lt. omega (arith, c.type_inv.text i))) c.requires _ _ turn.0)

pub returns : goal.returns
returns c =
    let gave = c.into_iter-part-iterator.ensures in
    c.loop-part.invariant ∙ ap (fold with_part []) (YieldsList-end (YieldsList-from_slice_split _ (λ b. b == 47) c.args.text.now (search rules) (search rules) (search rules) (λ x r q k. search (rules, tests))) c.loop-part.yielded _ c.loop-part.yielded_by _ _ c.in-None.is c.next.ensures.steps).0
