use Rattle.std.proofs.Common.{sym, ap, ◌∙◌, arith, ◌+◌, List, Option}
use Rattle.sf_inode.specs.declared.node.Node.{Node}
use Rattle.sf_inode.specs.Stores.{child_of, is_directory_at}
use Rattle.sf_walk.proofs.WaySteps.{way_lacks, way_goes, missing_last, missing_on}
use Rattle.sf_walk.proofs.LookUps.{looked_more, looked_less}
use Rattle.sf_walk.proofs.finding.locate.Goals as goal

pub returns-then-i-len-clause-found : goal.returns-then-i-len-clause-found
returns-then-i-len-clause-found c =
    let inv = c.loop-i.invariant in
    let dir = ap (λ (ns : List (Option Node)). is_directory_at ns c.loop-i.node) (sym inv.nodes) ∙ sym c.if-not-is_directory.ensures in
    let none = ap (λ (ns : List (Option Node)). child_of ns c.loop-i.node c.name.result.now) (sym inv.nodes) ∙ sym c.in-None.ensures.found in
    sym (sym inv.way ∙ way_lacks _ c.loop-i.parent c.loop-i.node c.args.path.now (record { at = c.loop-i.i; name = c.name.result.now; within = omega arith; is = c.name.ensures }) dir none ∙ missing_last c.loop-i.node c.args.path.now (c.loop-i.i + 1) (omega arith))

pub returns-in-None-clause-found : goal.returns-in-None-clause-found
returns-in-None-clause-found c =
    let inv = c.loop-i.invariant in
    let dir = ap (λ (ns : List (Option Node)). is_directory_at ns c.loop-i.node) (sym inv.nodes) ∙ sym c.if-not-is_directory.ensures in
    let none = ap (λ (ns : List (Option Node)). child_of ns c.loop-i.node c.name.result.now) (sym inv.nodes) ∙ sym c.in-None.ensures.found in
    sym (sym inv.way ∙ way_lacks _ c.loop-i.parent c.loop-i.node c.args.path.now (record { at = c.loop-i.i; name = c.name.result.now; within = omega arith; is = c.name.ensures }) dir none ∙ missing_on c.loop-i.node c.args.path.now (c.loop-i.i + 1) (omega arith))

pub returns-in-None-clause-looked : goal.returns-in-None-clause-looked
returns-in-None-clause-looked c = looked_less _ _ _ _ (looked_more _ _ _ _ c.loop-i.invariant.looked c.find.ensures.counted) (omega arith)

pub loop-i-preserved : goal.loop-i-preserved
loop-i-preserved c =
    let inv = c.loop-i.invariant in
    let dir = ap (λ (ns : List (Option Node)). is_directory_at ns c.loop-i.node) (sym inv.nodes) ∙ sym c.if-not-is_directory.ensures in
    let some = ap (λ (ns : List (Option Node)). child_of ns c.loop-i.node c.name.result.now) (sym inv.nodes) ∙ sym c.in-Some.ensures.found in
    record {
      nodes = ap (λ s. s.nodes) c.find.ensures.counted ∙ inv.nodes;
      way = way_goes _ c.loop-i.parent c.loop-i.node c.in-Some.child c.args.path.now (record { at = c.loop-i.i; name = c.name.result.now; within = omega arith; is = c.name.ensures }) dir some ∙ inv.way;
      looked = looked_more _ _ _ _ inv.looked c.find.ensures.counted;
    }
