use Rattle.std.proofs.Common.{◌-◌, ◌≤◌, length, drop, arith, length-drop}
use Rattle.sf_trees.proofs.Ways.{piece_front}
use Rattle.sf_trees.proofs.making.piece_at.Goals as goal

pub returns-clause-is : goal.returns-clause-is
returns-clause-is c =
    let rest = drop c.args.at c.args.contents.now in
    let len = length c.args.contents.now - c.args.at in
    let short : length rest ≤ len = grind (arith, length-drop) in
    piece_front rest len c.min-count.result short c.min-count.ensures
