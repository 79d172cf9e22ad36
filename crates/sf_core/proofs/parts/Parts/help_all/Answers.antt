use Rattle.std.proofs.Common.{sym, ap, subst, length, List, ℕ, arith}
use Rattle.std.proofs.lemmas.List.{drop_more}
use Rattle.sf_core.specs.Finishing.{AreOnPaths}
use Rattle.sf_core.specs.Stepping.{HelpsAll}
use Rattle.sf_core.proofs.Helped.{path_first, paths_later}
use Rattle.sf_core.proofs.parts.Parts.help_all.Goals as goal

pub help-requires-clause-room : goal.help-requires-clause-room
help-requires-clause-room c =
    let more = ap (λ (xs : List ℕ). length xs) (drop_more c.args.numbers.now c.loop-number.number-index 0 c.loop-number-test.true) in
    omega (arith, more, c.loop-number.invariant.room)

pub help-requires-clause-settled : goal.help-requires-clause-settled
help-requires-clause-settled c = c.loop-number.invariant.settled

pub help-requires-clause-path : goal.help-requires-clause-path
help-requires-clause-path c =
    path_first c.loop-number.self _ _ (subst (λ (xs : List ℕ). AreOnPaths c.loop-number.self xs) (drop_more c.args.numbers.now c.loop-number.number-index 0 c.loop-number-test.true) c.loop-number.invariant.paths)

pub loop-number-preserved : goal.loop-number-preserved
loop-number-preserved c =
    let more = drop_more c.args.numbers.now c.loop-number.number-index 0 c.loop-number-test.true in
    let many = ap (λ (xs : List ℕ). length xs) more in
    record {
      room = omega (arith, many, c.loop-number.invariant.room, c.help.ensures.room);
      settled = c.help.ensures.settled;
      paths = paths_later c.loop-number.self c.help.new.self _ _ c.help.ensures.requests (subst (λ (xs : List ℕ). AreOnPaths c.loop-number.self xs) more c.loop-number.invariant.paths);
      helps = λ q rest. c.loop-number.invariant.helps q (subst (λ (xs : List ℕ). HelpsAll c.loop-number.self xs q) (sym more) (c.help.new.self, c.help.ensures.helps, rest));
    }
