use Rattle.std.proofs.Common.{◌≡◌, [], rules}
use Rattle.sf_log.specs.Waiting.{loses}
use Rattle.sf_log.proofs.waiting.WaitingLines.give_up.Goals as goal

pub returns : goal.returns
returns c =
    let is : c.lose.new.self ≡ loses c.count_lines-count.result (record c.args.self.now { waiting = [] }) = search rules in
    (c.count_lines-count.result, is)
