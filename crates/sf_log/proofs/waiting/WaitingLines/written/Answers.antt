use Rattle.std.proofs.Common.{inr, rules}
use Rattle.sf_log.proofs.waiting.WaitingLines.written.Goals as goal

pub returns-in_default : goal.returns-in_default
returns-in_default c = (search rules, inr (c.count_lines-count.result, search rules, search rules))
