use Rattle.std.proofs.Common.{◌≡◌, ◌+◌, ◌*◌, vec_len}
use Rattle.sf_workers.proofs.workers.new_workers.Given as goal

-- 257 parts are left for each worker
abbrev pub invariant-loop-own : goal.invariant-loop-own
invariant-loop-own g l = record {
  parts : l.all.parts ≡ 257 * vec_len l.tools;
  each : vec_len l.workers + vec_len l.tools ≡ vec_len l.fn.tools;
  none : l.all.amount ≡ 0;
  same : l.receipts ≡ l.initial.receipts;
}

abbrev pub decreases-loop-own : goal.decreases-loop-own
decreases-loop-own g l = vec_len l.tools
