use Rattle.std.proofs.Common.{◌≡◌, ◌++◌, vec_len}
use Rattle.sf_inode.proofs.store.leaves.put_first.Given as goal

abbrev pub invariant-loop-last : goal.invariant-loop-last
invariant-loop-last l = l.below.items ++ l.waiting.items ≡ l.fn.below.items ++ l.fn.waiting.items

abbrev pub decreases-loop-last : goal.decreases-loop-last
decreases-loop-last l = vec_len l.below
