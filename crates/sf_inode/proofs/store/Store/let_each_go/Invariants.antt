use Rattle.std.proofs.Common.{◌≡◌, length}
use Rattle.sf_inode.specs.Stores.{each_let_go}
use Rattle.sf_inode.proofs.store.Store.let_each_go.Given as goal

abbrev pub invariant-loop-handle : goal.invariant-loop-handle
invariant-loop-handle l = each_let_go l.self l.handles ≡ each_let_go l.initial.self l.initial.handles

abbrev pub decreases-loop-handle : goal.decreases-loop-handle
decreases-loop-handle l = length l.handles
