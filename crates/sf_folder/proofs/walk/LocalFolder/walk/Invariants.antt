use Rattle.std.proofs.Common.{vec_len}
use Rattle.sf_folder.proofs.walk.LocalFolder.walk.Given as goal

abbrev pub decreases-loop-self : goal.decreases-loop-self
decreases-loop-self l = vec_len l.self.inner.names
