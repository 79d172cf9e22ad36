use Rattle.sf_loading.proofs.Turning.{SoFar}
use Rattle.sf_loading.proofs.making.make_all.Given as goal

abbrev pub invariant-loop-count : goal.invariant-loop-count
invariant-loop-count g l = SoFar g.S.Server.reaches l.session l.initial.server l.server (g.F.Folder.items l.initial.folder) (g.F.Folder.items l.folder) l.handle l.count
