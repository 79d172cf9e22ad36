use Rattle.std.proofs.Common.{[], Ok, Err, refl, arith}
use Rattle.sf_loading.specs.declared.making.LoadFault.TheVariants.{TooMany}
use Rattle.sf_loading.proofs.Turning.{none_so_far, one_more, last_turn, all_made}
use Rattle.sf_loading.proofs.making.make_all.Goals as goal

pub loop-count-init : goal.loop-count-init
loop-count-init g c = none_so_far g.S.Server.reaches c.args.session c.args.server.now (g.F.Folder.items c.args.folder.now) (g.met.S.Server.none c.args.server.now)

pub returns-in-Ok-None : goal.returns-in-Ok-None
returns-in-Ok-None g c = all_made c.turn.new.server (g.F.Folder.items c.turn.new.folder) (Ok tt) g.met.S.Server.on c.loop-count.invariant (rw c.in-Ok-None.field-0-is at c.in-Ok-None.ensures)

pub returns-in-Err : goal.returns-in-Err
returns-in-Err g c = all_made c.turn.new.server (g.F.Folder.items c.turn.new.folder) (Err c.in-Err.fault) g.met.S.Server.on c.loop-count.invariant (c.in-Err.ensures.0, c.in-Err.ensures.1, last_turn _ _ _ _ _ _ c.in-Err.fault c.in-Err.ensures.2)

pub loop-count-preserved : goal.loop-count-preserved
loop-count-preserved g c = one_more c.turn.new.server (g.F.Folder.items c.turn.new.folder) c.in-Ok-Some.last g.met.S.Server.on c.loop-count.invariant (rw c.in-Ok-Some.field-0-is at c.in-Ok-Some.ensures)

pub returns : goal.returns
returns g c = all_made c.loop-count.server (g.F.Folder.items c.loop-count.folder) (Err TooMany) g.met.S.Server.on c.loop-count.invariant ([], g.met.S.Server.none c.loop-count.server, (omega (arith, c.loop-count.invariant.counted), refl, refl))
