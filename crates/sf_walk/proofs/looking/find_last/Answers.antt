use Rattle.std.proofs.Common.{sym}
use Rattle.sf_walk.proofs.Onward.{last_missing, last_there}
use Rattle.sf_walk.proofs.looking.find_last.Goals as goal

pub returns-in-Some-clause-found : goal.returns-in-Some-clause-found
returns-in-Some-clause-found c =
    last_there c.args.store.now c.args.path.now c.args.at.walked c.args.at.node c.requires.on_way c.name.result.now c.name.ensures c.in-Some.node (sym c.in-Some.ensures.found) c.requires.last

pub returns-in-None-clause-found : goal.returns-in-None-clause-found
returns-in-None-clause-found c =
    last_missing c.args.store.now c.args.path.now c.args.at.walked c.args.at.node c.requires.on_way c.name.result.now c.name.ensures (sym c.in-None.ensures.found) c.requires.last
