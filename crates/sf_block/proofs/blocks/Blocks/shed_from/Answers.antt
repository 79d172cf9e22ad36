use Rattle.sf_block.proofs.InRows.{cut_bytes, cut_less}
use Rattle.sf_block.proofs.blocks.Blocks.shed_from.Goals as goal

pub returns-clause-bytes : goal.returns-clause-bytes
returns-clause-bytes c = cut_bytes c.args.self.now c.drop_from.new.self c.truncate.new.self c.args.n c.drop_from.ensures c.truncate.ensures

pub returns-clause-less : goal.returns-clause-less
returns-clause-less c = cut_less c.args.self.now c.drop_from.new.self c.truncate.new.self c.args.n c.drop_from.ensures c.truncate.ensures
