use Rattle.sf_roll.proofs.log.Log.grow.Given as goal

abbrev pub ghosts-grow_by : goal.ghosts-grow_by
ghosts-grow_by g a = record { adds = λ log added. g.S.LogGrowth.may_add a._said.now log added }
