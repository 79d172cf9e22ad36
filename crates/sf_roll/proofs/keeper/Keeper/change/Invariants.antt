use Rattle.sf_roll.proofs.keeper.Keeper.change.Given as goal

abbrev pub ghosts-change_to : goal.ghosts-change_to
ghosts-change_to g a = record { becomes = λ e. g.S.EntryChange.after e a._said.now }
