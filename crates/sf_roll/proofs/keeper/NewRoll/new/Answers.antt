use Rattle.sf_roll.proofs.Moves.{begins}
use Rattle.sf_roll.proofs.keeper.NewRoll.new.Goals as goal

pub of_words-requires : goal.of_words-requires
of_words-requires g c = begins g.E.RollEntry.fresh
