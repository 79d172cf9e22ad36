use Rattle.sf_roll.proofs.Growing.{begins}
use Rattle.sf_roll.proofs.log.NewLog.new.Goals as goal

pub of_words-requires : goal.of_words-requires
of_words-requires g c = begins
