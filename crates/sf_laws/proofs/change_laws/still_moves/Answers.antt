use Rattle.sf_laws.proofs.StillMoves.{still_after}
use Rattle.sf_laws.proofs.change_laws.still_moves.Goals as goal

pub returns : goal.returns
returns c = λ history number session moment request old new legal above fresh below.
    still_after (record { history = history; session = session; number = number; moment = moment; request = request; legal = legal; above = above; fresh = fresh }) old new
    (λ path own. let b = below path own in record { name = b.0; rest = b.1; is = b.2 })
