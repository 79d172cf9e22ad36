use Rattle.sf_laws.proofs.SameKinds.{kinds_stay}
use Rattle.sf_laws.proofs.change_laws.kinds_stay.Goals as goal

pub returns : goal.returns
returns c = λ history number session moment label request before after legal above fresh.
    kinds_stay (record { history = history; session = session; number = number; moment = moment; request = request; legal = legal; above = above; fresh = fresh }) label before after
