use Rattle.sf_laws.proofs.SameReplies.{same_history}
use Rattle.sf_laws.proofs.history_laws.equal_replies.Goals as goal

pub returns : goal.returns
returns c = same_history
