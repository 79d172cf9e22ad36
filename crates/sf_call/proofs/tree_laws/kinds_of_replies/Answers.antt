use Rattle.sf_call.proofs.KindsOfReplies.{applied}
use Rattle.sf_call.proofs.tree_laws.kinds_of_replies.Goals as goal

pub returns : goal.returns
returns c = applied
