use Rattle.sf_call.proofs.KindsOfReplies.{after_told}
use Rattle.sf_call.proofs.tree_laws.told_replies.Goals as goal

pub returns : goal.returns
returns c = after_told
