use Rattle.sf_reply.proofs.OneReply.{one_reply}
use Rattle.sf_reply.proofs.reply_laws.one_reply.Goals as goal

pub returns : goal.returns
returns c = one_reply
