use Rattle.sf_reply.proofs.LineLengths.{longname_short}
use Rattle.sf_reply.proofs.reply_laws.longname_lengths.Goals as goal

pub returns : goal.returns
returns c = longname_short
