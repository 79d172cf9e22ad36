use Rattle.sf_call.proofs.Laws.{packet_short, reply_fits}
use Rattle.sf_call.proofs.history_laws.replies_fit.Goals as goal

pub returns-clause-packet : goal.returns-clause-packet
returns-clause-packet c = packet_short

pub returns-clause-spelled : goal.returns-clause-spelled
returns-clause-spelled c = reply_fits
