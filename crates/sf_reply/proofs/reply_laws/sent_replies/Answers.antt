use Rattle.std.proofs.Common.{refl}
use Rattle.sf_reply.proofs.Laws.{one_spelling}
use Rattle.sf_reply.proofs.reply_laws.sent_replies.Goals as goal

pub returns-clause-spelled : goal.returns-clause-spelled
returns-clause-spelled c = λ id reply id_fits fits. record { id_fits = id_fits; fits = fits; parts = refl }

pub returns-clause-only : goal.returns-clause-only
returns-clause-only c = one_spelling
