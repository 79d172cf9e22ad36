use Rattle.sf_reply.proofs.Laws.{plain_short, length-entry, length-names, attrs_short, length-one_name}
use Rattle.sf_reply.proofs.reply_laws.reply_lengths.Goals as goal

pub returns-clause-plain : goal.returns-clause-plain
returns-clause-plain c = plain_short

pub returns-clause-entry : goal.returns-clause-entry
returns-clause-entry c = length-entry

pub returns-clause-names : goal.returns-clause-names
returns-clause-names c = length-names

pub returns-clause-attrs : goal.returns-clause-attrs
returns-clause-attrs c = attrs_short

pub returns-clause-one_name : goal.returns-clause-one_name
returns-clause-one_name c = length-one_name
