use Rattle.sf_field.proofs.SentAttributes.{sent_is_spelled}
use Rattle.sf_field.proofs.field_laws.sent_is_spelled.Goals as goal

pub returns : goal.returns
returns c = sent_is_spelled
