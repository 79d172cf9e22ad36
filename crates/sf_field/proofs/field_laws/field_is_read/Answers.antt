use Rattle.sf_field.proofs.FieldLaws.{reads_u32, reads_u64, reads_string}
use Rattle.sf_field.proofs.AttributeLaws.{attrs_again}
use Rattle.sf_field.proofs.field_laws.field_is_read.Goals as goal

pub returns-clause-number : goal.returns-clause-number
returns-clause-number c = reads_u32.again

pub returns-clause-long_number : goal.returns-clause-long_number
returns-clause-long_number c = reads_u64.again

pub returns-clause-string : goal.returns-clause-string
returns-clause-string c = reads_string.again

pub returns-clause-attrs : goal.returns-clause-attrs
returns-clause-attrs c = λ attrs text rest spelled. attrs_again text attrs rest spelled
