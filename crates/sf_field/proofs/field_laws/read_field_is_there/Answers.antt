use Rattle.sf_field.proofs.FieldLaws.{reads_u32, reads_u64, reads_string}
use Rattle.sf_field.proofs.AttributeLaws.{attrs_take}
use Rattle.sf_field.proofs.FieldLaws.{IsBytes-of}
use Rattle.sf_field.proofs.field_laws.read_field_is_there.Goals as goal

pub returns-clause-number : goal.returns-clause-number
returns-clause-number c = λ bytes rest n all e. let t = reads_u32.takes bytes n rest (IsBytes-of bytes all) e in (t.0.parts, t.1)

pub returns-clause-long_number : goal.returns-clause-long_number
returns-clause-long_number c = λ bytes rest n all e. let t = reads_u64.takes bytes n rest (IsBytes-of bytes all) e in (t.0.parts, t.1)

pub returns-clause-string : goal.returns-clause-string
returns-clause-string c = λ bytes text rest all e. let t = reads_string.takes bytes text rest (IsBytes-of bytes all) e in (t.0.parts, t.1)

pub returns-clause-attrs : goal.returns-clause-attrs
returns-clause-attrs c = λ bytes rest attrs all e. let t = attrs_take bytes attrs rest (IsBytes-of bytes all) e in (t.0, t.1.parts, t.2)
