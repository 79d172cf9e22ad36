use Rattle.sf_field.proofs.FlagBits.{bits_say}
use Rattle.sf_field.proofs.field_laws.bits_say_flags.Goals as goal

pub returns-clause-say : goal.returns-clause-say
returns-clause-say c = λ flags. (bits_say flags).0

pub returns-clause-fit : goal.returns-clause-fit
returns-clause-fit c = λ flags. (bits_say flags).1
