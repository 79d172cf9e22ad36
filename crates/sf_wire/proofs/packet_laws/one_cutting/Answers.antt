use Rattle.sf_wire.proofs.Streams.{cutting, one_cutting}
use Rattle.sf_wire.proofs.packet_laws.one_cutting.Goals as goal

pub returns-clause-exists : goal.returns-clause-exists
returns-clause-exists c = cutting

pub returns-clause-unique : goal.returns-clause-unique
returns-clause-unique c = one_cutting
