use Rattle.sf_wire.proofs.Streams.{cut_is_spelled}
use Rattle.sf_wire.proofs.packet_laws.cut_is_spelled.Goals as goal

pub returns : goal.returns
returns c = cut_is_spelled
