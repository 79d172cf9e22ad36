use Rattle.sf_wire.proofs.Streams.{cut_by_packets}
use Rattle.sf_wire.proofs.packet_laws.cut_by_packets.Goals as goal

pub returns : goal.returns
returns c = cut_by_packets
