use Rattle.sf_wire.proofs.OneForm.{one_packet}
use Rattle.sf_wire.proofs.packet_laws.one_packet.Goals as goal

pub returns : goal.returns
returns c = one_packet
