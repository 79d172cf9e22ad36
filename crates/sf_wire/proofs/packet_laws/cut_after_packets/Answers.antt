use Rattle.sf_wire.proofs.Streams.{cut_after, cut_left}
use Rattle.sf_wire.proofs.packet_laws.cut_after_packets.Goals as goal

pub returns-clause-there : goal.returns-clause-there
returns-clause-there c = cut_after

pub returns-clause-back : goal.returns-clause-back
returns-clause-back c = cut_left
