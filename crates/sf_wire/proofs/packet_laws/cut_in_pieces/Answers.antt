use Rattle.sf_wire.proofs.Streams.{cut_stays, cut_grows}
use Rattle.sf_wire.proofs.packet_laws.cut_in_pieces.Goals as goal

pub returns-clause-stays : goal.returns-clause-stays
returns-clause-stays c = cut_stays

pub returns-clause-grows : goal.returns-clause-grows
returns-clause-grows c = cut_grows
