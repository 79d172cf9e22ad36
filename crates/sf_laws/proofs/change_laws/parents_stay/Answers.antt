use Rattle.sf_laws.proofs.Parents.{parents}
use Rattle.sf_laws.proofs.change_laws.parents_stay.Goals as goal

pub returns : goal.returns
returns c tree session number moment label request path m own apart named is = parents tree session number moment label m apart is request path own named
