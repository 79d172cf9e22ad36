use Rattle.sf_path.proofs.Fronts.{whole_front, front_whole}
use Rattle.sf_path.proofs.path.Path.begins_with.Goals as goal

pub returns : goal.returns
returns c =
    let k = c.common.ensures in
    rw c.len.ensures ((λ e. whole_front _ _ _ k.alike e), λ w. front_whole _ _ w.0 _ k.within_other k.longest w.1)
