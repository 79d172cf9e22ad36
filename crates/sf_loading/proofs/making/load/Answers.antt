use Rattle.sf_loading.proofs.Turning.{session_made}
use Rattle.sf_loading.proofs.making.load.Goals as goal

pub returns : goal.returns
returns g c = session_made c.in-Ok.session c.make_all-made.result g.met.S.Server.on c.in-Ok.ensures c.make_all-made.ensures c.finish.ensures
