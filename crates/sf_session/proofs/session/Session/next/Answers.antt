use Rattle.std.proofs.Common.{subst}
use Rattle.sf_session.specs.declared.asking.Ask.{Ask}
use Rattle.sf_session.specs.declared.front.Front.{Front}
use Rattle.sf_session.specs.declared.front.Front.TheVariants.{Asks}
use Rattle.sf_session.specs.Sessions.{Fronts}
use Rattle.sf_session.proofs.ShortPackets.{front_short}
use Rattle.sf_session.proofs.session.Session.next.Goals as goal

pub local-requires-clause-short : goal.local-requires-clause-short
local-requires-clause-short c =
    let old = c.args.self.now in
    let asks = subst (λ (f : Front). Fronts old.begun old.unread f) c.in-Asks.is c.in-Ok.ensures in
    front_short old.begun old.unread c.in-Local.id c.in-Asks.len c.in-Local.reply (subst (λ (a : Ask). Fronts old.begun old.unread (Asks a c.in-Asks.len)) c.in-Local.is asks)
