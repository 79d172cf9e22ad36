-- FSTAT changes nothing.
use Rattle.std.specs.Prelude.{Some, Option, ◌≡◌}
use Rattle.sf_reply.specs.declared.reply.Reply.{Reply}
use Rattle.sf_call.specs.Tree.{Tree}
use Rattle.sf_call.specs.Calls.{stat_opened}
use Rattle.sf_inode.specs.Stores.{StoreState}
use Rattle.sf_keeps.specs.Keeps.{Keeps}
use Rattle.sf_walk.specs.Served.{IsCarriedOut}
use Rattle.sf_call.specs.Attributes.{Object}
use Rattle.sf_call.specs.Attributes.Object.{Directory}
use Rattle.sf_call.specs.declared.handle.Handle.{Handle}

pub stat_opened_served : (o : Option (Handle × Object)) (s : StoreState) (t : Tree) (r : Reply) → Keeps s t → r ≡ (stat_opened o).reply → IsCarriedOut s t (stat_opened o) r
stat_opened_served (Some (handle, Directory m)) s t r k e = record { told = e; tree = k }
stat_opened_served _ s t r k e = record { told = e; tree = k }
