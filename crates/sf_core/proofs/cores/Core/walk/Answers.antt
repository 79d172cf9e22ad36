use Rattle.std.proofs.Common.{refl, arith}
use Rattle.sf_core.proofs.OneBlock.{no_block}
use Rattle.sf_core.proofs.Walks.{foreign_end, waited_given, waited_end, moved_end, blocked_end, file_end, ready_core, ready_ways, ready_room, ready_places, made_there, made_ways, made_settled, made_not_write, made_room, its_given, decided_end}
use Rattle.sf_core.proofs.WriteWalks.{copies_on, copies_given, copies_end, writes_ready, writes_room, writes_given, writes_end}
use Rattle.sf_core.proofs.cores.Core.walk.Goals as goal

pub walk_on-requires-clause-core : goal.walk_on-requires-clause-core
walk_on-requires-clause-core c = c.self.invariant.0

pub invariant_of-self : goal.invariant_of-self
invariant_of-self c =
    let e = foreign_end _ _ c.in-Some.is _ _ _ c.self.invariant.1 _ c.self.view_is _ c.lane.view_is c.walk_on.new.self c.in-Foreign.ensures.comes in (e.0, e.1)

pub returns-in-Foreign : goal.returns-in-Foreign
returns-in-Foreign c =
    (foreign_end _ _ c.in-Some.is _ _ _ c.self.invariant.1 _ c.self.view_is _ c.lane.view_is c.walk_on.new.self c.in-Foreign.ensures.comes).2

pub new-requires : goal.new-requires
new-requires c =
    waited_given _ _ c.in-Some.is _ _ _ c.self.invariant.1 _ c.self.view_is _ c.lane.view_is c.walk_on.new.self c.in-Waits.ensures.comes c.fetch.new.self c.in-Some-fetch.reply c.in-Some-fetch.ensures.reply c.in-Some-fetch.ensures.some

pub invariant_of-self-in-Waits : goal.invariant_of-self-in-Waits
invariant_of-self-in-Waits c =
    let e = waited_end _ _ c.in-Some.is _ _ _ c.self.invariant.1 _ c.self.view_is _ c.lane.view_is c.walk_on.new.self c.in-Waits.ensures.comes c.fetch.new.self c.in-Some-fetch.reply c.in-Some-fetch.ensures.reply c.in-Some-fetch.ensures.some _ refl in (e.0, e.1)

pub returns-in-Some-fetch : goal.returns-in-Some-fetch
returns-in-Some-fetch c =
    (waited_end _ _ c.in-Some.is _ _ _ c.self.invariant.1 _ c.self.view_is _ c.lane.view_is c.walk_on.new.self c.in-Waits.ensures.comes c.fetch.new.self c.in-Some-fetch.reply c.in-Some-fetch.ensures.reply c.in-Some-fetch.ensures.some c.new.result c.new.ensures).2

pub invariant_of-self-in-Walked-Moved : goal.invariant_of-self-in-Walked-Moved
invariant_of-self-in-Walked-Moved c =
    let e = moved_end _ _ c.in-Some.is _ _ _ c.self.invariant.1 _ c.self.view_is _ c.lane.view_is c.in-Walked-Moved.field-0-0 c.walk_on.new.self (rw c.in-Walked-Moved.field-0-is at c.in-Walked-Moved.ensures.comes) in (e.0, e.1)

pub returns-in-Walked-Moved : goal.returns-in-Walked-Moved
returns-in-Walked-Moved c =
    (moved_end _ _ c.in-Some.is _ _ _ c.self.invariant.1 _ c.self.view_is _ c.lane.view_is c.in-Walked-Moved.field-0-0 c.walk_on.new.self (rw c.in-Walked-Moved.field-0-is at c.in-Walked-Moved.ensures.comes)).2

pub invariant_of-self-in-Walked-Blocked : goal.invariant_of-self-in-Walked-Blocked
invariant_of-self-in-Walked-Blocked c =
    let e = blocked_end _ _ c.in-Some.is _ _ _ c.self.invariant.1 _ c.self.view_is _ c.lane.view_is c.in-Walked-Blocked.holder c.walk_on.new.self (rw c.in-Walked-Blocked.field-0-is at c.in-Walked-Blocked.ensures.comes) in (e.0, e.1)

pub returns-in-Walked-Blocked : goal.returns-in-Walked-Blocked
returns-in-Walked-Blocked c =
    (blocked_end _ _ c.in-Some.is _ _ _ c.self.invariant.1 _ c.self.view_is _ c.lane.view_is c.in-Walked-Blocked.holder c.walk_on.new.self (rw c.in-Walked-Blocked.field-0-is at c.in-Walked-Blocked.ensures.comes)).2

pub overtake-requires-clause-located : goal.overtake-requires-clause-located
overtake-requires-clause-located c =
    ready_ways _ _ c.in-Some.is _ _ _ c.self.invariant.1 _ c.self.view_is _ c.lane.view_is c.in-Walked-Ready.ways c.walk_on.new.self (rw c.in-Walked-Ready.field-0-is at c.in-Walked-Ready.ensures.comes)

pub overtake-requires-clause-room : goal.overtake-requires-clause-room
overtake-requires-clause-room c =
    ready_room _ _ c.in-Some.is _ _ _ c.self.invariant.1 _ c.self.view_is _ c.lane.view_is c.in-Walked-Ready.ways c.walk_on.new.self (rw c.in-Walked-Ready.field-0-is at c.in-Walked-Ready.ensures.comes)

pub overtake-requires-clause-places : goal.overtake-requires-clause-places
overtake-requires-clause-places c =
    ready_places _ _ c.in-Some.is _ _ _ c.self.invariant.1 _ c.self.view_is _ c.lane.view_is c.in-Walked-Ready.ways c.walk_on.new.self (rw c.in-Walked-Ready.field-0-is at c.in-Walked-Ready.ensures.comes)

pub finish-reply-requires-clause-there : goal.finish-reply-requires-clause-there
finish-reply-requires-clause-there c =
    made_there _ _ c.in-Some.is _ _ _ c.self.invariant.1 _ c.self.view_is _ c.lane.view_is c.in-Walked-Ready.ways c.walk_on.new.self (rw c.in-Walked-Ready.field-0-is at c.in-Walked-Ready.ensures.comes) c.overtake.new.self c.overtake.ensures.helped

pub finish-reply-requires-clause-located : goal.finish-reply-requires-clause-located
finish-reply-requires-clause-located c =
    made_ways _ _ c.in-Some.is _ _ _ c.self.invariant.1 _ c.self.view_is _ c.lane.view_is c.in-Walked-Ready.ways c.walk_on.new.self (rw c.in-Walked-Ready.field-0-is at c.in-Walked-Ready.ensures.comes) c.overtake.new.self c.overtake.ensures.helped

pub finish-reply-requires-clause-room : goal.finish-reply-requires-clause-room
finish-reply-requires-clause-room c =
    made_room _ _ c.in-Some.is _ _ _ c.self.invariant.1 _ c.self.view_is _ c.lane.view_is c.in-Walked-Ready.ways c.walk_on.new.self (rw c.in-Walked-Ready.field-0-is at c.in-Walked-Ready.ensures.comes) c.overtake.new.self c.overtake.ensures.helped

pub new-requires-in-Walked-Ready : goal.new-requires-in-Walked-Ready
new-requires-in-Walked-Ready c =
    its_given _ _ c.in-Some.is _ _ _ c.self.invariant.1 _ c.self.view_is _ c.lane.view_is c.in-Walked-Ready.ways c.walk_on.new.self (rw c.in-Walked-Ready.field-0-is at c.in-Walked-Ready.ensures.comes) c.overtake.new.self c.overtake.ensures.helped c.finish-reply.new.self c.finish-reply.result c.finish-reply.ensures (λ d at. no_block c.walk_on.new.self.store d c.finish-reply.result (c.in-Walked-Ready.ensures.other tt d at))

pub invariant_of-self-in-Walked-Ready : goal.invariant_of-self-in-Walked-Ready
invariant_of-self-in-Walked-Ready c =
    let e = decided_end _ _ c.in-Some.is _ _ _ c.self.invariant.1 _ c.self.view_is _ c.lane.view_is c.in-Walked-Ready.ways c.walk_on.new.self (rw c.in-Walked-Ready.field-0-is at c.in-Walked-Ready.ensures.comes) c.overtake.new.self c.overtake.ensures.helped c.finish-reply.new.self c.finish-reply.result c.finish-reply.ensures (λ d at. no_block c.walk_on.new.self.store d c.finish-reply.result (c.in-Walked-Ready.ensures.other tt d at)) _ refl in let few = e.1 in (e.0, omega (arith, few, c.overtake.ensures.places))

pub returns-in-Walked-Ready : goal.returns-in-Walked-Ready
returns-in-Walked-Ready c =
    (decided_end _ _ c.in-Some.is _ _ _ c.self.invariant.1 _ c.self.view_is _ c.lane.view_is c.in-Walked-Ready.ways c.walk_on.new.self (rw c.in-Walked-Ready.field-0-is at c.in-Walked-Ready.ensures.comes) c.overtake.new.self c.overtake.ensures.helped c.finish-reply.new.self c.finish-reply.result c.finish-reply.ensures (λ d at. no_block c.walk_on.new.self.store d c.finish-reply.result (c.in-Walked-Ready.ensures.other tt d at)) c.new-in-Walked-Ready.result c.new-in-Walked-Ready.ensures).2

pub overtake-requires-clause-core : goal.overtake-requires-clause-core
overtake-requires-clause-core c =
    ready_core _ _ c.in-Some.is _ _ _ c.self.invariant.1 _ c.self.view_is _ c.lane.view_is c.in-Walked-Ready.ways c.walk_on.new.self (rw c.in-Walked-Ready.field-0-is at c.in-Walked-Ready.ensures.comes)

pub finish-reply-requires-clause-settled : goal.finish-reply-requires-clause-settled
finish-reply-requires-clause-settled c =
    made_settled _ _ c.in-Some.is _ _ _ c.self.invariant.1 _ c.self.view_is _ c.lane.view_is c.in-Walked-Ready.ways c.walk_on.new.self (rw c.in-Walked-Ready.field-0-is at c.in-Walked-Ready.ensures.comes) c.overtake.new.self c.overtake.ensures.helped

-- ---- a call whose file another call holds
pub invariant_of-self-in-FileHeld : goal.invariant_of-self-in-FileHeld
invariant_of-self-in-FileHeld c =
    let e = file_end _ _ c.in-Some.is _ _ _ c.self.invariant.1 _ c.self.view_is _ c.lane.view_is c.in-FileHeld.holder c.walk_on.new.self (rw c.in-FileHeld.holder-is at c.in-FileHeld.ensures.comes) in (e.0, e.1)

pub returns-in-FileHeld : goal.returns-in-FileHeld
returns-in-FileHeld c =
    (file_end _ _ c.in-Some.is _ _ _ c.self.invariant.1 _ c.self.view_is _ c.lane.view_is c.in-FileHeld.holder c.walk_on.new.self (rw c.in-FileHeld.holder-is at c.in-FileHeld.ensures.comes)).2

-- ---- a call that is copying
pub copy_on-reply-requires : goal.copy_on-reply-requires
copy_on-reply-requires c =
    copies_on _ _ c.in-Some.is _ _ _ c.self.invariant.1 _ c.self.view_is _ c.lane.view_is c.walk_on.new.self c.in-Copies.ensures.comes

pub reported-requires : goal.reported-requires
reported-requires c =
    copies_given _ _ c.in-Some.is _ _ _ c.self.invariant.1 _ c.self.view_is _ c.lane.view_is c.walk_on.new.self c.in-Copies.ensures.comes c.copy_on-reply.new.self c.copy_on-reply.result c.copy_on-reply.ensures.some

pub invariant_of-self-in-Copies : goal.invariant_of-self-in-Copies
invariant_of-self-in-Copies c =
    let e = copies_end _ _ c.in-Some.is _ _ _ c.self.invariant.1 _ c.self.view_is _ c.lane.view_is c.walk_on.new.self c.in-Copies.ensures.comes c.copy_on-reply.new.self c.copy_on-reply.result c.copy_on-reply.ensures.some c.copy_on-reply.ensures.none c.reported.result c.reported.new.lane c.reported.ensures in (e.0, e.1)

pub returns-in-Copies : goal.returns-in-Copies
returns-in-Copies c =
    (copies_end _ _ c.in-Some.is _ _ _ c.self.invariant.1 _ c.self.view_is _ c.lane.view_is c.walk_on.new.self c.in-Copies.ensures.comes c.copy_on-reply.new.self c.copy_on-reply.result c.copy_on-reply.ensures.some c.copy_on-reply.ensures.none c.reported.result c.reported.new.lane c.reported.ensures).2

-- ---- a WRITE that starts
pub write_on-reply-requires-clause-write : goal.write_on-reply-requires-clause-write
write_on-reply-requires-clause-write c =
    writes_ready _ _ c.in-Some.is _ _ _ c.self.invariant.1 _ c.self.view_is _ c.lane.view_is c.walk_on.new.self c.in-Writes.ensures.comes

pub write_on-reply-requires-clause-room : goal.write_on-reply-requires-clause-room
write_on-reply-requires-clause-room c =
    writes_room _ _ c.in-Some.is _ _ _ c.self.invariant.1 _ c.self.view_is _ c.lane.view_is c.walk_on.new.self c.in-Writes.ensures.comes

pub reported-requires-in-Writes : goal.reported-requires-in-Writes
reported-requires-in-Writes c =
    writes_given _ _ c.in-Some.is _ _ _ c.self.invariant.1 _ c.self.view_is _ c.lane.view_is c.walk_on.new.self c.in-Writes.ensures.comes c.write_on-reply.new.self c.write_on-reply.result c.write_on-reply.ensures

pub invariant_of-self-in-Writes : goal.invariant_of-self-in-Writes
invariant_of-self-in-Writes c =
    let e = writes_end _ _ c.in-Some.is _ _ _ c.self.invariant.1 _ c.self.view_is _ c.lane.view_is c.walk_on.new.self c.in-Writes.ensures.comes c.write_on-reply.new.self c.write_on-reply.result c.write_on-reply.ensures c.reported-in-Writes.result c.reported-in-Writes.new.lane c.reported-in-Writes.ensures in (e.0, e.1)

pub returns-in-Writes : goal.returns-in-Writes
returns-in-Writes c =
    (writes_end _ _ c.in-Some.is _ _ _ c.self.invariant.1 _ c.self.view_is _ c.lane.view_is c.walk_on.new.self c.in-Writes.ensures.comes c.write_on-reply.new.self c.write_on-reply.result c.write_on-reply.ensures c.reported-in-Writes.result c.reported-in-Writes.new.lane c.reported-in-Writes.ensures).2

pub finish-reply-requires-clause-not_write : goal.finish-reply-requires-clause-not_write
finish-reply-requires-clause-not_write c =
    made_not_write _ _ c.in-Some.is _ _ _ c.self.invariant.1 _ c.self.view_is _ c.lane.view_is c.in-Walked-Ready.ways c.walk_on.new.self (rw c.in-Walked-Ready.field-0-is at c.in-Walked-Ready.ensures.comes) c.overtake.new.self c.overtake.ensures.helped (c.in-Walked-Ready.ensures.other tt)
