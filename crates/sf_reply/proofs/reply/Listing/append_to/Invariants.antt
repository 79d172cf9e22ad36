use Rattle.std.proofs.Common.{◌≡◌, ◌++◌, take}
use Rattle.sf_reply.proofs.reply.Listing.append_to.Given as goal

abbrev pub invariant-loop-entry : goal.invariant-loop-entry
invariant-loop-entry l = l.others.items ≡ l.initial.others.items ++ take l.entry-index l.self
