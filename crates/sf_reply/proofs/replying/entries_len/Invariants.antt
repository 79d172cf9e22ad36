use Rattle.std.proofs.Common.{◌≡◌, ◌+◌, length, drop}
use Rattle.std.specs.List.{flat_map}
use Rattle.sf_reply.specs.Replies.{entry_text}
use Rattle.sf_reply.proofs.replying.entries_len.Given as goal

abbrev pub invariant-loop-entry : goal.invariant-loop-entry
invariant-loop-entry l = l.total + length (flat_map entry_text (drop l.entry-index l.entries)) ≡ length (flat_map entry_text l.entries)
