-- When a call may be answered "Out of memory".
use Rattle.std.specs.Prelude.{◌≡◌, ◌≢◌, false, List, [], ◌∷◌, ◌++◌}
use Rattle.sf_reply.specs.declared.reply.Reply.TheVariants as reply
use Rattle.sf_call.specs.declared.record.Record.{Record}
use Rattle.sf_call.specs.declared.record.Record.TheVariants.{Did, Left}
use Rattle.sf_call.specs.Calls.{answer_to}
use Rattle.sf_call.specs.Histories.{replay}
use Rattle.sf_walk.specs.Served.{may_want_memory}

-- A call that need not allocate is never answered "Out of memory".
abbrev pub IsSure : List Record → Record → Type 0
IsSure before (Did number session moment request given) =
    may_want_memory request (answer_to (replay before) session number moment request).reply ≡ false
    → given ≢ reply.NoMemory
IsSure before (Left session) = Unit {0}

-- each of the records is so, after those before it
unfoldable pub AreSure : List Record → List Record → Type 0
AreSure before [] = Unit {0}
AreSure before (r ∷ rs) = IsSure before r × AreSure (before ++ r ∷ []) rs
