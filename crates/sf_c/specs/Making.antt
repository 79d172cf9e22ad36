-- The results of building trees, for C.
use Rattle.std.specs.Prelude.{◌≡◌, ◌+◌, ℕ, ℤ, pos, negsuc, List, Option, Some, Result, Ok, Err}
use Rattle.sf_reply.specs.Replies.{number_of}
use Rattle.sf_engine.specs.Views.{EngineView}
use Rattle.sf_trees.specs.declared.fault.TreeFault.{TreeFault}
use Rattle.sf_trees.specs.declared.fault.TreeFault.TheVariants as fault
use Rattle.sf_trees.specs.declared.fault.Refused.{Refused}
use Rattle.sf_trees.specs.Operations.{Operation}
use Rattle.sf_engine.specs.contracts.promise.EngineSftp.TheImpl.{ghosts}
use Rattle.sf_asking.specs.Asking.{AreDone}
use Rattle.sf_c.specs.declared.making.At.{At}

-- The number of an error, below 0: those of an engine, further ones, and the status codes from -100
-- downwards.
abbrev pub tree_fault_number : TreeFault → ℤ
tree_fault_number fault.OutOfMemory = negsuc 0
tree_fault_number fault.Sessions = negsuc 2
tree_fault_number fault.NumbersSpent = negsuc 4
tree_fault_number fault.Blocked = negsuc 7
tree_fault_number fault.Path = negsuc 9
tree_fault_number fault.Reply = negsuc 10
tree_fault_number (fault.Status code) = negsuc (99 + number_of code)

-- The number of the result, and the request that failed.
abbrev pub TellsMade : Result (Unit {0}) Refused → ℤ → At → Type 0
TellsMade (Ok done) n at = (n ≡ pos 0) × (at ≡ record { length = 0; kind = 0 })
TellsMade (Err r) n at = (n ≡ tree_fault_number r.fault)
    × (at ≡ record { length = r.place.length; kind = r.place.kind })

-- Operations were done on an engine, with this result.
abbrev pub DoesIn : {R : Type 0} → ℕ → (List Operation → R → Type 0) → EngineView → R → EngineView
    → Type 0
DoesIn moment P old r new = (operations : List Operation) × AreDone ghosts.has_log moment operations old new
    × P operations r

-- the same for the engine that C holds, and the reported number
abbrev pub AnswersMade : Option EngineView → ℕ
    → (List Operation → Result (Unit {0}) Refused → Type 0) → ℤ
    → At → Option EngineView → Type 0
AnswersMade before moment P n at after = (old : EngineView) × (new : EngineView)
    × (r : Result (Unit {0}) Refused) × (before ≡ Some old) × (after ≡ Some new)
    × DoesIn moment P old r new × TellsMade r n at
