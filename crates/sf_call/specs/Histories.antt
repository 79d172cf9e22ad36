-- Histories: calls with their replies, and ends of sessions, in one sequential order.
use Rattle.std.specs.Prelude.{◌≡◌, ◌≢◌, ◌<◌, ◌⊎◌, ℕ, nat_eq, Bool, false, List, [], ◌∷◌, ◌++◌, fold, Option}
use Rattle.std.specs.List.{AllByRecursion, find}
use Rattle.sf_reply.specs.declared.reply.Reply.{Reply}
use Rattle.sf_reply.specs.declared.reply.Reply.TheVariants as reply
use Rattle.sf_call.specs.declared.request.Request.{Request}
use Rattle.sf_call.specs.declared.record.Record.{Record}
use Rattle.sf_call.specs.declared.record.Record.TheVariants.{Did, Left}
use Rattle.sf_call.specs.Tree.{Tree, empty_tree}
use Rattle.sf_call.specs.Calls.{apply, leave}
use Rattle.sf_call.specs.Values.{IsCall}

-- the tree after a call with this reply: out of memory leaves it unchanged
abbrev pub after_reply : Tree → Tree → Reply → Tree
after_reply tree next reply.NoMemory = tree
after_reply tree next given = next

-- the tree after a record
abbrev pub after : Tree → Record → Tree
after tree (Did number session moment request given) =
    after_reply tree (apply tree session number moment request).tree given
after tree (Left session) = leave tree session

-- the tree at the end of a history
unfoldable pub replay : List Record → Tree
replay history = fold after empty_tree history

-- the record is not of the call with this number
abbrev pub IsOther : ℕ → Record → Type 0
IsOther number (Did n session moment request given) = n ≢ number
IsOther number (Left session) = Unit {0}

-- no record is of the call with this number
abbrev pub IsNewNumber : ℕ → List Record → Type 0
IsNewNumber number history = AllByRecursion (IsOther number) history

-- the session has not ended
abbrev pub IsPresent : ℕ → List Record → Type 0
IsPresent session history = AllByRecursion (λ r. r ≢ Left session) history

-- A call may come next if its values are in range, its number is new and above 0, and its session
-- has not ended. Its reply is that of the sequential specification or out of memory.
pub record CallMayFollow (history : List Record) (number session moment : ℕ) (request : Request)
    (given : Reply) : Type 0 where
  pub is_call : IsCall number session moment request
  pub above_zero : 0 < number
  pub new_number : IsNewNumber number history
  pub present : IsPresent session history
  pub answered : (given ≡ (apply (replay history) session number moment request).reply)
      ⊎ (given ≡ reply.NoMemory)

-- a record may come next; no record of a session follows its end
abbrev pub MayFollow : List Record → Record → Type 0
MayFollow history (Did number session moment request given) =
    CallMayFollow history number session moment request given
MayFollow history (Left session) = IsPresent session history

-- each record may follow those before it
unfoldable pub IsLegalAfter : List Record → List Record → Type 0
IsLegalAfter before [] = Unit {0}
IsLegalAfter before (r ∷ rs) = MayFollow before r × IsLegalAfter (before ++ r ∷ []) rs

unfoldable pub IsLegal : List Record → Type 0
IsLegal history = IsLegalAfter [] history

-- the list contains the record
unfoldable pub IsAmong : Record → List Record → Type 0
IsAmong record' [] = ⊥
IsAmong record' (r ∷ rs) = (r ≡ record') ⊎ IsAmong record' rs

-- some legal history may continue with a record of this call with this reply
abbrev pub IsGiven : ℕ → ℕ → Reply → Type 0
IsGiven number session given = (before : List Record) × (moment : ℕ) × (request : Request)
    × IsLegal before × MayFollow before (Did number session moment request given)

-- whether the record is of the call with this number, and the first such record
abbrev pub is_of : ℕ → Record → Bool
is_of number (Did n session moment request given) = nat_eq n number
is_of number (Left session) = false

abbrev pub record_of : ℕ → List Record → Option Record
record_of number history = find (is_of number) history
