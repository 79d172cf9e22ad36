-- Operations on a server, and their results.
use Rattle.std.specs.Prelude.{◌≡◌, ◌⊎◌, ℕ, List, [], ◌∷◌, ◌++◌, Result, Ok, Err}
use Rattle.sf_request.specs.declared.request.WireRequest.{WireRequest}
use Rattle.sf_reply.specs.declared.reply.Reply.{Reply}
use Rattle.sf_reply.specs.declared.reply.Reply.TheVariants as reply
use Rattle.sf_reply.specs.declared.reply.StatusCode.TheVariants as status
use Rattle.sf_trees.specs.declared.fault.TreeFault.{TreeFault}
use Rattle.sf_trees.specs.declared.fault.TreeFault.TheVariants as fault
use Rattle.sf_trees.specs.declared.fault.Place.{Place}
use Rattle.sf_trees.specs.declared.fault.Refused.{Refused}

-- A session opens; a request of it is answered or fails; a session closes.
pub data Operation : Type 0 where
  Begins : (outcome : Result ℕ TreeFault) → Operation
  Asks : (session : ℕ) → (q : WireRequest) → (outcome : Result Reply TreeFault) → Operation
  Ends : (session : ℕ) → Operation

-- Operations of this kind were done, with this result.
abbrev pub Does : {V : Type 0} → {R : Type 0} → (V → List Operation → V → Type 0) → V → V
    → (List Operation → R → Type 0) → R → Type 0
Does reaches old new P result = (operations : List Operation) × reaches old operations new
    × P operations result

-- one request, and what follows from its reply
abbrev pub IsAsked : {R : Type 0} → ℕ → WireRequest → (Result Reply TreeFault → R) → List Operation
    → R → Type 0
IsAsked session q told operations result = (outcome : Result Reply TreeFault)
    × (operations ≡ Asks session q outcome ∷ []) × (result ≡ told outcome)

-- the error for an unexpected reply
abbrev pub fault_in_reply : Reply → TreeFault
fault_in_reply (reply.Status code) = fault.Status code
fault_in_reply reply.NoMemory = fault.OutOfMemory
fault_in_reply (reply.Handle number) = fault.Reply
fault_in_reply (reply.Data bytes) = fault.Reply
fault_in_reply (reply.Names entries) = fault.Reply
fault_in_reply (reply.Attrs attrs) = fault.Reply

abbrev pub refused_at : Place → TreeFault → Refused
refused_at place why = record { fault = why; place = place }

-- whether a request was done
abbrev pub done_by : Place → Result Reply TreeFault → Result (Unit {0}) Refused
done_by place (Ok (reply.Status status.Success)) = Ok tt
done_by place (Ok other) = Err (refused_at place (fault_in_reply other))
done_by place (Err why) = Err (refused_at place why)

-- the number of a handle that was opened
abbrev pub handle_by : Place → Result Reply TreeFault → Result ℕ Refused
handle_by place (Ok (reply.Handle number)) = Ok number
handle_by place (Ok other) = Err (refused_at place (fault_in_reply other))
handle_by place (Err why) = Err (refused_at place why)

-- the type of a request's packet, 202 for a link, and the length of the path's prefix that it is
-- about
abbrev pub request_place : ℕ → ℕ → Place
request_place kind len = record { kind = kind; length = len }

-- nothing was done
abbrev pub IsNothing : {E : Type 0} → List Operation → Result (Unit {0}) E → Type 0
IsNothing operations result = (operations ≡ []) × (result ≡ Ok tt)

-- the result of the first part leads to the second, or is an error and ends both
abbrev pub ContinuesWith : {A : Type 0} → {R : Type 0} → {E : Type 0}
    → (A → List Operation → Result R E → Type 0) → Result A E → List Operation → Result R E → Type 0
ContinuesWith Q (Ok x) operations result = Q x operations result
ContinuesWith Q (Err why) operations result = (operations ≡ []) × (result ≡ Err why)

-- two parts in sequence; an error of the first one ends both
pub record Then {A : Type 0} {R : Type 0} {E : Type 0} (P : List Operation → Result A E → Type 0)
    (Q : A → List Operation → Result R E → Type 0) (operations : List Operation)
    (result : Result R E) : Type 0 where
  pub first : List Operation
  pub second : List Operation
  pub outcome : Result A E
  pub parts : operations ≡ first ++ second
  pub begins : P first outcome
  pub goes_on : ContinuesWith Q outcome second result

-- A session opens, operations of this kind are done by it, and it closes.
pub record HasSession {R : Type 0} (P : ℕ → List Operation → Result R Refused → Type 0)
    (operations : List Operation) (result : Result R Refused) : Type 0 where
  pub session : ℕ
  pub inner : List Operation
  pub parts : operations ≡ Begins (Ok session) ∷ inner ++ Ends session ∷ []
  pub done : P session inner result

-- the same, or no session opens
abbrev pub BySession : {R : Type 0} → (ℕ → List Operation → Result R Refused → Type 0)
    → List Operation → Result R Refused → Type 0
BySession P operations result = HasSession P operations result
    ⊎ ((why : TreeFault) × (operations ≡ Begins (Err why) ∷ [])
    × (result ≡ Err (refused_at (request_place 1 0) why)))
