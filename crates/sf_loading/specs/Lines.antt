-- Operations on a stream.
use Rattle.std.specs.Prelude.{ℕ, List, [], Option, Ok, Err}
use Rattle.std.specs.List.{AllByRecursion, flat_map}
use Rattle.std.specs.Io.KnownBytes.{Appends, Consumes}
use Rattle.sf_field.specs.Fields.{packet}
use Rattle.sf_request.specs.Requests.{request_body, init_body}
use Rattle.sf_reply.specs.Replies.{reply_body, version_body}
use Rattle.sf_trees.specs.Operations.{Operation, Begins, Asks, Ends}
use Rattle.sf_trees.specs.Lengths.{id}

-- the remaining input of the stream and its output so far, if it specifies them
pub record ServerLineView : Type 0 where
  pub incoming : Option (List ℕ)
  pub outgoing : Option (List ℕ)

-- the operation has a reply
abbrev pub HasReply : Operation → Type 0
HasReply (Begins (Ok session)) = Unit {0}
HasReply (Begins (Err why)) = ⊥
HasReply (Asks session q (Ok r)) = Unit {0}
HasReply (Asks session q (Err why)) = ⊥
HasReply (Ends session) = Unit {0}

-- the packet that an operation sends
abbrev pub packet_sent : Operation → List ℕ
packet_sent (Begins outcome) = packet init_body
packet_sent (Asks session q outcome) = packet (request_body id q)
packet_sent (Ends session) = []

-- the packet of its reply
abbrev pub packet_taken : Operation → List ℕ
packet_taken (Begins outcome) = packet version_body
packet_taken (Asks session q (Ok r)) = packet (reply_body id r)
packet_taken (Asks session q (Err why)) = []
packet_taken (Ends session) = []

-- the packets of the operations were sent, and those of their replies were received
pub record HasTalked (v : ServerLineView) (operations : List Operation)
    (w : ServerLineView) : Type 0 where
  pub sent : Appends v.outgoing w.outgoing (flat_map packet_sent operations)
  pub taken : Consumes v.incoming w.incoming (flat_map packet_taken operations)

-- the same, if all of them have replies
abbrev pub LeadsLine : ServerLineView → List Operation → ServerLineView → Type 0
LeadsLine v operations w = AllByRecursion HasReply operations → HasTalked v operations w
