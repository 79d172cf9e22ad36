-- The reply that a request expects.
use Rattle.std.specs.Prelude.{◌≡◌, length, Bool, true, false, Option, Some, None, is_some, nat_lt, nat_le, ◌&&◌, ◌||◌}
use Rattle.sf_request.specs.declared.request.WireRequest.{WireRequest}
use Rattle.sf_field.specs.declared.operation.PathOp.TheVariants as path_op
use Rattle.sf_field.specs.declared.operation.HandleOp.TheVariants as handle_op
use Rattle.sf_request.specs.declared.request.WireRequest.TheVariants as request
use Rattle.sf_reply.specs.declared.reply.Reply.{Reply}
use Rattle.sf_reply.specs.declared.reply.Reply.TheVariants as reply
use Rattle.sf_reply.specs.declared.reply.StatusCode.{StatusCode}
use Rattle.sf_reply.specs.declared.reply.StatusCode.TheVariants.{Success, Failure}
use Rattle.sf_reply.specs.Replies.{IsPlain}
use Rattle.sf_client.specs.declared.pending.PendingReply.{PendingReply}
use Rattle.sf_client.specs.declared.pending.PendingReply.TheVariants as pending

-- the kind of reply to a successful request
abbrev pub pending_of : WireRequest → PendingReply
pending_of (request.OnPath (path_op.Open flags attrs) filename) = pending.Handle
pending_of (request.OnPath path_op.OpenDir path) = pending.Handle
pending_of (request.ByHandle (handle_op.Read offset len) handle) = pending.Data len
pending_of (request.ByHandle handle_op.ReadDir handle) = pending.Names
pending_of (request.RealPath path) = pending.Names
pending_of (request.LStat path) = pending.Attrs
pending_of (request.ByHandle handle_op.FStat handle) = pending.Attrs
pending_of (request.OnPath path_op.Stat path) = pending.Attrs
pending_of _ = pending.Success

-- Whether the reply is of the expected kind: `SSH_FX_OK`, a handle, at least one and at most `most`
-- bytes, at least one name, or attributes.
abbrev pub is_answer : PendingReply → Reply → Bool
is_answer pending.Success (reply.Status Success) = true
is_answer pending.Handle (reply.Handle number) = true
is_answer (pending.Data most) (reply.Data bytes) =
    nat_lt 0 (length bytes) && nat_le (length bytes) most
is_answer pending.Names (reply.Names entries) = nat_lt 0 (length entries)
is_answer pending.Attrs (reply.Attrs attrs) = true
is_answer _ _ = false

-- the code of an error status
abbrev pub error_code_of : Reply → Option StatusCode
error_code_of (reply.Status Success) = None
error_code_of (reply.Status code) = Some code
error_code_of reply.NoMemory = Some Failure
error_code_of _ = None

-- the reply is an error status with this code
abbrev pub Refuses : Reply → StatusCode → Type 0
Refuses r code = error_code_of r ≡ Some code

-- whether the reply is of the expected kind or an error status
abbrev pub is_expected : PendingReply → Reply → Bool
is_expected p r = is_answer p r || is_some (error_code_of r)

-- only file data and names allocate
abbrev pub TakesMemory : Reply → Type 0
TakesMemory r = IsPlain r → ⊥
