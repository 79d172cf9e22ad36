-- What each body requires of a session, case by case.
use Rattle.std.specs.Prelude.{◌≡◌, ℕ, length, List, [], ◌∷◌, Bool, Option, Some, None, is_none, option_map, option_and_then, nat_eq, nat_lt, if◌then◌else◌}
use Rattle.std.specs.Option.{option_map_or}
use Rattle.std.specs.Int.{w64, from_be_bytes}
use Rattle.sf_path.specs.Names.{Path, text_of}
use Rattle.sf_path.specs.Normal.{norm, fault_of}
use Rattle.sf_reply.specs.declared.reply.Reply.{Reply}
use Rattle.sf_reply.specs.declared.reply.Reply.TheVariants as reply
use Rattle.sf_reply.specs.declared.reply.StatusCode.TheVariants.{Failure, BadMessage, OpUnsupported}
use Rattle.sf_request.specs.declared.request.WireRequest.{WireRequest}
use Rattle.sf_field.specs.declared.operation.PathOp.TheVariants as path_op
use Rattle.sf_request.specs.declared.request.WireRequest.TheVariants as wire
use Rattle.sf_request.specs.declared.request.Asked.{Asked}
use Rattle.sf_request.specs.declared.request.Asked.TheVariants as asked
use Rattle.sf_field.specs.Attributes.{no_attrs}
use Rattle.sf_request.specs.Requests.{Asks}
use Rattle.sf_call.specs.declared.request.Request.{Request}
use Rattle.sf_call.specs.declared.request.Request.TheVariants as call
use Rattle.sf_session.specs.declared.asking.Ask.{Ask}
use Rattle.sf_session.specs.declared.asking.Ask.TheVariants as ask
use Rattle.sf_session.specs.declared.local_reply.LocalReply.TheVariants.{Plain, Limits}
use Rattle.sf_session.specs.declared.cause.Cause.TheVariants.{NotInit, OldVersion, SecondInit, NoId}

-- the first body must be INIT with a version of at least 3
abbrev pub first_ask : Asked → Ask
first_ask (asked.Init version) = if nat_lt version 3 then ask.End OldVersion else ask.Version
first_ask asked.NoVersion = ask.End NoId
first_ask _ = ask.End NotInit

-- filename and longname are the normal text, and there are no attributes
abbrev pub real_path_reply : Path → Reply
real_path_reply path =
    reply.Names (record { filename = text_of path; longname = text_of path; attrs = no_attrs } ∷ [])

-- the path that a text denotes, if it has no fault
abbrev pub path_at : List ℕ → Option Path
path_at text = if is_none (fault_of text) then Some (norm text) else None

-- a handle is the 8 bytes of a number, big-endian
abbrev pub handle_number : List ℕ → Option ℕ
handle_number bytes = if nat_eq (length bytes) 8 then Some (from_be_bytes w64 bytes) else None

-- the two paths of a rename
abbrev pub paths_at : List ℕ → List ℕ → Option (Path × Path)
paths_at old new =
    option_and_then (λ from. option_map (λ to. (from, to)) (path_at new)) (path_at old)

-- The call that a request requires, if its paths and its handle are valid. LSTAT is STAT: there are
-- no symbolic links. REALPATH requires none.
abbrev pub call_of : WireRequest → Option Request
call_of (wire.OnPath op text) = option_map (call.OnPath op) (path_at text)
call_of (wire.OnPaths op old new) =
    option_map (λ paths. call.OnPaths op paths.0 paths.1) (paths_at old new)
call_of (wire.ByHandle op handle) = option_map (call.ByHandle op) (handle_number handle)
call_of (wire.Write handle offset bytes) =
    option_map (λ number. call.Write number offset bytes) (handle_number handle)
call_of (wire.LStat text) = option_map (call.OnPath path_op.Stat) (path_at text)
call_of (wire.RealPath text) = None

-- an invalid path or handle is answered FAILURE
abbrev pub failure : ℕ → Ask
failure id = ask.Local id (Plain (reply.Status Failure))

abbrev pub request_ask : ℕ → WireRequest → Ask
request_ask id (wire.RealPath text) =
    option_map_or (λ path. ask.Local id (Plain (real_path_reply path))) (path_at text) (failure id)
request_ask id request = option_map_or (ask.Call id) (call_of request) (failure id)

-- a later body must not be INIT
abbrev pub later_ask : Asked → Ask
later_ask (asked.Init version) = ask.End SecondInit
later_ask asked.NoVersion = ask.End SecondInit
later_ask asked.NoId = ask.End NoId
later_ask (asked.Unknown id) = ask.Local id (Plain (reply.Status OpUnsupported))
later_ask (asked.BadFields id) = ask.Local id (Plain (reply.Status BadMessage))
later_ask (asked.Limits id) = ask.Local id Limits
later_ask (asked.Request id request) = request_ask id request

abbrev pub ask_in : Bool → Asked → Ask
ask_in begun a = if begun then later_ask a else first_ask a

-- What a body requires; `begun` says that the session has processed its first packet.
abbrev pub AsksFor : Bool → List ℕ → Ask → Type 0
AsksFor begun body a = (packet : Asked) × Asks body packet × (a ≡ ask_in begun packet)
