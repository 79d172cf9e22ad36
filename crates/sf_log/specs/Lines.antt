-- The bytes of log lines.
use Rattle.std.specs.Prelude.{ℕ, ◌/◌, ◌%◌, Bool, false, List, [], ◌∷◌, ◌++◌, length, nat_lt, ◌&&◌, ◌||◌, ◌==◌, if◌then◌else◌, Option, Some, None, Result, Ok, Err, codes}
use Rattle.std.specs.List.{flat_map}
use Rattle.std.specs.Fmt.{decimal, digits}
use Rattle.sf_path.specs.Names.{Path, text_of}
use Rattle.sf_field.specs.declared.open_flags.OpenFlags.{OpenFlags}
use Rattle.sf_field.specs.declared.attrs.Attrs.{Attrs}
use Rattle.sf_field.specs.declared.attrs.Owner.{Owner}
use Rattle.sf_field.specs.declared.attrs.Times.{Times}
use Rattle.sf_reply.specs.declared.reply.Reply.{Reply}
use Rattle.sf_reply.specs.declared.reply.Reply.TheVariants as reply
use Rattle.sf_reply.specs.Replies.{message_of}
use Rattle.sf_call.specs.declared.fault.JoinFault.{JoinFault}
use Rattle.sf_call.specs.declared.fault.JoinFault.TheVariants as refusal
use Rattle.sf_call.specs.declared.request.Request.{Request}
use Rattle.sf_field.specs.declared.operation.PathOp.TheVariants as path_op
use Rattle.sf_field.specs.declared.operation.PairOp.TheVariants as pair_op
use Rattle.sf_field.specs.declared.operation.HandleOp.TheVariants as handle_op
use Rattle.sf_call.specs.declared.request.Request.TheVariants as request
use Rattle.sf_session.specs.declared.cause.Cause.{Cause}
use Rattle.sf_session.specs.declared.cause.Cause.TheVariants as cause
use Rattle.sf_session.specs.declared.fault.ServeFault.{ServeFault}
use Rattle.sf_session.specs.declared.fault.ServeFault.TheVariants as fault
use Rattle.sf_log.specs.declared.line.LogLine.{LogLine}
use Rattle.sf_log.specs.declared.line.LogLine.TheVariants.{Opened, Answered, Closed, Refused}

-- ---- paths

-- a backslash, and the byte as three octal digits
abbrev pub octal : ℕ → List ℕ
octal byte = 92 ∷ decimal (byte / 64) ++ decimal (byte / 8 % 8) ++ decimal (byte % 8)

abbrev pub is_printable : ℕ → Bool
is_printable byte = nat_lt 31 byte && nat_lt byte 127

-- A byte of a path: one of \", \\, \a, \b, \t, \n, \v, \f, \r; another one as it is if it is
-- printable ASCII, and otherwise in octal.
abbrev pub escaped : ℕ → List ℕ
escaped byte =
    if byte == 34 then codes "\\\""
    else if byte == 92 then codes "\\\\"
    else if is_printable byte then byte ∷ []
    else if byte == 7 then codes "\\a"
    else if byte == 8 then codes "\\b"
    else if byte == 9 then codes "\\t"
    else if byte == 10 then codes "\\n"
    else if byte == 11 then codes "\\v"
    else if byte == 12 then codes "\\f"
    else if byte == 13 then codes "\\r"
    else octal byte

-- a path in quotes
abbrev pub quoted : Path → List ℕ
quoted path = 34 ∷ flat_map escaped (text_of path) ++ 34 ∷ []

-- ---- attributes: those that are present, each after a space

abbrev pub logged_size : Option ℕ → List ℕ
logged_size None = []
logged_size (Some size) = codes " size " ++ decimal size

abbrev pub logged_owner : Option Owner → List ℕ
logged_owner None = []
logged_owner (Some owner) = codes " uid " ++ decimal owner.uid ++ codes " gid " ++ decimal owner.gid

-- in octal
abbrev pub logged_mode : Option ℕ → List ℕ
logged_mode None = []
logged_mode (Some permissions) = codes " mode 0" ++ digits 8 false permissions

abbrev pub logged_times : Option Times → List ℕ
logged_times None = []
logged_times (Some times) =
    codes " atime " ++ decimal times.atime ++ codes " mtime " ++ decimal times.mtime

abbrev pub logged_attrs : Attrs → List ℕ
logged_attrs attrs = logged_size attrs.size ++ logged_owner attrs.owner
    ++ logged_mode attrs.permissions ++ logged_times attrs.times

-- ---- the open flags that are set, with commas between them

abbrev pub flag_text : (is_set follows : Bool) → List ℕ → List ℕ
flag_text is_set follows name =
    if is_set then (if follows then 44 ∷ name else name) else []

abbrev pub access_text : OpenFlags → List ℕ
access_text flags =
    flag_text flags.read false (codes "READ") ++ flag_text flags.write flags.read (codes "WRITE")
    ++ flag_text flags.append (flags.read || flags.write) (codes "APPEND")

abbrev pub has_access : OpenFlags → Bool
has_access flags = flags.read || flags.write || flags.append

abbrev pub making_text : (follows : Bool) → OpenFlags → List ℕ
making_text follows flags =
    flag_text flags.create follows (codes "CREATE")
    ++ flag_text flags.truncate (follows || flags.create) (codes "TRUNCATE")
    ++ flag_text flags.exclusive (follows || flags.create || flags.truncate) (codes "EXCL")

abbrev pub flags_text : OpenFlags → List ℕ
flags_text flags = codes " flags " ++ access_text flags ++ making_text (has_access flags) flags

-- ---- requests and replies

abbrev pub by_path : List ℕ → Path → List ℕ
by_path name path = name ++ 32 ∷ quoted path

abbrev pub by_paths : List ℕ → Path → Path → List ℕ
by_paths name path new = by_path name path ++ 32 ∷ quoted new

abbrev pub by_handle : List ℕ → ℕ → List ℕ
by_handle name handle = name ++ codes " handle " ++ decimal handle

-- the range of a file that is read or written
abbrev pub range_text : (offset len : ℕ) → List ℕ
range_text offset len = codes " offset " ++ decimal offset ++ codes " length " ++ decimal len

abbrev pub request_text : Request → List ℕ
request_text (request.OnPath path_op.Stat path) = by_path (codes "stat") path
request_text (request.OnPath (path_op.SetStat attrs) path) = by_path (codes "setstat") path ++ logged_attrs attrs
request_text (request.OnPath (path_op.Mkdir attrs) path) = by_path (codes "mkdir") path ++ logged_attrs attrs
request_text (request.OnPath path_op.Rmdir path) = by_path (codes "rmdir") path
request_text (request.OnPath path_op.Remove path) = by_path (codes "remove") path
request_text (request.OnPath path_op.OpenDir path) = by_path (codes "opendir") path
request_text (request.OnPath (path_op.Open flags attrs) path) =
    by_path (codes "open") path ++ flags_text flags ++ logged_attrs attrs
request_text (request.ByHandle handle_op.Close handle) = by_handle (codes "close") handle
request_text (request.ByHandle handle_op.FStat handle) = by_handle (codes "fstat") handle
request_text (request.ByHandle (handle_op.FSetStat attrs) handle) = by_handle (codes "fsetstat") handle
    ++ logged_attrs attrs
request_text (request.ByHandle (handle_op.Read offset len) handle) =
    by_handle (codes "read") handle ++ range_text offset len
request_text (request.Write handle offset bytes) =
    by_handle (codes "write") handle ++ range_text offset (length bytes)
request_text (request.ByHandle handle_op.ReadDir handle) = by_handle (codes "readdir") handle
request_text (request.OnPaths pair_op.Rename old new) = by_paths (codes "rename") old new
request_text (request.OnPaths pair_op.PosixRename old new) = by_paths (codes "posix-rename") old new
request_text (request.OnPaths pair_op.Link old new) = by_paths (codes "hardlink") old new

-- after a space
abbrev pub reply_text : Reply → List ℕ
reply_text (reply.Status code) = 32 ∷ message_of code
reply_text reply.NoMemory = codes " Out of memory"
reply_text (reply.Handle number) = codes " handle " ++ decimal number
reply_text (reply.Data bytes) = codes " data of length " ++ decimal (length bytes)
reply_text (reply.Names entries) = codes " names " ++ decimal (length entries)
reply_text (reply.Attrs attrs) = logged_attrs attrs

-- ---- lines

-- why a session ended; empty if its input ended
abbrev pub outcome_text : Result Cause ServeFault → List ℕ
outcome_text (Ok cause.Closed) = []
outcome_text (Ok cause.NotInit) = codes ": first packet is not INIT"
outcome_text (Ok cause.OldVersion) = codes ": client version below 3"
outcome_text (Ok cause.SecondInit) = codes ": second INIT"
outcome_text (Ok cause.ZeroLength) = codes ": length 0"
outcome_text (Ok cause.TooLong) = codes ": length above 262144"
outcome_text (Ok cause.NoId) = codes ": no room for an id"
outcome_text (Err fault.Line) = codes ": the line failed"
outcome_text (Err fault.OutOfMemory) = codes ": out of memory"
outcome_text (Err fault.Sessions) = codes ": too many sessions"
outcome_text (Err fault.NumbersSpent) = codes ": numbers are spent"

-- why a session could not join
abbrev pub refusal_text : JoinFault → List ℕ
refusal_text refusal.OutOfMemory = codes ": out of memory"
refusal_text refusal.Sessions = codes ": too many sessions"
refusal_text refusal.NumbersSpent = codes ": numbers are spent"

abbrev pub line_text : LogLine → List ℕ
line_text (Opened session) = codes "session " ++ decimal session ++ codes " opened"
line_text (Answered session number moment request reply) =
    codes "session " ++ decimal session ++ codes " call " ++ decimal number
    ++ codes " at " ++ decimal moment ++ codes ": " ++ request_text request.now
    ++ codes " ->" ++ reply_text reply.now
line_text (Closed session outcome) =
    codes "session " ++ decimal session ++ codes " closed" ++ outcome_text outcome
line_text (Refused fault) = codes "client refused" ++ refusal_text fault

-- The bytes of a line, with its newline.
abbrev pub log_line_bytes : LogLine → List ℕ
log_line_bytes line = line_text line ++ 10 ∷ []
