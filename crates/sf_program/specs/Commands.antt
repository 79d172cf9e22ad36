-- The requests of the client's commands, what they print, and the lines of their faults.
use Rattle.std.specs.Prelude.{◌≡◌, ◌⊎◌, ℕ, List, [], ◌∷◌, ◌++◌, false, Option, Ok, unwrap_or, codes}
use Rattle.std.specs.Fmt.{decimal, digits}
use Rattle.sf_field.specs.Attributes.{no_attrs}
use Rattle.sf_field.specs.declared.attrs.Attrs.{Attrs}
use Rattle.sf_field.specs.declared.attrs.Owner.{Owner}
use Rattle.sf_field.specs.declared.attrs.Times.{Times}
use Rattle.sf_request.specs.declared.request.WireRequest.{WireRequest}
use Rattle.sf_field.specs.declared.operation.PathOp.TheVariants as path_op
use Rattle.sf_field.specs.declared.operation.PairOp.TheVariants as pair_op
use Rattle.sf_request.specs.declared.request.WireRequest.TheVariants as request
use Rattle.sf_reply.specs.declared.reply.Entry.{Entry}
use Rattle.sf_reply.specs.declared.reply.Reply.TheVariants as reply
use Rattle.sf_reply.specs.declared.reply.StatusCode.{StatusCode}
use Rattle.sf_reply.specs.declared.reply.StatusCode.TheVariants.{Success}
use Rattle.sf_reply.specs.Replies.{number_of, message_of}
use Rattle.sf_client.specs.Calls.{DoesCall, ByHandle, ReadsAll, WritesAll, ListsAll, to_read, to_write}
use Rattle.sf_client.specs.Exchanges.{ClientView, Exchanged, IsStarted}
use Rattle.sf_client.specs.Outcomes.{asked}
use Rattle.sf_client.specs.declared.fault.ClientFault.{ClientFault}
use Rattle.sf_client.specs.declared.fault.ClientFault.TheVariants as fault
use Rattle.sf_program.specs.Terminal.{IsTerminalText}
use Rattle.sf_words.specs.declared.command.ClientCommand.{ClientCommand}
use Rattle.sf_words.specs.declared.command.ClientCommand.TheVariants as command

-- the number, or 0 if it was not sent
abbrev pub or_zero : Option ℕ → ℕ
or_zero part = unwrap_or part 0

abbrev pub no_owner : Owner
no_owner = record { uid = 0; gid = 0 }

abbrev pub no_times : Times
no_times = record { atime = 0; mtime = 0 }

-- size, uid, gid, permissions in octal, atime and mtime, with single spaces between them and a
-- newline after them
abbrev pub stat_text : Attrs → List ℕ
stat_text attrs =
    decimal (or_zero attrs.size) ++ 32 ∷ decimal (unwrap_or attrs.owner no_owner).uid
    ++ 32 ∷ decimal (unwrap_or attrs.owner no_owner).gid
    ++ 32 ∷ digits 8 false (or_zero attrs.permissions)
    ++ 32 ∷ decimal (unwrap_or attrs.times no_times).atime
    ++ 32 ∷ decimal (unwrap_or attrs.times no_times).mtime
    ++ 10 ∷ []

-- each longname as text for a terminal, and a newline
unfoldable pub AreLinesOf : List Entry → List ℕ → Type 0
AreLinesOf [] printed = printed ≡ []
AreLinesOf (e ∷ entries) printed = (text rest : List ℕ) × IsTerminalText e.longname text
    × AreLinesOf entries rest × (printed ≡ text ++ 10 ∷ rest)

-- one request, answered by STATUS OK
abbrev pub Succeeds : ClientView → WireRequest → ClientView → Type 0
Succeeds v q w = Exchanged v (asked q (reply.Status Success) ∷ []) w

-- STAT of the path was answered by attributes, which were printed
abbrev pub PrintsAttrs : List ℕ → List ℕ → ClientView → ClientView → Type 0
PrintsAttrs path printed v w = (attrs : Attrs)
    × Exchanged v (asked (request.OnPath path_op.Stat path) (reply.Attrs attrs) ∷ []) w
    × (printed ≡ stat_text attrs)

-- the directory was listed, and its lines printed
abbrev pub Lists : List ℕ → List ℕ → ClientView → ClientView → Type 0
Lists path printed v w = (entries : List Entry)
    × DoesCall (ByHandle (request.OnPath path_op.OpenDir path) ListsAll) v (Ok entries) w
    × AreLinesOf entries printed

-- A command was done by these requests and their replies, and printed these bytes.
abbrev pub RunsCommand : ClientCommand → List ℕ → List ℕ → ClientView → ClientView → Type 0
RunsCommand (command.Stat path) bytes printed v w = PrintsAttrs path.now printed v w
RunsCommand (command.List path) bytes printed v w = Lists path.now printed v w
RunsCommand (command.Get path) bytes printed v w =
    DoesCall (ByHandle (request.OnPath (path_op.Open to_read no_attrs) path.now) ReadsAll) v
    (Ok printed) w
RunsCommand (command.Put path) bytes printed v w = (printed ≡ [])
    × DoesCall
    (ByHandle (request.OnPath (path_op.Open to_write no_attrs) path.now) (WritesAll bytes)) v
    (Ok tt) w
RunsCommand (command.Mkdir path) bytes printed v w =
    (printed ≡ []) × Succeeds v (request.OnPath (path_op.Mkdir no_attrs) path.now) w
RunsCommand (command.Rmdir path) bytes printed v w =
    (printed ≡ []) × Succeeds v (request.OnPath path_op.Rmdir path.now) w
RunsCommand (command.Remove path) bytes printed v w =
    (printed ≡ []) × Succeeds v (request.OnPath path_op.Remove path.now) w
RunsCommand (command.Rename old new) bytes printed v w =
    (printed ≡ []) × Succeeds v (request.OnPaths pair_op.Rename old.now new.now) w
RunsCommand (command.PosixRename old new) bytes printed v w =
    (printed ≡ []) × Succeeds v (request.OnPaths pair_op.PosixRename old.now new.now) w
RunsCommand (command.Link old new) bytes printed v w =
    (printed ≡ []) × Succeeds v (request.OnPaths pair_op.Link old.now new.now) w

-- The same of a session that was opened over a line, by what the line gives and has taken.
abbrev pub IsDoneOver : ClientCommand → List ℕ → List ℕ → Option (List ℕ) → Option (List ℕ) → Type 0
IsDoneOver command bytes printed incoming outgoing =
    (v w : ClientView) × IsStarted incoming outgoing v × RunsCommand command bytes printed v w

abbrev pub memory_line : List ℕ
memory_line = codes "sftpd: out of memory" ++ 10 ∷ []

abbrev pub status_start : StatusCode → List ℕ
status_start code = codes "sftpd: status " ++ decimal (number_of code) ++ codes ": "

-- the number and the message of the server's status, and the paths
abbrev pub IsStatusLine : StatusCode → List ℕ → Type 0
IsStatusLine code line = (paths : List ℕ)
    × (line ≡ (status_start code ++ message_of code) ++ paths)

abbrev pub size_start : ℕ → List ℕ
size_start size = codes "sftpd: too large to get: " ++ decimal size

abbrev pub size_end : List ℕ
size_end = codes " bytes" ++ 10 ∷ []

-- the line of a fault; a line that is made may need more memory than there is
abbrev pub IsFaultLine : ClientFault → List ℕ → Type 0
IsFaultLine fault.Stream line =
    line ≡ codes "sftpd: stream: the connection or standard output failed" ++ 10 ∷ []
IsFaultLine fault.Failed line =
    line ≡ codes "sftpd: stream: the connection or standard output failed" ++ 10 ∷ []
IsFaultLine fault.Protocol line =
    line ≡ codes "sftpd: protocol: the server's reply is not one to the request" ++ 10 ∷ []
IsFaultLine fault.OutOfMemory line = line ≡ memory_line
IsFaultLine (fault.Status code) line = IsStatusLine code line ⊎ (line ≡ memory_line)
IsFaultLine (fault.TooLarge size) line = (line ≡ size_start size ++ size_end) ⊎ (line ≡ memory_line)

-- some fault's line
abbrev pub IsFailureLine : List ℕ → Type 0
IsFailureLine line = (f : ClientFault) × IsFaultLine f line
