-- Results of command-line parsing.
use Rattle.std.specs.Prelude.{◌+◌, ◌<◌, ◌^◌, ℕ, length}
use Rattle.sf_words.specs.declared.command.ClientCommand.{ClientCommand}
use Rattle.sf_words.specs.declared.command.ClientCommand.TheVariants as command
use Rattle.sf_words.specs.declared.words.Action.{Action}
use Rattle.sf_words.specs.declared.words.Action.TheVariants as action

-- the total length of the paths in bytes
abbrev pub paths_len : ClientCommand → ℕ
paths_len (command.Stat path) = length path.now
paths_len (command.List path) = length path.now
paths_len (command.Get path) = length path.now
paths_len (command.Put path) = length path.now
paths_len (command.Mkdir path) = length path.now
paths_len (command.Rmdir path) = length path.now
paths_len (command.Remove path) = length path.now
paths_len (command.Rename old new) = length old.now + length new.now
paths_len (command.PosixRename old new) = length old.now + length new.now
paths_len (command.Link old new) = length old.now + length new.now

-- at least one record is retained, or the paths of the command have less than 2^31 bytes in total
abbrev pub CanBeDone : Action → Type 0
CanBeDone (action.Stdio stdio) = 0 < stdio.keep
CanBeDone (action.Serve serving) = 0 < serving.keep
CanBeDone (action.Connect socket) = Unit {0}
CanBeDone (action.Client socket command) = paths_len command < 2 ^ 31
