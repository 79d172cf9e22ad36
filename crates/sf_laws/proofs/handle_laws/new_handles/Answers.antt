use Rattle.sf_laws.proofs.NewHandles.{directory_handle_made, file_handle_made}
use Rattle.sf_laws.proofs.handle_laws.new_handles.Goals as goal

pub returns-clause-directory : goal.returns-clause-directory
returns-clause-directory c tree session number moment given path = directory_handle_made tree session number moment path given

pub returns-clause-file : goal.returns-clause-file
returns-clause-file c tree session number moment given path flags attrs = file_handle_made tree session number moment path flags attrs given
