use Rattle.sf_laws.proofs.LinkedFiles.{links_it}
use Rattle.sf_laws.proofs.change_laws.linked_files.Goals as goal

pub returns : goal.returns
returns c = λ tree session number moment old new e. links_it tree moment old new session number e
