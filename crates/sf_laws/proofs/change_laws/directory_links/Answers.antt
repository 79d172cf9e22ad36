use Rattle.sf_laws.proofs.AlikeNames.{directory_links}
use Rattle.sf_laws.proofs.change_laws.directory_links.Goals as goal

pub returns : goal.returns
returns c = λ history path label legal is at. directory_links history legal path label is at
