use Rattle.sf_keeps.proofs.KeepsEdited.{keeps_metadata, keeps_bytes}
use Rattle.sf_keeps.proofs.KeepsShown.{keeps_directory, keeps_file, keeps_contents, object_again}
use Rattle.sf_keeps.proofs.tree_laws.changed_object.Goals as goal

pub returns-clause-metadata : goal.returns-clause-metadata
returns-clause-metadata c = keeps_metadata

pub returns-clause-bytes : goal.returns-clause-bytes
returns-clause-bytes c = keeps_bytes

pub returns-clause-directory : goal.returns-clause-directory
returns-clause-directory c = keeps_directory

pub returns-clause-file : goal.returns-clause-file
returns-clause-file c = keeps_file

pub returns-clause-contents : goal.returns-clause-contents
returns-clause-contents c = keeps_contents

pub returns-clause-again : goal.returns-clause-again
returns-clause-again c = object_again
