use Rattle.sf_call.specs.Calls.{answer_to}
use Rattle.sf_laws.proofs.OwnChanges.{own, other_paths, other_handles, other_objects}
use Rattle.sf_laws.proofs.change_laws.own_changes.Goals as goal

pub returns-clause-paths : goal.returns-clause-paths
returns-clause-paths c tree session number moment request path other =
    other_paths tree session number request (answer_to tree session number moment request).changes tree path (own tree session number moment request) other

pub returns-clause-handles : goal.returns-clause-handles
returns-clause-handles c tree session number moment handle request other =
    other_handles tree session number request (answer_to tree session number moment request).changes tree handle (own tree session number moment request) other

pub returns-clause-objects : goal.returns-clause-objects
returns-clause-objects c tree session number moment label request new other some =
    other_objects tree session number request (answer_to tree session number moment request).changes tree label (own tree session number moment request) new other some
