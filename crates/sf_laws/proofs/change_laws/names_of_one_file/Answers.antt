use Rattle.std.proofs.Common.{◌∙◌}
use Rattle.sf_laws.proofs.Laws.{other_labels}
use Rattle.sf_laws.proofs.AlikeNames.{stat_alike, set_alike, open_alike, directory_alike}
use Rattle.sf_laws.proofs.change_laws.names_of_one_file.Goals as goal

pub returns-clause-stat : goal.returns-clause-stat
returns-clause-stat c = λ history session number moment path other legal one. stat_alike history legal session number moment path other one

pub returns-clause-set_stat : goal.returns-clause-set_stat
returns-clause-set_stat c = λ history session number moment attrs path other legal one. set_alike history legal session number moment attrs path other one

pub returns-clause-open : goal.returns-clause-open
returns-clause-open c = λ history session number moment flags attrs path other legal one. open_alike history legal session number moment flags attrs path other one

pub returns-clause-open_directory : goal.returns-clause-open_directory
returns-clause-open_directory c = λ history session number moment path other legal one. directory_alike history legal session number moment path other one

pub returns-clause-still : goal.returns-clause-still
returns-clause-still c = λ tree session number moment request path other one not_path not_other. record {
  label = one.label;
  first = other_labels tree session number moment request path not_path ∙ one.first;
  second = other_labels tree session number moment request other not_other ∙ one.second;
}
