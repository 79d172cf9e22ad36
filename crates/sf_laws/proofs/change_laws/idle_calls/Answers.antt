use Rattle.sf_call.specs.Tree.{found_at}
use Rattle.sf_call.specs.Handles.{handle_in, opened}
use Rattle.sf_laws.proofs.Idle.{told, told_opened, was_read, set_by_path, set_by_handle, nothing_written}
use Rattle.sf_laws.proofs.change_laws.idle_calls.Goals as goal

pub returns-clause-stat : goal.returns-clause-stat
returns-clause-stat c tree session number moment path = told tree (found_at tree path)

pub returns-clause-stat_by_handle : goal.returns-clause-stat_by_handle
returns-clause-stat_by_handle c tree session number moment handle = told_opened tree (opened tree session handle)

pub returns-clause-read : goal.returns-clause-read
returns-clause-read c tree session number moment handle offset len = was_read tree offset len (opened tree session handle)

pub returns-clause-set_stat : goal.returns-clause-set_stat
returns-clause-set_stat c tree session number moment path = set_by_path tree moment path

pub returns-clause-set_stat_by_handle : goal.returns-clause-set_stat_by_handle
returns-clause-set_stat_by_handle c tree session number moment handle = set_by_handle tree moment (handle_in tree session handle)

pub returns-clause-write : goal.returns-clause-write
returns-clause-write c tree session number moment handle offset = nothing_written tree moment offset (opened tree session handle)
