use Rattle.sf_engine.proofs.WrongLogs.{no_shared_record, no_unsent_request, no_other_reply, no_idle_turn, no_endless_call, no_blocked_calls, no_early_refusal}
use Rattle.sf_engine.proofs.log_laws.wrong_logs.Goals as goal

pub returns-clause-shared : goal.returns-clause-shared
returns-clause-shared c = no_shared_record

pub returns-clause-unsent : goal.returns-clause-unsent
returns-clause-unsent c = no_unsent_request

pub returns-clause-other : goal.returns-clause-other
returns-clause-other c = no_other_reply

pub returns-clause-idle : goal.returns-clause-idle
returns-clause-idle c = no_idle_turn

pub returns-clause-endless : goal.returns-clause-endless
returns-clause-endless c = no_endless_call

pub returns-clause-blocked : goal.returns-clause-blocked
returns-clause-blocked c = no_blocked_calls

pub returns-clause-refused : goal.returns-clause-refused
returns-clause-refused c = no_early_refusal
