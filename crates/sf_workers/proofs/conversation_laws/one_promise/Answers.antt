use Rattle.sf_workers.proofs.OnePromise.{of_engine, of_one_alone}
use Rattle.sf_workers.proofs.conversation_laws.one_promise.Goals as goal

pub returns-clause-engine : goal.returns-clause-engine
returns-clause-engine c = of_engine

pub returns-clause-alone : goal.returns-clause-alone
returns-clause-alone c = of_one_alone
