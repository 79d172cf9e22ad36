use Rattle.std.proofs.lemmas.Result.{IfOk-weaker}
use Rattle.std.proofs.Common.{[]}
use Rattle.sf_engine.specs.Views.{EngineView}
use Rattle.sf_engine.specs.HasLog.{HasLog, HasPromise}
use Rattle.sf_engine.proofs.StepsLeft.{promised}
use Rattle.sf_engine.proofs.promise.EngineSftp.new.Goals as goal

pub returns : goal.returns
returns c = IfOk-weaker c.new.result (λ (e : EngineView). HasLog e []) (λ (e : EngineView). HasPromise e []) (λ e h. promised h) c.new.ensures.log
