use Rattle.sf_alone.proofs.Hosting.{output_here}
use Rattle.sf_alone.proofs.on_engine.EngineHostHostEngine.output.Goals as goal

pub returns : goal.returns
returns g c = λ start told t tells. output_here _ tells c.waiting.ensures
