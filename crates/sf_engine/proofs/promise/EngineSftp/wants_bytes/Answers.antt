use Rattle.sf_engine.proofs.promise.EngineSftp.wants_bytes.Goals as goal

pub returns : goal.returns
returns c = λ log has. c.wants_bytes.ensures log has.0
