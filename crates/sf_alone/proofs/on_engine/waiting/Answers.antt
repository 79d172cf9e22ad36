use Rattle.sf_alone.proofs.on_engine.waiting.Goals as goal

pub returns-in-Some : goal.returns-in-Some
returns-in-Some c = λ log has known. (c.in-Some.ensures.log log has).1

pub returns-in-None : goal.returns-in-None
returns-in-None c = λ log has known. absurd (c.in-None.ensures.none log has known)
