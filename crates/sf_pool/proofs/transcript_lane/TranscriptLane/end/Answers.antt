use Rattle.std.proofs.Common.{◌∙◌}
use Rattle.sf_pool.proofs.Transcribing.{was_asked, visit_of, calls_of_end}
use Rattle.sf_pool.proofs.transcript_lane.TranscriptLane.end.Goals as goal

pub end-requires : goal.end-requires
end-requires g c = was_asked c.self.inside.place c.self.inside.keeps c.self.inside.steps _ c.self.view_is c.requires

pub returns-clause-visit : goal.returns-clause-visit
returns-clause-visit g c = visit_of c.self.inside.place c.self.inside.keeps c.self.inside.steps _ _ c.self.view_is c.end.ensures

pub returns-clause-begun : goal.returns-clause-begun
returns-clause-begun g c = c.self.invariant.3 ∙ calls_of_end c.self.inside.place _ c.end.ensures
