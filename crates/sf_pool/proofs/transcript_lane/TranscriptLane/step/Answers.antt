use Rattle.std.proofs.Common.{refl}
use Rattle.sf_core.specs.declared.step.Step.TheVariants as step
use Rattle.sf_pool.proofs.Transcribing.{own_page, answers, last_answered}
use Rattle.sf_pool.proofs.transcript_lane.TranscriptLane.step.Goals as goal

pub returns-in-Some-clause-outcome : goal.returns-in-Some-clause-outcome
returns-in-Some-clause-outcome g c =
    let told = c.in-Answered.ensures.told in
    answers c.self.inside.place c.in-Joined.lane c.step.new.lane c.self.inside.keeps c.self.inside.steps _ _ _ c.in-Answered.answer.reply c.self.view_is c.in-Joined.is c.answered.ensures.outcome told.2 c.saturating_add-self-inside.ensures

pub returns-in-Some-clause-steps : goal.returns-in-Some-clause-steps
returns-in-Some-clause-steps g c =
    let told = c.in-Answered.ensures.told in
    let given = c.in-Answered.answer in
    record {
      before = c.in-Joined.lane;
      after = c.step.new.lane;
      result = step.Answered given;
      own = own_page c.self.inside.place c.in-Joined.lane c.self.inside.keeps c.self.inside.steps _ c.self.view_is c.in-Joined.is;
      own_after = record { session = refl; place = refl; told = refl };
      steps = c.in-Answered.ensures.steps;
      tells = (c.answered.ensures.outcome, c.answered.ensures.blocked, last_answered c.in-Joined.lane c.step.new.lane given.number given.reply told.1 told.2);
    }
