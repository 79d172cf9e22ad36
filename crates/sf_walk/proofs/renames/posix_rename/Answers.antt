use Rattle.sf_walk.proofs.renames.posix_rename.Goals as goal

pub returns-clause-served : goal.returns-clause-served
returns-clause-served c = λ t k. c.carry_out.ensures.served t _ k (c.posix_course-course.ensures.course t c.args.moment k)
