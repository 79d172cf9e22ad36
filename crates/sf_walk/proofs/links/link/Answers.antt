use Rattle.sf_walk.proofs.links.link.Goals as goal

pub returns-clause-served : goal.returns-clause-served
returns-clause-served c = λ t k. c.name_anew.ensures.served t _ k (c.link_course-course.ensures.course t c.args.moment k)
