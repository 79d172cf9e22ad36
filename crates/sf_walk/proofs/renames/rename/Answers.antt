use Rattle.sf_walk.proofs.renames.rename.Goals as goal

pub carry_out-requires : goal.carry_out-requires
carry_out-requires c = c.rename_course-course.ensures.named c.args.store.now c.args.old.now c.args.new.now c.requires

pub returns-clause-served : goal.returns-clause-served
returns-clause-served c = λ t k. c.carry_out.ensures.served t _ k (c.rename_course-course.ensures.course c.args.store.now t c.args.old.now c.args.new.now c.args.moment k c.requires)
