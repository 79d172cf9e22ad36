use Rattle.sf_core.specs.Cores.{call_at}
use Rattle.sf_core.specs.Writing.WritesOn.{ByFirstStep}
use Rattle.sf_core.proofs.Maps.{there_is}
use Rattle.sf_core.proofs.CopySteps.{begun_copies, written_on}
use Rattle.sf_core.proofs.parts.Parts.write_on.Goals as goal

pub copy_on-requires : goal.copy_on-requires
copy_on-requires c =
    let w = there_is (call_at c.args.self.now.calls c.args.number) c.requires.there in
    begun_copies c.args.self.now c.write.new.self w.0 c.args.number w.1 (c.in-None.ensures.begun w.0 w.1)

pub returns-in-Some : goal.returns-in-Some
returns-in-Some c = λ d at. let e = c.in-Some.ensures.decided d at in ByFirstStep c.in-Some.reply e.0 e.1

pub returns-in-None : goal.returns-in-None
returns-in-None c = λ d at.
    written_on c.args.self.now c.copy_on.new.self d c.args.session c.args.number c.args.most c.copy_on.result
    (record { mid = c.write.new.self; begun = c.in-None.ensures.begun d at; ends = c.copy_on.ensures.some; more = c.copy_on.ensures.none })
