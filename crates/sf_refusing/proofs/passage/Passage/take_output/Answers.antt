use Rattle.std.proofs.Common.{[], ◌∷◌, ◌++◌, length, refl}
use Rattle.sf_engine.specs.declared.event.Event.TheVariants as event
use Rattle.sf_refusing.proofs.Entries.{refused_entry}
use Rattle.sf_refusing.proofs.Faults.{sent_fault}
use Rattle.sf_refusing.proofs.passage.Passage.take_output.Goals as goal

pub returns-in-Err-clause-fault : goal.returns-in-Err-clause-fault
returns-in-Err-clause-fault g c = λ log has known.
    let unsent = c.in-Some.ensures.some log has in
    let on = c.in-Err.ensures.on log has in
    let n = length c.in-Some.output.now in
    let lawful = (g.met.E.Sftp.kept c.apply.new.self (log ++ on.0 ∷ []) on.3).lawful log [] on.0 refl in
    sent_fault log c.args.session c.in-Some.output.now n c.in-Err.fault known unsent.1 refl (refused_entry log on.0 (event.Sent c.args.session n) c.in-Err.fault on.1 on.2 lawful)
