use Rattle.std.proofs.Common.{[], ◌∷◌, ◌++◌, refl, subst, arith}
use Rattle.std.proofs.lemmas.Grind.{common_steps}
use Rattle.sf_engine.specs.declared.event.Event.TheVariants as event
use Rattle.sf_engine.specs.Promise.{Entry}
use Rattle.sf_refusing.proofs.Entries.{fed_entry, refused_entry}
use Rattle.sf_refusing.proofs.passage.Passage.pass.Goals as goal

pub returns-in-Err-clause-fault : goal.returns-in-Err-clause-fault
returns-in-Err-clause-fault g c = λ fed is log has.
    let on = c.in-Err.ensures.on fed (grind (arith, common_steps)) log has in
    refused_entry log on.0 (event.Feed c.args.session fed) c.in-Err.fault on.1 on.2 ((g.met.E.Sftp.kept c.feed.new.self (log ++ on.0 ∷ []) on.3).lawful log [] on.0 refl)

pub returns-clause-fed : goal.returns-clause-fed
returns-clause-fed g c = λ fed is log has.
    let on = c.in_default.ensures.on fed (grind (arith, common_steps)) log has in
    subst (λ (x : Entry). g.E.Sftp.has_log c.feed.new.self (log ++ x ∷ [])) (fed_entry on.0 c.args.session fed c.in_default.field-0 on.1 on.2) on.3
