use Rattle.std.proofs.Common.{◌≡◌, ◌++◌, ◌∷◌, [], Bool, false, Result, Ok, Err, refl, ap, ◌∙◌, subst, inr}
use Rattle.std.proofs.lemmas.Result.{err_from_is_err_and}
use Rattle.sf_engine.specs.declared.event.Happened.{Happened}
use Rattle.sf_engine.specs.declared.event.EngineFault.{EngineFault}
use Rattle.sf_engine.specs.declared.event.Event.TheVariants as event
use Rattle.sf_engine.specs.Promise.{Entry, event_of, result_of}
use Rattle.sf_refusing.specs.Journal.{log_of}
use Rattle.sf_refusing.specs.Refusing.{MovesFront}
use Rattle.sf_refusing.proofs.Entries.{plain_turn}
use Rattle.sf_refusing.proofs.Sessions.{turned}
use Rattle.sf_refusing.proofs.refusals.Refusals.turn.Goals as goal

pub returns : goal.returns
returns g c = λ journal H.
    let on = c.in_ok-move_on.ensures journal H in
    let passes : MovesFront journal c.args.session (Ok false) on.0 = subst (λ (b : Bool). MovesFront journal c.args.session (Ok b) on.0) c.if-branch.false on.1 in
    let did = c.apply.ensures.on (log_of (journal ++ on.0)) on.2.1 in
    turned g.E.Sftp.has_log c.apply.new.self c.move_on.new.self journal on.0 c.args.session c.apply.result
    (λ entries. (x : Entry) × (entries ≡ x ∷ []) × (event_of x ≡ event.Turn c.args.session c.args.moment) × (result_of x ≡ c.apply.result))
    (did.0 ∷ []) passes on.2.0 (did.0, refl, did.1, did.2) (plain_turn c.args.session c.args.moment did.0 did.1, tt) did.3

pub returns-in_err-move_on : goal.returns-in_err-move_on
returns-in_err-move_on g c = λ journal H.
    let p = err_from_is_err_and c.from_residual.result c.from_residual.ensures.1 in
    let on = c.in_err-move_on.ensures journal H in
    (on.0, inr (inr (p.1 ∙ ap (λ (f : EngineFault). let r : Result Happened EngineFault = Err f in r) (p.2 ∙ on.1.0), on.1.1, on.1.2)), on.2)
