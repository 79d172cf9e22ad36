use Rattle.std.proofs.Common.{◌≡◌, ◌≤◌, ◌-◌, ◌^◌, ◌++◌, length, Bool, true, false, Result, Ok, Err, ap, ◌∙◌, subst, inr}
use Rattle.std.proofs.lemmas.Result.{err_from_is_err_and}
use Rattle.sf_engine.specs.declared.event.Happened.{Happened}
use Rattle.sf_engine.specs.declared.event.EngineFault.{EngineFault}
use Rattle.sf_engine.specs.Promise.{continues, AreTurnsOf}
use Rattle.sf_refusing.specs.Journal.{log_of}
use Rattle.sf_refusing.specs.Refusing.{MovesFront}
use Rattle.sf_refusing.proofs.Entries.{plain_turns}
use Rattle.sf_refusing.proofs.Sessions.{turned}
use Rattle.sf_refusing.proofs.refusals.Refusals.turns.Goals as goal

pub returns : goal.returns
returns g c = λ journal H.
    let on = c.in_ok-move_on.ensures journal H in
    let passes : MovesFront journal c.args.session (Ok false) on.0 = subst (λ (b : Bool). MovesFront journal c.args.session (Ok b) on.0) c.if-branch.false on.1 in
    let did = c.turns.ensures (log_of (journal ++ on.0)) on.2.1 in
    turned g.E.Sftp.has_log c.turns.new.self c.move_on.new.self journal on.0 c.args.session c.turns.result
    (λ entries. AreTurnsOf c.args.session c.args.moment c.turns.result entries × (continues c.turns.result ≡ true → 2 ^ 64 - 1 ≤ length entries))
    did.0 passes on.2.0 (did.1, did.3) (plain_turns c.args.session c.args.moment c.turns.result did.0 did.1) did.2

pub returns-in_err-move_on : goal.returns-in_err-move_on
returns-in_err-move_on g c = λ journal H.
    let p = err_from_is_err_and c.from_residual.result c.from_residual.ensures.1 in
    let on = c.in_err-move_on.ensures journal H in
    (on.0, inr (inr (p.1 ∙ ap (λ (f : EngineFault). let r : Result Happened EngineFault = Err f in r) (p.2 ∙ on.1.0), on.1.1, on.1.2)), on.2)
