use Rattle.std.proofs.Common.{◌≡◌, ◌∙◌, None, Result, Ok, refl, sym, subst, inl, inr}
use Rattle.sf_engine.specs.declared.event.Happened.{Happened}
use Rattle.sf_engine.specs.declared.event.Happened.TheVariants as happened
use Rattle.sf_engine.specs.declared.event.EngineFault.{EngineFault}
use Rattle.sf_asking.specs.Asking.{stuck_by, Turned}
use Rattle.sf_asking.proofs.conversing.converse.Goals as goal

-- if turns wrote a reply, the last one wrote it
wrote : (r : Result Happened EngineFault) → stuck_by r ≡ None → r ≡ Ok happened.Wrote
wrote (Ok happened.Wrote) none = refl
wrote _ none = absurd cc

pub returns-in-Err : goal.returns-in-Err
returns-in-Err g c = inl (c.in-Err.ensures.err, inr (c.in-Err.fault, (λ fed items. (c.in-Err.ensures.on fed items, c.in-Err.ensures.err)), c.fault_for.ensures))

pub returns-in-Some : goal.returns-in-Some
returns-in-Some g c = inr (
  c.turns.result,
  record { fed = c.feed.new.self; happened = c.in_default.field-0; feeds = λ fed items. (c.in_default.ensures.on fed items, tt); turns = c.turns.ensures },
  sym c.stuck_by.ensures ∙ c.in-Some.is,
)

pub returns-in-None : goal.returns-in-None
returns-in-None g c =
    let turned : Turned g.E.Sftp.has_log c.args.session c.args.moment c.args.bytes.now c.args.engine.now c.turns.result c.turns.new.self =
    record { fed = c.feed.new.self; happened = c.in_default.field-0; feeds = λ fed items. (c.in_default.ensures.on fed items, tt); turns = c.turns.ensures } in
    let is : c.turns.result ≡ Ok happened.Wrote = wrote c.turns.result (sym c.stuck_by.ensures ∙ c.in-None.is) in
    subst (λ (r : Result Happened EngineFault). Turned g.E.Sftp.has_log c.args.session c.args.moment c.args.bytes.now c.args.engine.now r c.turns.new.self) is turned
