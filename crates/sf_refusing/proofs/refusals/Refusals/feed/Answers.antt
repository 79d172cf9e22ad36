use Rattle.std.proofs.Common.{◌≡◌, ◌++◌, ◌∷◌, ℕ, List, [], length, slice_get, Some, Result, refl, ap, sym, ◌∙◌, subst, arith, append_assoc}
use Rattle.std.specs.Vec.{with_item}
use Rattle.std.proofs.lemmas.Option.{slice_get_read}
use Rattle.sf_refusing.specs.declared.passage.Passage.{Passage}
use Rattle.sf_refusing.specs.declared.refusals.Refusals.{Refusals}
use Rattle.std.specs.Global.{Vec}
use Rattle.std.specs.Prelude.{IfErr}
use Rattle.std.proofs.lemmas.Result.{err_from_is_err_and}
use Rattle.sf_engine.specs.declared.event.Happened.{Happened}
use Rattle.sf_engine.specs.declared.event.EngineFault.{EngineFault}
use Rattle.sf_engine.specs.declared.event.Event.TheVariants as event
use Rattle.sf_engine.specs.Promise.{Entry}
use Rattle.sf_refusing.specs.Journal.{Act, Made, Received, log_of}
use Rattle.sf_refusing.specs.Refusing.{IsFed, HasJournal, Have, MayRefuseFeed}
use Rattle.sf_refusing.proofs.Vecs.{vec_of}
use Rattle.sf_refusing.proofs.Faults.{feed_refused}
use Rattle.sf_refusing.proofs.Entries.{fed_entry, refused_entry, plain_probe}
use Rattle.sf_refusing.proofs.Steps.{plain_has}
use Rattle.sf_refusing.proofs.Sessions.{on_err, kept_has, received_has, log_received}
use Rattle.sf_refusing.proofs.refusals.Refusals.feed.Goals as goal

pub returns-then-is_err-clause-err : goal.returns-then-is_err-clause-err
returns-then-is_err-clause-err g c = (
  refl,
  λ journal H.
      let p : Passage = c.index_mut.result.now in
      let here : slice_get c.passage_of.new.self.passages.items c.in-Ok.at ≡ Some p = slice_get_read c.passage_of.new.self.passages.items (length c.passage_of.new.self.passages.items) c.in-Ok.at p refl c.in-Ok.ensures.at.1 c.index_mut.ensures.value in
      let p' : Passage = record { held = c.reserve.new.self; output = p.output; begun = p.begun } in
      let now : Refusals = record { alloc = c.passage_of.new.self.alloc; passages = with_item c.passage_of.new.self.passages c.in-Ok.at p'; rules = c.passage_of.new.self.rules } in
      kept_has c.passage_of.new.self now journal c.args.session c.in-Ok.at p p' (c.in-Ok.ensures.has journal H) here c.in-Ok.ensures.at.0 refl refl c.reserve.ensures.items refl refl,
)

pub returns-in_err-fed-clause-err : goal.returns-in_err-fed-clause-err
returns-in_err-fed-clause-err g c = on_err c.from_residual.result _ (
  c.in_err-fed.ensures.err,
  λ journal H.
      let p : Passage = c.index_mut.result.now in
      let here : slice_get c.passage_of.new.self.passages.items c.in-Ok.at ≡ Some p = slice_get_read c.passage_of.new.self.passages.items (length c.passage_of.new.self.passages.items) c.in-Ok.at p refl c.in-Ok.ensures.at.1 c.index_mut.ensures.value in
      let p' : Passage = record { held = c.reserve.new.self; output = p.output; begun = p.begun } in
      let now : Refusals = record { alloc = c.passage_of.new.self.alloc; passages = with_item c.passage_of.new.self.passages c.in-Ok.at p'; rules = c.passage_of.new.self.rules } in
      kept_has c.passage_of.new.self now journal c.args.session c.in-Ok.at p p' (c.in-Ok.ensures.has journal H) here c.in-Ok.ensures.at.0 refl refl c.reserve.ensures.items refl refl,
)

pub returns-clause-ok : goal.returns-clause-ok
returns-clause-ok g c = λ journal H.
    let s : ℕ = c.args.session in
    let bytes : List ℕ = c.args.bytes.now in
    let p : Passage = c.index_mut.result.now in
    let here : slice_get c.passage_of.new.self.passages.items c.in-Ok.at ≡ Some p = slice_get_read c.passage_of.new.self.passages.items (length c.passage_of.new.self.passages.items) c.in-Ok.at p refl c.in-Ok.ensures.at.1 c.index_mut.ensures.value in
    let p' : Passage = record { held = c.extend_reserved.new.self; output = p.output; begun = p.begun } in
    let now : Refusals = record { alloc = c.passage_of.new.self.alloc; passages = with_item c.passage_of.new.self.passages c.in-Ok.at p'; rules = c.passage_of.new.self.rules } in
    let fed : Vec ℕ = vec_of c.args.self.now.passages [] (omega arith) in
    let on = c.in_ok-fed.ensures.on fed refl (log_of journal) H.1 in
    let e : Entry = on.0 in
    let F : IsFed s [] e = record { fed = fed; items = refl; is = fed_entry e s fed c.in_ok-fed.fed on.1 on.2 } in
    let asked : HasJournal c.passage_of.new.self (journal ++ Made e ∷ []) = plain_has c.passage_of.new.self journal e (plain_probe s e F) (c.in-Ok.ensures.has journal H.0) in
    let both : HasJournal now ((journal ++ Made e ∷ []) ++ Received s bytes ∷ []) =
    received_has c.passage_of.new.self now (journal ++ Made e ∷ []) s c.in-Ok.at p p' bytes asked here c.in-Ok.ensures.at.0 refl refl (c.extend_reserved.ensures.items ∙ ap (λ (b : List ℕ). b ++ bytes) c.reserve.ensures.items) refl refl in
    let has = subst (λ (l : List Entry). g.E.Sftp.has_log c.feed.new.self l) (log_received journal e s bytes) on.3 in
    (e, F, on.2, subst (λ (j : List Act). Have g.E.Sftp.has_log c.feed.new.self now j) (append_assoc journal (Made e ∷ []) (Received s bytes ∷ [])) (both, has))

pub returns-in_err-fed-clause-fault : goal.returns-in_err-fed-clause-fault
returns-in_err-fed-clause-fault g c =
    let p = err_from_is_err_and c.from_residual.result c.from_residual.ensures.1 in
    let P : EngineFault → Type 0 = λ f. (journal : List Act) → Have g.E.Sftp.has_log c.args.engine.now c.args.self.now journal → MayRefuseFeed (log_of journal) c.args.session f in
    subst (λ (r : Result Happened EngineFault). IfErr r P) (sym p.1) (subst P (sym p.2) (λ journal H.
    let fed : Vec ℕ = vec_of c.args.self.now.passages [] (omega arith) in
    let on = c.in_err-fed.ensures.on fed refl (log_of journal) H.1 in
    let lawful = (g.met.E.Sftp.kept c.feed.new.self (log_of journal ++ on.0 ∷ []) on.3).lawful (log_of journal) [] on.0 refl in
    feed_refused (log_of journal) c.args.session fed c.in_err-fed.field-0.0 (c.in-Some.ensures.some (log_of journal) H.1).0
    (refused_entry (log_of journal) on.0 (event.Feed c.args.session fed) c.in_err-fed.field-0.0 on.1 on.2 lawful)))
