use Rattle.std.proofs.Common.{◌≡◌, ◌<◌, ◌≤◌, ◌-◌, ◌⊎◌, ◌++◌, ◌∷◌, ℕ, List, [], length, take, false, slice_get, Some, Result, refl, ap, sym, ◌∙◌, subst, arith, inl, inr}
use Rattle.std.specs.Vec.{with_item}
use Rattle.std.proofs.lemmas.Option.{slice_get_read}
use Rattle.sf_refusing.specs.declared.passage.Passage.{Passage}
use Rattle.sf_refusing.specs.declared.refusals.Refusals.{Refusals}
use Rattle.std.proofs.lemmas.List.{length-take-le, take-append-drop}
use Rattle.std.specs.Prelude.{IfErr}
use Rattle.std.proofs.lemmas.Result.{err_from_is_err_and}
use Rattle.sf_engine.specs.declared.event.Happened.{Happened}
use Rattle.sf_engine.specs.declared.event.EngineFault.{EngineFault}
use Rattle.sf_engine.specs.declared.event.Event.TheVariants as event
use Rattle.sf_engine.specs.Promise.{Entry, BytesSent, result_of}
use Rattle.sf_refusing.specs.Journal.{Act, log_of}
use Rattle.sf_refusing.specs.Refusing.{Have, MayRefuseSent}
use Rattle.sf_refusing.specs.Fronts.{IsPassageAt}
use Rattle.sf_refusing.proofs.Entries.{sent_entry, refused_entry}
use Rattle.sf_refusing.proofs.Faults.{on_err_from, sent_refused}
use Rattle.sf_refusing.proofs.Sessions.{on_err, on_ok_from, kept_has, have_still, delivered_has, were_there, sent_has, sent_none, log_delivered, log_delivered_alone}
use Rattle.sf_refusing.proofs.refusals.Refusals.sent.Goals as goal

pub returns-in_default-clause-ok : goal.returns-in_default-clause-ok
returns-in_default-clause-ok g c = on_ok_from c.apply.result _ (λ h is journal H.
    let s : ℕ = c.args.session in
    let n : ℕ = c.args.count in
    let none : (c.args.session ≡ 0) ⊎ (length c.args.self.now.passages.items < c.args.session) = elim c.in_default.ensures.none [ inl z ↦ inl z | inr lt ↦ inr (omega (arith, lt, c.len.ensures, c.args.self.now.passages.ok.0)) ] in
    let on = c.apply.ensures.on (log_of journal) H.1 in
    let e : Entry = BytesSent s n in
    let same : on.0 ≡ e = sent_entry on.0 s n h on.1 (on.2 ∙ is) in
    let has : g.E.Sftp.has_log c.apply.new.self (log_of journal ++ e ∷ []) = subst (λ (x : Entry). g.E.Sftp.has_log c.apply.new.self (log_of journal ++ x ∷ [])) same on.3 in
    let lawful = (g.met.E.Sftp.kept c.apply.new.self (log_of journal ++ e ∷ []) has).lawful (log_of journal) [] e refl in (
      sym on.2 ∙ ap result_of same,
      e ∷ [],
      (
        sent_none c.args.self.now journal s n H.0 none (were_there (log_of journal) s n lawful),
        subst (λ (l : List Entry). g.E.Sftp.has_log c.apply.new.self l) (log_delivered journal e s n) has,
      ),
    ))

pub returns-then-count-waiting-clause-ok : goal.returns-then-count-waiting-clause-ok
returns-then-count-waiting-clause-ok g c = λ journal H.
    let s : ℕ = c.args.session in
    let n : ℕ = c.args.count in
    let p : Passage = c.index_mut.result.now in
    let here : slice_get c.args.self.now.passages.items c.in-Some.at ≡ Some p = slice_get_read c.args.self.now.passages.items (length c.args.self.now.passages.items) c.in-Some.at p refl (omega (arith, c.in-Some.ensures.some.1, c.len.ensures, c.args.self.now.passages.ok.0)) c.index_mut.ensures.value in
    let p' : Passage = record { held = p.held; output = c.advance.new.self; begun = p.begun } in
    let now : Refusals = record { alloc = c.args.self.now.alloc; passages = with_item c.args.self.now.passages c.in-Some.at p'; rules = c.args.self.now.rules } in
    let still = have_still g.E.Sftp.has_log c.args.engine.now c.args.self.now journal H in
    let le : n ≤ length p.output.items = omega (arith, c.if-count-waiting.true, c.len-waiting.ensures.value) in (
      refl,
      [],
      (
        delivered_has c.args.self.now now (journal ++ []) s c.in-Some.at n p p' (take n p.output.items) still.0 here c.in-Some.ensures.some.0 refl refl (length-take-le n p.output.items le)
            (sym (take-append-drop n p.output.items) ∙ ap (λ (b : List ℕ). take n p.output.items ++ b) (sym c.advance.ensures.items)) refl refl,
        subst (λ (l : List Entry). g.E.Sftp.has_log c.args.engine.now l) (log_delivered_alone (journal ++ []) s n) still.1,
      ),
    )

pub returns-in_err-sent-clause-err : goal.returns-in_err-sent-clause-err
returns-in_err-sent-clause-err g c = on_err c.from_residual.result _ (
  c.in_err-sent.ensures.err,
  λ journal H.
      let p : Passage = c.index_mut.result.now in
      let here : slice_get c.args.self.now.passages.items c.in-Some.at ≡ Some p = slice_get_read c.args.self.now.passages.items (length c.args.self.now.passages.items) c.in-Some.at p refl (omega (arith, c.in-Some.ensures.some.1, c.len.ensures, c.args.self.now.passages.ok.0)) c.index_mut.ensures.value in
      let now : Refusals = record { alloc = c.args.self.now.alloc; passages = with_item c.args.self.now.passages c.in-Some.at p; rules = c.args.self.now.rules } in
      kept_has c.args.self.now now journal c.args.session c.in-Some.at p p H here c.in-Some.ensures.some.0 refl refl refl refl refl,
)

pub returns-clause-ok : goal.returns-clause-ok
returns-clause-ok g c = λ journal H.
    let s : ℕ = c.args.session in
    let n : ℕ = c.args.count in
    let p : Passage = c.index_mut.result.now in
    let here : slice_get c.args.self.now.passages.items c.in-Some.at ≡ Some p = slice_get_read c.args.self.now.passages.items (length c.args.self.now.passages.items) c.in-Some.at p refl (omega (arith, c.in-Some.ensures.some.1, c.len.ensures, c.args.self.now.passages.ok.0)) c.index_mut.ensures.value in
    let p' : Passage = record { held = p.held; output = c.clear.new.self; begun = p.begun } in
    let now : Refusals = record { alloc = c.args.self.now.alloc; passages = with_item c.args.self.now.passages c.in-Some.at p'; rules = c.args.self.now.rules } in
    let on = c.in_ok-sent.ensures.on (log_of journal) H.1 in
    let k : ℕ = n - c.len-waiting.result in
    let e : Entry = BytesSent s k in
    let same : on.0 ≡ e = sent_entry on.0 s k c.in_ok-sent.sent on.1 on.2 in
    let has : g.E.Sftp.has_log c.apply-2.new.self (log_of journal ++ e ∷ []) = subst (λ (x : Entry). g.E.Sftp.has_log c.apply-2.new.self (log_of journal ++ x ∷ [])) same on.3 in
    let lawful = (g.met.E.Sftp.kept c.apply-2.new.self (log_of journal ++ e ∷ []) has).lawful (log_of journal) [] e refl in (
      sym on.2 ∙ ap result_of same,
      e ∷ [],
      (
        sent_has c.args.self.now now journal s c.in-Some.at n k p p' H.0 here c.in-Some.ensures.some.0 refl refl (omega (arith, c.len-waiting.ensures.value, c.if-count-waiting.false)) (were_there (log_of journal) s k lawful) c.clear.ensures.items refl refl,
        subst (λ (l : List Entry). g.E.Sftp.has_log c.apply-2.new.self l) (log_delivered journal e s n) has,
      ),
    )

pub returns-in_default-clause-fault : goal.returns-in_default-clause-fault
returns-in_default-clause-fault g c = on_err_from c.apply.result _ (λ f is journal H.
    let s : ℕ = c.args.session in
    let n : ℕ = c.args.count in
    let none : (c.args.session ≡ 0) ⊎ (length c.args.self.now.passages.items < c.args.session) = elim c.in_default.ensures.none [ inl z ↦ inl z | inr lt ↦ inr (omega (arith, lt, c.len.ensures, c.args.self.now.passages.ok.0)) ] in
    let on = c.apply.ensures.on (log_of journal) H.1 in
    let lawful = (g.met.E.Sftp.kept c.apply.new.self (log_of journal ++ on.0 ∷ []) on.3).lawful (log_of journal) [] on.0 refl in
    sent_refused journal s n n [] [] false f (omega arith) (H.0.others s none) (refused_entry (log_of journal) on.0 (event.Sent s n) f on.1 (on.2 ∙ is) lawful))

pub returns-in_err-sent-clause-fault : goal.returns-in_err-sent-clause-fault
returns-in_err-sent-clause-fault g c =
    let y = err_from_is_err_and c.from_residual.result c.from_residual.ensures.1 in
    let P : EngineFault → Type 0 = λ f. (journal : List Act) → Have g.E.Sftp.has_log c.args.engine.now c.args.self.now journal → MayRefuseSent journal c.args.session c.args.count f in
    subst (λ (r : Result Happened EngineFault). IfErr r P) (sym y.1) (subst P (sym y.2) (λ journal H.
    let s : ℕ = c.args.session in
    let p : Passage = c.index_mut.result.now in
    let here : slice_get c.args.self.now.passages.items c.in-Some.at ≡ Some p = slice_get_read c.args.self.now.passages.items (length c.args.self.now.passages.items) c.in-Some.at p refl (omega (arith, c.in-Some.ensures.some.1, c.len.ensures, c.args.self.now.passages.ok.0)) c.index_mut.ensures.value in
    let at : IsPassageAt journal s p = subst (λ (n : ℕ). IsPassageAt journal n p) c.in-Some.ensures.some.0 (H.0.each c.in-Some.at p here) in
    let k : ℕ = c.args.count - c.len-waiting.result in
    let on = c.in_err-sent.ensures.on (log_of journal) H.1 in
    let lawful = (g.met.E.Sftp.kept c.apply-2.new.self (log_of journal ++ on.0 ∷ []) on.3).lawful (log_of journal) [] on.0 refl in
    sent_refused journal s c.args.count k p.held.items p.output.items p.begun c.in_err-sent.field-0.0 (omega (arith, c.len-waiting.ensures.value, c.if-count-waiting.false)) at
    (refused_entry (log_of journal) on.0 (event.Sent s k) c.in_err-sent.field-0.0 on.1 on.2 lawful)))
