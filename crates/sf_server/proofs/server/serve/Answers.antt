use Rattle.std.proofs.Common.{ℕ, ◌-◌, ◌∙◌, refl, ap, subst}
use Rattle.std.specs.Prelude.{◌≡◌, OnOk, Result, Ok, Err, Option, Some, None, List, Bool, true, false}
use Rattle.std.specs.Option.{is_some}
use Rattle.sf_workers.specs.declared.lines.Ended.{Ended}
use Rattle.std.specs.List.{count_by}
use Rattle.std.specs.Io.KnownBytes.{Appends}
use Rattle.sf_book.specs.Books.{is_call}
use Rattle.sf_audit.specs.Audits.{AgreesWith}
use Rattle.sf_server.specs.Totals.{totals_text, HasServedAll, HasWrittenTotals, HasServedToEnd}
use Rattle.sf_server.proofs.server.serve.Goals as goal

so_if_ok : {A E P Q : Type 0} → (r : Result A E) → (P → Q) → OnOk r P → OnOk r Q
so_if_ok (Ok x) f p = f p
so_if_ok (Err e) f p = tt

-- nothing is written if no number of sessions was requested
silent : (requested : Option ℕ) (until_eof : Bool) (loads : ℕ) (old : Option (List ℕ)) (ended : Ended) → is_some requested ≡ false → HasServedAll requested loads ended → until_eof ≡ true → HasServedToEnd requested until_eof loads old old
silent None until_eof loads old ended same served asked = (asked, ended, served, refl)
silent (Some n) until_eof loads old ended same served asked = absurd (cc)

written : (requested : Option ℕ) (until_eof : Bool) (loads : ℕ) (old new : Option (List ℕ)) → is_some requested ≡ true → HasWrittenTotals requested loads old new → HasServedToEnd requested until_eof loads old new
written None until_eof loads old new same wrote = absurd (cc)
written (Some n) until_eof loads old new same wrote = wrote

pub returns-then-is_none : goal.returns-then-is_none
returns-then-is_none g c =
    so_if_ok c.ends_with_input.result (silent c.args.serving.sessions c.args.serving.until_eof _ _ c.in_ok-ended.ended c.if-is_none.ensures c.in_ok-ended.ensures) c.ends_with_input.ensures

pub returns : goal.returns
returns g c =
    let ended = c.in_ok-ended.ended in
    let core = ended.core in
    let old = g.W.Write.contents c.args.output.now in
    let new = g.W.Write.contents c.tell.new.output in
    so_if_ok c.tell.result
    (λ tells. written c.args.serving.sessions c.args.serving.until_eof _ old new c.if-is_none.ensures (record {
      ended = ended;
      served = c.in_ok-ended.ensures;
      agree = subst (AgreesWith core.records core.folded) c.as_slice.ensures.value tells.0;
      wrote = λ h is. subst (λ (sessions : ℕ). Appends old new (totals_text sessions (count_by is_call h) core.folded)) (c.saturating_sub-sessions.ensures ∙ ap (λ (loads : ℕ). ended.sessions - loads) c.loads.ensures) (tells.1 h is);
    }))
    c.tell.ensures.told
