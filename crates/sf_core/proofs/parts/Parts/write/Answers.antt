use Rattle.std.proofs.Common.{◌≡◌, ◌+◌, ℕ, Some, sym, ap, subst, ◌∙◌, refl}
use Rattle.sf_reply.specs.declared.reply.Reply.{Reply}
use Rattle.sf_book.specs.Books.{put}
use Rattle.sf_call.specs.declared.call.Call.{Call}
use Rattle.sf_call.specs.declared.call.Stage.{Stage}
use Rattle.sf_call.specs.declared.call.Stage.TheVariants as stage
use Rattle.sf_call.specs.declared.record.Record.TheVariants.{Did}
use Rattle.sf_call.specs.Unanswered.{answered, staged}
use Rattle.sf_walk.specs.declared.finding.Located.TheVariants.{NoWay}
use Rattle.sf_walk.specs.Files.{IsSettled, IsWriteRequest, file_handle}
use Rattle.sf_core.specs.Cores.{call_at}
use Rattle.sf_core.specs.Parts.{PartsView}
use Rattle.sf_core.specs.Stepping.{FinishState, freed, gone}
use Rattle.sf_core.specs.Writing.{CopiesOne, WriteState, file_held}
use Rattle.sf_core.proofs.Maps.{some_eq}
use Rattle.sf_core.proofs.CopySteps.{stays_written}
use Rattle.sf_core.proofs.Writers.{opens_same}
use Rattle.sf_core.proofs.parts.Parts.write.Goals as goal

pub start-reply-requires-clause-write : goal.start-reply-requires-clause-write
start-reply-requires-clause-write c =
    (c.requires.write c.in-Some.call.now (subst (λ (v : PartsView). call_at v.calls c.args.number ≡ Some c.in-Some.call.now) c.self.view_is (sym c.in-Some.ensures))).write

pub start-reply-requires-clause-settled : goal.start-reply-requires-clause-settled
start-reply-requires-clause-settled c =
    let inside : PartsView = record { store = c.self.inside.store; book = c.self.inside.book; sessions = c.self.inside.sessions; calls = c.self.inside.calls; drawn = c.self.inside.drawn; joins = c.self.inside.joins } in
    let call = c.in-Some.call.now in
    subst (λ (v : PartsView). IsSettled v.store call.session call.request NoWay) (sym c.self.view_is)
    (c.requires.write call (subst (λ (v : PartsView). call_at v.calls c.args.number ≡ Some call) c.self.view_is (sym c.in-Some.ensures))).settled

pub returns-in-None-clause-decided : goal.returns-in-None-clause-decided
returns-in-None-clause-decided c = λ d at.
    let inside : PartsView = record { store = c.self.inside.store; book = c.self.inside.book; sessions = c.self.inside.sessions; calls = c.self.inside.calls; drawn = c.self.inside.drawn; joins = c.self.inside.joins } in
    let mid = c.start-reply.new.store in
    let begun : PartsView = record inside { store = mid } in
    let here : call_at c.self.inside.calls c.args.number ≡ Some d = subst (λ (v : PartsView). call_at v.calls c.args.number ≡ Some d) (sym c.self.view_is) at in
    let call = c.in-Some.call.now in
    let same : call ≡ d = some_eq call d (c.in-Some.ensures ∙ here) in
    let ready = c.requires.write d at in
    let r = c.start-reply.result.0 in
    let fresh : call.stage ≡ stage.Fresh = ap (λ (x : Call). x.stage) same ∙ ready.fresh in
    let own : FinishState inside (gone begun call c.args.number r) call c.args.number r = record {
      records = record {
        mid = mid;
        serves = record {
          served = λ t kept _. c.start-reply.ensures.served t kept;
          sure = λ t kept _ may. c.start-reply.ensures.sure t kept may;
          nodes =
              stays_written c.self.inside.store mid call (subst (λ (x : Call). IsWriteRequest x.request) (sym same) ready.write)
              (subst (λ (v : PartsView). IsSettled v.store call.session call.request NoWay) (sym c.self.view_is) (subst (λ (x : Call). IsSettled c.args.self.now.store x.session x.request NoWay) (sym same) ready.settled))
              c.start-reply.ensures.starts c.start-reply.ensures.none c.start-reply.ensures.sessions c.in-None.ensures.none;
        };
        store = sym (ap (λ (g : Stage). freed g mid) fresh);
        book = refl;
        drawn = refl;
        joins = refl;
      };
      look_ups = c.start-reply.ensures.look_ups;
      sessions = refl;
      calls = refl;
    } in
    let state = c.answer.ensures.state call (sym c.in-Some.ensures) in
    let told : r ≡ c.answer.result = sym (c.answer.ensures.copy ∙ c.start-reply.ensures.copy) in
    let one : CopiesOne c.self.inside.store call r = λ number offset bytes h is at some ok.
    let all = c.start-reply.ensures.copied number offset bytes h is at some ok in
    let none = c.in-None.ensures.none number h (ap file_handle is) (opens_same c.self.inside.store mid call.session number c.start-reply.ensures.sessions ∙ at) in
    sym all ∙ ap (λ k. k + 1) none in (
      subst (λ (v : PartsView). FinishState v c.answer.new.self d c.args.number c.answer.result) c.self.view_is
          (subst (λ (x : Call). FinishState inside c.answer.new.self x c.args.number c.answer.result) same
          (subst (λ (g : Reply). FinishState inside c.answer.new.self call c.args.number g) told
          (subst (λ (q : PartsView). FinishState inside q call c.args.number r) (sym state) own))),
      subst (λ (v : PartsView). CopiesOne v.store d c.answer.result) c.self.view_is
          (subst (λ (x : Call). CopiesOne c.self.inside.store x c.answer.result) same
          (subst (λ (g : Reply). CopiesOne c.self.inside.store call g) told one)),
    )

pub returns-in-Some-left_to_copy-clause-begun : goal.returns-in-Some-left_to_copy-clause-begun
returns-in-Some-left_to_copy-clause-begun c = λ d at.
    let inside : PartsView = record { store = c.self.inside.store; book = c.self.inside.book; sessions = c.self.inside.sessions; calls = c.self.inside.calls; drawn = c.self.inside.drawn; joins = c.self.inside.joins } in
    let mid = c.start-reply.new.store in
    let begun : PartsView = record inside { store = mid } in
    let here : call_at c.self.inside.calls c.args.number ≡ Some d = subst (λ (v : PartsView). call_at v.calls c.args.number ≡ Some d) (sym c.self.view_is) at in
    let call = c.in-Some.call.now in
    let same : call ≡ d = some_eq call d (c.in-Some.ensures ∙ here) in
    let ready = c.requires.write d at in
    let r = c.start-reply.result.0 in
    let copy = c.start-reply.result.1 in
    let into = c.in-Some-left_to_copy.into in
    let is_number : call.number ≡ c.args.number = ap (λ (x : Call). x.number) same ∙ ready.is_number in
    let own : WriteState inside (file_held begun call c.args.number r copy into) call c.args.number r into = record {
      mid = mid;
      begins = record {
        served = c.start-reply.ensures.served;
        starts = c.start-reply.ensures.starts;
        sessions = c.start-reply.ensures.sessions;
        look_ups = c.start-reply.ensures.look_ups;
      };
      copied = c.in-Some-left_to_copy.ensures.some;
      store = refl;
      book = ap (λ (n : ℕ). put c.self.inside.book (Did n call.session call.moment call.request r)) (sym is_number);
      sessions = refl;
      calls = ap (λ (g : Reply). staged (answered c.self.inside.calls c.args.number g) c.args.number (stage.Copies into.node into.left)) c.start-reply.ensures.copy;
      drawn = refl;
      joins = refl;
    } in
    let state = c.hold_file.ensures call (sym c.in-Some.ensures) (subst (λ (x : Call). x.copy ≡ Some x.request) (sym same) ready.copied) in (
      r,
      into,
      subst (λ (v : PartsView). WriteState v c.hold_file.new.self d c.args.number r into) c.self.view_is
          (subst (λ (x : Call). WriteState inside c.hold_file.new.self x c.args.number r into) same
          (subst (λ (q : PartsView). WriteState inside q call c.args.number r into) (sym state) own)),
    )
