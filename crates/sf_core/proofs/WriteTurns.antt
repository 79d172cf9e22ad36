-- The effect of the first step of a WRITE of several blocks on a core, on its history and on the
-- lane.
use Rattle.std.specs.Prelude.{◌≡◌, ◌<◌, ◌+◌, ℕ, List, [], ◌∷◌, ◌++◌, length, Option, Some, None, refl}
use Rattle.std.proofs.Common.{sym, ap, subst, ◌∙◌, inl, inr, arith}
use Rattle.sf_reply.specs.declared.reply.Reply.{Reply}
use Rattle.sf_block.specs.Contents.{blocks_of}
use Rattle.sf_block.proofs.Laws.{blocks_few}
use Rattle.sf_book.specs.Books.{BookView}
use Rattle.sf_call.specs.declared.call.Call.{Call}
use Rattle.sf_call.specs.declared.call.Stage.TheVariants as stage
use Rattle.sf_call.specs.declared.record.Record.{Record}
use Rattle.sf_call.specs.declared.request.Request.{Request}
use Rattle.sf_call.specs.declared.request.Request.TheVariants as request
use Rattle.sf_call.specs.declared.metadata.Metadata.{Metadata}
use Rattle.sf_call.specs.declared.handle.Handle.{Handle}
use Rattle.sf_call.specs.Handles.{opened}
use Rattle.sf_call.specs.Calls.{start_of}
use Rattle.sf_call.specs.Histories.{replay}
use Rattle.sf_call.specs.Unanswered.{at_stage, answered, with_reply}
use Rattle.sf_call.proofs.Laws.{never_wants}
use Rattle.sf_inode.specs.declared.handle.OpenHandle.{OpenHandle}
use Rattle.sf_inode.specs.Stores.{StoreState}
use Rattle.sf_walk.specs.declared.finding.Ways.{Ways}
use Rattle.sf_walk.specs.declared.finding.Located.TheVariants.{NoWay}
use Rattle.sf_walk.specs.declared.files.Copying.{Copying}
use Rattle.sf_walk.specs.declared.walking.Walk.TheVariants as walked
use Rattle.sf_walk.specs.Files.{IsFileFree, IsSettled, IsWriteRequest, start_by}
use Rattle.sf_call.specs.Routes.{route_of}
use Rattle.sf_walk.specs.Routes.{IsPosition}
use Rattle.sf_call.specs.Routes.Route.{NoPath}
use Rattle.sf_core.specs.declared.step.Step.TheVariants as step
use Rattle.sf_core.specs.Lanes.{LaneView}
use Rattle.sf_core.specs.Cores.LaneState.{Busy}
use Rattle.sf_core.specs.Cores.{call_at, session_at}
use Rattle.sf_core.specs.Progress.{waiting_reply, left_of, steps_left_at, did}
use Rattle.sf_core.specs.Sure.{AreSure}
use Rattle.sf_core.specs.Events.{StartsToWrite}
use Rattle.sf_core.specs.Parts.{PartsView, core_of}
use Rattle.sf_core.specs.Sound.{Sound}
use Rattle.sf_core.specs.Stepping.{Walked}
use Rattle.sf_core.specs.Writing.{HasBegunWrite, WriteState}
use Rattle.sf_core.proofs.Maps.{some_eq, reply_is}
use Rattle.sf_core.proofs.Updates.{Updates, updates_answered, updates_staged}
use Rattle.sf_core.proofs.LookUps.{looks_between, looks_fit, looks_of_looked}
use Rattle.sf_core.proofs.FreeFiles.{only_fresh}
use Rattle.sf_core.proofs.LaneStates.{sets_slot, slot_busy, slots_kept, own_call, left_is, left_copying}
use Rattle.sf_core.proofs.Turns.{IsStep, IsTurn, apart}
use Rattle.sf_core.proofs.Deciding.{may_by, stands, ready_sound, ready_settled, at_q}
use Rattle.sf_core.proofs.CopySteps.{is_a_write, write_is}
use Rattle.sf_core.proofs.WriteSteps.{is, opens_was, starts, carried, written_sound}
use Rattle.sf_core.proofs.BlockTurns.{OnTurn}
use Rattle.sf_core.proofs.OneBlock.{start_told}
use Rattle.sf_call.specs.Attributes.Object.{File}

pub write_route : (r : Request) → IsWriteRequest r → route_of r ≡ NoPath
write_route r write = let w = is_a_write r write in ap route_of w.3

-- a WRITE is decided at its start
pub write_fresh : (c : Call) → IsWriteRequest c.request → IsPosition (route_of c.request) c.stage → c.stage ≡ stage.Fresh
write_fresh c write is = only_fresh (route_of c.request) c.stage (write_route c.request write) is

module _ (p : PartsView) (lane : LaneView) (c : Call) (turn : IsTurn p lane c) (undecided : waiting_reply c ≡ None) (q : PartsView) (ways : Ways) (w : Walked p q c c.number (walked.Ready ways)) (free : IsFileFree p.store c)
    (write : IsWriteRequest c.request) (r : PartsView) (begun : HasBegunWrite q r c c.number) where
  abbrev given : Reply
  given = begun.0

  abbrev into : Copying
  into = begun.1

  abbrev state : WriteState q r c c.number given into
  state = begun.2

  at : call_at q.calls c.number ≡ Some c
  at = at_q p lane c turn undecided q ways w free

  abbrev d : Call
  d = at_stage (stage.Copies begun.1.node begun.1.left) (with_reply begun.0 c)

  module _ (h : List Record) (sound : Sound p h) where
    ready : Sound q h
    ready = ready_sound p lane c turn undecided q ways w free h sound

    fresh : c.stage ≡ stage.Fresh
    fresh = write_fresh c write (sound.coupled.positions c.number c turn.at undecided)

    settled : IsSettled q.store c.session c.request NoWay
    settled = let s = ready_settled p lane c turn undecided q ways w free h sound in record { by_handle = s.by_handle; on_path = λ parent node cuts there. cc }

    sound_now : Sound r (h ++ did c begun.0 ∷ [])
    sound_now = written_sound q r h ready c at undecided fresh write settled begun.0 begun.1 begun.2

    -- ---- the number of remaining blocks
    abbrev handle : OpenHandle
    handle = begun.2.copied.handle

    abbrev request_is : (number : ℕ) × (offset : ℕ) × (bytes : List ℕ) × (c.request ≡ request.Write number offset bytes)
    request_is = is q r h ready c at undecided fresh write settled begun.0 begun.1 begun.2

    left_store : begun.1.left + 1 ≡ blocks_of (start_by q.store begun.2.copied.handle request_is.1) request_is.2
    left_store = elim (starts q r h ready c at undecided fresh write settled begun.0 begun.1 begun.2).left [
      | inl none ↦ let a = begun.2.copied.left in let b = begun.2.copied.some in absurd (omega (arith, none, a, b))
      | inr e ↦ let a = begun.2.copied.left in omega (arith, a, e)
    ]

    blocks : (number offset : ℕ) (bytes : List ℕ) → c.request ≡ request.Write number offset bytes → (x : Handle) (m : Metadata) (contents : List ℕ) → opened (replay h) c.session number ≡ Some (x, File m contents)
        → begun.1.left + 1 ≡ blocks_of (start_of x contents offset) bytes
    blocks number offset bytes e x m contents opens =
        let same : request.Write number offset bytes ≡ request.Write request_is.0 request_is.1 request_is.2 = sym e ∙ request_is.3 in
        let same_number : number ≡ request_is.0 = cc in
        let same_offset : offset ≡ request_is.1 = cc in
        let same_bytes : bytes ≡ request_is.2 = cc in
        let was = opens_was q r h ready c at undecided fresh write settled begun.0 begun.1 begun.2 in
        let told = start_told q.store (replay h) ready.history.tree c.session request_is.0 handle was x m contents (ap (opened (replay h) c.session) (sym same_number) ∙ opens) offset in
        left_store ∙ (λ i. blocks_of (start_by q.store handle (sym same_offset i)) (sym same_bytes i)) ∙ ap (λ k. blocks_of k bytes) (sym told)

    few : begun.1.left < left_of c
    few =
        let a = left_is c undecided ∙ ap (steps_left_at c.request) fresh ∙ ap (λ (y : Request). steps_left_at y stage.Fresh) request_is.3 in
        let b = left_store in
        let e = blocks_few (start_by q.store handle request_is.1) request_is.2 in
        omega (arith, a, b, e)

    updates : Updates q.calls (answered q.calls c.number begun.0) c.number (Some c) (Some (with_reply begun.0 c))
    updates = updates_answered q.calls c.number c begun.0 at

    last_updates : Updates (answered q.calls c.number begun.0) r.calls c.number (Some (with_reply begun.0 c)) (Some d)
    last_updates =
        subst (λ cs. Updates (answered q.calls c.number begun.0) cs c.number (Some (with_reply begun.0 c)) (Some d)) (sym begun.2.calls)
        (updates_staged (answered q.calls c.number begun.0) c.number (with_reply begun.0 c) (stage.Copies begun.1.node begun.1.left) updates.now_is)

    sure : AreSure h (did c begun.0 ∷ [])
    unfolding AreSure
    sure = (λ plain is_none. never_wants (replay h) c.session c.number c.moment c.request (sym (carried q r h ready c at undecided fresh write settled begun.0 begun.1 begun.2).told ∙ is_none), tt)

    told : StartsToWrite (record { core = core_of p; history = h; lane = lane }) (record { core = core_of r; added = did c begun.0 ∷ []; lane = lane }) c d begun.0
    told =
        let looks = looks_between p.store q.store 2 turn.fits (looks_of_looked p.store q.store 2 w.advances.looked) in
        let same_looks = ap (λ (s : StoreState). s.look_ups) begun.2.store in
        let begins = begun.2.begins.look_ups in
        let has : waiting_reply d ≡ Some begun.0 = reply_is d in
        let left = left_copying d begun.0 begun.1.node begun.1.left has refl in
        let busy : session_at p.sessions lane.session ≡ Some (Some c.number) = ap (session_at p.sessions) (sym turn.session) ∙ (sound.ledger.calls c.number c turn.at).session in
        let ss : (s : ℕ) → session_at r.sessions s ≡ session_at p.sessions s = λ s. ap (λ x. session_at x s) (begun.2.sessions ∙ w.sessions) in
        record {
          own = own_call p sound.ledger lane c.number c turn.at turn.session turn.call;
          same = record { number = refl; session = refl; moment = refl; request = refl };
          undecided = undecided;
          decided = has;
          write = write_is c.request write;
          position = sound.coupled.positions c.number c turn.at undecided;
          way = may_by p.store (replay h) sound.history.tree (route_of c.request) c.stage (stands p h sound c.number c turn.at undecided) w.advances.may;
          copies = tt;
          new_number = sound.history.undecided c.number c turn.at undecided;
          sure = sure;
          records = refl;
          told = (carried q r h ready c at undecided fresh write settled begun.0 begun.1 begun.2).told;
          blocks = λ number offset bytes e x m contents opens. let b = blocks number offset bytes e x m contents opens in omega (arith, b, left);
          some = let b = begun.2.copied.some in omega (arith, b, left);
          less = let b = few in omega (arith, b, left);
          slot =
              sets_slot p r sound.ledger lane c.number c (Busy d) turn.at turn.session (slot_busy (core_of r) lane.session c.number d (ss lane.session ∙ busy) last_updates.now_is) (λ m ne. last_updates.rest m ne ∙ updates.rest m ne ∙ ap (λ cs. call_at cs m) w.calls)
              (λ s ne. ss s) (ap (λ (x : List (ℕ × Option ℕ)). length x) (begun.2.sessions ∙ w.sessions)) (begun.2.drawn ∙ w.drawn) (begun.2.joins ∙ w.joins);
          keep = ap (λ (b : BookView). b.keep) begun.2.book ∙ ap (λ (b : BookView). b.keep) w.book;
          more = let a = looks.0 in omega (arith, a, same_looks, begins);
          few = let b = looks.1 in omega (arith, b, same_looks, begins);
          lane = refl;
        }

  pub written_step : IsStep p lane step.Moved r lane
  written_step h sound = (did c begun.0 ∷ [], sound_now h sound, inr (inl (c, d, begun.0, told h sound)))

  pub written_drawn : r.drawn ≡ p.drawn
  written_drawn = begun.2.drawn ∙ w.drawn

  pub written_turn : (h : List Record) → Sound p h → OnTurn r lane c.number
  written_turn h sound = record {
    core = record { history = h ++ did c begun.0 ∷ []; sound = sound_now h sound };
    fits =
        let a = looks_fit p.store q.store 2 (looks_of_looked p.store q.store 2 w.advances.looked) turn.fits in
        let same_looks = ap (λ (s : StoreState). s.look_ups) begun.2.store in
        let begins = begun.2.begins.look_ups in
        omega (arith, a, same_looks, begins);
    own = λ x there. ap (λ (y : Call). y.session) (some_eq x d (sym there ∙ (last_updates h sound).now_is)) ∙ turn.session;
  }
