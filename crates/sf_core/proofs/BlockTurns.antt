-- The effect on a core of a step that copies a block, and of several such steps.
use Rattle.std.specs.Prelude.{◌≡◌, ◌<◌, ◌≤◌, ◌+◌, ◌^◌, ℕ, zero, suc, List, [], length, Option, Some, None, refl}
use Rattle.std.proofs.Common.{sym, ap, subst, ◌∙◌, inl, inr, arith}
use Rattle.sf_reply.specs.declared.reply.Reply.{Reply}
use Rattle.sf_call.specs.Answers.{AnswerView}
use Rattle.sf_call.specs.declared.call.Call.{Call}
use Rattle.sf_call.specs.declared.call.Stage.TheVariants as stage
use Rattle.sf_call.specs.declared.record.Record.{Record}
use Rattle.sf_call.specs.Histories.{IsGiven}
use Rattle.sf_call.specs.Unanswered.{at_stage}
use Rattle.sf_call.proofs.Laws.{given_before}
use Rattle.sf_inode.specs.Stores.{StoreState}
use Rattle.sf_core.specs.declared.step.Step.TheVariants as step
use Rattle.sf_core.specs.Lanes.{LaneView, at_rest}
use Rattle.sf_core.specs.Cores.LaneState.{Idle, Busy}
use Rattle.sf_core.specs.Cores.{call_at, session_at}
use Rattle.sf_core.specs.Progress.{waiting_reply, IsCopying, undecided_in}
use Rattle.sf_core.specs.Events.{CopiesBlock, Fetches, TakesMoves}
use Rattle.sf_core.specs.Parts.{PartsView, core_of}
use Rattle.sf_core.specs.Sound.{Sound, IsCore}
use Rattle.sf_core.specs.Stepping.{session_set_by, FetchState}
use Rattle.sf_core.specs.Finishing.{write_finished}
use Rattle.sf_core.specs.Writing.{part_copied, CopiedBlock, CopiedOn}
use Rattle.sf_core.proofs.Maps.{staged_reply, some_eq, reply_is}
use Rattle.sf_core.proofs.Updates.{Updates, updates_set, updates_removed, updates_staged}
use Rattle.sf_core.proofs.Ledgers.{other_call}
use Rattle.sf_core.proofs.Unrecorded.{fetched_sound}
use Rattle.sf_core.proofs.BlockSteps.{block_sound, end_sound}
use Rattle.sf_core.proofs.LaneStates.{sets_slot, slot_busy, slot_idle, slots_kept, own_call, same_book, left_copying}
use Rattle.sf_core.proofs.Turns.{IsStep, adds_none, core_after, places_after, steps_on}

-- the call of this number is the lane's, and the lookup count doesn't overflow
pub record OnTurn (p : PartsView) (lane : LaneView) (n : ℕ) : Type 0 where
  pub core : IsCore p
  pub fits : p.store.look_ups < 2 ^ 64
  pub own : (c : Call) → call_at p.calls n ≡ Some c → c.session ≡ lane.session

module _ (lane : LaneView) (n : ℕ) (call : lane.call ≡ Some n) where
  module _ (p : PartsView) (on : OnTurn p lane n) where
    -- ---- one more block
    module _ (left : ℕ) (q : PartsView) (b : CopiedBlock p q n (suc left)) where
      abbrev c : Call
      c = b.was.call

      number : c.number ≡ n
      number = (on.core.sound.ledger.calls n c b.was.there).is_number

      at : call_at p.calls c.number ≡ Some c
      at = ap (call_at p.calls) number ∙ b.was.there

      session : c.session ≡ lane.session
      session = on.own c b.was.there

      abbrev d : Call
      d = at_stage (stage.Copies b.node (suc left)) b.was.call

      abbrev now : PartsView
      now = part_copied p n b.node (suc left)

      updates : Updates p.calls (part_copied p n b.node (suc left)).calls n (Some b.was.call) (Some (at_stage (stage.Copies b.node (suc left)) b.was.call))
      updates = updates_staged p.calls n b.was.call (stage.Copies b.node (suc left)) b.was.there

      had : waiting_reply b.was.call ≡ Some b.was.given
      had = reply_is b.was.call ∙ b.was.waits

      sound_now : (h : List Record) → Sound p h → Sound (part_copied p n b.node (suc left)) h
      sound_now h sound =
          subst (λ (k : ℕ). Sound (part_copied p k b.node (suc left)) h) number
          (block_sound p h sound c at b.node (suc left + 1) b.was.is (suc left) refl)

      told : (h : List Record) → Sound p h → CopiesBlock (core_of p) (core_of now) lane b.was.call d
      told h sound =
          let busy = ap (session_at p.sessions) (sym session) ∙ (sound.ledger.calls n c b.was.there).session in
          let has = staged_reply c (stage.Copies b.node (suc left)) ∙ had in
          let before = left_copying c b.was.given b.node (suc left + 1) had b.was.is in
          let after = left_copying d b.was.given b.node (suc left) has refl in
          record {
            own = own_call p sound.ledger lane n c b.was.there session call;
            same = record { number = refl; session = refl; moment = refl; request = refl };
            given = b.was.given;
            had = had;
            has = has;
            before = subst IsCopying (sym b.was.is) tt;
            after = tt;
            one = omega (arith, before, after);
            some = omega (arith, after);
            slot = sets_slot p now sound.ledger lane n c (Busy d) b.was.there session (slot_busy (core_of now) lane.session n d busy updates.now_is) updates.rest (λ s ne. refl) refl refl refl;
            records = record { records = refl; keep = refl; folded = refl };
            look_ups = refl;
          }

      block_now : IsStep p lane step.Moved (part_copied p n b.node (suc left)) lane
      block_now = adds_none p now _ (λ h sound. (sound_now h sound, inr (inr ((b.was.call, d, told h sound), record { none = refl; lane = refl }))))

      pub block_step : IsStep p lane step.Moved q lane
      block_step = subst (λ (x : PartsView). IsStep p lane step.Moved x lane) (sym b.now) block_now

      pub block_drawn : q.drawn ≡ p.drawn
      block_drawn = ap (λ (x : PartsView). x.drawn) b.now

      pub block_on : OnTurn q lane n
      block_on = record {
        core = core_after p q _ on.core block_step;
        fits = let e = ap (λ (x : PartsView). x.store.look_ups) b.now in let f = on.fits in omega (arith, e, f);
        own = λ x there.
            let same : at_stage (stage.Copies b.node (suc left)) b.was.call ≡ x = some_eq d x (sym updates.now_is ∙ ap (λ (y : PartsView). call_at y.calls n) (sym b.now) ∙ there) in
            ap (λ (y : Call). y.session) (sym same) ∙ session;
      }

    -- ---- the last block, after which the reply is fetched
    module _ (mid q : PartsView) (b : CopiedBlock p mid n 0) (fetched : FetchState mid q lane.session n) where
      abbrev e : Call
      e = b.was.call

      number_e : e.number ≡ n
      number_e = (on.core.sound.ledger.calls n e b.was.there).is_number

      session_e : e.session ≡ lane.session
      session_e = on.own e b.was.there

      abbrev over : PartsView
      over = write_finished p n b.node

      fetches : FetchState (write_finished p n b.node) q lane.session n
      fetches = subst (λ (x : PartsView). FetchState x q lane.session n) b.now fetched

      had_e : waiting_reply b.was.call ≡ Some b.was.given
      had_e = reply_is b.was.call ∙ b.was.waits

      staged_e : Updates p.calls (write_finished p n b.node).calls n (Some b.was.call) (Some (at_stage stage.Fresh b.was.call))
      staged_e = updates_staged p.calls n b.was.call stage.Fresh b.was.there

      sound_over : (h : List Record) → Sound p h → Sound (write_finished p n b.node) h
      sound_over h sound = subst (λ (k : ℕ). Sound (write_finished p k b.node) h) number_e (end_sound p h sound e (ap (call_at p.calls) number_e ∙ b.was.there) b.node (0 + 1) b.was.is)

      sound_last : (h : List Record) → Sound p h → Sound q h
      sound_last h sound =
          fetched_sound over q h (sound_over h sound) (at_stage stage.Fresh b.was.call) (ap (call_at over.calls) number_e ∙ staged_e.now_is) b.was.given (staged_reply e stage.Fresh ∙ had_e) refl
          (subst (λ (k : ℕ). FetchState over q e.session k) (sym number_e) (subst (λ (s : ℕ). FetchState over q s n) (sym session_e) fetches))

      module _ (a : AnswerView) (is : a ≡ record { number = n; session = lane.session; reply = b.was.given }) where
        last_told : (h : List Record) → Sound p h → Fetches (record { core = core_of p; history = h; lane = lane }) (record { core = core_of q; added = []; lane = at_rest lane }) b.was.call b.was.given
        last_told h sound =
            let busy : session_at p.sessions lane.session ≡ Some (Some n) = ap (session_at p.sessions) (sym session_e) ∙ (sound.ledger.calls n e b.was.there).session in
            let calls = updates_removed over.calls n (at_stage stage.Fresh b.was.call) staged_e.now_is (sound_over h sound).ledger.calls_rise in
            let sessions = updates_set p.sessions lane.session (Some n) busy None in
            let set = fetches.sessions ∙ ap (session_set_by p.sessions lane.session None) busy in
            let ss : (s : ℕ) → _ = λ s. ap (λ (x : List (ℕ × Option ℕ)). session_at x s) set in
            record {
              own = own_call p sound.ledger lane n e b.was.there session_e call;
              decided = had_e;
              one = left_copying e b.was.given b.node (0 + 1) had_e b.was.is;
              recorded = sound.history.decided n e b.was.given b.was.there had_e;
              none = refl;
              slot =
                  sets_slot p q sound.ledger lane n e Idle b.was.there session_e (slot_idle (core_of q) lane.session (ss lane.session ∙ sessions.now_is)) (λ m ne. ap (λ cs. call_at cs m) fetches.calls ∙ calls.rest m ne ∙ staged_e.rest m ne)
                  (λ s ne. ss s ∙ sessions.rest s ne) (let x = ap (λ (y : List (ℕ × Option ℕ)). length y) set in let z = sessions.size in omega (arith, x, z)) fetches.drawn fetches.joins;
              records = same_book p q fetches.book;
              look_ups = ap (λ (x : StoreState). x.look_ups) fetches.store;
            }

        pub last_step : IsStep p lane (step.Answered a) q (at_rest lane)
        last_step = adds_none p q _ (λ h sound. (
          sound_last h sound,
          (
            (
              b.was.call,
              inl (subst (λ (g : Reply). Fetches (record { core = core_of p; history = h; lane = lane }) (record { core = core_of q; added = []; lane = at_rest lane }) b.was.call g) (sym (ap (λ (x : AnswerView). x.reply) is)) (last_told h sound)),
            ),
            record { session = ap (λ (x : AnswerView). x.session) is; number = call ∙ ap Some (sym (ap (λ (x : AnswerView). x.number) is)); lane = refl },
          ),
        ))

      pub last_drawn : q.drawn ≡ p.drawn
      last_drawn = fetches.drawn

      pub last_given : IsGiven n lane.session b.was.given
      last_given =
          let is = on.core.sound.history in
          subst (λ k. IsGiven k lane.session b.was.given) number_e
          (subst (λ s. IsGiven e.number s b.was.given) session_e
          (given_before e.number e.session e.moment e.request b.was.given on.core.history is.legal (is.decided n e b.was.given b.was.there had_e)))

  -- ---- several blocks, one after the other
  pub blocks_moved : (k : ℕ) (p q : PartsView) → OnTurn p lane n → CopiedOn k p n q → TakesMoves k (core_of p) lane (core_of q) × OnTurn q lane n × (q.drawn ≡ p.drawn)
  unfolding CopiedOn TakesMoves
  blocks_moved zero p q on same = (ap core_of same, subst (λ (x : PartsView). OnTurn x lane n) (sym same) on, ap (λ (x : PartsView). x.drawn) same)
  blocks_moved (suc k) p q on it =
      let before = blocks_moved k p it.0 on it.1 in
      let one = block_step it.0 before.1 it.2.0 q it.2.1 in
      ((core_of it.0, before.0, steps_on it.0 q lane lane step.Moved before.1.core one), block_on it.0 before.1 it.2.0 q it.2.1, block_drawn it.0 before.1 it.2.0 q it.2.1 ∙ before.2)

  -- and no more calls are undecided
  pub blocks_places : (k : ℕ) (p q : PartsView) (places : ℕ) → OnTurn p lane n → CopiedOn k p n q → undecided_in p.calls ≤ places → undecided_in q.calls ≤ places
  unfolding CopiedOn
  blocks_places zero p q places on same fit = subst (λ (x : PartsView). undecided_in x.calls ≤ places) (sym same) fit
  blocks_places (suc k) p q places on it fit =
      let before = (blocks_moved k p it.0 on it.1).1 in
      places_after it.0 q _ before.core (block_step it.0 before it.2.0 q it.2.1) (block_drawn it.0 before it.2.0 q it.2.1) places (blocks_places k p it.0 places on it.1 fit)
