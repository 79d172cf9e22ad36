-- The outcomes of several steps of the lane's call.
use Rattle.std.specs.Prelude.{◌≡◌, ◌<◌, ◌≤◌, ◌+◌, ℕ, zero, suc, true, false, option_and_then, is_none, IsSome, Option, Some, None, refl}
use Rattle.std.proofs.Common.{sym, ap, subst, ◌∙◌, arith}
use Rattle.std.specs.Ordering.{nat_cmp}
use Rattle.std.specs.BTreeMap.{is_at}
use Rattle.sf_reply.specs.declared.reply.Reply.{Reply}
use Rattle.sf_call.specs.Answers.{AnswerView}
use Rattle.sf_call.specs.Histories.{replay, IsGiven}
use Rattle.sf_call.proofs.Laws.{given_before}
use Rattle.sf_call.specs.declared.call.Call.{Call}
use Rattle.sf_call.specs.declared.call.Stage.{Stage}
use Rattle.sf_call.specs.Unanswered.{at_stage}
use Rattle.sf_inode.specs.Stores.{is_directory_at}
use Rattle.sf_walk.specs.declared.finding.Ways.{Ways}
use Rattle.sf_walk.specs.Ways.{IsLocated}
use Rattle.sf_walk.specs.Files.{IsFileFree, IsSettled}
use Rattle.sf_walk.specs.declared.walking.Walk.TheVariants as walked
use Rattle.sf_core.specs.declared.step.Step.{Step}
use Rattle.sf_core.specs.declared.step.Step.TheVariants as step
use Rattle.sf_core.specs.declared.parts.WalkOutcome.{WalkOutcome}
use Rattle.sf_core.specs.declared.parts.WalkOutcome.TheVariants as outcome
use Rattle.sf_core.specs.Lanes.{LaneView, at_rest}
use Rattle.sf_core.specs.Cores.{CoreView, call_at}
use Rattle.sf_core.specs.Progress.{waiting_reply, is_write, undecided_in}
use Rattle.sf_core.specs.Events.{TakesMoves, Walks, walk_end}
use Rattle.sf_core.specs.Parts.{PartsView, core_of}
use Rattle.sf_core.specs.Sound.{Sound, IsCore}
use Rattle.sf_core.specs.Stepping.{Walked, CallStep, Moved, WalkState, ending, FetchState, Overtakes, FinishState}
use Rattle.sf_core.proofs.Maps.{some_eq, reply_is, passing_removed, one_if}
use Rattle.sf_core.proofs.Histories.{is_undecided}
use Rattle.sf_core.proofs.Updates.{updates_staged}
use Rattle.sf_core.proofs.Turns.{IsStep, IsTurn, core_after, places_after, steps_on, turn_of, foreign_step, fetched_step, moved_step, blocked_step, file_blocked_step}
use Rattle.sf_core.proofs.FreeFiles.{root_kept, file_free_moved}
use Rattle.sf_core.proofs.BeforeDeciding.{Prepared}
use Rattle.sf_core.specs.Writing.{CopiesOne}
use Rattle.sf_core.proofs.Deciding.{ready_sound, made, decided_step, decided_given}

-- the root is a directory
pub rooted : (p : PartsView) → IsCore p → is_directory_at p.store.nodes p.store.root ≡ true
rooted p core = root_kept p.store (replay core.history) core.sound.history.tree

pub none_moved : (p : PartsView) (session n : ℕ) → Moved 0 p session n p
unfolding Moved
none_moved p session n = refl

module _ (lane : LaneView) (n : ℕ) (call : lane.call ≡ Some n) where
  moved_by : (p q : PartsView) (after : Stage) → CallStep p lane.session n (outcome.Walked (walked.Moved after)) q → IsStep p lane step.Moved q lane × (q.drawn ≡ p.drawn)
  moved_by p q after it =
      let c = it.comes in
      let t = turn_of p it.core lane n c.0 c.1 c.2 call it.fits in
      (moved_step p lane c.0 t.0 (reply_is c.0 ∙ c.3) q after (subst (λ k. Walked p q c.0 k (walked.Moved after)) (sym t.1) c.5), c.5.drawn)

  moves_by : (k : ℕ) (p q : PartsView) → Moved k p lane.session n q → TakesMoves k (core_of p) lane (core_of q)
  unfolding Moved TakesMoves
  moves_by zero p q same = ap core_of same
  moves_by (suc k) p q it = (core_of it.0, moves_by k p it.0 it.1, steps_on it.0 q lane lane step.Moved it.2.1.core (moved_by it.0 q it.2.0 it.2.1).0)

  -- no more calls are undecided
  places_by : (k : ℕ) (p q : PartsView) (places : ℕ) → Moved k p lane.session n q → undecided_in p.calls ≤ places → undecided_in q.calls ≤ places
  unfolding Moved
  places_by zero p q places same fit = subst (λ (x : PartsView). undecided_in x.calls ≤ places) (sym same) fit
  places_by (suc k) p q places it fit =
      let one = moved_by it.0 q it.2.0 it.2.1 in
      places_after it.0 q _ it.2.1.core one.0 one.1 places (places_by k p it.0 places it.1 fit)

  -- after a step that moved the call
  pub moved_core : (p q : PartsView) (after : Stage) → CallStep p lane.session n (outcome.Walked (walked.Moved after)) q → IsCore q
  moved_core p q after it = core_after p q _ it.core (moved_by p q after it).0

  pub moved_more : (k : ℕ) (o p q : PartsView) (after : Stage) → Moved k o lane.session n p → CallStep p lane.session n (outcome.Walked (walked.Moved after)) q → Moved (suc k) o lane.session n q
  unfolding Moved
  moved_more k o p q after moved it = (p, moved, (after, it))

  -- and no other call holds a file that it uses by a handle: it uses none
  pub moved_free : (p q : PartsView) (after : Stage) → CallStep p lane.session n (outcome.Walked (walked.Moved after)) q → (d : Call) → call_at q.calls n ≡ Some d → IsFileFree q.store d
  moved_free p q after it d at =
      let x = it.comes.0 in
      let w = it.comes.5 in
      let own : at_stage after x ≡ d = some_eq (at_stage after x) d (sym (ap (λ cs. call_at cs n) w.calls ∙ (updates_staged p.calls n x after it.comes.1).now_is) ∙ at) in
      subst (IsFileFree q.store) own (record { free = (file_free_moved p.store q.store x after w.advances).free })

  -- ---- at most `most` steps
  module _ (p : PartsView) (most places : ℕ) (fit : undecided_in p.calls ≤ places) (v : CoreView) (ev : core_of p ≡ v) (l : LaneView) (el : lane ≡ l) where
    -- the state after them
    abbrev pub Ends : PartsView → Step → LaneView → Type 0
    Ends q s lane' = IsCore q × (undecided_in q.calls ≤ places) × Walks v l most (walk_end s (core_of q) lane')

    -- one more step, after steps that moved
    pub ended_by : (k : ℕ) (mid r : PartsView) (s : Step) (lane' : LaneView) → k < most → TakesMoves k (core_of p) lane (core_of mid) → IsCore mid → undecided_in mid.calls ≤ places → IsStep mid lane s r lane' → r.drawn ≡ mid.drawn → (s ≡ step.Moved → k + 1 ≡ most)
        → Ends r s lane'
    ended_by k mid r s lane' few moved core fits last drawn full = (
      core_after mid r _ core last,
      places_after mid r _ core last drawn places fits,
      subst (λ (x : CoreView). Walks x l most (walk_end s (core_of r) lane')) ev (subst (λ (x : LaneView). Walks (core_of p) x most (walk_end s (core_of r) lane')) el (record {
        moves = k;
        mid = core_of mid;
        few = few;
        moved = moved;
        last = steps_on mid r lane lane' s core last;
        full = full;
      })),
    )

    ended : (o : WalkOutcome) (q : PartsView) (w : WalkState p lane.session n most (ending o q)) (s : Step) (r : PartsView) (lane' : LaneView) → IsStep w.mid lane s r lane' → r.drawn ≡ w.mid.drawn → (s ≡ step.Moved → w.moves + 1 ≡ most) → Ends r s lane'
    ended o q w s r lane' last drawn full =
        ended_by w.moves w.mid r s lane' w.few (moves_by w.moves p w.mid w.moved) w.last.core (places_by w.moves p w.mid places w.moved fit) last drawn full

    pub foreign_end : (q : PartsView) → WalkState p lane.session n most (ending outcome.Foreign q) → Ends q step.Stranger l
    foreign_end q w =
        let c = w.last.comes in
        subst (λ (x : LaneView). Ends q step.Stranger x) el (ended outcome.Foreign q w step.Stranger q lane (foreign_step w.mid q lane n call c.1 c.0) (ap (λ (x : PartsView). x.drawn) c.0) (λ e. absurd cc))

    pub moved_end : (after : Stage) (q : PartsView) → WalkState p lane.session n most (ending (outcome.Walked (walked.Moved after)) q) → Ends q step.Moved l
    moved_end after q w =
        let m = moved_by w.mid q after w.last in
        subst (λ (x : LaneView). Ends q step.Moved x) el (ended (outcome.Walked (walked.Moved after)) q w step.Moved q lane m.0 m.1 (λ e. w.full after refl))

    pub blocked_end : (holder : ℕ) (q : PartsView) → WalkState p lane.session n most (ending (outcome.Walked (walked.Blocked holder)) q) → Ends q (step.Blocked holder) l
    blocked_end holder q w =
        let c = w.last.comes in
        let t = turn_of w.mid w.last.core lane n c.0 c.1 c.2 call w.last.fits in
        subst (λ (x : LaneView). Ends q (step.Blocked holder) x) el
        (ended (outcome.Walked (walked.Blocked holder)) q w (step.Blocked holder) q lane
        (blocked_step w.mid lane c.0 t.0 (reply_is c.0 ∙ c.3) q holder (subst (λ k. Walked w.mid q c.0 k (walked.Blocked holder)) (sym t.1) c.5)) c.5.drawn (λ e. absurd cc))

    -- another call holds its file
    pub file_end : (holder : ℕ) (q : PartsView) → WalkState p lane.session n most (ending (outcome.FileHeld holder) q) → Ends q (step.Blocked holder) l
    file_end holder q w =
        let c = w.last.comes in
        let t = turn_of w.mid w.last.core lane n c.1 c.2 c.3 call w.last.fits in
        subst (λ (x : LaneView). Ends q (step.Blocked holder) x) el
        (ended (outcome.FileHeld holder) q w (step.Blocked holder) q lane (file_blocked_step w.mid lane c.1 t.0 (reply_is c.1 ∙ c.4) q holder c.0 c.5) (ap (λ (x : PartsView). x.drawn) c.0) (λ e. absurd cc))

    -- ---- a reply is pending
    module _ (q : PartsView) (w : WalkState p lane.session n most (ending outcome.Waits q)) (r : PartsView) (given : Reply) (waits : Some given ≡ option_and_then (λ (c : Call). c.reply) (call_at q.calls n)) (fetched : FetchState q r lane.session n) where
      there : IsTurn w.mid lane w.last.comes.1 × (w.last.comes.1.number ≡ n)
      there = let x = w.last.comes in turn_of w.mid w.last.core lane n x.1 x.2 x.3 call w.last.fits

      decided : waiting_reply w.last.comes.1 ≡ Some given
      decided =
          let x = w.last.comes in
          reply_is x.1 ∙ sym (waits ∙ ap (option_and_then (λ (d : Call). d.reply)) (ap (λ (y : PartsView). call_at y.calls n) x.0 ∙ x.2))

      pub waited_given : IsGiven n lane.session given
      waited_given =
          let is = w.last.core.sound.history in
          let c = w.last.comes.1 in
          subst (λ k. IsGiven k lane.session given) there.1
          (subst (λ s. IsGiven c.number s given) there.0.session (given_before c.number c.session c.moment c.request given w.last.core.history is.legal (is.decided c.number c given there.0.at decided)))

      pub waited_end : (a : AnswerView) → a ≡ record { number = n; session = lane.session; reply = given } → Ends r (step.Answered a) (at_rest lane)
      waited_end a is =
          let same = w.last.comes.0 in
          ended outcome.Waits q w (step.Answered a) r (at_rest lane)
          (fetched_step w.mid lane w.last.comes.1 there.0 given decided w.last.comes.5 r (subst (λ k. FetchState w.mid r lane.session k) (sym there.1) (subst (λ (x : PartsView). FetchState x r lane.session n) same fetched)) a
          (is ∙ ap (λ k. record { number = k; session = lane.session; reply = given }) (sym there.1)))
          (fetched.drawn ∙ ap (λ (x : PartsView). x.drawn) same) (λ e. absurd cc)

    -- ---- a call is decided
    module _ (ways : Ways) (q : PartsView) (w : WalkState p lane.session n most (ending (outcome.Walked (walked.Ready ways)) q)) where
      abbrev its : Call
      its = w.last.comes.0

      pub its_turn : IsTurn w.mid lane w.last.comes.0 × (w.last.comes.0.number ≡ n)
      its_turn = let x = w.last.comes in turn_of w.mid w.last.core lane n x.0 x.1 x.2 call w.last.fits

      pub undecided : waiting_reply w.last.comes.0 ≡ None
      undecided = let x = w.last.comes in reply_is x.0 ∙ x.3

      pub walk : Walked w.mid q w.last.comes.0 w.last.comes.0.number (walked.Ready ways)
      walk = subst (λ k. Walked w.mid q w.last.comes.0 k (walked.Ready ways)) (sym its_turn.1) w.last.comes.5

      pub free_file : IsFileFree w.mid.store w.last.comes.0
      free_file = w.last.comes.4

      sound_q : Sound q w.last.core.history
      sound_q = ready_sound w.mid lane its its_turn.0 undecided q ways walk free_file w.last.core.history w.last.core.sound

      at_q : call_at q.calls n ≡ Some w.last.comes.0
      at_q = let x = w.last.comes in ap (λ cs. call_at cs n) x.5.calls ∙ x.1

      -- what helping requires
      pub ready_core : IsCore q
      ready_core = record { history = w.last.core.history; sound = sound_q }

      pub ready_ways : (d : Call) → call_at q.calls n ≡ Some d → IsLocated q.store d.request ways
      ready_ways d at = subst (λ (x : Call). IsLocated q.store x.request ways) (some_eq its d (sym at_q ∙ at)) walk.advances.located

      pub ready_room : undecided_in q.calls ≤ q.book.room
      ready_room = let r = sound_q.ledger.room in omega (arith, r)

      pub ready_places : undecided_in q.calls ≤ places
      ready_places = subst (λ cs. undecided_in cs ≤ places) (sym walk.calls) (places_by w.moves p w.mid places w.moved fit)

      module _ (m : PartsView) (over : (d : Call) → call_at q.calls n ≡ Some d → d.number ≡ n → Overtakes q m d) where
        makes : Prepared q m w.last.core.history w.last.comes.0 ways
        makes = made w.mid lane its its_turn.0 undecided q ways walk free_file m (over its at_q its_turn.1) w.last.core.history w.last.core.sound

        at_m : call_at m.calls n ≡ Some w.last.comes.0
        at_m = ap (call_at m.calls) (sym its_turn.1) ∙ makes.at

        -- what deciding requires
        pub made_there : IsSome (call_at m.calls n)
        made_there = subst (λ (o : Option Call). IsSome o) (sym at_m) refl

        pub made_ways : (d : Call) → call_at m.calls n ≡ Some d → IsLocated m.store d.request ways
        made_ways d at = subst (λ (x : Call). IsLocated m.store x.request ways) (some_eq its d (sym at_m ∙ at)) makes.located

        pub made_settled : (d : Call) → call_at m.calls n ≡ Some d → IsSettled m.store d.session d.request ways.path
        made_settled d at = subst (λ (x : Call). IsSettled m.store x.session x.request ways.path) (some_eq its d (sym at_m ∙ at)) makes.settled

        pub made_not_write : ((d : Call) → call_at q.calls n ≡ Some d → is_write d.request ≡ false) → (d : Call) → call_at m.calls n ≡ Some d → is_write d.request ≡ false
        made_not_write not d at = subst (λ (x : Call). is_write x.request ≡ false) (some_eq its d (sym at_m ∙ at)) (not its at_q)

        pub made_room : 0 < m.book.room
        made_room =
            let a = passing_removed is_undecided (is_at (nat_cmp n)) m.calls its at_m in
            let b = ap (λ (o : Option Reply). one_if (is_none o)) undecided in
            let room = makes.sound.ledger.room in
            omega (arith, a, b, room)

        module _ (r : PartsView) (given : Reply) (fin : (d : Call) → call_at m.calls n ≡ Some d → FinishState m r d n given) (one : (d : Call) → call_at q.calls n ≡ Some d → CopiesOne q.store d given) where
          finishes : FinishState m r w.last.comes.0 w.last.comes.0.number given
          finishes = subst (λ k. FinishState m r its k given) (sym its_turn.1) (fin its at_m)

          pub its_given : IsGiven n lane.session given
          its_given = subst (λ k. IsGiven k lane.session given) its_turn.1 (decided_given w.mid lane its its_turn.0 undecided q ways walk free_file m (over its at_q its_turn.1) w.last.core.history w.last.core.sound r given finishes)

          pub decided_end : (a : AnswerView) → a ≡ record { number = n; session = lane.session; reply = given } → Ends r (step.Answered a) (at_rest lane)
          decided_end a is =
              ended (outcome.Walked (walked.Ready ways)) q w (step.Answered a) r (at_rest lane)
              (decided_step w.mid lane its its_turn.0 undecided q ways walk free_file m (over its at_q its_turn.1) r given finishes a (is ∙ ap (λ k. record { number = k; session = lane.session; reply = given }) (sym its_turn.1)) (one its at_q))
              (finishes.records.drawn ∙ makes.drawn ∙ walk.drawn) (λ e. absurd cc)
