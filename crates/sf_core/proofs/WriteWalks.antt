-- The outcomes of several steps of a WRITE.
use Rattle.std.specs.Prelude.{◌≡◌, ◌<◌, ◌≤◌, ◌+◌, ◌-◌, ℕ, zero, suc, [], Option, Some, None, IfSome, IfNone, refl}
use Rattle.std.proofs.Common.{sym, ap, subst, ◌∙◌, arith}
use Rattle.sf_reply.specs.declared.reply.Reply.{Reply}
use Rattle.sf_call.specs.Histories.{IsGiven}
use Rattle.sf_call.specs.Requests.{target_of}
use Rattle.sf_call.specs.Requests.Target.{ByHandle, OnPaths}
use Rattle.sf_call.specs.Calls.{answer_to}
use Rattle.sf_call.specs.Changes.{moved_by}
use Rattle.sf_call.specs.declared.call.Call.{Call}
use Rattle.sf_call.specs.declared.call.Stage.{Stage}
use Rattle.sf_call.specs.declared.request.Request.{Request}
use Rattle.sf_call.specs.Unanswered.{at_stage}
use Rattle.sf_laws.proofs.Laws.{never_moved}
use Rattle.sf_copying.specs.Copies.{copying}
use Rattle.sf_walk.specs.declared.finding.Ways.{Ways}
use Rattle.sf_walk.specs.declared.walking.Walk.TheVariants as walked
use Rattle.sf_call.specs.Routes.{Route, route_of}
use Rattle.sf_walk.specs.Routes.{HoldsWay}
use Rattle.sf_call.specs.Routes.Route.{NoPath}
use Rattle.sf_walk.specs.Steps.{walker, DecidesNow}
use Rattle.sf_walk.specs.Ways.{no_path}
use Rattle.sf_walk.proofs.Laws.{at_once}
use Rattle.sf_walk.specs.Files.{IsWriteRequest, file_handle}
use Rattle.sf_core.specs.declared.step.Step.{Step}
use Rattle.sf_core.specs.declared.step.Step.TheVariants as step
use Rattle.sf_core.specs.declared.parts.WalkOutcome.TheVariants as outcome
use Rattle.sf_core.specs.Lanes.{LaneView, at_rest}
use Rattle.sf_core.specs.Cores.{CoreView, call_at}
use Rattle.sf_core.specs.Progress.{waiting_reply, copy_of, undecided_in, overtaken}
use Rattle.sf_core.specs.Events.{StepsOn, TakesMoves}
use Rattle.sf_core.specs.Parts.{PartsView, core_of}
use Rattle.sf_core.specs.Sound.{Sound}
use Rattle.sf_core.specs.Stepping.{Moved, WalkState, ending, Walked, FinishState, Overtakes}
use Rattle.sf_core.specs.Writing.{IsCopyingOn, CopiedBlock, CopiedOn, EndsCopying, HasBegunWrite, IsReadyToWrite, WritesOn, ReportsStep}
use Rattle.sf_core.specs.Writing.WritesOn.{ByFirstStep, ToTheEnd, UpToThere}
use Rattle.sf_core.proofs.Maps.{some_eq, none_some, reply_is}
use Rattle.sf_core.proofs.Updates.{updates_staged}
use Rattle.sf_core.proofs.SparedFiles.{copying_is, copying_stage}
use Rattle.sf_core.proofs.CopySteps.{is_a_write, is_write_by}
use Rattle.sf_core.proofs.FreeFiles.{no_handle_moved}
use Rattle.sf_core.proofs.Finished.{not_copying}
use Rattle.sf_core.proofs.Turns.{IsStep, IsTurn, steps_on, places_after}
use Rattle.sf_core.proofs.BlockTurns.{OnTurn, block_step, block_drawn, last_step, last_drawn, last_given, blocks_moved, blocks_places}
use Rattle.sf_core.proofs.WriteTurns.{write_fresh, write_route, written_step, written_drawn, written_turn}
use Rattle.sf_core.proofs.Deciding.{ready_sound, ready_settled, stands}
use Rattle.sf_core.specs.Writing.{CopiesOne}
use Rattle.sf_core.proofs.Walks.{Ends, ended_by, its_turn, undecided, walk, made_room, decided_end, its_given}

-- ---- facts about steps
-- the last block of several
copied_last : (most : ℕ) (n : ℕ) (p q : PartsView) → 0 < most → CopiedOn most p n q → (k : ℕ) × (k + 1 ≡ most) × (mid : PartsView) × CopiedOn k p n mid × ((left : ℕ) × CopiedBlock mid q n (suc left))
unfolding CopiedOn
copied_last zero n p q some it = absurd (omega (arith, some))
copied_last (suc k) n p q some it = (k, omega arith, it.0, it.1, it.2)

copied_nothing : (n : ℕ) (p q : PartsView) → CopiedOn zero p n q → q ≡ p
unfolding CopiedOn
copied_nothing n p q it = it

after_first : (k : ℕ) (v x w : CoreView) (lane : LaneView) → StepsOn v lane step.Moved x lane → TakesMoves k x lane w → TakesMoves (suc k) v lane w
unfolding TakesMoves
after_first zero v x w lane first it = (v, refl, subst (λ (y : CoreView). StepsOn v lane step.Moved y lane) (sym it) first)
after_first (suc k) v x w lane first it = (it.0, after_first k v x it.0 lane first it.1, it.2)

no_moves : (v : CoreView) (lane : LaneView) → TakesMoves 0 v lane v
unfolding TakesMoves
no_moves v lane = refl

-- a call that moved is undecided, and no WRITE
moved_last : (k : ℕ) (p q : PartsView) (session n : ℕ) → Moved (suc k) p session n q → (c : Call) → call_at q.calls n ≡ Some c → (waiting_reply c ≡ None) × (IsWriteRequest c.request → ⊥)
unfolding Moved
moved_last k p q session n it c at =
    let x = it.2.1.comes.0 in
    let w = it.2.1.comes.5 in
    let after = it.2.0 in
    let own : at_stage after x ≡ c = some_eq (at_stage after x) c (sym (ap (λ cs. call_at cs n) w.calls ∙ (updates_staged it.0.calls n x after it.2.1.comes.1).now_is) ∙ at) in
    let none : waiting_reply (at_stage after x) ≡ None = reply_is (at_stage after x) ∙ it.2.1.comes.3 in (
      ap waiting_reply (sym own) ∙ none,
      λ write.
          let r = is_a_write x.request (subst (λ (y : Call). IsWriteRequest y.request) (sym own) write) in
          no_handle_moved x.request x.stage after w.advances.position w.advances.walks r.0 (ap file_handle r.3),
    )

unmoved : (k : ℕ) (p q : PartsView) (session n : ℕ) → Moved k p session n q → (c : Call) → call_at q.calls n ≡ Some c → ((waiting_reply c ≡ None) → (IsWriteRequest c.request → ⊥) → ⊥) → (k ≡ 0) × (q ≡ p)
unfolding Moved
unmoved zero p q session n it c at never = (refl, it)
unmoved (suc k) p q session n it c at never = let m = moved_last k p q session n it c at in absurd (never m.0 m.1)

-- it has a second copy of its request
copied_twice : (r : Request) → IsWriteRequest r → copy_of (route_of r) r ≡ Some r
copied_twice r write = let w = is_a_write r write in ap (λ (x : Request). copy_of (route_of x) x) w.3 ∙ ap Some (sym w.3)

-- a WRITE helps no call
overtakes_none : (q : PartsView) (c : Call) → IsWriteRequest c.request → Overtakes q q c
overtakes_none q c write t keeps =
    let w = is_a_write c.request write in
    let none : moved_by (answer_to t c.session c.number c.moment c.request).changes ≡ None =
    never_moved t c.session c.number c.moment c.request (λ old new same. let z : ByHandle w.0 ≡ OnPaths old new = sym (ap target_of w.3) ∙ same in cc) in
    ([], sym (ap (overtaken q.calls c.number) none), refl)

module _ (lane : LaneView) (n : ℕ) (call : lane.call ≡ Some n) (p : PartsView) (most places : ℕ) (fit : undecided_in p.calls ≤ places) (v : CoreView) (ev : core_of p ≡ v) (l : LaneView) (el : lane ≡ l) where
  abbrev Done : PartsView → Step → LaneView → Type 0
  Done r s lane' = Ends lane n call p most places fit v ev l el r s lane'

  -- ---- blocks after several steps
  module _ (k : ℕ) (mid : PartsView) (on : OnTurn mid lane n) (fits : undecided_in mid.calls ≤ places) (moved : (j : ℕ) (w : CoreView) → TakesMoves j (core_of mid) lane w → TakesMoves (k + j) (core_of p) lane w) (r : PartsView) where
    more_done : (steps : ℕ) → 0 < steps → k + steps ≡ most → CopiedOn steps mid n r → Done r step.Moved lane
    more_done steps some all it =
        let b = copied_last steps n mid r some it in
        let j = b.0 in
        let few = b.1 in
        let before = blocks_moved lane n call j mid b.2 on b.3 in
        ended_by lane n call p most places fit v ev l el (k + j) b.2 r step.Moved lane (omega (arith, few, all)) (moved j (core_of b.2) before.0) before.1.core
        (blocks_places lane n call j mid b.2 places on b.3 fits) (block_step lane n call b.2 before.1 b.4.0 r b.4.1) (block_drawn lane n call b.2 before.1 b.4.0 r b.4.1) (λ e. omega (arith, few, all))

    over_done : (steps : ℕ) (given : Reply) → k + steps ≡ most → EndsCopying mid r lane.session n steps given → Done r (step.Answered (record { number = n; session = lane.session; reply = given })) (at_rest lane)
    over_done steps given all it =
        let j = it.count in
        let few = it.few in
        let before = blocks_moved lane n call j mid it.mid on it.copied in
        ended_by lane n call p most places fit v ev l el (k + j) it.mid r (step.Answered (record { number = n; session = lane.session; reply = given })) (at_rest lane) (omega (arith, few, all)) (moved j (core_of it.mid) before.0) before.1.core
        (blocks_places lane n call j mid it.mid places on it.copied fits)
        (last_step lane n call it.mid before.1 it.last r it.ends it.fetched (record { number = n; session = lane.session; reply = given }) (ap (λ (g : Reply). record { number = n; session = lane.session; reply = g }) (sym it.told)))
        (last_drawn lane n call it.mid before.1 it.last r it.ends it.fetched) (λ e. absurd cc)

    over_given : (steps : ℕ) (given : Reply) → EndsCopying mid r lane.session n steps given → IsGiven n lane.session given
    over_given steps given it =
        let before = blocks_moved lane n call it.count mid it.mid on it.copied in
        subst (λ (g : Reply). IsGiven n lane.session g) it.told (last_given lane n call it.mid before.1 it.last r it.ends it.fetched)

  rest_lane : (r : PartsView) (s t : Step) (lane' other : LaneView) → t ≡ s → other ≡ lane' → Done r s lane' → Done r t other
  rest_lane r s t lane' other e f done = subst (λ (x : Step). Done r x other) (sym e) (subst (λ (x : LaneView). Done r s x) (sym f) done)

  -- ---- a call that is copying
  module _ (q : PartsView) (w : WalkState p lane.session n most (ending outcome.Copies q)) where
    there : call_at q.calls n ≡ Some w.last.comes.1
    there = ap (λ (x : PartsView). call_at x.calls n) w.last.comes.0 ∙ w.last.comes.2

    first : (w.moves ≡ 0) × (w.mid ≡ p)
    first = unmoved w.moves p w.mid lane.session n w.moved w.last.comes.1 w.last.comes.2
        (λ none never. not_copying w.mid w.last.core.history w.last.core.sound n w.last.comes.1 w.last.comes.2 none w.last.comes.4)

    same : q ≡ p
    same = w.last.comes.0 ∙ first.1

    turn : OnTurn q lane n
    turn = subst (λ (x : PartsView). OnTurn x lane n) (sym w.last.comes.0) (record {
      core = w.last.core;
      fits = w.last.fits;
      own = λ c at. ap (λ (x : Call). x.session) (some_eq c w.last.comes.1 (sym at ∙ w.last.comes.2)) ∙ w.last.comes.3;
    })

    fits : undecided_in q.calls ≤ places
    fits = subst (λ (x : PartsView). undecided_in x.calls ≤ places) (sym same) fit

    moved : (j : ℕ) (x : CoreView) → TakesMoves j (core_of q) lane x → TakesMoves (0 + j) (core_of p) lane x
    moved j x it = subst (λ (i : ℕ). TakesMoves i (core_of p) lane x) (let e : j ≡ 0 + j = omega arith in e) (subst (λ (y : PartsView). TakesMoves j (core_of y) lane x) same it)

    pub copies_on : IsCopyingOn q n
    copies_on =
        let c = w.last.comes.1 in
        let g = copying_stage c.stage w.last.comes.4 in
        let sound = turn.core.sound in
        let it = copying_is q.calls n c g.0 g.1 there g.2 in
        let writes = sound.copied.writing n c g.0 g.1 there g.2 in (
          g.0,
          g.1,
          record {
            call = c;
            there = there;
            is = g.2;
            left_is = sound.copied.copies.left n (copying g.0 g.1) it;
            some = sound.copied.copies.some n (copying g.0 g.1) it;
            given = writes.given;
            waits = sym (reply_is c) ∙ writes.decided;
          },
        )

    module _ (r : PartsView) where
      copies_by : (o : Option Reply) → IfSome o (λ given. EndsCopying q r lane.session n most given) → IfNone o (CopiedOn most q n r) → (s : Step) (lane' : LaneView) → ReportsStep n lane o s lane' → Done r s lane'
      copies_by None ends more s lane' tells =
          rest_lane r step.Moved s lane lane' tells.0 tells.1 (more_done 0 q turn fits moved r most (let few = w.few in omega (arith, few)) (omega arith) more)
      copies_by (Some given) ends more s lane' tells =
          rest_lane r (step.Answered (record { number = n; session = lane.session; reply = given })) s (at_rest lane) lane' tells.0 tells.1 (over_done 0 q turn fits moved r most given (omega arith) ends)

      pub copies_end : (o : Option Reply) → IfSome o (λ given. EndsCopying q r lane.session n most given) → IfNone o (CopiedOn most q n r) → (s : Step) (lane' : LaneView) → ReportsStep n l o s lane' → Done r s lane'
      copies_end o ends more s lane' tells = copies_by o ends more s lane' (subst (λ (x : LaneView). ReportsStep n x o s lane') (sym el) tells)

      pub copies_given : (o : Option Reply) → IfSome o (λ given. EndsCopying q r lane.session n most given) → (given : Reply) → o ≡ Some given → IsGiven n l.session given
      copies_given None ends given e = absurd (none_some given e)
      copies_given (Some x) ends given e =
          subst (λ (y : LaneView). IsGiven n y.session given) el (subst (λ (g : Reply). IsGiven n lane.session g) (some_eq x given e) (over_given 0 q turn fits moved r most x ends))

  -- ---- a WRITE starts
  -- a WRITE that may start has resolved no component, and is decided at its start
  module _ (q : PartsView) (it : WalkState p lane.session n most (ending outcome.Writes q)) where
    abbrev nowhere : Ways
    nowhere = no_path

    none_yet : waiting_reply it.last.comes.1 ≡ None
    none_yet = reply_is it.last.comes.1 ∙ it.last.comes.4

    route_is : route_of it.last.comes.1.request ≡ NoPath
    route_is = write_route it.last.comes.1.request (is_write_by it.last.comes.1.request it.last.comes.6)

    walks_nowhere : Walked it.mid it.mid it.last.comes.1 n (walked.Ready nowhere)
    walks_nowhere = let c = it.last.comes.1 in record {
      advances =
          subst (λ (r : Route). DecidesNow it.mid.store it.mid.store (walker c.number r c.stage) nowhere) (sym route_is)
          (at_once it.mid.store c.number c.stage (subst (λ (r : Route). HoldsWay it.mid.store r c.stage) route_is (stands it.mid it.last.core.history it.last.core.sound n c it.last.comes.2 none_yet)));
      book = refl;
      sessions = refl;
      calls = refl;
      drawn = refl;
      joins = refl;
    }

    not_moved : (after : Stage) → outcome.Walked (walked.Ready no_path) ≡ outcome.Walked (walked.Moved after) → ⊥
    not_moved after e = cc

    abbrev w : WalkState p lane.session n most (ending (outcome.Walked (walked.Ready no_path)) q)
    w = record {
      moves = it.moves;
      mid = it.mid;
      few = it.few;
      moved = it.moved;
      last = record {
        core = it.last.core;
        fits = it.last.fits;
        comes = (it.last.comes.1, it.last.comes.2, it.last.comes.3, it.last.comes.4, it.last.comes.5, subst (λ (x : PartsView). Walked it.mid x it.last.comes.1 n (walked.Ready nowhere)) (sym it.last.comes.0) walks_nowhere);
      };
      full = λ after e. absurd (not_moved after e);
    }

    abbrev its : Call
    its = w.last.comes.0

    abbrev its_own : IsTurn w.mid lane w.last.comes.0 × (w.last.comes.0.number ≡ n)
    its_own = its_turn lane n call p most places fit v ev l el no_path q w

    none : waiting_reply w.last.comes.0 ≡ None
    none = undecided lane n call p most places fit v ev l el no_path q w

    step_on : Walked w.mid q w.last.comes.0 w.last.comes.0.number (walked.Ready no_path)
    step_on = walk lane n call p most places fit v ev l el no_path q w

    at_n : call_at q.calls n ≡ Some w.last.comes.0
    at_n = let x = w.last.comes in ap (λ cs. call_at cs n) x.5.calls ∙ x.1

    write : IsWriteRequest w.last.comes.0.request
    write = is_write_by it.last.comes.1.request it.last.comes.6

    first_w : (w.moves ≡ 0) × (w.mid ≡ p)
    first_w = unmoved w.moves p w.mid lane.session n w.moved w.last.comes.0 w.last.comes.1 (λ undecided never. never write)

    fits_mid : undecided_in w.mid.calls ≤ places
    fits_mid = subst (λ (x : PartsView). undecided_in x.calls ≤ places) (sym first_w.1) fit

    ready_q : Sound q w.last.core.history
    ready_q = ready_sound w.mid lane its its_own.0 none q no_path step_on w.last.comes.4 w.last.core.history w.last.core.sound

    -- what writing requires
    pub writes_ready : (c : Call) → call_at q.calls n ≡ Some c → IsReadyToWrite q c n
    writes_ready c at =
        let s = ready_settled w.mid lane its its_own.0 none q no_path step_on w.last.comes.4 w.last.core.history w.last.core.sound in
        let r = is_a_write its.request write in
        let ledger = ready_q.ledger.calls n its at_n in
        subst (λ (x : Call). IsReadyToWrite q x n) (some_eq its c (sym at_n ∙ at)) (record {
          write = write;
          settled = record { by_handle = s.by_handle; on_path = λ parent node cuts there. cc };
          copied = ledger.copied none ∙ copied_twice its.request write;
          is_number = ledger.is_number;
          fresh = write_fresh its write (ready_q.coupled.positions n its at_n none);
        })

    over : (d : Call) → call_at q.calls n ≡ Some d → d.number ≡ n → Overtakes q q d
    over d at is_n = subst (λ (x : Call). Overtakes q q x) (some_eq its d (sym at_n ∙ at)) (overtakes_none q its write)

    pub writes_room : 0 < q.book.room
    writes_room = made_room lane n call p most places fit v ev l el no_path q w q over

    module _ (r : PartsView) where
      begun_by : (mid : PartsView) → HasBegunWrite q mid w.last.comes.0 n → HasBegunWrite q mid w.last.comes.0 w.last.comes.0.number
      begun_by mid b = subst (λ (k : ℕ). HasBegunWrite q mid its k) (sym its_own.1) b

      turn_w : (mid : PartsView) → HasBegunWrite q mid w.last.comes.0 n → OnTurn mid lane n
      turn_w mid b = subst (λ (k : ℕ). OnTurn mid lane k) its_own.1 (written_turn w.mid lane its its_own.0 none q no_path step_on w.last.comes.4 write mid (begun_by mid b) w.last.core.history w.last.core.sound)

      step_w : (mid : PartsView) → HasBegunWrite q mid w.last.comes.0 n → IsStep w.mid lane step.Moved mid lane
      step_w mid b = written_step w.mid lane its its_own.0 none q no_path step_on w.last.comes.4 write mid (begun_by mid b)

      drawn_w : (mid : PartsView) → HasBegunWrite q mid w.last.comes.0 n → mid.drawn ≡ w.mid.drawn
      drawn_w mid b = written_drawn w.mid lane its its_own.0 none q no_path step_on w.last.comes.4 write mid (begun_by mid b)

      fits_w : (mid : PartsView) → HasBegunWrite q mid w.last.comes.0 n → undecided_in mid.calls ≤ places
      fits_w mid b = places_after w.mid mid _ w.last.core (step_w mid b) (drawn_w mid b) places fits_mid

      moved_w : (mid : PartsView) → HasBegunWrite q mid w.last.comes.0 n → (j : ℕ) (x : CoreView) → TakesMoves j (core_of mid) lane x → TakesMoves (1 + j) (core_of p) lane x
      moved_w mid b j x it = subst (λ (i : ℕ). TakesMoves i (core_of p) lane x) (let e : suc j ≡ 1 + j = omega arith in e) (after_first j (core_of p) (core_of mid) x lane (subst (λ (y : PartsView). StepsOn (core_of y) lane step.Moved (core_of mid) lane) first_w.1 (steps_on w.mid mid lane lane step.Moved w.last.core (step_w mid b))) it)

      more_by : (m : ℕ) (mid : PartsView) → m ≡ most - 1 → HasBegunWrite q mid w.last.comes.0 n → CopiedOn m mid n r → Done r step.Moved lane
      more_by zero mid e b it =
          let few = w.few in
          subst (λ (x : PartsView). Done x step.Moved lane) (sym (copied_nothing n mid r it))
          (ended_by lane n call p most places fit v ev l el 0 w.mid mid step.Moved lane (omega (arith, few)) (subst (λ (y : PartsView). TakesMoves 0 (core_of p) lane (core_of y)) (sym first_w.1) (no_moves (core_of p) lane)) w.last.core fits_mid
          (step_w mid b) (drawn_w mid b) (λ _. omega (arith, e, few)))
      more_by (suc m) mid e b it = more_done 1 mid (turn_w mid b) (fits_w mid b) (moved_w mid b) r (suc m) (omega arith) (omega (arith, e)) it

      writes_by : (o : Option Reply) → WritesOn q r w.last.comes.0 lane.session n most o → (s : Step) (lane' : LaneView) → ReportsStep n lane o s lane' → Done r s lane'
      writes_by (Some given) (ByFirstStep x fin one) s lane' tells =
          rest_lane r (step.Answered (record { number = n; session = lane.session; reply = given })) s (at_rest lane) lane' tells.0 tells.1
          (decided_end lane n call p most places fit v ev l el no_path q w q over r given (λ d at. subst (λ (y : Call). FinishState q r y n given) (some_eq its d (sym at_n ∙ at)) fin) (λ d at. subst (λ (y : Call). CopiesOne q.store y given) (some_eq its d (sym at_n ∙ at)) one)
          (record { number = n; session = lane.session; reply = given }) refl)
      writes_by (Some given) (ToTheEnd x mid b ends) s lane' tells =
          let few = w.few in
          rest_lane r (step.Answered (record { number = n; session = lane.session; reply = given })) s (at_rest lane) lane' tells.0 tells.1
          (over_done 1 mid (turn_w mid b) (fits_w mid b) (moved_w mid b) r (most - 1) given (omega (arith, few)) ends)
      writes_by None (UpToThere mid b copied) s lane' tells = rest_lane r step.Moved s lane lane' tells.0 tells.1 (more_by (most - 1) mid refl b copied)

      pub writes_end : (o : Option Reply) → ((c : Call) → call_at q.calls n ≡ Some c → WritesOn q r c lane.session n most o) → (s : Step) (lane' : LaneView) → ReportsStep n l o s lane' → Done r s lane'
      writes_end o on s lane' tells = writes_by o (on its at_n) s lane' (subst (λ (x : LaneView). ReportsStep n x o s lane') (sym el) tells)

      given_by : (o : Option Reply) → WritesOn q r w.last.comes.0 lane.session n most o → (given : Reply) → o ≡ Some given → IsGiven n lane.session given
      given_by (Some x) (ByFirstStep y fin one) given e =
          subst (λ (g : Reply). IsGiven n lane.session g) (some_eq x given e)
          (its_given lane n call p most places fit v ev l el no_path q w q over r x (λ d at. subst (λ (z : Call). FinishState q r z n x) (some_eq its d (sym at_n ∙ at)) fin) (λ d at. subst (λ (z : Call). CopiesOne q.store z x) (some_eq its d (sym at_n ∙ at)) one))
      given_by (Some x) (ToTheEnd y mid b ends) given e = subst (λ (g : Reply). IsGiven n lane.session g) (some_eq x given e) (over_given 1 mid (turn_w mid b) (fits_w mid b) (moved_w mid b) r (most - 1) x ends)
      given_by None (UpToThere mid b copied) given e = absurd (none_some given e)

      pub writes_given : (o : Option Reply) → ((c : Call) → call_at q.calls n ≡ Some c → WritesOn q r c lane.session n most o) → (given : Reply) → o ≡ Some given → IsGiven n l.session given
      writes_given o on given e = subst (λ (y : LaneView). IsGiven n y.session given) el (given_by o (on its at_n) given e)
