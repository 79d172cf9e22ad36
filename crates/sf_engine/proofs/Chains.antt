-- Many turns of a session, from the many-step walk of its call.
use Rattle.std.proofs.Common.{◌≡◌, ◌≢◌, ℕ, zero, suc, ◌+◌, ◌-◌, ◌<◌, ◌^◌, length, List, [], ◌++◌, Bool, true, false, Some, None, Result, Ok, Err, IfOk, IfErr, OnErr, IfSome, IsSome, slice_get, slice_set, refl, ap, sym, ◌∙◌, subst, arith, inl, inr, zero-add, append-nil}
use Rattle.sf_field.specs.Fields.{packet}
use Rattle.sf_reply.specs.Replies.{reply_body}
use Rattle.sf_call.specs.declared.record.Record.{Record}
use Rattle.sf_call.specs.Answers.{AnswerView}
use Rattle.sf_session.specs.declared.cause.Cause.{Cause}
use Rattle.sf_field.specs.Fields.{packet}
use Rattle.sf_reply.specs.Replies.{reply_body}
use Rattle.sf_session.specs.Sessions.{SessionView, reply_room}
use Rattle.sf_core.specs.declared.step.Step.TheVariants as step
use Rattle.sf_core.specs.Lanes.{LaneView}
use Rattle.sf_core.specs.Cores.LaneState.{Idle}
use Rattle.sf_core.specs.Cores.{CoreView, lane_state}
use Rattle.sf_core.specs.Events.{TakesMoves, Walks, walk_end}
use Rattle.sf_core.specs.Histories.{IsHistory}
use Rattle.sf_engine.specs.declared.hosted.HostedSession.{HostedSession}
use Rattle.sf_engine.specs.declared.hosted.HostedState.{HostedState}
use Rattle.sf_engine.specs.declared.hosted.HostedState.TheVariants as state
use Rattle.sf_engine.specs.declared.event.Event.TheVariants as event
use Rattle.sf_engine.specs.declared.event.Happened.{Happened}
use Rattle.sf_engine.specs.declared.event.Happened.TheVariants as happened
use Rattle.sf_engine.specs.declared.event.EngineFault.{EngineFault}
use Rattle.sf_engine.specs.declared.event.EngineFault.TheVariants as fault
use Rattle.sf_engine.specs.Promise.{continues}
use Rattle.sf_engine.specs.Turns.{AddsRecords, ReadGives, RestsOrLeaves, IsLaneOf, GivesAt, IsHostedState, MayRefuseTurn, is_resting, is_under_way, is_busy, Stand, stand, IsReady, TurnGives, TurnsGive, GoesFar, Finding, finding}
use Rattle.sf_engine.proofs.MovesBy.{moves_by}

-- a session whose call is running
abbrev pub going : CoreView → SessionView → LaneView → Stand
going v x lane = stand v x (state.UnderWay lane)

-- a session with a pending reply
abbrev pub answered : CoreView → SessionView → LaneView → AnswerView → Stand
answered v x lane given = stand v x (state.Decided lane given)

-- steps that moved come before further turns
moves_give : (n : ℕ) (a : Stand) (lane : LaneView) (w : CoreView) (f : Finding) (k : ℕ) (r : Result Happened EngineFault) (b : Stand)
    → TakesMoves n a.core lane w → TurnsGive k (going w a.session lane) f r b → TurnsGive (n + k) (going a.core a.session lane) f r b
unfolding TakesMoves TurnsGive
moves_give zero a lane w f k r b moved give =
    let here = subst (λ (u : CoreView). TurnsGive k (going u a.session lane) f r b) moved give in
    subst (λ (i : ℕ). TurnsGive i (going a.core a.session lane) f r b) (sym (zero-add k)) here
moves_give (suc n) a lane w f k r b moved give =
    let turn : TurnGives (going moved.0 a.session lane) f happened.Moved (going w a.session lane) = λ h is. let s = moved.2 h is in (s.0, s.1, ((lane, (s.2, refl)), refl)) in
    let num : n + suc k ≡ suc n + k = omega arith in
    subst (λ (i : ℕ). TurnsGive i (going a.core a.session lane) f r b) num (moves_give n a lane moved.0 f (suc k) r b moved.1 (happened.Moved, going w a.session lane, refl, turn, give))

-- steps that moved leave the lane its call
still_own : (n : ℕ) (v w : CoreView) (lane : LaneView) (x : SessionView) → TakesMoves n v lane w → IsHostedState v x (state.UnderWay lane) → IsHostedState w x (state.UnderWay lane)
unfolding TakesMoves
still_own zero v w lane x moved own = subst (λ (u : CoreView). IsHostedState u x (state.UnderWay lane)) (sym moved) own
still_own (suc n) v w lane x moved own =
    let was = still_own n v moved.0 lane x moved.1 own in
    let s = moved.2 was.0 was.2 in
    let goes = moves_by (record { core = moved.0; history = was.0; lane = lane }) (record { core = w; added = s.0; lane = lane }) s.2 in (
      was.0 ++ s.0,
      goes.after,
      s.1,
      record {
        slot = goes.slot.own;
        session = goes.same.session ∙ goes.own.session;
        number = goes.own.number ∙ ap (λ (k : ℕ). Some k) (sym goes.same.number);
      },
    )

-- one last turn
one_turn : (a : Stand) (f : Finding) (r : Happened) (b : Stand) → TurnGives a f r b → TurnsGive 0 a f (Ok r) b
unfolding TurnsGive
one_turn a f r b turn = turn

-- a turn after which the call goes on
record GoingTurn (a : Stand) (f : Finding) : Type 0 where
  happened : Happened
  mid : Stand
  goes_on : continues (Ok happened) ≡ true
  gives : TurnGives a f happened mid

-- before other turns
turn_before : (n : ℕ) (a : Stand) (f : Finding) (r : Result Happened EngineFault) (b : Stand) → (t : GoingTurn a f) → TurnsGive n t.mid f r b → TurnsGive (suc n) a f r b
unfolding TurnsGive
turn_before n a f r b t give = (t.happened, t.mid, t.goes_on, t.gives, give)

-- a turn that was refused
no_turn : (a : Stand) (f : Finding) (b : Stand) → b ≡ a → MayRefuseTurn a.place → TurnsGive 0 a f (Err fault.OutOfMemory) b
unfolding TurnsGive
no_turn a f b same may = (same, refl, may)

stand_eq : (a b : Stand) → b.core ≡ a.core → b.session ≡ a.session → b.place ≡ a.place → b ≡ a
stand_eq a b c x p =
    ap (λ (z : CoreView). stand z b.session b.place) c ∙ ap (λ (z : SessionView). stand a.core z b.place) x ∙ ap (λ (z : HostedState). stand a.core a.session z) p

-- a walk that was blocked
pub blocked_walk : (a : Stand) (lane : LaneView) (f : Finding) (most holder : ℕ) (w : CoreView) (lane' : LaneView) → Walks a.core lane most (walk_end (step.Blocked holder) w lane')
    → GoesFar (going a.core a.session lane) f (Ok (happened.Blocked holder)) (going w a.session lane')
blocked_walk a lane f most holder w lane' k =
    let mid = going k.mid a.session lane in
    let end = going w a.session lane' in
    let turn : TurnGives mid f (happened.Blocked holder) end = λ h is. let s = k.last h is in (s.0, s.1, ((lane', (s.2.0, s.2.1, refl)), refl)) in
    record {
      turns = k.moves + 0;
      give = moves_give k.moves a lane k.mid f 0 (Ok (happened.Blocked holder)) end k.moved (one_turn mid f (happened.Blocked holder) end turn);
      far = λ e. cc;
    }

-- a walk that made all its steps
pub moved_walk : (a : Stand) (lane : LaneView) (f : Finding) (most : ℕ) (w : CoreView) (lane' : LaneView) → most ≡ 2 ^ 64 - 1 → Walks a.core lane most (walk_end step.Moved w lane')
    → GoesFar (going a.core a.session lane) f (Ok happened.Moved) (going w a.session lane')
moved_walk a lane f most w lane' many k =
    let mid = going k.mid a.session lane in
    let end = going w a.session lane' in
    let turn : TurnGives mid f happened.Moved end = λ h is. let s = k.last h is in (s.0, s.1, ((lane', (s.2, refl)), refl)) in
    let full : k.moves + 1 ≡ 2 ^ 64 - 1 = k.full refl ∙ many in
    record {
      turns = k.moves + 0;
      give = moves_give k.moves a lane k.mid f 0 (Ok happened.Moved) end k.moved (one_turn mid f happened.Moved end turn);
      far = λ e. omega (arith, full);
    }

-- a walk that answers its call: the core, the lane and the answer after it
pub record AnsweredEnd : Type 0 where
  pub core : CoreView
  pub lane : LaneView
  pub answer : AnswerView

-- a walk that answers its call, and the turn that writes the reply
pub answered_walk : (a : Stand) (lane : LaneView) (f : Finding) (most : ℕ) (c : AnsweredEnd) (r : Result Happened EngineFault) (b : Stand)
    → Walks a.core lane most (walk_end (step.Answered c.answer) c.core c.lane) → TurnsGive 0 (answered c.core a.session c.lane c.answer) f r b × (continues r ≡ false) → GoesFar (going a.core a.session lane) f r b
answered_walk a lane f most c r b k last =
    let mid = going k.mid a.session lane in
    let waits = answered c.core a.session c.lane c.answer in
    let turn : TurnGives mid f happened.Decided waits = λ h is. let s = k.last h is in (s.0, s.1, ((c.lane, (c.answer, s.2.0, s.2.1, refl)), refl)) in
    record {
      turns = k.moves + 1;
      give = moves_give k.moves a lane k.mid f 1 r b k.moved (turn_before 0 mid f r b (record { happened = happened.Decided; mid = waits; goes_on = refl; gives = turn }) last.0);
      far = λ e. let no : false ≡ true = sym last.1 ∙ e in cc;
    }

-- that turn, if the reply was written
pub written_turn : (a : Stand) (lane : LaneView) (given : AnswerView) (f : Finding) (y : SessionView) (b : Stand)
    → IfSome a.session.waiting (λ id. y ≡ record a.session { output = a.session.output ++ packet (reply_body id given.reply); waiting = None })
    → AddsRecords a.core b.core (λ h added. RestsOrLeaves (stand a.core y (state.Resting lane)) lane f.closed added b) → TurnsGive 0 (answered a.core a.session lane given) f (Ok happened.Wrote) b
written_turn a lane given f y b wrote settles =
    one_turn (answered a.core a.session lane given) f happened.Wrote b (λ h is. let g = settles h is in (g.0, g.1, (refl, (y, wrote, g.2))))

-- and if memory ran out
pub unwritten_turn : (a : Stand) (lane : LaneView) (given : AnswerView) (f : Finding) (y : SessionView) (lane' : LaneView) → lane' ≡ lane → y ≡ a.session → ((id : ℕ) → reply_room < length (packet (reply_body id given.reply)))
    → TurnsGive 0 (answered a.core a.session lane given) f (Err fault.OutOfMemory) (answered a.core y lane' given)
unwritten_turn a lane given f y lane' same kept long =
    let was = answered a.core a.session lane given in
    let now = answered a.core y lane' given in
    no_turn was f now (stand_eq was now refl kept (ap (λ (l : LaneView). state.Decided l given) same)) long

-- a place has one lane
pub lane_same : (p : HostedState) (lane other : LaneView) → IsLaneOf p lane → IsLaneOf p other → lane ≡ other
lane_same (state.Gone cause) lane other a b = absurd a
lane_same _ lane other a b = a ∙ sym b

-- and the condition for this turn
pub answered_placed : (a : Stand) (lane : LaneView) (most : ℕ) (c : AnsweredEnd) → Walks a.core lane most (walk_end (step.Answered c.answer) c.core c.lane) → IsReady (going a.core a.session lane) → IsHostedState c.core a.session (state.Decided c.lane c.answer)
answered_placed a lane most c k ready =
    let own = still_own k.moves a.core k.mid lane a.session k.moved ready.placed in
    let s = k.last own.0 own.2 in
    let rests = s.2.1.lane in
    let slot : lane_state c.core lane.session ≡ Idle = elim s.2.0.1 [ inl f ↦ f.slot.own | inr d ↦ d.slot ] in
    (ap (λ (l : LaneView). l.call) rests, ap (λ (l : LaneView). lane_state c.core l.session) rests ∙ slot, ready.waits refl)

-- the core knows the lane of a running call
pub no_stranger : (a : Stand) (lane : LaneView) (most : ℕ) (w : CoreView) (lane' : LaneView) → Walks a.core lane most (walk_end step.Stranger w lane') → IsReady (going a.core a.session lane) → ⊥
no_stranger a lane most w lane' k ready =
    let own = still_own k.moves a.core k.mid lane a.session k.moved ready.placed in
    (k.last own.0 own.2).2.0 own.1 own.3

-- a session that rests has its lane in its place
resting_lane : (p : HostedState) → is_resting p ≡ true → (lane : LaneView) × (p ≡ state.Resting lane)
resting_lane (state.Resting lane) rests = (lane, refl)
resting_lane _ rests = cc

-- reading as a turn, whether the session was closed or not
read_turn : (a : Stand) (f : Finding) (r : Happened) (b : Stand) → is_resting a.place ≡ true → TurnGives a (finding false f.moment) r b → TurnGives a f r b
read_turn a f r b rests give =
    let lane = resting_lane a.place rests in
    let P : Bool → HostedState → Type 0 = λ closed p. AddsRecords a.core b.core (λ h added. GivesAt p a h (finding closed f.moment) r added b) in
    subst (P f.closed) (sym lane.1) (subst (P false) lane.1 give)

-- a call that has begun can take turns
pub begun_ready : (a : Stand) (m : ℕ) (b : Stand) → is_resting a.place ≡ true → IsReady a → TurnGives a (finding false m) happened.Begun b → (is_under_way b.place ≡ true) × IsReady b
begun_ready a m b rests ready give =
    let lane = resting_lane a.place rests in
    let g = give ready.history ready.is_history in
    let t = subst (λ (p : HostedState). GivesAt p a ready.history (finding false m) happened.Begun g.0 b) lane.1 g.2 in
    let P : HostedState → Type 0 = λ z. (is_under_way z ≡ true) × IsReady (stand b.core b.session z) in
    let waits : b.session.waiting ≡ Some t.1.1.id = ap (λ (z : SessionView). z.waiting) t.1.1.now in
    subst P (sym t.4) (
      refl,
      record {
        history = ready.history ++ g.0;
        is_history = g.1;
        placed = (ready.history ++ g.0, _, g.1, record { slot = t.2.own; session = refl; number = ap (λ (k : ℕ). Some k) t.2.drawn });
        waits = λ e. subst IsSome (sym waits) refl;
      },
    )

-- and its turns come after that one
pub begun_far : (a : Stand) (f : Finding) (b : Stand) (last : Result Happened EngineFault) (end : Stand) → is_resting a.place ≡ true → TurnGives a (finding false f.moment) happened.Begun b
    → GoesFar b f last end → GoesFar a f last end
begun_far a f b last end rests give k = record {
  turns = suc k.turns;
  give = turn_before k.turns a f last end (record { happened = happened.Begun; mid = b; goes_on = refl; gives = read_turn a f happened.Begun b rests give }) k.give;
  far = λ e. omega (arith, k.far e);
}

-- otherwise the session has no running call
read_ends : (a : Stand) (lane : LaneView) (m : ℕ) (r : Happened) (added : List Record) (b : Stand) → ReadGives a lane m r added b → r ≢ happened.Begun → continues (Ok r) ≡ true → ⊥
read_ends a lane m happened.Begun added b g other e = other refl
read_ends a lane m happened.Moved added b g other e = g
read_ends a lane m happened.Decided added b g other e = g
read_ends a lane m _ added b g other e = cc

-- a packet without a call
pub read_far : (a : Stand) (f : Finding) (r : Happened) (b : Stand) → is_resting a.place ≡ true → IsReady a → TurnGives a (finding false f.moment) r b → r ≢ happened.Begun → GoesFar a f (Ok r) b
read_far a f r b rests ready give other =
    let lane = resting_lane a.place rests in
    let g = give ready.history ready.is_history in
    let read = subst (λ (p : HostedState). GivesAt p a ready.history (finding false f.moment) r g.0 b) lane.1 g.2 in
    record {
      turns = 0;
      give = one_turn a f r b (read_turn a f r b rests give);
      far = λ e. absurd (read_ends a lane.0 f.moment r g.0 b read other e);
    }

-- nothing was read, as memory ran out
pub unread_far : (a : Stand) (f : Finding) (b : Stand) → is_resting a.place ≡ true → b ≡ a → GoesFar a f (Err fault.OutOfMemory) b
unread_far a f b rests same =
    let lane = resting_lane a.place rests in
    record { turns = 0; give = no_turn a f b same (subst MayRefuseTurn (sym lane.1) tt); far = λ e. cc }

-- a turn of a session, or memory ran out
pub record TurnAnswers (a : Stand) (f : Finding) (r : Result Happened EngineFault) (b : Stand) : Type 0 where
  pub ok : IfOk r (λ k. TurnGives a f k b)
  pub err : OnErr r ((b.place ≡ a.place) × (b.core ≡ a.core) × (b.session ≡ a.session))
  pub fault : IfErr r (λ f. (f ≡ fault.OutOfMemory) × MayRefuseTurn a.place)

-- one turn of a session with a pending reply
pub answer_far : (a : Stand) (f : Finding) (r : Result Happened EngineFault) (b : Stand) (lane : LaneView) (given : AnswerView) → a.place ≡ state.Decided lane given → IsReady a → TurnAnswers a f r b → GoesFar a f r b
answer_far a f (Ok r) b lane given waits ready t =
    let g = t.ok ready.history ready.is_history in
    let wrote = (subst (λ (o : HostedState). GivesAt o a ready.history f r g.0 b) waits g.2).0 in
    record { turns = 0; give = one_turn a f r b t.ok; far = λ e. let no : false ≡ true = ap (λ (z : Happened). continues (Ok z)) (sym wrote) ∙ e in cc }
answer_far a f (Err e) b lane given waits ready t =
    let P : EngineFault → Type 0 = λ z. GoesFar a f (Err z) b in
    let why = t.fault in
    subst P (sym why.0) (record { turns = 0; give = no_turn a f b (stand_eq a b t.err.1 t.err.2 t.err.0) why.1; far = λ e. cc })

-- one turn of a session that left
pub left_far : (v : CoreView) (x : SessionView) (cause : Cause) (f : Finding) → GoesFar (stand v x (state.Gone cause)) f (Ok (happened.Ended cause)) (stand v x (state.Gone cause))
left_far v x cause f =
    let a = stand v x (state.Gone cause) in
    let turn : TurnGives a f (happened.Ended cause) a = λ h is. ([], subst (λ (l : List Record). IsHistory v l) (sym (append-nil h)) is, (refl, refl, refl, refl, refl)) in
    record { turns = 0; give = one_turn a f (happened.Ended cause) a turn; far = λ e. cc }
