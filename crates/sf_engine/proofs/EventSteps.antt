-- Each event of an engine appends its entry to the log.
use Rattle.std.proofs.Common.{◌≡◌, ◌≢◌, ℕ, ◌+◌, ◌<◌, ◌⊎◌, List, [], ◌∷◌, ◌++◌, Option, Some, None, Bool, true, false, Result, Ok, Err, IfOk, IfErr, OnErr, OnOk, length, refl, ap, sym, ◌∙◌, subst, arith, inl, inr, append-nil, length-append, ◌||◌}
use Rattle.std.specs.Prelude.{Vec}
use Rattle.std.specs.Global.{Global}
use Rattle.std.proofs.lemmas.List.{append_cancel_left}
use Rattle.sf_field.specs.Fields.{packet}
use Rattle.sf_reply.specs.Replies.{reply_body}
use Rattle.sf_reply.specs.declared.reply.Reply.{Reply}
use Rattle.sf_call.specs.declared.record.Record.{Record}
use Rattle.sf_call.specs.declared.record.Record.TheVariants.{Left}
use Rattle.sf_core.specs.Progress.{did}
use Rattle.sf_engine.specs.Works.{IsStep, IsWork}
use Rattle.sf_call.specs.declared.fault.JoinFault.{JoinFault}
use Rattle.sf_call.specs.declared.fault.JoinFault.TheVariants as join
use Rattle.sf_call.specs.declared.call.Call.{Call}
use Rattle.sf_session.specs.declared.cause.Cause.{Cause}
use Rattle.sf_session.specs.Sessions.{reply_room}
use Rattle.sf_session.specs.Responses.{RepliedCall, recorded_in, answered_in, Due, NothingDue, Recorded, recorded_due}
use Rattle.sf_core.specs.Lanes.{LaneView}
use Rattle.sf_core.specs.Cores.{CoreView, joined}
use Rattle.sf_core.specs.Histories.{IsHistory}
use Rattle.sf_core.specs.Events.{RefusesJoin}
use Rattle.sf_engine.specs.declared.event.Event.{Event}
use Rattle.sf_engine.specs.declared.event.Event.TheVariants as event
use Rattle.sf_engine.specs.declared.event.Happened.{Happened}
use Rattle.sf_engine.specs.declared.event.Happened.TheVariants as happened
use Rattle.sf_engine.specs.declared.event.EngineFault.{EngineFault}
use Rattle.sf_engine.specs.declared.event.EngineFault.TheVariants as fault
use Rattle.sf_engine.specs.declared.hosted.HostedSession.{HostedSession}
use Rattle.sf_engine.specs.declared.hosted.HostedState.{HostedState}
use Rattle.sf_engine.specs.declared.hosted.HostedState.TheVariants as state
use Rattle.sf_engine.specs.Views.{EngineView}
use Rattle.sf_engine.specs.Turns.{stand, finding, before, after_turn, StepGives, ReadGives, WritesAnswer, GivesAt, FeedFault, SentFault, MayRefuseTurn}
use Rattle.sf_engine.specs.Promise.{Entry, BytesFed, BytesSent, SessionClosed, EventRefused, SessionOpened, CallBegun, CallMoved, CallBlocked, CallDecided, ReplyWritten, SessionIdle, SessionEnded, event_of, result_of, linearization, opened_in, begun_in, added_by, SessionLog, of_session, IsKnown, IsHere, MayBeRefused}
use Rattle.sf_engine.specs.Steady.{IsSteady}
use Rattle.sf_engine.specs.HasLog.{replied, IsOpenOrGone, AtRest, Hosts, HasLog, engine_fault, open_result, AppendsEntry}
use Rattle.sf_engine.proofs.MovesBy.{moves_by}
use Rattle.sf_engine.proofs.Working.{Works, read_works, step_works, same_work, settle_same, close_same}
use Rattle.sf_engine.proofs.ReplyRooms.{any_id}
use Rattle.sf_engine.proofs.Appending.{changed_at, refused_on, opened_on}
use Rattle.sf_engine.proofs.SessionEvents.{fed_log, sent_log, idle_log, wrote_log, gone_log, ended_log, answer_log, closed_log, begun_log, blocked_log, fetched_log, decided_log, moved_log, decided_steady, moved_steady, host, known, placed_at, here, resting, going, at_rests, waits}
use Rattle.sf_engine.proofs.Base.{HostedChange, engine, number, changed, stand_before, stand_after, FeedsHosted, SendsHosted, Opens, TurnsHosted, ClosesHosted, same_engine, no_step, no_work}

-- an event, for one log
abbrev Follows : EngineView → Event → Result Happened EngineFault → EngineView → List Entry → Type 0
Follows old ev r new log = (x : Entry) × (event_of x ≡ ev) × (result_of x ≡ r) × HasLog new (log ++ x ∷ [])
    × IsSteady log x × IsStep ev r old.core (linearization log) (added_by x) new.core × IsWork ev old.core (added_by x) new.core

-- ---- refusals

pub refused_log : (s : HostedChange) (ev : Event) (f : EngineFault) → s.core ≡ s.old.core → s.now ≡ s.was → (log : List Entry) → HasLog s.old log → MayBeRefused log ev f
    → Follows s.old ev (Err f) (changed s) log
refused_log s ev f core now log h may = subst (λ (e : EngineView). Follows s.old ev (Err f) e log) (sym (same_engine s core now))
    (EventRefused ev f, refl, refl, refused_on s.old log ev f h may, tt, no_step ev f s.old.core (linearization log), no_work ev s.old.core)

-- no session has this number
pub unknown_log : (e : EngineView) (s : ℕ) (ev : Event) → (s ≡ 0) ⊎ (length e.hosted < s) → ((log : List Entry) → ¬ IsKnown log s → MayBeRefused log ev fault.NoSuchSession) → AppendsEntry e ev (Err fault.NoSuchSession) e
unknown_log e s ev none may log h = (
  EventRefused ev fault.NoSuchSession,
  refl,
  refl,
  refused_on e log ev fault.NoSuchSession h (may log (λ known. elim none [ inl z ↦ absurd (omega (arith, z, known.0)) | inr past ↦ absurd (omega (arith, past, known.1, h.count)) ])),
  tt,
  no_step ev fault.NoSuchSession e.core (linearization log),
  no_work ev e.core,
)

-- the session has left, or was closed and not left
not_open : (left closed : Bool) (o : Option Cause) (bodies : List (List ℕ)) (rest unread : List ℕ) → IsOpenOrGone o left closed bodies rest unread → (o ≡ None → ⊥) → left ≡ true
not_open left closed None bodies rest unread h some = absurd (some refl)
not_open left closed (Some c) bodies rest unread h some = h.0

left_or_not : (left : Bool) → (left ≡ true) ⊎ (left ≡ false)
left_or_not true = inl refl
left_or_not false = inr refl

-- ---- feeding and sending

feed_refused : (s : HostedChange) (bytes : Vec ℕ Global) (f : EngineFault) (log : List Entry) → HasLog s.old log → FeedFault s.was f → MayBeRefused log (event.Feed (number s) bytes) f
feed_refused s bytes fault.OutOfMemory log h why =
    let it = here s.old log h s.at s.was s.stood why.1 in (it, sym ((host s.old log h s.at s.was s.stood).closed it.1) ∙ why.0)
feed_refused s bytes fault.Ended log h why =
    let k = host s.old log h s.at s.was s.stood in (
      known s.old log h s.at s.was s.stood,
      elim why [
        | inl c ↦ elim (left_or_not (of_session (number s) log).left) [ inl left ↦ inr left | inr open_now ↦ inl (sym (k.closed open_now) ∙ c) ]
        | inr e ↦ inr (not_open (of_session (number s) log).left (of_session (number s) log).closed s.was.session.ended k.answered.bodies k.answered.rest s.was.session.unread k.open_or_gone e)
      ],
    )
feed_refused s bytes _ log h why = absurd why

-- with the caller's session number
by_number : (s : HostedChange) (ev : ℕ → Event) (r : Result Happened EngineFault) → AppendsEntry s.old (ev (number s)) r (changed s) → AppendsEntry s.old (ev s.session) r (changed s)
by_number s ev r g = subst (λ (n : ℕ). AppendsEntry s.old (ev n) r (changed s)) s.number g

pub any_feed_log : (s : HostedChange) (bytes : Vec ℕ Global) (r : Result Happened EngineFault) → FeedsHosted s bytes.items r → AppendsEntry s.old (event.Feed s.session bytes) r (changed s)
any_feed_log s bytes (Ok k) gives = by_number s (λ n. event.Feed n bytes) (Ok k) (λ log h.
    let ok = gives.ok in (
      BytesFed (number s) bytes,
      refl,
      ap (λ (z : Happened). Ok z) (sym ok.fed),
      subst (λ (v : CoreView). HasLog (changed_at s.old s.at v s.now) (log ++ BytesFed (number s) bytes ∷ [])) (sym gives.core)
          (fed_log s.old log h s.at s.was s.stood bytes s.now (record { fed = refl; unclosed = ok.unclosed; unended = ok.unended; now = ok.now })),
      tt,
      tt,
      ap (λ (z : CoreView). z.look_ups) gives.core,
    ))
any_feed_log s bytes (Err f) gives = by_number s (λ n. event.Feed n bytes) (Err f) (λ log h.
    refused_log s (event.Feed (number s) bytes) f gives.core gives.err log h (feed_refused s bytes f log h gives.fault))

sent_refused : (s : HostedChange) (n : ℕ) (f : EngineFault) (log : List Entry) → HasLog s.old log → SentFault s.was n f → MayBeRefused log (event.Sent (number s) n) f
sent_refused s n fault.NotSent log h why =
    let o = (host s.old log h s.at s.was s.stood).output in
    let all = ap (λ (b : List ℕ). length b) o.packets in
    let long = length-append o.sent s.was.session.output in
    let count = o.count_is in
    (known s.old log h s.at s.was s.stood, omega (arith, all, long, count, why))
sent_refused s n _ log h why = absurd why

pub any_send_log : (s : HostedChange) (n : ℕ) (r : Result Happened EngineFault) → SendsHosted s n r → AppendsEntry s.old (event.Sent s.session n) r (changed s)
any_send_log s n (Ok k) gives = by_number s (λ i. event.Sent i n) (Ok k) (λ log h.
    let ok = gives.ok in (
      BytesSent (number s) n,
      refl,
      ap (λ (z : Happened). Ok z) (sym ok.sent),
      subst (λ (v : CoreView). HasLog (changed_at s.old s.at v s.now) (log ++ BytesSent (number s) n ∷ [])) (sym gives.core)
          (sent_log s.old log h s.at s.was s.stood n s.now (record { sent = refl; within = ok.within; now = ok.now })),
      tt,
      tt,
      ap (λ (z : CoreView). z.look_ups) gives.core,
    ))
any_send_log s n (Err f) gives = by_number s (λ i. event.Sent i n) (Err f) (λ log h. refused_log s (event.Sent (number s) n) f gives.core gives.err log h (sent_refused s n f log h gives.fault))

-- ---- closing

pub any_close_log : (s : HostedChange) → ClosesHosted s → AppendsEntry s.old (event.Close s.session) (Ok happened.Closed) (changed s)
any_close_log s gives = by_number s event.Close (Ok happened.Closed) (λ log h.
    let g = gives (linearization log) h.history in
    let it = closed_log s.old log h s.at s.was s.stood s.was.place s.core s.now g.0 g.2.0 refl g.1 g.2.1 g.2.2 in
    (SessionClosed (number s) it.0, refl, refl, it.1, tt, tt, close_same s.was.place (stand_before s) g.0 (stand_after s) g.2.0 g.2.1))

-- ---- opening

open_refused : (e : EngineView) (f : JoinFault) (log : List Entry) → HasLog e log → RefusesJoin e.core f → MayBeRefused log event.Open (engine_fault f)
open_refused e join.OutOfMemory log h why = (omega (arith, why.0, h.here), omega (arith, why.1, h.opened))
open_refused e join.Sessions log h why = omega (arith, why, h.here)
open_refused e join.NumbersSpent log h why = (omega (arith, why.0, h.here), sym h.opened ∙ why.1)

pub any_open_log : (old new : EngineView) (r : Result ℕ JoinFault) → Opens old new r → AppendsEntry old event.Open (open_result r) new
any_open_log old new (Ok s) opens = λ log h.
    let ok = opens.ok in (
      SessionOpened (opened_in log + 1),
      refl,
      ap (λ (n : ℕ). Ok (happened.Opened n)) (ap (λ (n : ℕ). n + 1) (sym h.opened) ∙ sym ok.opened),
      opened_on old log h new (record { opened = refl; core = ok.core; added = ok.added }) opens.history,
      tt,
      tt,
      ok.core.look_ups,
    )
any_open_log old new (Err f) opens = λ log h.
    let same : new ≡ old = ap (λ (z : CoreView). engine z new.hosted) opens.err.0 ∙ ap (λ (z : List HostedSession). engine old.core z) opens.err.1 in
    subst (λ (e : EngineView). Follows old event.Open (Err (engine_fault f)) e log) (sym same) (EventRefused event.Open (engine_fault f), refl, refl, refused_on old log event.Open (engine_fault f) h (open_refused old f log h opens.fault), tt, tt, refl)

-- ---- turns

-- a turn of a hosted session: its entry adds these records
abbrev TurnFollows : HostedChange → List Entry → ℕ → Happened → List Record → Type 0
TurnFollows s log m k added = (x : Entry) × (event_of x ≡ event.Turn (number s) m) × (result_of x ≡ Ok k) × HasLog (changed s) (log ++ x ∷ []) × IsSteady log x × (added_by x ≡ added)

no_more : (v : CoreView) (h added : List Record) → added ≡ [] → IsHistory v (h ++ added) → IsHistory v h
no_more v h added none is = subst (λ (z : List Record). IsHistory v z) (ap (λ (z : List Record). h ++ z) none ∙ append-nil h) is

module _ (s : HostedChange) (log : List Entry) (h : HasLog s.old log) (m : ℕ) (added : List Record) (same : s.now.closed ≡ s.was.closed) (history : IsHistory s.core (linearization log ++ added)) where
  read_log : (lane : LaneView) (k : Happened) → s.was.place ≡ state.Resting lane → ReadGives (stand_before s) lane m k added (stand_after s) → TurnFollows s log m k added
  read_log lane happened.Idle placed g = (SessionIdle (number s) m, refl, refl, idle_log s.old log h s.at s.was s.stood m lane s.core s.now placed same (g.0, g.1, refl, g.3), tt, sym g.2)
  read_log lane happened.Wrote placed g =
      let it = wrote_log s.old log h s.at s.was s.stood m lane s.core s.now placed same (g.0, g.1, refl, g.3) in (ReplyWritten (number s) m it.0 false, refl, refl, it.1, tt, sym g.2)
  read_log lane happened.Begun placed g =
      (CallBegun (number s) m (begun_in log + 1), refl, refl, begun_log s.old log h s.at s.was s.stood m lane s.core s.now placed same (no_more s.core (linearization log) added g.3 history) (g.0, g.1, g.2, refl, g.4), tt, sym g.3)
  read_log lane (happened.Ended c) placed g = (SessionEnded (number s) m c true, refl, refl, ended_log s.old log h s.at s.was s.stood m lane c s.core s.now added placed same history g, tt, sym (g.2 ∙ ap (λ (n : ℕ). Left n ∷ []) (resting s.old log h s.at s.was s.stood lane placed).0.session))
  read_log lane _ placed g = absurd g

  step_log : (lane lane' : LaneView) (k : Happened) → s.was.place ≡ state.UnderWay lane → StepGives (before s.old.core (linearization log) lane) k (after_turn s.core added lane') s.now.place → s.now.session ≡ s.was.session → TurnFollows s log m k added
  step_log lane lane' happened.Moved placed g session = (
    CallMoved (number s) m added,
    refl,
    refl,
    moved_log s.old log h s.at s.was s.stood m lane lane' s.core s.now added placed same session g.1 history (moves_by (before s.old.core (linearization log) lane) (after_turn s.core added lane') g.0),
    moved_steady s.old log h s.at s.was s.stood lane lane' s.core added placed (moves_by (before s.old.core (linearization log) lane) (after_turn s.core added lane') g.0),
    refl,
  )
  step_log lane lane' (happened.Blocked holder) placed g session = (
    CallBlocked (number s) m holder,
    refl,
    refl,
    blocked_log s.old log h s.at s.was s.stood m holder lane lane' s.core s.now placed same session (no_more s.core (linearization log) added g.1.none history)
        (g.0, record { none = refl; lane = g.1.lane }, g.2),
    tt,
    sym g.1.none,
  )
  step_log lane lane' happened.Decided placed g session = elim g.1.1 [
    | inl f ↦ (
      CallDecided (number s) m [],
      refl,
      refl,
      fetched_log s.old log h s.at s.was s.stood m lane g.0 g.1.0 lane' s.core s.now placed same session g.3 (no_more s.core (linearization log) added f.none history)
          (record { own = f.own; decided = f.decided; one = f.one; recorded = f.recorded; none = refl; slot = f.slot; records = f.records; look_ups = f.look_ups }) g.2.lane,
      inl refl,
      sym f.none,
    )
    | inr f ↦ (
      CallDecided (number s) m (f.helped ++ did g.1.0 g.0.reply ∷ []),
      refl,
      refl,
      decided_log s.old log h s.at s.was s.stood m lane g.0 g.1.0 lane' s.core s.now added placed same session g.3 history f g.2.lane,
      inr (decided_steady s.old log h s.at s.was s.stood lane g.0 g.1.0 lane' s.core added placed f),
      sym f.records,
    )
  ]
  step_log lane lane' _ placed g session = absurd g

  place_log : (o : HostedState) (k : Happened) → s.was.place ≡ o → GivesAt o (stand_before s) (linearization log) (finding s.was.closed m) k added (stand_after s) → TurnFollows s log m k added
  place_log (state.Resting lane) k placed g = read_log lane k placed g
  place_log (state.UnderWay lane) k placed g = step_log lane g.0.0 k placed g.0.1 g.1
  place_log (state.Decided lane given) k placed g =
      let it = answer_log s.old log h s.at s.was s.stood m lane given s.core s.now added s.was.closed placed refl same history g.1 in
      (ReplyWritten (number s) m it.0 s.was.closed, refl, ap (λ (z : Happened). Ok z) (sym g.0), it.1.0, tt, it.1.1)
  place_log (state.Gone c) k placed g =
      (SessionEnded (number s) m c false, refl, ap (λ (z : Happened). Ok z) (sym g.0), gone_log s.old log h s.at s.was s.stood m c s.core s.now placed same g.1 g.3 g.4, tt, sym g.2)

-- a turn may run out of memory when it reads a packet or writes a long reply
turn_refused : (s : HostedChange) (log : List Entry) (h : HasLog s.old log) (m : ℕ) (o : HostedState) → s.was.place ≡ o → MayRefuseTurn o → MayBeRefused log (event.Turn (number s) m) fault.OutOfMemory
turn_refused s log h m (state.Resting lane) placed may = inl (at_rests s.old log h s.at s.was s.stood lane placed)
turn_refused s log h m (state.Decided lane given) placed may =
    let hosts = host s.old log h s.at s.was s.stood in
    let calls = answered_in (of_session (number s) log).wrote in
    let k = placed_at s.old log h s.at s.was s.stood (state.Decided lane given) placed in
    inr (
      waits s.old log h s.at s.was s.stood k.ended k.due k.decided,
      λ call same.
          let own = replied k.number k.request given.reply in
          let one : own ∷ [] ≡ call ∷ [] = append_cancel_left calls (own ∷ []) (call ∷ []) (ap (λ (d : Due). calls ++ recorded_due d) (sym k.due) ∙ sym hosts.answered.calls ∙ same) in
          let is : own ≡ call = cc in
          subst (λ (c : RepliedCall). 1088 < length (packet (reply_body 0 c.reply))) is (may 0),
    )
turn_refused s log h m _ placed may = absurd may

-- the step of the session's lane, and its work
place_works : (s : HostedChange) (log : List Entry) (h : HasLog s.old log) (m : ℕ) (o : HostedState) (k : Happened) (added : List Record) → s.was.place ≡ o → GivesAt o (stand_before s) (linearization log) (finding s.was.closed m) k added (stand_after s)
    → Works (number s) m k s.old.core (linearization log) added s.core
place_works s log h m (state.Resting lane) k added placed g = read_works (stand_before s) lane (linearization log) (number s) m k added (stand_after s) (resting s.old log h s.at s.was s.stood lane placed).0.session g
place_works s log h m (state.UnderWay lane) k added placed g =
    step_works (before s.old.core (linearization log) lane) (number s) m k (after_turn s.core added g.0.0) s.now.place (going s.old log h s.at s.was s.stood lane placed).session g.0.1
place_works s log h m (state.Decided lane given) k added placed g =
    subst (λ (z : Happened). Works (number s) m z s.old.core (linearization log) added s.core) (sym g.0)
    (record { step = (lane, lane, (placed_at s.old log h s.at s.was s.stood (state.Decided lane given) placed).session, tt); work = same_work (number s) m s.old.core added s.core (settle_same (stand s.old.core g.1.0 (state.Resting lane)) lane s.was.closed added (stand_after s) g.1.2) })
place_works s log h m (state.Gone c) k added placed g =
    subst (λ (z : Happened). Works (number s) m z s.old.core (linearization log) added s.core) (sym g.0)
    (record { step = (record { session = number s; call = None; begun = 0 }, record { session = number s; call = None; begun = 0 }, refl, tt); work = same_work (number s) m s.old.core added s.core (ap (λ (z : CoreView). z.look_ups) g.1) })

pub any_turn_log : (s : HostedChange) (m : ℕ) (r : Result Happened EngineFault) → TurnsHosted s m r → AppendsEntry s.old (event.Turn s.session m) r (changed s)
any_turn_log s m (Ok k) gives = by_number s (λ n. event.Turn n m) (Ok k) (λ log h.
    let g = gives.ok (linearization log) h.history in
    let it = place_log s log h m g.0 gives.closed g.1 s.was.place k refl g.2 in
    let does = place_works s log h m s.was.place k g.0 refl g.2 in (
      it.0,
      it.1,
      it.2,
      it.3,
      it.4,
      subst (λ (z : List Record). IsStep (event.Turn (number s) m) (Ok k) s.old.core (linearization log) z s.core) (sym it.5) does.step,
      subst (λ (z : List Record). IsWork (event.Turn (number s) m) s.old.core z s.core) (sym it.5) does.work,
    ))
any_turn_log s m (Err f) gives = by_number s (λ n. event.Turn n m) (Err f) (λ log h.
    let may = turn_refused s log h m s.was.place refl gives.fault.1 in
    refused_log s (event.Turn (number s) m) f gives.err.0 gives.err.1 log h (subst (λ (g : EngineFault). MayBeRefused log (event.Turn (number s) m) g) (sym gives.fault.0) may))
