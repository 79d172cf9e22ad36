-- A call that looks up nothing begins and is decided in one event.
use Rattle.std.specs.Prelude.{◌≡◌, ◌<◌, ◌≤◌, ◌+◌, ◌^◌, ◌&&◌, ℕ, Bool, true, false, not, if◌then◌else◌, List, [], length, Option, Some, None, is_none, refl}
use Rattle.std.proofs.Common.{sym, ap, subst, ◌∙◌}
use Rattle.std.specs.Option.{option_and_then}
use Rattle.std.specs.Ordering.{nat_cmp}
use Rattle.std.specs.Map.{set_value}
use Rattle.std.specs.BTreeMap.{is_at, insert_entry}
use Rattle.std.proofs.lemmas.Map.Steps.{set_value_same}
use Rattle.sf_reply.specs.declared.reply.Reply.{Reply}
use Rattle.sf_call.specs.declared.call.Call.{Call}
use Rattle.sf_call.specs.declared.call.Stage.TheVariants as stage
use Rattle.sf_call.specs.declared.record.Record.{Record}
use Rattle.sf_call.specs.Answers.{AnswerView}
use Rattle.sf_call.specs.Histories.{IsGiven}
use Rattle.sf_call.specs.declared.request.Request.{Request}
use Rattle.sf_call.specs.Values.{IsCall}
use Rattle.sf_book.specs.Books.{BookView, put}
use Rattle.sf_inode.specs.declared.handle.OpenHandle.{OpenHandle}
use Rattle.sf_inode.specs.Stores.{StoreState, open_handle_at, holder_of, is_file_at}
use Rattle.sf_walk.specs.declared.finding.Ways.{Ways}
use Rattle.sf_walk.specs.declared.finding.Located.TheVariants as located
use Rattle.sf_walk.specs.declared.walking.Walk.TheVariants as walk
use Rattle.sf_call.specs.Routes.{Route, route_of, walks_nothing}
use Rattle.sf_walk.specs.Routes.{HoldsWay}
use Rattle.sf_call.specs.Routes.Route.{NoPath}
use Rattle.sf_walk.specs.Files.{IsFileFree, IsSettled, file_handle, file_holder_of, holder_by}
use Rattle.sf_walk.specs.Steps.{walker, DecidesNow}
use Rattle.sf_walk.specs.Ways.{no_path, AreWays, IsLocated}
use Rattle.sf_walk.proofs.Laws.{at_once, nowhere_stays, stands_fresh}
use Rattle.sf_core.specs.declared.step.Step.TheVariants as step
use Rattle.sf_core.specs.Lanes.{LaneView, at_rest}
use Rattle.sf_core.specs.Cores.{call_at, session_at, last_number}
use Rattle.sf_core.specs.Events.{StepsOn, AnswersAtOnce, begun, walk_end}
use Rattle.sf_core.specs.Progress.{waiting_reply, is_at_once, is_write, overtaken, did, new_call}
use Rattle.sf_core.specs.Parts.{PartsView, core_of}
use Rattle.sf_core.specs.Sound.{Sound, IsCore}
use Rattle.sf_core.specs.Finishing.{IsSettledWhereFree}
use Rattle.sf_core.specs.Stepping.{SameButRoom, ServesCall, Walked, Overtakes, AtOnceState, session_set, session_set_by}
use Rattle.sf_core.proofs.FreeFiles.{left_where}
use Rattle.sf_core.proofs.OneBlock.{no_block}
use Rattle.sf_call.proofs.Laws.{both_true}
use Rattle.sf_core.proofs.Maps.{none_some, not_true, none_of, reply_is, put_same, set_same, set_twice, put_removed}
use Rattle.sf_core.proofs.Starting.{begun_sound, begun_told}
use Rattle.sf_core.proofs.Turns.{IsStep, IsTurn, core_after, sound_of, steps_on, turn_of}
use Rattle.sf_core.proofs.Deciding.{decided_step, decided_given}

-- ---- a call that isn't blocked
is_no_path : (r : Route) → walks_nothing r ≡ true → r ≡ NoPath
is_no_path NoPath e = refl
is_no_path _ e = cc

module _ (s : StoreState) (session : ℕ) (request : Request) (once : is_at_once s session request ≡ true) where
  pub at_once_route : route_of request ≡ NoPath
  at_once_route = is_no_path (route_of request) (both_true (walks_nothing (route_of request)) (not (is_write request) && is_none (holder_by s session request)) once).0

  pub at_once_located : (t : StoreState) (ways : Ways) → ways ≡ no_path → IsLocated t request ways
  at_once_located t ways e = subst (λ (r : Route). AreWays t r ways) (sym at_once_route) (ap (λ (w : Ways). w.kind) e, tt)

  pub at_once_silent : is_write request ≡ false
  at_once_silent = not_true (is_write request) (λ e. let x = sym (ap not e) ∙ (both_true (not (is_write request)) (is_none (holder_by s session request)) (both_true (walks_nothing (route_of request)) (not (is_write request) && is_none (holder_by s session request)) once).1).0 in cc)

  nobody : holder_by s session request ≡ None
  nobody = none_of (holder_by s session request) (both_true (not (is_write request)) (is_none (holder_by s session request)) (both_true (walks_nothing (route_of request)) (not (is_write request) && is_none (holder_by s session request)) once).1).1

  -- no call holds the file that its handle opens
  unheld : (number : ℕ) (h : OpenHandle) → file_handle request ≡ Some number → open_handle_at s session number ≡ Some h → is_file_at s.nodes h.node ≡ true → holder_of s.nodes h.node ≡ None
  unheld number h by opens file =
      sym (ap (option_and_then (λ k. file_holder_of s.nodes (open_handle_at s session k))) by ∙ ap (file_holder_of s.nodes) opens ∙ ap (λ (b : Bool). if b then holder_of s.nodes h.node else None) file) ∙ nobody

  pub at_once_free : (c : Call) → c.session ≡ session → c.request ≡ request → IsFileFree s c
  at_once_free c ses req = record {
    free = λ number h by opens file m held.
        absurd (none_some m (sym (unheld number h (sym (ap file_handle req) ∙ by) (ap (λ k. open_handle_at s k number) (sym ses) ∙ opens) file) ∙ held));
  }

  pub at_once_settled : IsSettledWhereFree s → IsSettled s session request located.NoWay
  at_once_settled free = record {
    by_handle = λ number h by opens. left_where s h.node (λ file. free h.node (ap (λ (b : Bool). if b then holder_of s.nodes h.node else None) file ∙ unheld number h by opens file));
    on_path = λ parent node cuts there. cc;
  }

-- a session that gets a call, and then none, is as before
session_back : (sessions : List (ℕ × Option ℕ)) (session number : ℕ) → session_at sessions session ≡ Some None → session_set (session_set sessions session (Some number)) session None ≡ sessions
session_back sessions session number idle =
    let test = is_at (nat_cmp session) in
    ap (λ ss. session_set ss session None) (ap (session_set_by sessions session (Some number)) idle)
    ∙ ap (session_set_by (set_value test sessions (Some number)) session None) (set_same sessions session (Some number) None idle)
    ∙ set_twice test sessions (Some number) None ∙ set_value_same test sessions None idle

module _ (p m : PartsView) (same : SameButRoom p m) (room : length p.calls + length p.sessions + 1 ≤ m.book.room) (session : ℕ) (request : Request) (moment : ℕ) (is_call : IsCall (p.drawn + 1) session moment request)
    (idle : session_at p.sessions session ≡ Some None) (new : call_at p.calls (p.drawn + 1) ≡ None) where
  abbrev c : Call
  c = new_call (p.drawn + 1) session moment request

  abbrev mid : PartsView
  mid = record {
    store = p.store;
    book = m.book;
    sessions = session_set p.sessions session (Some (p.drawn + 1));
    calls = insert_entry nat_cmp p.calls (p.drawn + 1) c;
    drawn = p.drawn + 1;
    joins = p.joins;
  }

  pub decided_at_once : (s : StoreState) (book : BookView) (given : Reply) → ServesCall p.store s c given → s.look_ups ≡ p.store.look_ups → book ≡ put m.book (did c given)
      → AtOnceState p (record { store = s; book = book; sessions = p.sessions; calls = p.calls; drawn = p.drawn + 1; joins = p.joins }) session request moment given
  decided_at_once s book given serves looks is = record {
    mid = mid;
    begun = record { store = refl; book = same.book; room = room; sessions = refl; calls = refl; drawn = refl; joins = refl; is_call = is_call };
    finished = record {
      records = record { mid = s; serves = serves; store = refl; book = is; drawn = refl; joins = refl };
      look_ups = looks;
      sessions = sym (session_back p.sessions session (p.drawn + 1) idle);
      calls = sym (put_removed p.calls (p.drawn + 1) c new);
    };
    calls = refl;
  }

-- ---- the result
module _ (lane : LaneView) (p q : PartsView) (core : IsCore p) (request : Request) (moment : ℕ) (given : Reply) (once : is_at_once p.store lane.session request ≡ true) (idle : session_at p.sessions lane.session ≡ Some None) (unspent : p.drawn < last_number)
    (fits : p.store.look_ups < 2 ^ 64) (at : AtOnceState p q lane.session request moment given) where
  abbrev its : Call
  its = new_call (p.drawn + 1) lane.session moment request

  abbrev its_lane : LaneView
  its_lane = begun lane (p.drawn + 1)

  route : route_of request ≡ NoPath
  route = at_once_route p.store lane.session request once

  sound_mid : (h : List Record) → Sound p h → Sound at.mid h
  sound_mid h sound = begun_sound p at.mid h sound lane.session request moment at.begun idle unspent

  core_mid : IsCore at.mid
  core_mid = record { history = core.history; sound = sound_mid core.history core.sound }

  there : call_at at.mid.calls (p.drawn + 1) ≡ Some its
  there = ap (λ cs. call_at cs (p.drawn + 1)) at.begun.calls ∙ put_same p.calls (p.drawn + 1) its

  turn : IsTurn at.mid its_lane its
  turn = (turn_of at.mid core_mid its_lane (p.drawn + 1) its there refl refl (subst (λ (s : StoreState). s.look_ups < 2 ^ 64) (sym at.begun.store) fits)).0

  undecided : waiting_reply its ≡ None
  undecided = reply_is its

  abbrev nowhere : Ways
  nowhere = no_path

  free : IsFileFree at.mid.store its
  free = record { free = (subst (λ (s : StoreState). IsFileFree s its) (sym at.begun.store) (at_once_free p.store lane.session request once its refl refl)).free }

  walked : Walked at.mid at.mid its its.number (walk.Ready nowhere)
  walked = record {
    advances =
        subst (λ (r : Route). DecidesNow at.mid.store at.mid.store (walker its.number r stage.Fresh) nowhere) (sym route)
        (at_once at.mid.store its.number stage.Fresh (subst (λ (r : Route). HoldsWay at.mid.store r stage.Fresh) route (stands_fresh at.mid.store request)));
    book = refl;
    sessions = refl;
    calls = refl;
    drawn = refl;
    joins = refl;
  }

  over : Overtakes at.mid at.mid its
  over = λ t keeps. ([], ap (overtaken at.mid.calls its.number) (sym (nowhere_stays keeps its.session its.number its.moment request nowhere walked.advances.located refl)), refl)

  pub given_at_once : IsGiven (p.drawn + 1) lane.session given
  given_at_once = decided_given at.mid its_lane its turn undecided at.mid nowhere walked free at.mid over core.history (sound_mid core.history core.sound) q given at.finished

  module _ (a : AnswerView) (is : a ≡ record { number = p.drawn + 1; session = lane.session; reply = given }) where
    steps : IsStep at.mid its_lane (step.Answered a) q (at_rest its_lane)
    steps = decided_step at.mid its_lane its turn undecided at.mid nowhere walked free at.mid over q given at.finished a is (no_block at.mid.store its given (at_once_silent p.store lane.session request once))

    pub answered_at_once : AnswersAtOnce (core_of p) lane request moment (walk_end (step.Answered a) (core_of q) (at_rest its_lane))
    answered_at_once = record {
      mid = core_of at.mid;
      begins = begun_told p at.mid core.history core.sound lane.session request moment at.begun idle unspent lane.call lane.begun;
      history = λ h written. (sound_mid h (sound_of p core h written)).history;
      steps = subst (λ k. StepsOn (core_of at.mid) (begun lane k) (step.Answered a) (core_of q) (at_rest its_lane)) (sym at.begun.drawn) (steps_on at.mid q its_lane (at_rest its_lane) (step.Answered a) core_mid steps);
    }

  pub core_at_once : IsCore q
  core_at_once = core_after at.mid q _ core_mid (steps (record { number = p.drawn + 1; session = lane.session; reply = given }) refl)
