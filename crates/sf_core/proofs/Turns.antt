-- The effect of a step on a core, on its history and on the lane.
use Rattle.std.specs.Prelude.{◌≡◌, ◌≢◌, ◌⊎◌, ◌<◌, ◌≤◌, ◌+◌, ◌-◌, ◌^◌, ℕ, min, false, List, [], ◌++◌, length, Option, Some, None, refl}
use Rattle.std.specs.Option.{option_map_or}
use Rattle.std.proofs.Common.{sym, ap, subst, ◌∙◌, inl, inr, arith, append-nil}
use Rattle.sf_reply.specs.declared.reply.Reply.{Reply}
use Rattle.sf_call.specs.Answers.{AnswerView}
use Rattle.sf_call.specs.declared.request.Request.{Request}
use Rattle.sf_call.specs.declared.call.Call.{Call}
use Rattle.sf_call.specs.declared.call.Stage.{Stage}
use Rattle.sf_call.specs.declared.call.Stage.TheVariants as stage
use Rattle.sf_call.specs.declared.record.Record.{Record}
use Rattle.sf_call.specs.Unanswered.{at_stage}
use Rattle.sf_book.proofs.Laws.{call_count-append}
use Rattle.sf_inode.specs.Nodes.{with_holder}
use Rattle.sf_inode.specs.Stores.{StoreState, edited}
use Rattle.sf_coupling.specs.Walks.{HeldPath, Holds, walkers_at}
use Rattle.sf_walk.specs.declared.walking.Walk.TheVariants as walked
use Rattle.sf_call.specs.Routes.{route_of}
use Rattle.sf_walk.specs.Routes.{IsPosition, nodes_of, held_paths_of, namespace}
use Rattle.sf_walk.specs.Steps.{entered, handed_over, walker, AdvancesOne}
use Rattle.sf_walk.specs.Files.{WaitsForFile, file_handle}
use Rattle.sf_walk.proofs.Laws.{ground_stays}
use Rattle.sf_core.specs.declared.step.Step.{Step}
use Rattle.sf_core.specs.declared.step.Step.TheVariants as step
use Rattle.sf_core.specs.Lanes.{LaneView, at_rest}
use Rattle.sf_core.specs.Cores.LaneState.{Idle, Busy}
use Rattle.sf_core.specs.Cores.{call_at, session_at}
use Rattle.sf_core.specs.Progress.{waiting_reply, is_write, undecided_in, IsBehind, IsCopying, CopiesInto}
use Rattle.sf_core.specs.Histories.{IsHistory}
use Rattle.sf_core.specs.Events.{OwnCall, Goes, HoldsWanted, HoldsFile, LooksOnly, IsBlocked, Fetches, TakesStep, StepsOn}
use Rattle.sf_core.specs.Parts.{PartsView, core_of}
use Rattle.sf_core.specs.Sound.{walker_of, held_paths_at, held_paths_in, Sound, IsCore}
use Rattle.sf_core.specs.Stepping.{session_set_by, Walked, FetchState}
use Rattle.sf_core.proofs.Maps.{not_true, reply_is}
use Rattle.sf_core.proofs.Updates.{Updates, updates_set, updates_removed, updates_staged}
use Rattle.sf_core.proofs.LookUps.{looks_between, looks_of_looked}
use Rattle.sf_core.proofs.Ledgers.{other_session, other_call}
use Rattle.sf_core.proofs.Walkers.{rests_none}
use Rattle.sf_core.proofs.Writers.{writer_is}
use Rattle.sf_core.proofs.SparedFiles.{file_writer}
use Rattle.sf_core.proofs.CopySteps.{is_a_write, is_write_by}
use Rattle.sf_core.proofs.FreeFiles.{no_handle_moved}
use Rattle.sf_core.proofs.Finished.{not_copying}
use Rattle.sf_core.proofs.Unrecorded.{looked_sound, moved_sound, blocked_wants, fetched_sound}
use Rattle.sf_core.proofs.Deeper.{looks_deeper}
use Rattle.sf_core.proofs.SettingBack.{let_go_looks}
use Rattle.sf_core.proofs.LaneStates.{sets_slot, slot_busy, slot_idle, slots_kept, slot_kept, own_call, no_stranger, same_book, left_is, left_one, walked_few, some_left, less_left}

-- ---- histories
-- the parts of a core are sound with each history that the core has
pub sound_of : (p : PartsView) → IsCore p → (h : List Record) → IsHistory (core_of p) h → Sound p h
sound_of p core h is = record { history = is; coupled = core.sound.coupled; copied = core.sound.copied; ledger = core.sound.ledger }

-- an event adds records, and a sound core is sound with the extended history
abbrev pub Adds : PartsView → PartsView → ((h added : List Record) → Type 0) → Type 0
Adds p q Told = (h : List Record) → Sound p h → (added : List Record) × Sound q (h ++ added) × Told h added

module _ (p q : PartsView) (Told : (h added : List Record) → Type 0) (core : IsCore p) (adds : Adds p q Told) where
  pub core_after : IsCore q
  core_after = let a = adds core.history core.sound in record { history = core.history ++ a.0; sound = a.1 }

  -- no more calls are undecided, if no call began
  pub places_after : q.drawn ≡ p.drawn → (places : ℕ) → undecided_in p.calls ≤ places → undecided_in q.calls ≤ places
  places_after drawn places fit =
      let a = adds core.history core.sound in
      let x = core.sound.history.counted in
      let y = a.1.history.counted in
      omega (arith, x, y, drawn, call_count-append core.history a.0, fit)

-- an event without a record
pub adds_none : (p q : PartsView) (Told : (h added : List Record) → Type 0) → ((h : List Record) → Sound p h → Sound q h × Told h []) → Adds p q Told
adds_none p q Told each h sound = let e = each h sound in ([], subst (λ (x : List Record). Sound q x) (sym (append-nil h)) e.0, e.1)

-- a step
abbrev pub IsStep : PartsView → LaneView → Step → PartsView → LaneView → Type 0
IsStep p lane s q lane' = Adds p q (λ h added. TakesStep (record { core = core_of p; history = h; lane = lane }) s (record { core = core_of q; added = added; lane = lane' }))

pub steps_on : (p q : PartsView) (lane lane' : LaneView) (s : Step) → IsCore p → IsStep p lane s q lane' → StepsOn (core_of p) lane s (core_of q) lane'
steps_on p q lane lane' s core adds h is = let a = adds h (sound_of p core h is) in (a.0, a.1.history, a.2)

-- ---- a lane without a call of this core
pub foreign_step : (p q : PartsView) (lane : LaneView) (n : ℕ) → lane.call ≡ Some n → ((c : Call) → call_at p.calls n ≡ Some c → c.session ≡ lane.session → ⊥) → q ≡ p → IsStep p lane step.Stranger q lane
foreign_step p q lane n call never same = adds_none p q _ (λ h sound.
    (subst (λ (x : PartsView). Sound x h) (sym same) sound, ((λ c own. no_stranger p sound.ledger lane n call never c own), ap core_of same, record { none = refl; lane = refl })))

-- ---- lookups
one_more : (s : StoreState) → s.look_ups < 2 ^ 64 → (s.look_ups ≤ min (s.look_ups + 1) (2 ^ 64 - 1)) × (min (s.look_ups + 1) (2 ^ 64 - 1) ≤ s.look_ups + 2)
one_more s fits = (omega (arith, fits), omega arith)

entered_looks : (g : Stage) (s : StoreState) → s.look_ups < 2 ^ 64 → (s.look_ups ≤ (entered g s).look_ups) × ((entered g s).look_ups ≤ s.look_ups + 2)
entered_looks stage.Fresh s fits = (omega arith, omega arith)
entered_looks _ s fits = one_more s fits

moved_looks : (n : ℕ) (was now : Stage) (node : ℕ) (s : StoreState) → s.look_ups < 2 ^ 64
    → (s.look_ups ≤ (handed_over n was now node (entered was s)).look_ups) × ((handed_over n was now node (entered was s)).look_ups ≤ s.look_ups + 2)
moved_looks n was now node s fits =
    let e = entered_looks was s fits in
    let f = let_go_looks (nodes_of now) (nodes_of was) (edited (with_holder (Some n)) (entered was s) node) in
    (let a = e.0 in omega (arith, a, f), let b = e.1 in omega (arith, b, f))

-- a call that looks up is no WRITE
not_write : (r : Request) (g after : Stage) → IsPosition (route_of r) after → AdvancesOne g after → is_write r ≡ false
not_write r g after is on = not_true (is_write r) (λ e. let w = is_a_write r (is_write_by r e) in no_handle_moved r g after is on w.0 (ap file_handle w.3))

-- ---- a step of the lane's call
pub record IsTurn (p : PartsView) (lane : LaneView) (c : Call) : Type 0 where
  pub at : call_at p.calls c.number ≡ Some c
  pub session : c.session ≡ lane.session
  pub call : lane.call ≡ Some c.number
  pub fits : p.store.look_ups < 2 ^ 64

pub turn_of : (p : PartsView) → IsCore p → (lane : LaneView) (n : ℕ) (c : Call) → call_at p.calls n ≡ Some c → c.session ≡ lane.session → lane.call ≡ Some n → p.store.look_ups < 2 ^ 64 → IsTurn p lane c × (c.number ≡ n)
turn_of p core lane n c at session call fits =
    let is = (core.sound.ledger.calls n c at).is_number in
    (record { at = ap (call_at p.calls) is ∙ at; session = session; call = call ∙ ap Some (sym is); fits = fits }, is)

module _ (p : PartsView) (lane : LaneView) (c : Call) (turn : IsTurn p lane c) where
  own : (h : List Record) → Sound p h → OwnCall (core_of p) lane c
  own h sound = own_call p sound.ledger lane c.number c turn.at turn.session turn.call

  busy : (h : List Record) → Sound p h → session_at p.sessions lane.session ≡ Some (Some c.number)
  busy h sound = ap (session_at p.sessions) (sym turn.session) ∙ (sound.ledger.calls c.number c turn.at).session

  -- another session has another call
  pub apart : (h : List Record) → Sound p h → (s m : ℕ) → s ≢ lane.session → session_at p.sessions s ≡ Some (Some m) → m ≢ c.number
  apart h sound s m ne at = other_call p sound.ledger c.number c turn.at s m (λ e. ne (e ∙ turn.session)) at

  -- ---- a pending reply is fetched
  module _ (given : Reply) (decided : waiting_reply c ≡ Some given) (fresh : c.stage ≡ stage.Fresh) (q : PartsView) (fetched : FetchState p q lane.session c.number) (a : AnswerView) (is : a ≡ record { number = c.number; session = lane.session; reply = given }) where
    fetched_told : (h : List Record) → Sound p h → Fetches (record { core = core_of p; history = h; lane = lane }) (record { core = core_of q; added = []; lane = at_rest lane }) c given
    fetched_told h sound =
        let calls = updates_removed p.calls c.number c turn.at sound.ledger.calls_rise in
        let sessions = updates_set p.sessions lane.session (Some c.number) (busy h sound) None in
        let ss : (s : ℕ) → _ = λ s. ap (λ (x : List (ℕ × Option ℕ)). session_at x s) (fetched.sessions ∙ ap (session_set_by p.sessions lane.session None) (busy h sound)) in
        record {
          own = own h sound;
          decided = decided;
          one = left_one c given decided fresh;
          recorded = sound.history.decided c.number c given turn.at decided;
          none = refl;
          slot =
              sets_slot p q sound.ledger lane c.number c Idle turn.at turn.session (slot_idle (core_of q) lane.session (ss lane.session ∙ sessions.now_is)) (λ m ne. ap (λ cs. call_at cs m) fetched.calls ∙ calls.rest m ne) (λ s ne. ss s ∙ sessions.rest s ne)
              (let e = ap (λ (x : List (ℕ × Option ℕ)). length x) (fetched.sessions ∙ ap (session_set_by p.sessions lane.session None) (busy h sound)) in let f = sessions.size in omega (arith, e, f)) fetched.drawn fetched.joins;
          records = same_book p q fetched.book;
          look_ups = ap (λ (x : StoreState). x.look_ups) fetched.store;
        }

    pub fetched_step : IsStep p lane (step.Answered a) q (at_rest lane)
    fetched_step = adds_none p q _ (λ h sound. (
      fetched_sound p q h sound c turn.at given decided fresh (subst (λ s. FetchState p q s c.number) (sym turn.session) fetched),
      (
        (c, inl (subst (λ (g : Reply). Fetches (record { core = core_of p; history = h; lane = lane }) (record { core = core_of q; added = []; lane = at_rest lane }) c g) (sym (ap (λ (x : AnswerView). x.reply) is)) (fetched_told h sound))),
        record { session = ap (λ (x : AnswerView). x.session) is; number = turn.call ∙ ap Some (sym (ap (λ (x : AnswerView). x.number) is)); lane = refl },
      ),
    ))

  module _ (undecided : waiting_reply c ≡ None) (q : PartsView) where
    -- ---- it moves
    module _ (after : Stage) (w : Walked p q c c.number (walked.Moved after)) where
      moved_told : (h : List Record) → Sound p h → Goes (core_of p) (core_of q) lane c (at_stage after c)
      moved_told h sound =
          let calls = subst (λ cs. Updates p.calls cs c.number (Some c) (Some (at_stage after c))) (sym w.calls) (updates_staged p.calls c.number c after turn.at) in
          let ss : (s : ℕ) → _ = λ s. ap (λ (x : List (ℕ × Option ℕ)). session_at x s) w.sessions in
          let none : waiting_reply (at_stage after c) ≡ None = reply_is (at_stage after c) ∙ sym (reply_is c) ∙ undecided in
          let few = walked_few c after w.advances.position in
          let now = left_is (at_stage after c) none in
          let looks = moved_looks c.number c.stage after w.advances.held_path.node p.store turn.fits in
          let e = ap (λ (x : StoreState). x.look_ups) w.advances.state in
          record {
            own = own h sound;
            same = record { number = refl; session = refl; moment = refl; request = refl };
            before = undecided;
            after = none;
            no_write = not_write c.request c.stage after w.advances.position w.advances.walks;
            walks = w.advances.walks;
            less = let less = less_left c.request c.stage after w.advances.walks few in omega (arith, less, now, left_is c undecided);
            some = let some = some_left c after w.advances.position in omega (arith, some, now);
            slot =
                sets_slot p q sound.ledger lane c.number c (Busy (at_stage after c)) turn.at turn.session (slot_busy (core_of q) lane.session c.number (at_stage after c) (ss lane.session ∙ busy h sound) calls.now_is) calls.rest (λ s ne. ss s)
                (ap (λ (x : List (ℕ × Option ℕ)). length x) w.sessions) w.drawn w.joins;
            records = same_book p q w.book;
            more = let a = looks.0 in omega (arith, a, e);
            few = let b = looks.1 in omega (arith, b, e);
          }

      pub moved_step : IsStep p lane step.Moved q lane
      moved_step = adds_none p q _ (λ h sound. (
        subst (λ (x : PartsView). Sound x h) (λ i. record { store = q.store; book = sym w.book i; sessions = sym w.sessions i; calls = sym w.calls i; drawn = sym w.drawn i; joins = sym w.joins i })
            (moved_sound p h sound c turn.at undecided q.store after w.advances),
        inl ((c, at_stage after c, moved_told h sound), record { none = refl; lane = refl }),
      ))

    -- ---- it is blocked
    told_by : (h : List Record) → Sound p h → (holder : ℕ) (d : Call) → call_at p.calls holder ≡ Some d → c.number ≢ holder → (waiting_reply d ≡ None) ⊎ IsCopying d.stage → HoldsWanted p.store c d ⊎ HoldsFile p.store c d → IsBehind c d
        → LooksOnly (core_of p) (core_of q) 2 → IsBlocked (core_of p) (core_of q) lane c holder
    told_by h sound holder d at_d other holds wanted deeper looks =
        let is = sound.ledger.calls holder d at_d in
        record {
          own = own h sound;
          undecided = undecided;
          other = d.session;
          call = d;
          apart = λ e. other_session p sound.ledger c.number c turn.at holder d (λ same. other (sym same)) at_d (e ∙ sym turn.session);
          slot = slot_busy (core_of p) d.session holder d is.session at_d;
          holds = holds;
          number = is.is_number;
          wanted = wanted;
          deeper = deeper;
          looks = looks;
        }

    -- for an inode that the next component leads to
    module _ (holder : ℕ) (w : Walked p q c c.number (walked.Blocked holder)) where
      the_holder : (held_path : HeldPath) → Holds (held_paths_in p.calls holder) held_path → (d : Call) × (call_at p.calls holder ≡ Some d) × Holds (held_paths_at d) held_path
      the_holder held_path hold = elim (call_at p.calls holder) as (λ o. call_at p.calls holder ≡ o → Holds (option_map_or held_paths_at o []) held_path → (d : Call) × (o ≡ Some d) × Holds (held_paths_at d) held_path) [
        | None ↦ λ e h. absurd h
        | Some d ↦ λ e h. (d, refl, h)
      ] refl hold

      -- the holder of a directory is undecided
      not_decided : (h : List Record) → Sound p h → (d : Call) (held_path : HeldPath) → call_at p.calls holder ≡ Some d → Holds (held_paths_at d) held_path → waiting_reply d ≡ None
      not_decided h sound d held_path at hold = elim (waiting_reply d) as (λ o. waiting_reply d ≡ o → o ≡ None) [
        | None ↦ λ e. refl
        | Some given ↦ λ e. absurd (subst (λ (x : List HeldPath). Holds x held_path) (rests_none (route_of d.request) d.stage (sound.coupled.waiting holder d given at e)) hold)
      ] refl

      looks_few : LooksOnly (core_of p) (core_of q) 2
      looks_few = let looks = looks_between p.store q.store 1 turn.fits (looks_of_looked p.store q.store 1 w.advances.looked) in record {
        records = same_book p q w.book;
        drawn = w.drawn;
        joins = w.joins;
        sessions = w.sessions;
        calls = w.calls;
        slots = λ s. slot_kept (core_of p) (core_of q) s (session_at p.sessions s) refl (ap (λ ss. session_at ss s) w.sessions) (λ m f. ap (λ cs. call_at cs m) w.calls);
        joined = ap (λ (ss : List (ℕ × Option ℕ)). length ss) w.sessions;
        more = looks.0;
        few = let b = looks.1 in omega (arith, b);
      }

      blocked_told : (h : List Record) → Sound p h → IsBlocked (core_of p) (core_of q) lane c holder
      blocked_told h sound = elim (blocked_wants p h sound c turn.at undecided q.store holder w.advances) [
        | inl wants ↦
            let d = the_holder wants.0 wants.4 in
            let held_paths : (n : ℕ) (x : Call) → call_at p.calls n ≡ Some x → held_paths_in p.calls n ≡ held_paths_of (route_of x.request) x.stage = λ n x at. ap (λ (o : Option Call). option_map_or held_paths_at o []) at in
            let none = not_decided h sound d.0 wants.0 d.1 d.2 in
            told_by h sound holder d.0 d.1 w.advances.other (inl none)
            (inl (record { held_path = wants.0; looks = wants.1; leads = wants.2; held = wants.3 ∙ ap Some (sym (sound.ledger.calls holder d.0 d.1).is_number); stands = inl d.2 })) (
              not_copying p h sound c.number c turn.at undecided,
              inr (looks_deeper (walkers_at (namespace p.store) (held_paths_in p.calls) (walker_of p.store.nodes)) sound.coupled.walks
                  (record { number = c.number; route = route_of c.request; at = c.stage; holds = held_paths c.number c turn.at; position = sound.coupled.positions c.number c turn.at undecided })
                  (record { number = holder; route = route_of d.0.request; at = d.0.stage; holds = held_paths holder d.0 d.1; position = sound.coupled.positions holder d.0 d.1 none })
                  w.advances.other wants.0 wants.1 wants.4),
            ) looks_few
        | inr f ↦
            let copies : IsCopying f.0.stage = subst IsCopying (sym f.3) tt in
            told_by h sound holder f.0 f.2 w.advances.other (inr copies)
            (inl (record {
              held_path = record { path = w.advances.to; node = w.advances.node };
              looks = w.advances.looks;
              leads = w.advances.leads;
              held = w.advances.held ∙ ap Some (sym (sound.ledger.calls holder f.0 f.2).is_number);
              stands = inr (subst (λ (g : Stage). CopiesInto g w.advances.node) (sym f.3) refl);
            }))
            (not_copying p h sound c.number c turn.at undecided, inl copies) looks_few
      ]

      pub blocked_step : IsStep p lane (step.Blocked holder) q lane
      blocked_step = adds_none p q _ (λ h sound. (
        subst (λ (x : PartsView). Sound x h) (λ i. record { store = q.store; book = sym w.book i; sessions = sym w.sessions i; calls = sym w.calls i; drawn = sym w.drawn i; joins = sym w.joins i })
            (looked_sound p h sound q.store 1 w.advances.looked (ground_stays p.store q.store (walker c.number (route_of c.request) c.stage) (walked.Blocked holder) w.advances)),
        ((c, blocked_told h sound), record { none = refl; lane = refl }),
      ))

    -- for the file that its handle opens
    module _ (holder : ℕ) (same : q ≡ p) (waits : WaitsForFile p.store c holder) where
      file_told : (h : List Record) → Sound p h → IsBlocked (core_of p) (core_of q) lane c holder
      file_told h sound =
          let f = file_writer p.store p.calls sound.copied.copies waits.handle.node holder (writer_is p.store.nodes waits.handle.node holder waits.file waits.held) in
          let copies : IsCopying f.0.stage = subst IsCopying (sym f.3) tt in
          let number : f.0.number ≡ holder = (sound.ledger.calls holder f.0 f.2).is_number in
          told_by h sound holder f.0 f.2 waits.other (inr copies)
          (inr (record {
            waits = record {
              number = waits.number;
              handle = waits.handle;
              by_handle = waits.by_handle;
              opens = waits.opens;
              file = waits.file;
              held = waits.held ∙ ap Some (sym number);
              other = λ e. waits.other (e ∙ number);
            };
            copies = subst (λ (g : Stage). CopiesInto g waits.handle.node) (sym f.3) refl;
          }))
          (not_copying p h sound c.number c turn.at undecided, inl copies) (subst (λ (x : PartsView). LooksOnly (core_of p) (core_of x) 2) (sym same) (record {
            records = record { records = refl; keep = refl; folded = refl };
            drawn = refl;
            joins = refl;
            sessions = refl;
            calls = refl;
            slots = λ s. refl;
            joined = refl;
            more = omega arith;
            few = omega arith;
          }))

      pub file_blocked_step : IsStep p lane (step.Blocked holder) q lane
      file_blocked_step = adds_none p q _ (λ h sound. (subst (λ (x : PartsView). Sound x h) (sym same) sound, ((c, file_told h sound), record { none = refl; lane = refl })))
