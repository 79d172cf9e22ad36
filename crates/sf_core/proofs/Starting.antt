-- A call begins, and a call starts again at the root.
use Rattle.std.specs.Prelude.{◌≡◌, ◌≢◌, ◌<◌, ◌≤◌, ◌+◌, ℕ, true, false, cond, is_none, List, [], ◌∷◌, length, filter, Option, Some, None, refl}
use Rattle.std.specs.Option.{option_map_or}
use Rattle.std.proofs.Common.{sym, ap, subst, ◌∙◌, inl, inr, arith}
use Rattle.std.specs.Ordering.{nat_cmp}
use Rattle.std.specs.Map.{lookup}
use Rattle.std.specs.BTreeMap.{is_at, insert_entry}
use Rattle.sf_reply.specs.declared.reply.Reply.{Reply}
use Rattle.sf_call.specs.declared.request.Request.{Request}
use Rattle.sf_call.specs.declared.call.Call.{Call}
use Rattle.sf_call.specs.declared.record.Record.{Record}
use Rattle.sf_call.specs.Histories.{replay}
use Rattle.sf_book.specs.Books.{BookView}
use Rattle.sf_inode.specs.Stores.{StoreState}
use Rattle.sf_keeps.specs.Keeps.{Keeps}
use Rattle.sf_coupling.specs.Walks.{HeldPath, walkers_at, AreWalks}
use Rattle.sf_coupling.proofs.Laws.{same_or_not}
use Rattle.sf_call.specs.Routes.{route_of}
use Rattle.sf_walk.specs.Routes.{IsPosition, namespace}
use Rattle.sf_walk.proofs.Laws.{starts}
use Rattle.std.specs.Cmp.{nat_cmp_total}
use Rattle.sf_call.proofs.Laws.{sorted_put}
use Rattle.sf_core.specs.Cores.{call_at, session_at, last_number}
use Rattle.sf_core.specs.Progress.{waiting_reply, undecided_in, new_call}
use Rattle.sf_core.specs.Parts.{PartsView, core_of}
use Rattle.sf_core.specs.Sound.{walker_of, held_paths_at, held_paths_in, IsCallOf, Ledger, Sound}
use Rattle.sf_core.specs.Stepping.{session_set_by, set_back, set_back_by, BeginState}
use Rattle.sf_core.proofs.Maps.{no_value, reply_is, some_eq, none_some, one_if, put_same, put_other, count_put, passing_put}
use Rattle.sf_core.proofs.Updates.{Updates, updates_set}
use Rattle.sf_core.specs.Events.{CallBegins}
use Rattle.sf_core.proofs.LaneStates.{slot_idle, slot_busy, slots_kept, all_left, same_records}
use Rattle.sf_core.proofs.Ledgers.{ledger_changed}
use Rattle.sf_core.proofs.Histories.{IsWritten, is_undecided, history_changed}
use Rattle.sf_core.proofs.Writers.{copied_still}
use Rattle.sf_core.proofs.Unrecorded.{reset_sound}

-- a call that starts again
pub set_back_sound : (p : PartsView) (h : List Record) → Sound p h → (c : Call) → call_at p.calls c.number ≡ Some c → waiting_reply c ≡ None → Sound (set_back p c.number) h
set_back_sound p h sound c at undecided =
    subst (λ (x : PartsView). Sound x h) (sym (ap (set_back_by p c.number) at)) (reset_sound p h sound c at undecided (starts c.request))

module _ {X : Type 0} where
  pub updates_put : (es : List (ℕ × X)) (k : ℕ) (v : X) → lookup (is_at (nat_cmp k)) es ≡ None → Updates es (insert_entry nat_cmp es k v) k None (Some v)
  updates_put es k v none = record {
    was_is = none;
    now_is = put_same es k v;
    rest = λ q ne. put_other es k v q ne;
    size = let e = count_put es k v none in omega (arith, e);
    passes = λ test. let e = passing_put test es k v none in omega (arith, e);
    rises = λ h. sorted_put nat_cmp nat_cmp_total es k v h;
  }

-- no call has the next number
pub no_call : (p : PartsView) → Ledger p → call_at p.calls (p.drawn + 1) ≡ None
no_call p ledger = no_value (call_at p.calls (p.drawn + 1)) (λ d e. let m = (ledger.calls (p.drawn + 1) d e).most in omega (arith, m))

-- and no session has this call
pub has_call : (p : PartsView) → Ledger p → (session s m : ℕ) → s ≢ session → session_at p.sessions s ≡ Some (Some m) → m ≢ p.drawn + 1
has_call p ledger session s m ne at e = let b = (ledger.sessions s (Some m) at).busy m refl in none_some b.0 (sym (no_call p ledger) ∙ ap (call_at p.calls) (sym e) ∙ b.1)

-- there are no more calls than numbers
pub undecided_few : (calls : List (ℕ × Call)) → undecided_in calls ≤ length calls
undecided_few [] = omega arith
undecided_few (e ∷ calls) =
    let h = undecided_few calls in
    elim (is_none (waiting_reply e.1)) as (λ b. length (cond b (e ∷ filter (λ (x : ℕ × Call). is_none (waiting_reply x.1)) calls) (filter (λ (x : ℕ × Call). is_none (waiting_reply x.1)) calls)) ≤ length (e ∷ calls)) [
      | true ↦ omega (arith, h)
      | false ↦ omega (arith, h)
    ]

module _ (p q : PartsView) (h : List Record) (sound : Sound p h) (session : ℕ) (request : Request) (moment : ℕ) (begun : BeginState p q session request moment) (idle : session_at p.sessions session ≡ Some None) (unspent : p.drawn < last_number) where
  abbrev c : Call
  c = new_call (p.drawn + 1) session moment request

  undecided : waiting_reply (new_call (p.drawn + 1) session moment request) ≡ None
  undecided = reply_is c

  none_yet : call_at p.calls (p.drawn + 1) ≡ None
  none_yet = no_call p sound.ledger

  calls : Updates p.calls q.calls (p.drawn + 1) None (Some (new_call (p.drawn + 1) session moment request))
  calls = subst (λ cs. Updates p.calls cs (p.drawn + 1) None (Some c)) (sym begun.calls) (updates_put p.calls (p.drawn + 1) c none_yet)

  sessions : Updates p.sessions q.sessions session (Some None) (Some (Some (p.drawn + 1)))
  sessions = subst (λ ss. Updates p.sessions ss session (Some None) (Some (Some (p.drawn + 1)))) (sym (begun.sessions ∙ ap (session_set_by p.sessions session (Some (p.drawn + 1))) idle)) (updates_set p.sessions session None idle (Some (p.drawn + 1)))

  one_more : undecided_in q.calls ≡ undecided_in p.calls + 1
  one_more =
      let a = calls.passes is_undecided in
      let b = ap (λ (o : Option Reply). one_if (is_none o)) undecided in
      omega (arith, a, b)

  own : (m : ℕ) (d : Call) → m ≡ p.drawn + 1 → call_at q.calls m ≡ Some d → new_call (p.drawn + 1) session moment request ≡ d
  own m d e is = some_eq c d (sym calls.now_is ∙ ap (call_at q.calls) (sym e) ∙ is)

  held_paths_same : (m : ℕ) → held_paths_in q.calls m ≡ held_paths_in p.calls m
  held_paths_same m = elim (same_or_not m (p.drawn + 1)) [
    | inl e ↦ ap (held_paths_in q.calls) e ∙ ap (λ (o : Option Call). option_map_or held_paths_at o []) calls.now_is ∙ sym (ap (λ (o : Option Call). option_map_or held_paths_at o []) none_yet) ∙ ap (held_paths_in p.calls) (sym e)
    | inr ne ↦ ap (λ (o : Option Call). option_map_or held_paths_at o []) (calls.rest m ne)
  ]

  pub begun_sound : Sound q h
  begun_sound = let is = sound.history in record {
    history =
        history_changed p q h h is (p.drawn + 1) session None (Some c) (Some None) (Some (Some (p.drawn + 1))) calls sessions is.legal
        (subst (λ (b : BookView). IsWritten b h) (sym begun.book) (record { records = is.records; folded = is.folded })) (subst (λ (s : StoreState). Keeps s (replay h)) (sym begun.store) is.tree)
        (let a = is.counted in let d = begun.drawn in omega (arith, a, d, one_more)) (λ r a. a) (λ m ne k. k) (λ d e none. is.later (p.drawn + 1) (omega arith))
        (λ d g e some. absurd (none_some g (sym undecided ∙ ap waiting_reply (some_eq c d e) ∙ some)))
        (λ m less. let d = begun.drawn in is.later m (omega (arith, less, d))) (λ s ne k. k) (λ o e. is.sessions session None idle) (λ s less. let d = begun.joins in is.newcomers s (omega (arith, less, d)))
        (let a = is.few in let b = sessions.size in omega (arith, a, b));
    coupled = record {
      walks =
          subst (λ (s : StoreState). AreWalks (walkers_at (namespace s) (held_paths_in q.calls) (walker_of s.nodes))) (sym begun.store)
          (subst (λ (f : ℕ → List HeldPath). AreWalks (walkers_at (namespace p.store) f (walker_of p.store.nodes))) (λ i m. sym (held_paths_same m) i) sound.coupled.walks);
      positions = λ m d at none. elim (same_or_not m (p.drawn + 1)) [
        | inl e ↦ subst (λ (x : Call). IsPosition (route_of x.request) x.stage) (own m d e at) (starts request)
        | inr ne ↦ sound.coupled.positions m d (sym (calls.rest m ne) ∙ at) none
      ];
      waiting = λ m d g at some. elim (same_or_not m (p.drawn + 1)) [
        | inl e ↦ inl (ap (λ (x : Call). x.stage) (sym (own m d e at)))
        | inr ne ↦ sound.coupled.waiting m d g (sym (calls.rest m ne) ∙ at) some
      ];
    };
    copied = copied_still p q (p.drawn + 1) sound.copied (record { was = None; now = Some c; calls = calls; was_none = refl; now_none = refl; store = begun.store });
    ledger =
        ledger_changed p q sound.ledger (p.drawn + 1) session None (Some c) (Some None) (Some (Some (p.drawn + 1))) calls sessions
        (λ m d ne at e. none_some m (some_eq None (Some m) (sym idle ∙ ap (session_at p.sessions) (sym e) ∙ (sound.ledger.calls m d at).session)))
        (has_call p sound.ledger session)
        (λ d is. subst (λ (x : Call). IsCallOf q.sessions q.drawn (p.drawn + 1) x) (some_eq c d is) (record {
          is_number = refl;
          above = omega arith;
          most = let a = begun.drawn in omega (arith, a);
          copied = λ _. refl;
          is_call = begun.is_call;
          session = sessions.now_is;
        }))
        (λ o is. let x = sound.ledger.sessions session None idle in record {
          above = x.above;
          most = let a = x.most in let b = begun.joins in omega (arith, a, b);
          busy = λ m i. (c, ap (call_at q.calls) (sym (some_eq (p.drawn + 1) m (some_eq (Some (p.drawn + 1)) o is ∙ i))) ∙ calls.now_is, refl);
        })
        (let a = begun.drawn in omega (arith, a)) (let a = begun.joins in omega (arith, a)) (let a = begun.drawn in omega (arith, a, unspent)) (let a = sound.ledger.joins_fit in let b = begun.joins in omega (arith, a, b))
        (let a = begun.room in let b = sessions.size in let d = undecided_few p.calls in omega (arith, a, b, d, one_more));
  }

  pub begun_told : (call : Option ℕ) (count : ℕ) → CallBegins (core_of p) (core_of q) (record { session = session; call = call; begun = count }) request moment
  begun_told call count = record {
    idle = slot_idle (core_of p) session idle;
    unspent = unspent;
    own = slot_busy (core_of q) session (p.drawn + 1) c sessions.now_is calls.now_is;
    fresh = (undecided, all_left (p.drawn + 1) session moment request);
    others = slots_kept (core_of p) (core_of q) (p.drawn + 1) session calls.rest sessions.rest (has_call p sound.ledger session);
    joined = let e = sessions.size in omega (arith, e);
    drawn = begun.drawn;
    joins = begun.joins;
    records = same_records p q begun.book;
    look_ups = ap (λ (x : StoreState). x.look_ups) begun.store;
  }
