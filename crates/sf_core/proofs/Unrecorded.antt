-- An event of one call that adds no record: a step, its start from the root again, or the fetch of
-- its reply.
use Rattle.std.specs.Prelude.{◌≡◌, ◌≢◌, ◌⊎◌, ◌≤◌, ℕ, true, false, is_none, List, [], Option, Some, None, refl}
use Rattle.std.specs.Option.{option_map_or}
use Rattle.std.proofs.Common.{sym, ap, subst, ◌∙◌, inl, inr, arith}
use Rattle.sf_path.specs.Names.{Path}
use Rattle.sf_reply.specs.declared.reply.Reply.{Reply}
use Rattle.sf_call.specs.declared.call.Call.{Call}
use Rattle.sf_call.specs.declared.call.Stage.{Stage}
use Rattle.sf_call.specs.declared.call.Stage.TheVariants as stage
use Rattle.sf_call.specs.declared.record.Record.{Record}
use Rattle.sf_call.specs.Tree.{Tree}
use Rattle.std.specs.List.{count_by}
use Rattle.sf_call.specs.Histories.{replay, IsAmong}
use Rattle.sf_call.specs.Unanswered.{at_stage, staged}
use Rattle.sf_book.specs.Books.{BookView, is_call, kept_of, gone_of}
use Rattle.sf_inode.specs.declared.node.Node.{Node}
use Rattle.sf_inode.specs.Nodes.{with_holder}
use Rattle.sf_inode.specs.Stores.{StoreState, child_of, holder_of, is_directory_at, edited}
use Rattle.sf_keeps.specs.Steps.{walk}
use Rattle.sf_keeps.specs.Keeps.{Keeps}
use Rattle.sf_keeps.proofs.Laws.{keeps_looked, keeps_held, one_way}
use Rattle.sf_coupling.specs.Walks.{HeldPath, Holds, walkers_at, AreWalks}
use Rattle.sf_coupling.proofs.Laws.{same_or_not}
use Rattle.sf_call.specs.Routes.{route_of}
use Rattle.sf_walk.specs.Routes.{IsPosition, nodes_of, held_paths_of, namespace}
use Rattle.sf_walk.specs.Steps.{walker, entered, LooksUp, AdvancesTo, WaitsFor}
use Rattle.sf_walk.specs.Served.{LookedUp}
use Rattle.sf_walk.proofs.Laws.{IsSameGround, leads_same, looked_nodes, keeps_counted}
use Rattle.sf_core.specs.Cores.{call_at, session_at}
use Rattle.sf_core.specs.Progress.{waiting_reply, did, undecided_in}
use Rattle.sf_core.specs.Histories.{IsHistory}
use Rattle.sf_core.specs.Parts.{PartsView, core_of}
use Rattle.sf_core.specs.Sound.{walker_of, writer_of_file, held_paths_at, held_paths_in, copying_at, Coupled, Copied, Sound}
use Rattle.sf_core.specs.Stepping.{session_set_by, freed, SameButRoom, FetchState}
use Rattle.sf_core.proofs.Maps.{staged_reply, some_eq, none_some, one_if}
use Rattle.sf_core.proofs.Updates.{one_by, Updates, updates_set, updates_removed, updates_none, updates_staged}
use Rattle.sf_core.proofs.Walkers.{walker_is, walker_holds}
use Rattle.sf_core.proofs.Writers.{SameFiles, none_copied, same_copying, still_copying, files_let_go, files_moved, files_looked, copied_on, copied_still, copied_same}
use Rattle.sf_core.proofs.SparedFiles.{file_there, file_writer}
use Rattle.sf_core.proofs.Coupled.{walks_on, moved_keeps, moved_writers, reset_keeps, reset_writers}
use Rattle.sf_core.proofs.Ledgers.{Follows, ledger_follows}
use Rattle.sf_core.proofs.Ledgers.Follows.{Stays, Goes}
use Rattle.sf_core.proofs.Histories.{IsWritten, is_undecided, history_changed}
use Rattle.sf_core.proofs.Recorded.{let_go_keeps}

-- the call is at a later stage with the same reply, or its reply was pending and it is removed
pub data IsKept (c : Call) : Option Call → Type 0 where
  Same : (d : Call) → waiting_reply d ≡ waiting_reply c → ((g : Reply) → did d g ≡ did c g) → IsKept c (Some d)
  Fetch : (g : Reply) → waiting_reply c ≡ Some g → IsKept c None

module _ (p q : PartsView) (h : List Record) (is : IsHistory (core_of p) h) (n : ℕ) (c : Call) (now : Option Call) (calls : Updates p.calls q.calls n (Some c) now) (kept : IsKept c now)
    (slot : Option ℕ) (sessions : Updates p.sessions q.sessions c.session (Some (Some n)) (Some slot))
    (keeps : Keeps q.store (replay h)) (book : q.book ≡ p.book) (drawn : q.drawn ≡ p.drawn) (joins : q.joins ≡ p.joins) where
  one_kept : (o : Option Call) → IsKept c o → one_by is_undecided o ≡ one_by is_undecided (Some c)
  one_kept o (Same d reply same) = ap (λ (x : Option Reply). one_if (is_none x)) reply
  one_kept o (Fetch g is) = sym (ap (λ (x : Option Reply). one_if (is_none x)) is)

  pub as_many : undecided_in q.calls ≡ undecided_in p.calls
  as_many = let a = calls.passes is_undecided in let b = one_kept now kept in omega (arith, a, b)

  was_by : (o : Option Call) → IsKept c o → (d : Call) → o ≡ Some d → (waiting_reply d ≡ waiting_reply c) × ((g : Reply) → did d g ≡ did c g)
  was_by o (Same d reply same) e at = let f = some_eq d e at in subst (λ (x : Call). (waiting_reply x ≡ waiting_reply c) × ((g : Reply) → did x g ≡ did c g)) f (reply, same)
  was_by o (Fetch g is) e at = absurd (none_some e at)

  pub history_kept : IsHistory (core_of q) h
  history_kept =
      history_changed p q h h is n c.session (Some c) now (Some (Some n)) (Some slot) calls sessions is.legal
      (subst (λ (b : BookView). IsWritten b h) (sym book) (record { records = is.records; folded = is.folded })) keeps (let a = is.counted in omega (arith, a, drawn, as_many)) (λ r a. a) (λ m ne k. k)
      (λ d e none. is.undecided n c calls.was_is (sym (was_by now kept d e).0 ∙ none))
      (λ d g e some. let w = was_by now kept d e in subst (λ (r : Record). IsAmong r h) (sym (w.1 g)) (is.decided n c g calls.was_is (sym w.0 ∙ some)))
      (λ m less. is.later m (omega (arith, less, drawn))) (λ s ne k. k) (λ o e. is.sessions c.session (Some n) sessions.was_is) (λ s less. is.newcomers s (omega (arith, less, joins)))
      (let a = is.few in let b = sessions.size in omega (arith, a, b))

module _ (p q : PartsView) (h : List Record) (sound : Sound p h) (n : ℕ) (c : Call) (now : Option Call) (slot : Option ℕ) (calls : Updates p.calls q.calls n (Some c) now)
    (sessions : Updates p.sessions q.sessions c.session (Some (Some n)) (Some slot)) (kept : IsKept c now) (follows : Follows c n now slot)
    (keeps : Keeps q.store (replay h)) (book : q.book ≡ p.book) (drawn : q.drawn ≡ p.drawn) (joins : q.joins ≡ p.joins) (coupled : Coupled q) (copied : Copied q) where
  pub unrecorded : Sound q h
  unrecorded = record {
    history = history_kept p q h sound.history n c now calls kept slot sessions keeps book drawn joins;
    coupled = coupled;
    copied = copied;
    ledger =
        ledger_follows p q sound.ledger n c now slot calls sessions follows drawn joins
        (let a = sound.ledger.room in
        let b = ap (λ (x : BookView). x.room) book in
        let d = as_many p q h sound.history n c now calls kept slot sessions keeps book drawn joins in
        let e = sessions.size in
        omega (arith, a, b, d, e));
  }

-- ---- only the store and the book change
module _ (p : PartsView) (h : List Record) (sound : Sound p h) (s : StoreState) (b : BookView) (records : b.records ≡ p.book.records) (keep : b.keep ≡ p.book.keep) (folded : b.folded ≡ p.book.folded) (room : p.book.room ≤ b.room)
    (tree : Keeps s (replay h)) (walks : AreWalks (walkers_at (namespace s) (held_paths_in p.calls) (walker_of s.nodes)))
    (copied : Copied (record { store = s; book = b; sessions = p.sessions; calls = p.calls; drawn = p.drawn; joins = p.joins })) where
  pub calls_stay : Sound (record { store = s; book = b; sessions = p.sessions; calls = p.calls; drawn = p.drawn; joins = p.joins }) h
  calls_stay = let is = sound.history in let l = sound.ledger in record {
    history = record {
      legal = is.legal;
      records = records ∙ is.records ∙ ap (λ (k : Option ℕ). kept_of k h) (sym keep);
      folded = folded ∙ is.folded ∙ ap (λ (k : Option ℕ). count_by is_call (gone_of k h)) (sym keep);
      tree = tree;
      counted = is.counted;
      undecided = is.undecided;
      decided = is.decided;
      later = is.later;
      sessions = is.sessions;
      newcomers = is.newcomers;
      few = is.few;
    };
    coupled = record { walks = walks; positions = sound.coupled.positions; waiting = sound.coupled.waiting };
    copied = copied;
    ledger = record {
      calls = l.calls;
      sessions = l.sessions;
      room = let a = l.room in omega (arith, a, room);
      drawn_fits = l.drawn_fits;
      joins_fit = l.joins_fit;
      calls_rise = l.calls_rise;
      sessions_rise = l.sessions_rise;
    };
  }

-- there is more room
pub roomy : (p q : PartsView) (h : List Record) → Sound p h → SameButRoom p q → Sound q h
roomy p q h sound same =
    subst (λ (x : PartsView). Sound x h) (λ i. record { store = sym same.store i; book = q.book; sessions = sym same.sessions i; calls = sym same.calls i; drawn = sym same.drawn i; joins = sym same.joins i })
    (calls_stay p h sound p.store q.book (ap (λ (b : BookView). b.records) same.book) (ap (λ (b : BookView). b.keep) same.book) (ap (λ (b : BookView). b.folded) same.book) same.more sound.history.tree sound.coupled.walks
    (copied_same p (record { store = p.store; book = q.book; sessions = p.sessions; calls = p.calls; drawn = p.drawn; joins = p.joins }) sound.copied refl refl))

-- lookups were made
pub looked_sound : (p : PartsView) (h : List Record) → Sound p h → (s : StoreState) (most : ℕ) → LookedUp p.store s most → IsSameGround p.store s
    → Sound (record { store = s; book = p.book; sessions = p.sessions; calls = p.calls; drawn = p.drawn; joins = p.joins }) h
looked_sound p h sound s most looked ground =
    calls_stay p h sound s p.book refl refl refl (omega arith) (keeps_counted p.store s (replay h) most looked sound.history.tree)
    (subst (λ (ns : List (Option Node)). AreWalks (walkers_at (namespace s) (held_paths_in p.calls) (walker_of ns))) (sym (looked_nodes p.store s most looked))
    (walks_on (namespace p.store) (namespace s) (held_paths_in p.calls) (walker_of p.store.nodes) (leads_same p.store s ground) sound.coupled.walks))
    (let files = files_looked p.store s most looked in
    copied_on p (record { store = s; book = p.book; sessions = p.sessions; calls = p.calls; drawn = p.drawn; joins = p.joins }) sound.copied (λ m. refl) (λ m c node left at is. at) files.0 files.1)

-- ---- a call reaches another stage
module _ (p : PartsView) (h : List Record) (sound : Sound p h) (c : Call) (at : call_at p.calls c.number ≡ Some c) (undecided : waiting_reply c ≡ None) (s : StoreState) (after : Stage) where
  abbrev q : PartsView
  q = record { store = s; book = p.book; sessions = p.sessions; calls = staged p.calls c.number after; drawn = p.drawn; joins = p.joins }

  staged_updates : Updates p.calls (staged p.calls c.number after) c.number (Some c) (Some (at_stage after c))
  staged_updates = updates_staged p.calls c.number c after at

  pub held_paths_other : (m : ℕ) → c.number ≢ m → held_paths_in (staged p.calls c.number after) m ≡ held_paths_in p.calls m
  held_paths_other m ne = ap (λ (o : Option Call). option_map_or held_paths_at o []) (staged_updates.rest m (λ e. ne (sym e)))

  pub held_paths_now : held_paths_in (staged p.calls c.number after) c.number ≡ held_paths_of (route_of c.request) after
  held_paths_now = ap (λ (o : Option Call). option_map_or held_paths_at o []) staged_updates.now_is

  pub held_paths_were : held_paths_in p.calls c.number ≡ held_paths_of (route_of c.request) c.stage
  held_paths_were = ap (λ (o : Option Call). option_map_or held_paths_at o []) at

  now_is : (m : ℕ) (d : Call) → m ≡ c.number → call_at (staged p.calls c.number after) m ≡ Some d → at_stage after c ≡ d
  now_is m d e is = some_eq (at_stage after c) d (sym staged_updates.now_is ∙ ap (call_at (staged p.calls c.number after)) (sym e) ∙ is)

  pub come_sound : Keeps s (replay h) → AreWalks (walkers_at (namespace s) (held_paths_in (staged p.calls c.number after)) (walker_of s.nodes)) → IsPosition (route_of c.request) after → SameFiles p.store s → ((id : ℕ) → writer_of_file s.nodes id ≡ writer_of_file p.store.nodes id)
      → Sound (record { store = s; book = p.book; sessions = p.sessions; calls = staged p.calls c.number after; drawn = p.drawn; joins = p.joins }) h
  come_sound keeps walks position files writers =
      let call = sound.ledger.calls c.number c at in
      unrecorded p q h sound c.number c (Some (at_stage after c)) (Some c.number) staged_updates (updates_none p.sessions c.session (Some c.number) call.session)
      (Same (at_stage after c) (staged_reply c after) (λ g. refl)) (Stays (at_stage after c) (record { number = refl; session = refl; moment = refl; request = refl }) (λ e. call.copied undecided))
      keeps refl refl refl (record {
        walks = walks;
        positions = λ m d is none. elim (same_or_not m c.number) [
          | inl e ↦ subst (λ (x : Call). IsPosition (route_of x.request) x.stage) (now_is m d e is) position
          | inr ne ↦ sound.coupled.positions m d (sym (staged_updates.rest m ne) ∙ is) none
        ];
        waiting = λ m d g is some. elim (same_or_not m c.number) [
          | inl e ↦ absurd (none_some g (sym undecided ∙ sym (staged_reply c after) ∙ ap waiting_reply (now_is m d e is) ∙ some))
          | inr ne ↦ sound.coupled.waiting m d g (sym (staged_updates.rest m ne) ∙ is) some
        ];
      })
      (let was = none_copied (route_of c.request) c.stage (sound.coupled.positions c.number c at undecided) in
      let now = none_copied (route_of c.request) after position in
      copied_on p q sound.copied (same_copying p.calls (staged p.calls c.number after) c.number (Some c) (Some (at_stage after c)) staged_updates was now)
      (λ m d node left there is. (still_copying p.calls (staged p.calls c.number after) c.number (Some c) (Some (at_stage after c)) staged_updates was now m d node left there is).1) files writers)

-- a lookup keeps the tree that the store represents
entered_keeps : (at : Stage) (s : StoreState) (t : Tree) → Keeps s t → Keeps (entered at s) t
entered_keeps stage.Fresh s t k = k
entered_keeps _ s t k = keeps_looked s t k

module _ (p : PartsView) (h : List Record) (sound : Sound p h) (c : Call) (at : call_at p.calls c.number ≡ Some c) (undecided : waiting_reply c ≡ None) where
  files : (s : StoreState) (after : Stage) → AdvancesTo p.store s (walker c.number (route_of c.request) c.stage) after → SameFiles p.store s
  files s after moves = subst (SameFiles p.store) (sym moves.state) (files_moved c.number c.stage after moves.held_path.node p.store)

  -- a step
  pub moved_sound : (s : StoreState) (after : Stage) → AdvancesTo p.store s (walker c.number (route_of c.request) c.stage) after
      → Sound (record { store = s; book = p.book; sessions = p.sessions; calls = staged p.calls c.number after; drawn = p.drawn; joins = p.joins }) h
  moved_sound s after moves =
      come_sound p h sound c at undecided s after
      (subst (λ (x : StoreState). Keeps x (replay h)) (sym moves.state)
      (let_go_keeps (nodes_of after) (nodes_of c.stage) (edited (with_holder (Some c.number)) (entered c.stage p.store) moves.held_path.node) (replay h)
      (keeps_held (Some c.number) (entered c.stage p.store) (replay h) moves.held_path.node (entered_keeps c.stage p.store (replay h) sound.history.tree))))
      (moved_keeps p.store s h sound.history.tree (held_paths_in p.calls) sound.coupled.walks (walker c.number (route_of c.request) c.stage) after (held_paths_were p h sound c at undecided s after) (sound.coupled.positions c.number c at undecided) moves
      (held_paths_in (staged p.calls c.number after)) (held_paths_now p h sound c at undecided s after) (held_paths_other p h sound c at undecided s after))
      moves.position (files s after moves)
      (moved_writers p.store s h sound.history.tree (held_paths_in p.calls) sound.coupled.walks (walker c.number (route_of c.request) c.stage) after (held_paths_were p h sound c at undecided s after) (sound.coupled.positions c.number c at undecided) moves
      (files s after moves))

  -- starting again: the call has a route
  pub reset_sound : IsPosition (route_of c.request) stage.Fresh
      → Sound (record { store = freed c.stage p.store; book = p.book; sessions = p.sessions; calls = staged p.calls c.number stage.Fresh; drawn = p.drawn; joins = p.joins }) h
  reset_sound start =
      let s = freed c.stage p.store in
      come_sound p h sound c at undecided s stage.Fresh (let_go_keeps [] (nodes_of c.stage) p.store (replay h) sound.history.tree)
      (reset_keeps p.store (held_paths_in p.calls) (held_paths_in (staged p.calls c.number stage.Fresh)) c.number sound.coupled.walks (record {
        route = route_of c.request;
        at = c.stage;
        position = sound.coupled.positions c.number c at undecided;
        was = held_paths_were p h sound c at undecided s stage.Fresh;
        none = held_paths_now p h sound c at undecided s stage.Fresh;
        same = held_paths_other p h sound c at undecided s stage.Fresh;
      }))
      start (files_let_go [] (nodes_of c.stage) p.store)
      (reset_writers p.store (held_paths_in p.calls) c.number (route_of c.request) c.stage sound.coupled.walks (sound.coupled.positions c.number c at undecided) (held_paths_were p h sound c at undecided s stage.Fresh))

  -- a blocked call waits for a directory that another call holds, which its next components lead
  -- to; or for a file that another call is copying into
  pub blocked_wants : (new : StoreState) (holder : ℕ) → (waits : WaitsFor p.store new (walker c.number (route_of c.request) c.stage) holder)
      → ((held_path : HeldPath) × LooksUp (route_of c.request) c.stage held_path.path × (walk (child_of p.store.nodes) p.store.root held_path.path ≡ Some held_path.node)
      × (holder_of p.store.nodes held_path.node ≡ Some holder) × Holds (held_paths_in p.calls holder) held_path)
      ⊎ ((d : Call) × (left : ℕ) × (call_at p.calls holder ≡ Some d) × (d.stage ≡ stage.Copies waits.node left))
  blocked_wants new holder waits =
      elim (is_directory_at p.store.nodes waits.node) as (λ b. is_directory_at p.store.nodes waits.node ≡ b → ((held_path : HeldPath) × LooksUp (route_of c.request) c.stage held_path.path × (walk (child_of p.store.nodes) p.store.root held_path.path ≡ Some held_path.node)
      × (holder_of p.store.nodes held_path.node ≡ Some holder) × Holds (held_paths_in p.calls holder) held_path)
      ⊎ ((d : Call) × (left : ℕ) × (call_at p.calls holder ≡ Some d) × (d.stage ≡ stage.Copies waits.node left))) [
        | true ↦ λ e.
            let w = sound.coupled.walks.holds waits.node holder (walker_is p.store.nodes waits.node holder e waits.held) in
            let leads = sound.coupled.walks.leads holder w.held_path w.holds in
            let same : waits.to ≡ w.held_path.path = one_way p.store (replay h) sound.history.tree waits.to w.held_path.path waits.node waits.leads (leads.names ∙ ap Some w.node)
            (ap (is_directory_at p.store.nodes) (sym w.node) ∙ leads.directory) in
            inl (
              w.held_path,
              subst (λ (x : Path). LooksUp (route_of c.request) c.stage x) same waits.looks,
              leads.names,
              (walker_holds p.store.nodes w.held_path.node holder (sound.coupled.walks.held holder w.held_path w.holds)).1,
              w.holds,
            )
        | false ↦ λ e. inr (file_writer p.store p.calls sound.copied.copies waits.node holder (file_there p.store.nodes waits.node holder e waits.held))
      ] refl

-- ---- a pending reply is fetched
module _ (p q : PartsView) (h : List Record) (sound : Sound p h) (c : Call) (at : call_at p.calls c.number ≡ Some c) (given : Reply) (decided : waiting_reply c ≡ Some given) (fresh : c.stage ≡ stage.Fresh) (fetched : FetchState p q c.session c.number) where
  busy : session_at p.sessions c.session ≡ Some (Some c.number)
  busy = (sound.ledger.calls c.number c at).session

  calls_now : Updates p.calls q.calls c.number (Some c) None
  calls_now = subst (λ cs. Updates p.calls cs c.number (Some c) None) (sym fetched.calls) (updates_removed p.calls c.number c at sound.ledger.calls_rise)

  held_nothing : held_paths_in p.calls c.number ≡ []
  held_nothing = ap (λ (o : Option Call). option_map_or held_paths_at o []) at ∙ ap (held_paths_of (route_of c.request)) fresh

  held_paths_same : (m : ℕ) → held_paths_in q.calls m ≡ held_paths_in p.calls m
  held_paths_same m = elim (same_or_not m c.number) [
    | inl e ↦ ap (held_paths_in q.calls) e ∙ ap (λ (o : Option Call). option_map_or held_paths_at o []) calls_now.now_is ∙ sym held_nothing ∙ ap (held_paths_in p.calls) (sym e)
    | inr ne ↦ ap (λ (o : Option Call). option_map_or held_paths_at o []) (calls_now.rest m ne)
  ]

  still : (m : ℕ) (d : Call) → call_at q.calls m ≡ Some d → call_at p.calls m ≡ Some d
  still m d is = elim (same_or_not m c.number) [
    | inl e ↦ absurd (none_some d (sym calls_now.now_is ∙ ap (call_at q.calls) (sym e) ∙ is))
    | inr ne ↦ sym (calls_now.rest m ne) ∙ is
  ]

  pub fetched_sound : Sound q h
  fetched_sound =
      unrecorded p q h sound c.number c None None calls_now
      (subst (λ ss. Updates p.sessions ss c.session (Some (Some c.number)) (Some None)) (sym (fetched.sessions ∙ ap (session_set_by p.sessions c.session None) busy)) (updates_set p.sessions c.session (Some c.number) busy None))
      (Fetch given decided) Goes (subst (λ (s : StoreState). Keeps s (replay h)) (sym fetched.store) sound.history.tree) fetched.book fetched.drawn fetched.joins
      (record {
        walks =
            subst (λ (s : StoreState). AreWalks (walkers_at (namespace s) (held_paths_in q.calls) (walker_of s.nodes))) (sym fetched.store)
            (subst (λ (f : ℕ → List HeldPath). AreWalks (walkers_at (namespace p.store) f (walker_of p.store.nodes))) (λ i m. sym (held_paths_same m) i) sound.coupled.walks);
        positions = λ m d is. sound.coupled.positions m d (still m d is);
        waiting = λ m d g is some. sound.coupled.waiting m d g (still m d is) some;
      })
      (copied_still p q c.number sound.copied (record { was = Some c; now = None; calls = calls_now; was_none = ap copying_at fresh; now_none = refl; store = fetched.store }))
