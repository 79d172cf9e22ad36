-- A session leaves.
use Rattle.std.specs.Prelude.{◌≡◌, ◌≢◌, ◌+◌, ◌-◌, ℕ, true, false, T, if◌then◌else◌, List, [], ◌∷◌, ◌++◌, slice_set, option_map, option_and_then, Option, Some, None, refl}
use Rattle.std.specs.Option.{option_map_or}
use Rattle.std.specs.Ordering.{nat_cmp}
use Rattle.std.specs.Map.{lookup, remove_entry}
use Rattle.std.specs.BTreeMap.{is_at}
use Rattle.std.specs.FinMap.{is_sorted}
use Rattle.std.specs.List.{count_by}
use Rattle.std.proofs.Common.{sym, ap, subst, ◌∙◌, arith}
use Rattle.sf_path.specs.Names.{Path}
use Rattle.sf_call.specs.declared.call.Call.{Call}
use Rattle.sf_call.specs.declared.record.Record.{Record}
use Rattle.sf_call.specs.declared.record.Record.TheVariants.{Left}
use Rattle.sf_call.specs.Tree.{Tree}
use Rattle.sf_call.specs.Histories.{replay, IsNewNumber, IsPresent, IsOther}
use Rattle.sf_call.specs.declared.handle.Handle.{Handle}
use Rattle.sf_call.specs.Handles.{handle_in}
use Rattle.sf_call.proofs.Laws.{replay-push, IsLegal-push, no_object}
use Rattle.sf_book.specs.Books.{BookView, is_call}
use Rattle.sf_inode.specs.declared.node.Node.{Node}
use Rattle.sf_inode.specs.declared.handle.OpenHandle.{OpenHandle}
use Rattle.sf_inode.specs.Nodes.{blocks_left_in, is_directory_content, with_opened, is_unused}
use Rattle.sf_inode.specs.Stores.{StoreState, node_in, child_of, open_handle_at, handles_of, is_directory_at, shown_handle, with_nodes, with_sessions, edited, released_if, after_close, each_let_go, closed_each, closed_all}
use Rattle.sf_keeps.specs.Steps.{walk}
use Rattle.sf_keeps.specs.Keeps.{Keeps, WasThere, KeepsNodes}
use Rattle.sf_keeps.proofs.Laws.{keeps_closed_all, nodes_kept, holder_kept, holder_was, directory_kept, way_kept, looks_kept}
use Rattle.sf_coupling.specs.Walks.{HeldPath, walkers_at, AreWalks}
use Rattle.sf_walk.specs.Routes.{namespace}
use Rattle.sf_walk.specs.Served.{NodesStay, IsAsBefore}
use Rattle.sf_core.specs.Cores.{call_at, session_at, lane_state_by}
use Rattle.sf_core.specs.Progress.{undecided_in}
use Rattle.sf_core.specs.Parts.{PartsView, core_of}
use Rattle.sf_core.specs.Sound.{walker_of, writer_of_file, copying_in, held_paths_in, Sound}
use Rattle.sf_core.specs.Stepping.{LeaveState}
use Rattle.sf_core.proofs.Maps.{some_eq, none_some, removed_other}
use Rattle.sf_core.proofs.Walkers.{walker_is, walker_holds}
use Rattle.sf_core.proofs.Writers.{SameFiles, files_itself}
use Rattle.sf_core.proofs.SparedFiles.{all_copied}
use Rattle.sf_core.proofs.Updates.{Updates, updates_removed, updates_nothing}
use Rattle.sf_core.specs.Events.{SessionLeaves}
use Rattle.sf_core.proofs.LaneStates.{slot_idle, slot_kept}
use Rattle.sf_core.proofs.Ledgers.{ledger_changed}
use Rattle.sf_core.proofs.Starting.{no_call, has_call}
use Rattle.sf_core.proofs.Histories.{IsWritten, written_put, history_changed, all_push, among_more}
use Rattle.sf_book.proofs.Laws.{call_count-append}

-- ---- lock coupling
module _ (old new : StoreState) (t u : Tree) (keeps : Keeps old t) (keeps' : Keeps new u) (nodes : KeepsNodes old new) (names : u.names ≡ t.names)
    (f : ℕ → List HeldPath) (walks : AreWalks (walkers_at (namespace old) f (walker_of old.nodes))) where
  still : (q : Path) (l : ℕ) → walk (child_of old.nodes) old.root q ≡ Some l → (walk (child_of new.nodes) new.root q ≡ Some l) × ((node : Node) × (node_in new.nodes l ≡ Some node))
  still = way_kept old new t u keeps keeps' nodes names

  same_kind : (l : ℕ) (node : Node) (o : Option Node) → node_in old.nodes l ≡ o → WasThere o node → is_directory_content node.content ≡ true → is_directory_at old.nodes l ≡ true
  same_kind l node None e h dir = absurd h
  same_kind l node (Some x) e h dir = ap (λ (o : Option Node). option_map_or (λ (y : Node). is_directory_content y.content) o false) e ∙ ap is_directory_content (sym h.2) ∙ dir

  -- what is a directory was a directory
  directory_was : (l : ℕ) (o : Option Node) → node_in new.nodes l ≡ o → option_map_or (λ (x : Node). is_directory_content x.content) o false ≡ true → is_directory_at old.nodes l ≡ true
  directory_was l None e dir = cc
  directory_was l (Some node) e dir = same_kind l node (node_in old.nodes l) refl (nodes.node l node e) dir

  pub walks_still : AreWalks (walkers_at (namespace new) f (walker_of new.nodes))
  walks_still = record {
    shaped = walks.shaped;
    leads = λ n s h. let w = walks.leads n s h in let e = still s.path s.node w.names in record { names = e.0; directory = directory_kept old new nodes s.node e.1.0 e.1.1 w.directory };
    held = λ n s h.
        let w = walks.leads n s h in
        let e = still s.path s.node w.names in
        walker_is new.nodes s.node n (directory_kept old new nodes s.node e.1.0 e.1.1 w.directory) (holder_kept old new nodes s.node e.1.0 e.1.1 ∙ (walker_holds old.nodes s.node n (walks.held n s h)).1);
    holds = λ l n at.
        let w = walker_holds new.nodes l n at in
        walks.holds l n (walker_is old.nodes l n (directory_was l (node_in new.nodes l) refl w.0) (holder_was old new nodes l n w.1));
    apart = walks.apart;
  }

-- ---- files
kept_by : (n : ℕ) (o : Option Node) (node : Node) → WasThere o node → IsAsBefore (λ holder label. (holder ≡ None) × (label ≡ n)) o node
kept_by n None node h = absurd h
kept_by n (Some x) node h = (h.0, h.1, ap blocks_left_in h.2)

-- no inode is new, for any number that a new one would have
stays_kept : (n : ℕ) (old new : StoreState) → KeepsNodes old new → NodesStay n old new
stays_kept n old new nodes = record { node = λ id node at. kept_by n (node_in old.nodes id) node (nodes.node id node at) }

released_sessions : (s : StoreState) (id : ℕ) (o : Option Node) → (released_if s id o).sessions ≡ s.sessions
released_sessions s id None = refl
released_sessions s id (Some node) = elim (is_unused node) as (λ b. (if b then with_nodes s (slice_set s.nodes id None) else s).sessions ≡ s.sessions) [ true ↦ refl | false ↦ refl ]

let_go_sessions : (s : StoreState) (id : ℕ) → (after_close s id).sessions ≡ s.sessions
let_go_sessions s id = let now = edited (λ node. with_opened (node.opens - 1) node) s id in released_sessions now id (node_in now.nodes id)

each_sessions : (handles : List (ℕ × OpenHandle)) (s : StoreState) → (each_let_go s handles).sessions ≡ s.sessions
each_sessions [] s = refl
each_sessions (e ∷ handles) s = each_sessions handles (after_close s e.1.node) ∙ let_go_sessions s e.1.node

-- the handles of other sessions are still open
handles_other : (s : StoreState) (session other handle : ℕ) → other ≢ session → T (is_sorted nat_cmp s.sessions) → open_handle_at (closed_all s session) other handle ≡ open_handle_at s other handle
handles_other s session other handle ne rise = by (handles_of s session)
  where
    by : (o : Option (List (ℕ × OpenHandle))) → open_handle_at (closed_each s session o) other handle ≡ open_handle_at s other handle
    by None = refl
    by (Some handles) =
        ap (λ (ss : List (ℕ × List (ℕ × OpenHandle))). option_and_then (λ (hs : List (ℕ × OpenHandle)). lookup (is_at (nat_cmp handle)) hs) (lookup (is_at (nat_cmp other)) ss))
        (each_sessions handles (with_sessions s (remove_entry (is_at (nat_cmp session)) s.sessions)))
        ∙ ap (option_and_then (λ (hs : List (ℕ × OpenHandle)). lookup (is_at (nat_cmp handle)) hs)) (removed_other s.sessions session other ne rise)

-- ---- the core
module _ (p q : PartsView) (h : List Record) (sound : Sound p h) (session : ℕ) (parted : LeaveState p q session) (idle : session_at p.sessions session ≡ Some None) where
  present : IsPresent session h
  present = sound.history.sessions session None idle

  tree_now : Keeps (closed_all p.store session) (replay (h ++ Left session ∷ []))
  tree_now = subst (λ (t : Tree). Keeps (closed_all p.store session) t) (sym (replay-push h (Left session))) (keeps_closed_all p.store (replay h) sound.history.tree session)

  handles_stay : (other handle : ℕ) (x : Handle) → other ≢ session → handle_in (replay h) other handle ≡ Some x → handle_in (replay (h ++ Left session ∷ [])) other handle ≡ handle_in (replay h) other handle
  handles_stay other handle x ne open' =
      tree_now.shows.by.handles other handle ∙ ap (option_map (shown_handle other)) (handles_other p.store session other handle ne sound.history.tree.sessions) ∙ sym (sound.history.tree.shows.by.handles other handle)

  sessions : Updates p.sessions q.sessions session (Some None) None
  sessions = subst (λ ss. Updates p.sessions ss session (Some None) None) (sym parted.sessions) (updates_removed p.sessions session None idle sound.ledger.sessions_rise)

  calls : Updates p.calls q.calls (p.drawn + 1) None None
  calls = subst (λ cs. Updates p.calls cs (p.drawn + 1) None None) (sym parted.calls) (updates_nothing p.calls (p.drawn + 1) (no_call p sound.ledger))

  still_call : (m : ℕ) (d : Call) → call_at q.calls m ≡ Some d → call_at p.calls m ≡ Some d
  still_call m d at = ap (λ cs. call_at cs m) (sym parted.calls) ∙ at

  new_after : (m : ℕ) → IsNewNumber m h → IsNewNumber m (h ++ Left session ∷ [])
  new_after m k = all_push (IsOther m) h (Left session) k tt

  present_after : (s : ℕ) → s ≢ session → IsPresent s h → IsPresent s (h ++ Left session ∷ [])
  present_after s ne k = all_push (λ (x : Record). x ≢ Left s) h (Left session) k (λ e. let same : session ≡ s = cc in ne (sym same))

  as_many : undecided_in q.calls ≡ undecided_in p.calls
  as_many = ap (λ cs. undecided_in cs) parted.calls

  counted_now : q.drawn ≡ count_by is_call (h ++ Left session ∷ []) + undecided_in q.calls
  counted_now = let a = sound.history.counted in let b = parted.drawn in omega (arith, a, b, as_many, call_count-append h (Left session ∷ []))

  pub left_sound : Sound q (h ++ Left session ∷ [])
  left_sound = let is = sound.history in record {
    history =
        history_changed p q h (h ++ Left session ∷ []) is (p.drawn + 1) session None None (Some None) None calls sessions (IsLegal-push h (Left session) is.legal present)
        (subst (λ (b : BookView). IsWritten b (h ++ Left session ∷ [])) (sym parted.book)
        (written_put p.book h (Left session) (record { records = is.records; folded = is.folded }) (let a = counted_now in let b = parted.drawn in let d = sound.ledger.drawn_fits in omega (arith, a, b, d))))
        (subst (λ (s : StoreState). Keeps s (replay (h ++ Left session ∷ []))) (sym parted.store) tree_now) counted_now (λ r a. among_more r h (Left session ∷ []) a) (λ m ne k. new_after m k)
        (λ d e none. absurd (none_some d e)) (λ d g e some. absurd (none_some d e)) (λ m less. let d = parted.drawn in new_after m (is.later m (omega (arith, less, d)))) present_after (λ o e. absurd (none_some o e))
        (λ s less.
        let d = parted.joins in
        let m = (sound.ledger.sessions session None idle).most in
        present_after s (λ e. absurd (omega (arith, m, less, d, e))) (is.newcomers s (omega (arith, less, d))))
        (let a = is.few in let b = sessions.size in omega (arith, a, b));
    coupled = record {
      walks =
          subst (λ (s : StoreState). AreWalks (walkers_at (namespace s) (held_paths_in q.calls) (walker_of s.nodes))) (sym parted.store)
          (subst (λ cs. AreWalks (walkers_at (namespace (closed_all p.store session)) (held_paths_in cs) (walker_of (closed_all p.store session).nodes))) (sym parted.calls)
          (walks_still p.store (closed_all p.store session) (replay h) (replay (h ++ Left session ∷ [])) is.tree tree_now (nodes_kept p.store session) (ap (λ (t : Tree). t.names) (replay-push h (Left session))) (held_paths_in p.calls)
          sound.coupled.walks));
      positions = λ m d at. sound.coupled.positions m d (still_call m d at);
      waiting = λ m d g at some. sound.coupled.waiting m d g (still_call m d at) some;
    };
    copied =
        let nodes = nodes_kept p.store session in
        let fresh = is.later (p.drawn + 1) (omega arith) in
        all_copied p.store (closed_all p.store session) (replay h) (replay (h ++ Left session ∷ [])) (p.drawn + 1) session is.tree tree_now (stays_kept (p.drawn + 1) p.store (closed_all p.store session) nodes)
        (no_object h (p.drawn + 1) is.legal (omega arith) fresh) handles_stay (λ l node at dir. directory_kept p.store (closed_all p.store session) nodes l node at dir)
        p.calls sound.copied.copies sound.copied.writing
        (λ m d node left at copies e. none_some m (some_eq None (Some m) (sym idle ∙ ap (session_at p.sessions) (sym e) ∙ (sound.ledger.calls m d at).session)))
        p q refl (subst (SameFiles (closed_all p.store session)) (sym parted.store) (files_itself (closed_all p.store session))) (λ f. ap (λ (s : StoreState). writer_of_file s.nodes f) parted.store)
        (λ m. ap (λ cs. copying_in cs m) parted.calls) (λ m d node left at copies. still_call m d at);
    ledger =
        ledger_changed p q sound.ledger (p.drawn + 1) session None None (Some None) None calls sessions
        (λ m d ne at e. none_some m (some_eq None (Some m) (sym idle ∙ ap (session_at p.sessions) (sym e) ∙ (sound.ledger.calls m d at).session)))
        (has_call p sound.ledger session)
        (λ d is. absurd (none_some d is)) (λ o is. absurd (none_some o is))
        (let a = parted.drawn in omega (arith, a)) (let a = parted.joins in omega (arith, a)) (let a = sound.ledger.drawn_fits in let b = parted.drawn in omega (arith, a, b)) (let a = sound.ledger.joins_fit in let b = parted.joins in omega (arith, a, b))
        (let a = sound.ledger.room in let b = sessions.size in let d = ap (λ (x : BookView). x.room) parted.book in omega (arith, a, b, d, as_many));
  }

  pub left_told : SessionLeaves (core_of p) (core_of q) session
  left_told = record {
    idle = slot_idle (core_of p) session idle;
    own = ap (lane_state_by q.calls) sessions.now_is;
    others = λ s ne. slot_kept (core_of p) (core_of q) s (session_at p.sessions s) refl (sessions.rest s ne) (λ m e. ap (λ cs. call_at cs m) parted.calls);
    joined = let e = sessions.size in omega (arith, e);
    drawn = parted.drawn;
    joins = parted.joins;
    keep = ap (λ (b : BookView). b.keep) parted.book;
    look_ups = ap (λ (x : StoreState). x.look_ups) parted.store ∙ looks_kept p.store session;
  }
