-- A call's record is written: the history is extended, and the call is removed, or its reply is
-- pending.
use Rattle.std.specs.Prelude.{◌≡◌, ◌≢◌, ◌⊎◌, ℕ, Bool, true, false, if◌then◌else◌, List, [], ◌∷◌, ◌++◌, Option, Some, None, refl}
use Rattle.std.specs.Option.{option_map_or}
use Rattle.std.proofs.Common.{sym, ap, subst, ◌∙◌, inl, inr, arith}
use Rattle.sf_path.specs.Names.{Path}
use Rattle.sf_reply.specs.declared.reply.Reply.{Reply}
use Rattle.sf_call.specs.declared.call.Call.{Call}
use Rattle.sf_call.specs.declared.call.Stage.{Stage}
use Rattle.sf_call.specs.declared.call.Stage.TheVariants as stage
use Rattle.sf_call.specs.declared.record.Record.{Record}
use Rattle.sf_call.specs.Tree.{Tree, label_at}
use Rattle.sf_call.specs.Calls.{answer_to}
use Rattle.sf_call.specs.Histories.{after, replay, IsNewNumber, MayFollow}
use Rattle.sf_call.specs.declared.handle.Handle.{Handle}
use Rattle.sf_call.specs.Handles.{handle_in}
use Rattle.sf_laws.proofs.Laws.{others_handles}
use Rattle.sf_call.specs.Unanswered.{with_reply}
use Rattle.sf_call.proofs.Laws.{no_object, no_handle, after_told}
use Rattle.sf_book.specs.Books.{BookView}
use Rattle.sf_inode.specs.Nodes.{with_holder}
use Rattle.sf_inode.specs.declared.node.Node.{Node}
use Rattle.sf_inode.specs.Stores.{StoreState, node_in, child_of, is_directory_at, is_file_at, edited}
use Rattle.sf_keeps.specs.Steps.{walk}
use Rattle.sf_keeps.specs.Keeps.{Keeps}
use Rattle.sf_keeps.proofs.Laws.{keeps_held}
use Rattle.sf_coupling.specs.Walks.{Holds, IsNodeOf, walkers_at, AreWalks}
use Rattle.sf_coupling.proofs.Laws.{same_or_not}
use Rattle.sf_call.specs.Routes.{route_of}
use Rattle.sf_walk.specs.Routes.{nodes_of, held_paths_of, namespace}
use Rattle.sf_walk.proofs.Laws.{freed_hands}
use Rattle.sf_walk.specs.Steps.{is_one_of, let_go, free_unless}
use Rattle.sf_walk.specs.Served.{IsUnused, IsRefused, IsCarriedOut}
use Rattle.sf_core.specs.Cores.{call_at, session_at}
use Rattle.sf_core.specs.Progress.{waiting_reply, did}
use Rattle.sf_core.specs.Parts.{PartsView}
use Rattle.sf_core.specs.Sound.{walker_of, writer_of_file, held_paths_at, held_paths_in, IsCallOf, Copied, Sound}
use Rattle.sf_core.specs.Stepping.{session_set_by, Records, FinishState, HelpState}
use Rattle.sf_core.proofs.Maps.{reply_is, some_eq, none_some}
use Rattle.sf_core.proofs.Updates.{Updates, updates_set, updates_removed, updates_none, updates_answered}
use Rattle.sf_core.proofs.Spared.{keeps_after, directory_still}
use Rattle.sf_core.proofs.Writers.{SameFiles, copied_by, some_copied, no_directory, none_copied, same_copying, still_copying, files_let_go, writers_stay, writer_holds}
use Rattle.sf_core.proofs.SparedFiles.{file_kept, all_copied, node_there, file_node}
use Rattle.sf_core.proofs.Decided.{decided_keeps}
use Rattle.sf_core.proofs.Ledgers.{Follows, other_session, ledger_follows}
use Rattle.sf_core.proofs.Ledgers.Follows.{Stays, Goes}
use Rattle.sf_core.proofs.Histories.{IsLeft, fewer, history_recorded}
use Rattle.sf_core.proofs.Histories.IsLeft.{Gone, Waits}

-- releasing keeps the tree that the store represents
pub let_go_keeps : (kept nodes : List ℕ) (s : StoreState) (t : Tree) → Keeps s t → Keeps (let_go kept nodes s) t
let_go_keeps kept [] s t k = k
let_go_keeps kept (node ∷ nodes) s t k = let_go_keeps kept nodes (free_unless kept node s) t (by (is_one_of node kept))
  where
    by : (b : Bool) → Keeps (if b then s else edited (with_holder None) s node) t
    by true = k
    by false = keeps_held None s t node k

pub new_to : (p : PartsView) (h : List Record) (c : Call) → Sound p h → call_at p.calls c.number ≡ Some c → waiting_reply c ≡ None → IsUnused (replay h) c.number
new_to p h c sound at undecided =
    let call = sound.ledger.calls c.number c at in
    let fresh = sound.history.undecided c.number c at undecided in
    record {
      above = call.above;
      label = no_object h c.number sound.history.legal call.above fresh;
      handle = no_handle h c.number sound.history.legal call.above fresh;
    }

-- a decided call holds nothing
pub data HoldsNone : Option Call → Type 0 where
  Away : HoldsNone None
  Fresh : (d : Call) → d.stage ≡ stage.Fresh → HoldsNone (Some d)

none_held : (now : Option Call) → HoldsNone now → option_map_or held_paths_at now [] ≡ []
none_held now Away = refl
none_held now (Fresh d e) = ap (λ (g : Stage). held_paths_of (route_of d.request) g) e

module _ (p q : PartsView) (h : List Record) (sound : Sound p h) (c : Call) (given : Reply) (records : Records p q c given) (now : Option Call) (slot : Option ℕ)
    (calls : Updates p.calls q.calls c.number (Some c) now) (sessions : Updates p.sessions q.sessions c.session (Some (Some c.number)) (Some slot))
    (undecided : waiting_reply c ≡ None) (left : IsLeft c given now) (follows : Follows c c.number now slot) (away : HoldsNone now)
    (labels : (path : Path) (l holder : ℕ) → walk (child_of p.store.nodes) p.store.root path ≡ Some l → walker_of p.store.nodes l ≡ Some holder → c.number ≢ holder
    → label_at (after (replay h) (did c given)).names path ≡ label_at (replay h).names path) where
  at : call_at p.calls c.number ≡ Some c
  at = calls.was_is

  call : IsCallOf p.sessions p.drawn c.number c
  call = sound.ledger.calls c.number c at

  fresh : IsNewNumber c.number h
  fresh = sound.history.undecided c.number c at undecided

  served : IsRefused p.store records.mid (replay h) given ⊎ IsCarriedOut records.mid (replay h) (answer_to (replay h) c.session c.number c.moment c.request) given
  served = records.serves.served (replay h) sound.history.tree (new_to p h c sound at undecided)

  pub may_follow : MayFollow h (did c given)
  may_follow = record {
    is_call = call.is_call;
    above_zero = call.above;
    new_number = fresh;
    present = sound.history.sessions c.session (Some c.number) call.session;
    answered = elim served [ inl e ↦ inr e.told | inr e ↦ inl e.told ];
  }

  keeps_mid : Keeps records.mid (after (replay h) (did c given))
  keeps_mid = keeps_after p.store records.mid h c.number c.session c.moment c.request given sound.history.legal call.above fresh sound.history.tree served records.serves.nodes

  keeps_now : Keeps q.store (after (replay h) (did c given))
  keeps_now =
      subst (λ (s : StoreState). Keeps s (after (replay h) (did c given))) (sym records.store) (let_go_keeps [] (nodes_of c.stage) records.mid (after (replay h) (did c given)) keeps_mid)

  -- ---- the files that other calls copy into
  handles_stay : (other handle : ℕ) (x : Handle) → other ≢ c.session → handle_in (replay h) other handle ≡ Some x → handle_in (after (replay h) (did c given)) other handle ≡ handle_in (replay h) other handle
  handles_stay other handle x ne open' = elim served [
    | inl e ↦ ap (λ (g : Reply). handle_in (after (replay h) (did c g)) other handle) e.told
    | inr e ↦
        ap (λ (g : Reply). handle_in (after (replay h) (did c g)) other handle) e.told ∙ ap (λ (u : Tree). handle_in u other handle) (after_told (replay h) c.session c.number c.moment c.request)
        ∙ others_handles (replay h) c.session c.number other handle x ne (new_to p h c sound at undecided).handle open' c.moment c.request
  ]

  kinds_stay : (l : ℕ) (node : Node) → node_in records.mid.nodes l ≡ Some node → is_directory_at p.store.nodes l ≡ true → is_directory_at records.mid.nodes l ≡ true
  kinds_stay l node now_at dir =
      let was = node_there p.store.nodes l dir in
      directory_still p.store records.mid h c.number c.session c.moment c.request given sound.history.legal call.above fresh sound.history.tree served records.serves.nodes l was.0 node was.1 now_at dir

  none_was : copied_by (Some c) ≡ None
  none_was = none_copied (route_of c.request) c.stage (sound.coupled.positions c.number c at undecided)

  none_now : copied_by now ≡ None
  none_now = by now away
    where
      by : (o : Option Call) → HoldsNone o → copied_by o ≡ None
      by o Away = refl
      by o (Fresh d e) = ap (λ (g : Stage). copied_by (Some (record d { stage = g }))) e

  apart : (m : ℕ) (d : Call) (node left : ℕ) → call_at p.calls m ≡ Some d → d.stage ≡ stage.Copies node left → d.session ≢ c.session
  apart m d node left there is = other_session p sound.ledger c.number c at m d (λ e.
      some_copied c.stage node left (sym (ap (λ (y : Call). y.stage) (some_eq d c (sym there ∙ ap (call_at p.calls) e ∙ at))) ∙ is) none_was) there

  -- a file that is held stays one
  no_writer : (l m : ℕ) → writer_of_file p.store.nodes l ≡ Some m → is_directory_at records.mid.nodes l ≡ true → ⊥
  no_writer l m e dir =
      let kept = file_kept p.store records.mid (replay h) (after (replay h) (did c given)) c.number c.session sound.history.tree keeps_mid records.serves.nodes (new_to p h c sound at undecided).label
      handles_stay kinds_stay p.calls sound.copied.copies sound.copied.writing apart l m e in
      no_directory records.mid.nodes l (writer_holds records.mid.nodes l m kept.0).0 dir

  -- the call's inodes were directories
  no_own : (l : ℕ) → IsNodeOf (held_paths_of (route_of c.request) c.stage) l → is_file_at records.mid.nodes l ≡ true → ⊥
  no_own l own file =
      let held = sound.coupled.walks.leads c.number own.held_path (subst (λ (o : Option Call). Holds (option_map_or held_paths_at o []) own.held_path) (sym at) own.holds) in
      let dir : is_directory_at p.store.nodes l ≡ true = ap (is_directory_at p.store.nodes) (sym own.node) ∙ held.directory in
      let there = file_node records.mid.nodes l file in
      no_directory records.mid.nodes l file (kinds_stay l there.0 there.1 dir)

  writers_same : (l : ℕ) → writer_of_file q.store.nodes l ≡ writer_of_file records.mid.nodes l
  writers_same l =
      ap (λ (s : StoreState). writer_of_file s.nodes l) records.store
      ∙ writers_stay records.mid (let_go [] (nodes_of c.stage) records.mid) c.number (held_paths_of (route_of c.request) c.stage) [] (files_let_go [] (nodes_of c.stage) records.mid) (record { before = no_own; after = λ i own. absurd own.holds })
      (freed_hands (route_of c.request) c.stage (sound.coupled.positions c.number c at undecided) records.mid c.number) l

  copied_now : Copied q
  copied_now =
      all_copied p.store records.mid (replay h) (after (replay h) (did c given)) c.number c.session sound.history.tree keeps_mid records.serves.nodes (new_to p h c sound at undecided).label
      handles_stay kinds_stay p.calls sound.copied.copies sound.copied.writing apart p q refl
      (subst (λ (s : StoreState). SameFiles records.mid s) (sym records.store) (files_let_go [] (nodes_of c.stage) records.mid)) writers_same
      (same_copying p.calls q.calls c.number (Some c) now calls none_was none_now) (λ m d node left there is. (still_copying p.calls q.calls c.number (Some c) now calls none_was none_now m d node left there is).1)

  held_paths_now : held_paths_in q.calls c.number ≡ []
  held_paths_now = ap (λ (o : Option Call). option_map_or held_paths_at o []) calls.now_is ∙ none_held now away

  held_paths_other : (m : ℕ) → c.number ≢ m → held_paths_in q.calls m ≡ held_paths_in p.calls m
  held_paths_other m ne = ap (λ (o : Option Call). option_map_or held_paths_at o []) (calls.rest m (λ e. ne (sym e)))

  walks_now : AreWalks (walkers_at (namespace q.store) (held_paths_in q.calls) (walker_of q.store.nodes))
  walks_now =
      subst (λ (s : StoreState). AreWalks (walkers_at (namespace s) (held_paths_in q.calls) (walker_of s.nodes))) (sym records.store)
      (decided_keeps p.store records.mid h c.number c.session c.moment c.request given sound.history.legal call.above fresh sound.history.tree served records.serves.nodes labels no_writer
      c.stage (sound.coupled.positions c.number c at undecided) (held_paths_in p.calls) sound.coupled.walks (ap (λ (o : Option Call). option_map_or held_paths_at o []) at) (held_paths_in q.calls) held_paths_now held_paths_other)

  fresh_by : (o : Option Call) → HoldsNone o → now ≡ o → (d : Call) → o ≡ Some d → d.stage ≡ stage.Fresh
  fresh_by o Away e d is = absurd (none_some d is)
  fresh_by o (Fresh f is_fresh) e d is = ap (λ (x : Call). x.stage) (sym (some_eq f d is)) ∙ is_fresh

  waits_by : (o : Option Call) → IsLeft c given o → (d : Call) → o ≡ Some d → waiting_reply d ≡ Some given
  waits_by o Gone d is = absurd (none_some d is)
  waits_by o (Waits f reply same) d is = ap waiting_reply (sym (some_eq f d is)) ∙ reply

  now_by : (m : ℕ) (d : Call) → m ≡ c.number → call_at q.calls m ≡ Some d → now ≡ Some d
  now_by m d e is = sym calls.now_is ∙ ap (call_at q.calls) (sym e) ∙ is

  pub recorded : Sound q (h ++ did c given ∷ [])
  recorded = record {
    history =
        history_recorded p q h sound.history c given now calls undecided left slot sessions
        may_follow keeps_now records.book records.drawn records.joins call.most sound.ledger.drawn_fits;
    coupled = record {
      walks = walks_now;
      positions = λ m d is none. elim (same_or_not m c.number) [
        | inl e ↦ absurd (none_some given (sym none ∙ waits_by now left d (now_by m d e is)))
        | inr ne ↦ sound.coupled.positions m d (sym (calls.rest m ne) ∙ is) none
      ];
      waiting = λ m d g is some. elim (same_or_not m c.number) [
        | inl e ↦ inl (fresh_by now away refl d (now_by m d e is))
        | inr ne ↦ sound.coupled.waiting m d g (sym (calls.rest m ne) ∙ is) some
      ];
    };
    copied = copied_now;
    ledger =
        ledger_follows p q sound.ledger c.number c now slot calls sessions follows records.drawn records.joins
        (let a = sound.ledger.room in
        let b = ap (λ (x : BookView). x.room) records.book in
        let d = fewer p q h sound.history c given now calls undecided left slot sessions
        may_follow keeps_now records.book records.drawn records.joins call.most sound.ledger.drawn_fits in
        let e = sessions.size in
        omega (arith, a, b, d, e));
  }

-- ---- the two cases
module _ (p q : PartsView) (h : List Record) (sound : Sound p h) (c : Call) (at : call_at p.calls c.number ≡ Some c) (undecided : waiting_reply c ≡ None) (given : Reply)
    (labels : (path : Path) (l holder : ℕ) → walk (child_of p.store.nodes) p.store.root path ≡ Some l → walker_of p.store.nodes l ≡ Some holder → c.number ≢ holder
    → label_at (after (replay h) (did c given)).names path ≡ label_at (replay h).names path) where
  busy : session_at p.sessions c.session ≡ Some (Some c.number)
  busy = (sound.ledger.calls c.number c at).session

  -- it was answered: it is removed, and its session has no call
  pub finished : FinishState p q c c.number given → Sound q (h ++ did c given ∷ [])
  finished fin =
      recorded p q h sound c given fin.records None None
      (subst (λ cs. Updates p.calls cs c.number (Some c) None) (sym fin.calls) (updates_removed p.calls c.number c at sound.ledger.calls_rise))
      (subst (λ ss. Updates p.sessions ss c.session (Some (Some c.number)) (Some None)) (sym (fin.sessions ∙ ap (session_set_by p.sessions c.session None) busy)) (updates_set p.sessions c.session (Some c.number) busy None))
      undecided Gone Goes Away labels

  -- it was helped by another: its reply is pending
  pub helped_sound : c.stage ≡ stage.Fresh → HelpState p q c c.number given → Sound q (h ++ did c given ∷ [])
  helped_sound fresh help =
      recorded p q h sound c given help.records (Some (with_reply given c)) (Some c.number)
      (subst (λ cs. Updates p.calls cs c.number (Some c) (Some (with_reply given c))) (sym help.calls) (updates_answered p.calls c.number c given at))
      (subst (λ ss. Updates p.sessions ss c.session (Some (Some c.number)) (Some (Some c.number))) (sym help.sessions) (updates_none p.sessions c.session (Some c.number) busy))
      undecided (Waits (with_reply given c) (reply_is (with_reply given c)) refl) (Stays (with_reply given c) (record { number = refl; session = refl; moment = refl; request = refl }) (λ e. absurd (none_some given (sym e ∙ (reply_is (with_reply given c))))))
      (Fresh (with_reply given c) fresh) labels
