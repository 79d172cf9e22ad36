-- The first step of a WRITE of several blocks: its record is written, and copying continues.
use Rattle.std.specs.Prelude.{◌≡◌, ◌≢◌, ℕ, true, List, [], ◌∷◌, ◌++◌, option_map, Option, Some, None, refl}
use Rattle.std.specs.Option.{option_map_or}
use Rattle.std.proofs.Common.{sym, ap, subst, ◌∙◌, inl, inr, arith}
use Rattle.sf_reply.specs.declared.reply.Reply.{Reply}
use Rattle.sf_book.specs.Books.{put}
use Rattle.sf_call.specs.declared.call.Call.{Call}
use Rattle.sf_call.specs.declared.call.Stage.{Stage}
use Rattle.sf_call.specs.declared.call.Stage.TheVariants as stage
use Rattle.sf_call.specs.declared.record.Record.{Record}
use Rattle.sf_call.specs.declared.request.Request.TheVariants as request
use Rattle.sf_call.specs.Requests.{target_of}
use Rattle.sf_call.specs.Tree.{Tree}
use Rattle.sf_call.specs.Calls.{answer_to}
use Rattle.sf_call.specs.Histories.{after, replay, IsNewNumber}
use Rattle.sf_call.specs.Unanswered.{at_stage, staged, answered, with_reply}
use Rattle.sf_inode.specs.declared.node.Node.{Node}
use Rattle.sf_inode.specs.Nodes.{blocks_left_in, with_content, with_left, with_holder}
use Rattle.sf_inode.specs.Stores.{StoreState, node_in, open_handle_at, is_file_at, blocks_left_at, left_set, edited}
use Rattle.sf_keeps.specs.Keeps.{view_of, Keeps}
use Rattle.sf_call.proofs.Laws.{after_told, replay-push}
use Rattle.sf_keeps.proofs.Laws.{shows_one, keeps_held, keeps_left, edited_apart, edited_itself, left_there, left_holders}
use Rattle.sf_copying.specs.Copies.{copying}
use Rattle.sf_copying.proofs.Laws.{starts_keeps}
use Rattle.sf_walk.specs.declared.files.Copying.{Copying}
use Rattle.sf_walk.specs.declared.finding.Located.TheVariants.{NoWay}
use Rattle.sf_walk.specs.Files.{StartsWriting, IsWriteRequest, IsSettled, file_handle}
use Rattle.sf_walk.specs.Served.{IsCarriedOut, NodesStay}
use Rattle.sf_walk.proofs.Laws.{IsSameGround, same_trans, same_held, holder_here}
use Rattle.sf_core.specs.Cores.{call_at}
use Rattle.sf_core.specs.Progress.{waiting_reply, did}
use Rattle.sf_core.specs.Parts.{PartsView}
use Rattle.sf_core.specs.Sound.{writer_of_file, copying_scene, IsWriting, IsCallOf, Sound}
use Rattle.sf_core.specs.Stepping.{HelpState, freed}
use Rattle.sf_core.specs.Writing.{WriteState}
use Rattle.sf_core.proofs.Maps.{no_value, staged_reply, some_eq, reply_is}
use Rattle.sf_core.proofs.Updates.{updates_answered, updates_staged}
use Rattle.sf_core.proofs.CopySteps.{is_a_write, is_file, stays_started}
use Rattle.sf_core.proofs.Writers.{copied_by, files_held, opens_same, writer_is}
use Rattle.sf_core.proofs.SparedFiles.{file_node, file_writer, copying_is}
use Rattle.sf_core.proofs.Spared.{label_by_handle}
use Rattle.sf_core.proofs.Recorded.{helped_sound}
use Rattle.sf_core.proofs.BlockSteps.{ground_left, file_left, rest_sound, changes_by}

same_sym : (s t : StoreState) → IsSameGround s t → IsSameGround t s
same_sym s t g = record { step = λ x n. sym (g.step x n); root = sym g.root; directory = λ x. sym (g.directory x) }

module _ (p q : PartsView) (h : List Record) (sound : Sound p h) (c : Call) (at : call_at p.calls c.number ≡ Some c) (undecided : waiting_reply c ≡ None) (fresh : c.stage ≡ stage.Fresh)
    (write : IsWriteRequest c.request) (settled : IsSettled p.store c.session c.request NoWay) (given : Reply) (into : Copying) (w : WriteState p q c c.number given into) where
  -- ---- the request, and the file that its handle opens
  pub is : (number : ℕ) × (offset : ℕ) × (bytes : List ℕ) × (c.request ≡ request.Write number offset bytes)
  is = is_a_write c.request write

  number_is : w.copied.number ≡ is.0
  number_is = some_eq w.copied.number is.0 (sym w.copied.by_handle ∙ ap file_handle is.3)

  abbrev file : ℕ
  file = w.copied.handle.node

  opens : open_handle_at w.mid c.session is.0 ≡ Some w.copied.handle
  opens = ap (open_handle_at w.mid c.session) (sym number_is) ∙ w.copied.opens

  pub opens_was : open_handle_at p.store c.session is.0 ≡ Some w.copied.handle
  opens_was = sym (opens_same p.store w.mid c.session is.0 w.begins.sessions) ∙ opens

  pub starts : StartsWriting p.store w.mid w.copied.handle is.1 is.2
  starts = w.begins.starts is.0 is.1 is.2 w.copied.handle is.3 opens_was

  left_was : blocks_left_at p.store.nodes w.copied.handle.node ≡ 0
  left_was = settled.by_handle is.0 w.copied.handle (ap file_handle is.3) opens_was

  file_mid : is_file_at w.mid.nodes w.copied.handle.node ≡ true
  file_mid = is_file w.mid w.copied.handle.node into.left w.copied.left w.copied.some

  pub call : IsCallOf p.sessions p.drawn c.number c
  call = sound.ledger.calls c.number c at

  pub new_number : IsNewNumber c.number h
  new_number = sound.history.undecided c.number c at undecided

  -- it succeeds: otherwise no block would remain
  pub carried : IsCarriedOut w.mid (replay h) (answer_to (replay h) c.session c.number c.moment c.request) given
  carried = elim (w.begins.served (replay h) sound.history.tree) [
    | inl e ↦
        let same = ap (λ (o : Option Node). option_map_or (λ (x : Node). blocks_left_in x.content) o 0) (e.alike.nodes w.copied.handle.node) in
        let left = w.copied.left in
        let some = w.copied.some in
        absurd (omega (arith, same, left, some, left_was))
    | inr e ↦ e
  ]

  -- ---- as if all of it had been written
  abbrev whole : StoreState
  whole = left_set w.mid w.copied.handle.node 0

  whole_starts : StartsWriting p.store (left_set w.mid w.copied.handle.node 0) w.copied.handle is.1 is.2
  whole_starts = record {
    others = λ i ne. edited_apart (with_content (with_left 0)) w.mid w.copied.handle.node i ne ∙ starts.others i ne;
    holder = left_holders 0 w.mid w.copied.handle.node w.copied.handle.node ∙ starts.holder;
    label = ap (option_map (λ (x : Node). x.label)) (edited_itself (with_content (with_left 0)) w.mid w.copied.handle.node) ∙ label_by (node_in w.mid.nodes w.copied.handle.node) ∙ starts.label;
    left = inl (left_there 0 w.mid w.copied.handle.node file_mid);
  }
    where
      label_by : (o : Option Node) → option_map (λ (x : Node). x.label) (option_map (with_content (with_left 0)) o) ≡ option_map (λ (x : Node). x.label) o
      label_by None = refl
      label_by (Some node) = refl

  whole_stays : NodesStay c.number p.store (left_set w.mid w.copied.handle.node 0)
  whole_stays = stays_started c.number p.store whole w.copied.handle is.1 is.2 left_was (left_there 0 w.mid w.copied.handle.node file_mid) whole_starts

  whole_carried : IsCarriedOut (left_set w.mid w.copied.handle.node 0) (replay h) (answer_to (replay h) c.session c.number c.moment c.request) given
  whole_carried = record { told = carried.told; tree = keeps_left 0 w.mid _ w.copied.handle.node carried.tree }

  one_tree : (t : Tree) → Keeps p.store t → IsCarriedOut (left_set w.mid w.copied.handle.node 0) t (answer_to t c.session c.number c.moment c.request) given
  one_tree t keeps = subst (λ (u : Tree). IsCarriedOut whole u (answer_to u c.session c.number c.moment c.request) given) (shows_one (view_of p.store) (replay h) t sound.history.tree.shows keeps.shows) whole_carried

  abbrev decided : PartsView
  decided = record { store = left_set w.mid w.copied.handle.node 0; book = put p.book (did c given); sessions = p.sessions; calls = answered p.calls c.number given; drawn = p.drawn; joins = p.joins }

  helps : HelpState p decided c c.number given
  helps = record {
    records = record {
      mid = whole;
      serves = record { served = λ t keeps _. inr (one_tree t keeps); sure = λ t keeps _ _. one_tree t keeps; nodes = whole_stays };
      store = sym (ap (λ (g : Stage). freed g whole) fresh);
      book = refl;
      drawn = refl;
      joins = refl;
    };
    look_ups = w.begins.look_ups;
    sessions = refl;
    calls = refl;
  }

  sound_decided : Sound decided (h ++ did c given ∷ [])
  sound_decided =
      helped_sound p decided h sound c at undecided given
      (λ path l holder leads held other.
      label_by_handle p.store whole h c.number c.session c.moment c.request given sound.history.legal call.above new_number sound.history.tree (inr whole_carried) whole_stays is.0 (ap target_of is.3) path)
      fresh helps

  -- ---- and then it copies
  abbrev d : Call
  d = with_reply given c

  at_d : call_at decided.calls c.number ≡ Some (with_reply given c)
  at_d = (updates_answered p.calls c.number c given at).now_is

  reply_d : waiting_reply (with_reply given c) ≡ Some given
  reply_d = reply_is (with_reply given c)

  abbrev held : StoreState
  held = edited (with_holder (Some c.number)) w.mid w.copied.handle.node

  file_whole : is_file_at (left_set w.mid w.copied.handle.node 0).nodes w.copied.handle.node ≡ true
  file_whole = file_left 0 w.mid w.copied.handle.node ∙ file_mid

  apart : (i : ℕ) → i ≢ w.copied.handle.node → node_in (edited (with_holder (Some c.number)) w.mid w.copied.handle.node).nodes i ≡ node_in (left_set w.mid w.copied.handle.node 0).nodes i
  apart i ne = edited_apart (with_holder (Some c.number)) w.mid w.copied.handle.node i ne ∙ sym (edited_apart (with_content (with_left 0)) w.mid w.copied.handle.node i ne)

  file_held : is_file_at (edited (with_holder (Some c.number)) w.mid w.copied.handle.node).nodes w.copied.handle.node ≡ true
  file_held = (files_held (Some c.number) w.mid w.copied.handle.node).file w.copied.handle.node ∙ file_mid

  free : writer_of_file (left_set w.mid w.copied.handle.node 0).nodes w.copied.handle.node ≡ None
  free = no_value (writer_of_file whole.nodes w.copied.handle.node) (λ m e.
      let f = file_writer whole decided.calls sound_decided.copied.copies w.copied.handle.node m e in
      let copies = copying_is decided.calls m f.0 w.copied.handle.node f.1 f.2 f.3 in
      let some = sound_decided.copied.copies.some m (copying w.copied.handle.node f.1) copies in
      let left = sound_decided.copied.copies.left m (copying w.copied.handle.node f.1) copies in
      let none = left_there 0 w.mid w.copied.handle.node file_mid in
      omega (arith, some, left, none))

  abbrev going : Stage
  going = stage.Copies w.copied.handle.node into.left

  sound_held : Sound (record { store = edited (with_holder (Some c.number)) w.mid w.copied.handle.node; book = put p.book (did c given); sessions = p.sessions; calls = staged (answered p.calls c.number given) c.number (stage.Copies w.copied.handle.node into.left); drawn = p.drawn; joins = p.joins }) (h ++ did c given ∷ [])
  sound_held =
      let there = file_node w.mid.nodes w.copied.handle.node file_mid in
      rest_sound decided (h ++ did c given ∷ []) sound_decided d at_d given reply_d (inl fresh) w.copied.handle.node file_whole held going
      (keeps_held (Some c.number) w.mid _ w.copied.handle.node keeps_mid)
      (same_trans whole w.mid held (same_sym w.mid whole (ground_left 0 w.mid w.copied.handle.node)) (same_held (Some c.number) w.mid w.copied.handle.node)) apart file_held refl (inr tt)
      (starts_keeps (copying_scene whole decided.calls) (copying_scene held (staged decided.calls c.number going)) c.number (copying w.copied.handle.node into.left) sound_decided.copied.copies (record {
        changes = changes_by decided d at_d w.copied.handle.node held going apart;
        was = ap copied_by at_d ∙ ap (λ (g : Stage). copied_by (Some (record d { stage = g }))) fresh;
        free = free;
        now = ap copied_by (updates_staged decided.calls c.number d going at_d).now_is;
        holds = writer_is held.nodes w.copied.handle.node c.number file_held (holder_here (Some c.number) w.mid w.copied.handle.node there.0 there.1);
        left = (files_held (Some c.number) w.mid w.copied.handle.node).left w.copied.handle.node ∙ w.copied.left;
        some = w.copied.some;
      }))
      (λ f k e. let same : w.copied.handle.node ≡ f = cc in subst (λ (x : ℕ). IsWriting held (at_stage going d) x) same (record {
        handle = is.0;
        offset = is.1;
        bytes = is.2;
        write = is.3;
        opened = w.copied.handle;
        opens = opens;
        leads = refl;
        given = given;
        decided = staged_reply d going ∙ reply_d;
      }))
    where
      keeps_mid : Keeps w.mid (replay (h ++ did c given ∷ []))
      keeps_mid =
          subst (λ (u : Tree). Keeps w.mid u) (sym (replay-push h (did c given)))
          (subst (λ (u : Tree). Keeps w.mid u) (sym (after_told (replay h) c.session c.number c.moment c.request) ∙ ap (λ (g : Reply). after (replay h) (did c g)) (sym carried.told)) carried.tree)

  pub written_sound : Sound q (h ++ did c given ∷ [])
  written_sound =
      subst (λ (x : PartsView). Sound x (h ++ did c given ∷ []))
      (λ i. record {
        store = sym (w.store ∙ ap (λ (k : ℕ). edited (with_holder (Some c.number)) w.mid k) w.copied.node) i;
        book = sym w.book i;
        sessions = sym w.sessions i;
        calls = sym (w.calls ∙ ap (λ (k : ℕ). staged (answered p.calls c.number given) c.number (stage.Copies k into.left)) w.copied.node) i;
        drawn = sym w.drawn i;
        joins = sym w.joins i;
      })
      sound_held
