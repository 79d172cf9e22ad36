-- A WRITE copies one more block, or all that remain: the core stays sound.
use Rattle.std.specs.Prelude.{◌≡◌, ◌≢◌, ◌+◌, ℕ, Bool, zero, suc, true, false, if◌then◌else◌, List, [], option_map, option_and_then, Option, Some, None, refl}
use Rattle.std.specs.Option.{option_map_or}
use Rattle.std.proofs.Common.{sym, ap, subst, ◌∙◌, inl, inr, arith}
use Rattle.sf_path.specs.Names.{Name}
use Rattle.sf_reply.specs.declared.reply.Reply.{Reply}
use Rattle.sf_call.specs.declared.call.Call.{Call}
use Rattle.sf_call.specs.declared.call.Stage.{Stage}
use Rattle.sf_call.specs.declared.call.Stage.TheVariants as stage
use Rattle.sf_call.specs.declared.record.Record.{Record}
use Rattle.sf_call.specs.Histories.{replay}
use Rattle.sf_call.specs.Unanswered.{at_stage, staged}
use Rattle.sf_inode.specs.declared.node.Node.{Node}
use Rattle.sf_inode.specs.declared.node.Content.TheVariants as content
use Rattle.sf_inode.specs.Nodes.{child_in, is_directory_content, is_file_content, blocks_left_in, with_content, with_left, with_holder}
use Rattle.sf_inode.specs.Stores.{StoreState, node_in, child_of, holder_of, is_directory_at, is_file_at, left_set, edited}
use Rattle.sf_keeps.specs.Keeps.{Keeps}
use Rattle.sf_keeps.proofs.Laws.{keeps_held, keeps_left, edited_apart, edited_itself, left_there, left_holders}
use Rattle.sf_coupling.specs.Walks.{HeldPath, walkers_at, AreWalks}
use Rattle.sf_coupling.proofs.Laws.{same_or_not}
use Rattle.sf_copying.specs.Copies.{copying, AreCopies, ChangesOneCall}
use Rattle.sf_copying.proofs.Laws.{goes_keeps, ends_keeps}
use Rattle.sf_call.specs.Routes.{route_of}
use Rattle.sf_walk.specs.Routes.{namespace}
use Rattle.sf_walk.proofs.Laws.{IsSameGround, same_trans, same_held, leads_same, holder_freed}
use Rattle.sf_core.specs.Cores.{call_at}
use Rattle.sf_core.specs.Progress.{waiting_reply, IsCopying}
use Rattle.sf_core.specs.Parts.{PartsView}
use Rattle.sf_core.specs.Sound.{walker_of, writer_of_file, IsAtRest, held_paths_at, held_paths_in, copying_in, copying_scene, IsWriting, Sound}
use Rattle.sf_core.specs.Finishing.{write_finished}
use Rattle.sf_core.specs.Writing.{part_copied, block_copied}
use Rattle.sf_core.proofs.Maps.{some_eq, none_some, not_true, staged_reply}
use Rattle.sf_core.proofs.Updates.{Updates, updates_none, updates_staged}
use Rattle.sf_core.proofs.Walkers.{if_none, rests_none}
use Rattle.sf_core.proofs.Writers.{copied_by, no_directory, writer_is, writer_holds, files_held, writing_on}
use Rattle.sf_core.proofs.SparedFiles.{copying_is}
use Rattle.sf_core.proofs.Coupled.{walks_on}
use Rattle.sf_core.proofs.Ledgers.Follows.{Stays}
use Rattle.sf_core.proofs.Unrecorded.{unrecorded}
use Rattle.sf_core.proofs.Unrecorded.IsKept.{Same}

-- ---- what copying leaves unchanged in a store
entry_by : (k : ℕ) (n : Name) (o : Option Node) → option_and_then (λ (node : Node). child_in node.content n) (option_map (with_content (with_left k)) o) ≡ option_and_then (λ (node : Node). child_in node.content n) o
entry_by k n None = refl
entry_by k n (Some node) = elim node.content as (λ c. child_in (with_left k c) n ≡ child_in c n) [ content.Directory es ↦ refl | content.File contents ↦ refl ]

directory_by : (k : ℕ) (o : Option Node) → option_map_or (λ (node : Node). is_directory_content node.content) (option_map (with_content (with_left k)) o) false ≡ option_map_or (λ (node : Node). is_directory_content node.content) o false
directory_by k None = refl
directory_by k (Some node) = elim node.content as (λ c. is_directory_content (with_left k c) ≡ is_directory_content c) [ content.Directory es ↦ refl | content.File contents ↦ refl ]

file_by : (k : ℕ) (o : Option Node) → option_map_or (λ (node : Node). is_file_content node.content) (option_map (with_content (with_left k)) o) false ≡ option_map_or (λ (node : Node). is_file_content node.content) o false
file_by k None = refl
file_by k (Some node) = elim node.content as (λ c. is_file_content (with_left k c) ≡ is_file_content c) [ content.Directory es ↦ refl | content.File contents ↦ refl ]

module _ (k : ℕ) (s : StoreState) (id : ℕ) where
  pub ground_left : IsSameGround s (left_set s id k)
  ground_left = record {
    step = λ x n. elim (same_or_not x id) [
      | inl e ↦ ap (λ (i : ℕ). child_of (left_set s id k).nodes i n) e ∙ ap (option_and_then (λ (node : Node). child_in node.content n)) (edited_itself (with_content (with_left k)) s id)
          ∙ entry_by k n (node_in s.nodes id) ∙ ap (λ (i : ℕ). child_of s.nodes i n) (sym e)
      | inr ne ↦ ap (option_and_then (λ (node : Node). child_in node.content n)) (edited_apart (with_content (with_left k)) s id x ne)
    ];
    root = refl;
    directory = λ x. elim (same_or_not x id) [
      | inl e ↦ ap (is_directory_at (left_set s id k).nodes) e ∙ ap (λ (o : Option Node). option_map_or (λ (node : Node). is_directory_content node.content) o false) (edited_itself (with_content (with_left k)) s id)
          ∙ directory_by k (node_in s.nodes id) ∙ ap (is_directory_at s.nodes) (sym e)
      | inr ne ↦ ap (λ (o : Option Node). option_map_or (λ (node : Node). is_directory_content node.content) o false) (edited_apart (with_content (with_left k)) s id x ne)
    ];
  }

  pub file_left : is_file_at (left_set s id k).nodes id ≡ is_file_at s.nodes id
  file_left = ap (λ (o : Option Node). option_map_or (λ (node : Node). is_file_content node.content) o false) (edited_itself (with_content (with_left k)) s id) ∙ file_by k (node_in s.nodes id)

-- an unchanged inode has the same holder
pub writer_apart : (s t : StoreState) (f : ℕ) → node_in t.nodes f ≡ node_in s.nodes f → writer_of_file t.nodes f ≡ writer_of_file s.nodes f
writer_apart s t f e = ap (λ (o : Option Node). if option_map_or (λ (node : Node). is_file_content node.content) o false then option_and_then (λ (node : Node). node.holder) o else None) e

walker_apart : (s t : StoreState) (f : ℕ) → node_in t.nodes f ≡ node_in s.nodes f → walker_of t.nodes f ≡ walker_of s.nodes f
walker_apart s t f e = ap (λ (o : Option Node). if option_map_or (λ (node : Node). is_directory_content node.content) o false then option_and_then (λ (node : Node). node.holder) o else None) e

-- the holder of a file holds no directory
no_walker : (nodes : List (Option Node)) (f : ℕ) → is_file_at nodes f ≡ true → walker_of nodes f ≡ None
no_walker nodes f file = ap (λ (b : Bool). if b then holder_of nodes f else None) (not_true (is_directory_at nodes f) (no_directory nodes f file))

-- ---- a decided call gets another stage, and one file of the store changes
module _ (p : PartsView) (h : List Record) (sound : Sound p h) (c : Call) (at : call_at p.calls c.number ≡ Some c) (given : Reply) (decided : waiting_reply c ≡ Some given) (rested : IsAtRest c.stage) (node : ℕ) (file_was : is_file_at p.store.nodes node ≡ true)
    (s : StoreState) (after : Stage) (keeps : Keeps s (replay h)) (ground : IsSameGround p.store s) (apart : (i : ℕ) → i ≢ node → node_in s.nodes i ≡ node_in p.store.nodes i) (file : is_file_at s.nodes node ≡ true)
    (sessions : s.sessions ≡ p.store.sessions) (rests : IsAtRest after) (copies : AreCopies (copying_scene s (staged p.calls c.number after))) (writes : (f k : ℕ) → after ≡ stage.Copies f k → IsWriting s (at_stage after c) f) where
  abbrev q : PartsView
  q = record { store = s; book = p.book; sessions = p.sessions; calls = staged p.calls c.number after; drawn = p.drawn; joins = p.joins }

  updates : Updates p.calls (staged p.calls c.number after) c.number (Some c) (Some (at_stage after c))
  updates = updates_staged p.calls c.number c after at

  own : (m : ℕ) (d : Call) → m ≡ c.number → call_at (staged p.calls c.number after) m ≡ Some d → at_stage after c ≡ d
  own m d e there = some_eq (at_stage after c) d (sym updates.now_is ∙ ap (call_at (staged p.calls c.number after)) (sym e) ∙ there)

  held_paths_same : (m : ℕ) → held_paths_in (staged p.calls c.number after) m ≡ held_paths_in p.calls m
  held_paths_same m = elim (same_or_not m c.number) [
    | inl e ↦ ap (held_paths_in (staged p.calls c.number after)) e ∙ ap (λ (o : Option Call). option_map_or held_paths_at o []) updates.now_is ∙ rests_none (route_of c.request) after rests
        ∙ sym (rests_none (route_of c.request) c.stage rested) ∙ sym (ap (λ (o : Option Call). option_map_or held_paths_at o []) at) ∙ ap (held_paths_in p.calls) (sym e)
    | inr ne ↦ ap (λ (o : Option Call). option_map_or held_paths_at o []) (updates.rest m ne)
  ]

  walkers_same : (l : ℕ) → walker_of s.nodes l ≡ walker_of p.store.nodes l
  walkers_same l = elim (same_or_not l node) [
    | inl e ↦ ap (walker_of s.nodes) e ∙ no_walker s.nodes node file ∙ sym (no_walker p.store.nodes node file_was) ∙ ap (walker_of p.store.nodes) (sym e)
    | inr ne ↦ walker_apart p.store s l (apart l ne)
  ]

  pub rest_sound : Sound (record { store = s; book = p.book; sessions = p.sessions; calls = staged p.calls c.number after; drawn = p.drawn; joins = p.joins }) h
  rest_sound =
      let call = sound.ledger.calls c.number c at in
      unrecorded p q h sound c.number c (Some (at_stage after c)) (Some c.number) updates (updates_none p.sessions c.session (Some c.number) call.session)
      (Same (at_stage after c) (staged_reply c after) (λ g. refl)) (Stays (at_stage after c) (record { number = refl; session = refl; moment = refl; request = refl }) (λ e. absurd (none_some given (sym e ∙ (staged_reply c after) ∙ decided))))
      keeps refl refl refl
      (record {
        walks =
            subst (λ (f : ℕ → List HeldPath). AreWalks (walkers_at (namespace s) f (walker_of s.nodes))) (λ i m. sym (held_paths_same m) i)
            (subst (λ (k : ℕ → Option ℕ). AreWalks (walkers_at (namespace s) (held_paths_in p.calls) k)) (λ i l. sym (walkers_same l) i)
            (walks_on (namespace p.store) (namespace s) (held_paths_in p.calls) (walker_of p.store.nodes) (leads_same p.store s ground) sound.coupled.walks));
        positions = λ m d there none. elim (same_or_not m c.number) [
          | inl e ↦ absurd (none_some given (sym none ∙ ap waiting_reply (sym (own m d e there)) ∙ (staged_reply c after) ∙ decided))
          | inr ne ↦ sound.coupled.positions m d (sym (updates.rest m ne) ∙ there) none
        ];
        waiting = λ m d g there some. elim (same_or_not m c.number) [
          | inl e ↦ subst (λ (x : Call). IsAtRest x.stage) (own m d e there) rests
          | inr ne ↦ sound.coupled.waiting m d g (sym (updates.rest m ne) ∙ there) some
        ];
      })
      (record {
        copies = copies;
        writing = λ m d f k there copying_d. elim (same_or_not m c.number) [
          | inl e ↦ let same = own m d e there in subst (λ (x : Call). IsWriting s x f) same (writes f k (ap (λ (x : Call). x.stage) same ∙ copying_d))
          | inr ne ↦ writing_on p.store s d f sessions (sound.copied.writing m d f k (sym (updates.rest m ne) ∙ there) copying_d)
        ];
      })

-- no other call or file changes
pub changes_by : (p : PartsView) (c : Call) → call_at p.calls c.number ≡ Some c → (node : ℕ) (s : StoreState) (after : Stage) → ((i : ℕ) → i ≢ node → node_in s.nodes i ≡ node_in p.store.nodes i)
    → ChangesOneCall (copying_scene p.store p.calls) (copying_scene s (staged p.calls c.number after)) c.number node
changes_by p c at node s after apart = record {
  calls = λ m ne. ap copied_by ((updates_staged p.calls c.number c after at).rest m ne);
  writers = λ f ne. writer_apart p.store s f (apart f ne);
  lefts = λ f ne. ap (λ (o : Option Node). option_map_or (λ (x : Node). blocks_left_in x.content) o 0) (apart f ne);
}

-- ---- a call that is copying
module _ (p : PartsView) (h : List Record) (sound : Sound p h) (c : Call) (at : call_at p.calls c.number ≡ Some c) (node left : ℕ) (is : c.stage ≡ stage.Copies node left) where
  copying_it : copying_in p.calls c.number ≡ Some (copying node left)
  copying_it = copying_is p.calls c.number c node left at is

  held : (is_file_at p.store.nodes node ≡ true) × (holder_of p.store.nodes node ≡ Some c.number)
  held = writer_holds p.store.nodes node c.number (sound.copied.copies.holds c.number (copying node left) copying_it)

  pub writes_it : IsWriting p.store c node
  writes_it = sound.copied.writing c.number c node left at is

  rested : IsAtRest c.stage
  rested = inr (subst IsCopying (sym is) tt)

  -- ---- one more block, and more remain
  module _ (k : ℕ) (more : left ≡ suc k + 1) where
    abbrev part : StoreState
    part = left_set p.store node (suc k)

    part_apart : (i : ℕ) → i ≢ node → node_in (left_set p.store node (suc k)).nodes i ≡ node_in p.store.nodes i
    part_apart i ne = edited_apart (with_content (with_left (suc k))) p.store node i ne

    part_file : is_file_at (left_set p.store node (suc k)).nodes node ≡ true
    part_file = file_left (suc k) p.store node ∙ held.0

    pub part_sound : Sound (part_copied p c.number node (suc k)) h
    part_sound =
        rest_sound p h sound c at writes_it.given writes_it.decided rested node held.0 part (stage.Copies node (suc k)) (keeps_left (suc k) p.store (replay h) node sound.history.tree) (ground_left (suc k) p.store node) part_apart part_file refl (inr tt)
        (goes_keeps (copying_scene p.store p.calls) (copying_scene part (staged p.calls c.number (stage.Copies node (suc k)))) c.number (copying node left) (suc k) sound.copied.copies (record {
          changes = changes_by p c at node part (stage.Copies node (suc k)) part_apart;
          was = copying_it;
          more = omega (arith, more);
          some = omega arith;
          now = ap copied_by (updates_staged p.calls c.number c (stage.Copies node (suc k)) at).now_is;
          holds = writer_is part.nodes node c.number part_file (left_holders (suc k) p.store node node ∙ held.1);
          left = left_there (suc k) p.store node held.0;
        }))
        (λ f j e. let same : node ≡ f = cc in subst (λ (x : ℕ). IsWriting part (at_stage (stage.Copies node (suc k)) c) x) same (record {
          handle = writes_it.handle;
          offset = writes_it.offset;
          bytes = writes_it.bytes;
          write = writes_it.write;
          opened = writes_it.opened;
          opens = writes_it.opens;
          leads = writes_it.leads;
          given = writes_it.given;
          decided = staged_reply c (stage.Copies node (suc k)) ∙ writes_it.decided;
        }))

  -- ---- all that remain
  abbrev ended : StoreState
  ended = edited (with_holder None) (left_set p.store node 0) node

  end_apart : (i : ℕ) → i ≢ node → node_in (edited (with_holder None) (left_set p.store node 0) node).nodes i ≡ node_in p.store.nodes i
  end_apart i ne = edited_apart (with_holder None) (left_set p.store node 0) node i ne ∙ edited_apart (with_content (with_left 0)) p.store node i ne

  end_file : is_file_at (edited (with_holder None) (left_set p.store node 0) node).nodes node ≡ true
  end_file = (files_held None (left_set p.store node 0) node).file node ∙ file_left 0 p.store node ∙ held.0

  pub end_ground : IsSameGround p.store (edited (with_holder None) (left_set p.store node 0) node)
  end_ground = same_trans p.store (left_set p.store node 0) ended (ground_left 0 p.store node) (same_held None (left_set p.store node 0) node)

  pub end_sound : Sound (write_finished p c.number node) h
  end_sound =
      rest_sound p h sound c at writes_it.given writes_it.decided rested node held.0 ended stage.Fresh
      (keeps_held None (left_set p.store node 0) (replay h) node (keeps_left 0 p.store (replay h) node sound.history.tree)) end_ground end_apart end_file refl (inl refl)
      (ends_keeps (copying_scene p.store p.calls) (copying_scene ended (staged p.calls c.number stage.Fresh)) c.number (copying node left) sound.copied.copies (record {
        changes = changes_by p c at node ended stage.Fresh end_apart;
        was = copying_it;
        now = ap copied_by (updates_staged p.calls c.number c stage.Fresh at).now_is;
        free = if_none (is_file_at ended.nodes node) (holder_of ended.nodes node) (holder_freed (left_set p.store node 0) node);
        left = (files_held None (left_set p.store node 0) node).left node ∙ left_there 0 p.store node held.0;
      }))
      (λ f j e. cc)

  -- by a step
  pub block_sound : (k : ℕ) → left ≡ k + 1 → Sound (block_copied p c.number node k) h
  block_sound zero e = end_sound
  block_sound (suc k) e = part_sound k e
