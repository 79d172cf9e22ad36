-- Files that are being written: what other events preserve.
use Rattle.std.specs.Prelude.{◌≡◌, ◌≢◌, ℕ, zero, suc, Bool, true, false, if◌then◌else◌, List, [], ◌∷◌, option_map, option_and_then, Option, Some, None, refl}
use Rattle.std.specs.Option.{option_map_or}
use Rattle.std.proofs.Common.{sym, ap, subst, ◌∙◌, inl, inr}
use Rattle.std.specs.Ordering.{nat_cmp}
use Rattle.std.specs.Map.{lookup}
use Rattle.std.specs.BTreeMap.{is_at}
use Rattle.sf_call.specs.declared.call.Call.{Call}
use Rattle.sf_call.specs.declared.call.Stage.{Stage}
use Rattle.sf_call.specs.declared.call.Stage.TheVariants as stage
use Rattle.sf_inode.specs.declared.node.Node.{Node}
use Rattle.sf_inode.specs.declared.node.Content.{Content}
use Rattle.sf_inode.specs.declared.node.Content.TheVariants as content
use Rattle.sf_inode.specs.declared.handle.OpenHandle.{OpenHandle}
use Rattle.sf_inode.specs.Nodes.{blocks_left_in, is_file_content, is_directory_content, with_holder}
use Rattle.sf_inode.specs.Stores.{StoreState, node_in, open_handle_at, holder_of, is_directory_at, is_file_at, blocks_left_at, edited}
use Rattle.sf_keeps.proofs.Laws.{edited_apart, edited_itself}
use Rattle.sf_coupling.specs.Walks.{HeldPath, IsNodeOf, HandsOver}
use Rattle.sf_coupling.proofs.Laws.{same_or_not}
use Rattle.sf_copying.specs.Copies.{Copying, AreCopies}
use Rattle.sf_call.specs.Routes.{Route}
use Rattle.sf_walk.specs.Routes.{IsPosition, nodes_of}
use Rattle.sf_walk.specs.Routes.IsPosition.{Starts}
use Rattle.sf_walk.specs.Steps.{is_one_of, free_unless, let_go, entered, handed_over}
use Rattle.sf_walk.specs.Served.{LookedUp, after_look_ups}
use Rattle.sf_core.specs.Cores.{call_at}
use Rattle.sf_core.specs.Parts.{PartsView}
use Rattle.sf_core.specs.Sound.{writer_of_file, copying_at, copying_in, IsWriting, Copied}
use Rattle.sf_core.proofs.Maps.{if_some, by_test}
use Rattle.sf_core.proofs.Updates.{Updates}

-- ---- calls
-- a call that holds paths is not copying
pub none_copied : (r : Route) (g : Stage) → IsPosition r g → copying_at g ≡ None
none_copied r g (Starts o is) = refl
none_copied r g _ = refl

abbrev pub copied_by : Option Call → Option Copying
copied_by o = option_and_then (λ (c : Call). copying_at c.stage) o

pub some_copied : (g : Stage) (node left : ℕ) → g ≡ stage.Copies node left → copying_at g ≡ None → ⊥
some_copied g node left e none = let x = sym (ap copying_at e) ∙ none in cc

-- if one call changes, and is copying neither before nor after, the same calls are copying as
-- before
module _ (old new : List (ℕ × Call)) (n : ℕ) (was now : Option Call) (u : Updates old new n was now) (was_none : copied_by was ≡ None) (now_none : copied_by now ≡ None) where
  pub same_copying : (m : ℕ) → copying_in new m ≡ copying_in old m
  same_copying m = elim (same_or_not m n) [
    | inl e ↦ ap (copying_in new) e ∙ ap copied_by u.now_is ∙ now_none ∙ sym was_none ∙ sym (ap copied_by u.was_is) ∙ ap (copying_in old) (sym e)
    | inr ne ↦ ap copied_by (u.rest m ne)
  ]

  none_now : (c : Call) (node left : ℕ) (m : ℕ) → m ≡ n → call_at new m ≡ Some c → c.stage ≡ stage.Copies node left → ⊥
  none_now c node left m e at is = some_copied c.stage node left is (sym (ap copied_by (sym u.now_is ∙ ap (call_at new) (sym e) ∙ at)) ∙ now_none)

  pub still_copying : (m : ℕ) (c : Call) (node left : ℕ) → call_at new m ≡ Some c → c.stage ≡ stage.Copies node left → (m ≢ n) × (call_at old m ≡ Some c)
  still_copying m c node left at is = elim (same_or_not m n) [
    | inl e ↦ absurd (none_now c node left m e at is)
    | inr ne ↦ (ne, sym (u.rest m ne) ∙ at)
  ]

-- ---- files
file_directory : (c : Content) → is_file_content c ≡ true → is_directory_content c ≡ true → ⊥
file_directory (content.Directory es) e f = cc
file_directory _ e f = cc

-- a file is no directory
pub no_directory : (nodes : List (Option Node)) (id : ℕ) → is_file_at nodes id ≡ true → is_directory_at nodes id ≡ true → ⊥
no_directory nodes id e f = by (node_in nodes id) e f
  where
    by : (o : Option Node) → option_map_or (λ (x : Node). is_file_content x.content) o false ≡ true → option_map_or (λ (x : Node). is_directory_content x.content) o false ≡ true → ⊥
    by None e f = cc
    by (Some node) e f = file_directory node.content e f

pub writer_is : (nodes : List (Option Node)) (id n : ℕ) → is_file_at nodes id ≡ true → holder_of nodes id ≡ Some n → writer_of_file nodes id ≡ Some n
writer_is nodes id n file held = ap (λ (b : Bool). if b then holder_of nodes id else None) file ∙ held

pub writer_holds : (nodes : List (Option Node)) (id n : ℕ) → writer_of_file nodes id ≡ Some n → (is_file_at nodes id ≡ true) × (holder_of nodes id ≡ Some n)
writer_holds nodes id n e = if_some (is_file_at nodes id) (holder_of nodes id) n e

-- the same inodes are files, with as many blocks left, and the same handles are open
pub record SameFiles (s t : StoreState) : Type 0 where
  pub file : (id : ℕ) → is_file_at t.nodes id ≡ is_file_at s.nodes id
  pub left : (id : ℕ) → blocks_left_at t.nodes id ≡ blocks_left_at s.nodes id
  pub sessions : t.sessions ≡ s.sessions

pub files_itself : (s : StoreState) → SameFiles s s
files_itself s = record { file = λ id. refl; left = λ id. refl; sessions = refl }

pub files_trans : (s mid t : StoreState) → SameFiles s mid → SameFiles mid t → SameFiles s t
files_trans s mid t a b = record { file = λ id. b.file id ∙ a.file id; left = λ id. b.left id ∙ a.left id; sessions = b.sessions ∙ a.sessions }

file_held : (h : Option ℕ) (o : Option Node) → option_map_or (λ (x : Node). is_file_content x.content) (option_map (with_holder h) o) false ≡ option_map_or (λ (x : Node). is_file_content x.content) o false
file_held h None = refl
file_held h (Some node) = refl

pub left_held : (h : Option ℕ) (o : Option Node) → option_map_or (λ (x : Node). blocks_left_in x.content) (option_map (with_holder h) o) 0 ≡ option_map_or (λ (x : Node). blocks_left_in x.content) o 0
left_held h None = refl
left_held h (Some node) = refl

pub files_held : (h : Option ℕ) (s : StoreState) (id : ℕ) → SameFiles s (edited (with_holder h) s id)
files_held h s id = record {
  file = λ i. elim (same_or_not i id) [
    | inl e ↦ ap (is_file_at (edited (with_holder h) s id).nodes) e ∙ ap (λ (o : Option Node). option_map_or (λ (x : Node). is_file_content x.content) o false) (edited_itself (with_holder h) s id)
        ∙ file_held h (node_in s.nodes id) ∙ ap (is_file_at s.nodes) (sym e)
    | inr ne ↦ ap (λ (o : Option Node). option_map_or (λ (x : Node). is_file_content x.content) o false) (edited_apart (with_holder h) s id i ne)
  ];
  left = λ i. elim (same_or_not i id) [
    | inl e ↦ ap (blocks_left_at (edited (with_holder h) s id).nodes) e ∙ ap (λ (o : Option Node). option_map_or (λ (x : Node). blocks_left_in x.content) o 0) (edited_itself (with_holder h) s id)
        ∙ left_held h (node_in s.nodes id) ∙ ap (blocks_left_at s.nodes) (sym e)
    | inr ne ↦ ap (λ (o : Option Node). option_map_or (λ (x : Node). blocks_left_in x.content) o 0) (edited_apart (with_holder h) s id i ne)
  ];
  sessions = refl;
}

pub files_let_go : (kept nodes : List ℕ) (s : StoreState) → SameFiles s (let_go kept nodes s)
files_let_go kept [] s = files_itself s
files_let_go kept (node ∷ nodes) s = files_trans s (free_unless kept node s) (let_go kept nodes (free_unless kept node s)) (by (is_one_of node kept)) (files_let_go kept nodes (free_unless kept node s))
  where
    by : (b : Bool) → SameFiles s (if b then s else edited (with_holder None) s node)
    by true = files_itself s
    by false = files_held None s node

files_entered : (g : Stage) (s : StoreState) → SameFiles s (entered g s)
files_entered stage.Fresh s = files_itself s
files_entered _ s = record { file = λ id. refl; left = λ id. refl; sessions = refl }

pub files_moved : (n : ℕ) (was now : Stage) (node : ℕ) (s : StoreState) → SameFiles s (handed_over n was now node (entered was s))
files_moved n was now node s =
    let held = edited (with_holder (Some n)) (entered was s) node in
    files_trans s (entered was s) (handed_over n was now node (entered was s)) (files_entered was s)
    (files_trans (entered was s) held (handed_over n was now node (entered was s)) (files_held (Some n) (entered was s) node) (files_let_go (nodes_of now) (nodes_of was) held))

-- what is handed over is no file: each file has the same holder
-- a call holds no file, before and after
pub record HoldsNoFile (s : StoreState) (was now : List HeldPath) : Type 0 where
  pub before : (l : ℕ) → IsNodeOf was l → is_file_at s.nodes l ≡ true → ⊥
  pub after : (l : ℕ) → IsNodeOf now l → is_file_at s.nodes l ≡ true → ⊥

pub writers_stay : (s t : StoreState) (n : ℕ) (was now : List HeldPath) → SameFiles s t → HoldsNoFile s was now → HandsOver (holder_of s.nodes) (holder_of t.nodes) n was now → (id : ℕ) → writer_of_file t.nodes id ≡ writer_of_file s.nodes id
writers_stay s t n was now same none hands id =
    by_test (is_file_at s.nodes id) (λ e. λ i. if same.file id i then hands.rest id (λ h. none.before id h e) (λ h. none.after id h e) i else None)
    (λ e. ap (λ (b : Bool). if b then holder_of t.nodes id else None) (same.file id ∙ e) ∙ sym (ap (λ (b : Bool). if b then holder_of s.nodes id else None) e))

-- ---- the facts about files
pub opens_same : (s t : StoreState) (session handle : ℕ) → t.sessions ≡ s.sessions → open_handle_at t session handle ≡ open_handle_at s session handle
opens_same s t session handle e = ap (λ (ss : List (ℕ × List (ℕ × OpenHandle))). option_and_then (λ handles. lookup (is_at (nat_cmp handle)) handles) (lookup (is_at (nat_cmp session)) ss)) e

pub writing_on : (s t : StoreState) (c : Call) (file : ℕ) → t.sessions ≡ s.sessions → IsWriting s c file → IsWriting t c file
writing_on s t c file e w = record {
  handle = w.handle;
  offset = w.offset;
  bytes = w.bytes;
  write = w.write;
  opened = w.opened;
  opens = opens_same s t c.session w.handle e ∙ w.opens;
  leads = w.leads;
  given = w.given;
  decided = w.decided;
}

-- an event that changes nothing about files
pub copied_on : (p q : PartsView) → Copied p → ((m : ℕ) → copying_in q.calls m ≡ copying_in p.calls m)
    → ((m : ℕ) (c : Call) (node left : ℕ) → call_at q.calls m ≡ Some c → c.stage ≡ stage.Copies node left → call_at p.calls m ≡ Some c)
    → SameFiles p.store q.store → ((id : ℕ) → writer_of_file q.store.nodes id ≡ writer_of_file p.store.nodes id) → Copied q
copied_on p q copied same still files writers = record {
  copies = subst AreCopies (λ i. record { copying_of = λ m. sym (same m) i; writer = λ id. sym (writers id) i; left = λ id. sym (files.left id) i }) copied.copies;
  writing = λ m c node left at is. writing_on p.store q.store c node files.sessions (copied.writing m c node left (still m c node left at is) is);
}

-- nor does one that preserves the store and all calls, except one that isn't copying
-- an event of one call that isn't copying, before and after it, and that preserves the store
pub record CopiesNothing (p q : PartsView) (n : ℕ) : Type 0 where
  pub was : Option Call
  pub now : Option Call
  pub calls : Updates p.calls q.calls n was now
  pub was_none : copied_by was ≡ None
  pub now_none : copied_by now ≡ None
  pub store : q.store ≡ p.store

pub copied_still : (p q : PartsView) (n : ℕ) → Copied p → CopiesNothing p q n → Copied q
copied_still p q n copied u =
    copied_on p q copied (same_copying p.calls q.calls n u.was u.now u.calls u.was_none u.now_none)
    (λ m c node left at is. (still_copying p.calls q.calls n u.was u.now u.calls u.was_none u.now_none m c node left at is).1)
    (subst (SameFiles p.store) (sym u.store) (files_itself p.store)) (λ id. ap (λ (s : StoreState). writer_of_file s.nodes id) u.store)

-- the calls are the same, and so is the store
pub copied_same : (p q : PartsView) → Copied p → q.store ≡ p.store → q.calls ≡ p.calls → Copied q
copied_same p q copied store calls =
    copied_on p q copied (λ m. ap (λ cs. copying_in cs m) calls) (λ m c node left at is. ap (λ cs. call_at cs m) (sym calls) ∙ at)
    (subst (SameFiles p.store) (sym store) (files_itself p.store)) (λ id. ap (λ (s : StoreState). writer_of_file s.nodes id) store)

-- lookups were made
files_counted : (k : ℕ) (s : StoreState) → SameFiles s (after_look_ups k s) × ((id : ℕ) → writer_of_file (after_look_ups k s).nodes id ≡ writer_of_file s.nodes id)
files_counted zero s = (files_itself s, λ id. refl)
files_counted (suc k) s =
    let h = files_counted k s in
    (record { file = h.0.file; left = h.0.left; sessions = h.0.sessions }, h.1)

pub files_looked : (s t : StoreState) (most : ℕ) → LookedUp s t most → SameFiles s t × ((id : ℕ) → writer_of_file t.nodes id ≡ writer_of_file s.nodes id)
files_looked s t most looked =
    subst (λ (x : StoreState). SameFiles s x × ((id : ℕ) → writer_of_file x.nodes id ≡ writer_of_file s.nodes id)) (sym looked.state) (files_counted looked.count s)
