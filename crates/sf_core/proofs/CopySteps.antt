-- The steps of a WRITE: its first one, and those that copy a block.
use Rattle.std.specs.Prelude.{◌≡◌, ◌<◌, ◌+◌, ◌-◌, ℕ, List, zero, suc, true, false, option_map, option_and_then, Option, Some, None, IfSome, IfNone, refl}
use Rattle.std.specs.Option.{option_map_or}
use Rattle.std.proofs.Common.{sym, ap, subst, ◌∙◌, inl, inr, arith}
use Rattle.sf_reply.specs.declared.reply.Reply.{Reply}
use Rattle.std.specs.Ordering.{nat_cmp}
use Rattle.std.specs.Map.{lookup}
use Rattle.std.specs.BTreeMap.{is_at}
use Rattle.sf_call.specs.declared.call.Call.{Call}
use Rattle.sf_call.specs.declared.request.Request.{Request}
use Rattle.sf_call.specs.declared.request.Request.TheVariants as request
use Rattle.sf_call.specs.declared.call.Stage.{Stage}
use Rattle.sf_call.specs.declared.call.Stage.TheVariants as stage
use Rattle.sf_call.specs.Unanswered.{at_stage, answered, with_reply}
use Rattle.sf_inode.specs.declared.node.Node.{Node}
use Rattle.sf_inode.specs.declared.node.Content.TheVariants as content
use Rattle.sf_inode.specs.declared.handle.OpenHandle.{OpenHandle}
use Rattle.sf_inode.specs.Nodes.{blocks_left_in, is_file_content, with_holder}
use Rattle.sf_inode.specs.Stores.{StoreState, node_in, open_handle_at, is_file_at, blocks_left_at}
use Rattle.sf_keeps.proofs.Laws.{edited_itself, left_there}
use Rattle.sf_coupling.proofs.Laws.{same_or_not}
use Rattle.sf_walk.specs.declared.files.Copying.{Copying}
use Rattle.sf_walk.specs.declared.finding.Located.TheVariants.{NoWay}
use Rattle.sf_walk.specs.Files.{StartsWriting, IsWriteRequest, IsSettled, file_handle}
use Rattle.sf_walk.specs.Served.{IsAsBefore, NodesStay}
use Rattle.sf_core.specs.Cores.{call_at}
use Rattle.sf_core.specs.Progress.{is_write}
use Rattle.sf_core.specs.Parts.{PartsView}
use Rattle.sf_core.specs.Writing.{CopiesNow, IsCopyingOn, CopiedBlock, CopiedOn, EndsCopying, HasBegunWrite, WritesOn, block_copied}
use Rattle.sf_core.specs.Writing.WritesOn.{ToTheEnd, UpToThere}
use Rattle.sf_core.proofs.Updates.{updates_staged, updates_answered}
use Rattle.sf_core.proofs.Writers.{left_held}

-- ---- the first step
module _ (n : ℕ) where
  abbrev Told : Option ℕ → ℕ → Type 0
  Told holder label = (holder ≡ None) × (label ≡ n)

  as_before : (o p : Option Node) (node : Node) → p ≡ Some node → option_and_then (λ (x : Node). x.holder) p ≡ option_and_then (λ (x : Node). x.holder) o → option_map (λ (x : Node). x.label) p ≡ option_map (λ (x : Node). x.label) o
      → option_map_or (λ (x : Node). blocks_left_in x.content) p 0 ≡ 0 → option_map_or (λ (x : Node). blocks_left_in x.content) o 0 ≡ 0 → IsAsBefore Told o node
  as_before None p node at holder label left was =
      let e : Some node.label ≡ None = sym (ap (option_map (λ (x : Node). x.label)) at) ∙ label in cc
  as_before (Some x) p node at holder label left was =
      let e : Some node.label ≡ Some x.label = sym (ap (option_map (λ (x : Node). x.label)) at) ∙ label in (
        sym (ap (option_and_then (λ (x : Node). x.holder)) at) ∙ holder,
        (let z : node.label ≡ x.label = cc in z),
        sym (ap (λ (p : Option Node). option_map_or (λ (x : Node). blocks_left_in x.content) p 0) at) ∙ (left ∙ sym was),
      )

  -- if it copies all blocks, each inode is as before
  pub stays_started : (s new : StoreState) (h : OpenHandle) (offset : ℕ) (bytes : List ℕ) → blocks_left_at s.nodes h.node ≡ 0 → blocks_left_at new.nodes h.node ≡ 0 → StartsWriting s new h offset bytes → NodesStay n s new
  stays_started s new h offset bytes was left starts = record {
    node = λ id node at. elim (same_or_not id h.node) [
      | inl e ↦
          subst (λ (i : ℕ). IsAsBefore Told (node_in s.nodes i) node) (sym e)
          (as_before (node_in s.nodes h.node) (node_in new.nodes h.node) node (sym (ap (node_in new.nodes) e) ∙ at) starts.holder starts.label left was)
      | inr ne ↦ subst (λ (o : Option Node). IsAsBefore Told o node) (sym at ∙ starts.others id ne) (refl, refl, refl)
    ];
  }

pub is_a_write : (r : Request) → IsWriteRequest r → (number : ℕ) × (offset : ℕ) × (bytes : List ℕ) × (r ≡ request.Write number offset bytes)
is_a_write (request.Write h o b) w = (h, o, b, refl)
is_a_write _ w = absurd w

pub is_write_by : (r : Request) → is_write r ≡ true → IsWriteRequest r
is_write_by (request.Write handle offset bytes) e = tt
is_write_by _ e = cc

pub write_is : (r : Request) → IsWriteRequest r → is_write r ≡ true
write_is r write = let w = is_a_write r write in ap is_write w.3

pub no_write : (r : Request) → is_write r ≡ false → IsWriteRequest r → ⊥
no_write r not write = let is = write_is r write in cc

-- a call that reads or sets no file by its handle isn't one
pub path_no_write : (r : Request) → file_handle r ≡ None → IsWriteRequest r → ⊥
path_no_write r none write = let w = is_a_write r write in let is = ap file_handle w.3 in cc

-- the first step of a WRITE, if it copies the last block
module _ (s new : StoreState) (c : Call) (write : IsWriteRequest c.request) (settled : IsSettled s c.session c.request NoWay)
    (starts : (number offset : ℕ) (bytes : List ℕ) (h : OpenHandle) → c.request ≡ request.Write number offset bytes → open_handle_at s c.session number ≡ Some h → StartsWriting s new h offset bytes)
    (none : (number offset : ℕ) (bytes : List ℕ) → c.request ≡ request.Write number offset bytes → open_handle_at s c.session number ≡ None → new ≡ s)
    (sessions : new.sessions ≡ s.sessions)
    (done : (number : ℕ) (h : OpenHandle) → file_handle c.request ≡ Some number → open_handle_at new c.session number ≡ Some h → blocks_left_at new.nodes h.node ≡ 0) where
  by_handle : (number offset : ℕ) (bytes : List ℕ) → c.request ≡ request.Write number offset bytes → (o : Option OpenHandle) → open_handle_at s c.session number ≡ o → NodesStay c.number s new
  by_handle number offset bytes is None at =
      subst (λ (x : StoreState). NodesStay c.number s x) (sym (none number offset bytes is at))
      (record { node = λ id node there. subst (λ (o : Option Node). IsAsBefore (Told c.number) o node) (sym there) (refl, refl, refl) })
  by_handle number offset bytes is (Some h) at =
      let own : file_handle c.request ≡ Some number = ap file_handle is in
      let still : open_handle_at new c.session number ≡ Some h = ap (λ (ss : List (ℕ × List (ℕ × OpenHandle))). option_and_then (λ handles. lookup (is_at (nat_cmp number)) handles) (lookup (is_at (nat_cmp c.session)) ss)) sessions ∙ at in
      stays_started c.number s new h offset bytes (settled.by_handle number h own at) (done number h own still) (starts number offset bytes h is at)

  pub stays_written : NodesStay c.number s new
  stays_written = let w = is_a_write c.request write in by_handle w.0 w.1 w.2 w.3 (open_handle_at s c.session w.0) refl

-- ---- a further block
file_left : (o : Option Node) → 0 < option_map_or (λ (x : Node). blocks_left_in x.content) o 0 → option_map_or (λ (x : Node). is_file_content x.content) o false ≡ true
file_left None some = absurd (omega (arith, some))
file_left (Some node) some = elim node.content as (λ c. 0 < blocks_left_in c → is_file_content c ≡ true) [
  | content.Directory es ↦ λ h. absurd (omega (arith, h))
  | content.File contents ↦ λ h. refl
] some

-- only a file has blocks left to copy
pub is_file : (s : StoreState) (id left : ℕ) → blocks_left_at s.nodes id ≡ left → 0 < left → is_file_at s.nodes id ≡ true
is_file s id left e some = file_left (node_in s.nodes id) (subst (λ (k : ℕ). 0 < k) (sym e) some)

-- a call that copied a block, but not the last one, is still copying
pub copies_on : (p q : PartsView) (number left : ℕ) → CopiedBlock p q number (suc left) → IsCopyingOn q number
copies_on p q number left b =
    let file : is_file_at p.store.nodes b.node ≡ true = is_file p.store b.node (suc left + 1) b.was.left_is b.was.some in (
      b.node,
      suc left,
      subst (λ (x : PartsView). CopiesNow x number b.node (suc left)) (sym b.now) (record {
        call = record b.was.call { stage = stage.Copies b.node (suc left) };
        there = (updates_staged p.calls number b.was.call (stage.Copies b.node (suc left)) b.was.there).now_is;
        is = refl;
        left_is = left_there (suc left) p.store b.node file;
        some = omega arith;
        given = b.was.given;
        waits = b.was.waits;
      }),
    )

-- the result of a step that copies
pub block_of : (p q : PartsView) (number left : ℕ) → IsCopyingOn p number → ((node k : ℕ) → CopiesNow p number node k → (left + 1 ≡ k) × (q ≡ block_copied p number node left)) → CopiedBlock p q number left
block_of p q number left on law =
    let w = law on.0 on.1 on.2 in
    record { node = on.0; was = subst (CopiesNow p number on.0) (sym w.0) on.2; now = w.1 }

pub more_left : (p q : PartsView) (number left : ℕ) → (left ≡ 0 → ⊥) → CopiedBlock p q number left → (k : ℕ) × CopiedBlock p q number (suc k)
more_left p q number zero some b = absurd (some refl)
more_left p q number (suc k) some b = (k, b)

-- with the last block its reply is still pending
pub waits_on : (p q : PartsView) (number : ℕ) → (b : CopiedBlock p q number 0) → option_and_then (λ (c : Call). c.reply) (call_at q.calls number) ≡ Some b.was.given
waits_on p q number b =
    ap (λ (x : PartsView). option_and_then (λ (c : Call). c.reply) (call_at x.calls number)) b.now
    ∙ ap (option_and_then (λ (c : Call). c.reply)) (updates_staged p.calls number b.was.call stage.Fresh b.was.there).now_is ∙ b.was.waits

pub some_by : {X : Type 0} (P Q : X → Type 0) (o : Option X) → ((x : X) → o ≡ Some x → P x → Q x) → IfSome o P → IfSome o Q
some_by P Q None law h = tt
some_by P Q (Some x) law h = law x refl h

pub not_none : {X : Type 0} (P : Type 0) (o : Option X) (x : X) → o ≡ Some x → IfNone o P
not_none P None x e = cc
not_none P (Some y) x e = tt

pub copied_none : (p : PartsView) (number : ℕ) → CopiedOn zero p number p
unfolding CopiedOn
copied_none p number = refl

copied_suc : (p : PartsView) (number n : ℕ) (mid q : PartsView) (left : ℕ) → CopiedOn n p number mid → CopiedBlock mid q number (suc left) → CopiedOn (suc n) p number q
unfolding CopiedOn
copied_suc p number n mid q left before b = (mid, before, (left, b))

pub copied_more : (p : PartsView) (number n : ℕ) (mid q : PartsView) (left : ℕ) → CopiedOn n p number mid → CopiedBlock mid q number (suc left) → CopiedOn (n + 1) p number q
copied_more p number n mid q left before b = subst (λ (k : ℕ). CopiedOn k p number q) (let e : suc n ≡ n + 1 = omega arith in e) (copied_suc p number n mid q left before b)

-- ---- from the first step on
-- a WRITE that has started is copying
pub begun_copies : (p q : PartsView) (c : Call) (number : ℕ) → call_at p.calls number ≡ Some c → HasBegunWrite p q c number → IsCopyingOn q number
begun_copies p q c number at b =
    let given : Reply = b.0 in
    let into : Copying = b.1 in
    let w = b.2 in
    let after : Stage = stage.Copies into.node into.left in (
      into.node,
      into.left,
      record {
        call = at_stage after (with_reply given c);
        there =
            ap (λ (calls : List (ℕ × Call)). call_at calls number) w.calls
            ∙ (updates_staged (answered p.calls number given) number (with_reply given c) after (updates_answered p.calls number c given at).now_is).now_is;
        is = refl;
        left_is =
            ap (λ (x : StoreState). blocks_left_at x.nodes into.node) w.store
            ∙ ap (λ (o : Option Node). option_map_or (λ (x : Node). blocks_left_in x.content) o 0) (edited_itself (with_holder (Some number)) w.mid into.node)
            ∙ left_held (Some number) (node_in w.mid.nodes into.node)
            ∙ ap (blocks_left_at w.mid.nodes) w.copied.node ∙ w.copied.left;
        some = w.copied.some;
        given = given;
        waits = refl;
      },
    )

-- a WRITE that has started copied further blocks, to its end or not
pub record CopiesOn (p q : PartsView) (c : Call) (session number most : ℕ) (o : Option Reply) : Type 0 where
  pub mid : PartsView
  pub begun : HasBegunWrite p mid c number
  pub ends : IfSome o (λ given. EndsCopying mid q session number (most - 1) given)
  pub more : IfNone o (CopiedOn (most - 1) mid number q)

pub written_on : (p q : PartsView) (c : Call) (session number most : ℕ) (o : Option Reply) → CopiesOn p q c session number most o → WritesOn p q c session number most o
written_on p q c session number most None w = UpToThere w.mid w.begun w.more
written_on p q c session number most (Some given) w = ToTheEnd given w.mid w.begun w.ends
