-- Another call copies the remaining blocks of a WRITE before it changes the length of that file.
use Rattle.std.specs.Prelude.{◌≡◌, ◌⊎◌, ℕ, zero, suc, true, List, [], Option, Some, None, refl}
use Rattle.std.specs.Option.{option_map_or}
use Rattle.std.proofs.Common.{sym, ap, subst, ◌∙◌, inl, inr}
use Rattle.sf_call.specs.declared.call.Call.{Call}
use Rattle.sf_call.specs.declared.call.Stage.TheVariants as stage
use Rattle.sf_call.specs.declared.record.Record.{Record}
use Rattle.sf_call.specs.declared.request.Request.{Request}
use Rattle.sf_call.specs.Unanswered.{at_stage}
use Rattle.sf_inode.specs.Stores.{StoreState}
use Rattle.sf_coupling.specs.Walks.{HeldPath, Holds}
use Rattle.sf_coupling.proofs.Laws.{same_or_not}
use Rattle.sf_call.specs.Routes.{route_of}
use Rattle.sf_walk.specs.Ways.{request_names}
use Rattle.sf_walk.specs.Files.{cuts_file}
use Rattle.sf_walk.specs.Served.{LookedUp, MakesLookUps, after_look_ups}
use Rattle.sf_walk.proofs.Laws.{IsSameGround, same_itself, same_trans}
use Rattle.sf_core.specs.Cores.{call_at}
use Rattle.sf_core.specs.Progress.{waiting_reply, IsCopying}
use Rattle.sf_core.specs.Parts.{PartsView}
use Rattle.sf_core.specs.Sound.{held_paths_at, held_paths_in, Sound}
use Rattle.sf_core.specs.Finishing.{write_finished, FinishesWriter}
use Rattle.sf_core.proofs.Maps.{some_eq}
use Rattle.sf_core.proofs.Updates.{Updates, updates_staged}
use Rattle.sf_core.proofs.LookUps.{looks_of_looked}
use Rattle.sf_core.proofs.Writers.{none_copied, some_copied, writer_is}
use Rattle.sf_core.proofs.SparedFiles.{file_writer, copying_stage}
use Rattle.sf_core.proofs.Unrecorded.{looked_sound}
use Rattle.sf_core.proofs.BlockSteps.{end_ground, end_sound}

-- a call is unchanged, or its remaining blocks were copied, for a reason
abbrev pub IsStill : PartsView → Type 0 → ℕ → Call → Type 0
IsStill q why m d = (call_at q.calls m ≡ Some d) ⊎ (IsCopying d.stage × (call_at q.calls m ≡ Some (at_stage stage.Fresh d)) × why)

pub still_on : (q s : PartsView) (one other : Type 0) (m : ℕ) (d : Call) → IsStill q one m d → ((x : Call) → call_at q.calls m ≡ Some x → IsStill s other m x) → IsStill s (one ⊎ other) m d
still_on q s one other m d (inl at) next = elim (next d at) [ inl there ↦ inl there | inr x ↦ inr (x.0, x.1, inr x.2) ]
still_on q s one other m d (inr x) next = elim (next (at_stage stage.Fresh d) x.1) [ inl at ↦ inr (x.0, at, inl x.2) | inr y ↦ absurd y.0 ]

-- a reason may be replaced by one that follows from it
pub still_for : (s : PartsView) (one other : Type 0) → (one → other) → (m : ℕ) (d : Call) → IsStill s one m d → IsStill s other m d
still_for s one other f m d (inl at) = inl at
still_for s one other f m d (inr x) = inr (x.0, x.1, f x.2)

-- an undecided call is not copying
pub not_copying : (p : PartsView) (h : List Record) → Sound p h → (m : ℕ) (d : Call) → call_at p.calls m ≡ Some d → waiting_reply d ≡ None → IsCopying d.stage → ⊥
not_copying p h sound m d at undecided copies = let g = copying_stage d.stage copies in some_copied d.stage g.0 g.1 g.2 (none_copied (route_of d.request) d.stage (sound.coupled.positions m d at undecided))

-- an undecided call
pub record UndecidedCall (p : PartsView) (m : ℕ) : Type 0 where
  pub call : Call
  pub at : call_at p.calls m ≡ Some call
  pub undecided : waiting_reply call ≡ None

pub still_undecided : (p q : PartsView) (h : List Record) → Sound p h → (why : Type 0) (m : ℕ) (d : UndecidedCall p m) → IsStill q why m d.call → call_at q.calls m ≡ Some d.call
still_undecided p q h sound why m d (inl e) = e
still_undecided p q h sound why m d (inr f) = absurd (not_copying p h sound m d.call d.at d.undecided f.0)

-- lookups were made for a call, and at most one WRITE was completed, if the call sets a file's
-- length
pub record Readied (p q : PartsView) (h : List Record) (most : ℕ) (r : Request) : Type 0 where
  pub sound : Sound q h
  pub ground : IsSameGround p.store q.store
  pub stood : (m : ℕ) (s : HeldPath) → Holds (held_paths_in q.calls m) s → Holds (held_paths_in p.calls m) s
  pub each : (m : ℕ) (d : Call) → call_at p.calls m ≡ Some d → IsStill q (cuts_file r ≡ true) m d
  pub book : q.book ≡ p.book
  pub sessions : q.sessions ≡ p.sessions
  pub drawn : q.drawn ≡ p.drawn
  pub joins : q.joins ≡ p.joins
  pub looks : MakesLookUps p.store q.store most

ground_counted : (k : ℕ) (s : StoreState) → IsSameGround s (after_look_ups k s)
ground_counted zero s = same_itself s
ground_counted (suc k) s = let g = ground_counted k s in record { step = g.step; root = g.root; directory = g.directory }

pub ground_looked : (s t : StoreState) (most : ℕ) → LookedUp s t most → IsSameGround s t
ground_looked s t most looked = subst (IsSameGround s) (sym looked.state) (ground_counted looked.count s)

module _ (p : PartsView) (h : List Record) (sound : Sound p h) (looked : StoreState) (most : ℕ) (looks : LookedUp p.store looked most) (r : Request) where
  abbrev m : PartsView
  m = record { store = looked; book = p.book; sessions = p.sessions; calls = p.calls; drawn = p.drawn; joins = p.joins }

  sound_m : Sound m h
  sound_m = looked_sound p h sound looked most looks (ground_looked p.store looked most looks)

  readied_alone : Readied p m h most r
  readied_alone = record {
    sound = sound_m;
    ground = ground_looked p.store looked most looks;
    stood = λ k s hold. hold;
    each = λ k d at. inl at;
    book = refl;
    sessions = refl;
    drawn = refl;
    joins = refl;
    looks = looks_of_looked p.store looked most looks;
  }

  -- the WRITE that holds a file is completed
  module _ (d : Call) (left : ℕ) (at : call_at p.calls d.number ≡ Some d) (node : ℕ) (is : d.stage ≡ stage.Copies node left) (cuts : cuts_file r ≡ true) where
    abbrev q : PartsView
    q = write_finished m d.number node

    updates : Updates p.calls q.calls d.number (Some d) (Some (at_stage stage.Fresh d))
    updates = updates_staged p.calls d.number d stage.Fresh at

    readied_end : Readied p (write_finished m d.number node) h most r
    readied_end = let looks_up = looks_of_looked p.store looked most looks in record {
      sound = end_sound m h sound_m d at node left is;
      ground = same_trans p.store looked q.store (ground_looked p.store looked most looks) (end_ground m h sound_m d at node left is);
      stood = λ k s hold. elim (same_or_not k d.number) [
        | inl e ↦ absurd (subst (λ (o : Option Call). Holds (option_map_or held_paths_at o []) s) (ap (call_at q.calls) e ∙ updates.now_is) hold)
        | inr ne ↦ subst (λ (o : Option Call). Holds (option_map_or held_paths_at o []) s) (updates.rest k ne) hold
      ];
      each = λ k x there. elim (same_or_not k d.number) [
        | inl e ↦
            let same : d ≡ x = some_eq d x (sym at ∙ ap (call_at p.calls) (sym e) ∙ there) in
            inr (subst (λ (y : Call). IsCopying y.stage) same (subst IsCopying (sym is) tt), ap (call_at q.calls) e ∙ updates.now_is ∙ ap (λ (y : Call). Some (at_stage stage.Fresh y)) same, cuts)
        | inr ne ↦ inl (updates.rest k ne ∙ there)
      ];
      book = refl;
      sessions = refl;
      drawn = refl;
      joins = refl;
      looks = record { count = looks_up.count; few = looks_up.few; look_ups = looks_up.look_ups };
    }

pub readied : (p q : PartsView) (h : List Record) → Sound p h → (c : Call) → FinishesWriter p q c → Readied p q h (request_names c.request) c.request
readied p q h sound c fin = elim fin.finished [
  | inl none ↦ subst (λ (x : PartsView). Readied p x h (request_names c.request) c.request) (sym none.1) (readied_alone p h sound fin.looked (request_names c.request) fin.looks c.request)
  | inr w ↦
      let most = request_names c.request in
      let looked = sound_m p h sound fin.looked most fin.looks c.request in
      let f = file_writer fin.looked p.calls looked.copied.copies w.0.node w.0.number (writer_is fin.looked.nodes w.0.node w.0.number w.1.file w.1.held) in
      let number : f.0.number ≡ w.0.number = (sound.ledger.calls w.0.number f.0 f.2).is_number in
      let at : call_at p.calls f.0.number ≡ Some f.0 = ap (call_at p.calls) number ∙ f.2 in
      subst (λ (x : PartsView). Readied p x h most c.request) (sym w.2)
      (subst (λ (k : ℕ). Readied p (write_finished (record p { store = fin.looked }) k w.0.node) h most c.request) number (readied_end p h sound fin.looked most fin.looks c.request f.0 f.1 at w.0.node f.3 w.1.cuts))
]
