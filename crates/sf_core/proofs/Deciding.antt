-- A call is decided: the core stays sound, and the decision is as `Decides` says.
use Rattle.std.specs.Prelude.{◌≡◌, ◌≢◌, ◌⊎◌, ◌<◌, ◌+◌, ℕ, zero, suc, nat_eq, ◌||◌, true, false, List, [], ◌∷◌, ◌++◌, length, take, slice_get, option_map, option_and_then, Option, Some, None, is_some, refl}
use Rattle.std.specs.Option.{option_map_or}
use Rattle.std.proofs.Common.{sym, ap, subst, ◌∙◌, inl, inr, arith, add-one, append-nil, eq-eqb}
use Rattle.std.specs.List.{AllByRecursion}
use Rattle.std.proofs.lemmas.Option.{get_or_from_slice_get}
use Rattle.std.proofs.Math.Seq.{take-suc}
use Rattle.std.proofs.lemmas.List.{append_assoc}
use Rattle.sf_path.specs.Names.{Name, Path}
use Rattle.sf_reply.specs.declared.reply.Reply.{Reply}
use Rattle.sf_book.specs.Books.{BookView}
use Rattle.sf_call.specs.Answers.{AnswerView}
use Rattle.sf_call.specs.declared.call.Call.{Call}
use Rattle.sf_call.specs.declared.call.Stage.{Stage}
use Rattle.sf_call.specs.declared.call.Stage.TheVariants as stage
use Rattle.sf_call.specs.declared.record.Record.{Record}
use Rattle.sf_call.specs.declared.metadata.Metadata.{Metadata}
use Rattle.sf_call.specs.Attributes.{Object}
use Rattle.sf_call.specs.Tree.{Tree, label_at, object_of, directory_metadata, is_directory}
use Rattle.sf_call.specs.Changes.{moved_by}
use Rattle.sf_call.specs.Calls.{answer_to}
use Rattle.sf_call.specs.Histories.{replay, IsGiven}
use Rattle.sf_call.proofs.Laws.{never_wants, given_before}
use Rattle.sf_call.specs.Unanswered.{at_stage, with_reply}
use Rattle.sf_inode.specs.declared.node.Node.{Node}
use Rattle.sf_inode.specs.declared.node.Content.{Content}
use Rattle.sf_inode.specs.declared.node.Content.TheVariants as content
use Rattle.sf_inode.specs.Nodes.{object_in, is_directory_content}
use Rattle.sf_inode.specs.Stores.{StoreState, node_in, child_of, holder_of}
use Rattle.sf_keeps.specs.Steps.{walk}
use Rattle.sf_keeps.specs.Keeps.{Keeps}
use Rattle.sf_keeps.proofs.Laws.{object_there, reached_node, label_found, walk_on}
use Rattle.sf_coupling.specs.Walks.{Holds}
use Rattle.sf_copying.specs.Copies.{copying}
use Rattle.sf_walk.specs.declared.finding.Ways.{Ways}
use Rattle.sf_walk.specs.declared.walking.Walk.TheVariants as walked
use Rattle.sf_call.specs.Routes.{Route, route_of}
use Rattle.sf_walk.specs.Routes.{HoldsWay}
use Rattle.sf_walk.specs.Files.{IsFileFree, IsSettled}
use Rattle.sf_walk.specs.Served.{IsUnused}
use Rattle.sf_walk.specs.Steps.{is_one_of, walker, LeadsNowhere, EndsAt, MayDecideAt, AreFree}
use Rattle.sf_walk.specs.Steps.MayDecideWhere.{AtOnce, AtRoot, AtEnd}
use Rattle.sf_walk.proofs.Laws.{looked_nodes, ground_stays}
use Rattle.sf_core.specs.declared.step.Step.TheVariants as step
use Rattle.sf_core.specs.Lanes.{LaneView, at_rest}
use Rattle.sf_core.specs.Cores.{call_at, session_at, lane_state}
use Rattle.sf_core.specs.Progress.{waiting_reply, IsCopying, EndsWalk, MayDecideBy, did, overtaken}
use Rattle.sf_core.specs.Sure.{IsSure, AreSure}
use Rattle.sf_core.specs.Events.{AreRecordsOf, IsOfOther, HasCut, IsHelped, IsFinished, Decides}
use Rattle.sf_core.specs.Parts.{PartsView, core_of}
use Rattle.sf_core.specs.Sound.{held_paths_at, Sound}
use Rattle.sf_core.specs.Stepping.{session_set_by, FinishState, Walked, Overtakes}
use Rattle.sf_core.proofs.Maps.{or_right, some_eq, none_some, reply_is}
use Rattle.sf_core.proofs.Updates.{Updates, updates_set, updates_removed}
use Rattle.sf_core.proofs.LookUps.{looks_between, looks_fit, looks_of_looked}
use Rattle.sf_core.proofs.Histories.{among_last}
use Rattle.sf_core.proofs.Ledgers.{other_session}
use Rattle.sf_core.proofs.Recorded.{new_to, finished}
use Rattle.sf_core.proofs.Unrecorded.{looked_sound}
use Rattle.sf_core.proofs.SparedFiles.{copying_is, copying_stage}
use Rattle.sf_core.proofs.FreeFiles.{file_free_looked, settled_free}
use Rattle.sf_core.proofs.Deeper.{on_way}
use Rattle.sf_core.proofs.BeforeDeciding.{Prepared, prepared, overtaken_other}
use Rattle.sf_core.proofs.LaneStates.{slot_kept, slot_busy, slot_idle, own_call, left_is, left_one, left_copying, some_left}
use Rattle.sf_core.specs.Writing.{CopiesOne}
use Rattle.sf_core.proofs.OneBlock.{one_block}
use Rattle.sf_core.proofs.Turns.{IsStep, IsTurn, apart}

-- ---- when a call may be decided, by the tree
no_label : (t : Tree) (q : Path) → label_at t.names q ≡ None → is_directory t q ≡ false
no_label t q e = ap (λ (o : Option ℕ). is_some {T = ℕ × Metadata} (option_and_then (λ label. option_map (λ (m : Metadata). (label, m)) (option_and_then directory_metadata (object_of t.objects label))) o)) e

no_metadata : (m : Metadata) (c : Content) → is_directory_content c ≡ false → directory_metadata (object_in m c) ≡ None
no_metadata m (content.Directory es) e = cc
no_metadata m (content.File b) e = refl

no_directory : (t : Tree) (q : Path) (label : ℕ) (o : Object) → label_at t.names q ≡ Some label → object_of t.objects label ≡ Some o → directory_metadata o ≡ None → is_directory t q ≡ false
no_directory t q label o e f g =
    ap (λ (x : Option ℕ). is_some {T = ℕ × Metadata} (option_and_then (λ l. option_map (λ (m : Metadata). (l, m)) (option_and_then directory_metadata (object_of t.objects l))) x)) e
    ∙ ap (λ (x : Option Object). is_some {T = ℕ × Metadata} (option_map (λ (m : Metadata). (label, m)) (option_and_then directory_metadata x))) f
    ∙ ap (λ (x : Option Metadata). is_some {T = ℕ × Metadata} (option_map (λ (m : Metadata). (label, m)) x)) g

-- one component further
take_next : (p : Path) (i : ℕ) (n : Name) → i < length p → slice_get p i ≡ Some n → take (i + 1) p ≡ take i p ++ n ∷ []
take_next p i n h g = ap (λ j. take j p) (add-one i) ∙ take-suc p i [] h ∙ ap (λ (x : Name). take i p ++ x ∷ []) (get_or_from_slice_get p i n [] g)

-- the component after a prefix of a path
record NameBehind (path : Path) (walked : ℕ) : Type 0 where
  name : Name
  short : walked < length path
  is : slice_get path walked ≡ Some name

next_walk : (s : StoreState) (t : Tree) → Keeps s t → (path : Path) (w : ℕ) (n : NameBehind path w) (node : ℕ) → walk (child_of s.nodes) s.root (take w path) ≡ Some node
    → walk (child_of s.nodes) s.root (take (w + 1) path) ≡ child_of s.nodes node n.name
next_walk s t keeps path w n node leads = ap (walk (child_of s.nodes) s.root) (take_next path w n.name n.short n.is) ∙ walk_on s t keeps (take w path) node n.name leads

module _ (s : StoreState) (t : Tree) (keeps : Keeps s t) (path : Path) (w node : ℕ) (short : w < length path) (leads : walk (child_of s.nodes) s.root (take w path) ≡ Some node) where
  nothing_next : (o : Option Name) → slice_get path w ≡ o → w + 1 < length path → LeadsNowhere s.nodes node o → is_directory t (take (w + 1) path) ≡ false
  nothing_next None e more h = absurd (found_some w path short e)
    where
      found_some : (i : ℕ) (p : Path) → i < length p → slice_get p i ≡ None → ⊥
      found_some i [] less none = absurd (omega (arith, less))
      found_some zero (x ∷ p) less none = none_some x (sym none)
      found_some (suc i) (x ∷ p) less none = found_some i p (omega (arith, less)) none
  nothing_next (Some name) e more h =
      elim (child_of s.nodes node name) as (λ o. child_of s.nodes node name ≡ o → is_directory t (take (w + 1) path) ≡ false) [
        | None ↦ λ f. no_label t (take (w + 1) path)
            (label_found s t keeps (take (w + 1) path)
            ∙ ap (λ (o : Option ℕ). option_map (λ (x : Node). x.label) (option_and_then (node_in s.nodes) o)) (next_walk s t keeps path w (record { name = name; short = short; is = e }) node leads ∙ f))
        | Some child ↦ λ f.
            let found = next_walk s t keeps path w (record { name = name; short = short; is = e }) node leads ∙ f in
            let it = reached_node s t keeps (take (w + 1) path) child found in
            let label = label_found s t keeps (take (w + 1) path) ∙ ap (λ (o : Option ℕ). option_map (λ (x : Node). x.label) (option_and_then (node_in s.nodes) o)) found ∙ ap (option_map (λ (x : Node). x.label)) it.1 in
            let file : is_directory_content it.0.content ≡ false = sym (ap (λ (o : Option Node). option_map_or (λ (x : Node). is_directory_content x.content) o false) it.1) ∙ h child f in
            no_directory t (take (w + 1) path) it.0.label (object_in it.0.metadata it.0.content) label (object_there s t keeps child it.0 it.1) (no_metadata it.0.metadata it.0.content file)
      ] refl

pub may_by : (s : StoreState) (t : Tree) → Keeps s t → (r : Route) (at : Stage) → HoldsWay s r at → MayDecideAt s.nodes r at → MayDecideBy t r at
may_by s t keeps r at stands AtOnce = AtOnce
may_by s t keeps r at stands AtRoot = AtRoot
may_by s t keeps r at stands (AtEnd o g path from goes ends) = AtEnd r at path from goes (by ends)
  where
    by : EndsAt s.nodes path from → EndsWalk t path from.walked
    by (inl h) = inl h
    by (inr h) = inr (h.0, let way = on_way r at path from goes stands.position in nothing_next s t keeps path from.walked from.node way.0 (stands.leads _ way.1).names (slice_get path from.walked) refl h.0 h.1)

sure_more : (h rs : List Record) (r : Record) → AreSure h rs → IsSure (h ++ rs) r → AreSure h (rs ++ r ∷ [])
unfolding AreSure
sure_more h [] r a s = (subst (λ (x : List Record). IsSure x r) (append-nil h) s, tt)
sure_more h (x ∷ rs) r a s = (a.0, sure_more (h ++ x ∷ []) rs r a.1 (subst (λ (y : List Record). IsSure y r) (sym (append_assoc h (x ∷ []) rs)) s))

-- ---- the directories that a call holds
pub stands : (p : PartsView) (h : List Record) → Sound p h → (n : ℕ) (c : Call) → call_at p.calls n ≡ Some c → waiting_reply c ≡ None → HoldsWay p.store (route_of c.request) c.stage
stands p h sound n c at undecided = record {
  position = sound.coupled.positions n c at undecided;
  leads = λ held_path held. sound.coupled.walks.leads n held_path (subst (λ (o : Option Call). Holds (option_map_or held_paths_at o []) held_path) (sym at) held);
}

module _ (p : PartsView) (lane : LaneView) (c : Call) (turn : IsTurn p lane c) (undecided : waiting_reply c ≡ None) (q : PartsView) (ways : Ways) (w : Walked p q c c.number (walked.Ready ways)) (free : IsFileFree p.store c) where
  pub ready_sound : (h : List Record) → Sound p h → Sound q h
  ready_sound h sound =
      subst (λ (x : PartsView). Sound x h) (λ i. record { store = q.store; book = sym w.book i; sessions = sym w.sessions i; calls = sym w.calls i; drawn = sym w.drawn i; joins = sym w.joins i })
      (looked_sound p h sound q.store 2 w.advances.looked (ground_stays p.store q.store (walker c.number (route_of c.request) c.stage) (walked.Ready ways) w.advances))

  pub at_q : call_at q.calls c.number ≡ Some c
  at_q = ap (λ cs. call_at cs c.number) w.calls ∙ turn.at

  free_q : AreFree (holder_of q.store.nodes) c.number (route_of c.request) ways
  free_q = subst (λ (ns : List (Option Node)). AreFree (holder_of ns) c.number (route_of c.request) ways) (sym (looked_nodes p.store q.store 2 w.advances.looked)) w.advances.free

  -- the files that it uses have no blocks left to copy
  pub ready_settled : (h : List Record) → Sound p h → IsSettled q.store c.session c.request ways.path
  ready_settled h sound = settled_free q h (ready_sound h sound) c at_q undecided (file_free_looked p.store q.store 2 c w.advances.looked free) ways w.advances.located free_q

  module _ (m : PartsView) (over : Overtakes q m c) where
    pub made : (h : List Record) → Sound p h → Prepared q m h c ways
    made h sound =
        prepared q h c ways (record {
          sound = ready_sound h sound;
          fits = looks_fit p.store q.store 2 (looks_of_looked p.store q.store 2 w.advances.looked) turn.fits;
          at = at_q;
          undecided = undecided;
          located = w.advances.located;
          free = free_q;
          holds = w.advances.holds;
          settled = ready_settled h sound;
        }) m over

    module _ (r : PartsView) (given : Reply) (fin : FinishState m r c c.number given) (a : AnswerView) (is : a ≡ record { number = c.number; session = lane.session; reply = given }) where
      module _ (h : List Record) (sound : Sound p h) where
        abbrev it : Prepared q m h c ways
        it = made h sound

        -- the history before its record
        abbrev before : List Record
        before = h ++ (made h sound).helped

        unused : IsUnused (replay (h ++ (made h sound).helped)) c.number
        unused = new_to m (h ++ (made h sound).helped) c it.sound it.at undecided

        decided_sound : Sound r ((h ++ (made h sound).helped) ++ did c given ∷ [])
        decided_sound = finished m r before it.sound c it.at undecided given (it.labels given fin.records.mid (fin.records.serves.served (replay before) it.sound.history.tree unused) fin.records.serves.nodes) fin

        sure_last : IsSure (h ++ (made h sound).helped) (did c given)
        sure_last plain told =
            let s = fin.records.serves.sure (replay before) it.sound.history.tree unused plain in
            never_wants (replay before) c.session c.number c.moment c.request (sym s.told ∙ told)

        calls : Updates m.calls r.calls c.number (Some c) None
        calls = subst (λ cs. Updates m.calls cs c.number (Some c) None) (sym fin.calls) (updates_removed m.calls c.number c it.at it.sound.ledger.calls_rise)

        sessions : Updates m.sessions r.sessions c.session (Some (Some c.number)) (Some None)
        sessions =
            let busy = (it.sound.ledger.calls c.number c it.at).session in
            subst (λ ss. Updates m.sessions ss c.session (Some (Some c.number)) (Some None)) (sym (fin.sessions ∙ ap (session_set_by m.sessions c.session None) busy)) (updates_set m.sessions c.session (Some c.number) busy None)

        m_sessions : m.sessions ≡ p.sessions
        m_sessions = it.sessions ∙ w.sessions

        -- another session's WRITE was completed
        finished_told : (s k : ℕ) (d after : Call) → session_at p.sessions s ≡ Some (Some k) → call_at p.calls k ≡ Some d → session_at r.sessions s ≡ Some (Some k) → IsCopying d.stage → after ≡ at_stage stage.Fresh d
            → after.stage ≡ stage.Fresh → call_at r.calls k ≡ Some after → HasCut (made h sound).helped → IsFinished (core_of p) (core_of r) s (made h sound).helped
        finished_told s k d after was_at at_d now_at copies after_is fresh at_r cut =
            let g = copying_stage d.stage copies in
            let w = sound.copied.writing k d g.0 g.1 at_d g.2 in
            let some = sound.copied.copies.some k (copying g.0 g.1) (copying_is p.calls k d g.0 g.1 at_d g.2) in
            let has : waiting_reply after ≡ Some w.given = ap waiting_reply after_is ∙ reply_is (at_stage stage.Fresh d) ∙ sym (reply_is d) ∙ w.decided in
            let many = left_copying d w.given g.0 g.1 w.decided g.2 in
            let one = left_one after w.given has fresh in
            record {
              cut = cut;
              before = d;
              after = after;
              given = w.given;
              was = slot_busy (core_of p) s k d was_at at_d;
              copying = copies;
              now = slot_busy (core_of r) s k after now_at at_r;
              same = record {
                number = ap (λ (x : Call). x.number) after_is;
                session = ap (λ (x : Call). x.session) after_is;
                moment = ap (λ (x : Call). x.moment) after_is;
                request = ap (λ (x : Call). x.request) after_is;
              };
              had = w.decided;
              has = has;
              rests = fresh;
              less = omega (arith, many, one, some);
            }

        -- the state of another session
        other_slot : (s : ℕ) → s ≢ lane.session → (lane_state (core_of r) s ≡ lane_state (core_of p) s) ⊎ IsHelped (core_of p) (core_of r) s (made h sound).helped ⊎ IsFinished (core_of p) (core_of r) s (made h sound).helped
        other_slot s ne = by (session_at p.sessions s) refl (sessions.rest s (λ e. ne (e ∙ turn.session)) ∙ ap (λ x. session_at x s) m_sessions)
          where
            by : (o : Option (Option ℕ)) → session_at p.sessions s ≡ o → session_at r.sessions s ≡ session_at p.sessions s → (lane_state (core_of r) s ≡ lane_state (core_of p) s) ⊎ IsHelped (core_of p) (core_of r) s (made h sound).helped ⊎ IsFinished (core_of p) (core_of r) s (made h sound).helped
            by None e same = inl (slot_kept (core_of p) (core_of r) s None e (same ∙ e) (λ k f. absurd (none_some (Some k) f)))
            by (Some None) e same = inl (slot_kept (core_of p) (core_of r) s (Some None) e (same ∙ e) (λ k f. absurd (none_some k (some_eq None (Some k) f))))
            by (Some (Some k)) e same =
                let b = (sound.ledger.sessions s (Some k) e).busy k refl in
                let d = b.0 in
                let not_own : k ≢ c.number = apart p lane c turn h sound s k ne e in
                let in_r = calls.rest k not_own in
                elim (it.each k d not_own (ap (λ (cs : List (ℕ × Call)). call_at cs k) w.calls ∙ b.1)) [
                  | inl still ↦ elim still [
                    | inl as_was ↦ inl (slot_kept (core_of p) (core_of r) s (Some (Some k)) e (same ∙ e)
                        (λ j f. let jk : k ≡ j = some_eq k j (some_eq (Some k) (Some j) f) in ap (call_at r.calls) (sym jk) ∙ in_r ∙ as_was ∙ sym b.1 ∙ ap (call_at p.calls) jk))
                    | inr over ↦ inr (inr (finished_told s k d (at_stage stage.Fresh d) e b.1 (same ∙ e) over.0 refl refl (in_r ∙ over.1) over.2))
                  ]
                  | inr was ↦
                      let e_is = with_reply was.0 (at_stage stage.Fresh d) in
                      let one = left_one e_is was.0 (reply_is e_is) refl in
                      let many = left_is d was.2 in
                      let some = some_left d d.stage (sound.coupled.positions k d b.1 was.2) in
                      inr (inl (record {
                        before = d;
                        after = e_is;
                        given = was.0;
                        was = slot_busy (core_of p) s k d e b.1;
                        undecided = was.2;
                        now = slot_busy (core_of r) s k e_is (same ∙ e) (in_r ∙ was.1);
                        same = record { number = refl; session = refl; moment = refl; request = refl };
                        decided = reply_is e_is;
                        rests = refl;
                        less = omega (arith, one, many, some);
                        recorded = was.3;
                      }))
                ]

        -- the records are of other sessions' calls
        of_others : (ns : List ℕ) (rs : List Record) → ((k : ℕ) → is_one_of k ns ≡ true → k ≢ c.number) → AreRecordsOf q.calls ns rs → AllByRecursion (IsOfOther (core_of p) lane.session) rs
        unfolding AreRecordsOf
        of_others [] [] others b = tt
        of_others (k ∷ ns) (x ∷ rs) others b =
            let d = b.0.0 in
            let at_p : call_at p.calls k ≡ Some d = sym (ap (λ (cs : List (ℕ × Call)). call_at cs k) w.calls) ∙ b.0.2 in
            let own = sound.ledger.calls k d at_p in
            let not_own = others k (ap (λ x. x || is_one_of k ns) (eq-eqb k k refl)) in (
              subst (IsOfOther (core_of p) lane.session) (sym b.0.4) (d, (λ e. other_session p sound.ledger c.number c turn.at k d not_own at_p (e ∙ sym turn.session)), slot_busy (core_of p) d.session k d own.session at_p, b.0.3, refl),
              of_others ns rs (λ j there. others j (or_right (nat_eq j k) (is_one_of j ns) there)) b.1,
            )
        of_others _ _ others b = absurd b

        decided_told : CopiesOne q.store c given → Decides (record { core = core_of p; history = h; lane = lane }) (record { core = core_of r; added = (made h sound).helped ++ did c given ∷ []; lane = at_rest lane }) c given
        decided_told one =
            let looks = looks_between p.store q.store 2 turn.fits (looks_of_looked p.store q.store 2 w.advances.looked) in
            let e = fin.look_ups in
            let more = it.more in
            let few = it.few in
            let ones = moved_by (answer_to (replay h) c.session c.number c.moment c.request).changes in
            record {
              own = own_call p sound.ledger lane c.number c turn.at turn.session turn.call;
              undecided = undecided;
              some = let many = left_is c undecided in let some = some_left c c.stage (sound.coupled.positions c.number c turn.at undecided) in omega (arith, many, some);
              new_number = sound.history.undecided c.number c turn.at undecided;
              position = sound.coupled.positions c.number c turn.at undecided;
              way = may_by p.store (replay h) sound.history.tree (route_of c.request) c.stage (stands p h sound c.number c turn.at undecided) w.advances.may;
              one = one_block q.store (replay h) (ready_sound h sound).history.tree c given one;
              helped = it.helped;
              order = record { records = subst (λ (cs : List (ℕ × Call)). AreRecordsOf cs (overtaken cs c.number ones) it.helped) w.calls it.records; rising = it.rising };
              of_others = of_others (overtaken q.calls c.number ones) it.helped (overtaken_other q.calls (ready_sound h sound).ledger.calls_rise c.number ones) it.records;
              sure = sure_more h it.helped (did c given) it.sure sure_last;
              records = refl;
              keep = ap (λ (b : BookView). b.keep) fin.records.book ∙ it.keep ∙ ap (λ (b : BookView). b.keep) w.book;
              slot = slot_idle (core_of r) lane.session (ap (session_at r.sessions) (sym turn.session) ∙ sessions.now_is);
              others = other_slot;
              joined = let a = sessions.size in let b = ap (λ (x : List (ℕ × Option ℕ)). length x) m_sessions in omega (arith, a, b);
              drawn = fin.records.drawn ∙ it.drawn ∙ w.drawn;
              joins = fin.records.joins ∙ it.joins ∙ w.joins;
              more = let a = looks.0 in omega (arith, a, e, more);
              few = let b = looks.1 in omega (arith, b, e, few);
            }

      pub decided_step : CopiesOne q.store c given → IsStep p lane (step.Answered a) r (at_rest lane)
      decided_step one h sound = (
        (made h sound).helped ++ did c given ∷ [],
        subst (λ (x : List Record). Sound r x) (append_assoc h (made h sound).helped (did c given ∷ [])) (decided_sound h sound),
        (
          (
            c,
            inr (subst (λ (g : Reply). Decides (record { core = core_of p; history = h; lane = lane }) (record { core = core_of r; added = (made h sound).helped ++ did c given ∷ []; lane = at_rest lane }) c g)
                (sym (ap (λ (x : AnswerView). x.reply) is)) (decided_told h sound one)),
          ),
          record { session = ap (λ (x : AnswerView). x.session) is; number = turn.call ∙ ap Some (sym (ap (λ (x : AnswerView). x.number) is)); lane = refl },
        ),
      )

    pub decided_given : (h : List Record) → Sound p h → (r : PartsView) (given : Reply) → FinishState m r c c.number given → IsGiven c.number lane.session given
    decided_given h sound r given fin =
        let s = decided_sound r given fin (record { number = c.number; session = lane.session; reply = given }) refl h sound in
        subst (λ k. IsGiven c.number k given) turn.session
        (given_before c.number c.session c.moment c.request given ((h ++ (made h sound).helped) ++ did c given ∷ []) s.history.legal (among_last (did c given) (h ++ (made h sound).helped)))
