-- A call that is helped, after its paths were resolved from the root.
use Rattle.std.specs.Prelude.{◌≡◌, ◌⊎◌, ◌&&◌, ◌||◌, ℕ, true, false, not, nat_eq, is_none, List, [], ◌∷◌, option_map, Option, Some, None, refl}
use Rattle.std.specs.Option.{option_map_or}
use Rattle.std.proofs.Common.{sym, ap, subst, ◌∙◌, inl, inr, eq-eqb}
use Rattle.sf_path.specs.Names.{Path}
use Rattle.sf_reply.specs.declared.reply.Reply.{Reply}
use Rattle.sf_call.specs.declared.call.Call.{Call}
use Rattle.sf_call.specs.declared.call.Stage.{Stage}
use Rattle.sf_call.specs.declared.call.Stage.TheVariants as stage
use Rattle.sf_call.specs.declared.request.Request.{Request}
use Rattle.sf_call.specs.declared.record.Record.{Record}
use Rattle.sf_call.specs.Unanswered.{at_stage, staged, staged_by, answered, answered_by, with_reply}
use Rattle.sf_coupling.proofs.Laws.{same_or_not}
use Rattle.sf_walk.specs.declared.finding.Ways.{Ways}
use Rattle.sf_walk.specs.Ways.{IsLocated}
use Rattle.sf_walk.specs.Files.{IsSettled, file_handle}
use Rattle.sf_call.specs.Routes.{Route, route_of}
use Rattle.sf_walk.specs.Routes.{paths_on, reached_at}
use Rattle.sf_walk.specs.Steps.{is_one_of}
use Rattle.sf_core.specs.Cores.{call_at}
use Rattle.sf_core.specs.Progress.{waiting_reply, has_passed, are_past, overtaken}
use Rattle.sf_core.specs.Parts.{PartsView}
use Rattle.sf_core.specs.Sound.{Sound}
use Rattle.sf_core.specs.Stepping.{all_set_back}
use Rattle.sf_core.specs.Finishing.{IsSettledWhereFree, KeepsRequests, AreOnPaths, FinishesWriter, IsReadyToHelp}
use Rattle.sf_core.proofs.Maps.{by_value, some_eq, none_some, no_value, some_value, none_of, or_right}
use Rattle.sf_core.proofs.FreeFiles.{handle_route}
use Rattle.sf_core.proofs.Numbers.{among}
use Rattle.sf_core.proofs.SettingBack.{back_if, calls_back, AreBack, all_back}
use Rattle.sf_core.proofs.BeforeDeciding.{three_true}
use Rattle.sf_core.proofs.Updates.{updates_staged, updates_answered}

-- the same call, unchanged or at its start again
abbrev pub IsBackOr : Call → Call → Type 0
IsBackOr y x = (y ≡ x) ⊎ (y ≡ at_stage stage.Fresh x)

pub back_request : (y x : Call) → IsBackOr y x → y.request ≡ x.request
back_request y x (inl e) = ap (λ (c : Call). c.request) e
back_request y x (inr e) = ap (λ (c : Call). c.request) e

pub back_copy : (y x : Call) → IsBackOr y x → y.copy ≡ x.copy
back_copy y x (inl e) = ap (λ (c : Call). c.copy) e
back_copy y x (inr e) = ap (λ (c : Call). c.copy) e

pub back_same : (y x : Call) → IsBackOr y x → x.stage ≡ stage.Fresh → y ≡ x
back_same y x (inl e) fresh = e
back_same y x (inr e) fresh = e ∙ ap (λ (g : Stage). at_stage g x) (sym fresh)

staged_call : (calls : List (ℕ × Call)) (k n : ℕ) (x : Call) → call_at calls n ≡ Some x → (y : Call) × (call_at (staged calls k stage.Fresh) n ≡ Some y) × IsBackOr y x
staged_call calls k n x at =
    elim (call_at calls k) as (λ o. call_at calls k ≡ o → (y : Call) × (call_at (staged_by calls k stage.Fresh o) n ≡ Some y) × IsBackOr y x) [
      | None ↦ λ e. (x, at, inl refl)
      | Some z ↦ λ e.
          let u = updates_staged calls k z stage.Fresh e in
          let is = ap (staged_by calls k stage.Fresh) e in
          elim (same_or_not n k) [
            | inl same ↦
                let one : z ≡ x = some_eq z x (sym e ∙ ap (call_at calls) (sym same) ∙ at) in
                (at_stage stage.Fresh x, ap (λ cs. call_at cs n) (sym is) ∙ ap (call_at (staged calls k stage.Fresh)) same ∙ u.now_is ∙ ap (λ (c : Call). Some (at_stage stage.Fresh c)) one, inr refl)
            | inr ne ↦ (x, ap (λ cs. call_at cs n) (sym is) ∙ u.rest n ne ∙ at, inl refl)
          ]
    ] refl

module _ (p q : PartsView) (c : Call) (fin : FinishesWriter p q c) where
  finished_book : q.book ≡ p.book
  finished_book = elim fin.finished [ inl e ↦ ap (λ (x : PartsView). x.book) e.1 | inr w ↦ ap (λ (x : PartsView). x.book) w.2 ]

  finished_call : (n : ℕ) (x : Call) → call_at p.calls n ≡ Some x → (y : Call) × (call_at q.calls n ≡ Some y) × IsBackOr y x
  finished_call n x at = elim fin.finished [
    | inl e ↦ (x, ap (λ (z : PartsView). call_at z.calls n) e.1 ∙ at, inl refl)
    | inr w ↦ let s = staged_call p.calls w.0.number n x at in (s.0, ap (λ (z : PartsView). call_at z.calls n) w.2 ∙ s.1, s.2)
  ]

staged_none : (calls : List (ℕ × Call)) (k n : ℕ) → call_at calls n ≡ None → call_at (staged calls k stage.Fresh) n ≡ None
staged_none calls k n none =
    by_value (call_at calls k) (λ e. ap (λ cs. call_at cs n) (ap (staged_by calls k stage.Fresh) e) ∙ none)
    (λ z e. (updates_staged calls k z stage.Fresh e).rest n (λ same. none_some z (sym none ∙ ap (call_at calls) same ∙ e)) ∙ none)

-- each call is unchanged, or at its start again
module _ (p q : PartsView) (c : Call) (fin : FinishesWriter p q c) where
  finished_none : (n : ℕ) → call_at p.calls n ≡ None → call_at q.calls n ≡ None
  finished_none n none = elim fin.finished [
    | inl e ↦ ap (λ (z : PartsView). call_at z.calls n) e.1 ∙ none
    | inr w ↦ ap (λ (z : PartsView). call_at z.calls n) w.2 ∙ staged_none p.calls w.0.number n none
  ]

  pub finished_requests : KeepsRequests p q
  finished_requests n d at_q =
      let x = some_value (call_at p.calls n) (λ e. none_some d (sym (finished_none n e) ∙ at_q)) in
      let f = finished_call p q c fin n x.0 x.1 in
      (x.0, x.1, back_request d x.0 (subst (λ (y : Call). IsBackOr y x.0) (some_eq f.0 d (sym f.1 ∙ at_q)) f.2))

-- a reply preserves requests
pub answered_request : (calls : List (ℕ × Call)) (k n : ℕ) (given : Reply) (d : Call) → call_at (answered calls k given) n ≡ Some d → (x : Call) × (call_at calls n ≡ Some x) × (d.request ≡ x.request)
answered_request calls k n given d at =
    elim (call_at calls k) as (λ o. call_at calls k ≡ o → (x : Call) × (call_at calls n ≡ Some x) × (d.request ≡ x.request)) [
      | None ↦ λ e. (d, sym (ap (λ cs. call_at cs n) (ap (answered_by calls k given) e)) ∙ at, refl)
      | Some z ↦ λ e.
          let u = updates_answered calls k z given e in
          elim (same_or_not n k) [
            | inl same ↦
                let is : with_reply given z ≡ d = some_eq (with_reply given z) d (sym u.now_is ∙ ap (call_at (answered calls k given)) (sym same) ∙ at) in
                (z, ap (call_at calls) same ∙ e, ap (λ (y : Call). y.request) (sym is))
            | inr ne ↦ (d, sym (u.rest n ne) ∙ at, refl)
          ]
    ] refl

module _ (p q : PartsView) (n : ℕ) (ways : Ways) (ready : (c : Call) → call_at p.calls n ≡ Some c → IsReadyToHelp p q c ways) (none : call_at p.calls n ≡ None → q ≡ p) (settled : IsSettledWhereFree p.store) where
  pub book_same : q.book ≡ p.book
  book_same = by_value (call_at p.calls n) (λ e. ap (λ (x : PartsView). x.book) (none e)) (λ c e. finished_book p q c (ready c e).finishes)

  pub requests_then : KeepsRequests p q
  requests_then = by_value (call_at p.calls n) (λ e. λ k d at_q. (d, ap (λ (x : PartsView). call_at x.calls k) (sym (none e)) ∙ at_q, refl)) (λ c e. finished_requests p q c (ready c e).finishes)

  pub settled_then : IsSettledWhereFree q.store
  settled_then = by_value (call_at p.calls n) (λ e. subst (λ (x : PartsView). IsSettledWhereFree x.store) (sym (none e)) settled) (λ c e. (ready c e).settled)

  pub still_none : call_at q.calls n ≡ None → (c : Call) → call_at p.calls n ≡ Some c → ⊥
  still_none gone c at = let f = finished_call p q c (ready c at).finishes n c at in none_some f.0 (sym gone ∙ f.1)

  -- the call after the event, from the one before
  pub same_call : (x y : Call) → call_at p.calls n ≡ Some x → call_at q.calls n ≡ Some y → IsBackOr y x
  same_call x y at at_q = let f = finished_call p q x (ready x at).finishes n x at in subst (λ (z : Call). IsBackOr z x) (some_eq f.0 y (sym f.1 ∙ at_q)) f.2

  pub the_call : (y : Call) → call_at q.calls n ≡ Some y → (x : Call) × (call_at p.calls n ≡ Some x) × IsBackOr y x
  the_call y at_q =
      let x = some_value (call_at p.calls n) (λ e. none_some y (sym e ∙ ap (λ (z : PartsView). call_at z.calls n) (sym (none e)) ∙ at_q)) in
      (x.0, x.1, same_call x.0 y x.1 at_q)

  pub located_then : (y : Call) → call_at q.calls n ≡ Some y → IsLocated q.store y.request ways
  located_then y at_q = let x = the_call y at_q in subst (λ (r : Request). IsLocated q.store r ways) (sym (back_request y x.0 x.2)) (ready x.0 x.1).located

  pub settled_call : ((c : Call) → call_at p.calls n ≡ Some c → file_handle c.request ≡ None) → (y : Call) → call_at q.calls n ≡ Some y → IsSettled q.store y.session y.request ways.path
  settled_call path y at_q =
      let x = the_call y at_q in
      subst (λ (r : Request). IsSettled q.store y.session r ways.path) (sym (back_request y x.0 x.2)) (record {
        by_handle = λ number h is opens. absurd (none_some number (sym (path x.0 x.1) ∙ is));
        on_path = λ parent node cuts there. (ready x.0 x.1).cut parent node cuts there;
      })

-- ---- the calls of several numbers
pub path_first : (p : PartsView) (n : ℕ) (ns : List ℕ) → AreOnPaths p (n ∷ ns) → (c : Call) → call_at p.calls n ≡ Some c → file_handle c.request ≡ None
path_first p n ns paths c at = paths n c (ap (λ b. b || is_one_of n ns) (eq-eqb n n refl)) at

pub paths_later : (p q : PartsView) (n : ℕ) (ns : List ℕ) → KeepsRequests p q → AreOnPaths p (n ∷ ns) → AreOnPaths q ns
paths_later p q n ns kept paths m d here at =
    let x = kept m d at in
    ap file_handle x.2 ∙ paths m x.0 (or_right (nat_eq m n) (is_one_of m ns) here) x.1

-- a call that has passed a path holds one
no_path_passed : (at : Stage) (old : Path) → are_past (reached_at at) [] old ≡ true → ⊥
no_path_passed stage.Fresh old e = cc
no_path_passed _ old e = cc

passed_walks : (r : Request) (at : Stage) (old : Path) → are_past (reached_at at) (paths_on (route_of r)) old ≡ true → file_handle r ≡ None
passed_walks r at old e = no_value (file_handle r) (λ n h. no_path_passed at old (subst (λ (x : Route). are_past (reached_at at) (paths_on x) old ≡ true) (handle_route r n h) e))

-- the calls to be helped are undecided, and have passed the path
module _ (p : PartsView) (h : List Record) (sound : Sound p h) (n : ℕ) (old : Path) where
  overtaken_is : (k : ℕ) (d : Call) → is_one_of k (overtaken p.calls n (Some old)) ≡ true → call_at p.calls k ≡ Some d → (waiting_reply d ≡ None) × (has_passed d old ≡ true)
  overtaken_is k d here at =
      let t = sym (ap (λ (o : Option Call). option_map_or (λ (x : Call). not (nat_eq k n) && is_none (waiting_reply x) && has_passed x old) o false) at)
      ∙ sym (among (λ (e : ℕ × Call). not (nat_eq e.0 n) && is_none (waiting_reply e.1) && has_passed e.1 old) p.calls sound.ledger.calls_rise k) ∙ here in
      let three = three_true (not (nat_eq k n)) (is_none (waiting_reply d)) (has_passed d old) t in
      (none_of (waiting_reply d) three.1, three.2)

  overtaken_back : AreBack p (all_set_back p (overtaken p.calls n (Some old))) h
  overtaken_back = all_back (overtaken p.calls n (Some old)) p h sound (λ k d here at. (overtaken_is k d here at).0)

  pub overtaken_settled : IsSettledWhereFree (all_set_back p (overtaken p.calls n (Some old))).store
  overtaken_settled id free = overtaken_back.sound.copied.copies.settled id free

  pub overtaken_paths : AreOnPaths (all_set_back p (overtaken p.calls n (Some old))) (overtaken p.calls n (Some old))
  overtaken_paths k d here at =
      let ns = overtaken p.calls n (Some old) in
      let is = sym (calls_back ns p k ∙ ap (λ b. back_if b (call_at p.calls k)) here) ∙ at in
      let x = some_value (call_at p.calls k) (λ e. none_some d (sym (ap (option_map (at_stage stage.Fresh)) e) ∙ is)) in
      let request = some_eq (at_stage stage.Fresh x.0) d (sym (ap (option_map (at_stage stage.Fresh)) x.1) ∙ is) in
      ap (λ (y : Call). file_handle y.request) (sym request) ∙ passed_walks x.0.request x.0.stage old (overtaken_is k x.0 here x.1).1
