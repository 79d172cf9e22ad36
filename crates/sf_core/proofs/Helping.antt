-- Helping: a call decides other sessions' calls, whose replies are then pending.
use Rattle.std.specs.Prelude.{◌≡◌, ◌≢◌, ◌⊎◌, ◌<◌, ◌≤◌, ◌+◌, ◌^◌, ◌||◌, ℕ, nat_eq, Bool, true, false, if◌then◌else◌, is_some, List, [], ◌∷◌, ◌++◌, map, option_map, option_and_then, filter_map, Option, Some, None, refl}
use Rattle.std.specs.Option.{option_map_or}
use Rattle.std.proofs.Common.{sym, ap, subst, ◌∙◌, inl, inr, arith, append-nil, IsSome, eqb-true, eq-eqb}
use Rattle.std.proofs.lemmas.List.{append_assoc}
use Rattle.std.proofs.lemmas.List.Sums.{sum_by-cons}
use Rattle.sf_path.specs.Names.{Name, Path}
use Rattle.sf_reply.specs.declared.reply.Reply.{Reply}
use Rattle.sf_book.specs.Books.{BookView}
use Rattle.sf_call.specs.declared.record.Record.{Record}
use Rattle.sf_call.specs.declared.call.Call.{Call}
use Rattle.sf_call.specs.declared.call.Stage.{Stage}
use Rattle.sf_call.specs.declared.call.Stage.TheVariants as stage
use Rattle.sf_call.specs.Tree.{Tree, label_at, after_front}
use Rattle.sf_call.specs.declared.request.Request.{Request}
use Rattle.sf_call.specs.Requests.{Target, target_of}
use Rattle.sf_call.specs.Requests.Target.{ByHandle, OnPath, OnPaths}
use Rattle.sf_call.specs.Changes.{Change, moved_by, done}
use Rattle.sf_call.specs.Calls.{answer_to, apply}
use Rattle.sf_call.specs.Histories.{after, replay, IsLegal, IsNewNumber, IsAmong}
use Rattle.sf_call.specs.Unanswered.{with_reply}
use Rattle.sf_call.proofs.Laws.{after_told, never_wants, named_way}
use Rattle.sf_laws.proofs.Laws.{below_labels, other_labels, unmoved_nested, moved_old}
use Rattle.sf_inode.specs.declared.node.Node.{Node}
use Rattle.sf_inode.specs.Stores.{StoreState, node_in, child_of, is_directory_at}
use Rattle.sf_keeps.specs.Steps.{walk}
use Rattle.sf_keeps.specs.Keeps.{Keeps}
use Rattle.sf_keeps.proofs.Laws.{reached_node, label_found, one_way}
use Rattle.sf_coupling.specs.Walks.{HeldPath, Holds}
use Rattle.sf_coupling.proofs.Laws.{same_or_not}
use Rattle.sf_call.specs.Routes.{Route, is_rooted, are_nested, route_at, route_of}
use Rattle.sf_walk.specs.Routes.{held_paths_of}
use Rattle.sf_call.specs.Routes.Route.{NoPath, Along, Between}
use Rattle.sf_walk.specs.Steps.{is_one_of}
use Rattle.sf_walk.specs.Served.{IsRefused, IsCarriedOut}
use Rattle.sf_walk.proofs.Laws.{walk_same}
use Rattle.sf_walk.specs.Ways.{request_names}
use Rattle.sf_core.specs.Cores.{call_at}
use Rattle.sf_core.specs.Progress.{waiting_reply, did, copy_of, IsCopying, names_in_record, names_in_records, record_number}
use Rattle.sf_core.specs.Sure.{AreSure}
use Rattle.sf_walk.specs.Files.{cuts_file}
use Rattle.sf_core.specs.Events.{AreRecordsOf, HasCut}
use Rattle.sf_core.specs.Parts.{PartsView}
use Rattle.sf_core.specs.Sound.{held_paths_at, held_paths_in, Sound}
use Rattle.sf_core.specs.Stepping.{freed, ServesCall, HelpState, HelpsAll}
use Rattle.sf_core.proofs.Maps.{or_right, some_eq, none_some}
use Rattle.sf_core.proofs.Updates.{Updates, updates_answered}
use Rattle.sf_core.proofs.LookUps.{looks_fit, looks_between}
use Rattle.sf_core.proofs.Finished.{still_for, IsStill, still_on, still_undecided, Readied, readied}
use Rattle.sf_core.proofs.Spared.{keeps_after, leads_still, directory_still, own_either}
use Rattle.sf_core.proofs.Recorded.{new_to, helped_sound}
use Rattle.sf_core.proofs.Numbers.{AreApart}
use Rattle.sf_core.proofs.Passing.{LiesBelow, begins_below, or_false}

-- the path doesn't lead strictly below the other
abbrev pub IsAside : Path → Path → Type 0
IsAside old path = (name : Name) (rest : Path) → after_front old path ≢ Some (name ∷ rest)

-- no call holds the path or anything below it
abbrev pub IsClear : PartsView → Path → Type 0
IsClear p old = (m : ℕ) (s : HeldPath) → Holds (held_paths_in p.calls m) s → after_front old s.path ≡ None

-- the call of this number is undecided, holds nothing, and lies below a path
pub record IsReady (p : PartsView) (old : Path) (number : ℕ) : Type 0 where
  pub call : Call
  pub at : call_at p.calls number ≡ Some call
  pub undecided : waiting_reply call ≡ None
  pub fresh : call.stage ≡ stage.Fresh
  pub below : LiesBelow old (route_of call.request)

-- these records were added by helping calls whose paths lead strictly below a path
pub record AreLed (old : Path) (p q : PartsView) (h helped : List Record) : Type 0 where
  pub sound : Sound q (h ++ helped)
  pub sure : AreSure h helped
  pub walks : (path : Path) → IsAside old path → walk (child_of q.store.nodes) q.store.root path ≡ walk (child_of p.store.nodes) p.store.root path
  pub directory : (path : Path) (l : ℕ) → IsAside old path → walk (child_of p.store.nodes) p.store.root path ≡ Some l → is_directory_at p.store.nodes l ≡ true → is_directory_at q.store.nodes l ≡ true
  pub stood : (m : ℕ) (s : HeldPath) → Holds (held_paths_in q.calls m) s → Holds (held_paths_in p.calls m) s
  pub sessions : q.sessions ≡ p.sessions
  pub drawn : q.drawn ≡ p.drawn
  pub joins : q.joins ≡ p.joins
  pub keep : q.book.keep ≡ p.book.keep
  pub fits : q.store.look_ups < 2 ^ 64
  pub more : p.store.look_ups ≤ q.store.look_ups
  pub few : q.store.look_ups ≤ p.store.look_ups + names_in_records helped

nested_none : (from to : Path) → are_nested from to ≡ true → after_front from to ≡ None → after_front to from ≡ None → ⊥
nested_none from to nested a b =
    let x : false ≡ true = (λ i. is_some (sym a i) || is_some (sym b i)) ∙ nested in
    cc

nested_either : (from to : Path) → are_nested from to ≡ true → IsSome (after_front from to) ⊎ IsSome (after_front to from)
nested_either from to nested =
    elim (is_some (after_front from to)) as (λ b. is_some (after_front from to) ≡ b → (b || is_some (after_front to from)) ≡ true → IsSome (after_front from to) ⊎ IsSome (after_front to from)) [
      | true ↦ λ e _. inl e
      | false ↦ λ e f. inr f
    ] refl nested

-- a request below a path leaves the labels of all paths that don't lead strictly below it
module _ (h : List Record) (number session moment : ℕ) (r : Request) (old x : Path) (legal : IsLegal h) (above : 0 < number) (fresh : IsNewNumber number h) (aside : IsAside old x) where
  lies_labels : (g : Target) → target_of r ≡ g → LiesBelow old (route_at g) → label_at (apply (replay h) session number moment r).tree.names x ≡ label_at (replay h).names x
  lies_labels (ByHandle handle) e below = absurd below
  lies_labels (OnPath path) e below = below_labels (record { tree = replay h; session = session; number = number; moment = moment; request = r }) old path x e (record { name = below.0; rest = below.1; is = below.2 }) aside
  lies_labels (OnPaths from to) e below = by (is_rooted from to) (are_nested from to) refl below
    where
      by : (a b : Bool) → are_nested from to ≡ b → LiesBelow old (if a then NoPath else if b then Along from else Between from to) → label_at (apply (replay h) session number moment r).tree.names x ≡ label_at (replay h).names x
      by true b is low = absurd low
      by false true nested low =
          elim (moved_by (answer_to (replay h) session number moment r).changes) as (λ o. moved_by (answer_to (replay h) session number moment r).changes ≡ o → label_at (apply (replay h) session number moment r).tree.names x ≡ label_at (replay h).names x) [
            | None ↦ λ none. ap (λ (changes : List Change). label_at (done (replay h) changes).names x)
                (unmoved_nested (replay h) session number moment r from to e (λ path label. named_way h path label legal) none (nested_either from to nested))
            | Some p ↦ λ moved.
                let is = (moved_old (record { history = h; session = session; number = number; moment = moment; request = r; legal = legal; above = above; fresh = fresh }) from to p e moved).1 in
                absurd (nested_none from to nested is.not_inside is.not_around)
          ] refl
      by false false is low =
          other_labels (replay h) session number moment r x (λ own. elim (own_either r from to x e own) [
            | inl is ↦ let b = begins_below old from x low.0 is in aside b.0 b.1 b.2
            | inr is ↦ let b = begins_below old to x low.1 is in aside b.0 b.1 b.2
          ])

aside_none : (old x : Path) → after_front old x ≡ None → IsAside old x
aside_none old x e n r f = none_some (n ∷ r) (sym e ∙ f)

-- a call on a path has a second copy of its request
copied : (old : Path) (r : Route) (request : Request) → LiesBelow old r → copy_of r request ≡ Some request
copied old NoPath request below = absurd below
copied old _ request below = refl

-- ---- one call
module _ (old : Path) (p : PartsView) (history : List Record) (sound : Sound p history) (clear : IsClear p old) (c : Call) (at : call_at p.calls c.number ≡ Some c) (undecided : waiting_reply c ≡ None) (fresh : c.stage ≡ stage.Fresh)
    (below : LiesBelow old (route_of c.request)) (fits : p.store.look_ups < 2 ^ 64) (q : PartsView) (given : Reply) (helped : HelpState p q c c.number given) where
  above : 0 < c.number
  above = (sound.ledger.calls c.number c at).above

  new_number : IsNewNumber c.number history
  new_number = sound.history.undecided c.number c at undecided

  serves : ServesCall p.store q.store c given
  serves = subst (λ (s : StoreState). ServesCall p.store s c given) (sym (helped.records.store ∙ ap (λ (g : Stage). freed g helped.records.mid) fresh)) helped.records.serves

  served : IsRefused p.store q.store (replay history) given ⊎ IsCarriedOut q.store (replay history) (answer_to (replay history) c.session c.number c.moment c.request) given
  served = serves.served (replay history) sound.history.tree (new_to p history c sound at undecided)

  -- the labels of other paths are unchanged
  label_aside : (x : Path) → IsAside old x → label_at (after (replay history) (did c given)).names x ≡ label_at (replay history).names x
  label_aside x aside = elim served [
    | inl e ↦ ap (λ (g : Reply). label_at (after (replay history) (did c g)).names x) e.told
    | inr e ↦
        ap (λ (g : Reply). label_at (after (replay history) (did c g)).names x) e.told ∙ ap (λ (u : Tree). label_at u.names x) (after_told (replay history) c.session c.number c.moment c.request)
        ∙ lies_labels history c.number c.session c.moment c.request old x sound.history.legal above new_number aside (target_of c.request) refl below
  ]

  sound_helped : Sound q (history ++ did c given ∷ [])
  sound_helped =
      helped_sound p q history sound c at undecided given
      (λ x l holder w held other.
      let s = sound.coupled.walks.holds l holder held in
      let leads = sound.coupled.walks.leads holder s.held_path s.holds in
      let same = one_way p.store (replay history) sound.history.tree s.held_path.path x l (leads.names ∙ ap Some s.node) w (ap (is_directory_at p.store.nodes) (sym s.node) ∙ leads.directory) in
      label_aside x (aside_none old x (ap (after_front old) (sym same) ∙ clear holder s.held_path s.holds)))
      fresh helped

  calls_now : Updates p.calls q.calls c.number (Some c) (Some (with_reply given c))
  calls_now = subst (λ cs. Updates p.calls cs c.number (Some c) (Some (with_reply given c))) (sym helped.calls) (updates_answered p.calls c.number c given at)

  -- another path leads to the same inode as before
  leads_aside : (x : Path) (l : ℕ) → IsAside old x → walk (child_of p.store.nodes) p.store.root x ≡ Some l → (walk (child_of q.store.nodes) q.store.root x ≡ Some l) × ((node : Node) × (node_in q.store.nodes l ≡ Some node))
  leads_aside x l aside w = leads_still p.store q.store history c.number c.session c.moment c.request given sound.history.legal above new_number sound.history.tree served serves.nodes x l w (label_aside x aside)

  keeps_now : Keeps q.store (after (replay history) (did c given))
  keeps_now = keeps_after p.store q.store history c.number c.session c.moment c.request given sound.history.legal above new_number sound.history.tree served serves.nodes

  walks_aside : (x : Path) → IsAside old x → walk (child_of q.store.nodes) q.store.root x ≡ walk (child_of p.store.nodes) p.store.root x
  walks_aside x aside =
      elim (walk (child_of p.store.nodes) p.store.root x) as (λ o. walk (child_of p.store.nodes) p.store.root x ≡ o → walk (child_of q.store.nodes) q.store.root x ≡ o) [
        | Some l ↦ λ w. (leads_aside x l aside w).0
        | None ↦ λ w.
            let before : label_at (replay history).names x ≡ None =
            label_found p.store (replay history) sound.history.tree x ∙ ap (λ (o : Option ℕ). option_map (λ (y : Node). y.label) (option_and_then (node_in p.store.nodes) o)) w in
            elim (walk (child_of q.store.nodes) q.store.root x) as (λ o. walk (child_of q.store.nodes) q.store.root x ≡ o → o ≡ None) [
              | None ↦ λ v. refl
              | Some l ↦ λ v.
                  let it = reached_node q.store (after (replay history) (did c given)) keeps_now x l v in
                  let label = label_found q.store (after (replay history) (did c given)) keeps_now x ∙ ap (λ (o : Option ℕ). option_map (λ (y : Node). y.label) (option_and_then (node_in q.store.nodes) o)) v ∙ ap (option_map (λ (y : Node). y.label)) it.1 in
                  absurd (none_some it.0.label (sym before ∙ sym (label_aside x aside) ∙ label))
            ] refl
      ] refl

  stood_now : (m : ℕ) (s : HeldPath) → Holds (held_paths_in q.calls m) s → Holds (held_paths_in p.calls m) s
  stood_now m s hold = elim (same_or_not m c.number) [
    | inl e ↦
        let none : held_paths_in q.calls m ≡ [] =
        ap (held_paths_in q.calls) e ∙ ap (λ (o : Option Call). option_map_or held_paths_at o []) calls_now.now_is ∙ ap (λ (g : Stage). held_paths_of (route_of c.request) g) fresh in
        absurd (subst (λ (x : List HeldPath). Holds x s) none hold)
    | inr ne ↦ subst (λ (x : List HeldPath). Holds x s) (ap (λ (o : Option Call). option_map_or held_paths_at o []) (calls_now.rest m ne)) hold
  ]

  all_sure : AreSure history (did c given ∷ [])
  unfolding AreSure
  all_sure = (
    λ m is.
        let s = serves.sure (replay history) sound.history.tree (new_to p history c sound at undecided) m in
        never_wants (replay history) c.session c.number c.moment c.request (sym s.told ∙ is),
    tt,
  )

  pub one_led : AreLed old p q history (did c given ∷ [])
  one_led = record {
    sound = sound_helped;
    sure = all_sure;
    walks = walks_aside;
    directory = λ x l aside w dir.
        let was = reached_node p.store (replay history) sound.history.tree x l w in
        let now_at = leads_aside x l aside w in
        directory_still p.store q.store history c.number c.session c.moment c.request given sound.history.legal above new_number sound.history.tree served serves.nodes l was.0 now_at.1.0 was.1 now_at.1.1 dir;
    stood = stood_now;
    sessions = helped.sessions;
    drawn = helped.records.drawn;
    joins = helped.records.joins;
    keep = ap (λ (b : BookView). b.keep) helped.records.book;
    fits = let e = helped.look_ups in omega (arith, e, fits);
    more = let e = helped.look_ups in omega (arith, e);
    few = let e = helped.look_ups in omega (arith, e);
  }

-- ---- one after the other
-- a number in a list is not one that isn't in it
pub not_there : (k n : ℕ) (ns : List ℕ) → is_one_of k ns ≡ true → is_one_of n ns ≡ false → k ≢ n
not_there k n ns here gone same = let x = sym here ∙ ap (λ i. is_one_of i ns) same ∙ gone in cc

-- also for records of calls that are elsewhere
pub records_on : (old new : List (ℕ × Call)) (ns : List ℕ) (rs : List Record) → ((n : ℕ) (c : Call) → is_one_of n ns ≡ true → call_at new n ≡ Some c → waiting_reply c ≡ None → (d : Call) × (call_at old n ≡ Some d) × (waiting_reply d ≡ None) × ((g : Reply) → did c g ≡ did d g))
    → AreRecordsOf new ns rs → AreRecordsOf old ns rs
unfolding AreRecordsOf
records_on old new (n ∷ ns) (r ∷ rs) each h =
    let d = each n h.0.0 (ap (λ b. b || is_one_of n ns) (eq-eqb n n refl)) h.0.2 h.0.3 in
    ((d.0, h.0.1, d.1, d.2, h.0.4 ∙ d.3 h.0.1), records_on old new ns rs (λ m c here. each m c (or_right (nat_eq m n) (is_one_of m ns) here)) h.1)
records_on old new _ _ each h = h

names_more : (r : Record) (rs : List Record) → names_in_records (r ∷ rs) ≡ names_in_record r + names_in_records rs
names_more r rs = sum_by-cons (λ x. x) (names_in_record r) (map names_in_record rs)

led_on : (old : Path) (p q s : PartsView) (h : List Record) (r : Record) (rs : List Record) → AreLed old p q h (r ∷ []) → AreLed old q s (h ++ r ∷ []) rs → AreLed old p s h (r ∷ rs)
unfolding AreSure
led_on old p q s h r rs a b = record {
  sound = subst (λ (x : List Record). Sound s x) (append_assoc h (r ∷ []) rs) b.sound;
  sure = (a.sure.0, b.sure);
  walks = λ x aside. b.walks x aside ∙ a.walks x aside;
  directory = λ x l aside w dir. b.directory x l aside (a.walks x aside ∙ w) (a.directory x l aside w dir);
  stood = λ m t hold. a.stood m t (b.stood m t hold);
  sessions = b.sessions ∙ a.sessions;
  drawn = b.drawn ∙ a.drawn;
  joins = b.joins ∙ a.joins;
  keep = b.keep ∙ a.keep;
  fits = b.fits;
  more = let x = a.more in let y = b.more in omega (arith, x, y);
  few = let x = a.few in let y = b.few in omega (arith, x, y, names_more r rs, names_more r []);
}

pub nothing_led : (old : Path) (p : PartsView) (h : List Record) → Sound p h → p.store.look_ups < 2 ^ 64 → AreLed old p p h []
unfolding AreSure
nothing_led old p h sound fits = record {
  sound = subst (λ (x : List Record). Sound p x) (sym (append-nil h)) sound;
  sure = tt;
  walks = λ x aside. refl;
  directory = λ x l aside w dir. dir;
  stood = λ m s hold. hold;
  sessions = refl;
  drawn = refl;
  joins = refl;
  keep = refl;
  fits = fits;
  more = omega arith;
  few = omega arith;
}

-- lookups were made before, one for each name of the record's paths; perhaps a WRITE was completed
-- a core that is ready to help a call: the file that it cuts has no blocks left
record ReadiedFor (p : PartsView) (h : List Record) (c : Call) : Type 0 where
  mid : PartsView
  fits : p.store.look_ups < 2 ^ 64
  readied : Readied p mid h (request_names c.request) c.request

readied_led : (old : Path) (p q : PartsView) (h : List Record) (c : Call) (given : Reply) → (x : ReadiedFor p h c) → AreLed old x.mid q h (did c given ∷ []) → q.store.look_ups ≡ x.mid.store.look_ups → AreLed old p q h (did c given ∷ [])
readied_led old p q h c given x led e =
    let r = x.readied in
    let same = walk_same p.store x.mid.store r.ground in
    let looks = looks_between p.store x.mid.store (request_names c.request) x.fits r.looks in
    record {
      sound = led.sound;
      sure = led.sure;
      walks = λ y aside. led.walks y aside ∙ same y;
      directory = λ y l aside w dir. led.directory y l aside (same y ∙ w) (r.ground.directory l ∙ dir);
      stood = λ m s hold. r.stood m s (led.stood m s hold);
      sessions = led.sessions ∙ r.sessions;
      drawn = led.drawn ∙ r.drawn;
      joins = led.joins ∙ r.joins;
      keep = led.keep ∙ ap (λ (b : BookView). b.keep) r.book;
      fits = led.fits;
      more = let a = looks.0 in omega (arith, a, e);
      few = let b = looks.1 in omega (arith, b, e, names_more (did c given) []);
    }

-- the call of this number was helped, and its record is among these
abbrev pub WasHelped : PartsView → PartsView → List Record → ℕ → Type 0
WasHelped p q helped n = (c : Call) → call_at p.calls n ≡ Some c → (given : Reply) × (call_at q.calls n ≡ Some (with_reply given c)) × IsAmong (did c given) helped

-- what helping the calls of these numbers leaves
pub record HelpedAll (old : Path) (p q : PartsView) (h : List Record) (ns : List ℕ) : Type 0 where
  pub helped : List Record
  pub led : AreLed old p q h helped
  pub records : AreRecordsOf p.calls ns helped
  pub numbers : filter_map record_number helped ≡ ns
  pub these : (n : ℕ) → is_one_of n ns ≡ true → WasHelped p q helped n
  pub others : (m : ℕ) (d : Call) → is_one_of m ns ≡ false → call_at p.calls m ≡ Some d → IsStill q (HasCut helped) m d

none_recorded : (p : PartsView) → AreRecordsOf p.calls [] []
unfolding AreRecordsOf
none_recorded p = tt

one_recorded : (p : PartsView) (n : ℕ) (ns : List ℕ) (c : Call) (given : Reply) (rs : List Record) → call_at p.calls n ≡ Some c → waiting_reply c ≡ None → AreRecordsOf p.calls ns rs → AreRecordsOf p.calls (n ∷ ns) (did c given ∷ rs)
unfolding AreRecordsOf
one_recorded p n ns c given rs at undecided h = ((c, given, at, undecided, refl), h)

among_first : (r : Record) (rs : List Record) → IsAmong r (r ∷ rs)
unfolding IsAmong
among_first r rs = inl refl

among_later : (r x : Record) (rs : List Record) → IsAmong r rs → IsAmong r (x ∷ rs)
unfolding IsAmong
among_later r x rs a = inr a

-- a call that held nothing is unchanged
still_fresh : (q : PartsView) (why : Type 0) (m : ℕ) (d : Call) → d.stage ≡ stage.Fresh → IsStill q why m d → call_at q.calls m ≡ Some d
still_fresh q why m d fresh (inl at) = at
still_fresh q why m d fresh (inr f) = absurd (subst IsCopying fresh f.0)

-- what helping requires of a core: a sound history, no call at the old path, and a lookup count
-- that fits
pub record MayHelp (old : Path) (p : PartsView) (h : List Record) : Type 0 where
  pub sound : Sound p h
  pub clear : IsClear p old
  pub fits : p.store.look_ups < 2 ^ 64

pub help_all : (ns : List ℕ) (old : Path) (p q : PartsView) (h : List Record) → MayHelp old p h → ((n : ℕ) → is_one_of n ns ≡ true → IsReady p old n) → AreApart ns → HelpsAll p ns q → HelpedAll old p q h ns
help_all [] old p q h may ready apart helps = record {
  helped = [];
  led = subst (λ (x : PartsView). AreLed old p x h []) (sym helps) (nothing_led old p h may.sound may.fits);
  records = none_recorded p;
  numbers = refl;
  these = λ n e. cc;
  others = λ m d ne at. inl (ap (λ (x : PartsView). call_at x.calls m) helps ∙ at);
}
help_all (n ∷ ns) old p q h may ready apart helps =
    let sound = may.sound in
    let r = ready n (ap (λ b. b || is_one_of n ns) (eq-eqb n n refl)) in
    let c = r.call in
    let own = sound.ledger.calls n c r.at in
    let is = own.is_number in
    let mid = helps.0 in
    let step = helps.1 c r.at r.fresh (own.copied r.undecided ∙ copied old (route_of c.request) c.request r.below) in
    let f = step.0 in
    let before = readied p f h sound c step.1 in
    let in_f : call_at f.calls n ≡ Some c = still_undecided p f h sound (cuts_file c.request ≡ true) n (record { call = c; at = r.at; undecided = r.undecided }) (before.each n c r.at) in
    let at : call_at f.calls c.number ≡ Some c = ap (call_at f.calls) is ∙ in_f in
    let given = step.2 in
    let done : HelpState f mid c c.number given.0 = subst (λ k. HelpState f mid c k given.0) (sym is) given.1 in
    let clear_f : IsClear f old = λ m s hold. may.clear m s (before.stood m s hold) in
    let fits_f = looks_fit p.store f.store (request_names c.request) before.looks may.fits in
    let led = one_led old f h before.sound clear_f c at r.undecided r.fresh r.below fits_f mid given.0 done in
    let one = readied_led old p mid h c given.0 (record { mid = f; fits = may.fits; readied = before }) led done.look_ups in
    let now = calls_now old f h before.sound clear_f c at r.undecided r.fresh r.below fits_f mid given.0 done in
    let same : (m : ℕ) → m ≢ n → call_at mid.calls m ≡ call_at f.calls m = λ m ne. now.rest m (λ e. ne (e ∙ is)) in
    let here : call_at mid.calls n ≡ Some (with_reply given.0 c) = ap (call_at mid.calls) (sym is) ∙ now.now_is in
    let there : (m : ℕ) (x : Call) → m ≢ n → call_at p.calls m ≡ Some x → waiting_reply x ≡ None → call_at mid.calls m ≡ Some x =
    λ m x ne at_x none. same m ne ∙ still_undecided p f h sound (cuts_file c.request ≡ true) m (record { call = x; at = at_x; undecided = none }) (before.each m x at_x) in
    let all = help_all ns old mid q (h ++ did c given.0 ∷ []) (record { sound = one.sound; clear = λ m s hold. may.clear m s (one.stood m s hold); fits = one.fits })
    (λ m here. let x = ready m (or_right (nat_eq m n) (is_one_of m ns) here) in
    record { call = x.call; at = there m x.call (not_there m n ns here apart.0) x.at x.undecided; undecided = x.undecided; fresh = x.fresh; below = x.below })
    apart.1 helps.2 in
    record {
      helped = did c given.0 ∷ all.helped;
      led = led_on old p mid q h (did c given.0) all.helped one all.led;
      records = one_recorded p n ns c given.0 all.helped r.at r.undecided
          (records_on p.calls mid.calls ns all.helped (λ m d later at_d none.
          let x = ready m (or_right (nat_eq m n) (is_one_of m ns) later) in
          let in_mid = there m x.call (not_there m n ns later apart.0) x.at x.undecided in
          (x.call, x.at, x.undecided, λ g. ap (λ (y : Call). did y g) (some_eq d x.call (sym at_d ∙ in_mid)))) all.records);
      numbers = let x : c.number ∷ filter_map record_number all.helped ≡ n ∷ ns = (ap (λ k. k ∷ filter_map record_number all.helped) is) ∙ ap (λ (ks : List ℕ). n ∷ ks) all.numbers in x;
      these = λ m one_of d at_d.
          elim (nat_eq m n) as (λ b. nat_eq m n ≡ b → (b || is_one_of m ns) ≡ true → (g : Reply) × (call_at q.calls m ≡ Some (with_reply g d)) × IsAmong (did d g) (did c given.0 ∷ all.helped)) [
            | true ↦ λ e _.
                let k = eqb-true m n e in
                let same_call : c ≡ d = some_eq c d (sym r.at ∙ ap (call_at p.calls) (sym k) ∙ at_d) in (
                  given.0,
                  ap (call_at q.calls) k ∙ still_fresh q (HasCut all.helped) n (with_reply given.0 c) r.fresh (all.others n (with_reply given.0 c) apart.0 here) ∙ ap (λ (x : Call). Some (with_reply given.0 x)) same_call,
                  subst (λ (x : Call). IsAmong (did x given.0) (did c given.0 ∷ all.helped)) same_call (among_first (did c given.0) all.helped),
                )
            | false ↦ λ e later.
                let x = ready m (or_right (nat_eq m n) (is_one_of m ns) later) in
                let undecided_d : waiting_reply d ≡ None = ap waiting_reply (some_eq d x.call (sym at_d ∙ x.at)) ∙ x.undecided in
                let w = all.these m later d (there m d (not_there m n ns later apart.0) at_d undecided_d) in
                (w.0, w.1, among_later (did d w.0) (did c given.0) all.helped w.2)
          ] refl one_of;
      others = λ m d ne at_d.
          let both = or_false (nat_eq m n) (is_one_of m ns) ne in
          let not_n : m ≢ n = λ e. let x = sym (eq-eqb m n e) ∙ both.0 in cc in
          still_for q (cuts_file c.request ≡ true ⊎ HasCut all.helped) (HasCut (did c given.0 ∷ all.helped))
          (λ e. elim e [ inl cuts ↦ (did c given.0, among_first (did c given.0) all.helped, cuts) | inr had ↦ (had.0, among_later had.0 (did c given.0) all.helped had.1, had.2) ]) m d
          (still_on f q (cuts_file c.request ≡ true) (HasCut all.helped) m d (before.each m d at_d) (λ x at_x. all.others m x both.1 (same m not_n ∙ at_x)));
    }
