-- A core just before a call is decided: the calls that its move affects were helped.
use Rattle.std.specs.Prelude.{◌≡◌, ◌≢◌, ◌⊎◌, ◌<◌, ◌≤◌, ◌+◌, ◌^◌, ℕ, not, nat_eq, nat_le, Bool, true, false, cond, if◌then◌else◌, ◌&&◌, ◌||◌, T, List, [], ◌∷◌, ◌++◌, length, take, drop, map, filter, filter_map, option_map, option_and_then, Option, Some, None, is_none, is_some, IsSome, refl}
use Rattle.std.specs.Option.{option_map_or}
use Rattle.std.proofs.Common.{sym, ap, subst, ◌∙◌, inl, inr, arith, append-nil, eqb-true, eq-eqb}
use Rattle.std.specs.List.Sorted.{IsStrictlySortedBy}
use Rattle.std.specs.Ordering.{nat_cmp}
use Rattle.std.specs.Map.{lookup}
use Rattle.std.specs.BTreeMap.{is_at}
use Rattle.std.specs.FinMap.{is_sorted}
use Rattle.std.proofs.lemmas.List.{append_assoc, length-append, length-take, take-append-drop}
use Rattle.sf_path.specs.Names.{Path}
use Rattle.sf_reply.specs.declared.reply.Reply.{Reply}
use Rattle.sf_book.specs.Books.{BookView}
use Rattle.sf_call.specs.declared.record.Record.{Record}
use Rattle.sf_call.specs.declared.call.Call.{Call}
use Rattle.sf_call.specs.declared.call.Reached.{Reached}
use Rattle.sf_call.specs.declared.call.Stage.{Stage}
use Rattle.sf_call.specs.declared.call.Stage.TheVariants as stage
use Rattle.sf_call.specs.declared.request.Request.{Request}
use Rattle.sf_call.specs.declared.request.Request.TheVariants as request
use Rattle.sf_call.specs.Requests.{Target, target_of}
use Rattle.sf_call.specs.Requests.Target.{ByHandle, OnPath, OnPaths}
use Rattle.sf_call.specs.Tree.{Tree, label_at, after_front, lookup_of, look_up}
use Rattle.sf_call.specs.declared.lookup.Lookup.TheVariants as place
use Rattle.sf_call.specs.Allowed.{IsMove}
use Rattle.sf_call.specs.Changes.{moved_by}
use Rattle.sf_call.specs.Calls.{answer_to}
use Rattle.sf_call.specs.Histories.{after, replay, IsNewNumber, IsAmong}
use Rattle.sf_call.specs.Unanswered.{at_stage, with_reply}
use Rattle.sf_call.proofs.Laws.{after_front-append, append-after_front}
use Rattle.sf_laws.proofs.Laws.{NewCall, unmoved_labels, moved_changes, moved_old, never_moved, spared_labels}
use Rattle.sf_inode.specs.declared.node.Node.{Node}
use Rattle.sf_inode.specs.Stores.{StoreState, node_in, child_of, holder_of, is_directory_at}
use Rattle.sf_keeps.specs.Steps.{walk}
use Rattle.sf_keeps.specs.Keeps.{Keeps}
use Rattle.sf_keeps.proofs.Laws.{reached_node, label_found, walk_on, one_way}
use Rattle.sf_coupling.specs.Walks.{HeldPath, Holds, IsNodeOf, IsOnWayTo, IsBetween, IsFree}
use Rattle.sf_coupling.specs.Fronts.{IsPrefix}
use Rattle.sf_coupling.proofs.Laws.{begins_trans, same_or_not}
use Rattle.sf_walk.specs.declared.finding.Ways.{Ways}
use Rattle.sf_walk.specs.declared.finding.Located.{Located}
use Rattle.sf_walk.specs.declared.finding.Located.TheVariants as located
use Rattle.sf_call.specs.Routes.{Route, is_rooted, are_nested, route_at, route_of}
use Rattle.sf_walk.specs.Routes.{PartAt, AreEnds, IsPosition, reached_at, paths_on, held_path_on, held_paths_of}
use Rattle.sf_call.specs.Routes.Route.{NoPath, Along, Between}
use Rattle.sf_walk.specs.Routes.IsPosition.{Starts, IsOn, IsBefore, IsApart}
use Rattle.sf_walk.specs.Ways.{way_from, missing, IsThere, AreWays, IsLocated}
use Rattle.sf_walk.specs.Files.{IsSettled, file_handle, cuts_file}
use Rattle.sf_walk.specs.Served.{NodesStay, IsRefused, IsCarriedOut}
use Rattle.sf_walk.specs.Steps.{is_one_of, IsFreeThere, AreFree, HoldsParent}
use Rattle.sf_walk.proofs.Laws.{no_way, walk_same}
use Rattle.sf_core.specs.Cores.{call_at}
use Rattle.sf_core.specs.Progress.{waiting_reply, did, has_walked, are_past, has_passed, old_at, overtaken, undecided_in, names_in_records, record_number}
use Rattle.sf_core.specs.Sure.{AreSure}
use Rattle.sf_core.specs.Events.{AreRecordsOf, HasCut}
use Rattle.sf_core.specs.Parts.{PartsView}
use Rattle.sf_core.specs.Sound.{walker_of, held_paths_at, held_paths_in, Sound}
use Rattle.sf_core.specs.Stepping.{all_set_back, HelpsAll, Overtakes}
use Rattle.sf_core.proofs.Maps.{by_test, some_eq, none_some, not_true, no_value, some_value, there_is, none_of, reply_is}
use Rattle.sf_core.proofs.Walkers.{walker_holds, rests_none}
use Rattle.sf_core.proofs.Finished.{IsStill, still_undecided}
use Rattle.sf_core.proofs.Spared.{located_at, label_after, label_by_handle, label_still}
use Rattle.sf_core.proofs.Numbers.{among, numbers_rise, numbers_few, rising_apart}
use Rattle.sf_core.proofs.Passing.{past_on, past_back, never_past, past_front, front_past, begins_more, longer_front, IsBelow, passed_below, LiesBelow, held_aside}
use Rattle.sf_core.proofs.SettingBack.{back_if, calls_back, AreBack, all_back, stood}
use Rattle.sf_core.proofs.Helping.{IsAside, IsClear, IsReady, HelpedAll, records_on, help_all}

-- a record of the call leaves the label that another call holds
abbrev pub LeavesLabels : PartsView → List Record → Call → Type 0
LeavesLabels m h c = (given : Reply) (mid : StoreState)
    → IsRefused m.store mid (replay h) given ⊎ IsCarriedOut mid (replay h) (answer_to (replay h) c.session c.number c.moment c.request) given → NodesStay c.number m.store mid
    → (path : Path) (l holder : ℕ) → walk (child_of m.store.nodes) m.store.root path ≡ Some l → walker_of m.store.nodes l ≡ Some holder → c.number ≢ holder
    → label_at (after (replay h) (did c given)).names path ≡ label_at (replay h).names path

-- another call is unchanged, or its remaining blocks were copied, or it was helped
abbrev pub Became : PartsView → List Record → ℕ → Call → Type 0
Became m helped k d = IsStill m (HasCut helped) k d ⊎ ((given : Reply) × (call_at m.calls k ≡ Some (with_reply given (at_stage stage.Fresh d))) × (waiting_reply d ≡ None) × IsAmong (did d given) helped)

pub record Prepared (p m : PartsView) (h : List Record) (c : Call) (ways : Ways) : Type 0 where
  pub helped : List Record
  pub sound : Sound m (h ++ helped)
  pub at : call_at m.calls c.number ≡ Some c
  pub labels : LeavesLabels m (h ++ helped) c
  pub located : IsLocated m.store c.request ways
  pub settled : IsSettled m.store c.session c.request ways.path
  pub sure : AreSure h helped
  pub records : AreRecordsOf p.calls (overtaken p.calls c.number (moved_by (answer_to (replay h) c.session c.number c.moment c.request).changes)) helped
  pub rising : IsStrictlySortedBy nat_cmp (filter_map record_number helped)
  pub each : (k : ℕ) (d : Call) → k ≢ c.number → call_at p.calls k ≡ Some d → Became m helped k d
  pub sessions : m.sessions ≡ p.sessions
  pub drawn : m.drawn ≡ p.drawn
  pub joins : m.joins ≡ p.joins
  pub keep : m.book.keep ≡ p.book.keep
  pub more : p.store.look_ups ≤ m.store.look_ups
  pub few : m.store.look_ups ≤ p.store.look_ups + names_in_records helped

-- a rename and a link change no file's bytes
no_handle_by : (r : Request) (number : ℕ) (old new : Path) → target_of r ≡ OnPaths old new → file_handle r ≡ Some number → ⊥
no_handle_by (request.OnPath op path) number old new e f = cc
no_handle_by _ number old new e f = cc

no_cut_by : (r : Request) (old new : Path) → target_of r ≡ OnPaths old new → cuts_file r ≡ true → ⊥
no_cut_by (request.OnPath op path) old new e f = cc
no_cut_by _ old new e f = cc

settled_paths : (s : StoreState) (session : ℕ) (r : Request) (found : Located) (old new : Path) → target_of r ≡ OnPaths old new → IsSettled s session r found
settled_paths s session r found old new e = record {
  by_handle = λ number x is opens. absurd (no_handle_by r number old new e is);
  on_path = λ parent node cuts at. absurd (no_cut_by r old new e cuts);
}

nothing_rises : IsStrictlySortedBy nat_cmp []
unfolding IsStrictlySortedBy
nothing_rises = tt

nothing_sure : (h : List Record) → AreSure h []
unfolding AreSure
nothing_sure h = tt

nobody : (calls : List (ℕ × Call)) (n : ℕ) (o : Option Path) → o ≡ None → AreRecordsOf calls (overtaken calls n o) []
unfolding AreRecordsOf
nobody calls n None e = tt
nobody calls n (Some old) e = absurd (none_some old (sym e))

-- ---- a call that moves nothing
module _ (p : PartsView) (h : List Record) (sound : Sound p h) (c : Call) (at : call_at p.calls c.number ≡ Some c) (undecided : waiting_reply c ≡ None) (ways : Ways) (are_located : IsLocated p.store c.request ways)
    (free : AreFree (holder_of p.store.nodes) c.number (route_of c.request) ways) (settled : IsSettled p.store c.session c.request ways.path) (unmoved : moved_by (answer_to (replay h) c.session c.number c.moment c.request).changes ≡ None) where
  above : 0 < c.number
  above = (sound.ledger.calls c.number c at).above

  fresh : IsNewNumber c.number h
  fresh = sound.history.undecided c.number c at undecided

  labels_by : (g : Target) → target_of c.request ≡ g → AreWays p.store (route_at g) ways → AreFree (holder_of p.store.nodes) c.number (route_at g) ways → LeavesLabels p h c
  labels_by (ByHandle handle) e w f given mid served stays path l holder leads held other =
      label_by_handle p.store mid h c.number c.session c.moment c.request given sound.history.legal above fresh sound.history.tree served stays handle e path
  labels_by (OnPath x) e w f given mid served stays path l holder leads held other =
      label_still p.store mid h c.number c.session c.moment c.request given sound.history.legal above fresh sound.history.tree served stays x e ways w.1 f path l holder leads (walker_holds p.store.nodes l holder held).1 other
  labels_by (OnPaths old new) e w f given mid served stays path l holder leads held other =
      let it = reached_node p.store (replay h) sound.history.tree path l leads in
      let some : label_at (replay h).names path ≡ Some it.0.label =
      label_found p.store (replay h) sound.history.tree path ∙ ap (λ (o : Option ℕ). option_map (λ (y : Node). y.label) (option_and_then (node_in p.store.nodes) o)) leads ∙ ap (option_map (λ (y : Node). y.label)) it.1 in
      label_after p.store mid h c.number c.session c.moment c.request given sound.history.legal above fresh sound.history.tree served stays path
      (unmoved_labels (replay h) c.session c.number c.moment c.request old new e unmoved path (ap (λ (o : Option ℕ). is_some o) some))

  pub prepared_unmoved : (m : PartsView) → m ≡ p → Prepared p m h c ways
  prepared_unmoved m same = subst (λ (x : PartsView). Prepared p x h c ways) (sym same) (record {
    helped = [];
    sound = subst (λ (x : List Record). Sound p x) (sym (append-nil h)) sound;
    at = at;
    labels = subst (λ (x : List Record). LeavesLabels p x c) (sym (append-nil h)) (labels_by (target_of c.request) refl are_located free);
    located = are_located;
    settled = settled;
    sure = nothing_sure h;
    records = nobody p.calls c.number (moved_by (answer_to (replay h) c.session c.number c.moment c.request).changes) unmoved;
    rising = nothing_rises;
    each = λ k d ne is. inl (inl is);
    sessions = refl;
    drawn = refl;
    joins = refl;
    keep = refl;
    more = omega arith;
    few = omega arith;
  })

-- ---- a rename that moves
pub three_true : (a b c : Bool) → (a && b && c) ≡ true → (a ≡ true) × (b ≡ true) × (c ≡ true)
three_true true true true e = (refl, refl, refl)
three_true _ _ _ e = cc

three_false : (a b c : Bool) → (a && b && c) ≡ false → a ≡ true → b ≡ true → c ≡ false
three_false true true c e f g = e
three_false _ _ c e f g = cc

apart_test : (k n : ℕ) → k ≢ n → not (nat_eq k n) ≡ true
apart_test k n ne = ap not (not_true (nat_eq k n) (λ e. ne (eqb-true k n e)))

pub same_test : (k n : ℕ) → not (nat_eq k n) ≡ true → k ≢ n
same_test k n e same = let x : nat_eq k n ≡ true = eq-eqb k n same in let y : not (nat_eq k n) ≡ false = ap not x in cc

-- a rename moves its old path
pub moved_is : (t : Tree) (session number moment : ℕ) (r : Request) (old : Path) → old_at (target_of r) ≡ Some old → is_some (moved_by (answer_to t session number moment r).changes) ≡ true
    → moved_by (answer_to t session number moment r).changes ≡ Some old
moved_is t session number moment r old is moved = by_target (target_of r) refl is
  where
    by_target : (g : Target) → target_of r ≡ g → old_at g ≡ Some old → moved_by (answer_to t session number moment r).changes ≡ Some old
    by_target (OnPaths a b) e f =
        let p = there_is (moved_by (answer_to t session number moment r).changes) moved in
        p.1 ∙ ap Some ((moved_changes t session number moment r a b e p.0 p.1).0 ∙ some_eq a old f)
    by_target _ e f = cc

-- no more calls are helped than are undecided
pub few_overtaken : (calls : List (ℕ × Call)) (n : ℕ) (old : Path) → length (overtaken calls n (Some old)) ≤ undecided_in calls
few_overtaken calls n old =
    numbers_few (λ (e : ℕ × Call). not (nat_eq e.0 n) && is_none (waiting_reply e.1) && has_passed e.1 old) (λ (d : Call). is_none (waiting_reply d))
    (λ e t. (three_true (not (nat_eq e.0 n)) (is_none (waiting_reply e.1)) (has_passed e.1 old) t).1) calls

-- the call itself is not helped
pub overtaken_other : (calls : List (ℕ × Call)) → T (is_sorted nat_cmp calls) → (n : ℕ) (o : Option Path) (k : ℕ) → is_one_of k (overtaken calls n o) ≡ true → k ≢ n
overtaken_other calls rise n None k here = cc
overtaken_other calls rise n (Some old) k here = by (lookup (is_at (nat_cmp k)) calls) (sym here ∙ among (λ (e : ℕ × Call). not (nat_eq e.0 n) && is_none (waiting_reply e.1) && has_passed e.1 old) calls rise k)
  where
    by : (o : Option Call) → true ≡ option_map_or (λ (d : Call). not (nat_eq k n) && is_none (waiting_reply d) && has_passed d old) o false → k ≢ n
    by None e = cc
    by (Some d) e = same_test k n (three_true (not (nat_eq k n)) (is_none (waiting_reply d)) (has_passed d old) (sym e)).0

-- ---- a path that leads to the same inode as before
module _ (s s' : StoreState) (t t' : Tree) (keeps : Keeps s t) (keeps' : Keeps s' t') where
  way_on : (rest front : Path) (up x : ℕ) → walk (child_of s.nodes) s.root front ≡ Some x → walk (child_of s'.nodes) s'.root front ≡ Some x
      → ((q r : Path) → q ++ r ≡ front ++ rest → walk (child_of s'.nodes) s'.root q ≡ walk (child_of s.nodes) s.root q)
      → ((q r : Path) (l : ℕ) → q ++ r ≡ front ++ rest → walk (child_of s.nodes) s.root q ≡ Some l → is_directory_at s.nodes l ≡ true → is_directory_at s'.nodes l ≡ true)
      → way_from s.nodes up x rest ≢ located.NoWay → way_from s'.nodes up x rest ≡ way_from s.nodes up x rest
  way_on [] front up x w w' same dirs way = refl
  way_on (n ∷ rest) front up x w w' same dirs way =
      let entry : child_of s'.nodes x n ≡ child_of s.nodes x n =
      sym (walk_on s' t' keeps' front x n w') ∙ same (front ++ n ∷ []) rest (append_assoc front (n ∷ []) rest) ∙ walk_on s t keeps front x n w in
      elim (is_directory_at s.nodes x) as (λ b. is_directory_at s.nodes x ≡ b → cond b (option_map_or (λ y. way_from s.nodes x y rest) (child_of s.nodes x n) (missing x rest)) located.NoWay ≢ located.NoWay
      → way_from s'.nodes up x (n ∷ rest) ≡ cond b (option_map_or (λ y. way_from s.nodes x y rest) (child_of s.nodes x n) (missing x rest)) located.NoWay) [
        | false ↦ λ d never. absurd (never refl)
        | true ↦ λ d some.
            ap (λ b. cond b (option_map_or (λ y. way_from s'.nodes x y rest) (child_of s'.nodes x n) (missing x rest)) located.NoWay) (dirs front (n ∷ rest) x refl w d)
            ∙ ap (λ o. option_map_or (λ y. way_from s'.nodes x y rest) o (missing x rest)) entry
            ∙ elim (child_of s.nodes x n) as (λ o. child_of s.nodes x n ≡ o → option_map_or (λ y. way_from s.nodes x y rest) o (missing x rest) ≢ located.NoWay
            → option_map_or (λ y. way_from s'.nodes x y rest) o (missing x rest) ≡ option_map_or (λ y. way_from s.nodes x y rest) o (missing x rest)) [
              | None ↦ λ e f. refl
              | Some y ↦ λ e f.
                  let more : (front ++ n ∷ []) ++ rest ≡ front ++ n ∷ rest = append_assoc front (n ∷ []) rest in
                  way_on rest (front ++ n ∷ []) x y (walk_on s t keeps front x n w ∙ e) (walk_on s' t' keeps' front x n w' ∙ entry ∙ e)
                  (λ q r same_path. same q r (same_path ∙ more)) (λ q r l same_path. dirs q r l (same_path ∙ more)) f
            ] refl some
      ] refl way

  pub way_kept : (path : Path) → ((q r : Path) → q ++ r ≡ path → walk (child_of s'.nodes) s'.root q ≡ walk (child_of s.nodes) s.root q)
      → ((q r : Path) (l : ℕ) → q ++ r ≡ path → walk (child_of s.nodes) s.root q ≡ Some l → is_directory_at s.nodes l ≡ true → is_directory_at s'.nodes l ≡ true)
      → way_from s.nodes s.root s.root path ≢ located.NoWay → way_from s'.nodes s'.root s'.root path ≡ way_from s.nodes s.root s.root path
  way_kept path same dirs way =
      let root : s'.root ≡ s.root = let e : Some s'.root ≡ Some s.root = same [] path refl in cc in
      ap (λ x. way_from s'.nodes x x path) root ∙ way_on path [] s.root s.root refl (ap Some root) same dirs way

no_place : (o : Option ℕ) → lookup_of o ≡ place.NoWay → ⊥
no_place None e = cc
no_place _ e = cc

or_true : (x y : Bool) → (x || y) ≡ true → (x ≡ true) ⊎ (y ≡ true)
or_true true y e = inl refl
or_true false y e = inr e

alone : (x : Bool) → (x || false) ≡ true → x ≡ true
alone true e = refl
alone false e = e

ends_are : (old new : Path) (common from to : Reached) → IsPosition (Between old new) (stage.Ends common from to) → AreEnds old new common from to
ends_are old new common from to (IsApart o n c f t ends) = ends

-- Two paths are equal until they part. So what has passed a path lies below it.
both_below : (old from to : Path) (count walked : ℕ) → PartAt from to count → walked ≤ count → has_walked from walked old ≡ true → IsBelow old from × IsBelow old to
both_below old from to count walked part few past =
    let past_count = past_on old from walked count few past in
    let short = part.short in
    let front = past_front old from count past_count (omega (arith, short)) in
    (passed_below old from count past_count short, passed_below old to count (front_past old to count front.0 (sym part.alike ∙ front.1)) part.short_new)

module _ (p : PartsView) (h : List Record) (sound : Sound p h) (fits : p.store.look_ups < 2 ^ 64) (c : Call) (at : call_at p.calls c.number ≡ Some c) (undecided : waiting_reply c ≡ None) (ways : Ways) (are_located : IsLocated p.store c.request ways)
    (free : AreFree (holder_of p.store.nodes) c.number (route_of c.request) ways) (holds : HoldsParent (route_of c.request) c.stage ways)
    (old new : Path) (paths : target_of c.request ≡ OnPaths old new) (moved : moved_by (answer_to (replay h) c.session c.number c.moment c.request).changes ≡ Some old) (is_move : IsMove (replay h) old new)
    (m : PartsView) (helps : HelpsAll (all_set_back p (overtaken p.calls c.number (Some old))) (overtaken p.calls c.number (Some old)) m) where
  abbrev test : ℕ × Call → Bool
  test e = not (nat_eq e.0 c.number) && is_none (waiting_reply e.1) && has_passed e.1 old

  abbrev numbers : List ℕ
  numbers = map (λ (e : ℕ × Call). e.0) (filter (λ (e : ℕ × Call). not (nat_eq e.0 c.number) && is_none (waiting_reply e.1) && has_passed e.1 old) p.calls)

  abbrev b : PartsView
  b = all_set_back p (overtaken p.calls c.number (Some old))

  -- ---- its route
  not_rooted : is_rooted old new ≡ false
  not_rooted = by_root old new is_move.not_inside is_move.not_around
    where
      by_root : (x y : Path) → after_front x y ≡ None → after_front y x ≡ None → is_rooted x y ≡ false
      by_root (n ∷ x) (m ∷ y) a b = refl
      by_root _ _ a b = cc

  not_nested : are_nested old new ≡ false
  not_nested i = is_some (is_move.not_inside i) || is_some (is_move.not_around i)

  route_is : route_of c.request ≡ Between old new
  route_is = ap route_at paths ∙ (λ i. if not_rooted i then NoPath else if not_nested i then Along old else Between old new)

  -- the old path leads to an inode
  old_node : (l : ℕ) × (walk (child_of p.store.nodes) p.store.root old ≡ Some l)
  old_node = some_value (walk (child_of p.store.nodes) p.store.root old) (λ e.
      let a = label_found p.store (replay h) sound.history.tree old ∙ ap (λ (o : Option ℕ). option_map (λ (y : Node). y.label) (option_and_then (node_in p.store.nodes) o)) e in
      none_some is_move.label (sym a ∙ is_move.named))

  ways_are : AreWays p.store (Between old new) ways
  ways_are = subst (λ (r : Route). AreWays p.store r ways) route_is are_located

  old_way : (parent : ℕ) × (way_from p.store.nodes p.store.root p.store.root old ≡ located.At parent old_node.0)
  old_way = located_at p.store.nodes old p.store.root p.store.root old_node.0 old_node.1

  old_there : IsThere ways.path
  old_there = subst IsThere (sym (ways_are.1.0 ∙ old_way.1)) tt

  new_is : ways.new ≡ way_from p.store.nodes p.store.root p.store.root new
  new_is = ways_are.1.1 old_there

  free_new : IsFreeThere (holder_of p.store.nodes) c.number ways.new
  free_new = subst (λ (r : Route). AreFree (holder_of p.store.nodes) c.number r ways) route_is free

  -- it holds the old path's parent, by one of its ends
  at_parent : (common : Reached) × (from : Reached) × (to : Reached) × (c.stage ≡ stage.Ends common from to) × (from.walked + 1 ≡ length old)
  at_parent = subst (λ (r : Route). HoldsParent r c.stage ways) route_is holds old_there

  own_ends : AreEnds old new at_parent.0 at_parent.1 at_parent.2
  own_ends =
      ends_are old new at_parent.0 at_parent.1 at_parent.2
      (subst (λ (r : Route). IsPosition r (stage.Ends at_parent.0 at_parent.1 at_parent.2)) route_is (subst (λ (g : Stage). IsPosition (route_of c.request) g) at_parent.3 (sound.coupled.positions c.number c at undecided)))

  own_held_paths : held_paths_in p.calls c.number ≡ held_paths_of (Between old new) (stage.Ends at_parent.0 at_parent.1 at_parent.2)
  own_held_paths = ap (λ (o : Option Call). option_map_or held_paths_at o []) at ∙ (λ i. held_paths_of (route_is i) (at_parent.3 i))

  holds_parent : Holds (held_paths_in p.calls c.number) (held_path_on old at_parent.1)
  holds_parent = subst (λ (x : List HeldPath). Holds x (held_path_on old at_parent.1)) (sym own_held_paths) (inr (inl refl))

  -- it has not passed its own old path
  own_behind : has_passed c old ≡ false
  own_behind =
      (λ i. are_past (reached_at (at_parent.3 i)) (paths_on (route_is i)) old)
      ∙ (λ i. never_past old old at_parent.0.walked own_ends.part.short i || (never_past old old at_parent.1.walked own_ends.short i || (new_never at_parent.2.walked i || false)))
    where
      new_never : (w : ℕ) → has_walked new w old ≡ false
      new_never w = ap (λ (o : Option Path). nat_le (length old) w && is_some o) is_move.not_inside ∙ never (nat_le (length old) w)
        where
          never : (b : Bool) → (b && false) ≡ false
          never true = refl
          never false = refl

  -- ---- the calls to be helped start again
  one_is : (k : ℕ) (d : Call) → call_at p.calls k ≡ Some d → is_one_of k numbers ≡ test (k, d)
  one_is k d is = among test p.calls sound.ledger.calls_rise k ∙ ap (λ (o : Option Call). option_map_or (λ (x : Call). test (k, x)) o false) is

  there : (k : ℕ) → is_one_of k numbers ≡ true → (d : Call) × (call_at p.calls k ≡ Some d) × (test (k, d) ≡ true)
  there k here =
      let d = some_value (call_at p.calls k) (λ e. let x = sym here ∙ among test p.calls sound.ledger.calls_rise k ∙ ap (λ (o : Option Call). option_map_or (λ (x : Call). test (k, x)) o false) e in cc) in
      (d.0, d.1, sym (one_is k d.0 d.1) ∙ here)

  tests : (k : ℕ) (d : Call) → test (k, d) ≡ true → (k ≢ c.number) × (waiting_reply d ≡ None) × (has_passed d old ≡ true)
  tests k d e = let t = three_true (not (nat_eq k c.number)) (is_none (waiting_reply d)) (has_passed d old) e in (same_test k c.number t.0, none_of (waiting_reply d) t.1, t.2)

  back : AreBack p b h
  back = all_back numbers p h sound (λ k d here is. (tests k d (sym (one_is k d is) ∙ here)).1)

  in_b : (k : ℕ) (d : Call) → call_at p.calls k ≡ Some d → call_at b.calls k ≡ back_if (test (k, d)) (Some d)
  in_b k d is = calls_back numbers p k ∙ (λ i. back_if (one_is k d is i) (is i))

  is_back : (k : ℕ) (d : Call) → call_at p.calls k ≡ Some d → test (k, d) ≡ true → call_at b.calls k ≡ Some (at_stage stage.Fresh d)
  is_back k d is e = in_b k d is ∙ ap (λ x. back_if x (Some d)) e

  in_p : (k : ℕ) (s : HeldPath) → Holds (held_paths_in b.calls k) s → Holds (held_paths_in p.calls k) s
  in_p k s hold = stood (is_one_of k numbers) (call_at p.calls k) s (subst (λ (o : Option Call). Holds (option_map_or held_paths_at o []) s) (calls_back numbers p k) hold)

  -- ---- a call that has passed the old path lies below it
  -- If an end of another call has passed the old path, then so has its common directory. Otherwise
  -- that directory lies on the way of the end, where this call holds the parent of the old path.
  module _ (k : ℕ) (other : k ≢ c.number) (from to : Path) (common e1 e2 : Reached) (is : held_paths_in p.calls k ≡ held_paths_of (Between from to) (stage.Ends common e1 e2)) (ends : AreEnds from to common e1 e2) where
    common_past : (path : Path) (w : ℕ) → w < length path → IsPrefix (take common.walked from) (take w path) → has_walked path w old ≡ true
        → ((q : Path) → IsPrefix q (take w path) → IsOnWayTo (held_path_on from e1 ∷ held_path_on to e2 ∷ []) q) → length old ≤ common.walked
    common_past path w less below past at_end =
        let front = past_front old path w past (omega (arith, less)) in
        let parent = at_parent.1.walked in
        let up : IsPrefix (take parent old) old = record { rest = drop parent old; is = sym (take-append-drop parent old) } in
        let parent_below = begins_trans (take parent old) old (take w path) up (record { rest = front.0; is = front.1 }) in
        let longer = longer_front (take common.walked from) (take parent old) (take w path) below parent_below
        (λ b. let between = sound.coupled.walks.apart k c.number (held_path_on old at_parent.1) other holds_parent in
        subst (λ (x : List HeldPath). IsBetween x (take parent old) → ⊥) is between (b, at_end (take parent old) parent_below)) in
        let last = at_parent.4 in
        let short = ends.part.short in
        omega (arith, longer, last, length-take parent old, length-take common.walked from, short)

    first_past : has_walked from e1.walked old ≡ true → IsBelow old from × IsBelow old to
    first_past past =
        let many = common_past from e1.walked ends.short (begins_more from common.walked e1.walked ends.old_below) past (λ q b. inl b) in
        both_below old from to common.walked common.walked ends.part (omega arith) (past_back old from common.walked e1.walked many past)

    second_past : has_walked to e2.walked old ≡ true → IsBelow old from × IsBelow old to
    second_past past =
        let below = subst (λ (x : Path). IsPrefix x (take e2.walked to)) (sym ends.part.alike) (begins_more to common.walked e2.walked ends.new_below) in
        let many = common_past to e2.walked ends.short_new below past (λ q b. inr (inl b)) in
        let back_past = past_back old to common.walked e2.walked many past in
        let short = ends.part.short_new in
        let front = past_front old to common.walked back_past (omega (arith, short)) in
        both_below old from to common.walked common.walked ends.part (omega arith) (front_past old from common.walked front.0 (ends.part.alike ∙ front.1))

  lies_by : (k : ℕ) → k ≢ c.number → (r : Route) (g : Stage) → IsPosition r g → held_paths_in p.calls k ≡ held_paths_of r g → are_past (reached_at g) (paths_on r) old ≡ true → LiesBelow old r
  lies_by k other r g (Starts o is) own passed = cc
  lies_by k other r g (IsOn path w node less) own passed = passed_below old path w (alone (has_walked path w old) passed) less
  lies_by k other r g (IsBefore from to w node count part less) own passed = both_below old from to count w part (omega (arith, less)) (alone (has_walked from w old) passed)
  lies_by k other r g (IsApart from to common e1 e2 ends) own passed =
      elim (or_true (has_walked from common.walked old) (has_walked from e1.walked old || (has_walked to e2.walked old || false)) passed) [
        | inl past ↦ both_below old from to common.walked common.walked ends.part (omega arith) past
        | inr past ↦ elim (or_true (has_walked from e1.walked old) (has_walked to e2.walked old || false) past) [
          | inl first ↦ first_past k other from to common e1 e2 own ends first
          | inr second ↦ second_past k other from to common e1 e2 own ends (alone (has_walked to e2.walked old) second)
        ]
      ]

  ready : (k : ℕ) → is_one_of k numbers ≡ true → IsReady b old k
  ready k here =
      let d = there k here in
      let t = tests k d.0 d.2 in
      record {
        call = at_stage stage.Fresh d.0;
        at = is_back k d.0 d.1 d.2;
        undecided = reply_is (at_stage stage.Fresh d.0) ∙ sym (reply_is d.0) ∙ t.1;
        fresh = refl;
        below = lies_by k t.0 (route_of d.0.request) d.0.stage (sound.coupled.positions k d.0 d.1 t.1) (ap (λ (o : Option Call). option_map_or held_paths_at o []) d.1) t.2;
      }

  -- ---- no call is left at the old path or below it
  -- a call that holds a directory and isn't helped has not passed the old path
  behind_by : (k : ℕ) (d : Call) → call_at p.calls k ≡ Some d → test (k, d) ≡ false → (s : HeldPath) → Holds (held_paths_at d) s → has_passed d old ≡ false
  behind_by k d is e s hold = elim (same_or_not k c.number) [
    | inl same ↦ ap (λ (x : Call). has_passed x old) (some_eq d c (sym is ∙ ap (call_at p.calls) same ∙ at)) ∙ own_behind
    | inr ne ↦
        let waits = ap is_none (no_value (waiting_reply d) (λ given r. subst (λ (x : List HeldPath). Holds x s) (rests_none (route_of d.request) d.stage (sound.coupled.waiting k d given is r)) hold)) in
        three_false (not (nat_eq k c.number)) (is_none (waiting_reply d)) (has_passed d old) e (apart_test k c.number ne) waits
  ]

  clear : IsClear b old
  clear k s hold = elim (call_at p.calls k) as (λ o. call_at p.calls k ≡ o → Holds (option_map_or held_paths_at o []) s → after_front old s.path ≡ None) [
    | None ↦ λ e held. absurd held
    | Some d ↦ λ e held.
        let not = not_true (test (k, d)) (λ y. subst (λ (o : Option Call). Holds (option_map_or held_paths_at o []) s) (is_back k d e y) hold) in
        held_aside old (reached_at d.stage) (paths_on (route_of d.request)) (behind_by k d e not s held) s held
  ] refl (in_p k s hold)

  rise : IsStrictlySortedBy nat_cmp numbers
  rise = numbers_rise test p.calls sound.ledger.calls_rise

  pub all : HelpedAll old b m h numbers
  all = help_all numbers old b m h (record { sound = back.sound; clear = clear; fits = let e = back.look_ups in omega (arith, e, fits) }) ready (rising_apart numbers rise) helps

  not_these : (k : ℕ) (d : Call) → call_at p.calls k ≡ Some d → test (k, d) ≡ false → IsStill m (HasCut all.helped) k d
  not_these k d is e = all.others k d (one_is k d is ∙ e) (in_b k d is ∙ ap (λ x. back_if x (Some d)) e)

  at_m : call_at m.calls c.number ≡ Some c
  at_m = still_undecided p m h sound (HasCut all.helped) c.number (record { call = c; at = at; undecided = undecided }) (not_these c.number c at (not_true (test (c.number, c)) (λ e. (tests c.number c e).0 refl)))

  now : Sound m (h ++ all.helped)
  now = all.led.sound

  -- nothing moves where another call holds a directory
  module _ (given : Reply) (mid : StoreState)
      (served : IsRefused m.store mid (replay (h ++ all.helped)) given ⊎ IsCarriedOut mid (replay (h ++ all.helped)) (answer_to (replay (h ++ all.helped)) c.session c.number c.moment c.request) given)
      (stays : NodesStay c.number m.store mid)
      (path : Path) (l holder : ℕ) (leads : walk (child_of m.store.nodes) m.store.root path ≡ Some l) (held : walker_of m.store.nodes l ≡ Some holder) (other : c.number ≢ holder) where
    the : IsNodeOf (held_paths_in m.calls holder) l
    the = now.coupled.walks.holds l holder held

    same_path : the.held_path.path ≡ path
    same_path =
        let w = now.coupled.walks.leads holder the.held_path the.holds in
        one_way m.store (replay (h ++ all.helped)) now.history.tree the.held_path.path path l (w.names ∙ ap Some the.node) leads (ap (is_directory_at m.store.nodes) (sym the.node) ∙ w.directory)

    held_in_b : Holds (held_paths_in b.calls holder) the.held_path
    held_in_b = all.led.stood holder the.held_path the.holds

    not_new : path ≡ new → ⊥
    not_new same =
        let held_in_p = in_p holder the.held_path held_in_b in
        let way = located_at p.store.nodes new p.store.root p.store.root the.held_path.node (ap (walk (child_of p.store.nodes) p.store.root) (sym (same_path ∙ same)) ∙ (sound.coupled.walks.leads holder the.held_path held_in_p).names) in
        let free_at : IsFree (holder_of p.store.nodes) c.number the.held_path.node = subst (λ (f : Located). IsFreeThere (holder_of p.store.nodes) c.number f) (new_is ∙ way.1) free_new in
        other (free_at holder (walker_holds p.store.nodes the.held_path.node holder (sound.coupled.walks.held holder the.held_path held_in_p)).1)

    label_some : IsSome (label_at (replay (h ++ all.helped)).names path)
    label_some =
        let it = reached_node m.store (replay (h ++ all.helped)) now.history.tree path l leads in
        ap is_some
        (label_found m.store (replay (h ++ all.helped)) now.history.tree path ∙ ap (λ (o : Option ℕ). option_map (λ (y : Node). y.label) (option_and_then (node_in m.store.nodes) o)) leads ∙ ap (option_map (λ (y : Node). y.label)) it.1)

    pub label_there : label_at (after (replay (h ++ all.helped)) (did c given)).names path ≡ label_at (replay (h ++ all.helped)).names path
    label_there =
        let above = (now.ledger.calls c.number c at_m).above in
        let fresh = now.history.undecided c.number c at_m undecided in
        label_after m.store mid (h ++ all.helped) c.number c.session c.moment c.request given now.history.legal above fresh now.history.tree served stays path
        (spared_labels (record { history = h ++ all.helped; session = c.session; number = c.number; moment = c.moment; request = c.request; legal = now.history.legal; above = above; fresh = fresh }) old new path paths label_some (ap (after_front old) (sym same_path) ∙ clear holder the.held_path held_in_b) not_new)

  -- ---- both paths lead to the same inodes as before
  aside_old : (q r : Path) → q ++ r ≡ old → IsAside old q
  aside_old q r e name rest f =
      let a = ap (λ (x : Path). length x) (append-after_front old q (name ∷ rest) f) in
      let d = ap (λ (x : Path). length x) e in
      absurd (omega (arith, a, d, length-append old (name ∷ rest), length-append q r))

  aside_new : (q r : Path) → q ++ r ≡ new → IsAside old q
  aside_new q r e name rest f =
      let inside : new ≡ old ++ ((name ∷ rest) ++ r) = sym e ∙ ap (λ (x : Path). x ++ r) (append-after_front old q (name ∷ rest) f) ∙ append_assoc old (name ∷ rest) r in
      let some = ap (after_front old) inside ∙ after_front-append old ((name ∷ rest) ++ r) in
      none_some ((name ∷ rest) ++ r) (sym is_move.not_inside ∙ some)

  way_still : (path : Path) → ((q r : Path) → q ++ r ≡ path → IsAside old q) → way_from p.store.nodes p.store.root p.store.root path ≢ located.NoWay
      → way_from m.store.nodes m.store.root m.store.root path ≡ way_from p.store.nodes p.store.root p.store.root path
  way_still path aside some =
      let same = walk_same p.store b.store back.ground in
      way_kept p.store m.store (replay h) (replay (h ++ all.helped)) sound.history.tree now.history.tree path (λ q r e. all.led.walks q (aside q r e) ∙ same q)
      (λ q r l e w d. all.led.directory q l (aside q r e) (same q ∙ w) (back.ground.directory l ∙ d)) some

  located_m : IsLocated m.store c.request ways
  located_m = subst (λ (r : Route). AreWays m.store r ways) (sym route_is) (
    ways_are.0,
    (
      ways_are.1.0 ∙ sym (way_still old aside_old (λ none. let x : located.NoWay ≡ located.At old_way.0 old_node.0 = sym none ∙ old_way.1 in cc)),
      λ _. new_is ∙ sym (way_still new aside_new (λ none.
          let a : look_up (replay h) new ≡ place.NoWay = no_way p.store (replay h) sound.history.tree new none in
          let d : look_up (replay h) new ≡ lookup_of (label_at (replay h).names new) = ap (λ y. cond y place.NoWay (lookup_of (label_at (replay h).names new))) is_move.way in
          no_place (label_at (replay h).names new) (sym d ∙ a))),
    ),
  )

  became : (k : ℕ) (d : Call) → k ≢ c.number → call_at p.calls k ≡ Some d → Became m all.helped k d
  became k d ne is = by_test (test (k, d)) (λ e. let w = all.these k (one_is k d is ∙ e) (at_stage stage.Fresh d) (is_back k d is e) in inr (w.0, w.1, (tests k d e).1, w.2))
      (λ e. inl (not_these k d is e))

  pub prepared_moved : Prepared p m h c ways
  prepared_moved = record {
    helped = all.helped;
    sound = now;
    at = at_m;
    labels = label_there;
    located = located_m;
    settled = settled_paths m.store c.session c.request ways.path old new paths;
    sure = all.led.sure;
    records = subst (λ (o : Option Path). AreRecordsOf p.calls (overtaken p.calls c.number o) all.helped) (sym moved)
        (records_on p.calls b.calls numbers all.helped
        (λ k x here at_b none.
        let d = there k here in
        let same = some_eq (at_stage stage.Fresh d.0) x (sym (is_back k d.0 d.1 d.2) ∙ at_b) in
        (d.0, d.1, (tests k d.0 d.2).1, λ g. ap (λ (y : Call). did y g) (sym same))) all.records);
    rising = subst (λ (ns : List ℕ). IsStrictlySortedBy nat_cmp ns) (sym all.numbers) rise;
    each = became;
    sessions = all.led.sessions ∙ back.sessions;
    drawn = all.led.drawn ∙ back.drawn;
    joins = all.led.joins ∙ back.joins;
    keep = all.led.keep ∙ ap (λ (x : BookView). x.keep) back.book;
    more = let e = back.look_ups in let f = all.led.more in omega (arith, e, f);
    few = let e = back.look_ups in let f = all.led.few in omega (arith, e, f);
  }

-- ---- both
-- an undecided call that may be decided at the end of its lookups
pub record MayPrepare (p : PartsView) (h : List Record) (c : Call) (ways : Ways) : Type 0 where
  pub sound : Sound p h
  pub fits : p.store.look_ups < 2 ^ 64
  pub at : call_at p.calls c.number ≡ Some c
  pub undecided : waiting_reply c ≡ None
  pub located : IsLocated p.store c.request ways
  pub free : AreFree (holder_of p.store.nodes) c.number (route_of c.request) ways
  pub holds : HoldsParent (route_of c.request) c.stage ways
  pub settled : IsSettled p.store c.session c.request ways.path

pub prepared : (p : PartsView) (h : List Record) (c : Call) (ways : Ways) → MayPrepare p h c ways → (m : PartsView) → Overtakes p m c → Prepared p m h c ways
prepared p h c ways may m overtakes =
    let o = overtakes (replay h) may.sound.history.tree in
    elim (moved_by (answer_to (replay h) c.session c.number c.moment c.request).changes) as (λ x. moved_by (answer_to (replay h) c.session c.number c.moment c.request).changes ≡ x → Prepared p m h c ways) [
      | None ↦ λ e.
          let none : o.0 ≡ [] = o.1 ∙ ap (overtaken p.calls c.number) e in
          prepared_unmoved p h may.sound c may.at may.undecided ways may.located may.free may.settled e m (subst (λ (ns : List ℕ). HelpsAll (all_set_back p ns) ns m) none o.2)
      | Some x ↦ λ e. by_target x e (target_of c.request) refl
    ] refl
  where
    by_target : (x : Path) → moved_by (answer_to (replay h) c.session c.number c.moment c.request).changes ≡ Some x → (g : Target) → target_of c.request ≡ g → Prepared p m h c ways
    by_target x e (OnPaths old new) f =
        let o = overtakes (replay h) may.sound.history.tree in
        let call : NewCall = record {
          history = h;
          session = c.session;
          number = c.number;
          moment = c.moment;
          request = c.request;
          legal = may.sound.history.legal;
          above = (may.sound.ledger.calls c.number c may.at).above;
          fresh = may.sound.history.undecided c.number c may.at may.undecided;
        } in
        let is = moved_old call old new x f e in
        let moved : moved_by (answer_to (replay h) c.session c.number c.moment c.request).changes ≡ Some old = e ∙ ap Some is.0 in
        let these : o.0 ≡ overtaken p.calls c.number (Some old) = o.1 ∙ ap (overtaken p.calls c.number) moved in
        prepared_moved p h may.sound may.fits c may.at may.undecided ways may.located may.free may.holds old new f moved is.1 m (subst (λ (ns : List ℕ). HelpsAll (all_set_back p ns) ns m) these o.2)
    by_target x e _ f = absurd (none_some x (sym (never_moved (replay h) c.session c.number c.moment c.request (λ old new same. let k = sym f ∙ same in cc)) ∙ e))
