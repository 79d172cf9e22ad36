-- The outcome of a rename, in the store and in the tree that it represents.
use Rattle.std.specs.Prelude.{◌≡◌, ◌≢◌, ◌<◌, ℕ, length, nat_eq, Bool, true, false, cond, if◌then◌else◌, not, ◌&&◌, ◌||◌, List, [], ◌∷◌, ◌++◌, is_some, Option, Some, None, refl}
use Rattle.std.specs.Option.{option_map_or}
use Rattle.std.proofs.Common.{sym, ap, subst, ◌∙◌, inl, inr, eq-eqb, eqb-true}
use Rattle.sf_path.specs.Names.{Name, Path}
use Rattle.sf_path.specs.Order.{same_path}
use Rattle.sf_reply.specs.declared.reply.StatusCode.TheVariants.{NoSuchFile, Failure}
use Rattle.sf_call.specs.declared.metadata.Metadata.{Metadata}
use Rattle.sf_call.specs.declared.lookup.Lookup.{Lookup}
use Rattle.sf_call.specs.declared.lookup.Lookup.TheVariants as lookup
use Rattle.sf_call.specs.Routes.{are_nested, is_rooted, route_between, route_kind}
use Rattle.sf_call.specs.Routes.Route.{NoPath, Along, Between}
use Rattle.sf_call.specs.Tree.{Tree, after_front, label_at, lookup_of, look_up, found_at, is_directory, is_faulty_way, is_empty}
use Rattle.sf_call.specs.Calls.{Outcome, refuses, succeeds, moves, unless_nested, unless_root, rename_to, rename, replace_by, posix_rename}
use Rattle.sf_inode.specs.declared.node.Node.{Node}
use Rattle.sf_inode.specs.declared.node.Content.{Content}
use Rattle.sf_inode.specs.declared.node.Content.TheVariants as content
use Rattle.sf_inode.specs.Nodes.{object_in, is_directory_content}
use Rattle.sf_inode.specs.Stores.{StoreState, node_in, child_of, is_directory_at, is_bare_at}
use Rattle.sf_keeps.specs.Steps.{walk}
use Rattle.sf_keeps.specs.Keeps.{Keeps}
use Rattle.sf_call.proofs.Laws.{front_itself, same_path_is}
use Rattle.sf_keeps.proofs.Laws.{bare_found, one_node, one_way}
use Rattle.sf_call.specs.declared.route.RouteKind.TheVariants as kind
use Rattle.sf_walk.specs.declared.finding.Ways.{Ways}
use Rattle.sf_walk.specs.declared.finding.Located.{Located}
use Rattle.sf_walk.specs.declared.finding.Located.TheVariants as located
use Rattle.sf_walk.specs.Ways.{way_from, found_node, IsThere, Lead, AreWays}
use Rattle.sf_walk.specs.Renames.{may_replace, MayMove}
use Rattle.sf_walk.proofs.Fits.{Known, no_way, name_missing, node_at, directory_says}
use Rattle.sf_walk.proofs.Onward.{has_entry}
use Rattle.sf_walk.proofs.Parting.{not_nothing}
use Rattle.sf_walk.proofs.PathCalls.{file_bare, found_no_way, found_missing}
use Rattle.sf_call.specs.Attributes.{Object}

abbrev pub AreNoRoots : Path → Path → Type 0
AreNoRoots old new = (old ≡ [] → ⊥) × (new ≡ [] → ⊥)

not_rooted : (p q : Path) → AreNoRoots p q → is_rooted p q ≡ false
not_rooted [] q ne = absurd (ne.0 refl)
not_rooted (n ∷ p) [] ne = absurd (ne.1 refl)
not_rooted (n ∷ p) (m ∷ q) ne = refl

-- a lookup says whether the way is faulty
no_way_faulty : (b : Bool) (o : Option ℕ) → cond b lookup.NoWay (lookup_of o) ≡ lookup.NoWay → b ≡ true
no_way_faulty true o e = refl
no_way_faulty false None e = cc
no_way_faulty false (Some label) e = cc

absent_open : (b : Bool) (o : Option ℕ) → cond b lookup.NoWay (lookup_of o) ≡ lookup.Absent → b ≡ false
absent_open true o e = cc
absent_open false o e = refl

is_false : (b : Bool) → b ≡ true → b ≡ false → ⊥
is_false true a b = cc
is_false false a b = cc

-- neither of two paths is the root if neither is a prefix of the other
not_rooted_apart : (p q : Path) → are_nested p q ≡ false → is_rooted p q ≡ false
not_rooted_apart (n ∷ p) (m ∷ q) apart = refl
not_rooted_apart _ _ apart = cc

unrooted : (p q : Path) → is_rooted p q ≡ false → AreNoRoots p q
unrooted (n ∷ p) (m ∷ q) e = (λ a. cc, λ a. cc)
unrooted _ _ e = cc

root_refused : (p q : Path) (a : Outcome) → is_rooted p q ≡ true → unless_root p (unless_root q a) ≡ refuses Failure
root_refused (n ∷ p) (m ∷ q) a e = cc
root_refused _ _ a e = refl

below_itself : (p : Path) → is_some (after_front p p) ≡ true
below_itself p = ap (λ (x : Option Path). is_some x) (front_itself p)

nested_itself : (p q : Path) → p ≡ q → are_nested p q ≡ true
nested_itself p q e = ap (λ (r : Path). is_some (after_front p r) || is_some (after_front r p)) (sym e) ∙ ap (λ b. b || is_some (after_front p p)) (below_itself p)

differ : (p q : Path) → are_nested p q ≡ false → same_path p q ≡ false
differ p q apart = elim (same_path p q) as (λ b. same_path p q ≡ b → b ≡ false) [
  | true ↦ λ same. absurd (is_false (are_nested p q) (nested_itself p q (same_path_is p q same)) apart)
  | false ↦ λ other. refl
] refl

module _ (s : StoreState) (old new : Path) (ways : Ways) (are : AreWays s (route_between old new) ways) where
  -- ---- the kind of the route determines which path is a prefix of the other
  rooted_by : (a b : Bool) → ways.kind ≡ route_kind (if a then NoPath else if b then Along old else Between old new) → ways.kind ≡ kind.NoPath → a ≡ true
  rooted_by true b e f = refl
  rooted_by false true e f = absurd (let h : kind.Along ≡ kind.NoPath = sym e ∙ f in cc)
  rooted_by false false e f = absurd (let h : kind.Between ≡ kind.NoPath = sym e ∙ f in cc)

  unrooted_by : (a b : Bool) → ways.kind ≡ route_kind (if a then NoPath else if b then Along old else Between old new) → (ways.kind ≡ kind.NoPath → ⊥) → a ≡ false
  unrooted_by true b e ne = absurd (ne e)
  unrooted_by false b e ne = refl

  nested_by : (a b : Bool) → ways.kind ≡ route_kind (if a then NoPath else if b then Along old else Between old new) → ways.kind ≡ kind.Along → b ≡ true
  nested_by true b e f = absurd (let h : kind.NoPath ≡ kind.Along = sym e ∙ f in cc)
  nested_by false true e f = refl
  nested_by false false e f = absurd (let h : kind.Between ≡ kind.Along = sym e ∙ f in cc)

  apart_by : (a b : Bool) → ways.kind ≡ route_kind (if a then NoPath else if b then Along old else Between old new) → (ways.kind ≡ kind.NoPath → ⊥) → (ways.kind ≡ kind.Along → ⊥) → b ≡ false
  apart_by true b e no_path no_one = absurd (no_path e)
  apart_by false true e no_path no_one = absurd (no_one e)
  apart_by false false e no_path no_one = refl

  pub roots_refused : ways.kind ≡ kind.NoPath → (a : Outcome) → unless_root old (unless_root new a) ≡ refuses Failure
  roots_refused no_path a = root_refused old new a (rooted_by (is_rooted old new) (are_nested old new) are.0 no_path)

  pub no_roots : (ways.kind ≡ kind.NoPath → ⊥) → AreNoRoots old new
  no_roots some = unrooted old new (unrooted_by (is_rooted old new) (are_nested old new) are.0 some)

  pub nested_there : ways.kind ≡ kind.Along → are_nested old new ≡ true
  nested_there one = nested_by (is_rooted old new) (are_nested old new) are.0 one

  pub apart_there : (ways.kind ≡ kind.NoPath → ⊥) → (ways.kind ≡ kind.Along → ⊥) → are_nested old new ≡ false
  apart_there some two = apart_by (is_rooted old new) (are_nested old new) are.0 some two

  pub not_same : (ways.kind ≡ kind.NoPath → ⊥) → (ways.kind ≡ kind.Along → ⊥) → same_path old new ≡ false
  not_same some two = differ old new (apart_there some two)

  pub never_same : (ways.kind ≡ kind.NoPath → ⊥) → (ways.kind ≡ kind.Along → ⊥) → same_path old new ≡ true → ⊥
  never_same some two same = is_false (same_path old new) same (not_same some two)

  pub old_named : (ways.kind ≡ kind.NoPath → ⊥) → 0 < length old
  old_named some = not_nothing old (no_roots some).0

  pub new_named : (ways.kind ≡ kind.NoPath → ⊥) → 0 < length new
  new_named some = not_nothing new (no_roots some).1

  -- ---- the inodes of the paths
  old_by : (a b : Bool) → a ≡ false → Lead s (if a then NoPath else if b then Along old else Between old new) ways → ways.path ≡ way_from s.nodes s.root s.root old
  old_by true b e h = cc
  old_by false true e h = h
  old_by false false e h = h.0

  new_by : (a b : Bool) → a ≡ false → b ≡ false → Lead s (if a then NoPath else if b then Along old else Between old new) ways → IsThere ways.path → ways.new ≡ way_from s.nodes s.root s.root new
  new_by false false e f h = h.1
  new_by _ _ e f h = cc

  pub old_found : AreNoRoots old new → (found : Located) → ways.path ≡ found → way_from s.nodes s.root s.root old ≡ found
  old_found ne found e = sym (old_by (is_rooted old new) (are_nested old new) (not_rooted old new ne) are.1) ∙ e

  pub new_found : are_nested old new ≡ false → (from node : ℕ) → ways.path ≡ located.At from node → (found : Located) → ways.new ≡ found → way_from s.nodes s.root s.root new ≡ found
  new_found apart from node there found e = sym (new_by (is_rooted old new) (are_nested old new) (not_rooted_apart old new apart) apart are.1 (subst IsThere (sym there) tt)) ∙ e

no_root : (p : Path) (a : Outcome) → (p ≡ [] → ⊥) → unless_root p a ≡ a
no_root [] a ne = absurd (ne refl)
no_root (n ∷ p) a ne = refl

none_first : (o : Option Path) (b : Bool) → (is_some o || b) ≡ false → o ≡ None
none_first None b e = refl
none_first (Some p) b e = cc

either : (b : Bool) (this that : Outcome) → cond b this that ≡ cond (not b) that this
either true this that = refl
either false this that = refl

last_known : (nodes : List (Option Node)) (root : ℕ) (p : Path) (above y : ℕ) → (p ≡ [] → ⊥) → Known nodes root p above y
    → (r : Path) × (n : Name) × (p ≡ r ++ n ∷ []) × (walk (child_of nodes) root r ≡ Some above) × (child_of nodes above n ≡ Some y)
last_known nodes root p above y ne (inl e) = absurd (ne e)
last_known nodes root p above y ne (inr h) = h

module _ (s : StoreState) (t : Tree) (k : Keeps s t) (moment : ℕ) (old new : Path) (ne : AreNoRoots old new) where
  pub past_roots : (a : Outcome) → unless_root old (unless_root new a) ≡ a
  past_roots a = no_root old (unless_root new a) ne.0 ∙ no_root new a ne.1

  -- ---- the old path leads to no inode
  pub old_no_way : (f : Lookup → Outcome) → f lookup.NoWay ≡ refuses NoSuchFile → way_from s.nodes s.root s.root old ≡ located.NoWay → unless_root old (unless_root new (f (look_up t old))) ≡ refuses NoSuchFile
  old_no_way f at e = past_roots (f (look_up t old)) ∙ ap f (no_way s t k old e) ∙ at

  pub old_missing : (f : Lookup → Outcome) → f lookup.Absent ≡ refuses NoSuchFile → (d : ℕ) → way_from s.nodes s.root s.root old ≡ located.Missing d → unless_root old (unless_root new (f (look_up t old))) ≡ refuses NoSuchFile
  old_missing f at d e = past_roots (f (look_up t old)) ∙ ap f (name_missing s t k old d e).0 ∙ at

  -- ---- the old path leads to an inode
  module _ (from node : ℕ) (at : way_from s.nodes s.root s.root old ≡ located.At from node) where
    abbrev label : ℕ
    label = (node_at s t k old from node at).2.0.label

    there : (f : Lookup → Outcome) → unless_root old (unless_root new (f (look_up t old))) ≡ f (lookup.At label)
    there f = past_roots (f (look_up t old)) ∙ ap f (node_at s t k old from node at).2.2

    pub rename_nested : are_nested old new ≡ true → unless_root old (unless_root new (rename t moment old new (look_up t old))) ≡ refuses Failure
    rename_nested nested = there (rename t moment old new) ∙ ap (λ b. cond {A = Outcome} b (refuses Failure) (rename_to t moment old new (look_up t new))) nested

    pub posix_same : same_path old new ≡ true → unless_root old (unless_root new (posix_rename t moment old new (look_up t old))) ≡ succeeds []
    posix_same same = there (posix_rename t moment old new) ∙ ap (λ b. cond {A = Outcome} b (succeeds []) (unless_nested old new (replace_by t moment old new label (found_at t new)))) same

    posix_other : same_path old new ≡ false → unless_root old (unless_root new (posix_rename t moment old new (look_up t old))) ≡ unless_nested old new (replace_by t moment old new label (found_at t new))
    posix_other other = there (posix_rename t moment old new) ∙ ap (λ b. cond {A = Outcome} b (succeeds []) (unless_nested old new (replace_by t moment old new label (found_at t new)))) other

    pub posix_nested : same_path old new ≡ false → are_nested old new ≡ true → unless_root old (unless_root new (posix_rename t moment old new (look_up t old))) ≡ refuses Failure
    posix_nested other nested = posix_other other ∙ ap (λ b. cond {A = Outcome} b (refuses Failure) (replace_by t moment old new label (found_at t new))) nested

    module _ (apart : are_nested old new ≡ false) where
      rename_is : (place : Lookup) → look_up t new ≡ place → unless_root old (unless_root new (rename t moment old new (look_up t old))) ≡ rename_to t moment old new place
      rename_is place e =
          there (rename t moment old new) ∙ ap (λ b. cond {A = Outcome} b (refuses Failure) (rename_to t moment old new (look_up t new))) apart ∙ ap (rename_to t moment old new) e

      -- ---- the entry moves
      may_move : (beside : Path) (last : Name) (into : ℕ) → new ≡ beside ++ last ∷ [] → walk (child_of s.nodes) s.root beside ≡ Some into → is_directory_at s.nodes into ≡ true
          → ((target : ℕ) → child_of s.nodes into last ≡ Some target → is_bare_at s.nodes target ≡ true)
          → ((target : ℕ) → child_of s.nodes into last ≡ Some target → node ≢ target) → MayMove s old new from into
      may_move beside last into is leads dir bare another =
          let f = last_known s.nodes s.root old from node ne.0 (node_at s t k old from node at).1 in
          record {
            above = f.0;
            name = f.1;
            node = node;
            is_old = f.2;
            leads = f.3;
            there = f.4;
            beside = beside;
            last = last;
            is_new = is;
            leads_new = leads;
            directory = dir;
            not_inside = none_first (after_front old new) (is_some (after_front new old)) apart;
            bare = bare;
            other = another;
          }

      may_move_free : (into : ℕ) → way_from s.nodes s.root s.root new ≡ located.Missing into → MayMove s old new from into
      may_move_free into e =
          let f = (name_missing s t k new into e).1 in
          may_move f.0 f.1 into f.2 f.3 f.5 (λ target some. let h : None ≡ Some target = sym f.4 ∙ some in cc)
          (λ target some. let h : None ≡ Some target = sym f.4 ∙ some in cc)

      may_move_over : (into target : ℕ) → way_from s.nodes s.root s.root new ≡ located.At into target → is_bare_at s.nodes target ≡ true → node ≢ target → MayMove s old new from into
      may_move_over into target e bare another =
          let f = last_known s.nodes s.root new into target ne.1 (node_at s t k new into target e).1 in
          may_move f.0 f.1 into f.2 f.3 (has_entry s.nodes into f.1 target f.4)
          (λ other some. let h : Some target ≡ Some other = sym f.4 ∙ some in let same : target ≡ other = cc in ap (is_bare_at s.nodes) (sym same) ∙ bare)
          (λ other some is. let h : Some target ≡ Some other = sym f.4 ∙ some in let same : target ≡ other = cc in another (is ∙ sym same))

      -- ---- RENAME
      pub rename_no_way : way_from s.nodes s.root s.root new ≡ located.NoWay → unless_root old (unless_root new (rename t moment old new (look_up t old))) ≡ refuses NoSuchFile
      rename_no_way e = rename_is lookup.NoWay (no_way s t k new e)

      pub rename_taken : (d y : ℕ) → way_from s.nodes s.root s.root new ≡ located.At d y → unless_root old (unless_root new (rename t moment old new (look_up t old))) ≡ refuses Failure
      rename_taken d y e = rename_is (lookup.At (node_at s t k new d y e).2.0.label) (node_at s t k new d y e).2.2

      pub rename_moves : (into : ℕ) → way_from s.nodes s.root s.root new ≡ located.Missing into
          → (unless_root old (unless_root new (rename t moment old new (look_up t old))) ≡ moves t moment old new) × MayMove s old new from into
      rename_moves into e = (rename_is lookup.Absent (name_missing s t k new into e).0, may_move_free into e)

      -- ---- the extension
      module _ (other : same_path old new ≡ false) where
        posix_is : (found : Option (ℕ × Object)) → found_at t new ≡ found → unless_root old (unless_root new (posix_rename t moment old new (look_up t old))) ≡ replace_by t moment old new label found
        posix_is found e =
            posix_other other ∙ ap (λ b. cond {A = Outcome} b (refuses Failure) (replace_by t moment old new label (found_at t new))) apart ∙ ap (replace_by t moment old new label) e

        pub posix_no_way : way_from s.nodes s.root s.root new ≡ located.NoWay → unless_root old (unless_root new (posix_rename t moment old new (look_up t old))) ≡ refuses NoSuchFile
        posix_no_way e =
            posix_is _ (found_no_way s t new k e)
            ∙ ap (λ b. cond {A = Outcome} b (refuses NoSuchFile) (moves t moment old new)) (no_way_faulty (is_faulty_way t new) (label_at t.names new) (no_way s t k new e))

        pub posix_moves : (into : ℕ) → way_from s.nodes s.root s.root new ≡ located.Missing into
            → (unless_root old (unless_root new (posix_rename t moment old new (look_up t old))) ≡ moves t moment old new) × MayMove s old new from into
        posix_moves into e = (
          posix_is _ (found_missing s t new k into e)
              ∙ ap (λ b. cond {A = Outcome} b (refuses NoSuchFile) (moves t moment old new)) (absent_open (is_faulty_way t new) (label_at t.names new) (name_missing s t k new into e).0),
          may_move_free into e,
        )

        -- both paths lead to one inode, which is then a file, since a directory has one path
        pub posix_one : (into target : ℕ) → way_from s.nodes s.root s.root new ≡ located.At into target → node ≡ target
            → unless_root old (unless_root new (posix_rename t moment old new (look_up t old))) ≡ succeeds []
        posix_one into target e one =
            let w = node_at s t k new into target e in
            let o = node_at s t k old from node at in
            let same : Some o.2.0 ≡ Some w.2.0 = sym o.2.1 ∙ ap (node_in s.nodes) one ∙ w.2.1 in
            let labels : label ≡ w.2.0.label = ap (λ (x : Option Node). option_map_or (λ (y : Node). y.label) x 0) same in
            posix_is (found_node w.2.0) w.2.3
            ∙ one_content w.2.0.label w.2.0.metadata w.2.0.content labels (λ directory. no_directory target (o.0 ∙ ap Some one) w.0
            (ap (λ (x : Option Node). option_map_or (λ (y : Node). is_directory_content y.content) x false) w.2.1 ∙ directory))
          where
            no_directory : (d : ℕ) → walk (child_of s.nodes) s.root old ≡ Some d → walk (child_of s.nodes) s.root new ≡ Some d → is_directory_at s.nodes d ≡ true → ⊥
            no_directory d to_old to_new directory =
                let paths : old ≡ new = one_way s t k old new d to_old to_new directory in
                is_false (are_nested old new) (nested_itself old new paths) apart

            one_content : (l : ℕ) (m : Metadata) (c : Content) → label ≡ l → (is_directory_content c ≡ true → ⊥) → replace_by t moment old new label (Some (l, object_in m c)) ≡ succeeds []
            one_content l m (content.Directory es) labels never = absurd (never refl)
            one_content l m (content.File contents) labels never = ap (λ b. cond {A = Outcome} b (succeeds []) (cond (is_directory t old) (refuses Failure) (moves t moment old new))) (eq-eqb label l labels)

        -- they lead to two inodes
        module _ (into target : ℕ) (e : way_from s.nodes s.root s.root new ≡ located.At into target) (two : node ≢ target) where
          replace_content : (l : ℕ) (m : Metadata) (c : Content) → nat_eq label l ≡ false → replace_by t moment old new label (Some (l, object_in m c))
              ≡ cond (cond (is_directory_content c) (is_directory t old && is_empty t.names new) (not (is_directory t old))) (moves t moment old new) (refuses Failure)
          replace_content l m (content.Directory es) ne = refl
          replace_content l m (content.File contents) ne =
              ap (λ b. cond {A = Outcome} b (succeeds []) (cond (is_directory t old) (refuses Failure) (moves t moment old new))) ne
              ∙ either (is_directory t old) (refuses Failure) (moves t moment old new)

          labels_differ : nat_eq label (node_at s t k new into target e).2.0.label ≡ false
          labels_differ =
              let w = node_at s t k new into target e in
              let o = node_at s t k old from node at in
              elim (nat_eq label w.2.0.label) as (λ b. nat_eq label w.2.0.label ≡ b → b ≡ false) [
                | true ↦ λ same. absurd (two (one_node s t k node target o.2.0 w.2.0 o.2.1 w.2.1 (eqb-true label w.2.0.label same)))
                | false ↦ λ f. refl
              ] refl

          replaces : unless_root old (unless_root new (posix_rename t moment old new (look_up t old))) ≡ cond (may_replace s.nodes node target) (moves t moment old new) (refuses Failure)
          replaces =
              let w = node_at s t k new into target e in
              let it = w.2.0 in
              posix_is (found_node it) w.2.3 ∙ replace_content it.label it.metadata it.content labels_differ
              ∙ ap (λ b. cond {A = Outcome} (cond b (is_directory t old && is_empty t.names new) (not (is_directory t old))) (moves t moment old new) (refuses Failure))
              (sym (ap (λ (o : Option Node). option_map_or (λ (x : Node). is_directory_content x.content) o false) w.2.1))
              ∙ ap (λ d. cond {A = Outcome} (cond (is_directory_at s.nodes target) (d && is_empty t.names new) (not d)) (moves t moment old new) (refuses Failure))
              (directory_says s t k old node (node_at s t k old from node at).0)
              ∙ ap (λ b. cond {A = Outcome} (cond (is_directory_at s.nodes target) (is_directory_at s.nodes node && b) (not (is_directory_at s.nodes node))) (moves t moment old new) (refuses Failure))
              (bare_found s t k new target w.0)

          pub posix_refused : may_replace s.nodes node target ≡ false → unless_root old (unless_root new (posix_rename t moment old new (look_up t old))) ≡ refuses Failure
          posix_refused may = replaces ∙ ap (λ b. cond {A = Outcome} b (moves t moment old new) (refuses Failure)) may

          second : (a b : Bool) → (a && b) ≡ true → b ≡ true
          second true b e = e
          second false b e = cc

          bare : (it : Node) → node_in s.nodes target ≡ Some it → may_replace s.nodes node target ≡ true → is_bare_at s.nodes target ≡ true
          bare it here =
              elim (is_directory_at s.nodes target) as (λ b. is_directory_at s.nodes target ≡ b
              → cond b (is_directory_at s.nodes node && is_bare_at s.nodes target) (not (is_directory_at s.nodes node)) ≡ true → is_bare_at s.nodes target ≡ true) [
                | true ↦ λ d e. second (is_directory_at s.nodes node) (is_bare_at s.nodes target) e
                | false ↦ λ d e. file_bare s.nodes target it here d
              ] refl

          pub posix_replaces : may_replace s.nodes node target ≡ true
              → (unless_root old (unless_root new (posix_rename t moment old new (look_up t old))) ≡ moves t moment old new) × MayMove s old new from into
          posix_replaces may =
              let w = node_at s t k new into target e in
              (replaces ∙ ap (λ b. cond {A = Outcome} b (moves t moment old new) (refuses Failure)) may, may_move_over into target e (bare w.2.0 w.2.1 may) two)
