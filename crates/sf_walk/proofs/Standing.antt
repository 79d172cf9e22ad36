-- A call that took a step holds the directory that the step led to.
use Rattle.std.specs.Prelude.{◌≡◌, ℕ, zero, suc, true, false, Bool, if◌then◌else◌, List, [], ◌∷◌, Option, Some, None, option_map, option_and_then, refl}
use Rattle.std.specs.Option.{option_map_or}
use Rattle.std.proofs.Common.{sym, ap, subst, ◌∙◌, inl, inr}
use Rattle.sf_path.specs.Names.{Name, Path}
use Rattle.sf_call.specs.declared.call.Stage.{Stage}
use Rattle.sf_call.specs.declared.call.Stage.TheVariants as stage
use Rattle.sf_call.specs.declared.request.Request.{Request}
use Rattle.sf_call.specs.Requests.{Target, target_of}
use Rattle.sf_call.specs.Requests.Target.{ByHandle, OnPath, OnPaths}
use Rattle.sf_inode.specs.declared.node.Node.{Node}
use Rattle.sf_inode.specs.Nodes.{child_in, is_directory_content, with_holder}
use Rattle.sf_inode.specs.Stores.{StoreState, node_in, child_of, is_directory_at, looked_up, edited}
use Rattle.sf_keeps.specs.Steps.{walk}
use Rattle.sf_keeps.proofs.Laws.{edited_apart, edited_itself}
use Rattle.sf_coupling.specs.Walks.{HeldPath, LeadsTo}
use Rattle.sf_coupling.proofs.Laws.{same_or_not, takes_held}
use Rattle.sf_walk.specs.declared.walking.Walk.{Walk}
use Rattle.sf_walk.specs.declared.walking.Walk.TheVariants.{Moved, Blocked, Ready}
use Rattle.sf_walk.specs.Served.{LookedUp, after_look_ups}
use Rattle.sf_call.specs.Routes.{Route, route_at, route_of, is_rooted, are_nested}
use Rattle.sf_walk.specs.Routes.{IsRoute, IsPosition, held_paths_of, nodes_of, namespace, HoldsWay}
use Rattle.sf_call.specs.Routes.Route.{NoPath, Along, Between}
use Rattle.sf_walk.specs.Routes.IsPosition.{Starts}
use Rattle.sf_walk.specs.Steps.{Walker, is_one_of, free_unless, let_go, entered, handed_over, AdvancesTo, Advances}

-- every request has a valid route
route_is : (g : Target) → IsRoute (route_at g)
route_is (ByHandle handle) = tt
route_is (OnPath path) = tt
route_is (OnPaths old new) = by (is_rooted old new) (are_nested old new) refl
  where
    by : (a b : Bool) → are_nested old new ≡ b → IsRoute (if a then NoPath else if b then Along old else Between old new)
    by true b e = tt
    by false true e = tt
    by false false e = e

pub starts : (r : Request) → IsPosition (route_of r) stage.Fresh
starts r = Starts (route_of r) (route_is (target_of r))

-- a call that starts is at its start
pub stands_fresh : (s : StoreState) (r : Request) → HoldsWay s (route_of r) stage.Fresh
stands_fresh s r = record { position = starts r; leads = λ held_path held. absurd held }

-- the same entries, root and directories
pub record IsSameGround (s new : StoreState) : Type 0 where
  pub step : (x : ℕ) (n : Name) → child_of new.nodes x n ≡ child_of s.nodes x n
  pub root : new.root ≡ s.root
  pub directory : (x : ℕ) → is_directory_at new.nodes x ≡ is_directory_at s.nodes x

pub same_itself : (s : StoreState) → IsSameGround s s
same_itself s = record { step = λ x n. refl; root = refl; directory = λ x. refl }

same_looked : (s : StoreState) → IsSameGround s (looked_up s)
same_looked s = record { step = λ x n. refl; root = refl; directory = λ x. refl }

pub same_trans : (s mid new : StoreState) → IsSameGround s mid → IsSameGround mid new → IsSameGround s new
same_trans s mid new a b = record { step = λ x n. b.step x n ∙ a.step x n; root = b.root ∙ a.root; directory = λ x. b.directory x ∙ a.directory x }

module _ (holder : Option ℕ) (s : StoreState) (id : ℕ) where
  entry_here : (n : Name) (o : Option Node) → option_and_then (λ (node : Node). child_in node.content n) (option_map (with_holder holder) o) ≡ option_and_then (λ (node : Node). child_in node.content n) o
  entry_here n None = refl
  entry_here n (Some node) = refl

  directory_here : (o : Option Node) → option_map_or (λ (node : Node). is_directory_content node.content) (option_map (with_holder holder) o) false ≡ option_map_or (λ (node : Node). is_directory_content node.content) o false
  directory_here None = refl
  directory_here (Some node) = refl

  pub same_held : IsSameGround s (edited (with_holder holder) s id)
  same_held = record {
    step = λ x n. elim (same_or_not x id) [
      | inl e ↦
          ap (λ y. child_of (edited (with_holder holder) s id).nodes y n) e
          ∙ ap (option_and_then (λ (node : Node). child_in node.content n)) (edited_itself (with_holder holder) s id) ∙ entry_here n (node_in s.nodes id)
          ∙ ap (λ y. child_of s.nodes y n) (sym e)
      | inr ne ↦ ap (option_and_then (λ (node : Node). child_in node.content n)) (edited_apart (with_holder holder) s id x ne)
    ];
    root = refl;
    directory = λ x. elim (same_or_not x id) [
      | inl e ↦
          ap (λ y. is_directory_at (edited (with_holder holder) s id).nodes y) e
          ∙ ap (λ (o : Option Node). option_map_or (λ (node : Node). is_directory_content node.content) o false) (edited_itself (with_holder holder) s id) ∙ directory_here (node_in s.nodes id)
          ∙ ap (λ y. is_directory_at s.nodes y) (sym e)
      | inr ne ↦ ap (λ (o : Option Node). option_map_or (λ (node : Node). is_directory_content node.content) o false) (edited_apart (with_holder holder) s id x ne)
    ];
  }

same_entered : (at : Stage) (s : StoreState) → IsSameGround s (entered at s)
same_entered stage.Fresh s = same_itself s
same_entered _ s = same_looked s

same_free : (b : Bool) (node : ℕ) (s : StoreState) → IsSameGround s (if b then s else edited (with_holder None) s node)
same_free true node s = same_itself s
same_free false node s = same_held None s node

-- releasing preserves entries, the root and directories
pub same_let_go : (kept nodes : List ℕ) (s : StoreState) → IsSameGround s (let_go kept nodes s)
same_let_go kept [] s = same_itself s
same_let_go kept (node ∷ nodes) s =
    let mid = free_unless kept node s in
    same_trans s mid (let_go kept nodes mid) (same_free (is_one_of node kept) node s) (same_let_go kept nodes mid)

module _ (old new : StoreState) (same : IsSameGround old new) where
  pub walk_same : (p : Path) → walk (child_of new.nodes) new.root p ≡ walk (child_of old.nodes) old.root p
  walk_same p = λ i. walk (λ x n. same.step x n i) (same.root i) p

  pub leads_same : (held_path : HeldPath) → LeadsTo (namespace old) held_path → LeadsTo (namespace new) held_path
  leads_same held_path h = record { names = walk_same held_path.path ∙ h.names; directory = same.directory held_path.node ∙ h.directory }

  pub stands_same : (r : Route) (at : Stage) → HoldsWay old r at → HoldsWay new r at
  stands_same r at h = record { position = h.position; leads = λ held_path held. leads_same held_path (h.leads held_path held) }

  root_same : is_directory_at old.nodes old.root ≡ true → is_directory_at new.nodes new.root ≡ true
  root_same dir = ap (is_directory_at new.nodes) same.root ∙ same.directory old.root ∙ dir

same_moved : (old new : StoreState) (w : Walker) (after : Stage) → AdvancesTo old new w after → IsSameGround old new
same_moved old new w after m =
    let held = edited (with_holder (Some w.number)) (entered w.at old) m.held_path.node in
    subst (λ (s : StoreState). IsSameGround old s) (sym m.state)
    (same_trans old held (handed_over w.number w.at after m.held_path.node (entered w.at old)) (same_trans old (entered w.at old) held (same_entered w.at old) (same_held (Some w.number) (entered w.at old) m.held_path.node))
    (same_let_go (nodes_of after) (nodes_of w.at) held))

-- a call that took a step holds what the step led to
pub stands_on : (old new : StoreState) (w : Walker) (after : Stage) → HoldsWay old w.route w.at → AdvancesTo old new w after → HoldsWay new w.route after
stands_on old new w after h m = record {
  position = m.position;
  leads = λ held_path held. leads_same old new (same_moved old new w after m) held_path (elim (takes_held m.held_path (held_paths_of w.route w.at) (held_paths_of w.route after) held_path m.takes held) [
    | inl e ↦ subst (LeadsTo (namespace old)) (sym e) m.leads
    | inr was ↦ h.leads held_path was
  ]);
}

-- ---- if only lookups were made
same_look_ups : (count : ℕ) (s : StoreState) → IsSameGround s (after_look_ups count s)
same_look_ups zero s = same_itself s
same_look_ups (suc count) s = same_trans s (after_look_ups count s) (looked_up (after_look_ups count s)) (same_look_ups count s) (same_looked (after_look_ups count s))

ground_looked : (old new : StoreState) (most : ℕ) → LookedUp old new most → IsSameGround old new
ground_looked old new most looked = subst (λ (s : StoreState). IsSameGround old s) (sym looked.state) (same_look_ups looked.count old)

pub stands_still : (old new : StoreState) (most : ℕ) (r : Route) (at : Stage) → LookedUp old new most → HoldsWay old r at → HoldsWay new r at
stands_still old new most r at looked = stands_same old new (ground_looked old new most looked) r at

-- a step preserves entries, the root and the directories
pub ground_stays : (old new : StoreState) (w : Walker) (walk : Walk) → Advances old new w walk → IsSameGround old new
ground_stays old new w (Moved after) m = same_moved old new w after m
ground_stays old new w (Blocked holder) waits = ground_looked old new 1 waits.looked
ground_stays old new w (Ready ways) decides = ground_looked old new 2 decides.looked

-- a call that is blocked or decides holds what it held
pub stands_unmoved : (old new : StoreState) (w : Walker) (walk : Walk) → Advances old new w walk → HoldsWay old w.route w.at → HoldsWay new w.route w.at
stands_unmoved old new w walk a = stands_same old new (ground_stays old new w walk a) w.route w.at

pub root_stands : (old new : StoreState) (w : Walker) (walk : Walk) → Advances old new w walk → is_directory_at old.nodes old.root ≡ true → is_directory_at new.nodes new.root ≡ true
root_stands old new w walk a = root_same old new (ground_stays old new w walk a)
