-- Lock coupling after a step.
use Rattle.std.specs.Prelude.{◌≡◌, ◌≢◌, ◌⊎◌, ℕ, true, List, [], Option, Some}
use Rattle.std.proofs.Common.{sym, ap, subst, ◌∙◌, inl, inr}
use Rattle.sf_call.specs.declared.call.Stage.{Stage}
use Rattle.sf_call.specs.declared.call.Stage.TheVariants as stage
use Rattle.sf_call.specs.declared.record.Record.{Record}
use Rattle.sf_call.specs.Histories.{replay}
use Rattle.sf_inode.specs.Stores.{StoreState, node_in, holder_of, is_directory_at, is_file_at}
use Rattle.sf_keeps.specs.Keeps.{Keeps}
use Rattle.sf_keeps.proofs.Laws.{reached_node}
use Rattle.sf_coupling.specs.Walks.{Namespace, HeldPath, Holds, IsNodeOf, LeadsTo, walkers_at, AreWalks, HandsOver}
use Rattle.sf_coupling.specs.Stepping.{TakesPath}
use Rattle.sf_coupling.proofs.Laws.{step_keeps, takes_held, takes_new, holder_is, let_go_keeps}
use Rattle.sf_walk.specs.declared.walking.Walk.TheVariants.{Moved}
use Rattle.sf_call.specs.Routes.{Route}
use Rattle.sf_walk.specs.Routes.{IsPosition, held_paths_of, nodes_of, namespace}
use Rattle.sf_walk.specs.Steps.{Walker, entered, handed_over, let_go, AdvancesTo}
use Rattle.sf_walk.proofs.Laws.{ground_stays, same_let_go, leads_same, moved_hands, freed_hands}
use Rattle.sf_core.specs.Sound.{walker_of, writer_of_file}
use Rattle.sf_core.proofs.Walkers.{walker_holds, free_walks, walks_hands}
use Rattle.sf_core.proofs.Writers.{SameFiles, no_directory, files_let_go, writers_stay}

-- the invariant is kept if all held paths lead to the same inodes as before
pub walks_on : (t u : Namespace) (f : ℕ → List HeldPath) (k : ℕ → Option ℕ) → ((held_path : HeldPath) → LeadsTo t held_path → LeadsTo u held_path) → AreWalks (walkers_at t f k) → AreWalks (walkers_at u f k)
walks_on t u f k on walks = record { shaped = walks.shaped; leads = λ n s h. on s (walks.leads n s h); held = walks.held; holds = walks.holds; apart = walks.apart }

entered_nodes : (at : Stage) (s : StoreState) → (entered at s).nodes ≡ s.nodes
entered_nodes stage.Fresh s = λ i. s.nodes
entered_nodes _ s = λ i. s.nodes

-- ---- a step to a directory that no other call holds
module _ (old new : StoreState) (history : List Record) (keeps : Keeps old (replay history))
    (f : ℕ → List HeldPath) (walks : AreWalks (walkers_at (namespace old) f (walker_of old.nodes)))
    (w : Walker) (after : Stage) (own : f w.number ≡ held_paths_of w.route w.at) (is : IsPosition w.route w.at) (moves : AdvancesTo old new w after) where
  was_held : (l : ℕ) → IsNodeOf (held_paths_of w.route after) l → (l ≡ moves.held_path.node) ⊎ (walker_of old.nodes l ≡ Some w.number)
  was_held l h = elim (takes_held moves.held_path (held_paths_of w.route w.at) (held_paths_of w.route after) h.held_path moves.takes h.holds) [
    | inl e ↦ inl (sym h.node ∙ ap (λ (s : HeldPath). s.node) e)
    | inr was ↦ inr (holder_is (walkers_at (namespace old) f (walker_of old.nodes)) walks w.number l (record { held_path = h.held_path; holds = subst (λ (x : List HeldPath). Holds x h.held_path) (sym own) was; node = h.node }))
  ]

  held_by : (l : ℕ) → IsNodeOf (held_paths_of w.route after) l → (l ≡ moves.held_path.node) ⊎ (holder_of old.nodes l ≡ Some w.number)
  held_by l h = elim (was_held l h) [ inl e ↦ inl e | inr e ↦ inr (walker_holds old.nodes l w.number e).1 ]

  is_directory : (l : ℕ) → IsNodeOf (held_paths_of w.route after) l → is_directory_at new.nodes l ≡ true
  is_directory l h = (ground_stays old new w (Moved after) moves).directory l ∙ elim (was_held l h) [
    | inl e ↦ ap (is_directory_at old.nodes) e ∙ moves.leads.directory
    | inr e ↦ (walker_holds old.nodes l w.number e).0
  ]

  hands : HandsOver (holder_of old.nodes) (holder_of new.nodes) w.number (held_paths_of w.route w.at) (held_paths_of w.route after)
  hands =
      let at = reached_node old (replay history) keeps moves.held_path.path moves.held_path.node moves.leads.names in
      let mid = entered w.at old in
      let nodes = entered_nodes w.at old in
      let moved = moved_hands mid w.number moves.held_path.node is moves.position (ap (λ ns. node_in ns moves.held_path.node) nodes ∙ at.1)
      (takes_new moves.held_path (held_paths_of w.route w.at) (held_paths_of w.route after) moves.takes) (λ l h. elim (held_by l h) [ inl e ↦ inl e | inr e ↦ inr (ap (λ ns. holder_of ns l) nodes ∙ e) ]) in
      subst (λ (s : StoreState). HandsOver (holder_of old.nodes) (holder_of s.nodes) w.number (held_paths_of w.route w.at) (held_paths_of w.route after)) (sym moves.state)
      (subst (λ ns. HandsOver (holder_of ns) (holder_of (handed_over w.number w.at after moves.held_path.node mid).nodes) w.number (held_paths_of w.route w.at) (held_paths_of w.route after)) nodes moved)

  walkers : HandsOver (walker_of old.nodes) (walker_of new.nodes) w.number (held_paths_of w.route w.at) (held_paths_of w.route after)
  walkers = walks_hands old new w.number (held_paths_of w.route w.at) (held_paths_of w.route after) (ground_stays old new w (Moved after) moves).directory is_directory hands

  pub moved_keeps : (f' : ℕ → List HeldPath) → f' w.number ≡ held_paths_of w.route after → ((m : ℕ) → w.number ≢ m → f' m ≡ f m) → AreWalks (walkers_at (namespace new) f' (walker_of new.nodes))
  moved_keeps f' set same =
      walks_on (namespace old) (namespace new) f' (walker_of new.nodes) (leads_same old new (ground_stays old new w (Moved after) moves))
      (step_keeps (namespace old) f (walker_of old.nodes) w.number walks moves.held_path (free_walks old.nodes w.number moves.held_path.node moves.free) moves.leads f' (walker_of new.nodes)
      (subst (λ (x : List HeldPath). TakesPath moves.held_path x (f' w.number)) (sym own) (subst (λ (y : List HeldPath). TakesPath moves.held_path (held_paths_of w.route w.at) y) (sym set) moves.takes)) same
      (subst (λ (x : List HeldPath). HandsOver (walker_of old.nodes) (walker_of new.nodes) w.number x (f' w.number)) (sym own)
      (subst (λ (y : List HeldPath). HandsOver (walker_of old.nodes) (walker_of new.nodes) w.number (held_paths_of w.route w.at) y) (sym set) walkers)))

  -- it held directories, and holds directories
  no_file_was : (l : ℕ) → IsNodeOf (held_paths_of w.route w.at) l → is_file_at old.nodes l ≡ true → ⊥
  no_file_was l h file =
      let leads = walks.leads w.number h.held_path (subst (λ (x : List HeldPath). Holds x h.held_path) (sym own) h.holds) in
      no_directory old.nodes l file (ap (is_directory_at old.nodes) (sym h.node) ∙ leads.directory)

  -- a call that holds a file still holds it
  pub moved_writers : SameFiles old new → (id : ℕ) → writer_of_file new.nodes id ≡ writer_of_file old.nodes id
  moved_writers same =
      writers_stay old new w.number (held_paths_of w.route w.at) (held_paths_of w.route after) same
      (record { before = no_file_was; after = λ l h file. no_directory old.nodes l file (sym ((ground_stays old new w (Moved after) moves).directory l) ∙ is_directory l h) }) hands

-- ---- a call starts again at the root: nothing is required of it
-- a call that holds paths of its route, and then none
pub record LetsGo (f f' : ℕ → List HeldPath) (n : ℕ) : Type 0 where
  pub route : Route
  pub at : Stage
  pub position : IsPosition route at
  pub was : f n ≡ held_paths_of route at
  pub none : f' n ≡ []
  pub same : (m : ℕ) → n ≢ m → f' m ≡ f m

pub reset_keeps : (s : StoreState) (f f' : ℕ → List HeldPath) (n : ℕ) → AreWalks (walkers_at (namespace s) f (walker_of s.nodes)) → (g : LetsGo f f' n)
    → AreWalks (walkers_at (namespace (let_go [] (nodes_of g.at) s)) f' (walker_of (let_go [] (nodes_of g.at) s).nodes))
reset_keeps s f f' n walks g =
    let at = g.at in
    let after = let_go [] (nodes_of at) s in
    walks_on (namespace s) (namespace after) f' (walker_of after.nodes) (leads_same s after (same_let_go [] (nodes_of at) s))
    (let_go_keeps (namespace s) f f' (walker_of s.nodes) (walker_of after.nodes) n walks g.none g.same
    (subst (λ (x : List HeldPath). HandsOver (walker_of s.nodes) (walker_of after.nodes) n x []) (sym g.was)
    (walks_hands s after n (held_paths_of g.route at) [] (same_let_go [] (nodes_of at) s).directory (λ l h. absurd h.holds) (freed_hands g.route at g.position s n))))

pub reset_writers : (s : StoreState) (f : ℕ → List HeldPath) (n : ℕ) (route : Route) (at : Stage) → AreWalks (walkers_at (namespace s) f (walker_of s.nodes)) → IsPosition route at → f n ≡ held_paths_of route at
    → (id : ℕ) → writer_of_file (let_go [] (nodes_of at) s).nodes id ≡ writer_of_file s.nodes id
reset_writers s f n route at walks is own =
    writers_stay s (let_go [] (nodes_of at) s) n (held_paths_of route at) [] (files_let_go [] (nodes_of at) s) (record {
      before = λ l h file.
          let leads = walks.leads n h.held_path (subst (λ (x : List HeldPath). Holds x h.held_path) (sym own) h.holds) in
          no_directory s.nodes l file (ap (is_directory_at s.nodes) (sym h.node) ∙ leads.directory);
      after = λ l h file. h.holds;
    }) (freed_hands route at is s n)
