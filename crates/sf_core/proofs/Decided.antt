-- Lock coupling after a decision that preserves the labels of all paths at which other calls hold
-- directories.
use Rattle.std.specs.Prelude.{◌≡◌, ◌≢◌, ◌⊎◌, ◌<◌, ℕ, true, false, if◌then◌else◌, List, [], Some, None, refl}
use Rattle.std.proofs.Common.{sym, ap, subst, ◌∙◌, inl, inr}
use Rattle.sf_path.specs.Names.{Path}
use Rattle.sf_reply.specs.declared.reply.Reply.{Reply}
use Rattle.sf_call.specs.declared.request.Request.{Request}
use Rattle.sf_call.specs.declared.record.Record.{Record}
use Rattle.sf_call.specs.declared.record.Record.TheVariants.{Did}
use Rattle.sf_call.specs.declared.call.Stage.{Stage}
use Rattle.sf_call.specs.Calls.{answer_to}
use Rattle.sf_call.specs.Tree.{label_at}
use Rattle.sf_call.specs.Histories.{after, replay, IsLegal, IsNewNumber}
use Rattle.sf_inode.specs.declared.node.Node.{Node}
use Rattle.sf_inode.specs.Stores.{StoreState, node_in, child_of, holder_of, is_directory_at}
use Rattle.sf_keeps.specs.Steps.{walk}
use Rattle.sf_keeps.specs.Keeps.{Keeps}
use Rattle.sf_keeps.proofs.Laws.{reached_node}
use Rattle.sf_coupling.specs.Walks.{HeldPath, Holds, IsNodeOf, IsBetween, IsShaped, LeadsTo, walkers_at, AreWalks, HandsOver}
use Rattle.sf_coupling.proofs.Laws.{same_or_not, keeps_walks}
use Rattle.sf_call.specs.Routes.{route_of}
use Rattle.sf_walk.specs.Routes.{IsPosition, held_paths_of, namespace}
use Rattle.sf_walk.specs.Served.{NodesStay, IsRefused, IsCarriedOut}
use Rattle.sf_walk.specs.Routes.{nodes_of}
use Rattle.sf_walk.proofs.Laws.{same_let_go, leads_same, freed_hands}
use Rattle.sf_core.specs.Sound.{walker_of, writer_of_file}
use Rattle.sf_core.specs.Stepping.{freed}
use Rattle.sf_core.proofs.Maps.{by_test, no_value, none_some}
use Rattle.sf_core.proofs.Walkers.{if_none, walker_is, walker_holds}
use Rattle.sf_core.proofs.SparedFiles.{holder_before, holder_after, file_there}
use Rattle.sf_core.proofs.Spared.{leads_still, directory_still}

module _ (old mid : StoreState) (history : List Record) (n session moment : ℕ) (r : Request) (given : Reply)
    (legal : IsLegal history) (above : 0 < n) (fresh : IsNewNumber n history) (keeps : Keeps old (replay history))
    (served : IsRefused old mid (replay history) given ⊎ IsCarriedOut mid (replay history) (answer_to (replay history) session n moment r) given)
    (stays : NodesStay n old mid)
    (labels : (q : Path) (l holder : ℕ) → walk (child_of old.nodes) old.root q ≡ Some l → walker_of old.nodes l ≡ Some holder → n ≢ holder
    → label_at (after (replay history) (Did n session moment r given)).names q ≡ label_at (replay history).names q)
    (files : (l m : ℕ) → writer_of_file old.nodes l ≡ Some m → is_directory_at mid.nodes l ≡ true → ⊥)
    (at : Stage) (is : IsPosition (route_of r) at) (f : ℕ → List HeldPath) (walks : AreWalks (walkers_at (namespace old) f (walker_of old.nodes))) (own : f n ≡ held_paths_of (route_of r) at) where
  -- the directories that another call holds
  module _ (m : ℕ) (s : HeldPath) (other : n ≢ m) (hold : Holds (f m) s) where
    leads : LeadsTo (namespace old) s
    leads = walks.leads m s hold

    still : (walk (child_of mid.nodes) mid.root s.path ≡ Some s.node) × ((node : Node) × (node_in mid.nodes s.node ≡ Some node))
    still =
        leads_still old mid history n session moment r given legal above fresh keeps served stays s.path s.node leads.names
        (labels s.path s.node m leads.names (walks.held m s hold) other)

    was : (it : Node) × (node_in old.nodes s.node ≡ Some it)
    was = reached_node old (replay history) keeps s.path s.node leads.names

    directory : is_directory_at mid.nodes s.node ≡ true
    directory = directory_still old mid history n session moment r given legal above fresh keeps served stays s.node was.0 still.1.0 was.1 still.1.1 leads.directory

    spared : LeadsTo (namespace (freed at mid)) s
    spared = leads_same mid (freed at mid) (same_let_go [] (nodes_of at) mid) s (record { names = still.0; directory = directory })

    held_still : walker_of mid.nodes s.node ≡ Some m
    held_still =
        walker_is mid.nodes s.node m directory
        (holder_after old mid n stays s.node m still.1.0 still.1.1 (walker_holds old.nodes s.node m (walks.held m s hold)).1)

  -- no call acquires a directory
  none_more : (l m : ℕ) → walker_of old.nodes l ≡ None → walker_of mid.nodes l ≡ Some m → ⊥
  none_more l m none some =
      let h = walker_holds mid.nodes l m some in
      let before = holder_before old mid n stays l m h.1 in
      by_test (is_directory_at old.nodes l) (λ e. none_some m (sym none ∙ walker_is old.nodes l m e before)) (λ e. files l m (file_there old.nodes l m e before) h.0)

  -- the holder is unchanged for inodes that the call's paths don't hold
  mid_same : (l : ℕ) → (IsNodeOf (f n) l → ⊥) → walker_of mid.nodes l ≡ walker_of old.nodes l
  mid_same l not =
      elim (walker_of old.nodes l) as (λ o. walker_of old.nodes l ≡ o → walker_of mid.nodes l ≡ o) [
        | Some m ↦ λ e. elim (same_or_not n m) [
          | inl same ↦ absurd (not (subst (λ x. IsNodeOf (f x) l) (sym same) (walks.holds l m e)))
          | inr other ↦ let w = walks.holds l m e in ap (walker_of mid.nodes) (sym w.node) ∙ held_still m w.held_path other w.holds
        ]
        | None ↦ λ e. no_value (walker_of mid.nodes l) (λ m g. none_more l m e g)
      ] refl

  hands : HandsOver (walker_of old.nodes) (walker_of (freed at mid).nodes) n (f n) []
  hands =
      let freeing = freed_hands (route_of r) at is mid n in
      record {
        here = λ l h. absurd h.holds;
        gone = λ l was none. if_none (is_directory_at (freed at mid).nodes l) (holder_of (freed at mid).nodes l) (freeing.gone l (subst (λ (x : List HeldPath). IsNodeOf x l) own was) none);
        rest = λ l not none. (λ i. if (same_let_go [] (nodes_of at) mid).directory l i then freeing.rest l (λ h. not (subst (λ (x : List HeldPath). IsNodeOf x l) (sym own) h)) none i else None) ∙ mid_same l not;
      }

  -- other calls hold what they held, and the call's remainder holds nothing
  pub decided_keeps : (f' : ℕ → List HeldPath) → f' n ≡ [] → ((m : ℕ) → n ≢ m → f' m ≡ f m) → AreWalks (walkers_at (namespace (freed at mid)) f' (walker_of (freed at mid).nodes))
  decided_keeps f' none same =
      let nothing : (s : HeldPath) → Holds (f' n) s → ⊥ = λ s h. subst (λ (x : List HeldPath). Holds x s) none h in
      keeps_walks (walkers_at (namespace old) f (walker_of old.nodes)) (walkers_at (namespace (freed at mid)) f' (walker_of (freed at mid).nodes)) n walks (record {
        same = same;
        hands = subst (λ (x : List HeldPath). HandsOver (walker_of old.nodes) (walker_of (freed at mid).nodes) n (f n) x) (sym none) hands;
        free = λ l h. absurd (nothing h.held_path h.holds);
        shaped = subst IsShaped (sym none) tt;
        spared = λ m s other hold _. spared m s other hold;
        leads = λ s h. absurd (nothing s h);
        apart = λ m s other hold b. subst (λ (x : List HeldPath). IsBetween x s.path) none b;
        aside = λ m s other h b. nothing s h;
      })
