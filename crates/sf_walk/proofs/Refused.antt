-- A store that differs only in the count of lookups represents the same tree.
use Rattle.std.specs.Prelude.{◌≡◌, ℕ, T, List, [], Option, option_map, option_and_then}
use Rattle.std.specs.Option.{option_map_or}
use Rattle.std.proofs.Common.{sym, ap, subst, ◌∙◌}
use Rattle.std.specs.Ordering.{nat_cmp}
use Rattle.std.specs.Map.{lookup}
use Rattle.std.specs.BTreeMap.{is_at}
use Rattle.std.specs.FinMap.{is_sorted}
use Rattle.sf_path.specs.Names.{Name}
use Rattle.sf_path.specs.Order.{name_cmp}
use Rattle.sf_call.specs.Tree.{Tree}
use Rattle.sf_inode.specs.declared.handle.OpenHandle.{OpenHandle}
use Rattle.sf_inode.specs.declared.node.Node.{Node}
use Rattle.sf_inode.specs.Nodes.{child_in, entries_in}
use Rattle.sf_keeps.specs.Shows.{View, Shows}
use Rattle.sf_inode.specs.Stores.{StoreState, child_of, shown_node, shown_handle, handles_of, open_handle_at}
use Rattle.sf_keeps.specs.Keeps.{view_of, Keeps}
use Rattle.sf_walk.specs.Served.{IsAlike}

module _ (old new : StoreState) (t : Tree) (same : IsAlike old new) (kept : Keeps old t) where
  step_same : (x : ℕ) (n : Name) → child_of new.nodes x n ≡ child_of old.nodes x n
  step_same x n i = option_and_then (λ node. child_in node.content n) (same.nodes x i)

  handles_same : (session : ℕ) → handles_of new session ≡ handles_of old session
  handles_same session = ap (lookup (is_at (nat_cmp session))) same.sessions

  handle_same : (session number : ℕ) → open_handle_at new session number ≡ open_handle_at old session number
  handle_same session number = ap (option_and_then (λ handles. lookup (is_at (nat_cmp number)) handles)) (handles_same session)

  view_same : view_of new ≡ view_of old
  view_same i = record {
    step = λ x n. step_same x n i;
    shown = λ x. option_map shown_node (same.nodes x i);
    root = same.root i;
    opens = λ session number. option_map (shown_handle session) (handle_same session number i);
  }

  pub keeps_alike : Keeps new t
  keeps_alike = record {
    shows = subst (λ (v : View). Shows v t) (sym view_same) kept.shows;
    entries = λ id. subst (λ (o : Option Node). T (is_sorted name_cmp (option_map_or (λ (it : Node). entries_in it.content) o []))) (sym (same.nodes id)) (kept.entries id);
    linked = λ id node at. kept.linked id node (sym (same.nodes id) ∙ at);
    bare = λ id node at unnamed n. step_same id n ∙ kept.bare id node (sym (same.nodes id) ∙ at) unnamed n;
    counted = λ id node at. kept.counted id node (sym (same.nodes id) ∙ at);
    led = λ session number x e. let w = kept.led session number x (sym (handle_same session number) ∙ e) in (w.0, (same.nodes x.node ∙ w.1.0, w.1.1));
    sessions = subst (λ (ss : List (ℕ × List (ℕ × OpenHandle))). T (is_sorted nat_cmp ss)) (sym same.sessions) kept.sessions;
    handles = λ session hs e. kept.handles session hs (sym (handles_same session) ∙ e);
    numbers = kept.numbers;
  }
