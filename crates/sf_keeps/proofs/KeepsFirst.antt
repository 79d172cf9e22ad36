-- A new store represents the empty tree.
use Rattle.std.specs.Prelude.{◌≡◌, ℕ, T, List, Some, None}
use Rattle.std.proofs.Common.{sym, ap, subst, refl}
use Rattle.std.specs.Ordering.{nat_cmp}
use Rattle.std.specs.FinMap.{is_sorted}
use Rattle.sf_path.specs.Order.{name_cmp}
use Rattle.sf_call.specs.Tree.{empty_tree, links}
use Rattle.sf_inode.specs.declared.node.Node.{Node}
use Rattle.sf_inode.specs.declared.handle.OpenHandle.{OpenHandle}
use Rattle.sf_inode.specs.Stores.{StoreState, IsFirst, open_handle_at, handles_of, with_sessions}
use Rattle.sf_keeps.specs.Keeps.{Keeps, times_open}
use Rattle.sf_keeps.proofs.InOrder.{entries_of_node}
use Rattle.sf_keeps.proofs.First.{root_node, root_or_none, no_steps, shows_first}

module _ (s : StoreState) (f : IsFirst s) where
  no_handles : (session number : ℕ) → open_handle_at s session number ≡ None
  no_handles session number = ap (λ (hs : List (ℕ × List (ℕ × OpenHandle))). open_handle_at (with_sessions s hs) session number) f.sessions

  no_session : (session : ℕ) → handles_of s session ≡ None
  no_session session = ap (λ (hs : List (ℕ × List (ℕ × OpenHandle))). handles_of (with_sessions s hs) session) f.sessions

  pub keeps_first : Keeps s empty_tree
  keeps_first = record {
    shows = shows_first s f;
    entries = λ id. root_or_none s f id (λ o. T (is_sorted name_cmp (entries_of_node o))) (λ _. tt) tt;
    linked = λ id node at. root_or_none s f id (λ o. o ≡ Some node → node.names ≡ links empty_tree.names node.label)
        (λ _ g. let same : root_node ≡ node = cc in subst (λ (x : Node). x.names ≡ links empty_tree.names x.label) same refl)
        (λ g. absurd (cc)) at;
    bare = λ id node at e n. no_steps s f id n;
    counted = λ id node at. root_or_none s f id (λ o. o ≡ Some node → node.opens ≡ times_open empty_tree node.label)
        (λ _ g. let same : root_node ≡ node = cc in sym (ap (λ (z : Node). z.opens) same))
        (λ g. absurd (cc)) at;
    led = λ session number h e. let none = no_handles session number in absurd (cc);
    sessions = subst (λ (x : List (ℕ × List (ℕ × OpenHandle))). T (is_sorted nat_cmp x)) (sym f.sessions) tt;
    handles = λ session hs e. let none = no_session session in absurd (cc);
    numbers = λ number h e. absurd (cc);
  }
