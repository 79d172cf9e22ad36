-- The observable part of a store after an entry was moved, and after a handle was closed.
use Rattle.std.specs.Prelude.{◌≡◌, ◌≢◌, ℕ, nat_eq, Bool, true, false, cond, ◌&&◌, List, [], ◌∷◌, ◌++◌, option_map, Option, Some, None, refl}
use Rattle.std.proofs.Common.{sym, ap, subst, ◌∙◌, inl, inr, eqb-true}
use Rattle.std.proofs.lemmas.Bool.{cases_eq}
use Rattle.sf_path.specs.Names.{Name}
use Rattle.sf_path.specs.Order.{same_name}
use Rattle.sf_call.specs.Tree.{Tree, after_front, is_used}
use Rattle.sf_call.specs.Moves.{moved}
use Rattle.sf_call.specs.Changes.{changed}
use Rattle.sf_call.specs.Changes.Change.{Move}
use Rattle.sf_call.proofs.Laws.{same_name_is, both_true}
use Rattle.sf_inode.specs.declared.node.Node.{Node}
use Rattle.sf_inode.specs.declared.node.Content.TheVariants as content
use Rattle.sf_inode.specs.Nodes.{object_in, less_content, more_content, with_content, without_name, is_unused}
use Rattle.sf_keeps.specs.Steps.{changed_step}
use Rattle.sf_keeps.specs.Shows.{View, Shows, is_directory_by, with_step, with_shown}
use Rattle.sf_inode.specs.Stores.{StoreState, node_in, child_of, shown_node, shown_of, edited, entry_put, forgotten, moved_entry, relinked_from, relinked, entry_key}
use Rattle.sf_keeps.specs.Keeps.{view_of}
use Rattle.sf_keeps.proofs.InOrder.{InOrder, node_in_order, in_order_put, less_in_order, more_in_order}
use Rattle.sf_keeps.proofs.Sound.{HasNoEntry, IsBare}
use Rattle.sf_keeps.proofs.SetsAt.{nat_eq_apart}
use Rattle.sf_keeps.proofs.Shown.{once, after_front-self}
use Rattle.sf_keeps.proofs.Less.{IsClosed}
use Rattle.sf_keeps.proofs.Relinked.{shows_move, shows_replaced, shows_replaced_used}
use Rattle.sf_keeps.proofs.StoreLaws.{same_view, step_changed, view_taken, more_says, view_stays, view_goes, edited_node, seen_same, object_more, shows_directory, NodeOnPath}

swapped : (a b : Bool) (c : ℕ) (x : Option ℕ) → (a ≡ true → b ≡ true → ⊥) → cond a None (cond b (Some c) x) ≡ cond b (Some c) (cond a None x)
swapped true true c x h = absurd (h refl refl)
swapped true false c x h = refl
swapped false true c x h = refl
swapped false false c x h = refl

-- an entry that now refers to c
module _ (s : StoreState) (d : ℕ) (n : Name) (c : ℕ) (above : Node) (es : List (Name × ℕ)) (here : node_in s.nodes d ≡ Some above) (dir : above.content ≡ content.Directory es) where
  pub view_put : view_of (entry_put s d n c) ≡ with_step (view_of s) d n (Some c)
  view_put =
      let put = edited_node (with_content (more_content n c)) s d above here in
      same_view (with_step (view_of s) d n (Some c)) (view_of (entry_put s d n c))
      (step_changed put here n (Some c) (more_says n c above.content es dir))
      (seen_same put here shown_node (λ i. (above.label, object_more n c above.metadata above.content i)))
      refl (λ a b. refl)

-- an inode still exists after another was changed
pub still_there : (f : Node → Node) (s : StoreState) (d x : ℕ) (above node : Node) → node_in s.nodes d ≡ Some above → node_in s.nodes x ≡ Some node → (v : Node) × (node_in (edited f s d).nodes x ≡ Some v)
still_there f s d x above node here there =
    let put = edited_node f s d above here in
    elim (cases_eq d x) [ inl e ↦ (f above, ap (node_in (edited f s d).nodes) (sym e) ∙ put.at) | inr ne ↦ (node, put.beside x ne ∙ there) ]

-- a moved entry, not to or below itself: its old place, its new place, and its inode
pub record MovesEntry (s : StoreState) : Type 0 where
  pub from : NodeOnPath s
  pub name : Name
  pub into : NodeOnPath s
  pub new_name : Name
  pub child : ℕ
  pub there : child_of s.nodes from.id name ≡ Some child
  pub entries : List (Name × ℕ)
  pub directory : into.node.content ≡ content.Directory entries
  pub not_inside : after_front (from.path ++ name ∷ []) (into.path ++ new_name ∷ []) ≡ None

module _ (s : StoreState) (t : Tree) (h : Shows (view_of s) t) (ordered : InOrder s.nodes) (move : MovesEntry s) where
  open move use {from.{path as po, id as od, node as from, leads as at_from, is_node as here_from}, name as on, new_name as nn, child as c, there, entries as es, directory as dir, not_inside}
  open move use {into.{path as pn, id as nd, node as above, leads as at_to, is_node as here_to}}

  is_to : is_directory_by (shown_of s.nodes) nd ≡ true
  is_to = shows_directory s.nodes nd above es here_to dir

  -- the entries differ
  pub apart : (x : ℕ) (m : Name) → nat_eq od x && same_name on m ≡ true → nat_eq nd x && same_name nn m ≡ true → ⊥
  apart x m a b =
      let p = both_true (nat_eq od x) (same_name on m) a in
      let q = both_true (nat_eq nd x) (same_name nn m) b in
      let d : nd ≡ od = eqb-true nd x q.0 ∙ sym (eqb-true od x p.0) in
      let n : nn ≡ on = same_name_is nn m q.1 ∙ sym (same_name_is on m p.1) in
      let way : pn ≡ po = once (view_of s) t h.by po od (h.by.sound.owns od c on there) at_from pn (at_to ∙ ap Some d) in
      let same : after_front (po ++ on ∷ []) (pn ++ nn ∷ []) ≡ after_front (po ++ on ∷ []) (po ++ on ∷ []) = λ i. after_front (po ++ on ∷ []) (way i ++ n i ∷ []) in
      let self = after_front-self (po ++ on ∷ []) in cc

  abbrev pub put : StoreState
  put = entry_put s nd nn c

  pub in_order_put_in : InOrder put.nodes
  in_order_put_in = in_order_put (edited_node (with_content (more_content nn c)) s nd above here_to) ordered
      (more_in_order nn c above.content (node_in_order s.nodes nd above ordered here_to))

  pub view_moved : view_of (moved_entry s (entry_key od on) (entry_key nd nn) c) ≡ with_step (with_step (view_of s) od on None) nd nn (Some c)
  view_moved =
      let f = still_there (with_content (more_content nn c)) s nd od above from here_to here_from in
      view_taken put od on f.0 (node_in_order put.nodes od f.0 in_order_put_in f.1) f.1 ∙ ap (λ (v : View). with_step v od on None) (view_put s nd nn c above es here_to dir)
      ∙ same_view (with_step (with_step (view_of s) od on None) nd nn (Some c)) (with_step (with_step (view_of s) nd nn (Some c)) od on None)
      (λ x m. swapped (nat_eq od x && same_name on m) (nat_eq nd x && same_name nn m) c (child_of s.nodes x m) (apart x m)) (λ x. refl) refl (λ a b. refl)

  pub in_order_moved : InOrder (moved_entry s (entry_key od on) (entry_key nd nn) c).nodes
  in_order_moved =
      let f = still_there (with_content (more_content nn c)) s nd od above from here_to here_from in
      in_order_put (edited_node (with_content (less_content on)) put od f.0 f.1) in_order_put_in
      (less_in_order on f.0.content (node_in_order put.nodes od f.0 in_order_put_in f.1))

  -- ---- to an absent path
  pub shows_relinked : child_of s.nodes nd nn ≡ None → Shows (view_of (relinked s od on nd nn)) (changed t (Move (po ++ on ∷ []) (pn ++ nn ∷ [])))
  shows_relinked none =
      let is : relinked s od on nd nn ≡ moved_entry s (entry_key od on) (entry_key nd nn) c = ap (λ o. relinked_from s (entry_key od on) (entry_key nd nn) o (child_of s.nodes nd nn)) there ∙ ap (relinked_from s (entry_key od on) (entry_key nd nn) (Some c)) none in
      subst (λ (v : View). Shows v (changed t (Move (po ++ on ∷ []) (pn ++ nn ∷ [])))) (sym (ap view_of is ∙ view_moved))
      (shows_move (view_of s) t h po on od pn nn nd c at_from there at_to is_to not_inside none)

  -- ---- replacing another inode
  module _ (target : ℕ) (gone : Node) (stood : child_of s.nodes nd nn ≡ Some target) (is : node_in s.nodes target ≡ Some gone) (bare : IsBare (child_of s.nodes) target) where
    pub is_relinked : relinked s od on nd nn ≡ forgotten (moved_entry s (entry_key od on) (entry_key nd nn) c) target
    is_relinked = ap (λ o. relinked_from s (entry_key od on) (entry_key nd nn) o (child_of s.nodes nd nn)) there ∙ ap (relinked_from s (entry_key od on) (entry_key nd nn) (Some c)) stood

    apart_from : od ≢ target
    apart_from e = let a = ap (λ (x : ℕ). child_of s.nodes x on) e in let b = bare on in cc

    apart_to : nd ≢ target
    apart_to e = let a = ap (λ (x : ℕ). child_of s.nodes x nn) e in let b = bare nn in cc

    pub target_there : node_in (moved_entry s (entry_key od on) (entry_key nd nn) c).nodes target ≡ Some gone
    target_there =
        let f = still_there (with_content (more_content nn c)) s nd od above from here_to here_from in
        (edited_node (with_content (less_content on)) put od f.0 f.1).beside target apart_from
        ∙ (edited_node (with_content (more_content nn c)) s nd above here_to).beside target apart_to ∙ is

    -- the new entry is not the target's
    bare_moved : IsBare (changed_step (changed_step (child_of s.nodes) od on None) nd nn (Some c)) target
    bare_moved m = simp (nat_eq_apart nd target apart_to, nat_eq_apart od target apart_from) (bare m)

    pub shows_relinked_gone : HasNoEntry (changed_step (changed_step (child_of s.nodes) od on None) nd nn (Some c)) target → IsClosed (view_of s) gone.label → is_unused (without_name gone) ≡ true
        → Shows (view_of (relinked s od on nd nn)) (changed t (Move (po ++ on ∷ []) (pn ++ nn ∷ [])))
    shows_relinked_gone free closed unused =
        let after = moved_entry s (entry_key od on) (entry_key nd nn) c in
        let bare_after : IsBare (child_of after.nodes) target = λ m. ap (λ (v : View). v.step target m) view_moved ∙ bare_moved m in
        subst (λ (v : View). Shows v (changed t (Move (po ++ on ∷ []) (pn ++ nn ∷ []))))
        (sym (ap view_of is_relinked ∙ view_goes without_name after target gone target_there (λ m. refl) refl bare_after unused ∙ ap (λ (v : View). with_shown v target None) view_moved))
        (shows_replaced (view_of s) t h po on od pn nn nd c at_from there at_to is_to not_inside target gone.label (object_in gone.metadata gone.content) stood (ap (option_map shown_node) is) bare free bare_moved closed)

    pub shows_relinked_used : is_used (moved t.names (po ++ on ∷ []) (pn ++ nn ∷ [])) t.handles gone.label ≡ true → is_unused (without_name gone) ≡ false
        → Shows (view_of (relinked s od on nd nn)) (changed t (Move (po ++ on ∷ []) (pn ++ nn ∷ [])))
    shows_relinked_used used kept =
        let after = moved_entry s (entry_key od on) (entry_key nd nn) c in
        subst (λ (v : View). Shows v (changed t (Move (po ++ on ∷ []) (pn ++ nn ∷ []))))
        (sym (ap view_of is_relinked ∙ view_stays without_name after target gone target_there (λ m. refl) refl kept ∙ view_moved))
        (shows_replaced_used (view_of s) t h po on od pn nn nd c at_from there at_to is_to not_inside target gone.label (object_in gone.metadata gone.content) stood (ap (option_map shown_node) is) bare used)
