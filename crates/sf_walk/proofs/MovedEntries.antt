-- An entry was moved, and both directories modified.
use Rattle.std.specs.Prelude.{◌≡◌, ◌≢◌, ℕ, nat_eq, true, false, List, [], ◌∷◌, ◌++◌, option_map, option_and_then, Option, Some, None, refl}
use Rattle.std.proofs.Common.{sym, ap, subst, ◌∙◌, eqb-true}
use Rattle.sf_path.specs.Names.{Path}
use Rattle.sf_path.specs.Order.{parent}
use Rattle.sf_reply.specs.declared.reply.Reply.TheVariants as reply
use Rattle.sf_reply.specs.declared.reply.StatusCode.TheVariants.{Success}
use Rattle.sf_call.specs.declared.metadata.Metadata.{Metadata}
use Rattle.sf_call.specs.Attributes.{Object, modified_at}
use Rattle.sf_call.specs.Attributes.Object.{Directory}
use Rattle.sf_call.specs.Tree.{Tree, after_front, directory_at, directory_metadata}
use Rattle.sf_call.specs.Changes.{Change, changed, done, touch, touched}
use Rattle.sf_call.specs.Changes.Change.{Move}
use Rattle.sf_call.specs.Calls.{moves}
use Rattle.sf_inode.specs.declared.node.Node.{Node}
use Rattle.sf_inode.specs.declared.node.Content.{Content}
use Rattle.sf_inode.specs.declared.node.Content.TheVariants as content
use Rattle.sf_inode.specs.Nodes.{object_in, with_metadata}
use Rattle.sf_inode.specs.Stores.{StoreState, node_in, child_of, is_directory_at, shown_of, shown_node, edited, relinked}
use Rattle.sf_keeps.specs.Keeps.{Keeps}
use Rattle.sf_keeps.proofs.Laws.{directory_found, keeps_directory, keeps_moved, keeps_replaced, relinked_alike, edited_apart, edited_itself}
use Rattle.sf_walk.specs.Ways.{last_name_of}
use Rattle.sf_walk.specs.Served.{IsCarriedOut}
use Rattle.sf_walk.specs.Renames.{MayMove}
use Rattle.sf_walk.proofs.Holders.{apart}
use Rattle.sf_walk.proofs.LastNames.{last_is, parent_is}
use Rattle.sf_walk.proofs.Parents.{shown_directory, bare_above, touches}
use Rattle.sf_walk.proofs.Onward.{has_entry}

done-append : (t : Tree) (cs ds : List Change) → done t (cs ++ ds) ≡ done (done t cs) ds
done-append t [] ds = refl
done-append t (c ∷ cs) ds = done-append (changed t c) cs ds

abbrev seen : ℕ → Object → Option (ℕ × Object)
seen label object = Some (label, object)

-- a directory after its metadata changed
content_changed : (f : Metadata → Metadata) (l label : ℕ) (m k : Metadata) (c : Content) → seen l (object_in m c) ≡ seen label (Directory k) → seen l (object_in (f m) c) ≡ seen label (Directory (f k))
content_changed f l label m k (content.Directory es) e =
    let labels : Some l ≡ Some label = ap (option_map (λ (v : ℕ × Object). v.0)) e in
    let parts : Some m ≡ Some k = ap (option_and_then (λ (v : ℕ × Object). directory_metadata v.1)) e in
    let a : l ≡ label = cc in
    let b : m ≡ k = cc in
    λ i. seen (a i) (Directory (f (b i)))
content_changed f l label m k (content.File contents) e =
    let parts : None ≡ Some k = ap (option_and_then (λ (v : ℕ × Object). directory_metadata v.1)) e in cc

shown_changed : (f : Metadata → Metadata) (o : Option Node) (label : ℕ) (m : Metadata) → option_map shown_node o ≡ Some (label, Directory m) → option_map shown_node (option_map (with_metadata f) o) ≡ Some (label, Directory (f m))
shown_changed f None label m e = cc
shown_changed f (Some node) label m e = content_changed f node.label label node.metadata m node.content e

module _ (s : StoreState) (t : Tree) (k : Keeps s t) (moment : ℕ) (old new : Path) (from into : ℕ) (m : MayMove s old new from into) where
  abbrev mid : StoreState
  mid = relinked s from m.name into m.last

  abbrev Old : Path
  Old = m.above ++ m.name ∷ []

  abbrev New : Path
  New = m.beside ++ m.last ∷ []

  not_inside : after_front Old New ≡ None
  not_inside = sym (λ i. after_front (m.is_old i) (m.is_new i)) ∙ m.not_inside

  moved : Keeps mid (changed t (Move Old New))
  moved = elim (child_of s.nodes into m.last) as (λ o. child_of s.nodes into m.last ≡ o → Keeps mid (changed t (Move Old New))) [
    | None ↦ λ e. keeps_moved s t m.above from m.name m.node m.beside into m.last k m.leads m.there m.leads_new m.directory not_inside e
    | Some target ↦ λ e. keeps_replaced s t m.above from m.name m.node m.beside into m.last k m.leads m.there m.leads_new m.directory not_inside target e (m.bare target e) (m.other target e)
  ] refl

  -- neither directory is the replaced inode
  other_from : child_of s.nodes into m.last ≢ Some from
  other_from e = let none = bare_above s.nodes from m.name (m.bare from e) in let some = m.there in cc

  other_into : child_of s.nodes into m.last ≢ Some into
  other_into e = let none = bare_above s.nodes into m.last (m.bare into e) in cc

  abbrev touched_old : StoreState
  touched_old = edited (with_metadata (modified_at moment)) mid from

  abbrev tree_old : Tree
  tree_old = done (changed t (Move Old New)) (touched t moment (parent Old))

  from_is : is_directory_at s.nodes from ≡ true
  from_is = has_entry s.nodes from m.name m.node m.there

  from_same : shown_of mid.nodes from ≡ shown_of s.nodes from
  from_same = (relinked_alike s from m.name into m.last from other_from).0

  old_touched : Keeps touched_old tree_old
  old_touched = touches s mid t (changed t (Move Old New)) (record { above = m.above; name = m.name; node = from; leads = m.leads; directory = from_is }) moment k moved from_same

  -- if both are one directory it is modified twice, with the same value
  into_touched : Keeps (edited (with_metadata (modified_at moment)) touched_old into) (done tree_old (touched t moment (parent New)))
  into_touched = elim (nat_eq from into) as (λ b. nat_eq from into ≡ b → Keeps (edited (with_metadata (modified_at moment)) touched_old into) (done tree_old (touched t moment (parent New)))) [
    | false ↦ λ e.
        touches s touched_old t tree_old (record { above = m.beside; name = m.last; node = into; leads = m.leads_new; directory = m.directory }) moment k old_touched
        (ap (option_map shown_node) (edited_apart (with_metadata (modified_at moment)) mid from into (λ h. apart from into e (sym h))) ∙ (relinked_alike s from m.name into m.last into other_into).0)
    | true ↦ λ e.
        let same : from ≡ into = eqb-true from into e in
        let w = shown_directory s.nodes into m.directory in
        let is : directory_at t (parent New) ≡ Some (w.0, w.1.0) = ap (directory_at t) (parent_is m.beside m.last) ∙ directory_found s t k m.beside into w.0 w.1.0 m.leads_new w.1.1 in
        let shown : shown_of touched_old.nodes into ≡ Some (w.0, Directory (modified_at moment w.1.0)) =
        ap (shown_of touched_old.nodes) (sym same) ∙ ap (option_map shown_node) (edited_itself (with_metadata (modified_at moment)) mid from)
        ∙ shown_changed (modified_at moment) (node_in mid.nodes from) w.0 w.1.0 (from_same ∙ ap (shown_of s.nodes) same ∙ w.1.1) in
        subst (λ (o : Option (ℕ × Metadata)). Keeps (edited (with_metadata (modified_at moment)) touched_old into) (done tree_old (touch moment o))) (sym is)
        (keeps_directory (modified_at moment) touched_old tree_old into w.0 (modified_at moment w.1.0) old_touched shown)
  ] refl

  pub moves_served : (after : StoreState) → after ≡ edited (with_metadata (modified_at moment)) (edited (with_metadata (modified_at moment)) (relinked s from (last_name_of old) into (last_name_of new)) from) into
      → IsCarriedOut after t (moves t moment old new) (reply.Status Success)
  moves_served after state =
      let names : relinked s from (last_name_of old) into (last_name_of new) ≡ mid =
      λ i. relinked s from ((ap last_name_of m.is_old ∙ last_is m.above m.name) i) into ((ap last_name_of m.is_new ∙ last_is m.beside m.last) i) in
      let whole : Keeps (edited (with_metadata (modified_at moment)) touched_old into) (done t (Move Old New ∷ (touched t moment (parent Old) ++ touched t moment (parent New)))) =
      subst (λ (u : Tree). Keeps (edited (with_metadata (modified_at moment)) touched_old into) u) (sym (done-append (changed t (Move Old New)) (touched t moment (parent Old)) (touched t moment (parent New)))) into_touched in
      record {
        told = refl;
        tree =
            subst (λ (x : StoreState). Keeps x (done t (moves t moment old new).changes)) (sym (state ∙ ap (λ (x : StoreState). edited (with_metadata (modified_at moment)) (edited (with_metadata (modified_at moment)) x from) into) names))
            (subst (λ (p : Path). Keeps (edited (with_metadata (modified_at moment)) touched_old into) (done t (moves t moment p new).changes)) (sym m.is_old)
            (subst (λ (q : Path). Keeps (edited (with_metadata (modified_at moment)) touched_old into) (done t (moves t moment Old q).changes)) (sym m.is_new) whole));
      }
