-- A successful link adds a path of a file.
use Rattle.std.proofs.Common.{option_map, ◌≡◌, ℕ, Bool, true, false, cond, nat_le, ◌+◌, List, [], ◌∷◌, Option, Some, None, refl, ap, ◌∙◌}
use Rattle.std.specs.Ordering.{is_eq}
use Rattle.std.specs.Cmp.{tied_itself}
use Rattle.std.specs.BTreeMap.{insert_entry}
use Rattle.std.proofs.lemmas.Bool.{leb-false}
use Rattle.sf_path.specs.Names.{Path}
use Rattle.sf_path.specs.Order.{path_cmp, path_total, parent}
use Rattle.sf_reply.specs.declared.reply.Reply.TheVariants as reply
use Rattle.sf_reply.specs.declared.reply.StatusCode.TheVariants.{Success, Failure}
use Rattle.sf_call.specs.declared.limits.TheConstants.{MAX_LINKS}
use Rattle.sf_call.specs.declared.metadata.Metadata.{Metadata}
use Rattle.sf_field.specs.declared.operation.PairOp.TheVariants as pair_op
use Rattle.sf_call.specs.declared.request.Request.TheVariants.{OnPaths}
use Rattle.sf_call.specs.declared.lookup.Lookup.{Lookup}
use Rattle.sf_call.specs.declared.lookup.Lookup.TheVariants.{Absent, At}
use Rattle.sf_call.specs.Attributes.{Object}
use Rattle.sf_call.specs.Attributes.Object.{File}
use Rattle.sf_call.specs.Tree.{Tree, label_at, object_of, links, look_up, found_place, directory_at}
use Rattle.sf_call.specs.Changes.{changed, done, touch, touched}
use Rattle.sf_call.specs.Changes.Change.{NewName}
use Rattle.sf_call.specs.Calls.{Outcome, answer_to, refuses, succeeds, unless_root, link_to, link}
use Rattle.sf_call.proofs.Laws.{lookup-put, place_label, place_free, is_link_itself, links_more}
use Rattle.sf_laws.specs.Linked.{IsLinked}

pub names_touched : (t : Tree) (moment : ℕ) (at : Option (ℕ × Metadata)) → (done t (touch moment at)).names ≡ t.names
names_touched t moment None = refl
names_touched t moment (Some e) = refl

module _ (tree : Tree) (moment : ℕ) (old new : Path) where
  -- if the reply is OK, the file has one more link in the tree after it
  abbrev pub LinksIt : Outcome → Type 0
  LinksIt answer = answer.reply ≡ reply.Status Success → IsLinked tree (done tree answer.changes) old new

  put_there : (names : List (Path × ℕ)) (label : ℕ) (path : Path) → label_at (insert_entry path_cmp names new label) path ≡ cond (is_eq (path_cmp path new)) (Some label) (label_at names path)
  put_there names label path = lookup-put path_cmp path_total names new label path

  kept_label : (b : Bool) (label : ℕ) (o : Option ℕ) → o ≡ Some label → cond b (Some label) o ≡ Some label
  kept_label true label o is = refl
  kept_label false label o is = is

  made : (label : ℕ) → label_at tree.names old ≡ Some label → label_at tree.names new ≡ None → nat_le MAX_LINKS (links tree.names label) ≡ false
      → IsLinked tree (done tree (NewName new label ∷ touched tree moment (parent new))) old new
  made label was free few =
      let names : (done tree (NewName new label ∷ touched tree moment (parent new))).names ≡ insert_entry path_cmp tree.names new label =
      names_touched (changed tree (NewName new label)) moment (directory_at tree (parent new)) in
      record {
        label = label;
        was = was;
        free = free;
        still = ap (λ (ns : List (Path × ℕ)). label_at ns old) names ∙ put_there tree.names label old ∙ kept_label (is_eq (path_cmp old new)) label (label_at tree.names old) was;
        named = ap (λ (ns : List (Path × ℕ)). label_at ns new) names ∙ put_there tree.names label new ∙ ap (λ r. cond (is_eq r) (Some label) (label_at tree.names new)) (tied_itself path_total new);
        more = ap (λ (ns : List (Path × ℕ)). links ns label) names ∙ links_more tree.names label new label free ∙ ap (λ n. n + links tree.names label) (is_link_itself label);
        few = leb-false MAX_LINKS (links tree.names label) few;
      }

  to_place : (label : ℕ) → label_at tree.names old ≡ Some label → (place : Lookup) → look_up tree new ≡ place → LinksIt (link_to tree moment new label place)
  to_place label was Absent at =
      elim (nat_le MAX_LINKS (links tree.names label)) as (λ b. nat_le MAX_LINKS (links tree.names label) ≡ b → LinksIt (cond b (refuses Failure) (succeeds (NewName new label ∷ touched tree moment (parent new))))) [
        | true ↦ λ _ e. cc
        | false ↦ λ f _. made label was (place_free tree new at).1 f
      ] refl
  to_place label was _ at = λ e. cc

  of_object : (label : ℕ) → label_at tree.names old ≡ Some label → (o : Option Object) → LinksIt (link tree moment new (option_map (λ (object : Object). (label, object)) o))
  of_object label was (Some (File m contents)) = to_place label was (look_up tree new) refl
  of_object label was _ = λ e. cc

  of_place : (place : Lookup) → look_up tree old ≡ place → LinksIt (link tree moment new (found_place tree.objects place))
  of_place (At label) at = of_object label (place_label tree old label at) (object_of tree.objects label)
  of_place _ at = λ e. cc

  rooted : (path : Path) (answer : Outcome) → LinksIt answer → LinksIt (unless_root path answer)
  rooted [] answer p = λ e. cc
  rooted (n ∷ path) answer p = p

  pub links_it : (session number : ℕ) → LinksIt (answer_to tree session number moment (OnPaths pair_op.Link old new))
  links_it session number = rooted old _ (rooted new _ (of_place (look_up tree old) refl))
