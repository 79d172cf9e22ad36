-- A successful REMOVE takes one name from its file.
use Rattle.std.proofs.Common.{option_map, ◌≡◌, ℕ, cond, List, [], ◌∷◌, Option, Some, None, refl, sym, ap, ◌∙◌, arith}
use Rattle.std.specs.Ordering.{nat_cmp}
use Rattle.std.specs.Map.{remove_entry}
use Rattle.std.specs.BTreeMap.{is_at}
use Rattle.std.specs.FinMap.{nat_cmp-IsAntisymmetric}
use Rattle.sf_path.specs.Names.{Path}
use Rattle.sf_path.specs.Order.{parent, path_cmp}
use Rattle.sf_reply.specs.declared.reply.Reply.TheVariants as reply
use Rattle.sf_reply.specs.declared.reply.StatusCode.TheVariants.{Success}
use Rattle.sf_call.specs.declared.metadata.Metadata.{Metadata}
use Rattle.sf_call.specs.declared.lookup.Lookup.{Lookup}
use Rattle.sf_call.specs.declared.lookup.Lookup.TheVariants.{At}
use Rattle.sf_field.specs.declared.operation.PathOp.TheVariants as path_op
use Rattle.sf_call.specs.declared.request.Request.TheVariants.{OnPath}
use Rattle.sf_call.specs.Attributes.{Object}
use Rattle.sf_call.specs.Attributes.Object.{Directory, File}
use Rattle.sf_call.specs.Tree.{Tree, IsOrderedTree, label_at, object_of, links, is_used, directory_at, look_up, found_place}
use Rattle.sf_call.specs.Changes.{changed, done, touch}
use Rattle.sf_call.specs.Changes.Change.{GonePath}
use Rattle.sf_call.specs.Calls.{Outcome, answer_to, goes, remove_file, unless_root}
use Rattle.sf_call.proofs.Laws.{exact_paths, other_set, removed_itself, directory_there, place_label, kept_object, object_kept, is_link_itself, links_less}
use Rattle.sf_laws.proofs.LinkedFiles.{names_touched}
use Rattle.sf_laws.specs.Linked.{IsRemoved}

handles_touched : (t : Tree) (moment : ℕ) (at : Option (ℕ × Metadata)) → (done t (touch moment at)).handles ≡ t.handles
handles_touched t moment None = refl
handles_touched t moment (Some e) = refl

module _ (tree : Tree) (ordered : IsOrderedTree tree) (moment : ℕ) (path : Path) where
  -- without the path, before unused objects are deleted
  abbrev unnamed : Tree
  unnamed = record tree { names = remove_entry (is_at (path_cmp path)) tree.names }

  abbrev less : Tree
  less = changed tree (GonePath path)

  abbrev after : Tree
  after = done tree (goes tree moment path).changes

  -- if the reply is OK, the file has one link fewer in the tree after it
  abbrev RemovesIt : Outcome → Type 0
  RemovesIt answer = answer.reply ≡ reply.Status Success → IsRemoved tree (done tree answer.changes) path

  -- setting the parent's modification time changes no file
  touched_file : (label : ℕ) (m : Metadata) (contents : List ℕ) → object_of tree.objects label ≡ Some (File m contents) → (at : Option (ℕ × Metadata))
      → directory_at tree (parent path) ≡ at → object_of (done less (touch moment at)).objects label ≡ object_of less.objects label
  touched_file label m contents is None e = refl
  touched_file label m contents is (Some d) e =
      other_set nat_cmp nat_cmp-IsAntisymmetric less.objects d.0 _ label
      (λ same. let two : Some (File m contents) ≡ Some (Directory d.1) = sym is ∙ ap (object_of tree.objects) same ∙ (directory_there tree (parent path) d e).1 in cc)

  gone : (label : ℕ) (m : Metadata) (contents : List ℕ) → label_at tree.names path ≡ Some label → object_of tree.objects label ≡ Some (File m contents) → IsRemoved tree after path
  gone label m contents was is =
      let names : after.names ≡ unnamed.names = names_touched less moment (directory_at tree (parent path)) in
      let handles : after.handles ≡ tree.handles = handles_touched less moment (directory_at tree (parent path)) in
      let used : is_used after.names after.handles label ≡ is_used unnamed.names tree.handles label = λ i. is_used (names i) (handles i) label in
      let object : object_of after.objects label ≡ object_of less.objects label = touched_file label m contents is (directory_at tree (parent path)) refl in
      let object_is : object_of after.objects label ≡ cond (is_used unnamed.names tree.handles label) (object_of tree.objects label) None = object ∙ object_kept unnamed label in
      let count : links after.names label ≡ links unnamed.names label = ap (λ (ns : List (Path × ℕ)). links ns label) names in
      record {
        label = label;
        was = was;
        gone = ap (λ (ns : List (Path × ℕ)). label_at ns path) names ∙ removed_itself path_cmp exact_paths path tree.names ordered.names;
        fewer = omega (arith, count, links_less tree.names label path label was, is_link_itself label);
        left = λ other at. object ∙ kept_object unnamed other label (sym (ap (λ (ns : List (Path × ℕ)). label_at ns other) names) ∙ at);
        opened = λ is_used. object_is ∙ ap (λ b. cond b (object_of tree.objects label) None) (sym used ∙ is_used);
        last = λ is_unused. object_is ∙ ap (λ b. cond b (object_of tree.objects label) None) (sym used ∙ is_unused);
      }

  of_object : (label : ℕ) → label_at tree.names path ≡ Some label → (o : Option Object) → object_of tree.objects label ≡ o → RemovesIt (remove_file tree moment path (option_map (λ (object : Object). (label, object)) o))
  of_object label was (Some (File m contents)) is = λ e. gone label m contents was is
  of_object label was _ is = λ e. cc

  of_place : (place : Lookup) → look_up tree path ≡ place → RemovesIt (remove_file tree moment path (found_place tree.objects place))
  of_place (At label) at = of_object label (place_label tree path label at) (object_of tree.objects label) refl
  of_place _ at = λ e. cc

  rooted : (p : Path) (answer : Outcome) → RemovesIt answer → RemovesIt (unless_root p answer)
  rooted [] answer holds = λ e. cc
  rooted (n ∷ p) answer holds = holds

  pub removes_it : (session number : ℕ) → RemovesIt (answer_to tree session number moment (OnPath path_op.Remove path))
  removes_it session number = rooted path _ (of_place (look_up tree path) refl)
