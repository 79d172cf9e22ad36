-- What a store represents after an entry was inserted or removed.
use Rattle.std.specs.Prelude.{◌≡◌, ◌≢◌, ℕ, ◌-◌, nat_eq, true, false, cond, [], ◌∷◌, ◌++◌, option_map, option_and_then, Some, None, refl}
use Rattle.std.specs.Option.{option_map_or}
use Rattle.std.proofs.Common.{sym, ap, subst, ◌∙◌, arith, inl, inr}
use Rattle.std.proofs.lemmas.Bool.{cases_Bool}
use Rattle.std.specs.Map.{lookup}
use Rattle.sf_path.specs.Names.{Name, Path}
use Rattle.sf_path.specs.Order.{same_name}
use Rattle.sf_call.specs.Tree.{Tree, object_of, links}
use Rattle.sf_call.proofs.Laws.{links_more, links_less, is_link_itself, is_link_other, none_linked}
use Rattle.sf_call.specs.Changes.{changed}
use Rattle.sf_call.specs.Changes.Change.{NewPath, GonePath}
use Rattle.sf_call.specs.declared.metadata.FileType.{FileType}
use Rattle.sf_call.specs.declared.metadata.FileType.TheVariants as file_type
use Rattle.sf_inode.specs.declared.node.Node.{Node}
use Rattle.sf_inode.specs.declared.node.NewNode.{NewNode}
use Rattle.sf_inode.specs.declared.node.Content.{Content}
use Rattle.sf_inode.specs.Nodes.{child_in, object_in, is_directory_content, is_bare_content, new_content, new_node, more_content, less_content, with_content, without_name, is_unused}
use Rattle.sf_keeps.specs.Steps.{walk, changed_step}
use Rattle.sf_keeps.specs.Shows.{View, Shows}
use Rattle.sf_inode.specs.Stores.{StoreState, node_in, child_of, shown_node, shown_of, entry_taken, forgotten, unlinked, unlinked_from, Inserted, new_entry}
use Rattle.sf_keeps.specs.Keeps.{view_of, Keeps}
use Rattle.sf_keeps.proofs.Sound.{IsBare}
use Rattle.sf_keeps.proofs.SetsAt.{set_is, set_seen}
use Rattle.sf_keeps.proofs.StoreLaws.{NodeOnPath, InsertsNode, view_taken, shows_inserted, shows_unlinked_gone, shows_unlinked_used, edited_node, steps_inserted, inserted_node}
use Rattle.sf_keeps.proofs.Openings.{closed_label, entry_node, unopened, both_zero, path_label, path_named, one_entry, used_still, labelled_object, object_there}
use Rattle.sf_keeps.proofs.Whole.{one_more, free_name}
use Rattle.sf_keeps.proofs.Counted.{Mark, mark_of, mark_same, marks_of, marked, keeps_marked}
use Rattle.sf_keeps.proofs.CountedSteps.{none_left, bare_less, bare_apart, marked_new}
use Rattle.sf_keeps.proofs.Forgotten.{directory_at, entry_above, bare_at, mark_node, keeps_forgotten, marks_entries, in_order_entries}
use Rattle.sf_keeps.proofs.InOrder.{InOrder, IsInOrder, node_in_order, in_order_put, less_in_order, more_in_order}

-- the inode of a path has a link, so it is not one without
pub away : (s : StoreState) (t : Tree) (k : Keeps s t) (p : NodeOnPath s) (id l o : ℕ) → marks_of s.nodes id ≡ Some (l, 0, o) → p.id ≢ id
away s t k p id l o e same =
    let above = p.node in
    let is : ◌≡◌ {A = Mark} (mark_of above) (l, 0, o) = mark_same (mark_of above) (l, 0, o) (sym (ap (option_map mark_of) p.is_node) ∙ ap (marks_of s.nodes) same ∙ e) in
    let none : above.names ≡ 0 = ap (λ (z : Mark). z.1) is in
    absurd (omega (arith, path_named s t k p.path p.id above p.is_node p.leads, none))

-- the number of an inode has an object
labelled_node : (s : StoreState) (t : Tree) (k : Keeps s t) (id l b o : ℕ) → marks_of s.nodes id ≡ Some (l, b, o) → object_of t.objects l ≡ None → ⊥
labelled_node s t k id l b o e none =
    let w = mark_node s.nodes id (l, b, o) e in
    let some = object_there s t k id w.0 w.1 in
    let gone : object_of t.objects w.0.label ≡ None = ap (object_of t.objects) (ap (λ (z : Mark). z.0) w.2) ∙ none in cc

-- ---- a removed entry
pub keeps_unlinked : {s : StoreState} {t : Tree} (p : Path) {d : ℕ} (n : Name) {c : ℕ} → Keeps s t → walk (child_of s.nodes) s.root p ≡ Some d → child_of s.nodes d n ≡ Some c
    → option_map_or (λ (it : Node). is_bare_content it.content) (node_in s.nodes c) false ≡ true → Keeps (unlinked s d n) (changed t (GonePath (p ++ n ∷ [])))
keeps_unlinked {s = s} {t = t} p {d = d} n {c = c} k at there is_bare =
    let above = entry_above s.nodes d c n there in
    let node = entry_node s t k d c n there in
    let bare = bare_at s.nodes c is_bare in
    let ordered = node_in_order s.nodes d above.0 k.entries above.1 in
    let step = changed_step (child_of s.nodes) d n None in
    let after = changed t (GonePath (p ++ n ∷ [])) in
    let mid = entry_taken s d n in
    let here : node_in mid.nodes c ≡ Some node.0 = (edited_node (with_content (less_content n)) s d above.0 above.1).beside c (bare_apart (child_of s.nodes) d c n c there bare) ∙ node.1 in
    let at_path = path_label s t k (p ++ n ∷ []) c node.0 node.1 (one_more (view_of s) t k.shows p d n at ∙ there) in
    let own : node.0.names - 1 ≡ links after.names node.0.label =
    omega (arith, k.linked c node.0 node.1, links_less t.names node.0.label (p ++ n ∷ []) node.0.label at_path, is_link_itself node.0.label) in
    let shows : Shows (view_of (unlinked s d n)) after =
    elim (cases_Bool (is_unused (without_name node.0))) [
      | inl e ↦
          let none = both_zero (node.0.names - 1) node.0.opens e in
          shows_unlinked_gone s t k.shows p d n c above.0 node.0 ordered at above.1 there node.1 bare
          (none_left (child_of s.nodes) d n c (one_entry s t k c node.0 node.1 (omega (arith, node.2, none.0))) there)
          (closed_label s t k node.0.label (sym (k.counted c node.0 node.1) ∙ none.1)) e
      | inr e ↦ shows_unlinked_used s t k.shows p d n c above.0 node.0 ordered at above.1 there node.1 bare (used_still s t k after.names c (node.0.names - 1) node.0 node.1 own e) e
    ] in
    let is : unlinked s d n ≡ forgotten mid c = ap (unlinked_from s d n) there in
    subst (λ (x : StoreState). Keeps x after) (sym is)
    (keeps_forgotten s t after k (record {
      mid = mid;
      step = step;
      id = c;
      node = node.0;
      here = here;
      ordered = in_order_entries (less_content n) s d above.0 above.1 k.entries (less_in_order n above.0.content ordered);
      steps = λ x m. ap (λ (v : View). v.step x m) (view_taken s d n above.0 ordered above.1);
      marks = marks_entries (less_content n) s d above.0 above.1;
      sessions = refl;
      gone = bare_less (child_of s.nodes) d n c bare;
      bares = λ id l o e. bare_less (child_of s.nodes) d n id;
      others = λ l other. omega (arith, links_less t.names l (p ++ n ∷ []) node.0.label at_path, is_link_other l node.0.label (λ same. other (sym same)));
      own = own;
      handles = refl;
      shows = subst (λ (x : StoreState). Shows (view_of x) after) is shows;
    }))

-- ---- a new inode
new_bare : (kind : FileType) (m : Name) → child_in (new_content kind) m ≡ None
new_bare file_type.Directory m = refl
new_bare file_type.File m = refl

module _ (old new : StoreState) (i : InsertsNode old new) where
  marks_new : (x : ℕ) → marks_of new.nodes x ≡ cond (nat_eq i.id x) (Some (mark_of i.node)) (marks_of old.nodes x)
  marks_new x =
      set_is (set_seen (option_map mark_of) (inserted_node old new i)) x
      ∙ ap (cond (nat_eq i.id x) (Some (mark_of i.node))) (marks_entries (more_content i.name i.id) old i.above.id i.above.node i.above.is_node x)

  in_order_new : InOrder old.nodes → IsInOrder i.node.content → InOrder new.nodes
  in_order_new h own =
      let above = i.above in
      in_order_put (inserted_node old new i)
      (in_order_entries (more_content i.name i.id) old above.id above.node above.is_node h (more_in_order i.name i.id above.node.content (node_in_order old.nodes above.id above.node h above.is_node))) own

new_in_order : (kind : FileType) → IsInOrder (new_content kind)
new_in_order file_type.Directory = tt
new_in_order file_type.File = tt

pub keeps_inserted : {old new : StoreState} {t : Tree} (p : Path) {d : ℕ} {n : Name} {c : ℕ} (made : NewNode) → Keeps old t → Inserted old new (new_entry d n c) (new_node made)
    → walk (child_of old.nodes) old.root p ≡ Some d → option_map_or (λ (it : Node). is_directory_content it.content) (node_in old.nodes d) false ≡ true → child_of old.nodes d n ≡ None → object_of t.objects made.label ≡ None
    → Keeps new (changed t (NewPath (p ++ n ∷ []) made.label (object_in made.metadata (new_content made.file_type))))
keeps_inserted {old = old} {new = new} {t = t} p {d = d} {n = n} {c = c} made k did at is_dir free fresh =
    let w = directory_at old.nodes d is_dir in
    let bare = new_bare made.file_type in
    let none : lookup (same_name n) w.1 ≡ None = sym (ap (option_and_then (λ (z : Node). child_in z.content n)) w.2 ∙ ap (λ (z : Content). child_in z n) w.3) ∙ free in
    let gone : shown_of old.nodes c ≡ None = ap (option_map shown_node) did.fresh in
    let bare_c : IsBare (child_of old.nodes) c = λ m. ap (option_and_then (λ (z : Node). child_in z.content m)) did.fresh in
    let q : Path = p ++ n ∷ [] in
    let free_path = free_name (view_of old) t k.shows p d n at free in
    let after = changed t (NewPath q made.label (object_in made.metadata (new_content made.file_type))) in
    let above : NodeOnPath old = record { path = p; id = d; node = w.0; leads = at; is_node = w.2 } in
    let inserts : InsertsNode old new = record { above = above; entries = w.1; directory = w.3; name = n; free = none; id = c; node = new_node made; inserted = did; bare = bare } in
    keeps_marked old new t after k (record {
      step = changed_step (child_of old.nodes) d n (Some c);
      marks = λ i. cond (nat_eq c i) (Some (made.label, 1, 0)) (marks_of old.nodes i);
      shows = shows_inserted old new inserts t k.shows fresh;
      steps = steps_inserted old new inserts;
      says = marks_new old new inserts;
      sessions = did.sessions;
      handles = refl;
      marked = marked_new d n c made.label (links after.names) (marked old t k) (ap (option_map mark_of) did.fresh) bare_c
          (λ e. let g = ap (node_in old.nodes) e in let h = did.fresh in let i = w.2 in cc)
          (away old t k above)
          (λ id l b o e. omega (arith, links_more t.names l q made.label free_path, is_link_other l made.label (λ same. labelled_node old t k id l b o e (ap (object_of t.objects) (sym same) ∙ fresh))))
          (omega (arith, links_more t.names made.label q made.label free_path, is_link_itself made.label, none_linked t.names made.label k.shows.ordered.names (λ z e. labelled_object old t k z made.label e fresh)))
          (unopened old t k made.label fresh);
      ordered = in_order_new old new inserts k.entries (new_in_order made.file_type);
    })
