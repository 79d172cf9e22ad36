-- The parent of a path: it gets a name or loses one, and its modification time is set.
use Rattle.std.specs.Prelude.{◌≡◌, ◌≢◌, ℕ, ◌<◌, true, false, List, [], ◌∷◌, ◌++◌, length, option_map, option_and_then, Option, Some, None, refl}
use Rattle.std.specs.Option.{option_map_or}
use Rattle.std.proofs.Common.{sym, ap, subst, ◌∙◌, inl, inr, arith}
use Rattle.sf_path.specs.Names.{Name, Path}
use Rattle.sf_path.specs.Order.{parent}
use Rattle.sf_field.specs.declared.attrs.Attrs.{Attrs}
use Rattle.sf_reply.specs.declared.reply.Reply.TheVariants as reply
use Rattle.sf_reply.specs.declared.reply.StatusCode.TheVariants.{Success}
use Rattle.sf_call.specs.declared.metadata.Metadata.{Metadata}
use Rattle.sf_call.specs.Attributes.{Object, modified_at, new_metadata}
use Rattle.sf_call.specs.Attributes.Object.{Directory}
use Rattle.sf_call.specs.Tree.{Tree, look_up, directory_at, object_of}
use Rattle.sf_call.specs.Changes.{changed, done, touch, touched}
use Rattle.sf_call.specs.Changes.Change.{NewPath, GonePath}
use Rattle.sf_call.specs.Calls.{Outcome, make_directory, goes}
use Rattle.sf_inode.specs.declared.node.Node.{Node}
use Rattle.sf_inode.specs.declared.node.NewNode.{NewNode}
use Rattle.sf_inode.specs.declared.node.Content.{Content}
use Rattle.sf_inode.specs.declared.node.Content.TheVariants as content
use Rattle.sf_inode.specs.Nodes.{object_in, new_content, new_node, child_in, is_directory_content, is_bare_content, with_metadata}
use Rattle.sf_keeps.specs.Steps.{walk}
use Rattle.sf_inode.specs.Stores.{StoreState, Inserted, node_in, child_of, is_directory_at, is_bare_at, shown_of, shown_node, edited, unlinked, new_entry}
use Rattle.sf_keeps.specs.Keeps.{Keeps}
use Rattle.sf_keeps.proofs.Laws.{directory_found, keeps_directory, keeps_inserted, keeps_unlinked, inserted_alike, unlinked_alike}
use Rattle.sf_walk.specs.declared.finding.Located.TheVariants as located
use Rattle.sf_walk.specs.Ways.{way_from, last_name_of}
use Rattle.sf_walk.specs.Served.{LookedUp, IsCarriedOut}
use Rattle.sf_walk.proofs.Fits.{name_missing, node_at}
use Rattle.sf_walk.proofs.Looked.{keeps_counted, way_looked}
use Rattle.sf_walk.proofs.LastNames.{last_is, parent_is}
use Rattle.sf_walk.proofs.Onward.{has_entry}

abbrev pub IsShownDirectory : List (Option Node) → ℕ → Type 0
IsShownDirectory nodes id = (label : ℕ) × ((m : Metadata) × (shown_of nodes id ≡ Some (label, Directory m)))

directory_content : (nodes : List (Option Node)) (id l : ℕ) (m : Metadata) (c : Content) → shown_of nodes id ≡ Some (l, object_in m c) → is_directory_content c ≡ true → IsShownDirectory nodes id
directory_content nodes id l m (content.Directory es) e d = (l, (m, e))
directory_content nodes id l m (content.File contents) e d = cc

pub shown_directory : (nodes : List (Option Node)) (id : ℕ) → is_directory_at nodes id ≡ true → IsShownDirectory nodes id
shown_directory nodes id d =
    elim (node_in nodes id) as (λ o. node_in nodes id ≡ o → IsShownDirectory nodes id) [
      | None ↦ λ e. let off = ap (λ (o : Option Node). option_map_or (λ (node : Node). is_directory_content node.content) o false) e in cc
      | Some node ↦ λ e.
          directory_content nodes id node.label node.metadata node.content (ap (option_map shown_node) e)
          (sym (ap (λ (o : Option Node). option_map_or (λ (it : Node). is_directory_content it.content) o false) e) ∙ d)
    ] refl

content_bare : (c : Content) (n : Name) → is_bare_content c ≡ true → child_in c n ≡ None
content_bare (content.Directory (x ∷ es)) n e = cc
content_bare _ n e = refl

-- an inode without entries isn't its own entry
pub bare_above : (nodes : List (Option Node)) (d : ℕ) (n : Name) → is_bare_at nodes d ≡ true → child_of nodes d n ≡ None
bare_above nodes d n =
    elim (node_in nodes d) as (λ o. option_map_or (λ (node : Node). is_bare_content node.content) o false ≡ true → option_and_then (λ (node : Node). child_in node.content n) o ≡ None) [
      | None ↦ λ e. refl
      | Some node ↦ λ e. content_bare node.content n e
    ]

-- a directory of a store that has the last name of a path
pub record ParentIn (s : StoreState) : Type 0 where
  pub above : Path
  pub name : Name
  pub node : ℕ
  pub leads : walk (child_of s.nodes) s.root above ≡ Some node
  pub directory : is_directory_at s.nodes node ≡ true

-- the path
abbrev pub below : {s : StoreState} → ParentIn s → Path
below p = p.above ++ p.name ∷ []

-- its modification time is set, in the store and in the tree
pub touches : (s new : StoreState) (t u : Tree) (p : ParentIn s) (moment : ℕ) → Keeps s t → Keeps new u → shown_of new.nodes p.node ≡ shown_of s.nodes p.node
    → Keeps (edited (with_metadata (modified_at moment)) new p.node) (done u (touched t moment (parent (below p))))
touches s new t u p moment h kept same =
    let w = shown_directory s.nodes p.node p.directory in
    let is : directory_at t (parent (below p)) ≡ Some (w.0, w.1.0) = ap (directory_at t) (parent_is p.above p.name) ∙ directory_found s t h p.above p.node w.0 w.1.0 p.leads w.1.1 in
    subst (λ (o : Option (ℕ × Metadata)). Keeps (edited (with_metadata (modified_at moment)) new p.node) (done u (touch moment o))) (sym is)
    (keeps_directory (modified_at moment) new u p.node w.0 w.1.0 kept (same ∙ w.1.1))

-- ---- MKDIR of a missing name
-- MKDIR resolves the path, adds a new inode under its last name, and sets the parent's modification
-- time.
pub record MakesDirectory (old new : StoreState) (p : Path) (number : ℕ) : Type 0 where
  pub mid : StoreState
  pub made : StoreState
  pub most : ℕ
  pub moment : ℕ
  pub attrs : Attrs
  pub dir : ℕ
  pub id : ℕ
  pub it : NewNode
  pub looked : LookedUp old mid most
  pub missing : located.Missing dir ≡ way_from old.nodes old.root old.root p
  pub inserted : Inserted mid made (new_entry dir (last_name_of p) id) (new_node it)
  pub label : it.label ≡ number
  pub object : object_in it.metadata (new_content it.file_type) ≡ Directory (new_metadata 0o755 moment attrs)
  pub state : new ≡ edited (with_metadata (modified_at moment)) made dir

pub make_served : (old new : StoreState) (t : Tree) (p : Path) (number : ℕ) → Keeps old t → object_of t.objects number ≡ None → (m : MakesDirectory old new p number)
    → IsCarriedOut new t (make_directory t number m.moment p m.attrs (look_up t p)) (reply.Status Success)
make_served old new t p number h fresh m =
    let mid = m.mid in
    let made = m.made in
    let moment = m.moment in
    let dir = m.dir in
    let it = m.it in
    let object = Directory (new_metadata 0o755 moment m.attrs) in
    let k = keeps_counted old mid t m.most m.looked h in
    let f = name_missing mid t k p dir (way_looked old mid p m.most (located.Missing dir) m.looked m.missing) in
    let r = f.1.0 in
    let n = f.1.1 in
    let is : p ≡ r ++ n ∷ [] = f.1.2 in
    let put = subst (λ (x : Name). Inserted mid made (new_entry dir x m.id) (new_node it)) (ap last_name_of is ∙ last_is r n) m.inserted in
    let u = changed t (NewPath (r ++ n ∷ []) it.label (object_in it.metadata (new_content it.file_type))) in
    let kept : Keeps made u = keeps_inserted r it k put f.1.3 f.1.5 f.1.4 (ap (object_of t.objects) m.label ∙ fresh) in
    let other : dir ≢ m.id = λ same. (let w = shown_directory mid.nodes dir f.1.5 in let gone = ap (node_in mid.nodes) same ∙ put.fresh in let none = ap (option_map shown_node) gone in let x : ⊥ = cc (w.1.1) in x) in
    let touched_dir = edited (with_metadata (modified_at moment)) made dir in
    let after : Keeps touched_dir (done u (touched t moment (parent (r ++ n ∷ [])))) =
    touches mid made t u (record { above = r; name = n; node = dir; leads = f.1.3; directory = f.1.5 }) moment k kept (inserted_alike mid made dir n m.id (new_node it) dir put other).0 in
    let whole : Keeps new (done t (NewPath p number object ∷ touched t moment (parent p))) =
    subst (λ (s : StoreState). Keeps s (done t (NewPath p number object ∷ touched t moment (parent p)))) (sym m.state)
    (subst (λ (q : Path). Keeps touched_dir (done t (NewPath q number object ∷ touched t moment (parent q)))) (sym is)
    (subst (λ (o : Object). Keeps touched_dir (done t (NewPath (r ++ n ∷ []) number o ∷ touched t moment (parent (r ++ n ∷ []))))) m.object
    (subst (λ (l : ℕ). Keeps touched_dir (done t (NewPath (r ++ n ∷ []) l (object_in it.metadata (new_content it.file_type)) ∷ touched t moment (parent (r ++ n ∷ []))))) m.label after))) in
    subst (λ (a : Outcome). IsCarriedOut new t a (reply.Status Success)) (sym (ap (make_directory t number moment p m.attrs) f.0)) (record { told = refl; tree = whole })

-- ---- a path is removed
-- a path's last name is removed from its directory, whose modification time is set
pub record TakesOut (s new : StoreState) (p : Path) : Type 0 where
  pub moment : ℕ
  pub dir : ℕ
  pub node : ℕ
  pub some : 0 < length p
  pub way : way_from s.nodes s.root s.root p ≡ located.At dir node
  pub bare : is_bare_at s.nodes node ≡ true
  pub state : new ≡ edited (with_metadata (modified_at moment)) (unlinked s dir (last_name_of p)) dir

pub goes_served : (s new : StoreState) (t : Tree) (p : Path) → Keeps s t → (o : TakesOut s new p) → IsCarriedOut new t (goes t o.moment p) (reply.Status Success)
goes_served s new t p h o =
    let moment = o.moment in
    let dir = o.dir in
    elim (node_at s t h p dir o.node o.way).1 [
      | inl root ↦ let z = ap (λ (q : Path). length q) root in let some = o.some in absurd (omega (arith, z, some))
      | inr f ↦
          let r = f.0 in
          let n = f.1 in
          let is : p ≡ r ++ n ∷ [] = f.2 in
          let kept : Keeps (unlinked s dir n) (changed t (GonePath (r ++ n ∷ []))) = keeps_unlinked r n h f.3 f.4 o.bare in
          let other : child_of s.nodes dir n ≢ Some dir = λ own. (let same : dir ≡ o.node = (let g = f.4 in cc) in let none = bare_above s.nodes dir n (ap (is_bare_at s.nodes) same ∙ o.bare) in cc) in
          let after : Keeps (edited (with_metadata (modified_at moment)) (unlinked s dir n) dir) (done (changed t (GonePath (r ++ n ∷ []))) (touched t moment (parent (r ++ n ∷ [])))) =
          touches s (unlinked s dir n) t (changed t (GonePath (r ++ n ∷ []))) (record { above = r; name = n; node = dir; leads = f.3; directory = has_entry s.nodes dir n o.node f.4 }) moment h kept (unlinked_alike s dir n dir other).0 in
          let whole : Keeps new (done t (GonePath p ∷ touched t moment (parent p))) =
          subst (λ (x : StoreState). Keeps x (done t (GonePath p ∷ touched t moment (parent p)))) (sym o.state)
          (subst (λ (x : Name). Keeps (edited (with_metadata (modified_at moment)) (unlinked s dir x) dir) (done t (GonePath p ∷ touched t moment (parent p)))) (sym (ap last_name_of is ∙ last_is r n))
          (subst (λ (q : Path). Keeps (edited (with_metadata (modified_at moment)) (unlinked s dir n) dir) (done t (GonePath q ∷ touched t moment (parent q)))) (sym is) after)) in
          record { told = refl; tree = whole }
    ]
