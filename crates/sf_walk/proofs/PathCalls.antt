-- The replies to calls on paths, case by case.
use Rattle.std.specs.Prelude.{◌≡◌, ℕ, Bool, true, false, cond, ◌&&◌, if◌then◌else◌, List, [], option_map, Option, Some, None, refl}
use Rattle.std.specs.Option.{option_map_or}
use Rattle.std.proofs.Common.{sym, ap, subst, ◌∙◌}
use Rattle.sf_path.specs.Names.{Name, Path}
use Rattle.sf_field.specs.declared.attrs.Attrs.{Attrs}
use Rattle.sf_reply.specs.declared.reply.Reply.{Reply}
use Rattle.sf_reply.specs.declared.reply.Reply.TheVariants as reply
use Rattle.sf_reply.specs.declared.reply.StatusCode.{StatusCode}
use Rattle.sf_reply.specs.declared.reply.StatusCode.TheVariants.{Success, NoSuchFile, Failure}
use Rattle.sf_call.specs.declared.metadata.Metadata.{Metadata}
use Rattle.sf_call.specs.Attributes.{Object, modified_at, attrs_of}
use Rattle.sf_call.specs.Tree.{Tree, look_up, found_at, found_place, is_empty}
use Rattle.sf_call.specs.Calls.{Outcome, tells, refuses, stat, set_stat, sets, make_directory, remove_directory, remove_file, goes, unless_root}
use Rattle.sf_inode.specs.declared.node.Node.{Node}
use Rattle.sf_inode.specs.declared.node.Content.{Content}
use Rattle.sf_inode.specs.declared.node.Content.TheVariants as content
use Rattle.sf_inode.specs.Nodes.{object_in, is_directory_content, is_bare_content, with_metadata}
use Rattle.sf_keeps.specs.Steps.{walk}
use Rattle.sf_inode.specs.Stores.{StoreState, node_in, child_of, is_directory_at, is_bare_at, edited, unlinked}
use Rattle.sf_keeps.specs.Keeps.{Keeps}
use Rattle.sf_keeps.proofs.Laws.{bare_found}
use Rattle.sf_walk.specs.declared.finding.Located.{Located}
use Rattle.sf_walk.specs.declared.finding.Located.TheVariants as located
use Rattle.sf_walk.specs.Ways.{way_from, found_node, IsThere}
use Rattle.sf_walk.specs.Served.{LookedUp, IsCarriedOut, KeepsRest, is_success}
use Rattle.sf_walk.proofs.Holders.{stays_looked, stays_edited, stays_unlinked}
use Rattle.sf_walk.proofs.Fits.{no_way, name_missing, node_at}
use Rattle.sf_walk.proofs.Looked.{keeps_counted, way_looked}
use Rattle.sf_walk.proofs.ReplyOnly.{tells_served, past_root, past_root_wants}

-- an entry was removed after lookups, and its directory's modification time set
pub stays_gone : {N : Option ℕ → ℕ → Type 0} (old mid new : StoreState) (most moment dir : ℕ) (n : Name) → LookedUp old mid most → new ≡ edited (with_metadata (modified_at moment)) (unlinked mid dir n) dir → KeepsRest N old new
stays_gone {N} old mid new most moment dir n looked state =
    subst (λ (x : StoreState). KeepsRest N old x) (sym state)
    (stays_edited (with_metadata (modified_at moment)) (λ node. (refl, refl, refl)) old (unlinked mid dir n) dir (stays_unlinked old mid dir n (stays_looked old mid most looked)))

file_content_bare : (c : Content) → is_directory_content c ≡ false → is_bare_content c ≡ true
file_content_bare (content.Directory es) e = cc
file_content_bare (content.File contents) e = refl

pub file_bare : (nodes : List (Option Node)) (y : ℕ) (node : Node) → node_in nodes y ≡ Some node → is_directory_at nodes y ≡ false → is_bare_at nodes y ≡ true
file_bare nodes y node at d =
    ap (λ (o : Option Node). option_map_or (λ (it : Node). is_bare_content it.content) o false) at
    ∙ file_content_bare node.content (sym (ap (λ (o : Option Node). option_map_or (λ (it : Node). is_directory_content it.content) o false) at) ∙ d)

-- the located inode, in the tree
module _ (s : StoreState) (t : Tree) (p : Path) (h : Keeps s t) where
  pub found_no_way : way_from s.nodes s.root s.root p ≡ located.NoWay → found_at t p ≡ None
  found_no_way e = ap (found_place t.objects) (no_way s t h p e)

  pub found_missing : (d : ℕ) → way_from s.nodes s.root s.root p ≡ located.Missing d → found_at t p ≡ None
  found_missing d e = ap (found_place t.objects) (name_missing s t h p d e).0

module _ (old mid : StoreState) (t : Tree) (p : Path) (most : ℕ) (looked : LookedUp old mid most) (h : Keeps old t) where
  mid_keeps : Keeps mid t
  mid_keeps = keeps_counted old mid t most looked h

  -- a path that leads to no inode, for any call that needs one
  nothing_told : (f : Option (ℕ × Object) → Outcome) (code : StatusCode) → f (found_at t p) ≡ refuses NoSuchFile → code ≡ NoSuchFile → IsCarriedOut mid t (f (found_at t p)) (reply.Status code)
  nothing_told f code e is = tells_served mid t (f (found_at t p)) (reply.Status code) (e ∙ ap refuses (sym is)) mid_keeps

  pub nowhere_served : (f : Option (ℕ × Object) → Outcome) → f None ≡ refuses NoSuchFile → (l : Located) (code : StatusCode)
      → (code ≡ NoSuchFile) × (IsThere l → ⊥) → l ≡ way_from old.nodes old.root old.root p → IsCarriedOut mid t (f (found_at t p)) (reply.Status code)
  nowhere_served f none located.NoWay code not e = nothing_told f code (ap f (found_no_way mid t p mid_keeps (way_looked old mid p most located.NoWay looked e)) ∙ none) not.0
  nowhere_served f none (located.Missing d) code not e = nothing_told f code (ap f (found_missing mid t p mid_keeps d (way_looked old mid p most (located.Missing d) looked e)) ∙ none) not.0
  nowhere_served f none (located.At above y) code not e = absurd (not.1 tt)

  -- the inode that was located
  pub node_located : (above y : ℕ) → located.At above y ≡ way_from old.nodes old.root old.root p → (node : Node) × ((node_in mid.nodes y ≡ Some node) × (found_at t p ≡ found_node node))
  node_located above y e = let f = node_at mid t mid_keeps p above y (way_looked old mid p most (located.At above y) looked e) in (f.2.0, (f.2.1, f.2.3))

  walk_located : (above y : ℕ) → located.At above y ≡ way_from old.nodes old.root old.root p → walk (child_of mid.nodes) mid.root p ≡ Some y
  walk_located above y e = (node_at mid t mid_keeps p above y (way_looked old mid p most (located.At above y) looked e)).0

  -- ---- STAT
  stat_content : (l : ℕ) (m : Metadata) (c : Content) → stat (Some (l, object_in m c)) ≡ tells (reply.Attrs (attrs_of (object_in m c)))
  stat_content l m (content.Directory es) = refl
  stat_content l m (content.File contents) = refl

  pub stat_served : (above y : ℕ) (attrs : Attrs) → located.At above y ≡ way_from old.nodes old.root old.root p
      → Some attrs ≡ option_map (λ (it : Node). attrs_of (object_in it.metadata it.content)) (node_in mid.nodes y) → IsCarriedOut mid t (stat (found_at t p)) (reply.Attrs attrs)
  stat_served above y attrs e sent =
      let w = node_located above y e in
      let are : Some attrs ≡ Some (attrs_of (object_in w.0.metadata w.0.content)) = sent ∙ ap (option_map (λ (it : Node). attrs_of (object_in it.metadata it.content))) w.1.0 in
      let same : attrs_of (object_in w.0.metadata w.0.content) ≡ attrs = cc in
      tells_served mid t (stat (found_at t p)) (reply.Attrs attrs) (ap stat w.1.1 ∙ stat_content w.0.label w.0.metadata w.0.content ∙ ap (λ a. tells (reply.Attrs a)) same) mid_keeps

  pub stat_gone : (above y : ℕ) → located.At above y ≡ way_from old.nodes old.root old.root p
      → None ≡ option_map (λ (it : Node). attrs_of (object_in it.metadata it.content)) (node_in mid.nodes y) → IsCarriedOut mid t (stat (found_at t p)) (reply.Status Failure)
  stat_gone above y e sent =
      let w = node_located above y e in
      let are : None ≡ Some (attrs_of (object_in w.0.metadata w.0.content)) = sent ∙ ap (option_map (λ (it : Node). attrs_of (object_in it.metadata it.content))) w.1.0 in
      cc

  -- ---- SETSTAT
  set_content : (moment : ℕ) (attrs : Attrs) (l : ℕ) (m : Metadata) (c : Content) → set_stat moment attrs (Some (l, object_in m c)) ≡ sets moment l attrs (object_in m c)
  set_content moment attrs l m (content.Directory es) = refl
  set_content moment attrs l m (content.File contents) = refl

  -- the call's reply is that of setting the inode's attributes
  pub set_stat_at : (new : StoreState) (moment : ℕ) (attrs : Attrs) (above y : ℕ) (result : Reply) → (p ≡ [] → ⊥) → located.At above y ≡ way_from old.nodes old.root old.root p
      → ((u : Tree) (it : Node) → Keeps mid u → node_in mid.nodes y ≡ Some it → IsCarriedOut new u (sets moment it.label attrs (object_in it.metadata it.content)) result)
      → IsCarriedOut new t (unless_root p (set_stat moment attrs (found_at t p))) result
  set_stat_at new moment attrs above y result ne e served =
      let w = node_located above y e in
      past_root new t p (set_stat moment attrs (found_at t p)) result ne
      (subst (λ (a : Outcome). IsCarriedOut new t a result) (sym (ap (set_stat moment attrs) w.1.1 ∙ set_content moment attrs w.0.label w.0.metadata w.0.content))
      (served t w.0 mid_keeps w.1.0))

  -- ---- MKDIR
  pub make_wants : (number moment : ℕ) (attrs : Attrs) (d : ℕ) → (p ≡ [] → ⊥) → located.Missing d ≡ way_from old.nodes old.root old.root p
      → is_success (unless_root p (make_directory t number moment p attrs (look_up t p))).reply ≡ true
  make_wants number moment attrs d ne e =
      past_root_wants p (make_directory t number moment p attrs (look_up t p)) ne
      (ap (λ place. is_success (make_directory t number moment p attrs place).reply) (name_missing mid t mid_keeps p d (way_looked old mid p most (located.Missing d) looked e)).0)

  pub make_no_way : (number moment : ℕ) (attrs : Attrs) (l : Located) (code : StatusCode) → (code ≡ NoSuchFile) × (l ≡ located.NoWay) → l ≡ way_from old.nodes old.root old.root p
      → IsCarriedOut mid t (make_directory t number moment p attrs (look_up t p)) (reply.Status code)
  make_no_way number moment attrs l code not e =
      tells_served mid t (make_directory t number moment p attrs (look_up t p)) (reply.Status code)
      (ap (make_directory t number moment p attrs) (no_way mid t mid_keeps p (way_looked old mid p most located.NoWay looked (sym not.1 ∙ e))) ∙ ap refuses (sym not.0)) mid_keeps

  pub make_present : (number moment : ℕ) (attrs : Attrs) (above y : ℕ) → located.At above y ≡ way_from old.nodes old.root old.root p
      → IsCarriedOut mid t (make_directory t number moment p attrs (look_up t p)) (reply.Status Failure)
  make_present number moment attrs above y e =
      tells_served mid t (make_directory t number moment p attrs (look_up t p)) (reply.Status Failure)
      (ap (make_directory t number moment p attrs) (node_at mid t mid_keeps p above y (way_looked old mid p most (located.At above y) looked e)).2.2) mid_keeps

  -- ---- REMOVE
  remove_content : (moment l : ℕ) (m : Metadata) (c : Content) → remove_file t moment p (Some (l, object_in m c)) ≡ cond (is_directory_content c) (refuses Failure) (goes t moment p)
  remove_content moment l m (content.Directory es) = refl
  remove_content moment l m (content.File contents) = refl

  remove_located : (moment above y : ℕ) → located.At above y ≡ way_from old.nodes old.root old.root p → remove_file t moment p (found_at t p) ≡ cond (is_directory_at mid.nodes y) (refuses Failure) (goes t moment p)
  remove_located moment above y e =
      let w = node_located above y e in
      ap (remove_file t moment p) w.1.1 ∙ remove_content moment w.0.label w.0.metadata w.0.content
      ∙ ap (λ (o : Option Node). cond {A = Outcome} (option_map_or (λ (node : Node). is_directory_content node.content) o false) (refuses Failure) (goes t moment p)) (sym w.1.0)

  pub remove_refused : (moment above y : ℕ) → located.At above y ≡ way_from old.nodes old.root old.root p → true ≡ is_directory_at mid.nodes y → IsCarriedOut mid t (remove_file t moment p (found_at t p)) (reply.Status Failure)
  remove_refused moment above y e d =
      tells_served mid t (remove_file t moment p (found_at t p)) (reply.Status Failure) (remove_located moment above y e ∙ ap (λ b. cond {A = Outcome} b (refuses Failure) (goes t moment p)) (sym d)) mid_keeps

  pub remove_served : (new : StoreState) (moment above y : ℕ) → located.At above y ≡ way_from old.nodes old.root old.root p → false ≡ is_directory_at mid.nodes y
      → ((u : Tree) (node : ℕ) → Keeps mid u → way_from mid.nodes mid.root mid.root p ≡ located.At above node → is_bare_at mid.nodes node ≡ true → IsCarriedOut new u (goes u moment p) (reply.Status Success))
      → IsCarriedOut new t (remove_file t moment p (found_at t p)) (reply.Status Success)
  remove_served new moment above y e d served =
      let w = node_located above y e in
      subst (λ (a : Outcome). IsCarriedOut new t a (reply.Status Success)) (sym (remove_located moment above y e ∙ ap (λ b. cond {A = Outcome} b (refuses Failure) (goes t moment p)) (sym d)))
      (served t y mid_keeps (way_looked old mid p most (located.At above y) looked e) (file_bare mid.nodes y w.0 w.1.0 (sym d)))

  -- ---- RMDIR
  remove_directory_content : (moment l : ℕ) (m : Metadata) (c : Content)
      → remove_directory t moment p (Some (l, object_in m c)) ≡ cond (is_directory_content c) (if is_empty t.names p then goes t moment p else refuses Failure) (refuses Failure)
  remove_directory_content moment l m (content.Directory es) = refl
  remove_directory_content moment l m (content.File contents) = refl

  remove_directory_located : (moment above y : ℕ) → located.At above y ≡ way_from old.nodes old.root old.root p
      → remove_directory t moment p (found_at t p) ≡ cond (is_directory_at mid.nodes y) (if is_empty t.names p then goes t moment p else refuses Failure) (refuses Failure)
  remove_directory_located moment above y e =
      let w = node_located above y e in
      ap (remove_directory t moment p) w.1.1 ∙ remove_directory_content moment w.0.label w.0.metadata w.0.content
      ∙ ap (λ (o : Option Node). cond {A = Outcome} (option_map_or (λ (node : Node). is_directory_content node.content) o false) (if is_empty t.names p then goes t moment p else refuses Failure) (refuses Failure)) (sym w.1.0)

  both : (moment : ℕ) (d b : Bool) → cond {A = Outcome} d (if b then goes t moment p else refuses Failure) (refuses Failure) ≡ cond {A = Outcome} (d && b) (goes t moment p) (refuses Failure)
  both moment true b = refl
  both moment false b = refl

  remove_directory_is : (moment above y : ℕ) → located.At above y ≡ way_from old.nodes old.root old.root p
      → remove_directory t moment p (found_at t p) ≡ cond {A = Outcome} (is_directory_at mid.nodes y && is_bare_at mid.nodes y) (goes t moment p) (refuses Failure)
  remove_directory_is moment above y e =
      remove_directory_located moment above y e
      ∙ ap (λ b. cond {A = Outcome} (is_directory_at mid.nodes y) (if b then goes t moment p else refuses Failure) (refuses Failure)) (bare_found mid t mid_keeps p y (walk_located above y e))
      ∙ both moment (is_directory_at mid.nodes y) (is_bare_at mid.nodes y)

  pub remove_directory_refused : (moment above y : ℕ) → located.At above y ≡ way_from old.nodes old.root old.root p → false ≡ (is_directory_at mid.nodes y && is_bare_at mid.nodes y)
      → IsCarriedOut mid t (remove_directory t moment p (found_at t p)) (reply.Status Failure)
  remove_directory_refused moment above y e d =
      tells_served mid t (remove_directory t moment p (found_at t p)) (reply.Status Failure) (remove_directory_is moment above y e ∙ ap (λ b. cond {A = Outcome} b (goes t moment p) (refuses Failure)) (sym d)) mid_keeps

  both_bare : (d b : Bool) → true ≡ (d && b) → b ≡ true
  both_bare true b e = sym e
  both_bare false b e = cc

  pub remove_directory_served : (new : StoreState) (moment above y : ℕ) → located.At above y ≡ way_from old.nodes old.root old.root p → true ≡ (is_directory_at mid.nodes y && is_bare_at mid.nodes y)
      → ((u : Tree) (node : ℕ) → Keeps mid u → way_from mid.nodes mid.root mid.root p ≡ located.At above node → is_bare_at mid.nodes node ≡ true → IsCarriedOut new u (goes u moment p) (reply.Status Success))
      → IsCarriedOut new t (remove_directory t moment p (found_at t p)) (reply.Status Success)
  remove_directory_served new moment above y e d served =
      subst (λ (a : Outcome). IsCarriedOut new t a (reply.Status Success)) (sym (remove_directory_is moment above y e ∙ ap (λ b. cond {A = Outcome} b (goes t moment p) (refuses Failure)) (sym d)))
      (served t y mid_keeps (way_looked old mid p most (located.At above y) looked e) (both_bare (is_directory_at mid.nodes y) (is_bare_at mid.nodes y) d))
