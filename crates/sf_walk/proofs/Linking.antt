-- The outcome of a link, in the store and in the tree that it represents.
use Rattle.std.specs.Prelude.{◌≡◌, ◌<◌, ◌≤◌, ℕ, nat_eq, nat_lt, nat_le, true, false, cond, ◌||◌, [], ◌∷◌, ◌++◌, length, is_some, option_map, option_and_then, Option, Some, None, refl}
use Rattle.std.specs.Option.{option_map_or}
use Rattle.std.proofs.Common.{sym, ap, subst, ◌∙◌, arith, length-append, append-nil, eq-eqb, eqb-true}
use Rattle.std.proofs.lemmas.Bool.{leb-false, lt-ltb, ltb-true, ltb-false}
use Rattle.sf_path.specs.Names.{Name, Path}
use Rattle.sf_path.specs.Order.{parent}
use Rattle.sf_reply.specs.declared.reply.Reply.TheVariants as reply
use Rattle.sf_reply.specs.declared.reply.StatusCode.{StatusCode}
use Rattle.sf_reply.specs.declared.reply.StatusCode.TheVariants.{Success, NoSuchFile, Failure}
use Rattle.sf_call.specs.declared.limits.TheConstants.{MAX_LINKS}
use Rattle.sf_call.specs.declared.metadata.Metadata.{Metadata}
use Rattle.sf_call.specs.declared.lookup.Lookup.{Lookup}
use Rattle.sf_call.specs.declared.lookup.Lookup.TheVariants as lookup
use Rattle.sf_call.specs.Attributes.{Object, modified_at}
use Rattle.sf_call.specs.Tree.{Tree, after_front, links, look_up, found_at}
use Rattle.sf_call.specs.Changes.{changed, done, touched}
use Rattle.sf_call.specs.Changes.Change.{NewName}
use Rattle.sf_call.specs.Calls.{Outcome, refuses, succeeds, link_to, link, unless_root}
use Rattle.sf_call.proofs.Laws.{append-after_front}
use Rattle.sf_inode.specs.declared.node.Node.{Node}
use Rattle.sf_inode.specs.declared.node.Content.{Content}
use Rattle.sf_inode.specs.declared.node.Content.TheVariants as content
use Rattle.sf_inode.specs.Nodes.{object_in, is_directory_content, is_file_content, with_content, with_name, with_metadata, more_content}
use Rattle.sf_inode.specs.Stores.{StoreState, node_in, child_of, link_count_at, is_directory_at, is_file_at, shown_node, shown_of, edited, entry_put, linked}
use Rattle.sf_keeps.specs.Steps.{walk}
use Rattle.sf_keeps.specs.Keeps.{Keeps}
use Rattle.sf_keeps.proofs.Laws.{walk-append, file_in_way, reached_node, place_found, keeps_linked, edited_apart, edited_itself}
use Rattle.sf_walk.specs.declared.finding.Located.TheVariants as located
use Rattle.sf_call.specs.Routes.{are_nested}
use Rattle.sf_walk.specs.Ways.{last_name_of, way_from, found_node}
use Rattle.sf_walk.specs.Served.{IsCarriedOut}
use Rattle.sf_walk.specs.Links.{nested_code, MakesLink}
use Rattle.sf_walk.proofs.Fits.{no_way, name_missing, node_at}
use Rattle.sf_walk.proofs.PathCalls.{found_no_way, found_missing}
use Rattle.sf_walk.proofs.Courses.{AreNoRoots, past_roots}
use Rattle.sf_walk.proofs.LastNames.{last_is}
use Rattle.sf_walk.proofs.Parents.{touches}

file_content : (c : Content) → is_directory_content c ≡ false → is_file_content c ≡ true
file_content (content.Directory es) e = cc
file_content (content.File contents) e = refl

module _ (s : StoreState) (t : Tree) (k : Keeps s t) (moment : ℕ) (old new : Path) (ne : AreNoRoots old new) where
  abbrev whole : Outcome
  whole = unless_root old (unless_root new (link t moment new (found_at t old)))

  told : (found : Option (ℕ × Object)) → found_at t old ≡ found → whole ≡ link t moment new found
  told found e = past_roots s t k moment old new ne (link t moment new (found_at t old)) ∙ ap (link t moment new) e

  pub link_no_way : way_from s.nodes s.root s.root old ≡ located.NoWay → whole ≡ refuses NoSuchFile
  link_no_way e = told None (found_no_way s t old k e)

  pub link_missing : (d : ℕ) → way_from s.nodes s.root s.root old ≡ located.Missing d → whole ≡ refuses NoSuchFile
  link_missing d e = told None (found_missing s t old k d e)

  -- ---- the old path leads to an inode
  module _ (from node : ℕ) (at : way_from s.nodes s.root s.root old ≡ located.At from node) where
    abbrev it : Node
    it = (node_at s t k old from node at).2.0

    here : node_in s.nodes node ≡ Some it
    here = (node_at s t k old from node at).2.1

    content_at : is_directory_content it.content ≡ is_directory_at s.nodes node
    content_at = sym (ap (λ (o : Option Node). option_map_or (λ (x : Node). is_directory_content x.content) o false) here)

    link_content : (l : ℕ) (m : Metadata) (c : Content) → link t moment new (Some (l, object_in m c)) ≡ cond (is_directory_content c) (refuses Failure) (link_to t moment new l (look_up t new))
    link_content l m (content.Directory es) = refl
    link_content l m (content.File contents) = refl

    links_it : whole ≡ cond (is_directory_at s.nodes node) (refuses Failure) (link_to t moment new it.label (look_up t new))
    links_it =
        told (found_node it) (node_at s t k old from node at).2.3 ∙ link_content it.label it.metadata it.content
        ∙ ap (λ b. cond {A = Outcome} b (refuses Failure) (link_to t moment new it.label (look_up t new))) content_at

    pub link_directory : is_directory_at s.nodes node ≡ true → whole ≡ refuses Failure
    link_directory d = links_it ∙ ap (λ b. cond {A = Outcome} b (refuses Failure) (link_to t moment new it.label (look_up t new))) d

    module _ (no : is_directory_at s.nodes node ≡ false) where
      link_is : (place : Lookup) → look_up t new ≡ place → whole ≡ link_to t moment new it.label place
      link_is place e =
          links_it ∙ ap (λ b. cond {A = Outcome} b (refuses Failure) (link_to t moment new it.label (look_up t new))) no ∙ ap (link_to t moment new it.label) e

      file : is_file_at s.nodes node ≡ true
      file = ap (λ (o : Option Node). option_map_or (λ (x : Node). is_file_content x.content) o false) here ∙ file_content it.content (content_at ∙ no)

      -- ---- one path is a prefix of the other
      below : (rest : Path) → new ≡ old ++ rest → length old < length new → look_up t new ≡ lookup.NoWay
      below [] e less = let lengths = ap (λ (p : Path). length p) e in absurd (omega (arith, less, lengths, length-append old []))
      below (name ∷ rest) e less = ap (look_up t) e ∙ file_in_way s t k old node name rest (node_at s t k old from node at).0 file

      above : (rest : Path) → old ≡ new ++ rest → (label : ℕ) × (look_up t new ≡ lookup.At label)
      above rest e = by_walk (walk (child_of s.nodes) s.root new) refl where
        whole_way : option_and_then (λ y. walk (child_of s.nodes) y rest) (walk (child_of s.nodes) s.root new) ≡ Some node
        whole_way = sym (walk-append (child_of s.nodes) s.root new rest) ∙ ap (walk (child_of s.nodes) s.root) (sym e) ∙ (node_at s t k old from node at).0

        by_walk : (o : Option ℕ) → walk (child_of s.nodes) s.root new ≡ o → (label : ℕ) × (look_up t new ≡ lookup.At label)
        by_walk None f = let none : None ≡ Some node = sym (ap (option_and_then (λ y. walk (child_of s.nodes) y rest)) f) ∙ whole_way in cc
        by_walk (Some y) f = let w = reached_node s t k new y f in (w.0.label, place_found s t k new y w.0 f w.1)

      shorter : length old < length new → nested_code old new ≡ NoSuchFile
      shorter less = ap (λ b. cond {A = StatusCode} b NoSuchFile Failure) (lt-ltb (length old) (length new) less)

      longer : nat_lt (length old) (length new) ≡ false → nested_code old new ≡ Failure
      longer e = ap (λ b. cond {A = StatusCode} b NoSuchFile Failure) e

      nested_way : (a b : Option Path) → after_front old new ≡ a → after_front new old ≡ b → (is_some a || is_some b) ≡ true → whole ≡ refuses (nested_code old new)
      nested_way None None e f g = cc
      nested_way (Some rest) b e f g =
          let is = append-after_front old new rest e in
          elim (nat_lt (length old) (length new)) as (λ x. nat_lt (length old) (length new) ≡ x → whole ≡ refuses (nested_code old new)) [
            | true ↦ λ x. link_is lookup.NoWay (below rest is (ltb-true (length old) (length new) x)) ∙ sym (ap refuses (shorter (ltb-true (length old) (length new) x)))
            | false ↦ λ x.
                let same : old ≡ new ++ [] = no_rest rest is (ltb-false (length old) (length new) x) in
                let w = above [] same in link_is (lookup.At w.0) w.1 ∙ sym (ap refuses (longer x))
          ] refl where
            no_rest : (rest : Path) → new ≡ old ++ rest → length new ≤ length old → old ≡ new ++ []
            no_rest [] is most = sym (append-nil old) ∙ sym is ∙ sym (append-nil new)
            no_rest (name ∷ rest) is most = let lengths = ap (λ (p : Path). length p) is in absurd (omega (arith, most, lengths, length-append old (name ∷ rest)))
      nested_way None (Some rest) e f g =
          let is = append-after_front new old rest f in
          let w = above rest is in
          let lengths = ap (λ (p : Path). length p) is in
          link_is (lookup.At w.0) w.1 ∙ sym (ap refuses (longer (not_less (length old) (length new) (omega (arith, lengths, length-append new rest))))) where
            not_less : (a b : ℕ) → b ≤ a → nat_lt a b ≡ false
            not_less a b most = elim (nat_lt a b) as (λ x. nat_lt a b ≡ x → x ≡ false) [
              | true ↦ λ x. absurd (omega (arith, most, ltb-true a b x))
              | false ↦ λ x. refl
            ] refl

      pub link_nested : are_nested old new ≡ true → whole ≡ refuses (nested_code old new)
      link_nested nested = nested_way (after_front old new) (after_front new old) refl refl nested

      -- ---- new
      pub link_new_no_way : way_from s.nodes s.root s.root new ≡ located.NoWay → whole ≡ refuses NoSuchFile
      link_new_no_way e = link_is lookup.NoWay (no_way s t k new e)

      pub link_taken : (d y : ℕ) → way_from s.nodes s.root s.root new ≡ located.At d y → whole ≡ refuses Failure
      link_taken d y e = link_is (lookup.At (node_at s t k new d y e).2.0.label) (node_at s t k new d y e).2.2

      counted : link_count_at s.nodes node ≡ links t.names it.label
      counted = ap (λ (o : Option Node). option_map_or (λ (x : Node). x.names) o 0) here ∙ k.linked node it here

      module _ (into : ℕ) (e : way_from s.nodes s.root s.root new ≡ located.Missing into) where
        free : whole ≡ cond (nat_le MAX_LINKS (link_count_at s.nodes node)) (refuses Failure) (succeeds (NewName new it.label ∷ touched t moment (parent new)))
        free =
            link_is lookup.Absent (name_missing s t k new into e).0
            ∙ ap (λ n. cond {A = Outcome} (nat_le MAX_LINKS n) (refuses Failure) (succeeds (NewName new it.label ∷ touched t moment (parent new)))) (sym counted)

        pub link_full : nat_le MAX_LINKS (link_count_at s.nodes node) ≡ true → whole ≡ refuses Failure
        link_full full = free ∙ ap (λ b. cond {A = Outcome} b (refuses Failure) (succeeds (NewName new it.label ∷ touched t moment (parent new)))) full

        pub link_made : nat_le MAX_LINKS (link_count_at s.nodes node) ≡ false → MakesLink s t moment new whole node into
        link_made few =
            let f = (name_missing s t k new into e).1 in
            record {
              may = record {
                it = it;
                is_node = here;
                file = file;
                fewer = subst (λ n. n < 1024) (ap (λ (o : Option Node). option_map_or (λ (x : Node). x.names) o 0) here) (leb-false MAX_LINKS (link_count_at s.nodes node) few);
                beside = f.0;
                last = f.1;
                is_new = f.2;
                leads = f.3;
                directory = f.5;
                free = f.4;
              };
              is = free ∙ ap (λ b. cond {A = Outcome} b (refuses Failure) (succeeds (NewName new it.label ∷ touched t moment (parent new)))) few;
            }

-- a directory's object shows neither its entries nor its count of names
shown_content : (n : Name) (id l : ℕ) (m : Metadata) (c : Content) → ◌≡◌ {A = ℕ × Object} (l, object_in m (more_content n id c)) (l, object_in m c)
shown_content n id l m (content.Directory es) = refl
shown_content n id l m (content.File contents) = refl

shown_edited : (f : Node → Node) (s : StoreState) (id : ℕ) → ((node : Node) → shown_node (f node) ≡ shown_node node) → (i : ℕ) → shown_of (edited f s id).nodes i ≡ shown_of s.nodes i
shown_edited f s id same i =
    elim (nat_eq i id) as (λ b. nat_eq i id ≡ b → shown_of (edited f s id).nodes i ≡ shown_of s.nodes i) [
      | true ↦ λ e.
          let is = eqb-true i id e in
          ap (λ (x : ℕ). shown_of (edited f s id).nodes x) is ∙ ap (option_map shown_node) (edited_itself f s id)
          ∙ elim (node_in s.nodes id) as (λ o. option_map shown_node (option_map f o) ≡ option_map shown_node o) [ None ↦ refl | Some node ↦ ap Some (same node) ]
          ∙ sym (ap (shown_of s.nodes) is)
      | false ↦ λ e. ap (option_map shown_node) (edited_apart f s id i (λ same. let tied = eq-eqb i id same in cc))
    ] refl

shown_linked : (s : StoreState) (into : ℕ) (n : Name) (node : ℕ) → shown_of (linked s into n node).nodes into ≡ shown_of s.nodes into
shown_linked s into n node =
    shown_edited with_name (entry_put s into n node) node (λ x. refl) into
    ∙ shown_edited (with_content (more_content n node)) s into (λ x. shown_content n node x.label x.metadata x.content) into

-- ---- the link is made
-- a file gets a further name, and the modification time of its directory is set
pub record NamesFile (s after : StoreState) (t : Tree) (moment : ℕ) (answer : Outcome) : Type 0 where
  pub new : Path
  pub node : ℕ
  pub into : ℕ
  pub made : MakesLink s t moment new answer node into
  pub state : after ≡ edited (with_metadata (modified_at moment)) (linked s into (last_name_of new) node) into

pub names_served : (s after : StoreState) (t : Tree) (k : Keeps s t) (moment : ℕ) (answer : Outcome) → NamesFile s after t moment answer → IsCarriedOut after t answer (reply.Status Success)
names_served s after t k moment answer names_it =
    let new = names_it.new in
    let node = names_it.node in
    let into = names_it.into in
    let made = names_it.made in
    let state = names_it.state in
    let m = made.may in
    let q : Path = m.beside ++ m.last ∷ [] in
    let mid = linked s into m.last node in
    let file : is_file_content m.it.content ≡ true = sym (ap (λ (o : Option Node). option_map_or (λ (x : Node). is_file_content x.content) o false) m.is_node) ∙ m.file in
    let kept : Keeps mid (changed t (NewName q m.it.label)) = keeps_linked s t k m.beside into m.last node m.it m.leads m.directory m.free m.is_node file m.fewer in
    let touched_in : Keeps (edited (with_metadata (modified_at moment)) mid into) (done (changed t (NewName q m.it.label)) (touched t moment (parent q))) =
    touches s mid t (changed t (NewName q m.it.label)) (record { above = m.beside; name = m.last; node = into; leads = m.leads; directory = m.directory }) moment k kept (shown_linked s into m.last node) in
    let names : linked s into (last_name_of new) node ≡ mid = ap (λ (n : Name). linked s into n node) (ap last_name_of m.is_new ∙ last_is m.beside m.last) in
    subst (λ (a : Outcome). IsCarriedOut after t a (reply.Status Success)) (sym made.is)
    (record {
      told = refl;
      tree = subst (λ (x : StoreState). Keeps x (done t (NewName new m.it.label ∷ touched t moment (parent new)))) (sym (state ∙ ap (λ (x : StoreState). edited (with_metadata (modified_at moment)) x into) names))
          (subst (λ (p : Path). Keeps (edited (with_metadata (modified_at moment)) mid into) (done t (NewName p m.it.label ∷ touched t moment (parent p)))) (sym m.is_new) touched_in);
    })
