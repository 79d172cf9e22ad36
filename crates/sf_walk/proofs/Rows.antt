-- The reply to a listing, and the tree that the store represents after it.
use Rattle.std.specs.Prelude.{◌≡◌, ℕ, ◌-◌, true, false, List, [], ◌∷◌, length, take, map, filter_map, option_map, Option, Some, None, slice_get, refl}
use Rattle.std.specs.List.{last_or}
use Rattle.std.proofs.Common.{sym, ap, subst, ◌∙◌, arith}
use Rattle.sf_path.specs.Names.{Name}
use Rattle.sf_reply.specs.declared.reply.Entry.{Entry}
use Rattle.sf_reply.specs.declared.reply.Reply.TheVariants as reply
use Rattle.sf_reply.specs.declared.reply.StatusCode.TheVariants.{EndOfFile, Failure}
use Rattle.sf_call.specs.declared.handle.Handle.{Handle}
use Rattle.sf_call.specs.declared.metadata.Metadata.{Metadata}
use Rattle.sf_call.specs.declared.limits.TheConstants.{MAX_ENTRIES}
use Rattle.sf_call.specs.Tree.{Tree}
use Rattle.sf_call.specs.Handles.{opened}
use Rattle.sf_call.specs.Listings.{listing_of, path_of, last_name}
use Rattle.sf_call.specs.Changes.Change.{SetHandle}
use Rattle.sf_call.specs.Calls.{Outcome, refuses, lists, read_directory}
use Rattle.sf_inode.specs.declared.node.Content.{Content}
use Rattle.sf_inode.specs.declared.node.Content.TheVariants as content
use Rattle.sf_inode.specs.declared.handle.OpenHandle.{OpenHandle}
use Rattle.sf_inode.specs.Nodes.{object_in, entries_past, is_directory_content}
use Rattle.sf_keeps.specs.Listed.{node_entry}
use Rattle.sf_inode.specs.Stores.{StoreState, node_entries, is_directory_at, shown_handle, handle_listed}
use Rattle.sf_keeps.proofs.Laws.{label_listed, names_listed, keeps_listed}
use Rattle.sf_walk.specs.Served.{IsCarriedOut, is_success}
use Rattle.sf_walk.proofs.ReplyOnly.{tells_served}
use Rattle.sf_walk.proofs.OpenHandles.{IsOpen, directory_is}

-- ---- an inode's entry

-- ---- the last name
last_row : (o : Option Name) (e : Name × ℕ) (es : List (Name × ℕ)) (n : Name) (id : ℕ) → slice_get (e ∷ es) (length es) ≡ Some (n, id) → last_or o (map (λ (r : Name × ℕ). r.0) (e ∷ es)) ≡ Some n
last_row o e [] n id h = ap (option_map (λ (r : Name × ℕ). r.0)) h
last_row o e (x ∷ xs) n id h = last_row (Some e.0) x xs n id h

last_of_rows : (es : List (Name × ℕ)) (n : Name) (id : ℕ) → slice_get es (length es - 1) ≡ Some (n, id) → last_or None (map (λ (r : Name × ℕ). r.0) es) ≡ Some n
last_of_rows [] n id h = cc
last_of_rows (e ∷ es) n id h = last_row None e es n id (ap (slice_get (e ∷ es)) (let k : length es ≡ length (e ∷ es) - 1 = omega arith in k) ∙ h)

lists_last : (number : ℕ) (h : Handle) (entries : List Entry) (n : Name) → last_name entries ≡ Some n
    → lists number h entries ≡ record { reply = reply.Names entries; changes = SetHandle number (record h { listed = Some n }) ∷ [] }
lists_last number h [] n e = cc
lists_last number h (x ∷ xs) n e = λ i. record { reply = reply.Names (x ∷ xs); changes = SetHandle number (record h { listed = e i }) ∷ [] }

last_there : (e : Name × ℕ) (es : List (Name × ℕ)) → slice_get (e ∷ es) (length es) ≡ None → ⊥
last_there e [] h = cc
last_there e (x ∷ xs) h = last_there x xs h

pub no_rows : (es : List (Name × ℕ)) → slice_get es (length es - 1) ≡ None → es ≡ []
no_rows [] h = refl
no_rows (e ∷ es) h = absurd (last_there e es (ap (slice_get (e ∷ es)) (let k : length es ≡ length (e ∷ es) - 1 = omega arith in k) ∙ h))

-- a list that isn't empty has a last row
pub last_is_there : (es : List (Name × ℕ)) → (es ≡ [] → ⊥) → (last : Name) × (id : ℕ) × (slice_get es (length es - 1) ≡ Some (last, id))
last_is_there es some = elim (slice_get es (length es - 1)) as (λ o. slice_get es (length es - 1) ≡ o → (last : Name) × (id : ℕ) × (o ≡ Some (last, id))) [
  | None ↦ λ e. absurd (some (no_rows es e))
  | Some row ↦ λ e. (row.0, row.1, refl)
] refl

pub some_are_taken : (es : List (Name × ℕ)) → (es ≡ [] → ⊥) → take MAX_ENTRIES es ≡ [] → ⊥
some_are_taken [] some e = some refl
some_are_taken (x ∷ es) some e = cc

-- ---- READDIR
list_content : (t : Tree) (number : ℕ) (h : Handle) (m : Metadata) (c : Content) → is_directory_content c ≡ true → read_directory t number (Some (h, object_in m c)) ≡ lists number h (listing_of t h.listed (path_of t.names h.label))
list_content t number h m (content.Directory es) e = refl
list_content t number h m (content.File contents) e = cc

refuse_content : (t : Tree) (number : ℕ) (h : Handle) (m : Metadata) (c : Content) → is_directory_content c ≡ false → read_directory t number (Some (h, object_in m c)) ≡ refuses Failure
refuse_content t number h m (content.Directory es) e = cc
refuse_content t number h m (content.File contents) e = refl

module _ (s : StoreState) (t : Tree) (session number : ℕ) (h : OpenHandle) (o : IsOpen s t session number h) where
  pub list_refused : false ≡ is_directory_at s.nodes h.node → IsCarriedOut s t (read_directory t number (opened t session number)) (reply.Status Failure)
  list_refused d =
      tells_served s t (read_directory t number (opened t session number)) (reply.Status Failure)
      (ap (read_directory t number) o.opens
      ∙ refuse_content t number (shown_handle session h) o.node.metadata o.node.content (sym (d ∙ directory_is s t session number h o))) o.keeps

  module _ (d : true ≡ is_directory_at s.nodes h.node) (rows : List (Name × ℕ)) (are : rows ≡ take MAX_ENTRIES (entries_past h.listed (node_entries s.nodes h.node))) where
    answer_is : read_directory t number (opened t session number) ≡ lists number (shown_handle session h) (filter_map (node_entry s.nodes) rows)
    answer_is =
        ap (read_directory t number) o.opens
        ∙ list_content t number (shown_handle session h) o.node.metadata o.node.content (sym (d ∙ directory_is s t session number h o))
        ∙ ap (λ l. lists number (shown_handle session h) (listing_of t h.listed (path_of t.names l))) (sym o.label)
        ∙ ap (lists number (shown_handle session h)) (label_listed s t o.keeps h.node h.listed o.node o.there (sym (d ∙ directory_is s t session number h o)) ∙ ap (λ (es : List (Name × ℕ)). filter_map (node_entry s.nodes) es) (sym are))

    pub list_ended : rows ≡ [] → IsCarriedOut s t (read_directory t number (opened t session number)) (reply.Status EndOfFile)
    list_ended none =
        tells_served s t (read_directory t number (opened t session number)) (reply.Status EndOfFile)
        (answer_is ∙ ap (λ (es : List (Name × ℕ)). lists number (shown_handle session h) (filter_map (node_entry s.nodes) es)) none) o.keeps

    last_named : (last : Name) (id : ℕ) → slice_get rows (length rows - 1) ≡ Some (last, id) → last_name (filter_map (node_entry s.nodes) rows) ≡ Some last
    last_named last id end =
        ap (λ (es : List (Name × ℕ)). last_name (filter_map (node_entry s.nodes) es)) are ∙ ap (last_or None) (names_listed s t o.keeps h.node h.listed)
        ∙ ap (λ (es : List (Name × ℕ)). last_or None (map (λ (e : Name × ℕ). e.0) es)) (sym are) ∙ last_of_rows rows last id end

    pub list_wants : (last : Name) (id : ℕ) → slice_get rows (length rows - 1) ≡ Some (last, id) → is_success (read_directory t number (opened t session number)).reply ≡ true
    list_wants last id end =
        ap (λ (a : Outcome). is_success a.reply)
        (answer_is ∙ lists_last number (shown_handle session h) (filter_map (node_entry s.nodes) rows) last (last_named last id end))

    pub list_served : (new : StoreState) (last : Name) (id : ℕ) (entries : List Entry) → slice_get rows (length rows - 1) ≡ Some (last, id) → entries ≡ filter_map (node_entry s.nodes) rows
        → new ≡ handle_listed s session number last → IsCarriedOut new t (read_directory t number (opened t session number)) (reply.Names entries)
    list_served new last id entries end listed state =
        let named : last_name entries ≡ Some last = ap last_name listed ∙ last_named last id end in
        subst (λ (x : StoreState). IsCarriedOut x t (read_directory t number (opened t session number)) (reply.Names entries)) (sym state)
        (subst (λ (a : Outcome). IsCarriedOut (handle_listed s session number last) t a (reply.Names entries))
        (sym (answer_is ∙ ap (lists number (shown_handle session h)) (sym listed) ∙ lists_last number (shown_handle session h) entries last named))
        (record { told = refl; tree = keeps_listed s t o.keeps session number h o.at last }))
