use Rattle.std.specs.Prelude.{ℕ, ◌-◌, List, length, filter_map, slice_get}
use Rattle.std.proofs.Common.{◌≡◌, true, false, [], refl, ap, sym, ◌∙◌, take, Option}
use Rattle.sf_keeps.specs.Listed.{node_entry}
use Rattle.sf_path.specs.Names.{Name}
use Rattle.sf_call.specs.declared.limits.TheConstants.{MAX_ENTRIES}
use Rattle.sf_inode.specs.Nodes.{entries_past}
use Rattle.sf_inode.specs.Stores.{node_entries}
use Rattle.sf_walk.proofs.OpenHandles.{is_open}
use Rattle.sf_walk.proofs.ReplyOnly.{on_err_any}
use Rattle.sf_walk.proofs.Rows.{list_refused, list_ended, list_wants, list_served, no_rows, last_is_there, some_are_taken}
use Rattle.sf_walk.proofs.listing.read_directory.Goals as goal

abbrev last_of_list : List (Name × ℕ) → Option (Name × ℕ)
last_of_list es = slice_get es (length es - 1)

pub returns-then-not-is_directory-clause-served : goal.returns-then-not-is_directory-clause-served
returns-then-not-is_directory-clause-served c = λ t h. list_refused c.args.store.now t c.args.session c.args.number c.in-Some.handle.now
    (is_open c.args.store.now t c.args.session c.args.number c.in-Some.handle.now h c.in-Some.ensures) c.if-not-is_directory.ensures

pub returns-in_default-last-clause-served : goal.returns-in_default-last-clause-served
returns-in_default-last-clause-served c = λ t h.
    list_ended c.args.store.now t c.args.session c.args.number c.in-Some.handle.now
    (is_open c.args.store.now t c.args.session c.args.number c.in-Some.handle.now h c.in-Some.ensures)
    c.if-not-is_directory.ensures c.in_ok-found.found.items
    (c.in_ok-found.ensures.ok ∙ ap (λ (last : Option Name). take MAX_ENTRIES (entries_past last (node_entries c.args.store.now.nodes c.in-Some.handle.now.node))) c.as_ref.ensures.value)
    (no_rows c.in_ok-found.found.items (ap last_of_list (sym c.deref.ensures.value) ∙ sym c.in_default-last.ensures.value))

pub returns-clause-served : goal.returns-clause-served
returns-clause-served c = λ t h.
    list_served c.args.store.now t c.args.session c.args.number c.in-Some.handle.now
    (is_open c.args.store.now t c.args.session c.args.number c.in-Some.handle.now h c.in-Some.ensures)
    c.if-not-is_directory.ensures c.in_ok-found.found.items
    (c.in_ok-found.ensures.ok ∙ ap (λ (last : Option Name). take MAX_ENTRIES (entries_past last (node_entries c.args.store.now.nodes c.in-Some.handle.now.node))) c.as_ref.ensures.value)
    c.listed.new.self c.in-Some-last.field-0.now.0 c.in-Some-last.field-0.now.1 c.in_ok-entries_of.field-0
    (ap last_of_list (sym c.deref.ensures.value) ∙ sym c.in-Some-last.ensures.value) (c.in_ok-entries_of.ensures ∙ ap (filter_map (node_entry c.args.store.now.nodes)) c.deref-2.ensures.value) c.in_ok-listed.ensures.ok

pub returns-in_err-entries_of-clause-wants : goal.returns-in_err-entries_of-clause-wants
returns-in_err-entries_of-clause-wants c = λ t h. on_err_any c.from_residual-in_err-entries_of.result _
    (list_wants c.args.store.now t c.args.session c.args.number c.in-Some.handle.now
    (is_open c.args.store.now t c.args.session c.args.number c.in-Some.handle.now h c.in-Some.ensures)
    c.if-not-is_directory.ensures c.in_ok-found.found.items
    (c.in_ok-found.ensures.ok ∙ ap (λ (last : Option Name). take MAX_ENTRIES (entries_past last (node_entries c.args.store.now.nodes c.in-Some.handle.now.node))) c.as_ref.ensures.value)
    c.in-Some-last.field-0.now.0 c.in-Some-last.field-0.now.1 (ap last_of_list (sym c.deref.ensures.value) ∙ sym c.in-Some-last.ensures.value))

pub returns-in_err-copy-clause-wants : goal.returns-in_err-copy-clause-wants
returns-in_err-copy-clause-wants c = λ t h. on_err_any c.from_residual-in_err-copy.result _
    (list_wants c.args.store.now t c.args.session c.args.number c.in-Some.handle.now
    (is_open c.args.store.now t c.args.session c.args.number c.in-Some.handle.now h c.in-Some.ensures)
    c.if-not-is_directory.ensures c.in_ok-found.found.items
    (c.in_ok-found.ensures.ok ∙ ap (λ (last : Option Name). take MAX_ENTRIES (entries_past last (node_entries c.args.store.now.nodes c.in-Some.handle.now.node))) c.as_ref.ensures.value)
    c.in-Some-last.field-0.now.0 c.in-Some-last.field-0.now.1 (ap last_of_list (sym c.deref.ensures.value) ∙ sym c.in-Some-last.ensures.value))

pub returns-in_err-listed-clause-wants : goal.returns-in_err-listed-clause-wants
returns-in_err-listed-clause-wants c = λ t h. on_err_any c.from_residual-in_err-listed.result _
    (list_wants c.args.store.now t c.args.session c.args.number c.in-Some.handle.now
    (is_open c.args.store.now t c.args.session c.args.number c.in-Some.handle.now h c.in-Some.ensures)
    c.if-not-is_directory.ensures c.in_ok-found.found.items
    (c.in_ok-found.ensures.ok ∙ ap (λ (last : Option Name). take MAX_ENTRIES (entries_past last (node_entries c.args.store.now.nodes c.in-Some.handle.now.node))) c.as_ref.ensures.value)
    c.in-Some-last.field-0.now.0 c.in-Some-last.field-0.now.1 (ap last_of_list (sym c.deref.ensures.value) ∙ sym c.in-Some-last.ensures.value))

pub returns-in_err-found-clause-wants : goal.returns-in_err-found-clause-wants
returns-in_err-found-clause-wants c = λ t h.
    let left = entries_past c.in-Some.handle.now.listed (node_entries c.args.store.now.nodes c.in-Some.handle.now.node) in
    let some : left ≡ [] → ⊥ = λ none. let w : false ≡ true = c.in_err-found.ensures.none_left (ap (λ (last : Option Name). entries_past last (node_entries c.args.store.now.nodes c.in-Some.handle.now.node)) c.as_ref.ensures.value ∙ none) in cc in
    let end = last_is_there (take MAX_ENTRIES left) (some_are_taken left some) in
    on_err_any c.from_residual.result _
    (list_wants c.args.store.now t c.args.session c.args.number c.in-Some.handle.now
    (is_open c.args.store.now t c.args.session c.args.number c.in-Some.handle.now h c.in-Some.ensures)
    c.if-not-is_directory.ensures (take MAX_ENTRIES left) refl end.0 end.1 end.2)
