use Rattle.std.proofs.Common.{sym, ◌∙◌}
use Rattle.std.specs.Prelude.{is_some}
use Rattle.sf_walk.proofs.OpenHandles.{is_open}
use Rattle.sf_walk.proofs.SetOpened.{set_root, set_directory, set_unmarked, set_file, may_write, no_size_set}
use Rattle.sf_walk.proofs.handle_calls.set_stat_handle.Goals as goal
use Rattle.sf_walk.proofs.handle_calls.set_stat_handle.Goals.{else-is_some-via-then-is_some+else-not-handle, else-is_some-via-else-is_some}

pub returns-then-handle-eq0-clause-served : goal.returns-then-handle-eq0-clause-served
returns-then-handle-eq0-clause-served c = λ t h.
    set_root c.args.store.now t c.args.session c.args.number c.in-Some.handle.now
    (is_open c.args.store.now t c.args.session c.args.number c.in-Some.handle.now h c.in-Some.ensures)
    c.args.moment c.args.attrs.now c.if-is_directory.ensures c.if-handle-eq0.true

pub returns-then-is_directory-clause-served : goal.returns-then-is_directory-clause-served
returns-then-is_directory-clause-served c = λ t h.
    set_directory c.args.store.now t c.args.session c.args.number c.in-Some.handle.now
    (is_open c.args.store.now t c.args.session c.args.number c.in-Some.handle.now h c.in-Some.ensures)
    c.set_node.new.store c.args.moment c.args.attrs.now c.set_node.result c.set_node.ensures.served c.if-is_directory.ensures c.if-handle-eq0.false

pub returns-then-not-handle-clause-served : goal.returns-then-not-handle-clause-served
returns-then-not-handle-clause-served c = λ t h.
    set_unmarked c.args.store.now t c.args.session c.args.number c.in-Some.handle.now
    (is_open c.args.store.now t c.args.session c.args.number c.in-Some.handle.now h c.in-Some.ensures)
    c.args.moment c.args.attrs.now c.if-is_directory.ensures (sym c.if-is_some.ensures) c.if-not-handle.true

pub returns-clause-served : goal.returns-clause-served
returns-clause-served c = λ t h.
    set_file c.args.store.now t c.args.session c.args.number c.in-Some.handle.now
    (is_open c.args.store.now t c.args.session c.args.number c.in-Some.handle.now h c.in-Some.ensures)
    c.set_node-2.new.store c.args.moment c.args.attrs.now c.set_node-2.result c.set_node-2.ensures.served c.if-is_directory.ensures
    (elim c.else-is_some.branch [
      | else-is_some-via-then-is_some+else-not-handle w ↦ may_write (is_some c.args.attrs.now.size) c.in-Some.handle.now.marks.write w.if-not-handle.false
      | else-is_some-via-else-is_some w ↦ no_size_set (is_some c.args.attrs.now.size) c.in-Some.handle.now.marks.write (sym c.is_some.ensures ∙ w.if-is_some.false)
    ])
