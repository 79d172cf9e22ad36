use Rattle.sf_walk.specs.LastEntries.{IsLastEntry}
use Rattle.sf_walk.proofs.LookUps.{looked_none}
use Rattle.std.proofs.Common.{◌∙◌, refl, sym, ap, subst}
use Rattle.sf_call.specs.declared.metadata.FileType.TheVariants as file_type
use Rattle.sf_call.specs.Attributes.{modified_at}
use Rattle.sf_call.specs.Attributes.Object.{Directory}
use Rattle.sf_inode.specs.Nodes.{with_metadata, new_node}
use Rattle.sf_inode.specs.Stores.{StoreState, new_entry}
use Rattle.sf_walk.specs.Served.{NodesStay}
use Rattle.sf_walk.specs.Ways.{last_name_of}
use Rattle.sf_walk.proofs.LookUps.{looked_nodes}
use Rattle.sf_walk.proofs.LastNames.{not_root}
use Rattle.sf_walk.proofs.ReplyOnly.{past_root, gives_none}
use Rattle.sf_walk.proofs.Parents.{make_served}
use Rattle.sf_walk.proofs.PathCalls.{make_wants, make_no_way, make_present}
use Rattle.sf_walk.proofs.Holders.{stays_edited, stays_inserted}
use Rattle.sf_walk.proofs.path_calls.mkdir.Goals as goal

pub returns-in_err-insert_last-in-Ok-Missing-clause-served : goal.returns-in_err-insert_last-in-Ok-Missing-clause-served
returns-in_err-insert_last-in-Ok-Missing-clause-served c = λ t h fresh. gives_none _ _ _ c.from_residual.result c.from_residual.ensures.0
    (make_wants _ _ t c.args.path.now _ (looked_none c.args.store.now) h c.args.number c.args.moment c.args.attrs.now c.in-Ok-Missing.parent
    (not_root c.is_root.result c.args.path.now c.is_root.ensures c.if-is_root.false) (sym (subst (IsLastEntry c.args.located) c.in-Ok-Missing.field-0-is c.in-Ok-Missing.ensures.on_way) ∙ c.requires))

pub returns-in-Err-clause-served : goal.returns-in-Err-clause-served
returns-in-Err-clause-served c = λ t h fresh.
    past_root _ t c.args.path.now _ _ (not_root c.is_root.result c.args.path.now c.is_root.ensures c.if-is_root.false)
    (make_no_way _ _ t c.args.path.now _ (looked_none c.args.store.now) h c.args.number c.args.moment c.args.attrs.now c.args.located _ c.in-Err.ensures.nowhere c.requires)

pub returns-in-Ok-Taken-clause-served : goal.returns-in-Ok-Taken-clause-served
returns-in-Ok-Taken-clause-served c = λ t h fresh.
    past_root _ t c.args.path.now _ _ (not_root c.is_root.result c.args.path.now c.is_root.ensures c.if-is_root.false)
    (make_present _ _ t c.args.path.now _ (looked_none c.args.store.now) h c.args.number c.args.moment c.args.attrs.now _ _ (sym (subst (IsLastEntry c.args.located) c.in-Ok-Taken.field-0-is c.in-Ok-Taken.ensures.on_way).1 ∙ c.requires))

pub returns-in_ok-insert_last-in-Ok-Missing-clause-served : goal.returns-in_ok-insert_last-in-Ok-Missing-clause-served
returns-in_ok-insert_last-in-Ok-Missing-clause-served c = λ t h fresh.
    past_root _ t c.args.path.now _ _ (not_root c.is_root.result c.args.path.now c.is_root.ensures c.if-is_root.false)
    (make_served c.args.store.now c.touch.new.self t c.args.path.now c.args.number h fresh.label (record {
      mid = c.args.store.now;
      made = c.insert_last.new.store;
      most = 0;
      moment = c.args.moment;
      attrs = c.args.attrs.now;
      dir = c.in-Ok-Missing.parent;
      id = c.in_ok-insert_last-in-Ok-Missing.field-0;
      it = record { label = c.args.number; file_type = file_type.Directory; metadata = c.new_object.result };
      looked = looked_none c.args.store.now;
      missing = sym (subst (IsLastEntry c.args.located) c.in-Ok-Missing.field-0-is c.in-Ok-Missing.ensures.on_way) ∙ c.requires;
      inserted = c.in_ok-insert_last-in-Ok-Missing.ensures.ok;
      label = refl;
      object = ap Directory c.new_object.ensures;
      state = c.touch.ensures;
    }))

pub returns-in_ok-insert_last-in-Ok-Missing-clause-holders : goal.returns-in_ok-insert_last-in-Ok-Missing-clause-holders
returns-in_ok-insert_last-in-Ok-Missing-clause-holders c =
    subst (λ (x : StoreState). NodesStay c.args.number c.args.store.now x) (sym c.touch.ensures)
    (stays_edited (with_metadata (modified_at c.args.moment)) (λ node. (refl, refl, refl)) c.args.store.now c.insert_last.new.store c.in-Ok-Missing.parent
    (stays_inserted c.args.store.now c.args.store.now c.insert_last.new.store (new_entry c.in-Ok-Missing.parent (last_name_of c.args.path.now) c.in_ok-insert_last-in-Ok-Missing.field-0)
    (new_node (record { label = c.args.number; file_type = file_type.Directory; metadata = c.new_object.result })) (looked_nodes _ _ _ (looked_none c.args.store.now)) c.in_ok-insert_last-in-Ok-Missing.ensures.ok (refl, refl) refl))
