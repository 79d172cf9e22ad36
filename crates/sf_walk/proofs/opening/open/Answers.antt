use Rattle.sf_walk.specs.LastEntries.{IsLastEntry}
use Rattle.sf_walk.proofs.LookUps.{looked_none}
use Rattle.std.proofs.Common.{◌∙◌, sym, ◌≡◌, false, ap, subst, ◌&&◌}
use Rattle.sf_walk.proofs.Holders.{stays_none_new}
use Rattle.sf_walk.proofs.LastNames.{not_root}
use Rattle.sf_walk.proofs.Looked.{keeps_counted, stays_after}
use Rattle.sf_walk.proofs.Opened.{open_no_way, open_missing, open_exclusive, open_located, missing_directory, missing_entry}
use Rattle.sf_walk.proofs.opening.open.Goals.{else-flags-via-then-flags+else-flags-2, else-flags-via-else-flags}
use Rattle.sf_walk.proofs.opening.open.Goals as goal

pub open_absent-requires-clause-directory : goal.open_absent-requires-clause-directory
open_absent-requires-clause-directory c = missing_directory c.args.store.now c.args.store.now c.args.path.now _ c.in-Ok-Missing.parent (looked_none c.args.store.now) (sym (subst (IsLastEntry c.args.located) c.in-Ok-Missing.field-0-is c.in-Ok-Missing.ensures.on_way) ∙ c.requires.way)

pub open_absent-requires-clause-missing : goal.open_absent-requires-clause-missing
open_absent-requires-clause-missing c = missing_entry c.args.store.now c.args.store.now c.args.path.now _ c.in-Ok-Missing.parent (looked_none c.args.store.now) (sym (subst (IsLastEntry c.args.located) c.in-Ok-Missing.field-0-is c.in-Ok-Missing.ensures.on_way) ∙ c.requires.way)

pub returns-then-flags-2-clause-served : goal.returns-then-flags-2-clause-served
returns-then-flags-2-clause-served c = λ t k fresh.
    open_exclusive c.args.store.now c.args.store.now t c.args.path.now _ (looked_none c.args.store.now) k c.args.session c.args.number c.args.moment c.args.flags c.args.attrs.now
    _ _ (not_root c.is_root.result c.args.path.now c.is_root.ensures c.if-is_root.false) (sym (subst (IsLastEntry c.args.located) c.in-Ok-Taken.field-0-is c.in-Ok-Taken.ensures.on_way).1 ∙ c.requires.way) (λ i. c.if-flags.true i && c.if-flags-2.true i)

pub returns-in-Err-clause-served : goal.returns-in-Err-clause-served
returns-in-Err-clause-served c = λ t k fresh.
    open_no_way c.args.store.now c.args.store.now t c.args.path.now _ (looked_none c.args.store.now) k c.args.session c.args.number c.args.moment c.args.flags c.args.attrs.now
    c.args.located _ (not_root c.is_root.result c.args.path.now c.is_root.ensures c.if-is_root.false) c.in-Err.ensures.nowhere c.requires.way

pub returns-in-Ok-Missing-clause-served : goal.returns-in-Ok-Missing-clause-served
returns-in-Ok-Missing-clause-served c = λ t k fresh.
    open_missing c.args.store.now c.args.store.now t c.args.path.now _ (looked_none c.args.store.now) k c.args.session c.args.number c.args.moment c.args.flags c.args.attrs.now
    c.open_absent.new.store c.in-Ok-Missing.parent c.open_absent.result (not_root c.is_root.result c.args.path.now c.is_root.ensures c.if-is_root.false) (sym (subst (IsLastEntry c.args.located) c.in-Ok-Missing.field-0-is c.in-Ok-Missing.ensures.on_way) ∙ c.requires.way)
    (λ front. c.open_absent.ensures.served t front (keeps_counted c.args.store.now c.args.store.now t _ (looked_none c.args.store.now) k) fresh)

pub returns-else-flags-clause-served : goal.returns-else-flags-clause-served
returns-else-flags-clause-served c = λ t k fresh.
    let not_both : (c.args.flags.create && c.args.flags.exclusive) ≡ false = elim c.else-flags.branch [
      | else-flags-via-then-flags+else-flags-2 w ↦ λ i. w.if-flags.true i && w.if-flags-2.false i
      | else-flags-via-else-flags w ↦ ap (λ b. b && c.args.flags.exclusive) w.if-flags.false
    ] in
    open_located c.args.store.now c.args.store.now t c.args.path.now _ (looked_none c.args.store.now) k c.args.session c.args.number c.args.moment c.args.flags c.args.attrs.now
    c.open_present.new.store _ _ c.open_present.result (not_root c.is_root.result c.args.path.now c.is_root.ensures c.if-is_root.false) (sym (subst (IsLastEntry c.args.located) c.in-Ok-Taken.field-0-is c.in-Ok-Taken.ensures.on_way).1 ∙ c.requires.way) not_both
    (λ it. c.open_present.ensures.served t it (keeps_counted c.args.store.now c.args.store.now t _ (looked_none c.args.store.now) k) fresh)

pub returns-else-flags-clause-holders : goal.returns-else-flags-clause-holders
returns-else-flags-clause-holders c = stays_after c.args.store.now c.args.store.now c.open_present.new.store _ (looked_none c.args.store.now) (stays_none_new _ _ c.open_present.ensures.holders)
