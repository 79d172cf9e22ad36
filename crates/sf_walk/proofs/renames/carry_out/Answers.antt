use Rattle.std.proofs.Common.{refl, sym, ap, subst, ◌∙◌}
use Rattle.sf_reply.specs.declared.reply.Reply.TheVariants as reply
use Rattle.sf_reply.specs.declared.reply.StatusCode.TheVariants.{Success}
use Rattle.sf_call.specs.Attributes.{modified_at}
use Rattle.sf_call.specs.Calls.{Outcome}
use Rattle.sf_inode.specs.Nodes.{with_metadata}
use Rattle.sf_inode.specs.Stores.{StoreState, edited}
use Rattle.sf_walk.specs.declared.renames.Course.{Course}
use Rattle.sf_walk.specs.Ways.{last_name_of}
use Rattle.sf_walk.specs.Served.{IsCarriedOut, HoldersStay}
use Rattle.sf_walk.specs.Renames.{IsCourse, renaming}
use Rattle.sf_walk.proofs.Holders.{stays_same, stays_edited, stays_relinked}
use Rattle.sf_walk.proofs.MovedEntries.{moves_served}
use Rattle.sf_walk.proofs.renames.carry_out.Goals as goal

pub returns-in_ok-relink_last-in-Moves-clause-served : goal.returns-in_ok-relink_last-in-Moves-clause-served
returns-in_ok-relink_last-in-Moves-clause-served c = λ t answer k is.
    let may = subst (λ (x : Course). IsCourse c.args.store.now t (renaming c.args.old.now c.args.new.now c.args.moment) answer x) c.in-Moves.is is in
    subst (λ (a : Outcome). IsCarriedOut c.touch-in-Moves.new.self t a (reply.Status Success)) (sym may.0)
    (moves_served c.args.store.now t k c.args.moment c.args.old.now c.args.new.now c.in-Moves.from c.in-Moves.into may.1 c.touch-in-Moves.new.self
    (c.touch-in-Moves.ensures ∙ ap (λ (x : StoreState). edited (with_metadata (modified_at c.args.moment)) x c.in-Moves.into)
    (c.touch.ensures ∙ ap (λ (x : StoreState). edited (with_metadata (modified_at c.args.moment)) x c.in-Moves.from) c.in_ok-relink_last-in-Moves.ensures.ok)))

pub returns-in_ok-relink_last-in-Moves-clause-holders : goal.returns-in_ok-relink_last-in-Moves-clause-holders
returns-in_ok-relink_last-in-Moves-clause-holders c =
    subst (λ (x : StoreState). HoldersStay c.args.store.now x)
    (sym (c.touch-in-Moves.ensures ∙ ap (λ (x : StoreState). edited (with_metadata (modified_at c.args.moment)) x c.in-Moves.into)
    (c.touch.ensures ∙ ap (λ (x : StoreState). edited (with_metadata (modified_at c.args.moment)) x c.in-Moves.from) c.in_ok-relink_last-in-Moves.ensures.ok)))
    (stays_edited (with_metadata (modified_at c.args.moment)) (λ node. (refl, refl, refl)) c.args.store.now _ c.in-Moves.into
    (stays_edited (with_metadata (modified_at c.args.moment)) (λ node. (refl, refl, refl)) c.args.store.now _ c.in-Moves.from
    (stays_relinked c.args.store.now c.args.store.now c.in-Moves.from (last_name_of c.args.old.now) c.in-Moves.into (last_name_of c.args.new.now) (stays_same c.args.store.now c.args.store.now refl))))
