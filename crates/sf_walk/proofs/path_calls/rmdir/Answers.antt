use Rattle.sf_walk.proofs.LookUps.{looked_none}
use Rattle.std.proofs.Common.{◌∙◌, sym, refl}
use Rattle.sf_call.specs.Calls.{remove_directory}
use Rattle.sf_walk.proofs.LastNames.{not_root}
use Rattle.sf_walk.proofs.ReplyOnly.{past_root}
use Rattle.sf_walk.proofs.PathCalls.{nowhere_served, remove_directory_refused, remove_directory_served, stays_gone}
use Rattle.sf_walk.proofs.Holders.{stays_looked}
use Rattle.sf_walk.proofs.path_calls.rmdir.Goals as goal

pub returns-in-Err-clause-served : goal.returns-in-Err-clause-served
returns-in-Err-clause-served c = λ t h.
    past_root _ t c.args.path.now _ _ (not_root c.is_root.result c.args.path.now c.is_root.ensures c.if-is_root.false)
    (nowhere_served _ _ t _ _ (looked_none c.args.store.now) h (remove_directory t c.args.moment c.args.path.now) refl c.args.located _ c.in-Err.ensures.nowhere c.requires)

pub returns-in-Err-clause-holders : goal.returns-in-Err-clause-holders
returns-in-Err-clause-holders c = stays_looked _ _ _ (looked_none c.args.store.now)

pub returns-then-not-is_empty_directory-clause-served : goal.returns-then-not-is_empty_directory-clause-served
returns-then-not-is_empty_directory-clause-served c = λ t h.
    past_root _ t c.args.path.now _ _ (not_root c.is_root.result c.args.path.now c.is_root.ensures c.if-is_root.false)
    (remove_directory_refused _ _ t c.args.path.now _ (looked_none c.args.store.now) h c.args.moment _ _ (sym c.in-Ok.ensures.at ∙ c.requires) c.if-not-is_empty_directory.ensures)

pub returns-then-not-is_empty_directory-clause-holders : goal.returns-then-not-is_empty_directory-clause-holders
returns-then-not-is_empty_directory-clause-holders c = stays_looked _ _ _ (looked_none c.args.store.now)

pub returns-else-not-is_empty_directory-clause-served : goal.returns-else-not-is_empty_directory-clause-served
returns-else-not-is_empty_directory-clause-served c = λ t h.
    past_root _ t c.args.path.now _ _ (not_root c.is_root.result c.args.path.now c.is_root.ensures c.if-is_root.false)
    (remove_directory_served _ _ t c.args.path.now _ (looked_none c.args.store.now) h _ c.args.moment _ _ (sym c.in-Ok.ensures.at ∙ c.requires) c.if-not-is_empty_directory.ensures c.remove_last.ensures.served)

pub returns-else-not-is_empty_directory-clause-holders : goal.returns-else-not-is_empty_directory-clause-holders
returns-else-not-is_empty_directory-clause-holders c = stays_gone c.args.store.now c.args.store.now c.remove_last.new.store _ c.args.moment _ _ (looked_none c.args.store.now) c.remove_last.ensures.state
