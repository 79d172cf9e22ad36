use Rattle.sf_walk.proofs.LookUps.{looked_none}
use Rattle.std.proofs.Common.{◌∙◌, sym, refl}
use Rattle.sf_call.specs.Calls.{remove_file}
use Rattle.sf_walk.proofs.LastNames.{not_root}
use Rattle.sf_walk.proofs.ReplyOnly.{past_root}
use Rattle.sf_walk.proofs.PathCalls.{nowhere_served, remove_refused, remove_served, stays_gone}
use Rattle.sf_walk.proofs.Holders.{stays_looked}
use Rattle.sf_walk.proofs.path_calls.remove.Goals as goal

pub returns-in-Err-clause-served : goal.returns-in-Err-clause-served
returns-in-Err-clause-served c = λ t h.
    past_root _ t c.args.path.now _ _ (not_root c.is_root.result c.args.path.now c.is_root.ensures c.if-is_root.false)
    (nowhere_served _ _ t _ _ (looked_none c.args.store.now) h (remove_file t c.args.moment c.args.path.now) refl c.args.located _ c.in-Err.ensures.nowhere c.requires)

pub returns-in-Err-clause-holders : goal.returns-in-Err-clause-holders
returns-in-Err-clause-holders c = stays_looked _ _ _ (looked_none c.args.store.now)

pub returns-then-is_directory-clause-served : goal.returns-then-is_directory-clause-served
returns-then-is_directory-clause-served c = λ t h.
    past_root _ t c.args.path.now _ _ (not_root c.is_root.result c.args.path.now c.is_root.ensures c.if-is_root.false)
    (remove_refused _ _ t c.args.path.now _ (looked_none c.args.store.now) h c.args.moment _ _ (sym c.in-Ok.ensures.at ∙ c.requires) c.if-is_directory.ensures)

pub returns-then-is_directory-clause-holders : goal.returns-then-is_directory-clause-holders
returns-then-is_directory-clause-holders c = stays_looked _ _ _ (looked_none c.args.store.now)

pub returns-else-is_directory-clause-served : goal.returns-else-is_directory-clause-served
returns-else-is_directory-clause-served c = λ t h.
    past_root _ t c.args.path.now _ _ (not_root c.is_root.result c.args.path.now c.is_root.ensures c.if-is_root.false)
    (remove_served _ _ t c.args.path.now _ (looked_none c.args.store.now) h _ c.args.moment _ _ (sym c.in-Ok.ensures.at ∙ c.requires) c.if-is_directory.ensures c.remove_last.ensures.served)

pub returns-else-is_directory-clause-holders : goal.returns-else-is_directory-clause-holders
returns-else-is_directory-clause-holders c = stays_gone c.args.store.now c.args.store.now c.remove_last.new.store _ c.args.moment _ _ (looked_none c.args.store.now) c.remove_last.ensures.state
