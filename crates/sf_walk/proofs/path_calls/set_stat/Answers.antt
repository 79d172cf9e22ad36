use Rattle.sf_walk.proofs.LookUps.{looked_none}
use Rattle.std.proofs.Common.{◌∙◌, sym, refl}
use Rattle.sf_call.specs.Calls.{set_stat}
use Rattle.sf_walk.proofs.Looked.{stays_after}
use Rattle.sf_walk.proofs.LastNames.{not_root}
use Rattle.sf_walk.proofs.ReplyOnly.{past_root}
use Rattle.sf_walk.proofs.PathCalls.{nowhere_served, set_stat_at}
use Rattle.sf_walk.proofs.Holders.{stays_looked}
use Rattle.sf_walk.proofs.path_calls.set_stat.Goals as goal

pub returns-in-Err-clause-served : goal.returns-in-Err-clause-served
returns-in-Err-clause-served c = λ t h.
    past_root _ t c.args.path.now _ _ (not_root c.is_root.result c.args.path.now c.is_root.ensures c.if-is_root.false)
    (nowhere_served _ _ t _ _ (looked_none c.args.store.now) h (set_stat c.args.moment c.args.attrs.now) refl c.args.located _ c.in-Err.ensures.nowhere c.requires.way)

pub returns-in-Err-clause-holders : goal.returns-in-Err-clause-holders
returns-in-Err-clause-holders c = stays_looked _ _ _ (looked_none c.args.store.now)

pub returns-in-Ok-clause-served : goal.returns-in-Ok-clause-served
returns-in-Ok-clause-served c = λ t h.
    set_stat_at _ _ t c.args.path.now _ (looked_none c.args.store.now) h _ c.args.moment c.args.attrs.now _ _ c.set_node.result
    (not_root c.is_root.result c.args.path.now c.is_root.ensures c.if-is_root.false) (sym c.in-Ok.ensures.at ∙ c.requires.way) c.set_node.ensures.served

pub returns-in-Ok-clause-holders : goal.returns-in-Ok-clause-holders
returns-in-Ok-clause-holders c = stays_after c.args.store.now c.args.store.now c.set_node.new.store _ (looked_none c.args.store.now) c.set_node.ensures.holders
