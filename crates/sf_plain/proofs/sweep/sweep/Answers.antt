use Rattle.std.proofs.Common.{◌≡◌, refl, rules}
use Rattle.std.proofs.lemmas.Map.Entries.{filter_from_retain_pairs}
use Rattle.sf_call.specs.Tree.{is_used}
use Rattle.sf_plain.proofs.sweep.sweep.Goals as goal

-- the closure keeps its captures, and returns whether the inode number is used
pub returns : goal.returns
returns c =
    filter_from_retain_pairs _ (λ f. (f.0.now ≡ c.args.names.now) × (f.1.now ≡ c.args.handles.now)) (λ e. is_used c.args.names.now.entries c.args.handles.now.entries e.0)
    (λ g k v b w after is t. (search rules, search rules, (search rules, search rules)))
    _ _ _ (refl, refl) c.retain.ensures.filtered
