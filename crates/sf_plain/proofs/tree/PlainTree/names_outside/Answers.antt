use Rattle.std.proofs.Common.{◌≡◌, refl, rules, filter, ap, ◌∙◌}
use Rattle.std.proofs.lemmas.Map.Entries.{filter_from_retain_pairs}
use Rattle.sf_call.specs.Moves.{is_outside}
use Rattle.sf_plain.proofs.tree.PlainTree.names_outside.Goals as goal

-- the closure keeps its captures, and returns whether the path is outside
pub returns : goal.returns
returns c =
    filter_from_retain_pairs _ (λ f. (f.0.now ≡ c.args.old.now) × (f.1.now ≡ c.args.new.now)) (λ e. is_outside c.args.old.now c.args.new.now e.0)
    (λ g k v b w after is t. (search rules, search rules, (search rules, search rules)))
    _ _ _ (refl, refl) c.retain.ensures.filtered
    ∙ ap (filter (λ e. is_outside c.args.old.now c.args.new.now e.0)) (search rules)
