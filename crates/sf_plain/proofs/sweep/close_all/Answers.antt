use Rattle.std.proofs.Common.{◌≡◌, not, nat_eq, refl, rules}
use Rattle.std.proofs.lemmas.Map.Entries.{filter_from_retain_pairs}
use Rattle.sf_plain.proofs.sweep.close_all.Goals as goal

-- the closure keeps the session, and returns whether the handle is another's
pub returns : goal.returns
returns c =
    filter_from_retain_pairs _ (λ f. f.0.now ≡ c.args.session) (λ e. not (nat_eq e.1.session c.args.session))
    (λ g k v b w after is t. (search rules, search rules, search rules))
    _ _ _ refl c.retain.ensures.filtered
