use Rattle.std.proofs.Common.{◌≡◌, nat_eq}
use Rattle.std.specs.List.{find}
use Rattle.sf_plain.proofs.tree.PlainTree.path_of.Given as goal

abbrev pub invariant-names : goal.invariant-names
invariant-names l = find (λ e. nat_eq e.1 l.label) l.path-iterator ≡ find (λ e. nat_eq e.1 l.label) l.self.names
