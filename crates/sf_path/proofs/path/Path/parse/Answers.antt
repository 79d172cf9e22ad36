use Rattle.std.proofs.Common.{rules, ◌<◌, arith}
use Rattle.std.proofs.lemmas.List.Elements.{All-from_get_or}
use Rattle.sf_path.proofs.Parts.{norm_is_path}
use Rattle.sf_path.proofs.Lengths.{length-text_of-norm}
use Rattle.sf_path.proofs.path.Path.parse.Goals as goal

pub of-requires : goal.of-requires
of-requires c = rw c.in_ok-names_of.ensures (norm_is_path c.args.text.now (All-from_get_or (λ b. b < 256) _ 0 (λ i lt. omega (arith, c.type_inv.text i))) (search rules))

pub returns-clause-short : goal.returns-clause-short
returns-clause-short c = rw (c.in_ok-of.ensures, c.in_ok-names_of.ensures) (length-text_of-norm c.args.text.now)
