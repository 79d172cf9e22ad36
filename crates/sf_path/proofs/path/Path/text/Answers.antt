use Rattle.std.proofs.Common.{arith, ◌≡◌}
use Rattle.std.proofs.lemmas.Grind.{common_steps}
use Rattle.sf_path.specs.Names.{IsPath, text_of}
use Rattle.sf_path.proofs.Again.{norm-text_of}
use Rattle.sf_path.proofs.path.Path.text.Goals as goal

pub returns-clause-again : goal.returns-clause-again
returns-clause-again c =
    let written : c.loop-name.text.items ≡ text_of c.args.self.now = grind (arith, common_steps) in
    let path : IsPath c.args.self.now = rw (← c.as_slice-name-items.ensures.same) c.as_slice-name-items.ensures.names in
    rw written (norm-text_of c.args.self.now path)
