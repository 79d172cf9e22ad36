use Rattle.std.proofs.Common.{◌≡◌, ◌∙◌, arith}
use Rattle.std.proofs.lemmas.List.{take_all}
use Rattle.std.proofs.lemmas.List.Elements.{All-take, All-drop, All-append}
use Rattle.sf_path.specs.Names.{IsName}
use Rattle.sf_path.proofs.path.Path.joined.Goals as goal

pub of-requires : goal.of-requires
of-requires c =
    let own : c.in_ok-names.names.items ≡ c.args.self.now = c.in_ok-names.ensures.same ∙ take_all _ _ (omega arith) in
    let names = rw own at c.in_ok-names.ensures.names in
    rw c.loop-name.invariant (All-append IsName _ _ names (All-take IsName _ _ (All-take IsName _ _ (All-drop IsName c.args.n _ c.as_slice.ensures.names))))
