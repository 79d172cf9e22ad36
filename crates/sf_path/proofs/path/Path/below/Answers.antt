use Rattle.std.proofs.Common.{subst, sym}
use Rattle.std.proofs.lemmas.List.Elements.{All-push}
use Rattle.sf_path.specs.Names.{IsName, IsPath}
use Rattle.sf_path.proofs.path.Path.below.Goals as goal

pub of-requires : goal.of-requires
of-requires c =
    let one : IsName c.in_ok-from_slice.field-0 = subst IsName (sym c.in_ok-from_slice.ensures) c.as_slice.ensures.name in
    subst IsPath (sym c.in_ok-push.ensures.items) (All-push IsName c.in_ok-names.names.items c.in_ok-from_slice.field-0 c.in_ok-names.ensures.names one)
