use Rattle.std.proofs.Common.{◌≡◌, ◌++◌, drop, length, Option, Some, option_map, sym, ap, ◌∙◌, arith}
use Rattle.sf_path.specs.Names.{Path}
use Rattle.sf_call.specs.Tree.{after_front}
use Rattle.sf_plain.proofs.Renames.{behind, front_fits}
use Rattle.sf_plain.proofs.tree.renames.carried.Goals as goal

pub joined-requires : goal.joined-requires
joined-requires c =
    let fits = front_fits c.args.old.now c.args.path.now (sym c.begins.ensures ∙ c.if-begins.true) in
    omega (arith, fits, c.len.ensures)

pub returns-in_ok-joined : goal.returns-in_ok-joined
returns-in_ok-joined c =
    let there : after_front c.args.old.now c.args.path.now ≡ Some (drop (length c.args.old.now) c.args.path.now) =
    behind c.args.old.now c.args.path.now (sym c.begins.ensures ∙ c.if-begins.true) in
    ap Some (c.in_ok-joined.ensures ∙ ap (λ n. c.args.new.now ++ drop n c.args.path.now) c.len.ensures)
    ∙ sym (ap (λ (o : Option Path). option_map (λ (rest : Path). c.args.new.now ++ rest) o) there)
