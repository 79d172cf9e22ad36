use Rattle.std.proofs.Common.{ap, sym, subst, ◌∙◌, inr}
use Rattle.sf_call.specs.declared.call.Stage.TheVariants as stage
use Rattle.sf_inode.specs.Stores.{StoreState}
use Rattle.sf_walk.specs.declared.finding.Ways.{Ways}
use Rattle.sf_walk.specs.Routes.{reached, nodes_of}
use Rattle.sf_call.specs.Routes.Route.{Between}
use Rattle.sf_walk.specs.Steps.{walker, DecidesNow, free_unless}
use Rattle.sf_walk.specs.Steps.GoesFrom.{Together}
use Rattle.sf_walk.specs.Steps.MayDecideWhere.{AtEnd}
use Rattle.sf_walk.proofs.Onward.{no_way_on}
use Rattle.sf_walk.proofs.Advancing.{decides_nowhere, waits_on_way, moves_together}
use Rattle.sf_walk.proofs.walking.together.Goals as goal

pub returns-in-NoDirectory : goal.returns-in-NoDirectory
returns-in-NoDirectory c =
    let at = c.args.at in
    let old = c.args.old.now in
    let new = c.args.new.now in
    let found = c.in-NoDirectory.ensures in
    subst (λ (w : Ways). DecidesNow c.args.store.now c.look.new.store (walker c.args.number (Between old new) (stage.At at.walked at.node)) w) (sym c.between.ensures)
    (decides_nowhere c.args.store.now c.look.new.store found.0.0 c.args.number old new (stage.At at.walked at.node)
    (AtEnd (Between old new) (stage.At at.walked at.node) old (reached at.walked at.node) (Together old new at.walked at.node) (inr (found.0.1, found.1)))
    (no_way_on c.args.store.now old at.walked at.node c.requires.on_way found.0.1 found.1))

pub returns-in-Held : goal.returns-in-Held
returns-in-Held c =
    let at = c.args.at in
    let old = c.args.old.now in
    let new = c.args.new.now in
    let found = c.in-Held.ensures in
    waits_on_way c.args.store.now c.look.new.store found.0.0 c.args.number (Between old new) (stage.At at.walked at.node) old (reached at.walked at.node) (Together old new at.walked at.node) c.in-Held.holder found.1

pub returns-in-Free : goal.returns-in-Free
returns-in-Free c =
    let at = c.args.at in
    let old = c.args.old.now in
    let new = c.args.new.now in
    let found = c.in-Free.ensures in
    moves_together c.args.store.now c.look.new.store found.0.0 c.args.number old new at c.in-Free.to c.arrived-after.result c.free_unless.new.store c.requires.on_way found.1 c.arrived-after.ensures
    (c.free_unless.ensures ∙ ap (λ (s : StoreState). free_unless (nodes_of c.arrived-after.result) at.node s) c.hold.ensures)
