use Rattle.std.proofs.Common.{ap, sym, subst, ◌∙◌, inr}
use Rattle.sf_call.specs.declared.call.Stage.TheVariants as stage
use Rattle.sf_inode.specs.Stores.{StoreState}
use Rattle.sf_walk.specs.declared.finding.Ways.{Ways}
use Rattle.sf_walk.specs.Routes.{reached, nodes_of}
use Rattle.sf_call.specs.Routes.Route.{Along}
use Rattle.sf_walk.specs.Steps.{walker, DecidesNow, free_unless}
use Rattle.sf_walk.specs.Steps.GoesFrom.{OnOne}
use Rattle.sf_walk.specs.Steps.MayDecideWhere.{AtEnd}
use Rattle.sf_walk.proofs.Onward.{no_way_on}
use Rattle.sf_walk.proofs.Advancing.{decides_one, waits_on_way, moves_one}
use Rattle.sf_walk.proofs.walking.onward.Goals as goal

pub returns-in-NoDirectory : goal.returns-in-NoDirectory
returns-in-NoDirectory c =
    let at = c.args.at in
    let path = c.args.path.now in
    let found = c.in-NoDirectory.ensures in
    subst (λ (w : Ways). DecidesNow c.args.store.now c.look.new.store (walker c.args.number (Along path) (stage.At at.walked at.node)) w) (sym c.along.ensures)
    (decides_one c.args.store.now c.look.new.store found.0.0 c.args.number path (stage.At at.walked at.node)
    (AtEnd (Along path) (stage.At at.walked at.node) path (reached at.walked at.node) (OnOne path at.walked at.node) (inr (found.0.1, found.1)))
    _ (no_way_on c.args.store.now path at.walked at.node c.requires.on_way found.0.1 found.1) tt)

pub returns-in-Held : goal.returns-in-Held
returns-in-Held c =
    let at = c.args.at in
    let path = c.args.path.now in
    let found = c.in-Held.ensures in
    waits_on_way c.args.store.now c.look.new.store found.0.0 c.args.number (Along path) (stage.At at.walked at.node) path (reached at.walked at.node) (OnOne path at.walked at.node) c.in-Held.holder found.1

pub returns-in-Free : goal.returns-in-Free
returns-in-Free c =
    let at = c.args.at in
    let path = c.args.path.now in
    let found = c.in-Free.ensures in
    let after = stage.At c.in-Free.to.walked c.in-Free.to.node in
    moves_one c.args.store.now c.look.new.store found.0.0 c.args.number path at c.in-Free.to c.free_unless.new.store c.requires.on_way found.1
    (c.free_unless.ensures ∙ ap (λ (s : StoreState). free_unless (nodes_of after) at.node s) c.hold.ensures)
