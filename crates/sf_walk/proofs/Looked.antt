-- What lookups alone preserve.
use Rattle.std.specs.Prelude.{◌≡◌, ℕ, zero, suc, List, Option}
use Rattle.std.proofs.Common.{sym, subst, ◌∙◌}
use Rattle.sf_path.specs.Names.{Path}
use Rattle.sf_call.specs.Tree.{Tree}
use Rattle.sf_inode.specs.declared.node.Node.{Node}
use Rattle.sf_inode.specs.Stores.{StoreState, node_in}
use Rattle.sf_keeps.specs.Keeps.{Keeps}
use Rattle.sf_keeps.proofs.Laws.{keeps_looked}
use Rattle.sf_walk.specs.declared.finding.Located.{Located}
use Rattle.sf_walk.specs.Ways.{way_from}
use Rattle.sf_walk.specs.Served.{LookedUp, IsAlike, IsAsBefore, KeepsRest, after_look_ups}
use Rattle.sf_walk.proofs.LookUps.{looked_nodes, looked_root}
use Rattle.sf_walk.proofs.Holders.{alike_looked}

keeps_after : (k : ℕ) (s : StoreState) (t : Tree) → Keeps s t → Keeps (after_look_ups k s) t
keeps_after zero s t keeps = keeps
keeps_after (suc k) s t keeps = keeps_looked (after_look_ups k s) t (keeps_after k s t keeps)

pub keeps_counted : (old new : StoreState) (t : Tree) (most : ℕ) → LookedUp old new most → Keeps old t → Keeps new t
keeps_counted old new t most h keeps = subst (λ (s : StoreState). Keeps s t) (sym h.state) (keeps_after h.count old t keeps)

-- path resolution in the store before and after them has the same result
pub way_looked : (old new : StoreState) (p : Path) (most : ℕ) (l : Located) → LookedUp old new most → l ≡ way_from old.nodes old.root old.root p → way_from new.nodes new.root new.root p ≡ l
way_looked old new p most l looked e =
    let nodes = looked_nodes old new most looked in
    let root = looked_root old new most looked in
    (λ i. way_from (nodes i) (root i) (root i) p) ∙ sym e

pub alike_after : (old mid new : StoreState) (most : ℕ) → LookedUp old mid most → new ≡ mid → IsAlike old new
alike_after old mid new most looked e = subst (λ (x : StoreState). IsAlike old x) (sym e) (alike_looked old mid most looked)

pub stays_after : {N : Option ℕ → ℕ → Type 0} (old mid new : StoreState) (most : ℕ) → LookedUp old mid most → KeepsRest N mid new → KeepsRest N old new
stays_after {N} old mid new most looked h = record { node = λ id node at. subst (λ (ns : List (Option Node)). IsAsBefore N (node_in ns id) node) (looked_nodes old mid most looked) (h.node id node at) }
