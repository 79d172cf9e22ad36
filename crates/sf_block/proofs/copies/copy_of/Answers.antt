use Rattle.std.specs.Map.Iter.{deref_pair}
use Rattle.std.proofs.lemmas.Map.Iter.{rest_more}
use Rattle.sf_block.proofs.EqualMaps.{copied}
use Rattle.sf_block.proofs.copies.copy_of.Goals as goal

pub entries-preserved-in_ok-insert : goal.entries-preserved-in_ok-insert
entries-preserved-in_ok-insert g c =
    copied g.K.Ord.cmp g.met.K.Ord.total _ _ _ _ _ _ _ _ _ c.len.ensures.ordered c.entries.invariant
    (rest_more deref_pair _ _ _ (c.in-Some.key, c.in-Some.value) c.in-Some.is c.next.ensures.steps) c.in_ok-insert.ensures.entries c.in_ok-own_key.ensures c.in_ok-own_value.ensures

pub entries-preserved : goal.entries-preserved
entries-preserved g c =
    copied g.K.Ord.cmp g.met.K.Ord.total _ _ _ _ _ _ _ _ _ c.len.ensures.ordered c.entries.invariant
    (rest_more deref_pair _ _ _ (c.in-Some.key, c.in-Some.value) c.in-Some.is c.next.ensures.steps) c.in_ok-insert.ensures.entries c.in_ok-own_key.ensures c.in_ok-own_value.ensures
