-- No public clause cites this module.
-- The buffer that a byte string refers to.
use Rattle.std.specs.Prelude.{ℕ, List, [], Option, Some, None}
use Rattle.std.specs.declared.alloc.Global.{Global}
use Rattle.std.specs.declared.sync.Arc.{Arc}
use Rattle.std.specs.declared.vec.Vec.{Vec}
use Rattle.std.specs.Arc.{arc_value}

-- the bytes of the buffer; none if there is no buffer
abbrev pub owned : Option (Arc (Vec ℕ Global) Global) → List ℕ
owned None = []
owned (Some whole) = (arc_value whole).items
