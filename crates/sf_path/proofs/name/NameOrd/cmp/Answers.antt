use Rattle.std.proofs.Common.{◌≡◌, ◌∙◌, ℕ, ◌%◌, sym, ap}
use Rattle.sf_path.specs.Heads.{head_of}
use Rattle.sf_path.proofs.Heads.{head_order, short_names}
use Rattle.sf_path.proofs.name.NameOrd.cmp.Goals as goal

pub returns-then-self-other : goal.returns-then-self-other
returns-then-self-other c =
    let mine = c.self.invariant in
    let theirs = c.other.invariant in
    rw (← c.self.view_is, ← c.other.view_is)
    (c.cmp.ensures
    ∙ rw (mine.1, theirs.1) (head_order _ _ mine.0.part.bytes theirs.0.part.bytes (λ same. c.if-self-other.true (mine.1 ∙ same ∙ sym theirs.1))))

pub returns-then-self-eq0 : goal.returns-then-self-eq0
returns-then-self-eq0 c =
    let mine = c.self.invariant in
    let theirs = c.other.invariant in
    let alike : head_of c.self.inside.bytes.items ≡ head_of c.other.inside.bytes.items = sym mine.1 ∙ c.if-self-other.false ∙ theirs.1 in
    rw (← c.self.view_is, ← c.other.view_is) (sym (short_names _ _ mine.0.part theirs.0.part alike (ap (λ (k : ℕ). k % 256) (sym mine.1) ∙ c.if-self-eq0.true)))
