use Rattle.sf_core.specs.Writing.{CopiedOn, IsCopyingOn}
use Rattle.sf_core.proofs.parts.Parts.copy_on.Given as goal

-- each earlier step copied a block, and more remain
abbrev pub invariant-loop : goal.invariant-loop
invariant-loop l = record {
  copied : CopiedOn l.counter l.initial.self l.number l.self;
  on : IsCopyingOn l.self l.number;
}
