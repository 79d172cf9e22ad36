use Rattle.std.proofs.Common.{◌≡◌}
use Rattle.sf_program.specs.Descriptors.{input_of, output_of, descriptor_counts}
use Rattle.sf_program.proofs.descriptors.Descriptors.read_some.Given as goal

-- no byte moves at a call that a signal interrupts
abbrev pub invariant-loop : goal.invariant-loop
invariant-loop g l = record {
  output : output_of l.self ≡ output_of l.initial.self;
  incoming : g.I.Inlet.incoming (input_of l.self) ≡ g.I.Inlet.incoming (input_of l.initial.self);
  counts : descriptor_counts l.self ≡ descriptor_counts l.initial.self;
}
