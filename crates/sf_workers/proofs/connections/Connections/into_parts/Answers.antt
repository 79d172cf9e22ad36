use Rattle.std.proofs.Common.{ap, length, arith}
use Rattle.sf_workers.proofs.Slabs.{length_values}
use Rattle.sf_workers.proofs.connections.Connections.into_parts.Goals as goal

pub returns-clause-parts : goal.returns-clause-parts
returns-clause-parts g c = omega (arith, c.args.self.parts, length_values c.args.self.active, ap length c.requires)
