use Rattle.std.proofs.Common.{refl}
use Rattle.sf_call.proofs.Listed.{all_parts, has_type, has_line}
use Rattle.sf_call.proofs.tree_laws.listed_attributes.Goals as goal

pub returns-clause-parts : goal.returns-clause-parts
returns-clause-parts c = all_parts

pub returns-clause-kind : goal.returns-clause-kind
returns-clause-kind c = has_type

pub returns-clause-shown : goal.returns-clause-shown
returns-clause-shown c name count object = refl

pub returns-clause-line : goal.returns-clause-line
returns-clause-line c = has_line
