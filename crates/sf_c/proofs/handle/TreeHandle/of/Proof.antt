use Rattle.sf_c.specs.contracts.leaves.Leaves as content
use Rattle.sf_c.specs.contracts.handle.TreeHandle as handle
use Rattle.sf_c.specs.contracts.handle.TreeHandle.of.{clauses}
use Rattle.sf_c.specs.contracts.handle.TreeHandle.of.Key.{name as #self}
use Rattle.sf_c.proofs.Moves.{refl, emp, fact_i, RawBox, moves}
use Rattle.sf_c.proofs.handle.TreeHandle.of.Statement.{statement}
use Rattle.sf_c.proofs.handle.TreeHandle.of.Code as code

pub of_spec : {M : Type 1} → statement M
of_spec 𝓤 𝓛 𝓜 𝓡 wired =
    moves (RawBox content.the_row) handle.the_type (λ b. b.at) (λ b. b.alloc) (λ b. record { at = b.at; alloc = b.alloc; tree = b.value }) (λ b vs. refl) (λ b vs. refl) (λ b f. refl)
    𝓤 𝓛 𝓜 𝓡 (clauses 𝓛 𝓜.mem 𝓡.returns) (λ b g. fact_i 𝓤 _ (emp 𝓤) refl) #self (code.unfolded 𝓤 𝓛.H 𝓜 𝓡 wired)
