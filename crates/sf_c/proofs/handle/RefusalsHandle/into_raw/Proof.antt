use Rattle.sf_refusing.specs.contracts.refusals.Refusals as content
use Rattle.sf_c.specs.contracts.handle.RefusalsHandle as handle
use Rattle.sf_c.specs.contracts.handle.RefusalsHandle.into_raw.{clauses}
use Rattle.sf_c.specs.contracts.handle.RefusalsHandle.into_raw.Key.{name as #self}
use Rattle.sf_c.proofs.Moves.{refl, emp, fact_i, RawBox, moves}
use Rattle.sf_c.proofs.handle.RefusalsHandle.into_raw.Statement.{statement}
use Rattle.sf_c.proofs.handle.RefusalsHandle.into_raw.Code as code

pub into_raw_spec : {M : Type 1} → statement M
into_raw_spec 𝓤 𝓛 𝓜 𝓡 wired =
    moves handle.the_type (RawBox content.the_row) (λ h. h.at) (λ h. h.alloc) (λ h. record { at = h.at; alloc = h.alloc; value = h.refusals }) (λ h vs. refl) (λ h vs. refl) (λ h f. refl)
    𝓤 𝓛 𝓜 𝓡 (clauses 𝓛 𝓜.mem 𝓡.returns) (λ h g. fact_i 𝓤 _ (emp 𝓤) refl) #self (code.unfolded 𝓤 𝓛.H 𝓜 𝓡 wired)
