use denote.Struct.Owning.{shape, fields, to}
use denote.Struct.Struct.{exits_of}
use denote.Param.Send.{IsSend, owning_send, struct_send}
use Rattle.std_alloc.proofs.SendSync.{quiet}
use Rattle.sf_c.specs.contracts.leaves.Leaves as content
use Rattle.sf_c.proofs.leaves.Leaves.TheSendSync as crossing
use Rattle.sf_c.specs.contracts.handle.TreeHandle as handle
use Rattle.sf_c.proofs.Crossing.{fields_send, owned_crosses}

pub send : IsSend handle.the_row
send =
    let O = handle.the_type in
    owning_send O fields_send (λ h. owned_crosses content.the_row crossing.the_send h.alloc h.at h.tree) (λ k. quiet (to O) (exits_of k (fields O)) ((struct_send (shape O) fields_send).leaving k))
