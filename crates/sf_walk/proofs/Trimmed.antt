-- What is preserved when the memory of deleted inodes is returned.
use Rattle.std.specs.Prelude.{◌≡◌, ℕ, Option}
use Rattle.std.proofs.Common.{sym, ap, ◌∙◌}
use Rattle.sf_reply.specs.declared.reply.Reply.{Reply}
use Rattle.sf_call.specs.Tree.{Tree}
use Rattle.sf_call.specs.Changes.{done}
use Rattle.sf_call.specs.Calls.{Outcome}
use Rattle.sf_inode.specs.Stores.{StoreState, node_in, with_nodes}
use Rattle.sf_walk.specs.Served.{IsAlike, IsCarriedOut, KeepsRest}
use Rattle.sf_walk.proofs.Refused.{keeps_alike}

-- the inodes are the same by index, and all else is the same
pub alike_trimmed : (mid new : StoreState) → ((id : ℕ) → node_in new.nodes id ≡ node_in mid.nodes id) → new ≡ with_nodes mid new.nodes → IsAlike mid new
alike_trimmed mid new nodes rest = record { nodes = nodes; root = ap (λ (s : StoreState). s.root) rest; sessions = ap (λ (s : StoreState). s.sessions) rest }

pub served_trimmed : (mid new : StoreState) (t : Tree) (answer : Outcome) (given : Reply) → IsCarriedOut mid t answer given → ((id : ℕ) → node_in new.nodes id ≡ node_in mid.nodes id) → new ≡ with_nodes mid new.nodes
    → IsCarriedOut new t answer given
served_trimmed mid new t answer given h nodes rest = record { told = h.told; tree = keeps_alike mid new (done t answer.changes) (alike_trimmed mid new nodes rest) h.tree }

pub stays_trimmed : {N : Option ℕ → ℕ → Type 0} (old mid new : StoreState) → KeepsRest N old mid → ((id : ℕ) → node_in new.nodes id ≡ node_in mid.nodes id) → KeepsRest N old new
stays_trimmed old mid new h nodes = record { node = λ id node at. h.node id node (sym (nodes id) ∙ at) }

pub looks_same : (old mid new : StoreState) → mid.look_ups ≡ old.look_ups → new ≡ with_nodes mid new.nodes → new.look_ups ≡ old.look_ups
looks_same old mid new h rest = ap (λ (s : StoreState). s.look_ups) rest ∙ h
