-- No public clause cites this module.
-- Operations on a stream, in sequence.
use Rattle.std.specs.Prelude.{ℕ, List, [], ◌∷◌, ◌++◌}
use Rattle.std.specs.List.{AllByRecursion, flat_map}
use Rattle.std.specs.Io.KnownBytes.{Appends, Consumes}
use Rattle.std.proofs.Common.{sym, subst}
use Rattle.std.proofs.KnownBytes.{Appends-nil, Appends-trans, Consumes-nil, Consumes-trans}
use Rattle.std.proofs.lemmas.List.Concat.{flat_map-append}
use Rattle.sf_trees.specs.Operations.{Operation}
use Rattle.sf_loading.specs.Lines.{ServerLineView, HasReply, LeadsLine, packet_sent, packet_taken}

pub none_sent : (a : ServerLineView) → LeadsLine a [] a
none_sent a all = record { sent = Appends-nil a.outgoing; taken = Consumes-nil a.incoming }

front_answered : (first second : List Operation) → AllByRecursion HasReply (first ++ second)
    → AllByRecursion HasReply first
front_answered [] second all = tt
front_answered (d ∷ first) second all = (all.0, front_answered first second all.1)

rest_answered : (first second : List Operation) → AllByRecursion HasReply (first ++ second)
    → AllByRecursion HasReply second
rest_answered [] second all = all
rest_answered (d ∷ first) second all = rest_answered first second all.1

pub sent_on : (a b c : ServerLineView) (first second : List Operation) → LeadsLine a first b
    → LeadsLine b second c → LeadsLine a (first ++ second) c
sent_on a b c first second one more all =
    let p = one (front_answered first second all) in
    let q = more (rest_answered first second all) in
    record {
      sent = subst (λ (bytes : List ℕ). Appends a.outgoing c.outgoing bytes)
          (sym (flat_map-append packet_sent first second))
          (Appends-trans a.outgoing b.outgoing c.outgoing (flat_map packet_sent first)
          (flat_map packet_sent second) p.sent q.sent);
      taken = subst (λ (bytes : List ℕ). Consumes a.incoming c.incoming bytes)
          (sym (flat_map-append packet_taken first second))
          (Consumes-trans a.incoming b.incoming c.incoming (flat_map packet_taken first)
          (flat_map packet_taken second) p.taken q.taken);
    }
