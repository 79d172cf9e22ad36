use Rattle.std.proofs.Common.{Contains, subst, arith}
use Rattle.sf_workers.proofs.Queues.{was_free, was_set, has_room, is_there}
use Rattle.sf_workers.proofs.ready.ReadyKeys.add.Goals.{else-key-lt-KEYS-via-then-key-lt-KEYS+else-not-index, else-key-lt-KEYS-via-else-key-lt-KEYS}
use Rattle.sf_workers.proofs.ready.ReadyKeys.add.Goals as goal

pub push_back_reserved-requires : goal.push_back_reserved-requires
push_back_reserved-requires c =
    let v = c.self.inside.is_queued in
    let q = c.self.inside.queue in
    let i = c.self.invariant in
    let free = was_free v.items c.args.key _ c.index.ensures c.if-not-index.true in
    omega (arith, has_room q.items v.items c.args.key (omega (arith, c.if-key-lt-KEYS.true, i.1, v.ok.0)) free i.0, i.1, i.2, v.ok.0, q.ok.0)

pub returns-else-key-lt-KEYS-clause-added : goal.returns-else-key-lt-KEYS-clause-added
returns-else-key-lt-KEYS-clause-added c within absent =
    let v = c.self.inside.is_queued in
    let i = c.self.invariant in
    elim c.else-key-lt-KEYS.branch [
      | else-key-lt-KEYS-via-then-key-lt-KEYS+else-not-index w ↦
          absurd (absent (subst (λ q. Contains q c.args.key) c.self.view_is (is_there _ v.items c.args.key i.0 (was_set v.items c.args.key _ _ w.index.ensures within (omega (arith, i.1, v.ok.0)) w.if-not-index.false))))
      | else-key-lt-KEYS-via-else-key-lt-KEYS w ↦ absurd (omega (arith, within, w.if-key-lt-KEYS.false))
    ]
