-- One more lookup.
use Rattle.std.proofs.Common.{◌≡◌, ℕ, ◌+◌, ◌≤◌, zero, suc, refl, ap, ◌∙◌, arith}
use Rattle.sf_inode.specs.Stores.{StoreState, looked_up}
use Rattle.sf_walk.specs.Served.{LookedUp, after_look_ups}

pub looked_none : (s : StoreState) → LookedUp s s 0
looked_none s = record { count = 0; few = omega arith; state = refl }

pub looked_more : (old mid new : StoreState) (most : ℕ) → LookedUp old mid most → new ≡ looked_up mid → LookedUp old new (most + 1)
looked_more old mid new most h e = record { count = suc h.count; few = let f = h.few in omega arith; state = e ∙ ap looked_up h.state }

pub looked_less : (old new : StoreState) (few most : ℕ) → LookedUp old new few → few ≤ most → LookedUp old new most
looked_less old new few most h le = record { count = h.count; few = let f = h.few in omega arith; state = h.state }

after_nodes : (k : ℕ) (s : StoreState) → (after_look_ups k s).nodes ≡ s.nodes
after_nodes zero s = refl
after_nodes (suc k) s = after_nodes k s

pub looked_nodes : (old new : StoreState) (most : ℕ) → LookedUp old new most → new.nodes ≡ old.nodes
looked_nodes old new most h = ap (λ (s : StoreState). s.nodes) h.state ∙ after_nodes h.count old

after_root : (k : ℕ) (s : StoreState) → (after_look_ups k s).root ≡ s.root
after_root zero s = refl
after_root (suc k) s = after_root k s

pub looked_root : (old new : StoreState) (most : ℕ) → LookedUp old new most → new.root ≡ old.root
looked_root old new most h = ap (λ (s : StoreState). s.root) h.state ∙ after_root h.count old

after_more : (k j : ℕ) (s : StoreState) → after_look_ups k (after_look_ups j s) ≡ after_look_ups (k + j) s
after_more zero j s = let e : j ≡ 0 + j = omega arith in ap (λ i. after_look_ups i s) e
after_more (suc k) j s = let e : suc (k + j) ≡ suc k + j = omega arith in ap looked_up (after_more k j s) ∙ ap (λ i. after_look_ups i s) e

pub looked_on : (old mid new : StoreState) (few more : ℕ) → LookedUp old mid few → LookedUp mid new more → LookedUp old new (few + more)
looked_on old mid new few more g h = record {
  count = h.count + g.count;
  few = let a = g.few in let b = h.few in omega arith;
  state = h.state ∙ ap (after_look_ups h.count) g.state ∙ after_more h.count g.count old;
}

pub looked_itself : (s : StoreState) (most : ℕ) → LookedUp s s most
looked_itself s most = looked_less s s 0 most (looked_none s) (omega arith)
