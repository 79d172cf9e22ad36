-- A new core has the empty history.
use Rattle.std.specs.Prelude.{◌≡◌, ◌-◌, ℕ, [], take, drop, option_and_then, Option, Some, None, refl}
use Rattle.std.specs.List.{count_by}
use Rattle.std.specs.Option.{option_map_or}
use Rattle.std.proofs.Common.{sym, ap, subst, ◌∙◌, inl, inr, arith}
use Rattle.sf_call.specs.declared.record.Record.{Record}
use Rattle.sf_call.specs.Tree.{Tree, empty_tree}
use Rattle.sf_call.specs.Histories.{replay, IsLegal, IsLegalAfter}
use Rattle.sf_book.specs.Books.{is_call, kept_of, gone_of}
use Rattle.sf_inode.specs.declared.node.Node.{Node}
use Rattle.sf_inode.specs.Nodes.{blocks_left_in}
use Rattle.sf_inode.specs.Stores.{StoreState, holder_of, blocks_left_at, IsFirst}
use Rattle.sf_keeps.specs.Keeps.{Keeps}
use Rattle.sf_keeps.proofs.Laws.{keeps_first}
use Rattle.sf_coupling.proofs.Laws.{same_or_not}
use Rattle.sf_core.specs.Parts.{PartsView}
use Rattle.sf_core.specs.Sound.{Sound, IsCore}
use Rattle.sf_core.specs.Stepping.{IsNewParts}
use Rattle.sf_core.proofs.Maps.{none_some}
use Rattle.sf_core.proofs.Walkers.{walker_holds}
use Rattle.sf_core.proofs.Writers.{writer_holds}

zero_less : (n : ℕ) → 0 ≡ 0 - n
zero_less n = omega arith

nothing_kept : (keep : Option ℕ) → [] ≡ kept_of keep []
nothing_kept None = refl
nothing_kept (Some n) = ap (λ k. drop {A = Record} k []) (zero_less n)

nothing_gone : (keep : Option ℕ) → 0 ≡ count_by is_call (gone_of keep [])
nothing_gone None = refl
nothing_gone (Some n) = ap (λ k. count_by is_call (take {A = Record} k [])) (zero_less n)

nothing_legal : IsLegal []
unfolding IsLegal IsLegalAfter
nothing_legal = tt

nothing_replayed : empty_tree ≡ replay []
unfolding replay
nothing_replayed = refl

first_free : (s : StoreState) → IsFirst s → (l n : ℕ) → holder_of s.nodes l ≡ Some n → ⊥
first_free s first l n h = elim (same_or_not l s.root) [
  | inl e ↦ none_some n (sym (ap (holder_of s.nodes) e ∙ ap (option_and_then (λ (x : Node). x.holder)) first.root) ∙ h)
  | inr ne ↦ none_some n (sym (ap (option_and_then (λ (x : Node). x.holder)) (first.others l ne)) ∙ h)
]

first_settled : (s : StoreState) → IsFirst s → (l : ℕ) → blocks_left_at s.nodes l ≡ 0
first_settled s first l = elim (same_or_not l s.root) [
  | inl e ↦ ap (blocks_left_at s.nodes) e ∙ ap (λ (o : Option Node). option_map_or (λ (x : Node). blocks_left_in x.content) o 0) first.root
  | inr ne ↦ ap (λ (o : Option Node). option_map_or (λ (x : Node). blocks_left_in x.content) o 0) (first.others l ne)
]

pub sound_new : (p : PartsView) → IsNewParts p → Sound p []
sound_new p new = subst (λ (x : PartsView). Sound x [])
    (λ i. record { store = p.store; book = p.book; sessions = sym new.sessions i; calls = sym new.calls i; drawn = sym new.drawn i; joins = sym new.joins i })
    (record {
      history = record {
        legal = nothing_legal;
        records = new.records ∙ nothing_kept p.book.keep;
        folded = new.folded ∙ nothing_gone p.book.keep;
        tree = subst (λ (t : Tree). Keeps p.store t) nothing_replayed (keeps_first p.store new.store);
        counted = refl;
        undecided = λ n c at none. absurd (none_some c at);
        decided = λ n c given at some. absurd (none_some c at);
        later = λ n less. tt;
        sessions = λ s o at. absurd (none_some o at);
        newcomers = λ s less. tt;
        few = omega arith;
      };
      coupled = record {
        walks = record { shaped = λ n. tt; leads = λ n s h. absurd h; held = λ n s h. absurd h; holds = λ l n at. absurd (first_free p.store new.store l n (walker_holds p.store.nodes l n at).1); apart = λ n m s ne h b. absurd h };
        positions = λ n c at none. absurd (none_some c at);
        waiting = λ n c given at some. absurd (none_some c at);
      };
      copied = record {
        copies = record {
          some = λ n c at. absurd (none_some c at);
          left = λ n c at. absurd (none_some c at);
          holds = λ n c at. absurd (none_some c at);
          held = λ f n at. absurd (first_free p.store new.store f n (writer_holds p.store.nodes f n at).1);
          settled = λ f none. first_settled p.store new.store f;
        };
        writing = λ n c node left at is. absurd (none_some c at);
      };
      ledger = record {
        calls = λ n c at. absurd (none_some c at);
        sessions = λ s o at. absurd (none_some o at);
        room = omega arith;
        drawn_fits = omega arith;
        joins_fit = omega arith;
        calls_rise = tt;
        sessions_rise = tt;
      };
    })

pub core_new : (p : PartsView) → IsNewParts p → IsCore p
core_new p new = record { history = []; sound = sound_new p new }
