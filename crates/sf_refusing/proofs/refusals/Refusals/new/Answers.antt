use Rattle.std.proofs.Common.{false, ◌≡◌, ℕ, List, [], Some, refl, sym, ap, ◌∙◌, length, slice_get}
use Rattle.sf_session.specs.Responses.{transcript}
use Rattle.sf_refusing.specs.declared.given.GivenRule.{GivenRule}
use Rattle.sf_refusing.specs.declared.passage.Passage.{Passage}
use Rattle.sf_refusing.specs.Refusing.{AllMayHappen, ServesHere}
use Rattle.sf_refusing.proofs.refusals.Refusals.new.Goals as goal

nothing_got : {A : Type 0} (i : ℕ) (x : A) → slice_get {X = A} [] i ≡ Some x → ⊥
nothing_got i x e = cc

none_serves : (s : ℕ) → ServesHere [] s [] [] false
unfolding transcript
none_serves s = record {
  begun_is = refl;
  served = λ own. record {
    received = refl;
    unsent = [];
    in_engine = record { sent = []; count_is = refl; packets = refl };
    gone = [];
    count = refl;
    waits = refl;
  };
}

pub returns : goal.returns
unfolding AllMayHappen
returns c = record {
  happened = tt;
  each = λ i p at. absurd (nothing_got i p (ap (λ (ps : List Passage). slice_get ps i) (sym c.new.ensures.items) ∙ at));
  others = λ s none. none_serves s;
  rules = record {
    count = ap (λ (rs : List GivenRule). length rs) c.new-2.ensures.items;
    each = λ number given at. absurd (nothing_got number given (ap (λ (rs : List GivenRule). slice_get rs number) (sym c.new-2.ensures.items) ∙ at));
  };
}
