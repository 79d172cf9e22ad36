use Rattle.std.proofs.Common.{◌≡◌, ◌≤◌, ◌∙◌, ap, sym, refl, subst, Some, List, [], ℕ, length, arith}
use Rattle.sf_call.specs.declared.call.Call.{Call}
use Rattle.sf_call.specs.Calls.{answer_to}
use Rattle.sf_call.specs.Changes.{moved_by}
use Rattle.sf_inode.specs.Stores.{StoreState}
use Rattle.sf_keeps.specs.Keeps.{Keeps}
use Rattle.sf_walk.proofs.Laws.{nowhere_stays}
use Rattle.sf_core.specs.Cores.{call_at}
use Rattle.sf_book.specs.Books.{BookView}
use Rattle.sf_core.specs.Parts.{PartsView}
use Rattle.sf_core.specs.Progress.{overtaken, undecided_in}
use Rattle.sf_core.specs.Finishing.{AreOnPaths, IsSettledWhereFree}
use Rattle.sf_core.specs.Stepping.{all_set_back, HelpsAll}
use Rattle.sf_core.proofs.Helped.{overtaken_settled, overtaken_paths}
use Rattle.sf_core.proofs.Maps.{some_eq}
use Rattle.sf_core.proofs.SettingBack.{book_back}
use Rattle.sf_core.proofs.BeforeDeciding.{moved_is, few_overtaken}
use Rattle.sf_core.proofs.parts.Parts.overtake.Goals as goal

pub help_all-requires-clause-room : goal.help_all-requires-clause-room
help_all-requires-clause-room c =
    let few = few_overtaken c.self.inside.calls c.args.number c.in-Some-old_path.old.now in
    let many = ap (λ (xs : List ℕ). length xs) (c.deref-2.ensures.value ∙ c.overtaken.ensures.numbers) in
    let room = ap (λ (b : BookView). b.room) (ap (λ (q : PartsView). q.book) c.set_back_all.ensures ∙ book_back c.deref.result.now c.args.self.now) in
    let enough : undecided_in c.self.inside.calls ≤ c.args.self.now.book.room = subst (λ (v : PartsView). undecided_in v.calls ≤ c.args.self.now.book.room) (sym c.self.view_is) c.requires.room in
    omega (arith, few, many, room, enough)

pub help_all-requires-clause-settled : goal.help_all-requires-clause-settled
help_all-requires-clause-settled c =
    let p = c.args.self.now in
    let core = c.requires.core in
    let calls : c.args.self.now.calls ≡ c.self.inside.calls = ap (λ (v : PartsView). v.calls) (sym c.self.view_is) in
    let numbers : c.deref.result.now ≡ overtaken p.calls c.args.number (Some c.in-Some-old_path.old.now) = c.deref.ensures.value ∙ c.overtaken.ensures.numbers ∙ (λ i. overtaken (sym calls i) c.args.number (Some c.in-Some-old_path.old.now)) in
    subst (λ (q : PartsView). IsSettledWhereFree q.store) (sym (c.set_back_all.ensures ∙ ap (all_set_back p) numbers)) (overtaken_settled p core.history core.sound c.args.number c.in-Some-old_path.old.now)

pub help_all-requires-clause-paths : goal.help_all-requires-clause-paths
help_all-requires-clause-paths c =
    let p = c.args.self.now in
    let core = c.requires.core in
    let calls : c.args.self.now.calls ≡ c.self.inside.calls = ap (λ (v : PartsView). v.calls) (sym c.self.view_is) in
    let here : c.overtaken.new.numbers.items ≡ overtaken p.calls c.args.number (Some c.in-Some-old_path.old.now) = c.overtaken.ensures.numbers ∙ (λ i. overtaken (sym calls i) c.args.number (Some c.in-Some-old_path.old.now)) in
    subst (λ (q : PartsView). AreOnPaths q c.deref-2.result.now) (sym (c.set_back_all.ensures ∙ ap (all_set_back p) (c.deref.ensures.value ∙ here)))
    (subst (λ (ns : List ℕ). AreOnPaths (all_set_back p (overtaken p.calls c.args.number (Some c.in-Some-old_path.old.now))) ns) (sym (c.deref-2.ensures.value ∙ here))
    (overtaken_paths p core.history core.sound c.args.number c.in-Some-old_path.old.now))

pub returns-clause-helped : goal.returns-clause-helped
returns-clause-helped c = λ d at same t keeps.
    let k = c.in-Some.call.now in
    let old = c.in-Some-old_path.old.now in
    let numbers = c.overtaken.new.numbers.items in
    let calls : c.args.self.now.calls ≡ c.self.inside.calls = ap (λ (v : PartsView). v.calls) (sym c.self.view_is) in
    let store : c.args.self.now.store ≡ c.self.inside.store = ap (λ (v : PartsView). v.store) (sym c.self.view_is) in
    let is : d ≡ k = some_eq d k (sym at ∙ ap (λ (cs : List (ℕ × Call)). call_at cs c.args.number) calls ∙ sym c.in-Some.ensures) in
    let moved : moved_by (answer_to t k.session k.number k.moment k.request).changes ≡ Some old =
    moved_is t k.session k.number k.moment k.request old (sym c.in-Some-old_path.ensures) (sym (c.is_move.ensures t (subst (λ (s : StoreState). Keeps s t) store keeps)) ∙ c.if-not-is_move.false) in
    let moved_here : moved_by (answer_to t d.session d.number d.moment d.request).changes ≡ Some old =
    ap (λ (x : Call). moved_by (answer_to t x.session x.number x.moment x.request).changes) is ∙ moved in
    let back : c.set_back_all.new.self ≡ all_set_back c.args.self.now numbers = c.set_back_all.ensures ∙ ap (all_set_back c.args.self.now) c.deref.ensures.value in (
      numbers,
      c.overtaken.ensures.numbers ∙ (λ i. overtaken (sym calls i) (sym same i) (sym moved_here i)),
      subst (λ (x : PartsView). HelpsAll x numbers c.help_all.new.self) back (subst (λ (ns : List ℕ). HelpsAll c.set_back_all.new.self ns c.help_all.new.self) c.deref-2.ensures.value c.help_all.ensures),
    )

pub returns-in-NoWay-clause-helped : goal.returns-in-NoWay-clause-helped
returns-in-NoWay-clause-helped c = λ d at same t keeps.
    let p = c.args.self.now in (
      [],
      ap (overtaken p.calls d.number) (sym (nowhere_stays keeps d.session d.number d.moment d.request c.args.ways (c.requires.located d at) c.in-NoWay.is)),
      refl,
    )
