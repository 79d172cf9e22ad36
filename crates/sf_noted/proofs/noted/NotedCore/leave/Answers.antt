use Rattle.std.proofs.Common.{◌≡◌, ◌≢◌, ◌++◌, ◌∷◌, [], ℕ, List, Result, Ok, Err, rules, refl, sym, ap, ◌∙◌, subst}
use Rattle.std.specs.Prelude.{slice_set, IsOk, OnOk, OnErr}
use Rattle.sf_call.specs.declared.record.Record.{Record}
use Rattle.sf_call.specs.declared.record.Record.TheVariants as record'
use Rattle.sf_core.specs.Cores.{lane_state}
use Rattle.sf_core.specs.Cores.LaneState.{NoLane, Idle}
use Rattle.sf_noted.specs.Pages.{Page}
use Rattle.sf_noted.specs.declared.page.PageChange.TheVariants.{Leaves}
use Rattle.sf_noted.specs.PageChanges.{page, page_after}
use Rattle.sf_noted.specs.Noted.{PagesAgree}
use Rattle.sf_noted.proofs.Lanes.{own_place}
use Rattle.sf_noted.proofs.Agreeing.{idle_there, leaves}
use Rattle.sf_noted.proofs.noted.NotedCore.leave.Goals as goal

ok_unless : {A B P : Type 0} (r : Result A B) → OnErr r P → (P → ⊥) → IsOk r
ok_unless (Ok x) e n = search rules
ok_unless (Err y) e n = absurd (n e)

at_ok : {A B P Q : Type 0} (r : Result A B) → OnErr r P → (P → ⊥) → OnOk r Q → Q
at_ok (Ok x) e n q = q
at_ok (Err y) e n q = absurd (n e)

pub left-share-requires : goal.left-share-requires
left-share-requires g c =
    let n = c.self.invariant in
    let t = c.lane.inside.ticket in
    let rests = ap (λ (x : ℕ × Page). x.1.state) c.lane.view_is ∙ c.requires in
    let idle = idle_there c.self.inside.core c.self.inside.keeper c.self.inside.log n.0 t.0 t.1 c.agrees.ensures.known rests in
    ok_unless c.leave.result c.leave.ensures.err (λ x. x.1 (ap (lane_state c.self.inside.core) (own_place _ _ _ c.lane.invariant) ∙ idle))

pub invariant_of-self : goal.invariant_of-self
invariant_of-self g c =
    let n = c.self.invariant in
    let t = c.lane.inside.ticket in
    let a = c.agrees.ensures in
    let e = c.leave.ensures in
    let session = c.lane.inside.lane.session in
    let rests = ap (λ (x : ℕ × Page). x.1.state) c.lane.view_is ∙ c.requires in
    let idle = idle_there c.self.inside.core c.self.inside.keeper c.self.inside.log n.0 t.0 t.1 a.known rests in
    let never = λ (x : (c.leave.new.self ≡ c.self.inside.core) × (lane_state c.self.inside.core session ≢ Idle)). x.1 (ap (lane_state c.self.inside.core) (own_place _ _ _ c.lane.invariant) ∙ idle) in
    let l = at_ok c.leave.result e.err never e.ok in
    let hist = at_ok c.leave.result e.err never e.history in
    let h = c.self.inside.log ++ record'.Left session ∷ [] in
    let grown : c.grow.new.self ≡ h = c.grow.ensures.1 ∙ ap (λ (rs : List Record). c.self.inside.log ++ rs) (c.grow.ensures.2 ∙ ap (λ (s : ℕ). record'.Left s ∷ []) c.session-number.ensures) in
    let lines : c.change.new.self ≡ slice_set c.self.inside.keeper t.0 (page NoLane t.1.told) =
    c.change.ensures.all ∙ (λ i. slice_set (a.all i) (a.ticket i).0 (page_after (a.ticket i).1 Leaves)) in (
      subst (λ (rs : List Record). PagesAgree c.leave.new.self c.change.new.self rs) (sym grown) (subst (λ (ps : List Page). PagesAgree c.leave.new.self ps h) (sym lines) (leaves c.self.inside.core c.leave.new.self session c.self.inside.keeper c.self.inside.log n.0 (hist c.self.inside.log n.0.history) l t.0 t.1 a.known (own_place _ _ _ c.lane.invariant) rests)),
      n.1 ∙ sym l.drawn,
    )

pub grow-requires : goal.grow-requires
grow-requires g c = (record'.Left c.session-number.result ∷ [], refl)
