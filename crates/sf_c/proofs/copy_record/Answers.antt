use Rattle.std.proofs.Common.{◌≡◌, ◌∙◌, ◌++◌, ℕ, List, length, take, drop, slice_get, Some, pos, refl, ap, subst, inl, rules}
use Rattle.std.proofs.lemmas.Option.{slice_get_read}
use mir.Syntax.{w64}
use mir.Val.{to_z}
use Rattle.sf_call.specs.declared.record.Record.{Record}
use Rattle.sf_core.specs.Cores.{CoreView}
use Rattle.sf_c.specs.Records.{Recounts}
use Rattle.sf_c.proofs.copy_record.Goals as goal

pub returns : goal.returns
returns c =
    let records = c.history-records.result.now in
    let kept = c.in-Some.record.now in
    let r = c.in-Ok.recounted in
    let look = c.in-Some.ensures.lookup in
    let same : records ≡ c.args.engine.now.core.records = c.history-records.ensures.records ∙ ap (λ (k : CoreView). k.records) c.core.ensures in
    let shown : to_z w64 (length records) ≡ pos (length records) = search rules in
    let n = subst (λ (l : List Record). to_z w64 (length records) ≡ pos (length l)) same shown in
    let there = subst (λ (l : List Record). slice_get l c.args.at ≡ Some kept) same (slice_get_read records (length records) c.args.at kept refl look.3.0 look.1) in
    let recount : Recounts kept r = c.in-Ok.ensures in
    let copied = subst (λ (l : List ℕ). c.copy_front.new.room ≡ take (length c.args.room.now) l ++ drop (length l) c.args.room.now) c.deref.ensures.value c.copy_front.ensures in
    inl (n, (kept, r, there, recount, refl, copied))
