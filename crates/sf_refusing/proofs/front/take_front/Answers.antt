use Rattle.std.proofs.Common.{◌≡◌, ◌<◌, ◌⊎◌, ℕ, List, [], Ok, false, length, take, refl, ap, sym, ◌∙◌, subst}
use Rattle.std.specs.Global.{Vec}
use Rattle.std.proofs.lemmas.Result.{err_from_is_err_and}
use Rattle.sf_engine.specs.Promise.{Entry, BytesFed}
use Rattle.sf_refusing.specs.declared.given.GivenRule.{GivenRule}
use Rattle.sf_refusing.specs.declared.passage.Passage.{Passage}
use Rattle.sf_refusing.specs.Journal.{log_of}
use Rattle.sf_refusing.proofs.Vecs.{vec_of}
use Rattle.sf_refusing.proofs.Faults.{feed_fault}
use Rattle.sf_wire.specs.declared.cutting.Cut.TheVariants as cut
use Rattle.sf_wire.specs.Packets.{IsCut}
use Rattle.sf_wire.specs.Streams.{HasBody}
use Rattle.sf_refusing.specs.Refusing.{IsFed, IsUnruled}
use Rattle.sf_refusing.proofs.Deciding.{none_held, done_err, done_did, done_nothing, bad_goes, unruled_goes}
use Rattle.sf_refusing.proofs.front.take_front.Goals as goal
use Rattle.sf_refusing.proofs.front.take_front.Goals.{in-Bad, in-Whole+else-is_ruled}

pub returns-in-More : goal.returns-in-More
returns-in-More g c = λ journal S.
    let more : IsCut c.args.passage.now.held.items cut.More = subst (λ (b : List ℕ). IsCut b cut.More) c.as_slice.ensures c.in-More.ensures.found in
    done_nothing g.E.Sftp.has_log c.args.engine.now journal c.args.session c.args.passage.now c.args.rules.now.items (Ok false)
    (none_held g.E.Sftp.has_log c.args.engine.now journal c.args.session c.args.passage.now c.args.rules.now.items S more) S

pub returns-in_err-pass : goal.returns-in_err-pass
returns-in_err-pass g c = λ journal S.
    let p = err_from_is_err_and c.from_residual.result c.from_residual.ensures.1 in
    let err = c.in_err-pass.ensures.err in
    let fed : Vec ℕ = vec_of c.args.rules.now (take c.match-cut.len c.args.passage.now.held.items) c.in_err-pass.ensures.short in
    let oom = p.2 ∙ feed_fault (log_of journal) c.args.session fed c.in_err-pass.field-0.0 S.waits (c.in_err-pass.ensures.fault fed refl (log_of journal) S.has) in
    done_err g.E.Sftp.has_log c.args.engine.now c.pass.new.engine journal c.args.session c.args.passage.now c.pass.new.self c.args.rules.now.items c.from_residual.result p.0 p.1 oom err.1 (ap (λ (x : Passage). x.held.items) err.0) (ap (λ (x : Passage). x.output.items) err.0) (ap (λ (x : Passage). x.begun) err.0) S

pub returns : goal.returns
returns g c = λ journal S.
    let p : Passage = c.args.passage.now in
    let held : List ℕ = p.held.items in
    let len : ℕ = c.match-cut.len in
    let fed : Vec ℕ = vec_of c.args.rules.now (take len held) c.in_ok-pass.ensures.short in
    let on = c.in_ok-pass.ensures.fed fed refl (log_of journal) S.has in
    let e : Entry = BytesFed c.args.session fed in
    let F : IsFed c.args.session (take len held) e = record { fed = fed; items = refl; is = refl } in
    let ok = c.in_ok-pass.ensures.ok in
    let goes : (0 < length (take len held)) × IsUnruled journal c.args.session (take len held) =
    elim c.match-cut.branch [
      | in-Bad w ↦
          bad_goes journal c.args.session held len w.in-Bad.field-0 (w.len-is ∙ w.len-len.ensures.value)
          (subst (λ (b : List ℕ). IsCut b (cut.Bad w.in-Bad.field-0)) c.as_slice.ensures w.in-Bad.ensures.found)
      | in-Whole+else-is_ruled w ↦
          let free = subst (λ (rs : List GivenRule). (p.begun ≡ false) ⊎ (rs ≡ [])) w.deref.ensures.value (w.is_ruled.ensures.unruled w.if-is_ruled.false) in
          unruled_goes journal c.args.session p c.args.rules.now.items len S.at S.rules free
          (subst (λ (n : ℕ). HasBody held n) (sym w.len-is) (subst (λ (b : List ℕ). HasBody b w.in-Whole.len) c.as_slice.ensures w.in-Whole.ensures.whole))
    ] in
    done_did g.E.Sftp.has_log c.args.engine.now c.pass.new.engine journal c.args.session p c.pass.new.self c.args.rules.now.items e len S F on ok.0 ok.1 ok.2 goes.0 goes.1
