use Rattle.std.proofs.Common.{◌≡◌, ◌<◌, ℕ, List, Some, false, length, take, slice_get, refl, ap, sym, ◌∙◌, subst, arith}
use Rattle.std.specs.Global.{Vec}
use Rattle.std.specs.Prelude.{slice_range}
use Rattle.std.proofs.lemmas.Result.{err_from_is_err_and}
use Rattle.std.proofs.lemmas.Option.{slice_get_within, slice_get_read}
use Rattle.sf_request.specs.declared.request.Asked.TheVariants.{Request}
use Rattle.sf_request.specs.Requests.{Asks}
use Rattle.sf_engine.specs.Promise.{Entry, BytesFed, BytesSent}
use Rattle.sf_refusing.specs.declared.given.GivenRule.{GivenRule}
use Rattle.sf_refusing.specs.declared.passage.Passage.{Passage}
use Rattle.sf_refusing.specs.Rules.{fits}
use Rattle.sf_refusing.specs.Counting.{refuses_now}
use Rattle.sf_refusing.proofs.Growing.{some_same}
use Rattle.sf_refusing.proofs.Counts.{AreCounted}
use Rattle.sf_refusing.specs.Journal.{log_of}
use Rattle.sf_refusing.proofs.Vecs.{vec_of}
use Rattle.sf_refusing.proofs.Faults.{feed_fault}
use Rattle.sf_refusing.proofs.Deciding.{body_at, seen_body, done_err, done_other, done_pass, done_refuse}
use Rattle.sf_refusing.proofs.front.decide.Goals as goal

pub returns-in_err-pass : goal.returns-in_err-pass
returns-in_err-pass g c = λ journal S.
    let p = err_from_is_err_and c.from_residual.result c.from_residual.ensures.1 in
    let err = c.in_err-pass.ensures.err in
    let fed : Vec ℕ = vec_of c.args.rules.now (take c.args.len c.args.passage.now.held.items) c.in_err-pass.ensures.short in
    let oom = p.2 ∙ feed_fault (log_of journal) c.args.session fed c.in_err-pass.field-0.0 S.waits (c.in_err-pass.ensures.fault fed refl (log_of journal) S.has) in
    done_err g.E.Sftp.has_log c.args.engine.now c.pass.new.engine journal c.args.session c.args.passage.now c.pass.new.self c.args.rules.now.items c.from_residual.result p.0 p.1 oom err.1 (ap (λ (x : Passage). x.held.items) err.0) (ap (λ (x : Passage). x.output.items) err.0) (ap (λ (x : Passage). x.begun) err.0) S

pub returns-in_err-pass-2 : goal.returns-in_err-pass-2
returns-in_err-pass-2 g c = λ journal S.
    let p = err_from_is_err_and c.from_residual-in_err-pass-2.result c.from_residual-in_err-pass-2.ensures.1 in
    let err = c.in_err-pass-2.ensures.err in
    let fed : Vec ℕ = vec_of c.args.rules.now (take c.args.len c.args.passage.now.held.items) c.in_err-pass-2.ensures.short in
    let oom = p.2 ∙ feed_fault (log_of journal) c.args.session fed c.in_err-pass-2.field-0.0 S.waits (c.in_err-pass-2.ensures.fault fed refl (log_of journal) S.has) in
    done_err g.E.Sftp.has_log c.args.engine.now c.pass-in_default-first_refusing.new.engine journal c.args.session c.args.passage.now c.pass-in_default-first_refusing.new.self c.args.rules.now.items c.from_residual-in_err-pass-2.result p.0 p.1 oom err.1 (ap (λ (x : Passage). x.held.items) err.0) (ap (λ (x : Passage). x.output.items) err.0) (ap (λ (x : Passage). x.begun) err.0) S

pub returns-in_err-refuse : goal.returns-in_err-refuse
returns-in_err-refuse g c = λ journal S.
    let p = err_from_is_err_and c.from_residual-in_err-refuse.result c.from_residual-in_err-refuse.ensures.1 in
    let err = c.in_err-refuse.ensures.err in
    let oom = p.2 ∙ c.in_err-refuse.ensures.fault (log_of journal) S.has S.waits.at.0 in
    done_err g.E.Sftp.has_log c.args.engine.now c.refuse.new.engine journal c.args.session c.args.passage.now c.refuse.new.self c.args.rules.now.items c.from_residual-in_err-refuse.result p.0 p.1 oom err.2 err.0 err.1 c.in_err-refuse.ensures.begun S

pub returns-in_default-found : goal.returns-in_default-found
returns-in_default-found g c = λ journal S.
    let held : List ℕ = c.args.passage.now.held.items in
    let len : ℕ = c.args.len in
    let none = rw c.in_default-found.is at c.in-Ok.ensures.none in
    let body : slice_range c.as_slice.result.now 4 len ≡ body_at held len = seen_body c.as_slice.result.now held len c.as_slice.ensures c.requires.whole in
    let fed : Vec ℕ = vec_of c.args.rules.now (take len held) c.in_ok-pass.ensures.short in
    let on = c.in_ok-pass.ensures.fed fed refl (log_of journal) S.has in
    let e : Entry = BytesFed c.args.session fed in
    let ok = c.in_ok-pass.ensures.ok in
    done_other g.E.Sftp.has_log c.args.engine.now c.pass.new.engine journal c.args.session c.args.passage.now c.pass.new.self c.args.rules.now.items e len none.0 S c.requires.whole
    (subst (λ (b : List ℕ). Asks b none.0) body none.1) none.2
    (record { fed = fed; items = refl; is = refl }) on ok.0 ok.1 ok.2

pub returns-in_default-first_refusing : goal.returns-in_default-first_refusing
returns-in_default-first_refusing g c = λ journal S.
    let held : List ℕ = c.args.passage.now.held.items in
    let len : ℕ = c.args.len in
    let rules : List GivenRule = c.args.rules.now.items in
    let seen = c.in-Some.subject in
    let some = rw c.in-Some.is at c.in-Ok.ensures.some in
    let body : slice_range c.as_slice.result.now 4 len ≡ body_at held len = seen_body c.as_slice.result.now held len c.as_slice.ensures c.requires.whole in
    let fed : Vec ℕ = vec_of c.args.rules.now (take len held) c.in_ok-pass-2.ensures.short in
    let on = c.in_ok-pass-2.ensures.fed fed refl (log_of journal) S.has in
    let e : Entry = BytesFed c.args.session fed in
    let ok = c.in_ok-pass-2.ensures.ok in
    let none : (number : ℕ) (given : GivenRule) → slice_get rules number ≡ Some given → refuses_now given seen.session seen.kind seen.paths.items ≡ false =
    subst (λ (rs : List GivenRule). (number : ℕ) (given : GivenRule) → slice_get rs number ≡ Some given → refuses_now given seen.session seen.kind seen.paths.items ≡ false) c.deref.ensures.value c.in_default-first_refusing.ensures.none in
    let count : c.len-count.result ≡ length rules = omega (arith, c.len-count.ensures, c.args.rules.now.ok.0) in
    let counted = subst (λ (n : ℕ). AreCounted rules c.count_with.new.rules.items n (λ given. fits given.rule seen.session seen.kind seen.paths.items)) count (c.count_with.ensures.length, c.count_with.ensures.each) in
    done_pass g.E.Sftp.has_log c.args.engine.now c.pass-in_default-first_refusing.new.engine journal c.args.session c.args.passage.now c.pass-in_default-first_refusing.new.self rules c.count_with.new.rules.items e len c.in-Some.id some.0 seen.session seen.kind seen.paths.items S c.requires.whole
    (subst (λ (b : List ℕ). Asks b (Request c.in-Some.id some.0)) body some.1) (record { session_is = some.2; kind_is = some.3; paths_are = some.4 }) none
    (record { fed = fed; items = refl; is = refl }) on ok.0 ok.1 ok.2 counted

pub index-requires : goal.index-requires
index-requires g c =
    let found = c.in-Some-first_refusing.ensures.found in
    omega (arith, slice_get_within c.deref.result.now c.in-Some-first_refusing.number found.0 found.1, ap (λ (rs : List GivenRule). length rs) c.deref.ensures.value, c.args.rules.now.ok.0)

pub overflow_add-number : goal.overflow_add-number
overflow_add-number g c =
    let found = c.in-Some-first_refusing.ensures.found in
    omega (arith, slice_get_within c.deref.result.now c.in-Some-first_refusing.number found.0 found.1, ap (λ (rs : List GivenRule). length rs) c.deref.ensures.value, c.args.rules.now.ok.0, c.args.rules.now.ok.1, c.args.rules.now.small)

pub count_with-requires-2 : goal.count_with-requires-2
count_with-requires-2 g c =
    let found = c.in-Some-first_refusing.ensures.found in
    omega (arith, slice_get_within c.deref.result.now c.in-Some-first_refusing.number found.0 found.1, ap (λ (rs : List GivenRule). length rs) c.deref.ensures.value)

pub returns : goal.returns
returns g c = λ journal S.
    let held : List ℕ = c.args.passage.now.held.items in
    let len : ℕ = c.args.len in
    let rules : List GivenRule = c.args.rules.now.items in
    let seen = c.in-Some.subject in
    let number : ℕ = c.in-Some-first_refusing.number in
    let found = c.in-Some-first_refusing.ensures.found in
    let ok = c.in_ok-refuse.ensures.ok (log_of journal) S.has in
    let some = rw c.in-Some.is at c.in-Ok.ensures.some in
    let body : slice_range c.as_slice.result.now 4 len ≡ body_at held len = seen_body c.as_slice.result.now held len c.as_slice.ensures c.requires.whole in
    let here : slice_get rules number ≡ Some found.0 = ap (λ (rs : List GivenRule). slice_get rs number) (sym c.deref.ensures.value) ∙ found.1 in
    let item : GivenRule = c.index.result.now in
    let at : slice_get rules number ≡ Some item = slice_get_read rules (length rules) number item refl (slice_get_within rules number found.0 here) c.index.ensures in
    let code : item.rule.code ≡ found.0.rule.code = ap (λ (given : GivenRule). given.rule.code) (some_same item found.0 (sym at ∙ here)) in
    let first : (other : ℕ) (given : GivenRule) → other < number → slice_get rules other ≡ Some given → refuses_now given seen.session seen.kind seen.paths.items ≡ false =
    subst (λ (rs : List GivenRule). (other : ℕ) (given : GivenRule) → other < number → slice_get rs other ≡ Some given → refuses_now given seen.session seen.kind seen.paths.items ≡ false) c.deref.ensures.value c.in-Some-first_refusing.ensures.first in
    let e : Entry = BytesSent c.args.session (length ok.0) in
    done_refuse g.E.Sftp.has_log c.args.engine.now c.refuse.new.engine journal c.args.session c.args.passage.now c.refuse.new.self rules c.count_with-2.new.rules.items e ok.0 len c.in-Some.id some.0 seen.session seen.kind seen.paths.items number found.0 item.rule.code S c.requires.whole c.requires.begun
    (subst (λ (b : List ℕ). Asks b (Request c.in-Some.id some.0)) body some.1) (record { session_is = some.2; kind_is = some.3; paths_are = some.4 }) here code found.2 first
    refl ok.1 ok.3 c.in_ok-refuse.ensures.held ok.2 c.in_ok-refuse.ensures.begun (c.count_with-2.ensures.length, c.count_with-2.ensures.each)
