use Rattle.std.proofs.Common.{◌≡◌, ℕ, List, Some, None, sym, ap, subst, ◌∙◌, refl, arith}
use Rattle.std.specs.Option.{option_and_then}
use Rattle.sf_book.specs.Books.{BookView, put}
use Rattle.sf_call.specs.declared.call.Call.{Call}
use Rattle.sf_call.specs.declared.call.Stage.{Stage}
use Rattle.sf_call.specs.declared.record.Record.TheVariants.{Did}
use Rattle.sf_call.specs.declared.request.Request.{Request}
use Rattle.sf_call.specs.Unanswered.{answered}
use Rattle.sf_walk.specs.Ways.{IsLocated}
use Rattle.sf_walk.specs.Files.{IsSettled}
use Rattle.sf_core.specs.Cores.{call_at}
use Rattle.sf_core.specs.Parts.{PartsView}
use Rattle.sf_core.specs.Finishing.{IsSettledWhereFree}
use Rattle.sf_core.specs.Stepping.{HelpState, freed}
use Rattle.sf_core.proofs.Maps.{some_eq, none_some}
use Rattle.sf_core.proofs.Readying.{settled_decided}
use Rattle.sf_core.proofs.Helped.{back_copy, requests_then, answered_request, back_same, book_same, settled_then, still_none, same_call, located_then, settled_call}
use Rattle.sf_walk.specs.Files.{file_handle}
use Rattle.sf_core.proofs.CopySteps.{path_no_write}
use Rattle.sf_core.proofs.parts.Parts.help.Goals as goal

pub returns-in_default-clause-helps : goal.returns-in_default-clause-helps
returns-in_default-clause-helps c = λ it at fresh copied.
    let p = c.args.self.now in
    let q = c.ways_to-ways.new.self in
    absurd (still_none p q c.args.overtaken c.ways_to-ways.result c.ways_to-ways.ensures.ready c.ways_to-ways.ensures.none c.requires.settled
    (subst (λ (v : PartsView). call_at v.calls c.args.overtaken ≡ None) c.self.view_is (sym c.in_default.ensures)) it at)

pub returns-in_default-clause-room : goal.returns-in_default-clause-room
returns-in_default-clause-room c =
    let e = ap (λ (b : BookView). b.room) (book_same c.args.self.now c.ways_to-ways.new.self c.args.overtaken c.ways_to-ways.result c.ways_to-ways.ensures.ready c.ways_to-ways.ensures.none c.requires.settled) in
    omega (arith, e)

pub returns-in_default-clause-settled : goal.returns-in_default-clause-settled
returns-in_default-clause-settled c =
    settled_then c.args.self.now c.ways_to-ways.new.self c.args.overtaken c.ways_to-ways.result c.ways_to-ways.ensures.ready c.ways_to-ways.ensures.none c.requires.settled

pub decide-reply-requires-clause-located : goal.decide-reply-requires-clause-located
decide-reply-requires-clause-located c =
    let call = c.in-Some.call.now in
    let at : call_at c.ways_to-ways.new.self.calls c.args.overtaken ≡ Some call = subst (λ (v : PartsView). call_at v.calls c.args.overtaken ≡ Some call) c.self.view_is (sym c.in-Some.ensures) in
    subst (λ (v : PartsView). IsLocated v.store call.request c.ways_to-ways.result) (sym c.self.view_is)
    (located_then c.args.self.now c.ways_to-ways.new.self c.args.overtaken c.ways_to-ways.result c.ways_to-ways.ensures.ready c.ways_to-ways.ensures.none c.requires.settled call at)

pub decide-reply-requires-clause-not_write : goal.decide-reply-requires-clause-not_write
decide-reply-requires-clause-not_write c =
    let call = c.in-Some.call.now in
    let at : call_at c.ways_to-ways.new.self.calls c.args.overtaken ≡ Some call = subst (λ (v : PartsView). call_at v.calls c.args.overtaken ≡ Some call) c.self.view_is (sym c.in-Some.ensures) in
    let before = requests_then c.args.self.now c.ways_to-ways.new.self c.args.overtaken c.ways_to-ways.result c.ways_to-ways.ensures.ready c.ways_to-ways.ensures.none c.requires.settled c.args.overtaken call at in
    path_no_write call.request (ap file_handle before.2 ∙ c.requires.path before.0 before.1)

pub decide-reply-requires-clause-settled : goal.decide-reply-requires-clause-settled
decide-reply-requires-clause-settled c =
    let call = c.in-Some.call.now in
    let at : call_at c.ways_to-ways.new.self.calls c.args.overtaken ≡ Some call = subst (λ (v : PartsView). call_at v.calls c.args.overtaken ≡ Some call) c.self.view_is (sym c.in-Some.ensures) in
    subst (λ (v : PartsView). IsSettled v.store call.session call.request c.ways_to-ways.result.path) (sym c.self.view_is)
    (settled_call c.args.self.now c.ways_to-ways.new.self c.args.overtaken c.ways_to-ways.result c.ways_to-ways.ensures.ready c.ways_to-ways.ensures.none c.requires.settled c.requires.path call at)

pub returns-in_default-set_reply-clause-helps : goal.returns-in_default-set_reply-clause-helps
returns-in_default-set_reply-clause-helps c = λ it at fresh copied.
    let call = c.in-Some.call.now in
    let at_q : call_at c.ways_to-ways.new.self.calls c.args.overtaken ≡ Some call = subst (λ (v : PartsView). call_at v.calls c.args.overtaken ≡ Some call) c.self.view_is (sym c.in-Some.ensures) in
    let back = same_call c.args.self.now c.ways_to-ways.new.self c.args.overtaken c.ways_to-ways.result c.ways_to-ways.ensures.ready c.ways_to-ways.ensures.none c.requires.settled it call at at_q in
    let copy : call.copy ≡ Some it.request = back_copy call it back ∙ copied in
    absurd (none_some it.request (c.in_default-set_reply.ensures.copy ∙ ap (option_and_then (λ (x : Call). x.copy)) (sym c.in-Some.ensures) ∙ copy))

pub returns-in_default-set_reply-clause-room : goal.returns-in_default-set_reply-clause-room
returns-in_default-set_reply-clause-room c =
    let e = ap (λ (b : BookView). b.room) (book_same c.args.self.now c.ways_to-ways.new.self c.args.overtaken c.ways_to-ways.result c.ways_to-ways.ensures.ready c.ways_to-ways.ensures.none c.requires.settled) in
    let f = ap (λ (v : PartsView). v.book.room) c.self.view_is in
    omega (arith, e, f)

pub returns-in_default-set_reply-clause-settled : goal.returns-in_default-set_reply-clause-settled
returns-in_default-set_reply-clause-settled c =
    settled_decided c.self.inside.store c.decide-reply.new.store c.in-Some.call.now.number c.decide-reply.ensures.nodes
    (subst (λ (v : PartsView). IsSettledWhereFree v.store) (sym c.self.view_is)
    (settled_then c.args.self.now c.ways_to-ways.new.self c.args.overtaken c.ways_to-ways.result c.ways_to-ways.ensures.ready c.ways_to-ways.ensures.none c.requires.settled))

pub put-requires : goal.put-requires
put-requires c =
    let e = ap (λ (b : BookView). b.room) (book_same c.args.self.now c.ways_to-ways.new.self c.args.overtaken c.ways_to-ways.result c.ways_to-ways.ensures.ready c.ways_to-ways.ensures.none c.requires.settled) in
    let f = ap (λ (v : PartsView). v.book.room) c.self.view_is in
    let r = c.requires.room in
    omega (arith, e, f, r)

pub returns-clause-helps : goal.returns-clause-helps
returns-clause-helps c = λ it at fresh copied.
    let inside : PartsView = record { store = c.self.inside.store; book = c.self.inside.book; sessions = c.self.inside.sessions; calls = c.self.inside.calls; drawn = c.self.inside.drawn; joins = c.self.inside.joins } in
    let done : PartsView = record { store = c.decide-reply.new.store; book = c.put.new.self; sessions = c.self.inside.sessions; calls = c.set_reply.new.self; drawn = c.self.inside.drawn; joins = c.self.inside.joins } in
    let call = c.in-Some.call.now in
    let at_q : call_at c.ways_to-ways.new.self.calls c.args.overtaken ≡ Some call = subst (λ (v : PartsView). call_at v.calls c.args.overtaken ≡ Some call) c.self.view_is (sym c.in-Some.ensures) in
    let back = same_call c.args.self.now c.ways_to-ways.new.self c.args.overtaken c.ways_to-ways.result c.ways_to-ways.ensures.ready c.ways_to-ways.ensures.none c.requires.settled it call at at_q in
    let same : call ≡ it = back_same call it back fresh in
    let given = c.decide-reply.result.0 in
    let request : c.in-Some-set_reply.request ≡ it.request =
    some_eq c.in-Some-set_reply.request it.request (c.in-Some-set_reply.ensures.copy ∙ ap (option_and_then (λ (x : Call). x.copy)) (sym c.in-Some.ensures) ∙ back_copy call it back ∙ copied) in
    let own : HelpState inside done call c.args.overtaken given = record {
      records = record {
        mid = c.decide-reply.new.store;
        serves = record { served = c.decide-reply.ensures.served; sure = c.decide-reply.ensures.sure; nodes = c.decide-reply.ensures.nodes };
        store = sym (ap (λ (g : Stage). freed g c.decide-reply.new.store) (ap (λ (x : Call). x.stage) same ∙ fresh));
        book = c.put.ensures ∙ ap (λ (r : Request). put c.self.inside.book (Did call.number call.session call.moment r given)) (request ∙ ap (λ (x : Call). x.request) (sym same));
        drawn = refl;
        joins = refl;
      };
      look_ups = c.decide-reply.ensures.look_ups;
      sessions = refl;
      calls = c.in-Some-set_reply.ensures.calls ∙ ap (answered c.self.inside.calls c.args.overtaken) c.decide-reply.ensures.copy;
    } in (
      c.ways_to-ways.new.self,
      (c.ways_to-ways.ensures.ready it at).finishes,
      (given, subst (λ (v : PartsView). HelpState v done it c.args.overtaken given) c.self.view_is (subst (λ (x : Call). HelpState inside done x c.args.overtaken given) same own)),
    )

pub returns-clause-room : goal.returns-clause-room
returns-clause-room c =
    let e = ap (λ (b : BookView). b.room) (book_same c.args.self.now c.ways_to-ways.new.self c.args.overtaken c.ways_to-ways.result c.ways_to-ways.ensures.ready c.ways_to-ways.ensures.none c.requires.settled) in
    let f = ap (λ (v : PartsView). v.book.room) c.self.view_is in
    let g = ap (λ (b : BookView). b.room) c.put.ensures in
    omega (arith, e, f, g)

pub returns-clause-settled : goal.returns-clause-settled
returns-clause-settled c =
    settled_decided c.self.inside.store c.decide-reply.new.store c.in-Some.call.now.number c.decide-reply.ensures.nodes
    (subst (λ (v : PartsView). IsSettledWhereFree v.store) (sym c.self.view_is)
    (settled_then c.args.self.now c.ways_to-ways.new.self c.args.overtaken c.ways_to-ways.result c.ways_to-ways.ensures.ready c.ways_to-ways.ensures.none c.requires.settled))

pub returns-in_default-clause-requests : goal.returns-in_default-clause-requests
returns-in_default-clause-requests c =
    requests_then c.args.self.now c.ways_to-ways.new.self c.args.overtaken c.ways_to-ways.result c.ways_to-ways.ensures.ready c.ways_to-ways.ensures.none c.requires.settled

pub returns-in_default-set_reply-clause-requests : goal.returns-in_default-set_reply-clause-requests
returns-in_default-set_reply-clause-requests c = λ n d at.
    let before = requests_then c.args.self.now c.ways_to-ways.new.self c.args.overtaken c.ways_to-ways.result c.ways_to-ways.ensures.ready c.ways_to-ways.ensures.none c.requires.settled in
    let x = answered_request c.self.inside.calls c.args.overtaken n c.decide-reply.result.1 d (ap (λ (cs : List (ℕ × Call)). call_at cs n) (sym c.in_default-set_reply.ensures.calls) ∙ at) in
    let y = before n x.0 (subst (λ (v : PartsView). call_at v.calls n ≡ Some x.0) c.self.view_is x.1) in
    (y.0, y.1, x.2 ∙ y.2)

pub returns-clause-requests : goal.returns-clause-requests
returns-clause-requests c = λ n d at.
    let before = requests_then c.args.self.now c.ways_to-ways.new.self c.args.overtaken c.ways_to-ways.result c.ways_to-ways.ensures.ready c.ways_to-ways.ensures.none c.requires.settled in
    let x = answered_request c.self.inside.calls c.args.overtaken n c.decide-reply.result.1 d (ap (λ (cs : List (ℕ × Call)). call_at cs n) (sym c.in-Some-set_reply.ensures.calls) ∙ at) in
    let y = before n x.0 (subst (λ (v : PartsView). call_at v.calls n ≡ Some x.0) c.self.view_is x.1) in
    (y.0, y.1, x.2 ∙ y.2)
