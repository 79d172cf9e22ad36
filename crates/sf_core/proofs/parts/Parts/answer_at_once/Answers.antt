use Rattle.std.proofs.Common.{◌≡◌, ◌+◌, ◌∙◌, ap, sym, subst, arith}
use Rattle.sf_reply.specs.declared.reply.Reply.{Reply}
use Rattle.sf_call.proofs.Laws.{held_request}
use Rattle.sf_call.specs.Values.{IsCall}
use Rattle.sf_book.specs.Books.{put}
use Rattle.sf_inode.specs.Stores.{StoreState}
use Rattle.sf_core.specs.Parts.{PartsView}
use Rattle.sf_core.specs.Progress.{did, new_call}
use Rattle.sf_core.specs.Stepping.{ServesCall, AtOnceState}
use Rattle.sf_walk.specs.declared.finding.Located.TheVariants.{NoWay}
use Rattle.sf_walk.specs.declared.finding.Ways.{Ways}
use Rattle.sf_walk.specs.Files.{IsSettled}
use Rattle.sf_core.proofs.AtOnce.{at_once_silent, at_once_located, at_once_settled, decided_at_once}
use Rattle.sf_core.proofs.CopySteps.{no_write}
use Rattle.sf_core.proofs.parts.Parts.answer_at_once.Goals as goal

pub decide-reply-requires-clause-located : goal.decide-reply-requires-clause-located
decide-reply-requires-clause-located c = at_once_located c.args.self.now.store c.args.session c.args.request c.requires.at_once c.self.inside.store c.no_path-ways.result c.no_path-ways.ensures

pub decide-reply-requires-clause-not_write : goal.decide-reply-requires-clause-not_write
decide-reply-requires-clause-not_write c = no_write c.args.request (at_once_silent c.args.self.now.store c.args.session c.args.request c.requires.at_once)

pub decide-reply-requires-clause-settled : goal.decide-reply-requires-clause-settled
decide-reply-requires-clause-settled c =
    let p = c.args.self.now in
    let same = c.in_ok-make_room.ensures.same in
    let store : c.self.inside.store ≡ p.store = ap (λ (q : PartsView). q.store) c.self.view_is ∙ same.store in
    subst (λ (w : Ways). IsSettled c.self.inside.store c.args.session c.args.request w.path) (sym c.no_path-ways.ensures)
    (subst (λ (s : StoreState). IsSettled s c.args.session c.args.request NoWay) (sym store) (at_once_settled p.store c.args.session c.args.request c.requires.at_once c.requires.settled))

pub returns-clause-ok : goal.returns-clause-ok
returns-clause-ok c =
    let p = c.args.self.now in
    let m = c.make_room.new.self in
    let same = c.in_ok-make_room.ensures.same in
    let is : IsCall (p.drawn + 1) c.args.session c.args.moment c.args.request = record {
      number_fits = omega (arith, c.requires.unspent);
      session_fits = c.ranges.session.fits;
      moment_fits = c.ranges.moment.fits;
      request_fits = held_request c.args.request _ c.well_formed.1.1.0.1;
    } in
    let first = c.decide-reply.result.0 in
    let drawn : c.self.inside.drawn ≡ p.drawn = ap (λ (q : PartsView). q.drawn) c.self.view_is ∙ same.drawn in
    let store : c.self.inside.store ≡ p.store = ap (λ (q : PartsView). q.store) c.self.view_is ∙ same.store in
    let book : c.self.inside.book ≡ m.book = ap (λ (q : PartsView). q.book) c.self.view_is in
    let call = new_call (p.drawn + 1) c.args.session c.args.moment c.args.request in
    let serves : ServesCall p.store c.decide-reply.new.store call first =
    subst (λ k. ServesCall p.store c.decide-reply.new.store (new_call (k + 1) c.args.session c.args.moment c.args.request) first) drawn
    (subst (λ (s : StoreState). ServesCall s c.decide-reply.new.store (new_call (c.self.inside.drawn + 1) c.args.session c.args.moment c.args.request) first) store
    (record { served = c.decide-reply.ensures.served; sure = c.decide-reply.ensures.sure; nodes = c.decide-reply.ensures.nodes })) in
    let puts : c.put.new.self ≡ put m.book (did call first) =
    c.put.ensures ∙ ap (put c.self.inside.book) c.record_of.ensures ∙ (λ i. put (book i) (did (new_call (drawn i + 1) c.args.session c.args.moment c.args.request) first)) in
    let made = decided_at_once p m same c.in_ok-make_room.ensures.room c.args.session c.args.request c.args.moment is c.requires.idle c.requires.new c.decide-reply.new.store c.put.new.self first serves (c.decide-reply.ensures.look_ups ∙ ap (λ (s : StoreState). s.look_ups) store) puts in
    let q : PartsView = record { store = c.decide-reply.new.store; book = c.put.new.self; sessions = c.self.inside.sessions; calls = c.self.inside.calls; drawn = c.self.inside.drawn + 1; joins = c.self.inside.joins } in
    let shows : record { store = c.decide-reply.new.store; book = c.put.new.self; sessions = p.sessions; calls = p.calls; drawn = p.drawn + 1; joins = p.joins } ≡ q =
    λ i. record {
      store = c.decide-reply.new.store;
      book = c.put.new.self;
      sessions = sym (ap (λ (x : PartsView). x.sessions) c.self.view_is ∙ same.sessions) i;
      calls = sym (ap (λ (x : PartsView). x.calls) c.self.view_is ∙ same.calls) i;
      drawn = sym drawn i + 1;
      joins = sym (ap (λ (x : PartsView). x.joins) c.self.view_is ∙ same.joins) i;
    } in
    subst (λ (given : Reply). AtOnceState p q c.args.session c.args.request c.args.moment given) (sym c.decide-reply.ensures.copy)
    (subst (λ (x : PartsView). AtOnceState p x c.args.session c.args.request c.args.moment first) shows made)
