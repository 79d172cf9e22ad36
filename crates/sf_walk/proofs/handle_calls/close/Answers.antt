use Rattle.std.specs.Prelude.{◌≡◌, true, false, Option, Some, None, is_some, option_map}
use Rattle.std.proofs.Common.{sym, ap, subst, refl, ◌∙◌}
use Rattle.sf_reply.specs.declared.reply.Reply.TheVariants.{Status}
use Rattle.sf_reply.specs.declared.reply.StatusCode.TheVariants.{Failure}
use Rattle.sf_call.specs.Calls.{close}
use Rattle.sf_call.specs.Handles.{handle_in}
use Rattle.sf_call.specs.declared.handle.Handle.{Handle}
use Rattle.sf_inode.specs.Stores.{StoreState, open_handle_at, shown_handle}
use Rattle.sf_walk.specs.Served.{HoldersStay, IsCarriedOut}
use Rattle.sf_walk.proofs.Holders.{stays_closed, stays_same}
use Rattle.sf_walk.proofs.OpenHandles.{is_open, close_served}
use Rattle.sf_walk.proofs.handle_calls.close.Goals as goal

-- what follows from a test of an option
there : {A : Type 0} (o : Option A) → is_some o ≡ true → (x : A) × (Some x ≡ o)
there None e = let k : false ≡ true = e in cc
there (Some x) e = (x, refl)

lacking : {A : Type 0} (o : Option A) → is_some o ≡ false → o ≡ None
lacking None e = refl
lacking (Some x) e = let k : true ≡ false = e in cc

pub returns-then-close-clause-served : goal.returns-then-close-clause-served
returns-then-close-clause-served c = λ t h.
    let found = there (open_handle_at c.args.store.now c.args.session c.args.number) (sym c.close.ensures.told ∙ c.if-close.true) in
    close_served c.args.store.now t c.args.session c.args.number found.0
    (is_open c.args.store.now t c.args.session c.args.number found.0 h found.1)
    c.close.new.self c.close.ensures.closed

pub returns-then-close-clause-holders : goal.returns-then-close-clause-holders
returns-then-close-clause-holders c =
    subst (λ (x : StoreState). HoldersStay c.args.store.now x) (sym c.close.ensures.closed)
    (stays_closed c.args.store.now c.args.store.now c.args.session c.args.number (stays_same c.args.store.now c.args.store.now refl))

pub returns-else-close-clause-served : goal.returns-else-close-clause-served
returns-else-close-clause-served c = λ t h.
    let none = lacking (open_handle_at c.args.store.now c.args.session c.args.number) (sym c.close.ensures.told ∙ c.if-close.false) in
    let handle : handle_in t c.args.session c.args.number ≡ None = h.shows.by.handles c.args.session c.args.number ∙ ap (option_map (shown_handle c.args.session)) none in
    subst (λ (x : StoreState). IsCarriedOut x t (close c.args.number (handle_in t c.args.session c.args.number)) (Status Failure)) (sym (c.close.ensures.none c.if-close.false))
    (subst (λ (a : Option Handle). IsCarriedOut c.args.store.now t (close c.args.number a) (Status Failure)) (sym handle) (record { told = refl; tree = h }))
