use Rattle.std.proofs.Common.{◌≡◌, ℕ, List, ◌≤◌, take, Result, Ok, Err, false, refl, arith, ap, sym, ◌∙◌, subst, length-take}
use Rattle.std.specs.Global.{Vec}
use Rattle.std.specs.Result.{is_err}
use Rattle.sf_engine.specs.declared.event.Event.TheVariants as event
use Rattle.sf_engine.specs.declared.event.Happened.{Happened}
use Rattle.sf_engine.specs.declared.event.EngineFault.{EngineFault}
use Rattle.sf_engine.specs.HasLog.{AppendsEntry}
use Rattle.sf_alone.proofs.on_engine.feed.Goals as goal

-- the result of an event that succeeded
some_ok : {T E : Type 0} (r : Result T E) → is_err r ≡ false → (x : T) × (r ≡ Ok x)
some_ok (Ok x) e = (x, refl)
some_ok (Err f) e = cc

-- a vector of the first elements of another, at the same address
abbrev front : (v : Vec ℕ) (n : ℕ) → n ≤ v.len → Vec ℕ
front v n within = record {
  ptr = v.ptr;
  len = n;
  cap = v.cap;
  alloc = v.alloc;
  items = take n v.items;
  ok = (omega (arith, within, v.ok.0, length-take n v.items), omega (arith, within, v.ok.1));
  small = v.small;
}

pub returns-clause-fed : goal.returns-clause-fed
returns-clause-fed c =
    let fed = front c.args.piece.now c.args.n c.requires in
    let k = some_ok c.feed.result (sym c.is_err.ensures.value ∙ c.if-is_err.false) in
    let P : Result Happened EngineFault → Type 0 = λ r. AppendsEntry c.args.engine.now (event.Feed c.args.session fed) r c.feed.new.self in
    (fed, refl, k.0, subst P k.1 (c.feed.ensures.log fed (ap (λ (items : List ℕ). take c.args.n items) (sym c.deref.ensures.value))))
