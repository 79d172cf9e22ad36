-- A function that moves a pointer and an allocator from one struct into another, with what is owned at
-- the pointer.
pub use Rattle.std.proofs.Common.{refl}
pub use base.Logic.{emp}
pub use contract.Monad.{fact_i}
use Rattle.std.proofs.Common.{◌≡◌, List, [], ◌∷◌, ◌++◌, sym, subst, arith}
use seplogic.Ra.Ura.{Ura}
use mir.Syntax.{Sym, Ty, Fn, Callee, local, value_local, ty_ptr, ty_struct, tcons, tnil, seq, assign, place, field, copy, rv_opd, aggregate, return}
use mir.Val.{Val, vstruct, of_list, has_ty}
use base.Logic.{SProp, ent, id⊢}
use base.Fml.{Fml, ftrue, fsep}
use prog.Model.{Model}
use prog.Wp.{WpFn, Closed}
use types.Logic.{Logic}
use types.Kit.{‵, raw, ◌⊛◌, ◌$◌, ◌∵◌, !, qed, by, move, keep, split, fsplit, fjoin, fpick, fpack, feq_l, feq_i, rewrite, suffices, use0}
use types.Run.{stop, fld, of_opd, no_more, and_then, returns, enter}
use types.ByLocal.{alloc_all, pass_all, free_all, look_at, get, get_in, sets}
use types.Part.{agg, sub, whole}
use contract.Running.{Running, tables}
use denote.Exit.{Last, left, see, rest, yes}
use denote.RattleType.{RattleType, Valss, owns}
use denote.Builtin.{RawPtr}
use denote.Signature.{types_at, plain}
use denote.RawPtr.{Ptr, block_ptr, null_ptr, ptr_val}
use denote.Param.{layout}
use denote.Steps.{nothing}
use denote.Struct.Struct.{Shape, Struct, within}
use denote.Struct.Owning.{Owning, row}
use denote.Triple.Clauses.{Ended, Clauses, closing, Lasts, at_exit}
use denote.Triple.Spec.{Meets}
use denote.Triple.Walked.{Stays, stay_dropped, Goes-dropped, walk_of}
use Rattle.std.proofs.alloc.Calls.{handle_tells}
use Rattle.std.proofs.alloc.Global.TheLaws.{the_row_laws}
use Rattle.std.proofs.raw_atomic.Walks.{proved_at, leaves}
use Rattle.std.specs.Global.{Global}
use Rattle.std.specs.contracts.alloc.Global as heap
use Rattle.std.specs.contracts.impls.GlobalAllocator.TheImpl.{ghosts}
use Rattle.core.proofs.cell.Inside.{Good}
use Rattle.std_alloc.proofs.ResultValues.{and_tt}
use Rattle.sf_c.specs.contracts.handle.RawBox as raw_box
use Rattle.sf_c.proofs.Values.{al, both}

abbrev pub RawBox : RattleType → Owning
RawBox R = raw_box.the_type R heap.the_row ghosts

-- the type of such a struct, and the function's
abbrev words : Sym → Ty
words name = ty_struct name (tcons ty_ptr (tcons (layout heap.the_row) tnil))

abbrev moving : Owning → Owning → Ended
moving A B = record {
  signature = record { lifetimes = 0; outlives = []; params = plain (λ κs. row A) ∷ []; result = plain (λ κs. row B) };
  kept = (yes, tt);
}

-- its code
abbrev moving_code : Sym → Sym → Fn
moving_code a b = record {
  lifetimes = 0;
  outlives = [];
  ty_params = [];
  givens = 0;
  params = 1;
  locals = local (words b) value_local ∷ local (words a) value_local ∷ local ty_ptr value_local ∷ local (layout heap.the_row) value_local ∷ local ty_ptr value_local ∷ [];
  body = seq (assign (place 2 []) (rv_opd (copy (place 1 (field 0 ∷ []))))) (seq (assign (place 3 []) (rv_opd (copy (place 1 (field 1 ∷ [])))))
      (seq (assign (place 4 []) (rv_opd (copy (place 2 [])))) (seq (assign (place 0 []) (aggregate (copy (place 4 []) ∷ copy (place 3 []) ∷ []))) return)));
}

-- what is owned of the two fields
abbrev two : Shape
two = record { name = []; args = []; types = []; fields = RawPtr ∷ heap.the_row ∷ [] }

abbrev fields_owned : Ptr → Global → List Val → Fml
fields_owned p a = (Struct two).own_val (p, (a, tt))

ptr_good : (p : Ptr) → Good ty_ptr (ptr_val p)
ptr_good (block_ptr b o) = (tt, tt)
ptr_good null_ptr = (tt, omega arith)

words_good : (name : Sym) (p : Ptr) (h : Val) → Good (layout heap.the_row) h → Good (words name) (both (ptr_val p) h)
words_good name (block_ptr b o) h fits = (and_tt (has_ty (layout heap.the_row) h) fits.0, (tt, (fits.1, tt)))
words_good name null_ptr h fits = (and_tt (has_ty (layout heap.the_row) h) fits.0, (omega arith, (fits.1, tt)))

abbrev stays : (A B : Owning) → Stays (moving A B).signature.params (moving A B).kept
stays A B = (stay_dropped (plain (λ _. row A)) yes, tt)

module _ (A B : Owning) (at : A.D → Ptr) (alloc : A.D → Global) (to : A.D → B.D)
    (out : (d : A.D) (vs : List Val) → (row A).own_val d vs ≡ fsep (fields_owned (at d) (alloc d) vs) (A.heap d))
    (in_ : (d : A.D) (vs : List Val) → (row B).own_val (to d) vs ≡ fsep (fields_owned (at d) (alloc d) vs) (A.heap d))
    (silent : (d : A.D) (f : Last (A.exit yes) d) → left (A.exit yes) d f ≡ ftrue) where
  pub moves : {M : Type 1} (𝓤 : Ura M) (𝓛 : Logic 𝓤) (𝓜 : Model 𝓤 𝓛.H) (𝓡 : Running 𝓤 𝓛.H 𝓜)
      → (c : Clauses 𝓤 (moving A B))
      → ((d : A.D) (g : (c tt (d, tt)).ghost) → ent 𝓤 (emp 𝓤) ((c tt (d, tt)).ensures g (to d) (see (A.exit yes) d (rest (A.exit yes) d), tt)))
      → (k : Callee) → Closed 𝓤 𝓛.H (tables 𝓤 𝓛.H 𝓜 𝓡 𝓡.env).C (tables 𝓤 𝓛.H 𝓜 𝓡 𝓡.env).Λ k (moving_code A.name B.name)
      → Meets 𝓛 (moving A B).signature ((tables 𝓤 𝓛.H 𝓜 𝓡 𝓡.env).C k) (closing 𝓛 (moving A B) c)
  moves 𝓤 𝓛 𝓜 𝓡 c same k closed =
      let H = 𝓛.H in let 𝓣 = tables 𝓤 H 𝓜 𝓡 𝓡.env in let E = moving A B in let fn = moving_code A.name B.name in let Z : RattleType = heap.the_row in let hs = stays A B in
      proved_at 𝓛 E hs c 𝓜 𝓡 (Goes-dropped 𝓛 0 (plain (λ _. row A)) yes (λ κs. silent), tt) k fn closed (λ z are.
      let κs = z.0.0 in let v = z.0.3.0 in let vs = z.0.4.0 in let p = at v in let a = alloc v in let Post : Val → SProp 𝓤 = (walk_of 𝓛 E hs c).post z in let Run : List Val → SProp 𝓤 = λ ws. WpFn 𝓤 H 𝓣.C 𝓣.Λ fn ws Post in
      let ws : Lasts E κs z.0.3 = (rest (A.exit yes) v, tt) in let said = (c κs z.0.3).ensures z.1 (to v) (at_exit E κs z.0.3 ws) in
      qed 𝓛 ((‵ ftrue ⊛ ‵ (owns (types_at E.signature.params κs) z.0.3 z.0.4)) ∷ raw ((c κs z.0.3).requires z.1) ∷ []) ∵ split ! $ move ! (1 ∷ []) $ fsplit ! $
      rewrite ! 0 (λ (F : Fml). ‵ F) (out v vs) refl $ fsplit ! $ fpick ! (λ vss. fsplit ! $ feq_l ! (λ ev. fsplit ! $ feq_l ! (λ ep. fsplit ! $ handle_tells (al Z Z the_row_laws ghosts) ! a vss.1.0 (λ h ea fits.
      let w : Val = both (ptr_val p) h in let typed = words_good A.name p h fits in
      let is : vs ≡ w ∷ [] = subst (λ (us : List Val). vs ≡ vstruct (of_list (ptr_val p ∷ (us ++ []))) ∷ []) ea (subst (λ (ps : List Val). vs ≡ vstruct (of_list (ps ++ (vss.1.0 ++ []))) ∷ []) ep ev) in
      suffices ! (Run (w ∷ [])) (subst (λ (us : List Val). ent 𝓤 (Run (w ∷ [])) (Run us)) (sym (λ i. is i ++ [])) (id⊢ 𝓤 (Run (w ∷ [])))) $
      enter ! 𝓣.C 𝓣.Λ fn (w ∷ []) Post $ alloc_all ! (λ l. pass_all ! refl (typed, tt) $
      sets ! (of_opd ! (get_in ! (fld ! refl (stop !)) (sub ! 0 refl (whole !)))) refl (ptr_good p) $ sets ! (of_opd ! (get_in ! (fld ! refl (stop !)) (sub ! 1 refl (whole !)))) refl fits $
      sets ! (of_opd ! (get ! refl)) refl (ptr_good p) $ sets ! (agg ! (and_then ! (get ! refl) (and_then ! (get ! refl) (no_more !)))) refl (words_good B.name p h fits) $
      returns ! (look_at ! 0 refl) $ free_all ! refl $
      fjoin ! $ feq_i ! (List Val) (ptr_val p ∷ []) (ptr_val p ∷ []) refl $ fjoin ! $ feq_i ! (List Val) (w ∷ []) (w ∷ []) refl $ fjoin ! $ fpack ! (Valss (RawPtr ∷ Z ∷ [])) (within two (p, (a, tt)) (w ∷ [])) (ptr_val p ∷ [], (h ∷ [], tt)) $ fjoin ! $
      rewrite ! 0 (λ (F : Fml). ‵ F) (sym (in_ v (w ∷ []))) refl $ use0 𝓛 (raw said) (same v z.1) $ nothing ! $ nothing ! $ fjoin ! $ keep ! (4 ∷ 0 ∷ 2 ∷ 1 ∷ []) $ by ! (leaves 𝓛 E hs c z w (to v) ws (tt, tt))))))))
