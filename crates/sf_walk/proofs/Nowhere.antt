-- A call whose new path leads nowhere moves nothing.
use Rattle.std.specs.Prelude.{◌≡◌, ℕ, true, false, cond, [], ◌∷◌, refl}
use Rattle.std.proofs.Common.{ap, sym, ◌∙◌}
use Rattle.sf_path.specs.Names.{Path}
use Rattle.sf_path.specs.Order.{same_path}
use Rattle.sf_reply.specs.declared.reply.StatusCode.{StatusCode}
use Rattle.sf_reply.specs.declared.reply.StatusCode.TheVariants.{Failure}
use Rattle.sf_call.specs.declared.lookup.Lookup.{Lookup}
use Rattle.sf_call.specs.declared.lookup.Lookup.TheVariants as lookup
use Rattle.sf_call.specs.declared.request.Request.{Request}
use Rattle.sf_field.specs.declared.operation.PairOp.TheVariants as pair_op
use Rattle.sf_call.specs.declared.request.Request.TheVariants as request
use Rattle.sf_call.specs.Tree.{Tree, look_up, found_at}
use Rattle.sf_call.specs.Changes.{moved_by}
use Rattle.sf_call.specs.Calls.{Outcome, answer_to, refuses, succeeds, unless_nested, unless_root, rename_to, rename, replace_by, posix_rename}
use Rattle.sf_inode.specs.Stores.{StoreState}
use Rattle.sf_keeps.specs.Keeps.{Keeps}
use Rattle.sf_walk.specs.declared.finding.Ways.{Ways}
use Rattle.sf_walk.specs.declared.finding.Located.{Located}
use Rattle.sf_walk.specs.declared.finding.Located.TheVariants as located
use Rattle.sf_call.specs.Routes.{are_nested, route_between}
use Rattle.sf_walk.specs.Ways.{AreWays, IsLocated}
use Rattle.sf_walk.proofs.Courses.{AreNoRoots, old_found, new_found, old_no_way, old_missing, rename_no_way, posix_same, posix_no_way}
use Rattle.sf_walk.proofs.NoMoves.{Stays, rooted, others_stay}

module _ (s : StoreState) (t : Tree) (k : Keeps s t) (moment : ℕ) (old new : Path) (ways : Ways) (are : AreWays s (route_between old new) ways) (none : ways.new ≡ located.NoWay) where
  no_roots : are_nested old new ≡ false → AreNoRoots old new
  no_roots apart = (λ e. by old new apart e, λ e. by_new old new apart e)
    where
      by : (p q : Path) → are_nested p q ≡ false → p ≡ [] → ⊥
      by p q apart e = let h : true ≡ false = sym (ap (λ (x : Path). are_nested x q) e) ∙ apart in cc

      by_new : (p q : Path) → are_nested p q ≡ false → q ≡ [] → ⊥
      by_new [] q apart e = cc
      by_new (n ∷ p) q apart e = let h : true ≡ false = sym (ap (λ (x : Path). are_nested (n ∷ p) x) e) ∙ apart in cc

  refused : (a : Outcome) (code : StatusCode) → a ≡ refuses code → Stays a
  refused a code e = ap (λ (x : Outcome). moved_by x.changes) e

  rename_nested : (o : Lookup) → are_nested old new ≡ true → Stays (rename t moment old new o)
  rename_nested (lookup.At label) e = ap (λ b. moved_by (cond {A = Outcome} b (refuses Failure) (rename_to t moment old new (look_up t new))).changes) e
  rename_nested _ e = refl

  posix_nested : (o : Lookup) → are_nested old new ≡ true → Stays (posix_rename t moment old new o)
  posix_nested (lookup.At label) e = elim (same_path old new) as (λ b. Stays (cond b (succeeds []) (unless_nested old new (replace_by t moment old new label (found_at t new))))) [
    | true ↦ refl
    | false ↦ ap (λ b. moved_by (cond {A = Outcome} b (refuses Failure) (replace_by t moment old new label (found_at t new))).changes) e
  ]
  posix_nested _ e = refl

  rename_apart : (found : Located) → ways.path ≡ found → are_nested old new ≡ false → Stays (unless_root old (unless_root new (rename t moment old new (look_up t old))))
  rename_apart located.NoWay e apart =
      let ne = no_roots apart in refused _ _ (old_no_way s t k moment old new ne (rename t moment old new) refl (old_found s old new ways are ne _ e))
  rename_apart (located.Missing d) e apart =
      let ne = no_roots apart in refused _ _ (old_missing s t k moment old new ne (rename t moment old new) refl d (old_found s old new ways are ne _ e))
  rename_apart (located.At d y) e apart =
      let ne = no_roots apart in
      refused _ _ (rename_no_way s t k moment old new ne d y (old_found s old new ways are ne _ e) apart (new_found s old new ways are apart d y e _ none))

  posix_apart : (found : Located) → ways.path ≡ found → are_nested old new ≡ false → Stays (unless_root old (unless_root new (posix_rename t moment old new (look_up t old))))
  posix_apart located.NoWay e apart =
      let ne = no_roots apart in refused _ _ (old_no_way s t k moment old new ne (posix_rename t moment old new) refl (old_found s old new ways are ne _ e))
  posix_apart (located.Missing d) e apart =
      let ne = no_roots apart in refused _ _ (old_missing s t k moment old new ne (posix_rename t moment old new) refl d (old_found s old new ways are ne _ e))
  posix_apart (located.At d y) e apart =
      let ne = no_roots apart in
      let found = old_found s old new ways are ne _ e in
      elim (same_path old new) as (λ b. same_path old new ≡ b → Stays (unless_root old (unless_root new (posix_rename t moment old new (look_up t old))))) [
        | true ↦ λ same. ap (λ (x : Outcome). moved_by x.changes) (posix_same s t k moment old new ne d y found same)
        | false ↦ λ other. refused _ _ (posix_no_way s t k moment old new ne d y found apart other (new_found s old new ways are apart d y e _ none))
      ] refl

  rename_stays : Stays (unless_root old (unless_root new (rename t moment old new (look_up t old))))
  rename_stays = elim (are_nested old new) as (λ b. are_nested old new ≡ b → Stays (unless_root old (unless_root new (rename t moment old new (look_up t old))))) [
    | true ↦ λ e. rooted old _ (rooted new _ (rename_nested (look_up t old) e))
    | false ↦ rename_apart ways.path refl
  ] refl

  posix_stays : Stays (unless_root old (unless_root new (posix_rename t moment old new (look_up t old))))
  posix_stays = elim (are_nested old new) as (λ b. are_nested old new ≡ b → Stays (unless_root old (unless_root new (posix_rename t moment old new (look_up t old))))) [
    | true ↦ λ e. rooted old _ (rooted new _ (posix_nested (look_up t old) e))
    | false ↦ posix_apart ways.path refl
  ] refl

pub nowhere_stays : {s : StoreState} {t : Tree} → Keeps s t → (session number moment : ℕ) (r : Request) (ways : Ways) → IsLocated s r ways → ways.new ≡ located.NoWay → Stays (answer_to t session number moment r)
nowhere_stays {s = s} {t = t} k session number moment (request.OnPaths pair_op.Rename old new) ways are none = rename_stays s t k moment old new ways are none
nowhere_stays {s = s} {t = t} k session number moment (request.OnPaths pair_op.PosixRename old new) ways are none = posix_stays s t k moment old new ways are none
nowhere_stays {t = t} k session number moment r ways are none = others_stay t session number moment r (λ old new e. cc) (λ old new e. cc)
