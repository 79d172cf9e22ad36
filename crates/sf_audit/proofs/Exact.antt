-- Tests that return true exactly if two values are equal.
use Rattle.std.proofs.Common.{◌≡◌, ◌&&◌, Bool, true, false, nat_eq, Some, None, refl, ap}
use Rattle.std.specs.Bool.{Decides, beq}
use Rattle.std.specs.Option.{option_eq}
use Rattle.std.specs.Cmp.{unsigned_Decides, booleans_Decides}
use Rattle.std.specs.Cmp.Lexicographic.{pointwise, bytes_decides, pointwise_decides}
use Rattle.sf_field.specs.declared.attrs.Attrs.{Attrs}
use Rattle.sf_field.specs.declared.attrs.Owner.{Owner}
use Rattle.sf_field.specs.declared.attrs.Times.{Times}
use Rattle.sf_field.specs.declared.open_flags.OpenFlags.{OpenFlags}
use Rattle.sf_reply.specs.declared.reply.Entry.{Entry}

abbrev pub IsExact : {A : Type 0} → (A → A → Bool) → Type 0
IsExact {A} E = (x y : A) → Decides (E x y) (x ≡ y)

pub both : {P Q : Type 0} → (a b : Bool) → Decides a P → Decides b Q → Decides (a && b) (P × Q)
both true b da db = ((λ e. (da.0 refl, db.0 e)), (λ pq. db.1 pq.1))
both false b da db = ((λ e. absurd cc), (λ pq. da.1 pq.0))

pub options : {A : Type 0} (E : A → A → Bool) → IsExact E → IsExact (option_eq E)
options E e None None = ((λ h. refl), (λ h. refl))
options E e None (Some y) = ((λ h. absurd cc), (λ h. absurd cc))
options E e (Some x) None = ((λ h. absurd cc), (λ h. absurd cc))
options E e (Some x) (Some y) = ((λ h. ap Some ((e x y).0 h)), (λ h. (e x y).1 cc))

abbrev pub owner_test : Owner → Owner → Bool
owner_test a b = nat_eq a.uid b.uid && nat_eq a.gid b.gid

pub owners : IsExact owner_test
owners a b =
    let d = both (nat_eq a.uid b.uid) (nat_eq a.gid b.gid) (unsigned_Decides a.uid b.uid) (unsigned_Decides a.gid b.gid) in
    ((λ h. let p = d.0 h in (λ i. record { uid = p.0 i; gid = p.1 i })), (λ e. d.1 (ap (λ x. x.uid) e, ap (λ x. x.gid) e)))

abbrev pub times_test : Times → Times → Bool
times_test a b = nat_eq a.atime b.atime && nat_eq a.mtime b.mtime

pub times : IsExact times_test
times a b =
    let d = both (nat_eq a.atime b.atime) (nat_eq a.mtime b.mtime) (unsigned_Decides a.atime b.atime) (unsigned_Decides a.mtime b.mtime) in
    ((λ h. let p = d.0 h in (λ i. record { atime = p.0 i; mtime = p.1 i })), (λ e. d.1 (ap (λ x. x.atime) e, ap (λ x. x.mtime) e)))

abbrev pub attrs_test : Attrs → Attrs → Bool
attrs_test a b = option_eq nat_eq a.size b.size && (option_eq owner_test a.owner b.owner && (option_eq nat_eq a.permissions b.permissions && option_eq times_test a.times b.times))

pub attrs : IsExact attrs_test
attrs a b =
    let d = both (option_eq nat_eq a.size b.size) _ (options nat_eq unsigned_Decides a.size b.size)
    (both (option_eq owner_test a.owner b.owner) _ (options owner_test owners a.owner b.owner)
    (both (option_eq nat_eq a.permissions b.permissions) (option_eq times_test a.times b.times) (options nat_eq unsigned_Decides a.permissions b.permissions) (options times_test times a.times b.times))) in (
      (λ h. let p = d.0 h in (λ i. record { size = p.0 i; owner = p.1.0 i; permissions = p.1.1.0 i; times = p.1.1.1 i })),
      (λ e. d.1 (ap (λ x. x.size) e, (ap (λ x. x.owner) e, (ap (λ x. x.permissions) e, ap (λ x. x.times) e)))),
    )

abbrev pub flags_test : OpenFlags → OpenFlags → Bool
flags_test a b = beq a.read b.read && (beq a.write b.write && (beq a.append b.append && (beq a.create b.create && (beq a.truncate b.truncate && beq a.exclusive b.exclusive))))

pub flags : IsExact flags_test
flags a b =
    let d = both (beq a.read b.read) _ (booleans_Decides a.read b.read)
    (both (beq a.write b.write) _ (booleans_Decides a.write b.write)
    (both (beq a.append b.append) _ (booleans_Decides a.append b.append)
    (both (beq a.create b.create) _ (booleans_Decides a.create b.create)
    (both (beq a.truncate b.truncate) (beq a.exclusive b.exclusive) (booleans_Decides a.truncate b.truncate) (booleans_Decides a.exclusive b.exclusive))))) in (
      (λ h. let p = d.0 h in (λ i. record { read = p.0 i; write = p.1.0 i; append = p.1.1.0 i; create = p.1.1.1.0 i; truncate = p.1.1.1.1.0 i; exclusive = p.1.1.1.1.1 i })),
      (λ e. d.1 (ap (λ x. x.read) e, (ap (λ x. x.write) e, (ap (λ x. x.append) e, (ap (λ x. x.create) e, (ap (λ x. x.truncate) e, ap (λ x. x.exclusive) e)))))),
    )

abbrev pub entry_test : Entry → Entry → Bool
entry_test a b = pointwise nat_eq a.filename b.filename && (pointwise nat_eq a.longname b.longname && attrs_test a.attrs b.attrs)

pub entries : IsExact entry_test
entries a b =
    let d = both (pointwise nat_eq a.filename b.filename) _ (bytes_decides a.filename b.filename)
    (both (pointwise nat_eq a.longname b.longname) (attrs_test a.attrs b.attrs) (bytes_decides a.longname b.longname) (attrs a.attrs b.attrs)) in (
      (λ h. let p = d.0 h in (λ i. record { filename = p.0 i; longname = p.1.0 i; attrs = p.1.1 i })),
      (λ e. d.1 (ap (λ x. x.filename) e, (ap (λ x. x.longname) e, ap (λ x. x.attrs) e))),
    )

pub listings : IsExact (pointwise entry_test)
listings = pointwise_decides entries
