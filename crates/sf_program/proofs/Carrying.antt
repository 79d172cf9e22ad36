-- What a loop of writes has written, and what a loop of reads and writes has carried.
use Rattle.std.proofs.Common.{◌≡◌, ◌-◌, ℕ, List, [], ◌++◌, ◌+◌, length, take, drop, Option, refl, sym, ap, subst, ◌∙◌, append_assoc, take-append-drop}
use Rattle.std.proofs.Math.Seq.{take-append_seam, take-append-add, take-length}
use Rattle.std.proofs.lemmas.List.{take_rest}
use Rattle.std.proofs.KnownBytes.{Appends-nil, Appends-trans, Appends-kept, Consumes-nil, Consumes-trans, Consumes-kept}
use Rattle.std.specs.Io.KnownBytes.{Appends, Consumes, Keeps}
use Rattle.sf_program.specs.Carrying.{TakesFront}

-- the writer took the bytes before the rest
abbrev pub Sent : Option (List ℕ) → Option (List ℕ) → List ℕ → List ℕ → Type 0
Sent a b bytes rest = (sent : List ℕ) × (bytes ≡ sent ++ rest) × Appends a b sent

pub none_sent : (a : Option (List ℕ)) (bytes : List ℕ) → Sent a a bytes bytes
none_sent a bytes = ([], refl, Appends-nil a)

pub more_sent : (a b z : Option (List ℕ)) (bytes rest : List ℕ) (n : ℕ) → Sent a b bytes rest → Appends b z (take n rest)
    → Sent a z bytes (take (length rest - n) (drop n rest))
more_sent a b z bytes rest n (sent, whole, wrote) more =
    let regrouped = sym (append_assoc sent (take n rest) (drop n rest)) in
    let cut = ap (λ l. sent ++ l) (sym (take-append-drop n rest)) ∙ regrouped ∙ ap (λ l. (sent ++ take n rest) ++ l) (sym (take_rest rest n)) in
    (sent ++ take n rest, whole ∙ cut, Appends-trans a b z sent (take n rest) wrote more)

pub kept_sent : (a b z : Option (List ℕ)) (bytes rest : List ℕ) → Sent a b bytes rest → Keeps b z → Sent a z bytes rest
kept_sent a b z bytes rest (sent, whole, wrote) kept = (sent, whole, Appends-kept a b z sent wrote kept)

pub front_sent : (a b : Option (List ℕ)) (bytes rest : List ℕ) → Sent a b bytes rest → TakesFront a b bytes
front_sent a b bytes rest (sent, whole, wrote) =
    let front = ap (take (length sent)) whole ∙ take-append_seam sent rest in
    (length sent, subst (Appends a b) (sym front) wrote)

-- the writer took all that the reader gave: from a to b it was read, from c to d written
pub record Carried (a b c d : Option (List ℕ)) : Type 0 where
  pub given : List ℕ
  pub read : Consumes a b given
  pub wrote : Appends c d given

-- the writer took a beginning of what the reader gave
abbrev pub CarriedFront : (a b c d : Option (List ℕ)) → Type 0
CarriedFront a b c d = (given : List ℕ) × Consumes a b given × TakesFront c d given

pub none_carried : (a c : Option (List ℕ)) → Carried a a c c
none_carried a c = record { given = []; read = Consumes-nil a; wrote = Appends-nil c }

pub more_carried : {a b c d : Option (List ℕ)} (y z : Option (List ℕ)) (bytes : List ℕ) → Carried a b c d → Consumes b y bytes → Appends d z bytes → Carried a y c z
more_carried {a} {b} {c} {d} y z bytes so_far read wrote = record {
  given = so_far.given ++ bytes;
  read = Consumes-trans a b y so_far.given bytes so_far.read read;
  wrote = Appends-trans c d z so_far.given bytes so_far.wrote wrote;
}

pub kept_carried : {a b c d : Option (List ℕ)} (y : Option (List ℕ)) → Carried a b c d → Keeps b y → Carried a y c d
kept_carried {a} {b} y so_far kept = record { given = so_far.given; read = Consumes-kept a b y so_far.given so_far.read kept; wrote = so_far.wrote }

pub front_carried : {a b c d : Option (List ℕ)} → Carried a b c d → CarriedFront a b c d
front_carried {c = c} {d = d} so_far = (so_far.given, so_far.read, (length so_far.given, subst (Appends c d) (sym (take-length so_far.given)) so_far.wrote))

pub more_front : {a b c d : Option (List ℕ)} (y z : Option (List ℕ)) (bytes : List ℕ) → Carried a b c d → Consumes b y bytes → TakesFront d z bytes → CarriedFront a y c z
more_front {a} {b} {c} {d} y z bytes so_far read (n, wrote) =
    let given = so_far.given in
    let both = Appends-trans c d z given (take n bytes) so_far.wrote wrote in
    (given ++ bytes, Consumes-trans a b y given bytes so_far.read read, (length given + n, subst (Appends c z) (sym (take-append-add given bytes n)) both))
