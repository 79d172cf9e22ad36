-- What is read and written, if it is known.
use Rattle.std.proofs.Common.{◌≡◌, ℕ, List, Option, None, Some, sym, refl, subst}
use Rattle.std.specs.Io.KnownBytes.{Keeps, Appends, Consumes, prepend_known, append_known}
use Rattle.std.proofs.KnownBytes.{Keeps-refl}

pub read_known : (o p : Option (List ℕ)) (bytes : List ℕ) → o ≡ prepend_known bytes p → Consumes o p bytes
read_known o None bytes e = subst (λ (x : Option (List ℕ)). Consumes x None bytes) (sym e) tt
read_known o (Some xs) bytes e = subst (λ (x : Option (List ℕ)). Consumes x (Some xs) bytes) (sym e) refl

pub wrote_known : (o p : Option (List ℕ)) (bytes : List ℕ) → p ≡ append_known o bytes → Appends o p bytes
wrote_known None p bytes e = tt
wrote_known (Some xs) p bytes e = subst (λ (x : Option (List ℕ)). Appends (Some xs) x bytes) (sym e) refl

pub same_known : (a b : Option (List ℕ)) → b ≡ a → Keeps a b
same_known a b e = subst (λ (o : Option (List ℕ)). Keeps a o) (sym e) (Keeps-refl a)
