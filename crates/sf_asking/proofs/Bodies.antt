-- A packet's body, and the reply in it.
use Rattle.std.proofs.Common.{◌≡◌, ◌∙◌, ◌<◌, ◌^◌, ℕ, List, [], ◌∷◌, ◌++◌, length, Option, Some, None, refl, sym, ap, subst, append-nil, inr, arith}
use Rattle.sf_field.specs.Fields.{packet}
use Rattle.sf_field.specs.Reading.{string_at}
use Rattle.sf_field.proofs.Laws.{IsBytes, reads_string}
use Rattle.sf_reply.specs.declared.reply.Reply.{Reply}
use Rattle.sf_reply.specs.Reading.{IsReply}
use Rattle.sf_reply.specs.Replies.{reply_body}
use Rattle.sf_trees.specs.declared.fault.TreeFault.TheVariants as fault
use Rattle.sf_trees.specs.Lengths.{id}
use Rattle.sf_asking.specs.Asking.{MayMissReply}

no_length : (l : List ℕ) → length l ≡ 0 → l ≡ []
no_length [] e = refl
no_length (x ∷ l) e = absurd (omega arith)

pub body_whole : (bytes body rest : List ℕ) → IsBytes bytes → string_at bytes ≡ Some (body, rest) → length rest ≡ 0
    → ((bytes ≡ packet body) × (length body < 2 ^ 32))
body_whole bytes body rest fits e none =
    let t = reads_string.takes bytes body rest fits e in
    (t.0.parts ∙ (ap (λ (l : List ℕ). packet body ++ l) (no_length rest none) ∙ append-nil (packet body)), t.1)

read_whole : (bytes body : List ℕ) → length body < 2 ^ 32 → bytes ≡ packet body → string_at bytes ≡ Some (body, [])
read_whole bytes body short e = ap string_at (e ∙ sym (append-nil (packet body))) ∙ reads_string.again body [] short

abbrev IsThere : Option (List ℕ × List ℕ) → Type 0
IsThere (Some x) = Unit {0}
IsThere None = ⊥

pub body_none : (bytes : List ℕ) → string_at bytes ≡ None → (body : List ℕ) → length body < 2 ^ 32 → bytes ≡ packet body → ⊥
body_none bytes none body short e =
    let two : Some (body, []) ≡ None = sym (read_whole bytes body short e) ∙ none in
    subst (λ (o : Option (List ℕ × List ℕ)). IsThere o) two tt

rest_of : List ℕ × List ℕ → Option (List ℕ × List ℕ) → List ℕ
rest_of d (Some x) = x.1
rest_of d None = d.1

body_part : List ℕ × List ℕ → Option (List ℕ × List ℕ) → List ℕ
body_part d (Some x) = x.0
body_part d None = d.0

pub body_more : (bytes found rest : List ℕ) → string_at bytes ≡ Some (found, rest) → (length rest ≡ 0 → ⊥)
    → (body : List ℕ) → length body < 2 ^ 32 → bytes ≡ packet body → ⊥
unfolding rest_of
body_more bytes found rest read some body short e =
    let both : Some (found, rest) ≡ Some (body, []) = sym read ∙ read_whole bytes body short e in
    some (ap (λ (l : List ℕ). length l) (ap (rest_of (found, rest)) both))

pub one_body : (bytes a b : List ℕ) → length a < 2 ^ 32 → length b < 2 ^ 32 → bytes ≡ packet a → bytes ≡ packet b → a ≡ b
unfolding body_part
one_body bytes a b short_a short_b is_a is_b =
    let both : Some (a, []) ≡ Some (b, []) = sym (read_whole bytes a short_a is_a) ∙ read_whole bytes b short_b is_b in
    ap (body_part (a, [])) both

-- no body, or one that isn't the reply's
pub no_body : (output : List ℕ) → ((body : List ℕ) → length body < 2 ^ 32 → output ≡ packet body → ⊥) → MayMissReply output fault.Reply
no_body output none = inr (refl, λ r fits short e. none (reply_body id r) short e)

pub no_reply : (output body : List ℕ) → output ≡ packet body → length body < 2 ^ 32
    → ((n : ℕ) (r : Reply) → IsReply body n r → ⊥) → MayMissReply output fault.Reply
no_reply output body is short none = inr (
  refl,
  λ r fits few e.
      let same = one_body output body (reply_body id r) short few is e in
      none id r (record { id_fits = omega arith; fits = fits; parts = same }),
)
