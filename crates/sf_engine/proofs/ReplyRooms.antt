-- The room for the reply of a call.
use Rattle.std.proofs.Common.{◌≡◌, ℕ, ◌<◌, ◌≤◌, Option, Some, None, true, false, IsSome, IfSome, length, refl, arith}
use Rattle.sf_field.specs.Fields.{packet}
use Rattle.sf_reply.specs.declared.reply.Reply.{Reply}
use Rattle.sf_reply.specs.Replies.{reply_body}
use Rattle.sf_session.specs.Sessions.{reply_room}

-- the length of a reply's packet does not depend on its id
pub any_id : (a b : ℕ) (r : Reply) → length (packet (reply_body a r)) ≡ length (packet (reply_body b r))
any_id a b r = refl

-- a reply that had no room is longer
pub is_long : (waiting : Option ℕ) (r : Reply) → IsSome waiting → (IfSome waiting (λ id. length (packet (reply_body id r)) ≤ reply_room → false ≡ true)) → (id : ℕ) → reply_room < length (packet (reply_body id r))
is_long None r some long id = let no : false ≡ true = some in cc
is_long (Some own) r some long id =
    let none : length (packet (reply_body own r)) ≤ reply_room → ⊥ = λ short. let no : false ≡ true = long short in cc in
    omega (arith, none, any_id own id r)
