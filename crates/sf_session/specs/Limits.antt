-- Replies that need no file-system call.
use Rattle.std.specs.Prelude.{ℕ, List, ◌∷◌, ◌++◌}
use Rattle.sf_field.specs.Fields.{be32, be64, max_body}
use Rattle.sf_reply.specs.Replies.{reply_body}
use Rattle.sf_call.specs.declared.limits.TheConstants.{MAX_READ, MAX_HANDLES}
use Rattle.sf_session.specs.declared.local_reply.LocalReply.{LocalReply}
use Rattle.sf_session.specs.declared.local_reply.LocalReply.TheVariants as local

-- The limits (OpenSSH's PROTOCOL, limits@openssh.com): the bytes of a packet, of a READ and of a
-- WRITE, and the open handles of a session.
abbrev pub limits_body : ℕ → List ℕ
limits_body id =
    201 ∷ be32 id ++ be64 max_body ++ be64 MAX_READ ++ be64 MAX_READ ++ be64 MAX_HANDLES

abbrev pub local_body : ℕ → LocalReply → List ℕ
local_body id (local.Plain reply) = reply_body id reply
local_body id local.Limits = limits_body id
