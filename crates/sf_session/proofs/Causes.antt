-- No packet and no wrong length ends a session as closed.
use Rattle.std.proofs.Common.{◌≡◌, ℕ, List, Bool, true, false, Option, Some, None, inl, inr, subst}
use Rattle.std.specs.Prelude.{nat_lt, if◌then◌else◌}
use Rattle.std.specs.Option.{option_map_or}
use Rattle.sf_path.specs.Names.{Path}
use Rattle.sf_request.specs.declared.request.WireRequest.{WireRequest}
use Rattle.sf_request.specs.declared.request.WireRequest.TheVariants as wire
use Rattle.sf_request.specs.declared.request.Asked.{Asked}
use Rattle.sf_request.specs.declared.request.Asked.TheVariants as asked
use Rattle.sf_call.specs.declared.request.Request.{Request}
use Rattle.sf_session.specs.declared.asking.Ask.TheVariants as ask
use Rattle.sf_session.specs.declared.local_reply.LocalReply.TheVariants.{Plain}
use Rattle.sf_session.specs.declared.cause.Cause.{Cause}
use Rattle.sf_session.specs.declared.cause.Cause.TheVariants.{ZeroLength, TooLong, Closed, OldVersion}
use Rattle.sf_session.specs.Asking.{ask_in, request_ask, failure, call_of, real_path_reply, path_at}
use Rattle.sf_session.specs.Sessions.{EndsBy}

no_call_ends : (id : ℕ) (call : Option Request) (cause : Cause) → ask.End cause ≡ option_map_or (ask.Call id) call (failure id) → ⊥
no_call_ends id None cause e = cc
no_call_ends id (Some call) cause e = cc

no_path_ends : (id : ℕ) (path : Option Path) (cause : Cause) → ask.End cause ≡ option_map_or (λ found. ask.Local id (Plain (real_path_reply found))) path (failure id) → ⊥
no_path_ends id None cause e = cc
no_path_ends id (Some path) cause e = cc

no_request_ends : (id : ℕ) (request : WireRequest) (cause : Cause) → ask.End cause ≡ request_ask id request → ⊥
no_request_ends id (wire.RealPath a) cause e = no_path_ends id (path_at a) cause e
no_request_ends id request cause e = no_call_ends id (call_of request) cause e

no_version_closes : (old : Bool) → ask.End Closed ≡ (if old then ask.End OldVersion else ask.Version) → ⊥
no_version_closes true e = cc
no_version_closes false e = cc

no_body_closes : (begun : Bool) (packet : Asked) → ask.End Closed ≡ ask_in begun packet → ⊥
no_body_closes true (asked.Request id request) e = no_request_ends id request Closed e
no_body_closes false (asked.Init version) e = no_version_closes (nat_lt version 3) e
no_body_closes begun packet e = cc

closed_by_none : (begun : Bool) (bytes : List ℕ) → EndsBy begun bytes Closed → ⊥
closed_by_none begun bytes (inl (inl h)) = let e : Closed ≡ ZeroLength = h.1 in cc
closed_by_none begun bytes (inl (inr h)) = let e : Closed ≡ TooLong = h.1 in cc
closed_by_none begun bytes (inr h) = no_body_closes begun h.3.0 h.3.2

pub not_closed : (begun : Bool) (bytes : List ℕ) (cause : Cause) → cause ≡ Closed → EndsBy begun bytes cause → ⊥
not_closed begun bytes cause e h = closed_by_none begun bytes (subst (λ (c : Cause). EndsBy begun bytes c) e h)
