-- The calls of an engine together have few steps left, as paths are short and sessions are few.
use Rattle.std.proofs.Common.{is_none, ◌≡◌, ℕ, ◌+◌, ◌^◌, ◌≤◌, ◌<◌, List, [], ◌∷◌, ◌++◌, Bool, true, false, Option, Some, None, cond, length, refl, ap, sym, ◌∙◌, subst, arith, length-append}
use Rattle.std.specs.Prelude.{nat_lt, ◌==◌, if◌then◌else◌, option_map, option_and_then}
use Rattle.std.specs.List.{flat_map, list_any}
use Rattle.std.proofs.lemmas.Bool.{ltb-false}
use Rattle.sf_path.specs.Names.{Path, slashed, text_of}
use Rattle.sf_path.specs.Normal.{parts, norm, fault_of}
use Rattle.sf_path.specs.declared.fault.PathFault.{PathFault}
use Rattle.sf_path.specs.declared.fault.PathFault.TheVariants.{TooLong, NameTooLong, NulByte}
use Rattle.sf_path.proofs.Laws.{length-text_of-norm}
use Rattle.sf_request.specs.declared.request.WireRequest.{WireRequest}
use Rattle.sf_field.specs.declared.operation.PathOp.TheVariants as path_op
use Rattle.sf_request.specs.declared.request.WireRequest.TheVariants as wire
use Rattle.sf_request.specs.declared.request.Asked.{Asked}
use Rattle.sf_request.specs.declared.request.Asked.TheVariants as asked
use Rattle.sf_call.specs.declared.request.Request.{Request}
use Rattle.sf_call.specs.declared.request.Request.TheVariants as call
use Rattle.sf_walk.specs.Ways.{request_names}
use Rattle.sf_session.proofs.Laws.{asked_each}
use Rattle.sf_session.specs.declared.asking.Ask.{Ask}
use Rattle.sf_session.specs.declared.asking.Ask.TheVariants as ask
use Rattle.sf_session.specs.declared.cause.Cause.TheVariants.{OldVersion}
use Rattle.sf_session.specs.Asking.{path_at, handle_number, call_of, failure, real_path_reply, request_ask, ask_in, AsksFor}
use Rattle.sf_request.specs.Requests.{Asks, RequestFits}
use Rattle.sf_request.proofs.Laws.{asked_fits}
use Rattle.sf_core.specs.Progress.{bound_of, blocks_in}
use Rattle.sf_session.specs.Responses.{AreAsked}
use Rattle.sf_engine.specs.Promise.{most_steps}
use Rattle.std.specs.Option.{option_map_or}
use Rattle.sf_session.specs.declared.local_reply.LocalReply.TheVariants.{Plain}

-- ---- paths
flat_names : (path : Path) → length path ≤ length (flat_map slashed path)
flat_names [] = omega arith
flat_names (name ∷ names) = omega (arith, flat_names names, length-append name (flat_map slashed names))

text_names : (path : Path) → length path ≤ length (text_of path)
text_names [] = omega arith
text_names (name ∷ names) = flat_names (name ∷ names)

-- a text without a fault is short, and so is its path
too_long : (text : List ℕ) → nat_lt 4096 (length text) ≡ true → fault_of text ≡ None → ⊥
too_long text long none =
    let no : Some TooLong ≡ None = sym (ap (λ (b : Bool). if b then Some TooLong else (if list_any (λ part. nat_lt 255 (length part)) (parts text) then Some NameTooLong else if list_any (λ b. b == 0) text then Some NulByte else None)) long) ∙ none in cc

short_by : (text : List ℕ) → fault_of text ≡ None → (b : Bool) → nat_lt 4096 (length text) ≡ b → length (norm text) ≤ 4097
short_by text none true long = absurd (too_long text long none)
short_by text none false short = omega (arith, ltb-false 4096 (length text) short, length-text_of-norm text, text_names (norm text))

short_text : (text : List ℕ) → fault_of text ≡ None → length (norm text) ≤ 4097
short_text text none = short_by text none (nat_lt 4096 (length text)) refl

-- the names of a call's paths, and the blocks that it writes
abbrev IsShortCall : Option Request → Type 0
IsShortCall None = Unit {0}
IsShortCall (Some request) = request_names request + blocks_in request ≤ 2 ^ 21

abbrev pub IsShortAsk : Ask → Type 0
IsShortAsk (ask.Call id request) = request_names request + blocks_in request ≤ 2 ^ 21
IsShortAsk _ = Unit {0}

abbrev IsShortPath : Option Path → Type 0
IsShortPath None = Unit {0}
IsShortPath (Some path) = length path ≤ 4097

path_unless_short : (text : List ℕ) (o : Option PathFault) → fault_of text ≡ o → IsShortPath (if is_none o then Some (norm text) else None)
path_unless_short text None e = short_text text e
path_unless_short text (Some fault) e = tt

path_short : (text : List ℕ) → IsShortPath (path_at text)
path_short text = path_unless_short text (fault_of text) refl

one_path : (f : Path → Request) → ((path : Path) → request_names (f path) + blocks_in (f path) ≡ length path) → (o : Option Path) → IsShortPath o → IsShortCall (option_map f o)
one_path f names None h = tt
one_path f names (Some path) h = omega (arith, h, names path)

two_paths : (f : Path → Path → Request) → ((old new : Path) → request_names (f old new) + blocks_in (f old new) ≡ length old + length new) → (o u : Option Path) → IsShortPath o → IsShortPath u
    → IsShortCall (option_map (λ (paths : Path × Path). f paths.0 paths.1) (option_and_then (λ from. option_map (λ to. (from, to)) u) o))
two_paths f names None u h k = tt
two_paths f names (Some old) None h k = tt
two_paths f names (Some old) (Some new) h k = omega (arith, h, k, names old new)

by_handle : (f : ℕ → Request) → ((handle : ℕ) → request_names (f handle) + blocks_in (f handle) ≡ 0) → (o : Option ℕ) → IsShortCall (option_map f o)
by_handle f names None = tt
by_handle f names (Some handle) = omega (arith, names handle)

-- a WRITE's data are shorter than their encoded length allows
write_short : (offset : ℕ) (bytes : List ℕ) (o : Option ℕ) → length bytes < 2 ^ 32 → IsShortCall (option_map (λ n. call.Write n offset bytes) o)
write_short offset bytes None short = tt
write_short offset bytes (Some handle) short = omega (arith, short)

call_short : (request : WireRequest) → RequestFits request → IsShortCall (call_of request)
call_short (wire.OnPath op text) fits = one_path (call.OnPath op) (λ path. omega arith) (path_at text) (path_short text)
call_short (wire.OnPaths op old new) fits = two_paths (call.OnPaths op) (λ a b. omega arith) (path_at old) (path_at new) (path_short old) (path_short new)
call_short (wire.ByHandle op handle) fits = by_handle (call.ByHandle op) (λ n. omega arith) (handle_number handle)
call_short (wire.Write handle offset bytes) fits = write_short offset bytes (handle_number handle) fits.2
call_short (wire.LStat text) fits = one_path (call.OnPath path_op.Stat) (λ path. omega arith) (path_at text) (path_short text)
call_short (wire.RealPath text) fits = tt

call_ask_short : (id : ℕ) (o : Option Request) → IsShortCall o → IsShortAsk (option_map_or (ask.Call id) o (failure id))
call_ask_short id None h = tt
call_ask_short id (Some request) h = h

real_path_short : (id : ℕ) (o : Option Path) → IsShortAsk (option_map_or (λ path. ask.Local id (Plain (real_path_reply path))) o (failure id))
real_path_short id None = tt
real_path_short id (Some path) = tt

request_short : (id : ℕ) (request : WireRequest) → RequestFits request → IsShortAsk (request_ask id request)
request_short id (wire.RealPath path) fits = real_path_short id (path_at path)
request_short id request fits = call_ask_short id (call_of request) (call_short request fits)

ask_short : (begun : Bool) (body : List ℕ) (packet : Asked) → Asks body packet → IsShortAsk (ask_in begun packet)
ask_short true body (asked.Init version) asks = tt
ask_short true body (asked.Request id request) asks = request_short id request (asked_fits body id request asks)
ask_short true body (asked.Limits id) asks = tt
ask_short true body (asked.BadFields id) asks = tt
ask_short true body (asked.Unknown id) asks = tt
ask_short true body asked.NoVersion asks = tt
ask_short true body asked.NoId asks = tt
ask_short false body (asked.Init version) asks = first_short (nat_lt version 3)
  where
    first_short : (b : Bool) → IsShortAsk (cond b (ask.End OldVersion) ask.Version)
    first_short true = tt
    first_short false = tt
ask_short false body (asked.Request id request) asks = tt
ask_short false body (asked.Limits id) asks = tt
ask_short false body (asked.BadFields id) asks = tt
ask_short false body (asked.Unknown id) asks = tt
ask_short false body asked.NoVersion asks = tt
ask_short false body asked.NoId asks = tt

asked_short : (begun : Bool) (body : List ℕ) (a : Ask) → AsksFor begun body a → IsShortAsk a
asked_short begun body a h = subst IsShortAsk (sym h.2) (ask_short begun body h.0 h.1)

-- the last ask
pub last_short : (begun : Bool) (bodies : List (List ℕ)) (asks : List Ask) (a : Ask) → AreAsked begun bodies (asks ++ a ∷ []) → IsShortAsk a
unfolding AreAsked
last_short begun [] asks a h = absurd (omega (arith, asked_each begun [] (asks ++ a ∷ []) h, length-append asks (a ∷ [])))
last_short begun (body ∷ bodies) [] a h = asked_short begun body a h.0
last_short begun (body ∷ bodies) (b ∷ asks) a h = last_short true bodies asks a h.1

-- ---- bounds
pub bound_is : (request : Request) → bound_of request ≡ request_names request + 3 + blocks_in request
unfolding bound_of
bound_is request = refl

-- the bound in the promise's words
pub most_is : (q : Request) → bound_of q ≡ most_steps q
most_is q = bound_is q ∙ names_are q
  where
    names_are : (q : Request) → request_names q + 3 + blocks_in q ≡ most_steps q
    names_are (call.OnPath op path) = omega arith
    names_are (call.OnPaths op old new) = omega arith
    names_are (call.ByHandle op handle) = refl
    names_are (call.Write handle offset bytes) = refl
