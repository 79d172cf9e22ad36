-- The length of a request, for any server.
use Rattle.std.specs.Prelude.{◌+◌, ℕ, length}
use Rattle.sf_request.specs.declared.request.WireRequest.{WireRequest}
use Rattle.sf_request.specs.declared.request.WireRequest.TheVariants as request

-- the id of each request; only one is pending at a time
abbrev pub id : ℕ
id = 1

-- the number of bytes in the strings of a request
abbrev pub strings_of : WireRequest → ℕ
strings_of (request.OnPath op path) = length path
strings_of (request.OnPaths op old new) = length old + length new
strings_of (request.ByHandle op handle) = length handle
strings_of (request.Write handle offset bytes) = length handle + length bytes
strings_of (request.LStat path) = length path
strings_of (request.RealPath path) = length path

-- the most bytes in a request's strings: a packet has up to 262144, and its other fields take less
-- than 64
abbrev pub most_strings : ℕ
most_strings = 262080
