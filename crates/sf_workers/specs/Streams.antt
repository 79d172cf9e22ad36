-- The streams that workers serve, and what remains of them.
use Rattle.std.specs.Prelude.{◌≡◌, ◌+◌, ℕ, List, [], ◌∷◌, ◌++◌, length, map, filter_map, Bool, Option, Some, None, All, IsPermutation}
use Rattle.sf_call.specs.declared.record.Record.{Record}
use Rattle.sf_connection.specs.Streams.{StreamView}
use Rattle.sf_core.specs.Histories.{IsHistory}
use Rattle.sf_noted.specs.Pages.{Page}
use Rattle.sf_pool.specs.SessionLanes.{Notes}
use Rattle.sf_workers.specs.declared.lines.Ended.{Ended}
use Rattle.sf_workers.specs.declared.streams.Event.{Event}
use Rattle.sf_workers.specs.declared.streams.Event.TheVariants as event
use Rattle.sf_workers.specs.declared.streams.Refusal.{Refusal}
use Rattle.sf_workers.specs.declared.streams.Refusal.TheVariants as refusal
use Rattle.sf_workers.specs.Sessions.{WasServed, IsLinearization, HasTranscripts}

-- the streams that arrived and those that were returned, in order, if they are known, and how many
-- arrived
pub record SourceView (L : Type 0) : Type 0 where
  pub received : Option (List L)
  pub returned : Option (List L)
  pub count : ℕ

-- the stream that arrived, if any
abbrev pub arrived_by : {L : Type 0} → Event L → List L
arrived_by (event.Arrived stream) = stream ∷ []
arrived_by _ = []

-- A stream is refused before its session: the worker has its connections, or memory ran out. Only
-- the core refuses a session.
abbrev pub IsRefusedFor : Refusal → (full lacks : Type 0) → Type 0
IsRefusedFor refusal.Full full lacks = full
IsRefusedFor (refusal.OutOfMemory _) full lacks = lacks
IsRefusedFor refusal.Unwatched full lacks = Unit {0}
IsRefusedFor (refusal.NotJoined _) full lacks = Unit {0}

-- a stream as it arrived and as it was returned, and the session that was served over it
pub record Service (L : Type 0) : Type 0 where
  pub start : L
  pub finish : L
  pub session : Option (ℕ × Page)

-- One session was served over the stream, from its first byte to its last. Without a session the
-- stream is untouched.
abbrev pub IsServedOnce : Option (ℕ × Page) → (from to : StreamView) → Type 0
IsServedOnce None from to = to ≡ from
IsServedOnce (Some x) from to = (steps : ℕ) × WasServed x from to steps

-- What a worker did with its streams. Those that were open before, and those that arrived since,
-- were each served once and returned, or are open after. The sessions since are theirs.
pub record ServesStreams {L : Type 0} (view : L → StreamView) (before arrived after : List L)
    (returned returned' : Option (List L)) (sessions sessions' : List (ℕ × Page)) : Type 0 where
  pub services : List (Service L)
  pub each : All (λ s. IsServedOnce s.session (view s.start) (view s.finish)) services
  pub are : IsPermutation (before ++ arrived) (map (λ s. s.start) services ++ after)
  pub returns : Notes returned returned' (map (λ s. s.finish) services)
  pub are_all : sessions' ≡ sessions ++ filter_map (λ s. s.session) services

-- What a worker did with its streams, if these arrived from a source since. The count grew by their
-- number.
pub record ServesSource {L : Type 0} (view : L → StreamView) (source source' : SourceView L)
    (before after : List L) (sessions sessions' : List (ℕ × Page)) : Type 0 where
  pub arrived : List L
  pub receives : Notes source.received source'.received arrived
  pub many : source'.count ≡ source.count + length arrived
  pub streams : ServesStreams view before arrived after source.returned source'.returned
      sessions sessions'

-- This many streams were received, and each was served once. These are the sessions.
pub record ServesEach (streams : ℕ) (sessions : List (ℕ × Page)) : Type 0 where
  pub services : List (Service StreamView)
  pub each : All (λ s. IsServedOnce s.session s.start s.finish) services
  pub many : length services ≡ streams
  pub are_all : filter_map (λ s. s.session) services ≡ sessions

-- Workers received this many streams, and served each once, on one core. Its history is a
-- linearization of their sessions' calls. The transcripts and the number of sessions are theirs.
pub record HasServed (keeps : Bool) (streams : ℕ) (ended : Ended) : Type 0 where
  pub history : List Record
  pub sessions : List (ℕ × Page)
  pub whole : IsHistory ended.core history
  pub order : IsLinearization history sessions
  pub kept : HasTranscripts keeps sessions ended.transcripts.items
  pub each : ServesEach streams sessions
  pub many : ended.sessions ≡ length sessions
