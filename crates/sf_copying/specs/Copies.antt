-- Files being written, and the calls that write them.
use Rattle.std.specs.Prelude.{◌≡◌, ◌≢◌, ◌<◌, ℕ, suc, Option, Some, None}

-- the file that a call copies into, and the number of blocks left
pub record Copying : Type 0 where
  pub file : ℕ
  pub left : ℕ

abbrev pub copying : ℕ → ℕ → Copying
copying file left = record { file = file; left = left }

-- by call number, what each call copies into; by file, the call that writes it and the number of
-- blocks left
pub record Copiers : Type 0 where
  pub copying_of : ℕ → Option Copying
  pub writer : ℕ → Option ℕ
  pub left : ℕ → ℕ

-- The invariant: a copying call holds its file and agrees with it on the number of blocks left. No
-- other file is held, and a free file has no block left.
pub record AreCopies (s : Copiers) : Type 0 where
  pub some : (n : ℕ) (c : Copying) → s.copying_of n ≡ Some c → 0 < c.left
  pub left : (n : ℕ) (c : Copying) → s.copying_of n ≡ Some c → s.left c.file ≡ c.left
  pub holds : (n : ℕ) (c : Copying) → s.copying_of n ≡ Some c → s.writer c.file ≡ Some n
  pub held : (f n : ℕ) → s.writer f ≡ Some n
      → (c : Copying) × (s.copying_of n ≡ Some c) × (c.file ≡ f)
  pub settled : (f : ℕ) → s.writer f ≡ None → s.left f ≡ 0

-- A change of one call and one file: the other calls and files are unchanged.
pub record ChangesOneCall (old new : Copiers) (n file : ℕ) : Type 0 where
  pub calls : (m : ℕ) → m ≢ n → new.copying_of m ≡ old.copying_of m
  pub writers : (f : ℕ) → f ≢ file → new.writer f ≡ old.writer f
  pub lefts : (f : ℕ) → f ≢ file → new.left f ≡ old.left f

-- a call starts to copy into a free file
pub record StartsToCopy (old new : Copiers) (n : ℕ) (c : Copying) : Type 0 where
  pub changes : ChangesOneCall old new n c.file
  pub was : old.copying_of n ≡ None
  pub free : old.writer c.file ≡ None
  pub now : new.copying_of n ≡ Some c
  pub holds : new.writer c.file ≡ Some n
  pub left : new.left c.file ≡ c.left
  pub some : 0 < c.left

-- it copies one block, with more left
pub record CopiesOneBlock (old new : Copiers) (n : ℕ) (c : Copying) (k : ℕ) : Type 0 where
  pub changes : ChangesOneCall old new n c.file
  pub was : old.copying_of n ≡ Some c
  pub more : c.left ≡ suc k
  pub some : 0 < k
  pub now : new.copying_of n ≡ Some (copying c.file k)
  pub holds : new.writer c.file ≡ Some n
  pub left : new.left c.file ≡ k

-- The rest is copied: by the last step of the call, or by a call that helps it.
pub record CopiesRest (old new : Copiers) (n : ℕ) (c : Copying) : Type 0 where
  pub changes : ChangesOneCall old new n c.file
  pub was : old.copying_of n ≡ Some c
  pub now : new.copying_of n ≡ None
  pub free : new.writer c.file ≡ None
  pub left : new.left c.file ≡ 0

-- Another call completed, or a session ended: copying calls keep their files and the blocks left. A
-- file without writer has no block left, whether it is new or not.
pub record Spares (old new : Copiers) : Type 0 where
  pub calls : (n : ℕ) → new.copying_of n ≡ old.copying_of n
  pub writers : (f n : ℕ) → old.writer f ≡ Some n → new.writer f ≡ Some n
  pub no_more : (f n : ℕ) → new.writer f ≡ Some n → old.writer f ≡ Some n
  pub lefts : (f n : ℕ) → old.writer f ≡ Some n → new.left f ≡ old.left f
  pub settled : (f : ℕ) → new.writer f ≡ None → new.left f ≡ 0
