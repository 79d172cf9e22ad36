use Rattle.std.proofs.Common.{◌≡◌, ◌+◌, ◌++◌, ◌-◌, ◌/◌, ◌%◌, ◌∙◌, ℕ, List, length, drop, Result, Ok, Err, OnOk, sym, ap, arith}
use Rattle.std.proofs.lemmas.List.{length-append}
use Rattle.sf_block.specs.Contents.{resized}
use Rattle.sf_block.specs.Blocks.{block_in, bytes_from}
use Rattle.sf_block.proofs.Places.{from_block, from_run, length_bytes}
use Rattle.sf_block.proofs.contents.append_from.Goals as goal

-- if it succeeds, the appended bytes are those from the offset on
appended : {A E : Type 0} (result : Result A E) (block : ℕ → List ℕ) (at n : ℕ) (old new part : List ℕ) → part ≡ bytes_from block at n
    → OnOk result (new ≡ old ++ part) → OnOk result (new ≡ old ++ bytes_from block at (length new - length old))
appended (Err e) block at n old new part is put = put
appended (Ok x) block at n old new part is put =
    let all : new ≡ old ++ bytes_from block at n = put ∙ ap (λ (x : List ℕ). old ++ x) is in
    let size : length new ≡ length old + length (bytes_from block at n) = ap (λ (x : List ℕ). length x) all ∙ length-append old (bytes_from block at n) in
    all ∙ ap (λ m. old ++ bytes_from block at m) (omega (arith, size, length_bytes block at n))

pub returns-in-Some-clause-bytes : goal.returns-in-Some-clause-bytes
returns-in-Some-clause-bytes c =
    let block : ℕ → List ℕ = block_in c.args.blocks.now in
    let run : List ℕ = c.in-Some.run'.now in
    let at : ℕ = c.args.at in
    appended c.append.result block at c.min-n.result c.args.copy.now.items c.append.new.copy.items (resized (drop (at % 32768) c.as_slice.result.now) c.min-n.result)
    (ap (λ (x : List ℕ). resized (drop (at % 32768) x) c.min-n.result) c.as_slice.ensures
    ∙ from_run block run at c.min-n.result (c.requires.runs (at / 32768) run (sym c.in-Some.ensures)) (omega (arith, c.min-n.ensures)))
    c.append.ensures

pub returns-clause-bytes : goal.returns-clause-bytes
returns-clause-bytes c =
    let block : ℕ → List ℕ = block_in c.args.blocks.now in
    let at : ℕ = c.args.at in
    appended c.append-2.result block at c.min-n-2.result c.args.copy.now.items c.append-2.new.copy.items (resized (drop (at % 4096) c.get-2.result.now) c.min-n-2.result)
    (ap (λ (x : List ℕ). resized (drop (at % 4096) x) c.min-n-2.result) c.get-2.ensures
    ∙ from_block block at c.min-n-2.result (omega (arith, c.min-n-2.ensures)))
    c.append-2.ensures
