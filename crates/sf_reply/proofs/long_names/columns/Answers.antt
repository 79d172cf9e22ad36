use Rattle.std.proofs.Common.{◌≡◌, ℕ, List, ◌++◌, ap, ◌∙◌, append_assoc}
use Rattle.std.specs.String.{string_bytes}
use Rattle.std.specs.Fmt.{decimal, styled_decimal}
use Rattle.sf_reply.specs.Longname.{spaces}
use Rattle.sf_reply.proofs.Columns.{right, left}
use Rattle.sf_reply.proofs.long_names.columns.Goals as goal

pub returns : goal.returns
returns c =
    let parts = spaces 1 ++ (styled_decimal c.laid_out.result c.args.links ++ (spaces 1 ++ (styled_decimal c.laid_out-2.result c.args.owner.uid ++ (spaces 1 ++ (styled_decimal c.laid_out-3.result c.args.owner.gid
    ++ (spaces 1 ++ (styled_decimal c.laid_out-4.result c.args.size ++ (spaces 1 ++ (styled_decimal c.laid_out-5.result c.args.mtime ++ spaces 1))))))))) in
    let is : string_bytes c.write.new.self ≡ string_bytes c.in_ok-text.text ++ parts = c.in_ok-write.ensures.bytes in
    is ∙ ap (λ (t : List ℕ). t ++ parts) c.in_ok-text.ensures.bytes
    ∙ rw (c.laid_out.ensures, c.laid_out-2.ensures, c.laid_out-3.ensures, c.laid_out-4.ensures, c.laid_out-5.ensures)
    (rw (right 3 (decimal c.args.links), left 8 (decimal c.args.owner.uid), left 8 (decimal c.args.owner.gid), right 8 (decimal c.args.size), right 12 (decimal c.args.mtime)) (simp append_assoc))
