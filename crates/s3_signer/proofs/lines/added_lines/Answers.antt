use Rattle.std.proofs.Common.{[], rules}
use Rattle.s3_signer.specs.Line.{told_by}
use Rattle.s3_signer.proofs.LineLemmas.{added_in_order, none_in_order}
use Rattle.s3_signer.proofs.lines.added_lines.Goals as goal

pub returns : goal.returns
returns c =
    let order = added_in_order (told_by c.args.telling.now) c.args.stamp.now _ _ (c.in_ok-add_lines.ensures [] (none_in_order _ (search rules))) c.in_ok-add_size.ensures in
    rw (c.in_ok-add_line-2.ensures, c.in_ok-add_line.ensures) order
