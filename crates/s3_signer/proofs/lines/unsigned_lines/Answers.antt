use Rattle.std.proofs.Common.{◌∙◌, ap, map, sym}
use Rattle.std.proofs.lemmas.List.{map-append}
use Rattle.s3_text.specs.Sorting.{sorted_by}
use Rattle.s3_signer.specs.Line.{told_by}
use Rattle.s3_signer.specs.Request.{added_lines, given_lines, line_cmp, lower_line, unsigned_lines}
use Rattle.s3_signer.proofs.lines.unsigned_lines.Goals as goal

pub returns : goal.returns
unfolding unsigned_lines
returns c =
    let added = added_lines (told_by c.args.telling.now) c.args.stamp.now in
    c.in_ok-add_lines.ensures (map lower_line added) c.in_ok-lines.ensures
    ∙ ap (sorted_by line_cmp) (sym (map-append lower_line (given_lines c.args.headers.now) added))
