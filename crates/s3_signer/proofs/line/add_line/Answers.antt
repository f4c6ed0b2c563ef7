use Rattle.std.proofs.Common.{◌∙◌, ap}
use Rattle.s3_text.specs.Sorting.{insert_by}
use Rattle.s3_signer.specs.Line.{pair, pairs}
use Rattle.s3_signer.specs.Request.{line_cmp}
use Rattle.s3_signer.proofs.LineLemmas.{inserted}
use Rattle.s3_signer.proofs.line.add_line.Goals as goal

pub returns : goal.returns
returns c =
    let line = c.in_ok-line.line in
    let lines = c.args.lines.now.items in
    rw (c.in_ok-insert.ensures.items, c.place_of-place.ensures.value, c.deref-2.ensures.value, c.deref.ensures.value)
    (inserted pair line_cmp line lines ∙ ap (λ l. insert_by line_cmp l (pairs lines)) c.in_ok-line.ensures)
