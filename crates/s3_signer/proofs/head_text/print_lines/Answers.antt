use Rattle.std.proofs.Common.{take_all, refl}
use Rattle.httparse.specs.Grammar.{print_field}
use Rattle.std.proofs.lemmas.List.Folds.{flat_map-map}
use Rattle.s3_signer.specs.Line.{pair}
use Rattle.s3_signer.specs.Request.{HeaderLine, field_of}
use Rattle.s3_signer.proofs.head_text.print_lines.Goals as goal

pub returns : goal.returns
returns c =
    let lines = c.args.lines.now in
    let whole = take_all c.loop-line.line-index lines c.loop-line-test.false in
    rw (c.loop-line.invariant, whole, flat_map-map (λ (l : HeaderLine). print_field (field_of l)) pair lines) refl
