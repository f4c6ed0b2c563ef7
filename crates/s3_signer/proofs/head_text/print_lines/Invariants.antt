use Rattle.std.proofs.Common.{◌≡◌, ◌++◌, take}
use Rattle.std.specs.List.{flat_map}
use Rattle.httparse.specs.Grammar.{print_field}
use Rattle.s3_signer.specs.Line.{pair}
use Rattle.s3_signer.specs.Request.{field_of}
use Rattle.s3_signer.proofs.head_text.print_lines.Given as goal

abbrev pub invariant-loop-line : goal.invariant-loop-line
invariant-loop-line l =
    l.text.items ≡ l.initial.text.items ++ flat_map (λ line. print_field (field_of (pair line))) (take l.line-index l.lines)
