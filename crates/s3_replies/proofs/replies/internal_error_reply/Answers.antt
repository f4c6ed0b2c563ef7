use Rattle.std.proofs.Common.{refl}
use Rattle.hex.specs.Hex.{encode_with}
use Rattle.std.specs.Fmt.{digits}
use Rattle.s3_text.specs.Digits.{number_digits}
use Rattle.s3_replies.specs.Lines.{print_lines, status_line}
use Rattle.s3_replies.proofs.replies.internal_error_reply.Goals as goal

pub returns-clause-value : goal.returns-clause-value
unfolding status_line print_lines digits number_digits encode_with
returns-clause-value c = refl
