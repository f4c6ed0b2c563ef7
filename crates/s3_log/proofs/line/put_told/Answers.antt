use Rattle.std.proofs.Common.{◌∙◌, ap, refl, sym}
use Rattle.s3_log.specs.Line.{behind, told_fields}
use Rattle.s3_driver.specs.declared.told.Told.{Told}
use Rattle.s3_log.proofs.LineLemmas.{status_told}
use Rattle.s3_log.proofs.RoomLemmas.{puts_as}
use Rattle.s3_log.proofs.line.put_told.Goals as goal

pub returns-then-is_answer-clause-put : goal.returns-then-is_answer-clause-put
returns-then-is_answer-clause-put c = puts_as (status_told c.args.told.number ∙ ap (λ (t : Told). behind (told_fields t)) (sym (c.if-is_answer.ensures refl))) c.put.ensures
