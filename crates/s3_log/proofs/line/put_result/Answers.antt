use Rattle.std.proofs.Common.{ℕ, ◌∙◌, Some, ap, codes}
use Rattle.s3_documents.specs.Printed.{told}
use Rattle.s3_documents.specs.Tree.{number}
use Rattle.s3_terms.specs.Status.{number_of}
use Rattle.s3_log.specs.Line.{code_told, led}
use Rattle.s3_log.proofs.LineLemmas.{both_behind, code_lead, led_behind, status_lead}
use Rattle.s3_log.proofs.RoomLemmas.{kept_behind, ok_behind, puts_as}
use Rattle.s3_log.proofs.line.put_result.Goals as goal

pub returns : goal.returns
returns c =
    let status = Some (number (number_of c.args.told.status)) in
    let code = code_told c.args.told.code in
    let put = puts_as (ap (λ (n : ℕ). led (codes ",\"status\":") (Some (number n))) (c.from.ensures ∙ c.number.ensures)) c.put_number-code.ensures in
    record {
      put = ok_behind c.put_code.result _ c.put_code.new.room put
          (both_behind _ _ (told (codes "status") status) (told (codes "code") code)
          (led_behind (codes ",\"status\":") (codes "status") status status_lead)
          (led_behind (codes ",\"code\":") (codes "code") code code_lead))
          c.put_code.ensures.put;
      kept = kept_behind c.put_code.result c.put_code.new.room put c.put_code.ensures.same;
    }
