use Rattle.std.proofs.Common.{ap, ◌∙◌, map}
use Rattle.s3_documents.specs.PartList.{part_fields}
use Rattle.s3_documents.proofs.PrinterLemmas.{list_told}
use Rattle.s3_documents.proofs.part_list.PartsListTold.print.Goals as goal

pub returns-clause-tokens : goal.returns-clause-tokens
returns-clause-tokens c =
    let id = c.text_of.ensures ∙ c.deref.ensures.0 ∙ c.upload_id_told-id.ensures.value in
    list_told c.print_list.result _ _ _ _ _ _ _ _ _
    c.fields_told-before.ensures (ap (map part_fields) c.rows.ensures) (c.id_fields-behind.ensures c.args.self.now.id id) c.print_list.ensures.tokens
