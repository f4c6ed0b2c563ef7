use Rattle.std.proofs.Common.{sym}
use Rattle.s3_documents.proofs.CopiedLemmas.{copied_spelled}
use Rattle.s3_documents.proofs.copied.in_json.Goals as goal

pub returns : goal.returns
returns c =
    rw (
      c.put-5.ensures.items,
      c.put-4.ensures.items,
      c.timestamp.ensures.value,
      c.put-3.ensures.items,
      c.put-2.ensures.items,
      c.as_bytes.ensures.value,
      c.text.ensures.value,
      c.put.ensures.items,
      c.new-document.ensures,
    )
    (sym (copied_spelled c.args.tag.now c.args.moment c.text.ensures.characters c.timestamp.ensures.plain))
