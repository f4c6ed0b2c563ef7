use Rattle.std.proofs.Common.{sym}
use Rattle.s3_documents.proofs.CopiedLemmas.{copied_written}
use Rattle.s3_documents.proofs.copied.in_xml.Goals as goal

pub returns : goal.returns
returns c =
    rw (
      c.put-9.ensures.items,
      c.put-8.ensures.items,
      c.as_bytes-3.ensures.value,
      c.put-7.ensures.items,
      c.put-6.ensures.items,
      c.timestamp.ensures.value,
      c.put-5.ensures.items,
      c.put-4.ensures.items,
      c.as_bytes-2.ensures.value,
      c.text.ensures.value,
      c.put-3.ensures.items,
      c.put-2.ensures.items,
      c.as_bytes.ensures.value,
      c.put.ensures.items,
      c.new-document.ensures,
    )
    (sym (copied_written c.args.root.now c.args.tag.now c.args.moment c.text.ensures.characters c.timestamp.ensures.characters))
