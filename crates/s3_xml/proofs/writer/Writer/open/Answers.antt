use Rattle.std.proofs.lemmas.Result.{on_ok_weaker}
use Rattle.s3_xml.proofs.WriterLemmas.{opened}
use Rattle.s3_xml.proofs.writer.Writer.open.Goals as goal

pub returns-clause-told : goal.returns-clause-told
returns-clause-told c =
    on_ok_weaker c.put-4.result
    (opened c.args.self.now.bytes c.put.new.self.bytes c.put-2.new.self.bytes c.put-3.new.self.bytes c.put_namespace.new.self.bytes c.put-4.new.self.bytes
    c.args.root.now c.args.namespace.now c.in_ok-put.ensures.told c.in_ok-put-2.ensures.told (rw c.as_bytes.ensures.value at c.in_ok-put-3.ensures.told) c.in_ok-put_namespace.ensures.told)
    c.put-4.ensures.told
