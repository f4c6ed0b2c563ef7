use Rattle.std.proofs.Common.{sym}
use Rattle.s3_replies.proofs.ErrorLemmas.{error_object_is}
use Rattle.s3_replies.proofs.document.object_of.Goals as goal

pub returns : goal.returns
returns c =
    λ number.
    rw (c.write.ensures.written, c.write_texts.ensures.items, c.new-object.ensures)
    (sym (error_object_is c.args.code number))
