use Rattle.std.proofs.Common.{sym}
use Rattle.s3_replies.proofs.ErrorLemmas.{error_element_is}
use Rattle.s3_replies.proofs.document.element_of.Goals as goal

pub returns : goal.returns
returns c =
    rw (c.write-3.ensures.written, c.write-2.ensures.written, c.number_digits.ensures, c.write.ensures.written, c.write_texts.ensures.items, c.new-element.ensures)
    (sym (error_element_is c.args.code c.args.number))
