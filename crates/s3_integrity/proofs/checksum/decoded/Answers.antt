use Rattle.std.proofs.Common.{◌∙◌, sym, arith}
use Rattle.s3_integrity.proofs.SpellingLemmas.{decoded_as-long, text_decoded, text_undecoded}
use Rattle.s3_integrity.proofs.checksum.decoded.Goals as goal

pub returns-then-text-gt-TEXT_MAX : goal.returns-then-text-gt-TEXT_MAX
returns-then-text-gt-TEXT_MAX g c =
    let long = c.if-text-gt-TEXT_MAX.true in
    sym (decoded_as-long g.row.N c.args.text.now (λ i. let f = c.type_inv.text i in omega arith) c.requires long)

pub returns-in-Ok : goal.returns-in-Ok
returns-in-Ok g c = c.as_many.ensures ∙ sym (text_decoded g.row.N c.args.text.now _ (c.in-Ok.ensures.ok.0))

pub returns-in-Err : goal.returns-in-Err
returns-in-Err g c = sym (text_undecoded g.row.N c.args.text.now _ c.in-Err.ensures.err)
