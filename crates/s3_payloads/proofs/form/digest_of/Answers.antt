use Rattle.std.proofs.Common.{refl, arith}
use Rattle.s3_payloads.proofs.DigestLemmas.{digest_decoded, digest_undecoded, digest_of-other_length}
use Rattle.s3_payloads.proofs.form.digest_of.Goals as goal

pub returns-then-text-ne-DIGEST_TEXT_LEN : goal.returns-then-text-ne-DIGEST_TEXT_LEN
returns-then-text-ne-DIGEST_TEXT_LEN c =
    rw (digest_of-other_length c.args.text.now (λ i. let f = c.type_inv.text i in omega arith) c.if-text-ne-DIGEST_TEXT_LEN.true) refl

pub returns-in-Ok : goal.returns-in-Ok
returns-in-Ok c = rw (digest_decoded c.args.text.now _ (c.in-Ok.ensures.ok.0)) c.as_digest.ensures

pub returns-in-Err : goal.returns-in-Err
returns-in-Err c = rw (digest_undecoded c.args.text.now _ c.in-Err.ensures.err) refl
