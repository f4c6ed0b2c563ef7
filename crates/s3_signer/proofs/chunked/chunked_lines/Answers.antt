use Rattle.std.proofs.Common.{◌∙◌, sym, subst}
use Rattle.s3_signer.specs.Request.{CanBeSent, given_lines}
use Rattle.s3_signer.proofs.ChunkedLemmas.{told_chunks}
use Rattle.s3_signer.proofs.VerifiedLemmas.{lines_along}
use Rattle.s3_signer.proofs.chunked.chunked_lines.Goals as goal

pub returns-clause-signed : goal.returns-clause-signed
returns-clause-signed c =
    let same = told_chunks c.args.body.now c.args.size c.args.sent c.as_slice.result.now c.as_slice-2.result.now c.as_slice-3.result.now c.as_bytes-decoded.result.now
    c.requires c.as_slice.ensures c.as_slice-2.ensures c.as_slice-3.ensures (c.as_bytes-decoded.ensures.value ∙ c.format.ensures.text) in
    lines_along c.args.id.now c.args.secret.now c.args.region.now c.args.method.now c.args.target.now (given_lines c.args.headers.now) _ _ c.args.stamp c.signed_lines.result same c.signed_lines.ensures.signed

pub returns-clause-refused : goal.returns-clause-refused
returns-clause-refused c = λ refused text sent.
    let same = told_chunks c.args.body.now c.args.size c.args.sent c.as_slice.result.now c.as_slice-2.result.now c.as_slice-3.result.now c.as_bytes-decoded.result.now
    c.requires c.as_slice.ensures c.as_slice-2.ensures c.as_slice-3.ensures (c.as_bytes-decoded.ensures.value ∙ c.format.ensures.text) in
    c.signed_lines.ensures.refused refused text
    (subst (λ t. CanBeSent c.args.id.now c.args.secret.now c.args.region.now c.args.method.now c.args.target.now (given_lines c.args.headers.now) t c.args.stamp text) (sym same) sent)
