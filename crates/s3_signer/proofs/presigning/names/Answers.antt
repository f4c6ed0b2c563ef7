use Rattle.std.proofs.Common.{◌∙◌, ap, codes, rules}
use Rattle.std.specs.Prelude.{IsErrOf}
use Rattle.s3_signing.specs.Names.{cover_of}
use Rattle.s3_signer.specs.declared.unsigned.Unsigned.TheVariants.{NotSignable}
use Rattle.s3_signer.specs.Line.{pairs}
use Rattle.s3_signer.proofs.GrammarLemmas.{says_at_root}
use Rattle.s3_signer.proofs.PresignedLemmas.{same_cover}
use Rattle.s3_signer.proofs.presigning.names.Goals as goal

pub returns-in_err-head-clause-refused : goal.returns-in_err-head-clause-refused
returns-in_err-head-clause-refused c = λ refused target reads.
    let same : IsErrOf c.head.result NotSignable = search rules in
    c.head.ensures.refused same (says_at_root c.args.method.now target (pairs c.args.lines.now) _ reads)

pub returns-clause-value : goal.returns-clause-value
returns-clause-value c = λ target.
    c.in_ok-signed_names.ensures ∙ ap cover_of c.in_ok-head.ensures.head
    ∙ same_cover c.args.method.now (codes "/") target (pairs c.args.lines.now)
