use Rattle.std.proofs.Common.{◌≡◌, ◌∙◌, true}
use Rattle.std.specs.Str.{str_to_ascii_lowercase}
use Rattle.s3_signing.specs.Cover.{covers}
use Rattle.s3_signing.proofs.CoverLemmas.{all_covered_on}
use Rattle.s3_signing.proofs.cover.covers_amz.Goals as goal

pub loop-index-preserved : goal.loop-index-preserved
loop-index-preserved c =
    let signed = c.args.signed.now in
    let sent = c.header.result.0.now in
    let covered : covers signed (str_to_ascii_lowercase sent) ≡ true = cc (c.if-not-covers.false) in
    all_covered_on signed c.args.head.now.headers c.loop-index.index sent _ c.header.ensures covered ∙ c.loop-index.invariant
