use Rattle.std.proofs.Common.{◌≡◌, ℕ, List, codes, subst}
use Rattle.std.specs.Prelude.{IfOk}
use Rattle.s3_calendar.specs.Moment.{stamp_date}
use Rattle.s3_signing.proofs.WritingLemmas.{joined_authorization}
use Rattle.s3_signing.proofs.authorize.authorization.Goals as goal

pub returns : goal.returns
returns c =
    let whole = joined_authorization (codes "AWS4-HMAC-SHA256 Credential=") c.args.id.now (stamp_date c.args.stamp.now) c.args.region.now (codes "s3") (codes "aws4_request") (codes ", SignedHeaders=") c.args.signed.now (codes ", Signature=") c.args.signature.now in
    subst (λ (t : List ℕ). IfOk c.joined.result (λ text. text.items ≡ t)) whole (rw c.date.ensures at c.joined.ensures)
