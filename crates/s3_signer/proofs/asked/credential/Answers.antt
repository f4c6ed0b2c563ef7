use Rattle.std.proofs.Common.{codes}
use Rattle.s3_calendar.specs.Moment.{stamp_date}
use Rattle.s3_signer.proofs.PresignedLemmas.{joined_credential}
use Rattle.s3_signer.proofs.asked.credential.Goals as goal

pub returns : goal.returns
returns c =
    rw (
      c.in_ok-extend_from_slice-3.ensures.items,
      c.in_ok-extend_from_slice-2.ensures.items,
      c.in_ok-push-2.ensures.items,
      c.in_ok-extend_from_slice.ensures.items,
      c.in_ok-push.ensures.items,
      c.in_ok-text.ensures.items,
      c.date.ensures,
    )
    (joined_credential c.args.id.now (stamp_date c.args.stamp.now) c.args.region.now (codes "s3") (codes "aws4_request"))
