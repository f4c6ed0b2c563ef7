use Rattle.std.proofs.Common.{sym}
use Rattle.std.specs.Option.{option_copied}
use Rattle.s3_listings.proofs.PlaceLemmas.{goes_nowhere}
use Rattle.s3_listings.proofs.places.next_place.Goals as goal

pub returns-then-is_past : goal.returns-then-is_past
returns-then-is_past c =
    goes_nowhere c.args.asked.now c.args.key (option_copied c.args.last) (sym (rw (c.as_bytes.ensures.value, c.as_bytes-2.ensures.value) at c.if-is_past.ensures))
