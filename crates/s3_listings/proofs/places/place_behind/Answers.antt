use Rattle.std.proofs.Common.{take}
use Rattle.std.specs.Option.{option_copied}
use Rattle.s3_listings.proofs.PlaceLemmas.{if_ok, if_some, goes_over}
use Rattle.s3_listings.proofs.places.place_behind.Goals as goal

pub returns-in-Some : goal.returns-in-Some
returns-in-Some c =
    if_ok c.raised.result
    (λ found. if_some found (λ first raised. goes_over c.args.asked.now c.args.key.now (take c.in-Some.len c.args.key.now) first (option_copied c.args.last) c.in-Some.ensures.done raised))
    (rw c.as_bytes.ensures.value at c.raised.ensures)
