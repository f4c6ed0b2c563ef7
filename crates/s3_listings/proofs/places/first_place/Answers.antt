use Rattle.std.proofs.Common.{sym}
use Rattle.s3_listings.proofs.PlaceLemmas.{if_ok, untold_before, untold_up_to}
use Rattle.s3_listings.proofs.places.first_place.Goals as goal

-- behind the text behind which the list goes on
pub returns-in-Some : goal.returns-in-Some
returns-in-Some c =
    if_ok c.behind_text.result (λ start places row before. untold_up_to c.args.asked.now row c.in-Some.text.now (sym c.in-Some.ensures) (places row.key before)) c.behind_text.ensures

-- from the prefix on
pub returns-in_default : goal.returns-in_default
returns-in_default c =
    if_ok c.from_text.result (λ start places row before. untold_before c.args.asked.now row (rw (sym c.as_bytes-prefix.ensures.value) (places row.key before))) c.from_text.ensures
