use Rattle.std.specs.Prelude.{IsTrue, nat_eq}
use Rattle.std.specs.List.{starts_with}
use Rattle.s3_listings.proofs.PlaceLemmas.{at_some, from_front}
use Rattle.s3_listings.proofs.places.from_text.Goals as goal

pub returns-in-Some : goal.returns-in-Some
returns-in-Some c = λ key before. from_front c.args.text.now c.in-Some.first key (at_some (λ found. IsTrue (starts_with nat_eq c.args.text.now found)) c.in_ok-found.found c.in-Some.first c.in-Some.is c.in_ok-found.ensures) before
