use Rattle.std.specs.Prelude.{IsTrue, nat_eq}
use Rattle.std.specs.List.{starts_with}
use Rattle.s3_listings.proofs.PlaceLemmas.{at_some, behind_front}
use Rattle.s3_listings.proofs.places.behind_text.Goals as goal

pub returns-in-Some : goal.returns-in-Some
returns-in-Some c = λ key before. behind_front c.args.text.now c.in-Some.last key (at_some (λ found. IsTrue (starts_with nat_eq c.args.text.now found)) c.in_ok-found.found c.in-Some.last c.in-Some.is c.in_ok-found.ensures) before
