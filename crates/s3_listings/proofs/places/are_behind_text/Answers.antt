use Rattle.s3_listings.proofs.PlaceLemmas.{all_from_key, all_behind_key, one_from_first, one_from_key, one_behind_key}
use Rattle.s3_listings.proofs.places.are_behind_text.Goals as goal

-- from the first key on
pub returns-in-First-clause-one : goal.returns-in-First-clause-one
returns-in-First-clause-one c = λ no. one_from_first c.args.text.now c.args.start.now c.in-First.is

-- from a key on
pub returns-in-From-clause-all : goal.returns-in-From-clause-all
returns-in-From-clause-all c = λ before. all_from_key c.args.text.now c.in-From.first c.args.start.now c.in-From.is (rw (← c.as_bytes.ensures.value) (rw (← c.is_before.ensures) before))

pub returns-in-From-clause-one : goal.returns-in-From-clause-one
returns-in-From-clause-one c = λ back. one_from_key c.args.text.now c.in-From.first c.args.start.now c.in-From.is (rw (← c.as_bytes.ensures.value) (rw (← c.is_before.ensures) back))

-- behind a key
pub returns-in-Behind-clause-all : goal.returns-in-Behind-clause-all
returns-in-Behind-clause-all c =
    λ up_to. all_behind_key c.args.text.now c.in-Behind.last c.args.start.now c.in-Behind.is (rw (← c.as_bytes-in-Behind.ensures.value) (rw (← c.is_before-in-Behind.ensures) up_to))

pub returns-in-Behind-clause-one : goal.returns-in-Behind-clause-one
returns-in-Behind-clause-one c =
    λ before. one_behind_key c.args.text.now c.in-Behind.last c.args.start.now c.in-Behind.is (rw (← c.as_bytes-in-Behind.ensures.value) (rw (← c.is_before-in-Behind.ensures) before))
