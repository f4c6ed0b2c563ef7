use Rattle.s3_events.proofs.PrintingLemmas.{begins, begins_then, begins_same}
use Rattle.s3_events.proofs.printing.add_line.Goals as goal

-- what was there stays at the front of the text, also where memory runs out on the way
pub returns-in_err-add_hex-clause-before : goal.returns-in_err-add_hex-clause-before
returns-in_err-add_hex-clause-before c =
    let number = begins _ _ _ c.in_ok-add_number.ensures.digits in
    let space = begins_then _ _ _ number (begins _ _ _ c.in_ok-push.ensures.items) in
    begins_then _ _ _ space c.in_err-add_hex.ensures.before

pub returns-in_err-push-2-clause-before : goal.returns-in_err-push-2-clause-before
returns-in_err-push-2-clause-before c =
    let number = begins _ _ _ c.in_ok-add_number.ensures.digits in
    let space = begins_then _ _ _ number (begins _ _ _ c.in_ok-push.ensures.items) in
    let digits = begins_then _ _ _ space (begins _ _ _ c.in_ok-add_hex.ensures.digits) in
    begins_same _ _ _ digits c.in_err-push-2.ensures.items

pub returns-clause-before : goal.returns-clause-before
returns-clause-before c =
    let number = begins _ _ _ c.in_ok-add_number.ensures.digits in
    let space = begins_then _ _ _ number (begins _ _ _ c.in_ok-push.ensures.items) in
    let digits = begins_then _ _ _ space (begins _ _ _ c.in_ok-add_hex.ensures.digits) in
    begins_then _ _ _ digits (begins _ _ _ c.in_ok-push-2.ensures.items)
