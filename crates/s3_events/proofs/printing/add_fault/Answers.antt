use Rattle.s3_events.proofs.PrintingLemmas.{begins, begins_then, begins_same}
use Rattle.s3_events.proofs.printing.add_fault.Goals as goal

-- what was there stays at the front of the text, wherever memory runs out
pub returns-in_err-add_number-clause-before : goal.returns-in_err-add_number-clause-before
returns-in_err-add_number-clause-before c =
    let word = begins _ _ _ c.in_ok-extend_from_slice.ensures.items in
    begins_then _ _ _ word c.in_err-add_number.ensures.before

pub returns-in_err-push-clause-before : goal.returns-in_err-push-clause-before
returns-in_err-push-clause-before c =
    let word = begins _ _ _ c.in_ok-extend_from_slice.ensures.items in
    let number = begins_then _ _ _ word (begins _ _ _ c.in_ok-add_number.ensures.digits) in
    begins_same _ _ _ number c.in_err-push.ensures.items

pub returns-in_err-add_number-2-clause-before : goal.returns-in_err-add_number-2-clause-before
returns-in_err-add_number-2-clause-before c =
    let word = begins _ _ _ c.in_ok-extend_from_slice.ensures.items in
    let number = begins_then _ _ _ word (begins _ _ _ c.in_ok-add_number.ensures.digits) in
    let space = begins_then _ _ _ number (begins _ _ _ c.in_ok-push.ensures.items) in
    begins_then _ _ _ space c.in_err-add_number-2.ensures.before

pub returns-in_err-push-2-clause-before : goal.returns-in_err-push-2-clause-before
returns-in_err-push-2-clause-before c =
    let word = begins _ _ _ c.in_ok-extend_from_slice.ensures.items in
    let number = begins_then _ _ _ word (begins _ _ _ c.in_ok-add_number.ensures.digits) in
    let space = begins_then _ _ _ number (begins _ _ _ c.in_ok-push.ensures.items) in
    let message = begins_then _ _ _ space (begins _ _ _ c.in_ok-add_number-2.ensures.digits) in
    begins_same _ _ _ message c.in_err-push-2.ensures.items

pub returns-in_err-extend_from_slice-2-clause-before : goal.returns-in_err-extend_from_slice-2-clause-before
returns-in_err-extend_from_slice-2-clause-before c =
    let word = begins _ _ _ c.in_ok-extend_from_slice.ensures.items in
    let number = begins_then _ _ _ word (begins _ _ _ c.in_ok-add_number.ensures.digits) in
    let space = begins_then _ _ _ number (begins _ _ _ c.in_ok-push.ensures.items) in
    let message = begins_then _ _ _ space (begins _ _ _ c.in_ok-add_number-2.ensures.digits) in
    let second = begins_then _ _ _ message (begins _ _ _ c.in_ok-push-2.ensures.items) in
    begins_same _ _ _ second c.in_err-extend_from_slice-2.ensures.items

pub returns-in_err-push-3-clause-before : goal.returns-in_err-push-3-clause-before
returns-in_err-push-3-clause-before c =
    let word = begins _ _ _ c.in_ok-extend_from_slice.ensures.items in
    let number = begins_then _ _ _ word (begins _ _ _ c.in_ok-add_number.ensures.digits) in
    let space = begins_then _ _ _ number (begins _ _ _ c.in_ok-push.ensures.items) in
    let message = begins_then _ _ _ space (begins _ _ _ c.in_ok-add_number-2.ensures.digits) in
    let second = begins_then _ _ _ message (begins _ _ _ c.in_ok-push-2.ensures.items) in
    let name = begins_then _ _ _ second (begins _ _ _ c.in_ok-extend_from_slice-2.ensures.items) in
    begins_same _ _ _ name c.in_err-push-3.ensures.items

pub returns-clause-before : goal.returns-clause-before
returns-clause-before c =
    let word = begins _ _ _ c.in_ok-extend_from_slice.ensures.items in
    let number = begins_then _ _ _ word (begins _ _ _ c.in_ok-add_number.ensures.digits) in
    let space = begins_then _ _ _ number (begins _ _ _ c.in_ok-push.ensures.items) in
    let message = begins_then _ _ _ space (begins _ _ _ c.in_ok-add_number-2.ensures.digits) in
    let second = begins_then _ _ _ message (begins _ _ _ c.in_ok-push-2.ensures.items) in
    let name = begins_then _ _ _ second (begins _ _ _ c.in_ok-extend_from_slice-2.ensures.items) in
    begins_then _ _ _ name (begins _ _ _ c.in_ok-push-3.ensures.items)
