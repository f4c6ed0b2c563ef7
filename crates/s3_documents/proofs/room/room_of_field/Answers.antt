use Rattle.std.proofs.Common.{arith}
use Rattle.s3_documents.proofs.XmlRoomLemmas.{text_field, number_field, truth_field, moment_field}
use Rattle.s3_documents.proofs.room.room_of_field.Goals as goal

pub returns-in-Text-clause-xml : goal.returns-in-Text-clause-xml
returns-in-Text-clause-xml c = λ manner.
    rw (c.in-Text.is)
    (omega (arith, text_field manner c.args.field.now.name.now c.in-Text.text.now, c.saturating_add.ensures, c.room_of_text.ensures, c.room_of_text-name.ensures))

pub returns-in-Number-clause-xml : goal.returns-in-Number-clause-xml
returns-in-Number-clause-xml c = λ manner.
    rw (c.in-Number.is)
    (omega (arith, number_field manner c.args.field.now.name.now c.in-Number._number (omega arith), c.saturating_add-in-Number.ensures, c.room_of_text-name.ensures))

pub returns-in-Truth-clause-xml : goal.returns-in-Truth-clause-xml
returns-in-Truth-clause-xml c = λ manner.
    rw (c.in-Truth.is)
    (omega (arith, truth_field manner c.args.field.now.name.now c.in-Truth.field-0, c.saturating_add-in-Truth.ensures, c.room_of_text-name.ensures))

pub returns-in-Moment-clause-xml : goal.returns-in-Moment-clause-xml
returns-in-Moment-clause-xml c = λ manner.
    rw (c.in-Moment.is)
    (omega (arith, moment_field manner c.args.field.now.name.now c.in-Moment.field-0, c.saturating_add-in-Moment.ensures, c.room_of_text-name.ensures))
