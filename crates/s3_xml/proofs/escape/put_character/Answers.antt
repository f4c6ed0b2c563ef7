use Rattle.std.proofs.Common.{get_or, drop, sym, arith}
use Rattle.std.proofs.lemmas.Result.{err_from_is_err_and}
use Rattle.s3_xml.specs.Printed.{escaped, escaped_byte, escaped_noncharacter}
use Rattle.s3_xml.proofs.EscapeLemmas.{advances, lacks, escaped_at_byte, escaped_at_noncharacter, noncharacter_length}
use Rattle.s3_xml.proofs.escape.put_character.Goals as goal

pub returns-in_err-put_noncharacter-clause-room : goal.returns-in_err-put_noncharacter-clause-room
returns-in_err-put_noncharacter-clause-room c =
    let p = err_from_is_err_and c.from_residual.result c.from_residual.ensures.1 in
    let text = c.args.text.now in
    rw p.1 (lacks text (escaped_noncharacter (get_or text 2 0)) (escaped (drop 3 text)) c.args.writer.now.spare
    (escaped_at_noncharacter text (sym c.if-is_noncharacter.ensures)) c.in_err-put_noncharacter.ensures.room)

pub returns-then-is_noncharacter-clause-advances : goal.returns-then-is_noncharacter-clause-advances
returns-then-is_noncharacter-clause-advances c =
    let text = c.args.text.now in
    advances text (escaped_noncharacter (get_or text 2 0)) c.args.writer.now c.put_noncharacter.new.writer 3 (omega arith)
    (noncharacter_length text (sym c.if-is_noncharacter.ensures)) (escaped_at_noncharacter text (sym c.if-is_noncharacter.ensures))
    c.in_ok-put_noncharacter.ensures.told c.in_ok-put_noncharacter.ensures.room

pub returns-in_err-put_byte-clause-room : goal.returns-in_err-put_byte-clause-room
returns-in_err-put_byte-clause-room c =
    let p = err_from_is_err_and c.from_residual-in_err-put_byte.result c.from_residual-in_err-put_byte.ensures.1 in
    let text = c.args.text.now in
    rw p.1 (lacks text (escaped_byte (get_or text 0 0)) (escaped (drop 1 text)) c.args.writer.now.spare
    (escaped_at_byte text (sym c.if-is_noncharacter.ensures) c.requires) c.in_err-put_byte.ensures.room)

pub returns-clause-advances : goal.returns-clause-advances
returns-clause-advances c =
    let text = c.args.text.now in
    advances text (escaped_byte (get_or text 0 0)) c.args.writer.now c.put_byte.new.writer 1 (omega arith)
    (omega (arith, c.requires)) (escaped_at_byte text (sym c.if-is_noncharacter.ensures) c.requires)
    c.in_ok-put_byte.ensures.told c.in_ok-put_byte.ensures.room
