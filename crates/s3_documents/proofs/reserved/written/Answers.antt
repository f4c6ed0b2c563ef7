use Rattle.std.proofs.Common.{ap, ap₂, sym, length, arith}
use Rattle.std.proofs.lemmas.Result.{err_from_is_err_and}
use Rattle.s3_xml.specs.Printed.{event_text}
use Rattle.s3_xml.specs.Events.{end}
use Rattle.s3_xml.specs.Writer.{opening}
use Rattle.s3_documents.proofs.XmlFrameLemmas.{frame_room, of_error}
use Rattle.s3_documents.proofs.reserved.written.Goals as goal

pub returns-in_err-writer-clause-room : goal.returns-in_err-writer-clause-room
returns-in_err-writer-clause-room g c =
    let p = err_from_is_err_and c.from_residual.result c.from_residual.ensures.1 in
    let frame = frame_room (g.P.Told.document c.args.told.now) in
    let named = ap₂ (λ r n. length (opening r n)) c.root-root.ensures.name (sym c.root-root.ensures.namespace) in
    rw (p.1) (omega (arith, frame, named, c.in_err-writer.ensures.room))

pub returns-in_err-write-clause-room : goal.returns-in_err-write-clause-room
returns-in_err-write-clause-room g c =
    let p = err_from_is_err_and c.from_residual-in_err-write.result c.from_residual-in_err-write.ensures.1 in
    let frame = frame_room (g.P.Told.document c.args.told.now) in
    let named = ap₂ (λ r n. length (opening r n)) c.root-root.ensures.name (sym c.root-root.ensures.namespace) in
    rw (p.1) (omega (arith, frame, named, c.in_ok-writer.ensures.room, c.in_err-write.ensures.room))

pub returns-clause-room : goal.returns-clause-room
returns-clause-room g c =
    let frame = frame_room (g.P.Told.document c.args.told.now) in
    let opened = ap₂ (λ r n. length (opening r n)) c.root-root.ensures.name (sym c.root-root.ensures.namespace) in
    let ended = ap (λ r. length (event_text (end r))) c.root-root.ensures.name in
    of_error c.finish.result
    (λ lacks. omega (arith, frame, opened, ended, lacks, c.in_ok-writer.ensures.room, c.in_ok-write.ensures.room))
    c.finish.ensures.room
