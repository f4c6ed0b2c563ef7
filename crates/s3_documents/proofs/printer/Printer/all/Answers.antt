use Rattle.std.proofs.Common.{arith}
use Rattle.std.proofs.lemmas.Grind.{common_steps}
use Rattle.s3_documents.proofs.RoomLemmas.{rows_from}
use Rattle.s3_documents.proofs.printer.Printer.all.Goals as goal

pub loop-row-preserved : goal.loop-row-preserved
loop-row-preserved g c = record {
  tokens = grind (arith, common_steps);
  room =
      let here = rows_from g.R.Row.told c.args.list.now c.loop-row.row-index c.row-item.result (omega arith) c.row-item.is in
      omega (arith, here, c.in_ok-print.ensures.room);
}
