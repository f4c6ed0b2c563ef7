use Rattle.s3_payloads.proofs.TrailedForLemmas.{trailed_begun}
use Rattle.s3_payloads.proofs.reader.mode_of.Goals as goal

pub returns-in-TrailedChunks : goal.returns-in-TrailedChunks
returns-in-TrailedChunks c =
    let made = c.in-TrailedChunks in
    trailed_begun c.args.form (record { length = c.args.length; form = c.args.form; proved = c.args.verified.now }) c.new-in-TrailedChunks.result made.decoded made.algorithm made.signed made.is
    (c.new-in-TrailedChunks.ensures _ c.new-chunks.ensures)
