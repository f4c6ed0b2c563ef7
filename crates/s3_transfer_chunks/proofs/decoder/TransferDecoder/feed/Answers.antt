use Rattle.std.proofs.Common.{◌≡◌, sym, ap, ◌∙◌, Some, arith}
use Rattle.s3_transfer_chunks.specs.Decoder.{reading_in, refusal_of}
use Rattle.s3_transfer_chunks.proofs.DecoderLemmas.{failed_settled, fed_count, fed_on, still, still_counts}
use Rattle.s3_transfer_chunks.proofs.SinkLemmas.{none_behind}
use Rattle.s3_transfer_chunks.proofs.decoder.TransferDecoder.feed.Goals as goal

pub returns-in-Some-clause-stands : goal.returns-in-Some-clause-stands
returns-in-Some-clause-stands g c = λ other limit bytes held stands.
    let decoder = c.args.self.now in
    let refused : refusal_of decoder ≡ Some c.in-Some.code = sym c.refusal.ensures ∙ c.in-Some.is in
    let settled = failed_settled decoder.lost decoder.standing.place c.in-Some.code stands.kept refused in
    record {
      kept = stands.kept;
      shows =
          ap (reading_in decoder.standing) (none_behind held (g.S.Sink.taken c.args.sink.now))
          ∙ still limit bytes c.args.piece.now (reading_in decoder.standing held) stands.shows settled;
      counts = omega (arith, stands.counts, still_counts limit bytes c.args.piece.now (reading_in decoder.standing held) stands.shows settled);
    }

pub returns-in-Some-refusal-clause-stands : goal.returns-in-Some-refusal-clause-stands
returns-in-Some-refusal-clause-stands g c = λ other limit bytes held stands.
    let all =
    fed_on limit bytes c.args.piece.now c.in-Ok.count c.args.self.now.taken _ (reading_in c.args.self.now.standing held) _
    stands.shows stands.counts (c.in-Ok.ensures.value held) c.in-Ok.ensures.all (c.in-Ok.ensures.reads held) c.saturating_add-self.ensures in
    record { kept = stands.kept; shows = all.0; counts = all.1 }

pub returns-in-None-clause-stands : goal.returns-in-None-clause-stands
returns-in-None-clause-stands g c = λ other limit bytes held stands.
    let all =
    fed_on limit bytes c.args.piece.now c.in-Ok.count c.args.self.now.taken _ (reading_in c.args.self.now.standing held) _
    stands.shows stands.counts (c.in-Ok.ensures.value held) c.in-Ok.ensures.all (c.in-Ok.ensures.reads held) c.saturating_add-self.ensures in
    record { kept = stands.kept; shows = all.0; counts = all.1 }

pub returns-in-None-clause-count : goal.returns-in-None-clause-count
returns-in-None-clause-count g c = λ limit bytes held stands.
    fed_count limit bytes c.args.piece.now c.in-Ok.count (reading_in c.args.self.now.standing held) _ stands.shows
    (c.in-Ok.ensures.value held) c.in-Ok.ensures.all (c.in-Ok.ensures.reads held)
