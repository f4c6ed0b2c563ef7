use Rattle.std.proofs.Common.{◌≡◌, sym, ap, ◌∙◌, ⊎_elim, inl, inr, Some}
use Rattle.s3_unsigned_chunks.specs.Reading.{Terms}
use Rattle.s3_unsigned_chunks.specs.Reader.{reading_in, refusal_of}
use Rattle.s3_unsigned_chunks.proofs.ReaderLemmas.{failed_settled, fed, fed_done, no_code, room_short, still, terms_kept}
use Rattle.s3_unsigned_chunks.proofs.SinkLemmas.{none_behind}
use Rattle.s3_unsigned_chunks.proofs.reader.UnsignedChunkReader.feed.Goals as goal

pub returns-in-Some-clause-stands : goal.returns-in-Some-clause-stands
returns-in-Some-clause-stands g c = λ other terms bytes held stands.
    let reader = c.args.self.now in
    let refused : refusal_of reader ≡ Some c.in-Some.code = sym c.refusal.ensures ∙ c.in-Some.is in
    record {
      name = stands.name;
      encoded = stands.encoded;
      kept = stands.kept;
      shows =
          ap (reading_in reader.standing) (none_behind held (g.S.Sink.taken c.args.sink.now))
          ∙ still terms bytes c.args.piece.now (reading_in reader.standing held) stands.shows
          (failed_settled reader.lost reader.standing.place c.in-Some.code stands.kept refused);
    }

pub returns-in-Some-refusal-clause-stands : goal.returns-in-Some-refusal-clause-stands
returns-in-Some-refusal-clause-stands g c = λ other terms bytes held stands.
    let reader = c.args.self.now in
    let kept : Terms = record { name = c.header-name.result.now; encoded = reader.encoded; decoded = terms.decoded } in
    record {
      name = stands.name;
      encoded = stands.encoded;
      kept = stands.kept;
      shows =
          fed kept terms bytes c.args.piece.now c.in-Ok.count (reading_in reader.standing held) _
          (terms_kept _ _ terms (c.header-name.ensures.name ∙ stands.name) stands.encoded) stands.shows
          (c.in-Ok.ensures.value terms.decoded held) c.in-Ok.ensures.all;
    }

pub returns-in-None-clause-stands : goal.returns-in-None-clause-stands
returns-in-None-clause-stands g c = λ other terms bytes held stands.
    let reader = c.args.self.now in
    let kept : Terms = record { name = c.header-name.result.now; encoded = reader.encoded; decoded = terms.decoded } in
    record {
      name = stands.name;
      encoded = stands.encoded;
      kept = stands.kept;
      shows =
          fed kept terms bytes c.args.piece.now c.in-Ok.count (reading_in reader.standing held) _
          (terms_kept _ _ terms (c.header-name.ensures.name ∙ stands.name) stands.encoded) stands.shows
          (c.in-Ok.ensures.value terms.decoded held) c.in-Ok.ensures.all;
    }

pub returns-in-None-clause-all : goal.returns-in-None-clause-all
returns-in-None-clause-all g c = λ terms bytes held stands.
    let reader = c.args.self.now in
    let kept : Terms = record { name = c.header-name.result.now; encoded = reader.encoded; decoded = terms.decoded } in
    ⊎_elim
    (λ all. inl all)
    (λ shut. inr (
      stands.kept,
      fed_done kept terms bytes c.args.piece.now c.in-Ok.count (reading_in reader.standing held) _
          (terms_kept _ _ terms (c.header-name.ensures.name ∙ stands.name) stands.encoded) stands.shows
          (c.in-Ok.ensures.value terms.decoded held) shut
          (no_code reader.lost c.advance.new.standing.place stands.kept (sym c.refusal-2.ensures ∙ c.in-None.is)),
    ))
    c.in-Ok.ensures.all

pub returns-in_default-advance-clause-short : goal.returns-in_default-advance-clause-short
returns-in_default-advance-clause-short g c = λ is terms bytes held stands.
    let reader = c.args.self.now in
    room_short terms bytes (reading_in reader.standing held) stands.shows
    (no_code reader.lost reader.standing.place stands.kept (sym c.refusal.ensures ∙ c.in_default.is))
    (rw (← stands.encoded) c.in_default-advance.ensures.room)
