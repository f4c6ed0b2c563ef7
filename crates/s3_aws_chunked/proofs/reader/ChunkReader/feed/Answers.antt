use Rattle.std.proofs.Common.{◌≡◌, ◌++◌, sym, ap, ◌∙◌, ⊎_elim, inl, inr, subst, [], Some}
use Rattle.std.proofs.lemmas.List.{append-nil}
use Rattle.s3_aws_chunked.specs.Decoder.{Progress, Shows, run, started}
use Rattle.s3_aws_chunked.specs.Reader.{refusal_of}
use Rattle.s3_aws_chunked.proofs.ReaderLemmas.{fed_shows, fed_held, fed_done, shows_afresh, no_fault, failed_closed, still_shows}
use Rattle.s3_aws_chunked.proofs.OpenLemmas.{room_short}
use Rattle.s3_aws_chunked.proofs.RunLemmas.{afresh}
use Rattle.s3_aws_chunked.proofs.SinkLemmas.{got_by}
use Rattle.s3_aws_chunked.proofs.reader.ChunkReader.feed.Goals as goal

pub returns-in-Some-clause-stands : goal.returns-in-Some-clause-stands
returns-in-Some-clause-stands g c = λ other terms bytes held stands.
    let reader = c.args.self.now in
    let refused : refusal_of reader ≡ Some c.in-Some.code = sym c.refusal.ensures ∙ c.in-Some.is in
    let still = still_shows terms bytes c.args.piece.now reader.decoder stands.shows (failed_closed reader.lost reader.decoder.place c.in-Some.code stands.kept refused) in
    record {
      kept = stands.kept;
      shows = subst (Shows reader.decoder) (sym still) stands.shows;
      given = ap (λ x. held ++ x) (got_by (g.S.Sink.taken c.args.sink.now) _ [] (sym (append-nil (g.S.Sink.taken c.args.sink.now)))) ∙ append-nil held
          ∙ stands.given ∙ ap (λ (q : Progress). q.held) (sym still);
    }

pub returns-in-Some-refusal-clause-stands : goal.returns-in-Some-refusal-clause-stands
returns-in-Some-refusal-clause-stands g c = λ other terms bytes held stands.
    let p = run (started terms) bytes in
    let fresh = shows_afresh c.args.self.now.decoder p stands.shows in
    record {
      kept = stands.kept;
      shows = fed_shows terms bytes c.args.piece.now c.in-Ok.count c.advance.new.self (c.in-Ok.ensures.shows p stands.shows) c.in-Ok.ensures.all;
      given = fed_held terms bytes c.args.piece.now held _ _ c.in-Ok.count c.advance.new.self stands.given (c.in-Ok.ensures.shows (afresh p) fresh) (c.in-Ok.ensures.sink (afresh p) fresh) c.in-Ok.ensures.all;
    }

pub returns-in-None-clause-stands : goal.returns-in-None-clause-stands
returns-in-None-clause-stands g c = λ other terms bytes held stands.
    let p = run (started terms) bytes in
    let fresh = shows_afresh c.args.self.now.decoder p stands.shows in
    record {
      kept = stands.kept;
      shows = fed_shows terms bytes c.args.piece.now c.in-Ok.count c.advance.new.self (c.in-Ok.ensures.shows p stands.shows) c.in-Ok.ensures.all;
      given = fed_held terms bytes c.args.piece.now held _ _ c.in-Ok.count c.advance.new.self stands.given (c.in-Ok.ensures.shows (afresh p) fresh) (c.in-Ok.ensures.sink (afresh p) fresh) c.in-Ok.ensures.all;
    }

pub returns-in-None-clause-all : goal.returns-in-None-clause-all
returns-in-None-clause-all g c = λ terms bytes held stands.
    ⊎_elim
    (λ all. inl all)
    (λ shut. inr (
      stands.kept,
      fed_done terms bytes c.args.piece.now c.in-Ok.count c.advance.new.self (c.in-Ok.ensures.shows (run (started terms) bytes) stands.shows) shut
          (no_fault c.args.self.now.lost c.advance.new.self.place.phase stands.kept (sym c.refusal-2.ensures ∙ c.in-None.is)),
    ))
    c.in-Ok.ensures.all

pub returns-in_default-advance-clause-short : goal.returns-in_default-advance-clause-short
returns-in_default-advance-clause-short g c = λ is terms bytes held stands.
    let reader = c.args.self.now in
    room_short terms bytes reader.decoder stands.shows
    (no_fault reader.lost reader.decoder.place.phase stands.kept (sym c.refusal.ensures ∙ c.in_default.is))
    c.in_default-advance.ensures.room
