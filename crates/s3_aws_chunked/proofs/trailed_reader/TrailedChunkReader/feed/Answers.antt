use Rattle.std.proofs.Common.{◌≡◌, ◌++◌, sym, ap, ◌∙◌, ⊎_elim, inl, inr, subst, [], Some}
use Rattle.std.proofs.lemmas.List.{append-nil}
use Rattle.s3_aws_chunked.specs.Trailed.{Reading}
use Rattle.s3_aws_chunked.specs.TrailedReader.{ShowsTrailed, refusal_of}
use Rattle.s3_aws_chunked.proofs.TrailedFinalLemmas.{bytes_read}
use Rattle.s3_aws_chunked.proofs.TrailedReaderLemmas.{between_bytes, done_from, fed_held, fed_reading, front_short, no_fault, still_read}
use Rattle.s3_aws_chunked.proofs.SinkLemmas.{got_by}
use Rattle.s3_aws_chunked.proofs.trailed_reader.TrailedChunkReader.feed.Goals as goal

pub returns-in-Some-clause-stands : goal.returns-in-Some-clause-stands
returns-in-Some-clause-stands g c = λ other terms bytes held stands.
    let reader = c.args.self.now in
    let refused : refusal_of reader ≡ Some c.in-Some.code = sym c.refusal.ensures ∙ c.in-Some.is in
    let still = still_read reader terms bytes c.args.piece.now held c.in-Some.code stands refused in
    record {
      name = stands.name;
      kept = stands.kept;
      shows = subst (ShowsTrailed reader.body) (sym still) stands.shows;
      given = ap (λ x. held ++ x) (got_by (g.S.Sink.taken c.args.sink.now) _ [] (sym (append-nil (g.S.Sink.taken c.args.sink.now)))) ∙ append-nil held
          ∙ stands.given ∙ ap (λ (r : Reading). r.chunks.held) (sym still);
    }

pub returns-in-Some-refusal-clause-stands : goal.returns-in-Some-refusal-clause-stands
returns-in-Some-refusal-clause-stands g c = λ other terms bytes held stands.
    let r = bytes_read terms bytes in
    let named = c.header-name.ensures.name ∙ stands.name in
    let between = between_bytes terms bytes in
    record {
      name = stands.name;
      kept = stands.kept;
      shows = subst (ShowsTrailed c.advance.new.self) (fed_reading c.header-name.result.now terms bytes c.args.piece.now named) (c.in-Ok.ensures.shows r stands.shows between);
      given = fed_held c.header-name.result.now terms bytes c.args.piece.now held (g.S.Sink.taken c.args.sink.now) (g.S.Sink.taken c.advance.new.sink) named stands.given (c.in-Ok.ensures.held r stands.shows between);
    }

pub returns-in-None-clause-stands : goal.returns-in-None-clause-stands
returns-in-None-clause-stands g c = λ other terms bytes held stands.
    let r = bytes_read terms bytes in
    let named = c.header-name.ensures.name ∙ stands.name in
    let between = between_bytes terms bytes in
    record {
      name = stands.name;
      kept = stands.kept;
      shows = subst (ShowsTrailed c.advance.new.self) (fed_reading c.header-name.result.now terms bytes c.args.piece.now named) (c.in-Ok.ensures.shows r stands.shows between);
      given = fed_held c.header-name.result.now terms bytes c.args.piece.now held (g.S.Sink.taken c.args.sink.now) (g.S.Sink.taken c.advance.new.sink) named stands.given (c.in-Ok.ensures.held r stands.shows between);
    }

pub returns-in-None-clause-all : goal.returns-in-None-clause-all
returns-in-None-clause-all g c = λ terms bytes held stands.
    let r = bytes_read terms bytes in
    let named = c.header-name.ensures.name ∙ stands.name in
    let body = c.advance.new.self in
    let right = no_fault c.args.self.now.lost _ stands.kept (sym c.refusal-2.ensures ∙ c.in-None.is) in
    ⊎_elim
    (λ all. inl all)
    (λ shut. inr (record {
      kept = stands.kept;
      right = right;
      whole =
          done_from body terms (bytes ++ c.args.piece.now)
          (subst (ShowsTrailed body) (fed_reading c.header-name.result.now terms bytes c.args.piece.now named) (c.in-Ok.ensures.shows r stands.shows (between_bytes terms bytes)))
          right shut.0 shut.1;
    }))
    c.in-Ok.ensures.all

pub returns-in_default-advance-clause-short : goal.returns-in_default-advance-clause-short
returns-in_default-advance-clause-short g c = λ is terms bytes held stands.
    front_short c.args.self.now terms bytes held stands (sym c.refusal.ensures ∙ c.in_default.is) c.in_default-advance.ensures.room.1
