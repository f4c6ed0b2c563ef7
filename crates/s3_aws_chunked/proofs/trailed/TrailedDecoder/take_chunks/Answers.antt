use Rattle.std.proofs.Common.{refl, sym, subst}
use Rattle.s3_aws_chunked.specs.TrailedReader.{ShowsTrailed}
use Rattle.s3_aws_chunked.proofs.ReaderLemmas.{shows_afresh}
use Rattle.s3_aws_chunked.proofs.RunLemmas.{afresh}
use Rattle.s3_aws_chunked.proofs.TrailedStepLemmas.{chunks_between, chunks_got, chunks_read, chunks_shown, chunks_stopped}
use Rattle.s3_aws_chunked.proofs.trailed.TrailedDecoder.take_chunks.Goals as goal

pub returns-clause-all : goal.returns-clause-all
returns-clause-all g c =
    chunks_stopped _ _ c.advance.new.self.place _ c.end_chunks.new.self refl c.requires.front c.in_ok-count.ensures.all c.end_chunks.ensures.shut c.end_chunks.ensures.same

pub returns-clause-shows : goal.returns-clause-shows
returns-clause-shows g c = λ r s between.
    let before = c.in_ok-count.ensures.before refl r.chunks s.chunks in
    subst (ShowsTrailed c.end_chunks.new.self)
    (sym (chunks_read c.args.name.now c.args.self.now r c.args.bytes.now c.in_ok-count.count s c.requires.front between c.in_ok-count.ensures.count before))
    (c.end_chunks.ensures.shows _ (chunks_shown c.args.self.now c.advance.new.self r _ s c.requires.front (c.in_ok-count.ensures.shows r.chunks s.chunks)))

pub returns-clause-held : goal.returns-clause-held
returns-clause-held g c = λ r s between.
    let before = c.in_ok-count.ensures.before refl r.chunks s.chunks in
    chunks_got c.args.name.now c.args.self.now r c.args.bytes.now _ _ c.in_ok-count.count s c.requires.front between c.in_ok-count.ensures.count before
    (c.in_ok-count.ensures.sink (afresh r.chunks) (shows_afresh c.args.self.now.decoder r.chunks s.chunks))

pub returns-clause-between : goal.returns-clause-between
returns-clause-between g c = λ r s between.
    let before = c.in_ok-count.ensures.before refl r.chunks s.chunks in
    chunks_between c.args.name.now c.args.self.now r c.args.bytes.now c.in_ok-count.count s c.requires.front between c.in_ok-count.ensures.count before
