use Rattle.std.proofs.Common.{Option, sym, ap, ◌∙◌, refl}
use Rattle.s3_terms.specs.declared.code.Code.{Code}
use Rattle.s3_aws_chunked.specs.Reader.{said_at_end}
use Rattle.s3_payloads.specs.EitherChunks.{chunks_by, chunks_taken}
use Rattle.s3_payloads.specs.Trailed.{told_by}
use Rattle.s3_payloads.proofs.TrailedLemmas.{said_told, trailed_ended, wrong_ended}
use Rattle.s3_payloads.proofs.trailed.TrailedReader.end.Goals as goal

pub returns-in-Some-clause-stands : goal.returns-in-Some-clause-stands
returns-in-Some-clause-stands c = λ algorithm terms bytes stands.
    wrong_ended c.args.self.now algorithm terms bytes c.in-Some.code stands c.in-Some.is

pub returns-clause-stands : goal.returns-clause-stands
returns-clause-stands c = λ algorithm terms bytes stands.
    let laws = c.either_chunks_are_judged.ensures in
    trailed_ended laws.judge laws.stay laws.incomplete c.args.self.now _ algorithm terms bytes c.end.result stands c.in_default.is c.in_default.is refl
    (c.end.ensures.stands terms bytes c.args.self.now.summed.bytes stands.shows) c.end.ensures.ok c.end.ensures.err

pub returns-clause-says : goal.returns-clause-says
returns-clause-says c = λ kept.
    let reader = c.args.self.now in
    let said = chunks_by reader.chunks reader.summed.bytes in
    c.end.ensures.says kept reader.summed.bytes
    ∙ said_told said (chunks_taken reader.chunks)
    ∙ ap (λ (wrong : Option Code). said_at_end (told_by wrong (chunks_taken reader.chunks) said)) (sym c.in_default.is)
