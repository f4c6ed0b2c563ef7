use Rattle.std.proofs.Common.{[], sym, ◌∙◌}
use Rattle.s3_aws_chunked.proofs.TrailedReaderLemmas.{done_reader, ended_open, ended_whole}
use Rattle.s3_aws_chunked.proofs.trailed_reader.TrailedChunkReader.end.Goals as goal

pub returns-then-is_whole-clause-stands : goal.returns-then-is_whole-clause-stands
returns-then-is_whole-clause-stands c = λ terms bytes held stands.
    ended_whole c.args.self.now terms bytes held stands (sym (c.is_whole.ensures held) ∙ c.if-is_whole.true)

pub returns-then-is_whole-clause-ok : goal.returns-then-is_whole-clause-ok
returns-then-is_whole-clause-ok c =
    done_reader c.args.self.now [] (sym c.refusal.ensures ∙ c.in_default.is) (sym (c.is_whole.ensures []) ∙ c.if-is_whole.true)

pub returns-clause-stands : goal.returns-clause-stands
returns-clause-stands c = λ terms bytes held stands.
    ended_open c.args.self.now c.refuse.new.self terms bytes held stands (sym c.refusal.ensures ∙ c.in_default.is)
    (sym (c.is_whole.ensures held) ∙ c.if-is_whole.false) c.refuse.ensures.value
