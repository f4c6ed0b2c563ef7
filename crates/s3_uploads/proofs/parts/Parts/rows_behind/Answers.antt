use Rattle.std.proofs.Common.{sym, ap, ◌∙◌}
use Rattle.s3_uploads.specs.Parts.{rises, numbers_of, rows_behind}
use Rattle.s3_uploads.proofs.PartLemmas.{rows_from, sorted_rise}
use Rattle.s3_uploads.proofs.parts.Parts.rows_behind.Goals as goal

pub returns-clause-value : goal.returns-clause-value
returns-clause-value g c =
    rw (sym (rows_from c.args.last c.self.inside.by_number.entries ∙ ap (rows_behind c.args.last) c.self.view_is)) c.rows_above.ensures.value

pub returns-clause-memory : goal.returns-clause-memory
returns-clause-memory g c =
    rw (sym (rows_from c.args.last c.self.inside.by_number.entries ∙ ap (rows_behind c.args.last) c.self.view_is)) c.rows_above.ensures.memory

pub returns-clause-rising : goal.returns-clause-rising
returns-clause-rising g c = ap (λ parts. rises (numbers_of parts)) (sym c.self.view_is) ∙ sorted_rise _ c.rows_above.ensures.ordered
