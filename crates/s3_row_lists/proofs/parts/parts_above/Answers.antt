use Rattle.std.proofs.Common.{◌≡◌, sym, ◌∙◌, pos, w64, to_z, of_z, rules}
use Rattle.std.proofs.lemmas.Result.{IfOk-weaker}
use Rattle.s3_stored_rows.specs.Bodies.{encoding}
use Rattle.s3_row_lists.proofs.PartLemmas.{no_parts_above, parts_found}
use Rattle.s3_row_lists.proofs.parts.parts_above.Goals as goal

pub returns-in_default-clause-value : goal.returns-in_default-clause-value
returns-in_default-clause-value g c = λ contents.
    c.new.ensures.items ∙ sym (no_parts_above (encoding contents) c.args.upload c.args.last c.args.most (g.R.StoredRows.tables c.args.rows.now) c.requires c.in_default.ensures)

pub returns-clause-value : goal.returns-clause-value
returns-clause-value g c = λ contents.
    let upload : to_z w64 (of_z w64 c.args.upload) ≡ c.args.upload = search rules in
    let column : to_z w64 (of_z w64 c.in-Some.number) ≡ pos c.args.last = search rules in
    IfOk-weaker c.parts_told.result _ _
    (λ told is. is ∙ parts_found (encoding contents) c.args.upload (to_z w64 (of_z w64 c.args.upload)) (to_z w64 (of_z w64 c.in-Some.number)) c.args.last c.in_ok-limit.limit c.args.most (g.R.StoredRows.tables c.args.rows.now) c.in_ok-found.found.items c.deref.result.now
    upload column c.in_ok-limit.ensures c.deref.ensures.value c.in_ok-found.ensures.value)
    (c.parts_told.ensures contents)
