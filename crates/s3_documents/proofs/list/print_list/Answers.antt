use Rattle.std.proofs.Common.{ap, ◌∙◌, arith, [], ◌∷◌, ◌++◌, append_assoc, map}
use Rattle.std.proofs.lemmas.Result.{err_from_is_err_and}
use Rattle.s3_documents.specs.Printed.{begun, fields_of}
use Rattle.s3_documents.specs.Tree.{leaves, rows, Tree}
use Rattle.s3_documents.proofs.RowLemmas.{rows_between_room}
use Rattle.s3_documents.proofs.list.print_list.Goals as goal

pub returns-clause-tokens : goal.returns-clause-tokens
returns-clause-tokens g c = λ fresh.
    let before = leaves (fields_of c.args.before.now) in
    let here : Tree = (c.args.name.now, rows (map g.R.Row.told c.args.list.now)) ∷ [] in
    c.in_ok-fields-2.ensures.tokens (before ++ here) (c.in_ok-rows.ensures.tokens before (c.in_ok-fields.ensures.tokens [] fresh))
    ∙ ap begun (append_assoc before here (leaves (fields_of c.args.behind.now)))

pub returns-clause-room : goal.returns-clause-room
returns-clause-room g c =
    let whole = rows_between_room (fields_of c.args.before.now) c.args.name.now (map g.R.Row.told c.args.list.now) (fields_of c.args.behind.now) in
    omega (arith, whole, c.in_ok-fields.ensures.room, c.in_ok-rows.ensures.room, c.in_ok-fields-2.ensures.room)

pub returns-in_err-fields-clause-room : goal.returns-in_err-fields-clause-room
returns-in_err-fields-clause-room g c =
    let whole = rows_between_room (fields_of c.args.before.now) c.args.name.now (map g.R.Row.told c.args.list.now) (fields_of c.args.behind.now) in
    let p = err_from_is_err_and c.from_residual.result c.from_residual.ensures.1 in
    rw (p.1) (omega (arith, whole, c.in_err-fields.ensures.room))

pub returns-in_err-rows-clause-room : goal.returns-in_err-rows-clause-room
returns-in_err-rows-clause-room g c =
    let whole = rows_between_room (fields_of c.args.before.now) c.args.name.now (map g.R.Row.told c.args.list.now) (fields_of c.args.behind.now) in
    let p = err_from_is_err_and c.from_residual-in_err-rows.result c.from_residual-in_err-rows.ensures.1 in
    rw (p.1) (omega (arith, whole, c.in_ok-fields.ensures.room, c.in_err-rows.ensures.room))

pub returns-in_err-fields-2-clause-room : goal.returns-in_err-fields-2-clause-room
returns-in_err-fields-2-clause-room g c =
    let whole = rows_between_room (fields_of c.args.before.now) c.args.name.now (map g.R.Row.told c.args.list.now) (fields_of c.args.behind.now) in
    let p = err_from_is_err_and c.from_residual-in_err-fields-2.result c.from_residual-in_err-fields-2.ensures.1 in
    rw (p.1) (omega (arith, whole, c.in_ok-fields.ensures.room, c.in_ok-rows.ensures.room, c.in_err-fields-2.ensures.room))
