use Rattle.std.proofs.Common.{arith, [], ◌∷◌, ◌++◌, codes, map}
use Rattle.std.proofs.lemmas.Result.{err_from_is_err_and}
use Rattle.s3_documents.specs.ObjectList.{object_row, prefix_row}
use Rattle.s3_documents.specs.Printed.{fields_of}
use Rattle.s3_documents.specs.Tree.{rows, Tree}
use Rattle.s3_documents.proofs.RowLemmas.{page_room}
use Rattle.s3_documents.proofs.object_list.printed.Goals as goal

pub returns-clause-tokens : goal.returns-clause-tokens
returns-clause-tokens c = λ fresh.
    let prefixes : Tree = (codes "CommonPrefixes", rows (map prefix_row c.args.prefixes.now)) ∷ [] in
    let contents : Tree = (codes "Contents", rows (map object_row c.args.contents.now)) ∷ [] in
    c.in_ok-fields.ensures.tokens (prefixes ++ contents) (c.in_ok-rows-2.ensures.tokens prefixes (c.in_ok-rows.ensures.tokens [] fresh))

pub returns-in_err-rows-clause-room : goal.returns-in_err-rows-clause-room
returns-in_err-rows-clause-room c =
    let page = page_room c.args.prefixes.now c.args.contents.now (fields_of c.args.fields.now) in
    let p = err_from_is_err_and c.from_residual.result c.from_residual.ensures.1 in
    rw (p.1) (omega (arith, page, c.in_err-rows.ensures.room))

pub returns-in_err-rows-2-clause-room : goal.returns-in_err-rows-2-clause-room
returns-in_err-rows-2-clause-room c =
    let page = page_room c.args.prefixes.now c.args.contents.now (fields_of c.args.fields.now) in
    let p = err_from_is_err_and c.from_residual-in_err-rows-2.result c.from_residual-in_err-rows-2.ensures.1 in
    rw (p.1) (omega (arith, page, c.in_ok-rows.ensures.room, c.in_err-rows-2.ensures.room))

pub returns-in_err-fields-clause-room : goal.returns-in_err-fields-clause-room
returns-in_err-fields-clause-room c =
    let page = page_room c.args.prefixes.now c.args.contents.now (fields_of c.args.fields.now) in
    let p = err_from_is_err_and c.from_residual-in_err-fields.result c.from_residual-in_err-fields.ensures.1 in
    rw (p.1) (omega (arith, page, c.in_ok-rows.ensures.room, c.in_ok-rows-2.ensures.room, c.in_err-fields.ensures.room))
