use Rattle.std.proofs.Common.{ap, ◌∙◌, ℕ, map, arith}
use Rattle.std.proofs.lemmas.Result.{err_from_is_err_and}
use Rattle.json.specs.Written.{Written}
use Rattle.s3_documents.proofs.PrinterLemmas.{rows_told}
use Rattle.s3_documents.proofs.RoomLemmas.{rows_room}
use Rattle.s3_documents.proofs.printer.Printer.rows.Goals as goal

pub returns-clause-tokens : goal.returns-clause-tokens
returns-clause-tokens g c = λ tree told.
    let sent : Written → _ = λ w. w.tokens in
    rows_told _ _ _ _ _ tree c.args.name.now (map g.R.Row.told c.args.list.now)
    c.in_ok-key.ensures.ok c.in_ok-begin_array.ensures.ok (ap sent c.self-2.view_is ∙ c.in_ok-all.ensures.tokens) c.in_ok-end_array.ensures.ok (ap sent c.self.view_is ∙ told)

pub returns-clause-room : goal.returns-clause-room
returns-clause-room g c =
    let spare : Written → ℕ = λ w. w.spare in
    let whole = rows_room c.args.name.now (map g.R.Row.told c.args.list.now) in
    omega (
      arith,
      whole,
      ap spare c.self.view_is,
      c.in_ok-key.ensures.room.1,
      c.in_ok-begin_array.ensures.room.1,
      c.in_ok-all.ensures.room,
      ap spare c.self-2.view_is,
      c.in_ok-end_array.ensures.room.1,
    )

pub returns-in_err-all-clause-room : goal.returns-in_err-all-clause-room
returns-in_err-all-clause-room g c =
    let spare : Written → ℕ = λ w. w.spare in
    let whole = rows_room c.args.name.now (map g.R.Row.told c.args.list.now) in
    let p = err_from_is_err_and c.from_residual-in_err-all.result c.from_residual-in_err-all.ensures.1 in
    rw (p.1) (omega (arith, whole, ap spare c.self.view_is, c.in_ok-key.ensures.room.1, c.in_ok-begin_array.ensures.room.1, c.in_err-all.ensures.room))

pub returns-in_err-end_array-clause-room : goal.returns-in_err-end_array-clause-room
returns-in_err-end_array-clause-room g c =
    let spare : Written → ℕ = λ w. w.spare in
    let whole = rows_room c.args.name.now (map g.R.Row.told c.args.list.now) in
    let p = err_from_is_err_and c.from_residual-in_err-end_array.result c.from_residual-in_err-end_array.ensures.1 in
    rw (p.1)
    (omega (
      arith,
      whole,
      ap spare c.self.view_is,
      c.in_ok-key.ensures.room.1,
      c.in_ok-begin_array.ensures.room.1,
      c.in_ok-all.ensures.room,
      ap spare c.self-2.view_is,
      c.in_err-end_array.ensures.room.1,
    ))
