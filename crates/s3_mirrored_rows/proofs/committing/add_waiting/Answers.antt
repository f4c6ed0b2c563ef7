use Rattle.std.proofs.Common.{ap, refl, ◌∙◌, take_all, take_at, arith}
use Rattle.std.specs.Prelude.{take, length}
use Rattle.std.proofs.lemmas.List.Sums.{fold-append}
use Rattle.s3_rows.specs.Columns.{Tables}
use Rattle.s3_stored_rows.specs.declared.change.Change.{Change}
use Rattle.s3_stored_rows.specs.Changes.{changed_by, after_all}
use Rattle.s3_mirrored_rows.proofs.committing.add_waiting.Goals as goal

-- there was no memory for copies, or for them behind the others
pub returns-in_err-copies-clause-front : goal.returns-in_err-copies-clause-front
returns-in_err-copies-clause-front c = take_all (length c.args.waiting.now.items) c.args.waiting.now.items (omega arith)

pub returns-in_err-append-clause-front : goal.returns-in_err-append-clause-front
returns-in_err-append-clause-front c =
    ap (take (length c.args.waiting.now.items)) c.in_err-append.ensures.items ∙ take_all (length c.args.waiting.now.items) c.args.waiting.now.items (omega arith)

-- they stand behind the others
pub returns-clause-front : goal.returns-clause-front
returns-clause-front c =
    ap (take (length c.args.waiting.now.items)) c.in_ok-append.ensures.items ∙ take_at c.args.waiting.now.items c.in_ok-copies.copies.items (length c.args.waiting.now.items) refl

pub returns-clause-more : goal.returns-clause-more
returns-clause-more c = λ t.
    ap (λ l. after_all l t) c.in_ok-append.ensures.items
    ∙ fold-append (λ (now : Tables) (x : Change). changed_by x now) t c.args.waiting.now.items c.in_ok-copies.copies.items
    ∙ c.in_ok-copies.ensures (after_all c.args.waiting.now.items t)
