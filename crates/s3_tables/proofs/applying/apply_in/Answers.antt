use Rattle.std.proofs.Common.{◌≡◌, true, Ok, subst, rules}
use Rattle.sqlite.specs.Held.{state}
use Rattle.s3_stored_rows.specs.Changes.{after_all}
use Rattle.s3_tables.specs.Keeping.{Advances, Steps}
use Rattle.s3_tables.proofs.TransactionLemmas.{refused, committed}
use Rattle.s3_tables.proofs.applying.apply_in.Goals as goal

pub returns-in_err-change_all : goal.returns-in_err-change_all
returns-in_err-change_all g c =
    let end = c.drop-tx.new.self.0 in
    let same : end ≡ c.conn-1.given.0 = search rules in
    let S = g.S.Store in
    let old = c.args.conn.now in
    let mid = c.change_all.new.tx.conn.now in
    let change = after_all c.args.changes.now in
    let ran : Advances change (state S (record old { in_transaction = true })) (state S mid) c.change_all.result = rw c.transaction-tx.ensures.begun at c.change_all.ensures.advances in
    subst (λ h. Steps change (state S old) (state S h) c.from_residual.result) same
    (refused S old mid end (λ up db left. g.met.S.Store.settled end.store db up left) c.requires.keeps c.requires.open change c.change_all.result ran c.drop-tx.ensures.survives c.drop-tx.ensures.undone
    c.from_residual.result c.from_residual.ensures.0)

pub returns : goal.returns
returns g c =
    let end = c.commit.new.self.0 in
    let same : end ≡ c.conn-2-1.given.0 = search rules in
    let S = g.S.Store in
    let old = c.args.conn.now in
    let mid = c.change_all.new.tx.conn.now in
    let change = after_all c.args.changes.now in
    let ran : Advances {X = Unit {0}} change (state S (record old { in_transaction = true })) (state S mid) (Ok tt) = rw c.transaction-tx.ensures.begun at c.in_ok-change_all.ensures.advances in
    subst (λ h. Steps change (state S old) (state S h) c.commit.result) same
    (committed S old mid end (λ up db left. g.met.S.Store.settled end.store db up left) c.requires.keeps c.requires.open change tt ran c.commit.ensures.survives c.commit.result c.commit.ensures.ok c.commit.ensures.err)
