use Rattle.std.proofs.Common.{◌≡◌, true, Ok, subst, rules}
use Rattle.std.specs.Prelude.{OnOk}
use Rattle.sqlite.specs.Held.{state}
use Rattle.sqlite.specs.State.{HasCleanDisk, Survives}
use Rattle.s3_tables.specs.Stored.{Stores}
use Rattle.s3_stored_rows.specs.Changes.{store_columns}
use Rattle.s3_tables.specs.Keeping.{IsMade}
use Rattle.s3_tables.specs.Making.{first_tables, Fills}
use Rattle.s3_tables.proofs.MakingLemmas.{unmade, make_survives, make_made}
use Rattle.s3_tables.proofs.making.make_in.Goals as goal

pub returns-in_err-fill-clause-survives : goal.returns-in_err-fill-clause-survives
returns-in_err-fill-clause-survives g c =
    let end = c.drop-tx.new.self.0 in
    let same : end ≡ c.conn-1.given.0 = search rules in
    let S = g.S.Store in
    let old = c.args.conn.now in
    let mid = c.fill.new.tx.conn.now in
    let first = first_tables (store_columns c.args.store.now) in
    let ran : Fills first (state S (record old { in_transaction = true })) (state S mid) c.fill.result = rw c.transaction-tx.ensures.begun at c.fill.ensures.fills in
    subst (λ h. Survives (state S old) (state S h) (λ db. Stores db first)) same (unmade S old mid end first c.requires.schema c.fill.result ran c.drop-tx.ensures.survives)

pub returns-clause-made : goal.returns-clause-made
returns-clause-made g c =
    let end = c.commit.new.self.0 in
    let same : end ≡ c.conn-2-1.given.0 = search rules in
    let S = g.S.Store in
    let old = c.args.conn.now in
    let mid = c.fill.new.tx.conn.now in
    let first = first_tables (store_columns c.args.store.now) in
    let ran : Fills first (state S (record old { in_transaction = true })) (state S mid) (Ok c.in_ok-fill.field-0) = rw c.transaction-tx.ensures.begun at c.in_ok-fill.ensures.fills in
    subst (λ h. HasCleanDisk (state S h) → OnOk c.commit.result (IsMade first (state S h))) same
    (make_made S old mid end first c.requires.schema c.in_ok-fill.field-0 ran c.commit.ensures.survives (λ up db left. g.met.S.Store.settled end.store db up left) c.commit.result c.commit.ensures.ok)

pub returns-clause-survives : goal.returns-clause-survives
returns-clause-survives g c =
    let end = c.commit.new.self.0 in
    let same : end ≡ c.conn-2-1.given.0 = search rules in
    let S = g.S.Store in
    let old = c.args.conn.now in
    let mid = c.fill.new.tx.conn.now in
    let first = first_tables (store_columns c.args.store.now) in
    let ran : Fills first (state S (record old { in_transaction = true })) (state S mid) (Ok c.in_ok-fill.field-0) = rw c.transaction-tx.ensures.begun at c.in_ok-fill.ensures.fills in
    subst (λ h. Survives (state S old) (state S h) (λ db. Stores db first)) same (make_survives S old mid end first c.requires.schema c.in_ok-fill.field-0 ran c.commit.ensures.survives)
