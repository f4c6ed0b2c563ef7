use Rattle.std.proofs.Common.{sym, ◌∙◌}
use Rattle.s3_tables.proofs.FoundLemmas.{fresh_if_undone, found_trees, found_made, found_stored}
use Rattle.s3_tables.proofs.table_file.TableFile.found.Goals as goal

pub over-requires : goal.over-requires
over-requires g c clean =
    (fresh_if_undone (g.S.Store.view c.args.conn.store) (g.S.Store.view c.into_store-store.result) c.into_store-store.ensures.undone (g.met.S.Store.broken_if_shut c.into_store-store.result)
    (c.into_store-store.ensures.numbered clean) (sym (c.is_broken.ensures clean) ∙ c.if-is_broken.false) clean).0

pub returns-clause-found : goal.returns-clause-found
returns-clause-found g c =
    found_made g.S.Store (g.S.Store.view c.into_store-store.result) (g.S.Store.view c.args.conn.store).committed
    (λ clean. (fresh_if_undone (g.S.Store.view c.args.conn.store) (g.S.Store.view c.into_store-store.result) c.into_store-store.ensures.undone (g.met.S.Store.broken_if_shut c.into_store-store.result)
    (c.into_store-store.ensures.numbered clean) (sym (c.is_broken.ensures clean) ∙ c.if-is_broken.false) clean).1)
    c.over.result c.over.ensures.falls c.over.ensures.trees c.over.ensures.keeps c.over.ensures.open

pub returns-clause-trees : goal.returns-clause-trees
returns-clause-trees g c =
    found_trees g.S.Store (g.S.Store.view c.into_store-store.result) (g.S.Store.view c.args.conn.store).committed
    (λ clean. (fresh_if_undone (g.S.Store.view c.args.conn.store) (g.S.Store.view c.into_store-store.result) c.into_store-store.ensures.undone (g.met.S.Store.broken_if_shut c.into_store-store.result)
    (c.into_store-store.ensures.numbered clean) (sym (c.is_broken.ensures clean) ∙ c.if-is_broken.false) clean).1)
    c.over.result c.over.ensures.falls c.over.ensures.trees

pub returns-clause-stored : goal.returns-clause-stored
returns-clause-stored g c =
    found_stored g.S.Store (g.S.Store.view c.into_store-store.result) (g.S.Store.view c.args.conn.store).committed
    (λ clean. (fresh_if_undone (g.S.Store.view c.args.conn.store) (g.S.Store.view c.into_store-store.result) c.into_store-store.ensures.undone (g.met.S.Store.broken_if_shut c.into_store-store.result)
    (c.into_store-store.ensures.numbered clean) (sym (c.is_broken.ensures clean) ∙ c.if-is_broken.false) clean).1)
    c.over.result c.over.ensures.falls c.over.ensures.trees
