-- The tables are made.
use Rattle.std.proofs.Common.{◌≡◌, inl, inr, ℕ, List, [], ◌∷◌, ◌++◌, true, false, None, Ok, Err, Result, refl, sym, ap, subst, ◌∙◌, arith, IsTrue}
use Rattle.std.specs.Prelude.{OnOk, IsErr}
use Rattle.std.specs.List.{AllByRecursion}
use Rattle.std.proofs.lemmas.Bool.{cases_Bool}
use Rattle.sqlite_trees.specs.Tree.{Trees}
use Rattle.sqlite_trees.specs.declared.store.Store.{Ghosts}
use Rattle.sqlite.specs.Table.{Table}
use Rattle.sqlite.specs.Schema.{Schema}
use Rattle.sqlite.specs.declared.error.Error.{Error}
use Rattle.sqlite.specs.Command.TheVariants.{CreateTable}
use Rattle.sqlite.specs.Change.{created, next_tree}
use Rattle.sqlite.specs.Does.{Tally, Does, lacks_sequence}
use Rattle.sqlite.specs.Effect.{Database, IsDatabase}
use Rattle.sqlite.specs.Held.{Held, state}
use Rattle.sqlite.specs.State.{State, HasCleanDisk, Survives, ExecutesInside, KeepsCounts, Shows, Writes, mode_of}
use Rattle.sqlite.proofs.Callers.{runs_as, survives_begin}
use Rattle.sqlite.proofs.StateLemmas.{survives_then}
use Rattle.sqlite_catalog.specs.Change.{KeepsRows}
use Rattle.s3_rows.specs.Columns.{StoreColumns, Tables, no_rows}
use Rattle.s3_stored_rows.specs.declared.rows.TableName.{TableName}
use Rattle.s3_stored_rows.specs.declared.rows.TableName.TheVariants.{Buckets, Versions, Uploads, Parts, Store}
use Rattle.s3_tables.specs.Schema as spec
use Rattle.s3_tables.specs.Schema.{no_schema, schema}
use Rattle.s3_tables.specs.Statements.{create_text}
use Rattle.s3_tables.specs.Stored.{Stores, tables_in}
use Rattle.s3_stored_rows.specs.Changes.{with_store}
use Rattle.s3_tables.specs.Keeping.{tables, Inside, Advances, IsMade}
use Rattle.s3_tables.specs.Making.{schema_before, schema_after, first_tables, SeesEmpty, HasBuilt, Builds, Fills}
use Rattle.s3_tables.proofs.Texts as text
use Rattle.s3_tables.proofs.Texts.{Makes}
use Rattle.s3_tables.proofs.Resolving.{is_understood, is_whole}
use Rattle.s3_tables.proofs.RowLemmas.{went, same_value}
use Rattle.s3_tables.proofs.StoredLemmas.{tables_are, stores_all}
use Rattle.s3_tables.proofs.StepLemmas.{IsSettled}

-- ---- one statement

one_more_empty : (old new : Trees) (last : Table) (ts : List Table) → AllByRecursion (λ t. old t.tree ≡ []) ts → KeepsRows ts old new → new last.tree ≡ [] → AllByRecursion (λ t. new t.tree ≡ []) (ts ++ last ∷ [])
one_more_empty old new last [] were kept empty = (empty, tt)
one_more_empty old new last (t ∷ ts) were kept empty = (kept.0 ∙ were.0, one_more_empty old new last ts were.1 kept.1 empty)

module _ (before : Schema) (sql : List ℕ) (table : Table) (makes : Makes before sql table) (uncounted : lacks_sequence (created before table) ≡ false) where
  creates : (base : Database) (s : State) (tally : Tally) (after : Database) → SeesEmpty base before s → Does s.step_limit (mode_of s) [] s.now sql None CreateTable (Ok (tally, after))
      → (after.schema ≡ created before table) × AllByRecursion (λ t. after.trees t.tree ≡ []) (created before table).tables
  creates base s tally after sees does =
      let all = went does in
      let first = went all.1 in
      let made = first.1 in
      let both : Ok made.table ≡ Ok table = sym made.defined ∙ makes.2 in
      let same : made.table ≡ table = cc in
      let is : first.0.schema ≡ created before table = made.is ∙ ap (λ k. created k made.table) sees.schema_is ∙ ap (created before) same in
      let lacks : lacks_sequence first.0.schema ≡ false = ap lacks_sequence is ∙ uncounted in
      let now : after ≡ first.0 = ap (λ (p : Tally × Database). p.1) (same_value all.2) ∙ same_value (rw lacks at first.2) in
      let others : KeepsRows before.tables s.now.trees first.0.trees = subst (λ (k : Schema). KeepsRows k.tables s.now.trees first.0.trees) sees.schema_is made.others in
      let empty : first.0.trees (next_tree before) ≡ [] = subst (λ k. first.0.trees (next_tree k) ≡ []) sees.schema_is made.empty in (
        ap (λ (d : Database). d.schema) now ∙ is,
        subst (λ (d : Database). AllByRecursion (λ (t : Table). d.trees t.tree ≡ []) (created before table).tables) (sym now)
            (one_more_empty s.now.trees first.0.trees (record table { tree = next_tree before }) before.tables sees.empty others empty),
      )

  builds : (old new : State) (r : Result ℕ Error) → ExecutesInside 0 sql [] old new r → OnOk r ((base : Database) → SeesEmpty base before old → HasBuilt base (created before table) new)
  builds old new (Ok count) h = λ base sees.
      let is = is_understood before sql CreateTable makes.0 in
      let w = subst (λ t. Writes old new None CreateTable t [] count) (is_whole before sql makes.1) (runs_as sql [] old new before sees.schema_is CreateTable is.0 is.1 count h.0) in
      let it = creates base old w.tally new.now sees w.changed in
      record {
        sees = record { schema_is = it.0; empty = it.1; committed = h.1.committed_is ∙ sees.committed };
        is_open = h.1.is_open;
        in_transaction = h.1.mode;
        sound = subst (λ k. IsDatabase (record new.now { schema = k })) it.0 w.sound;
      }
  builds old new (Err e) h = tt

not_built : (A : Type 0) (r : Result ℕ Error) {e : Error} → r ≡ Err e → OnOk r A
not_built A (Ok count) is = absurd cc
not_built A (Err e) is = tt

module _ {S : Type 0} (g : Ghosts S) (old new : Held S) (r : Result ℕ Error) {stopped : Error} (ended : old.in_transaction ≡ false → (r ≡ Err stopped) × (new ≡ old)) (survives : Survives (state g old) (state g new) (λ _. ⊥)) where
  abbrev Ran : List ℕ → Type 0
  Ran sql = HasCleanDisk (state g new) → IsTrue old.in_transaction → ExecutesInside 0 sql [] (state g old) (state g new) r

  created_by : (before after : Schema) (sql : List ℕ) → (ExecutesInside 0 sql [] (state g old) (state g new) r → OnOk r ((base : Database) → SeesEmpty base before (state g old) → HasBuilt base after (state g new)))
      → Ran sql → Builds before after (state g old) (state g new) r
  created_by before after sql made ran =
      elim (cases_Bool old.in_transaction) [
        | inl on ↦ record { made = λ clean. made (ran clean on); survives = survives }
        | inr off ↦ record { made = λ clean. not_built _ r (ended off).0; survives = survives }
      ]

  pub table_created : (table : TableName) → Ran (create_text table) → Builds (schema_before table) (schema_after table) (state g old) (state g new) r
  table_created Buckets = created_by no_schema spec.with_buckets text.create_buckets (builds no_schema text.create_buckets spec.bucket_table text.buckets_made refl (state g old) (state g new) r)
  table_created Versions = created_by spec.with_buckets spec.with_versions text.create_versions (builds spec.with_buckets text.create_versions spec.version_table text.versions_made refl (state g old) (state g new) r)
  table_created Uploads = created_by spec.with_versions spec.with_uploads text.create_uploads (builds spec.with_versions text.create_uploads spec.upload_table text.uploads_made refl (state g old) (state g new) r)
  table_created Parts = created_by spec.with_uploads spec.with_parts text.create_parts (builds spec.with_uploads text.create_parts spec.part_table text.parts_made refl (state g old) (state g new) r)
  table_created Store = created_by spec.with_parts schema text.create_store (builds spec.with_parts text.create_store spec.store_table text.store_made refl (state g old) (state g new) r)

-- ---- one after another

module _ (a b c : State) where
  both_survive : Survives a b (λ _. ⊥) → Survives b c (λ _. ⊥) → Survives a c (λ _. ⊥)
  both_survive one two = survives_then a b c _ _ (λ _. ⊥) (λ _ db none. none) (λ _ db none. none) one two

  earlier : Survives b c (λ _. ⊥) → HasCleanDisk c → HasCleanDisk b
  earlier two clean = omega (arith, two.clean)

  pub builds_then : {X Y : Type 0} (k l m : Schema) (x : X) → Builds k l a b (Ok x) → (r : Result Y Error) → Builds l m b c r → Builds k m a c r
  builds_then {Y = Y} k l m x one r two = record { made = λ clean. both r (one.made (earlier two.survives clean)) (two.made clean); survives = both_survive one.survives two.survives }
    where
      both : (r : Result Y Error) → ((base : Database) → SeesEmpty base k a → HasBuilt base l b) → OnOk r ((base : Database) → SeesEmpty base l b → HasBuilt base m c) → OnOk r ((base : Database) → SeesEmpty base k a → HasBuilt base m c)
      both (Ok y) f h = λ base sees. h base (f base sees).sees
      both (Err e) f h = tt

-- a refusal says nothing of what is made
pub builds_short : {X Y : Type 0} (k l m : Schema) (a b : State) (r : Result X Error) → Builds k l a b r → (s : Result Y Error) → IsErr s → Builds k m a b s
builds_short k l m a b r one (Ok y) is = absurd cc
builds_short k l m a b r one (Err e) is = record { made = λ clean. tt; survives = one.survives }

pub fills_short : {X Y : Type 0} (k l : Schema) (t : Tables) (a b : State) (r : Result X Error) → Builds k l a b r → (s : Result Y Error) → IsErr s → Fills t a b s
fills_short k l t a b r one (Ok y) is = absurd cc
fills_short k l t a b r one (Err e) is = record { made = λ clean. tt; survives = one.survives }

-- with no row in it, the schema stores no rows
begins : (base : Database) (s : State) → HasBuilt base schema s → Inside base no_rows s
begins base s h = record {
  is_open = h.is_open;
  in_transaction = h.in_transaction;
  schema_is = h.sees.schema_is;
  stores = record {
    sound = h.sound;
    buckets = record { keyed = tt; rows = h.sees.empty.0 };
    versions = record { keyed = tt; rows = h.sees.empty.1.0 };
    uploads = record { keyed = tt; rows = h.sees.empty.1.1.0 };
    parts = record { keyed = tt; rows = h.sees.empty.1.1.1.0 };
    store = record { keyed = tt; rows = h.sees.empty.1.1.1.1.0 };
  };
  committed = h.sees.committed;
}

pub filled : {X Y : Type 0} (store : StoreColumns) (a b c : State) (x : X) → Builds no_schema schema a b (Ok x) → (r : Result Y Error) → Advances (with_store store) b c r → Fills (first_tables store) a c r
filled {Y = Y} store a b c x one r two = record { made = λ clean. both r (one.made (earlier a b c two.survives clean)) (two.made clean); survives = both_survive a b c one.survives two.survives }
  where
    both : (r : Result Y Error) → ((base : Database) → SeesEmpty base no_schema a → HasBuilt base schema b) → OnOk r ((base : Database) (t : Tables) → Inside base t b → Inside base (with_store store t) c)
        → OnOk r ((base : Database) → SeesEmpty base no_schema a → Inside base (first_tables store) c)
    both (Ok y) f h = λ base sees. h base no_rows (begins base b (f base sees))
    both (Err e) f h = tt

-- ---- the whole transaction

module _ {S : Type 0} (g : Ghosts S) (old mid end : Held S) (first : Tables) (has : (state g old).now.schema ≡ no_schema) where
  abbrev begun : State
  begun = state g (record old { in_transaction = true })

  starts : SeesEmpty (state g old).committed no_schema begun
  starts = record { schema_is = has; empty = tt; committed = refl }

  pub unmade : {X : Type 0} (r : Result X Error) → Fills first begun (state g mid) r → Survives (state g mid) (state g end) (λ _. ⊥) → Survives (state g old) (state g end) (λ db. Stores db first)
  unmade r filled dropped =
      survives_then (state g old) (state g mid) (state g end) _ _ (λ db. Stores db first) (λ _ db none. absurd none) (λ _ db none. absurd none) (survives_begin g old (state g mid) _ filled.survives) dropped

  module _ {X : Type 0} (x : X) (filled : Fills first begun (state g mid) (Ok x)) (last : Survives (state g mid) (state g end) (λ db. db ≡ (state g mid).now.trees)) where
    inside : HasCleanDisk (state g end) → Inside (state g old).committed first (state g mid)
    inside clean = let early : HasCleanDisk (state g mid) = omega (arith, last.clean) in filled.made early (state g old).committed starts

    pub make_survives : Survives (state g old) (state g end) (λ db. Stores db first)
    make_survives =
        survives_then (state g old) (state g mid) (state g end) _ _ (λ db. Stores db first) (λ _ db none. absurd none)
        (λ clean db is. subst (λ t. Stores t first) (sym is) (inside clean).stores) (survives_begin g old (state g mid) _ filled.survives) last

    pub make_made : {Y : Type 0} (law : IsSettled (state g end)) (s : Result Y Error)
        → (HasCleanDisk (state g end) → OnOk s (IsTrue (state g mid).in_transaction × Shows (state g mid) (state g end) (state g mid).now (state g mid).now false × KeepsCounts (state g mid) (state g end) × ((state g end).marks ≡ [])))
        → HasCleanDisk (state g end) → OnOk s (IsMade first (state g end))
    make_made law (Err e) ok clean = tt
    make_made law (Ok y) ok clean =
        let shown = (ok clean).1 in
        let was = inside clean in
        let new = state g end in
        let stored : Stores new.now.trees first = subst (λ (d : Database). Stores d.trees first) (sym shown.now_is) was.stores in
        let stores = stores_all new.now.trees _ stored in
        let committed : new.committed ≡ new.now = shown.committed_is ∙ sym shown.now_is in
        let back : (db : Trees) → new.may_leave db → db ≡ new.now.trees = λ db left. law shown.is_open db left ∙ ap (λ (d : Database). d.trees) committed in
        record {
          keeps = record {
            autocommit = shown.mode;
            serves = λ up. record { schema_is = ap (λ (d : Database). d.schema) shown.now_is ∙ was.schema_is; stores = stores; committed = committed; settled = λ db left. subst (λ t. Stores t (tables new)) (sym (back db left)) stores };
            found = λ db left. subst (λ t. Stores t (tables_in t)) (sym (back db left)) stores;
          };
          is_open = shown.is_open;
          made = tables_are new.now.trees _ stored;
        }
