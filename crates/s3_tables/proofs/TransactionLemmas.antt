-- Statements inside a transaction, and how it ends.
use Rattle.std.proofs.Common.{◌≡◌, ◌⊎◌, inl, inr, ℕ, List, [], true, false, None, Ok, Err, Result, refl, sym, ap, subst, ◌∙◌, arith, IsTrue}
use Rattle.std.specs.Prelude.{OnOk, IsErr, IfErr, ◌≤◌}
use Rattle.std.proofs.lemmas.Bool.{cases_Bool}
use Rattle.sqlite_schema.specs.declared.command.Command.{Command}
use Rattle.sqlite_value.specs.Order.{Row}
use Rattle.sqlite_trees.specs.Tree.{Trees}
use Rattle.sqlite_trees.specs.View.{doubt}
use Rattle.sqlite_trees.specs.declared.store.Store.{Ghosts}
use Rattle.sqlite.specs.declared.error.Error.{Error}
use Rattle.sqlite.specs.Effect.{Database, IsDatabase}
use Rattle.sqlite.specs.Does.{Tally, Does}
use Rattle.sqlite_resolve.specs.Compile.{compiled}
use Rattle.sqlite.specs.Held.{Held, state}
use Rattle.sqlite.specs.Steps.{FailsToCommit}
use Rattle.sqlite.specs.State.{State, HasCleanDisk, IsUnchanged, IsRolledBack, KeepsCommit, KeepsCounts, Shows, Survives, Writes, Runs, ExecutesInside, mode_of}
use Rattle.sqlite.proofs.Callers.{runs_as, survives_begin}
use Rattle.sqlite.proofs.StateLemmas.{survives_then, survives_weaker}
use Rattle.s3_rows.specs.Columns.{Tables}
use Rattle.s3_tables.specs.Schema.{schema}
use Rattle.s3_tables.specs.Stored.{Stores, tables_in}
use Rattle.s3_tables.specs.Keeping.{tables, Serves, Keeps, MayBecome, Steps, Inside, Advances}
use Rattle.s3_tables.proofs.Resolving.{Resolves, is_understood}
use Rattle.s3_tables.proofs.StoredLemmas.{tables_are, stores_all}
use Rattle.s3_tables.proofs.TableLemmas.{Stands}
use Rattle.s3_tables.proofs.StepLemmas.{IsSettled, IsSame, keeps_same, left_alone, found_before}

-- ---- what a statement commits: nothing

kept_if_left : (old new : State) → IsUnchanged old new ⊎ IsRolledBack old new → KeepsCommit old new
kept_if_left old new (inl h) = record { was_open = λ up. h.0.was_open; committed = λ up. h.0.committed_is }
kept_if_left old new (inr h) = record { was_open = h.was_open; committed = λ up. (h.undone up).1 }

pub keeps_commit : (old new : State) (sql : List ℕ) (params : Row) (r : Result ℕ Error) → ExecutesInside 0 sql params old new r → KeepsCommit old new
keeps_commit old new sql params (Ok count) h = record { was_open = λ up. h.1.was_open; committed = λ up. h.1.committed_is }
keeps_commit old new sql params (Err e) (inl h) = kept_if_left old new h.1
keeps_commit old new sql params (Err e) (inr h) = kept_if_left old new (inl h.2)

pub chained : (a b c : State) → KeepsCommit a b → KeepsCommit b c → KeepsCommit a c
chained a b c one two = record { was_open = λ up. one.was_open (two.was_open up); committed = λ up. two.committed up ∙ one.committed (two.was_open up) }

-- ---- one statement

-- a command that writes, and no other
pub record IsWriter (command : Command) : Type 1 where
  pub runs : (old new : State) (text : List ℕ) (params : Row) (count : ℕ) → Runs old new None command text params count → Writes old new None command text params count

-- what the command makes of the tables
abbrev pub Means : State → Command → Row → (Tables → Tables) → Type 0
Means s command params change = (t : Tables) (text : List ℕ) (tally : Tally) (after : Database) → s.now.schema ≡ schema → Stores s.now.trees t
    → Does s.step_limit (mode_of s) params s.now text None command (Ok (tally, after)) → IsDatabase after → Stands after (change t)

moves : (old new : State) (sql : List ℕ) (params : Row) (command : Command) → Resolves command (compiled schema sql) → IsWriter command → (change : Tables → Tables) → Means old command params change
    → (r : Result ℕ Error) → ExecutesInside 0 sql params old new r → OnOk r ((base : Database) (t : Tables) → Inside base t old → Inside base (change t) new)
moves old new sql params command resolves writer change means (Ok count) h = λ base t was.
    let is = is_understood schema sql command resolves in
    let w = writer.runs old new _ params count (runs_as sql params old new schema was.schema_is command is.0 is.1 count h.0) in
    let it = means t _ w.tally new.now was.schema_is was.stores w.changed w.sound in
    record { is_open = h.1.is_open; in_transaction = h.1.mode; schema_is = it.0; stores = it.1; committed = h.1.committed_is ∙ was.committed }
moves old new sql params command resolves writer change means (Err e) h = tt

no_moves : (A : Type 0) (r : Result ℕ Error) {e : Error} → r ≡ Err e → OnOk r A
no_moves A (Ok count) is = absurd cc
no_moves A (Err e) is = tt

module _ {S : Type 0} (g : Ghosts S) (old new : Held S) (sql : List ℕ) (params : Row) (r : Result ℕ Error) {stopped : Error} where
  pub advances : (command : Command) → Resolves command (compiled schema sql) → IsWriter command → (change : Tables → Tables) → Means (state g old) command params change
      → (old.in_transaction ≡ false → (r ≡ Err stopped) × (new ≡ old))
      → (HasCleanDisk (state g new) → IsTrue old.in_transaction → ExecutesInside 0 sql params (state g old) (state g new) r) → Survives (state g old) (state g new) (λ _. ⊥)
      → Advances change (state g old) (state g new) r
  advances command resolves writer change means ended runs survives =
      elim (cases_Bool old.in_transaction) [
        | inl on ↦ record {
          made = λ clean. moves (state g old) (state g new) sql params command resolves writer change means r (runs clean on);
          kept = λ clean. keeps_commit (state g old) (state g new) sql params r (runs clean on);
          survives = survives;
        }
        | inr off ↦ record {
          made = λ clean. no_moves _ r (ended off).0;
          kept = λ clean. subst (λ h. KeepsCommit (state g old) (state g h)) (sym (ended off).1) (record { was_open = λ up. up; committed = λ up. refl });
          survives = survives;
        }
      ]

-- ---- one after another

module _ {X Y : Type 0} (first second : Tables → Tables) (a b c : State) (x : X) where
  pub advances_then : Advances first a b (Ok x) → (r : Result Y Error) → Advances second b c r → Advances (λ t. second (first t)) a c r
  advances_then one r two =
      let early = λ (clean : HasCleanDisk c). let it : HasCleanDisk b = omega (arith, two.survives.clean) in it in
      record {
        made = λ clean. both r (one.made (early clean)) (two.made clean);
        kept = λ clean. chained a b c (one.kept (early clean)) (two.kept clean);
        survives = survives_then a b c _ _ (λ _. ⊥) (λ _ db none. none) (λ _ db none. none) one.survives two.survives;
      }
    where
      both : (r : Result Y Error) → ((base : Database) (t : Tables) → Inside base t a → Inside base (first t) b) → OnOk r ((base : Database) (t : Tables) → Inside base t b → Inside base (second t) c)
          → OnOk r ((base : Database) (t : Tables) → Inside base t a → Inside base (second (first t)) c)
      both (Ok y) f h = λ base t was. h base (first t) (f base t was)
      both (Err e) f h = tt

-- ---- how a transaction ends

-- a transaction that has ended runs nothing
not_ended : (s : State) → IsTrue s.in_transaction → s.in_transaction ≡ false → ⊥
not_ended s h k = absurd (let e : true ≡ false = sym h ∙ k in cc)

module _ (old mid new : State) (law : IsSettled new) (keeps : HasCleanDisk old → Keeps old) (kept : HasCleanDisk mid → KeepsCommit old mid) (falls : doubt old.is_clean ≤ doubt mid.is_clean) where
  undone_same : HasCleanDisk mid → IsRolledBack mid new → IsSame old new
  undone_same clean undone =
      let k = kept clean in
      let was = keeps (omega (arith, falls, clean)) in
      record {
        autocommit = undone.autocommit;
        was_open = λ up. k.was_open (undone.was_open up);
        now = λ up.
            let back = k.committed (undone.was_open up) ∙ (was.serves (k.was_open (undone.was_open up))).committed in
            ((undone.undone up).0 ∙ back, (undone.undone up).1 ∙ back);
      }

  -- it is rolled back
  pub undone_steps : {X : Type 0} (change : Tables → Tables) → doubt mid.is_clean ≤ doubt new.is_clean → (HasCleanDisk new → IsRolledBack mid new) → Survives old new (λ _. ⊥) → (r : Result X Error) → IsErr r → Steps change old new r
  undone_steps change falls_on undone survives (Ok x) is = absurd cc
  undone_steps change falls_on undone survives (Err e) is =
      let mid_clean = λ (clean : HasCleanDisk new). let it : HasCleanDisk mid = omega (arith, falls_on) in it in
      let was = λ (clean : HasCleanDisk new). keeps (omega (arith, survives.clean)) in
      let same = λ (clean : HasCleanDisk new). undone_same (mid_clean clean) (undone clean) in
      record {
        keeps = λ clean. keeps_same old new law (was clean) (same clean) (found_before old new law (was clean) (survives.crash clean));
        made = λ clean. tt;
        kept = λ clean. left_alone old new law (was clean) (same clean);
        was_open = λ clean. (same clean).was_open;
        survives = survives_weaker old new _ _ (λ clean db none. absurd none) survives;
      }

  -- it is committed, or the commit fails
  module _ (change : Tables → Tables) (base : Database) (inside : HasCleanDisk mid → Inside base (change (tables old)) mid) (survives : Survives old mid (λ _. ⊥)) (last : Survives mid new (λ db. db ≡ mid.now.trees)) where
    mid_clean : HasCleanDisk new → HasCleanDisk mid
    mid_clean clean = omega (arith, last.clean)

    may_become : HasCleanDisk new → (db : Trees) → db ≡ mid.now.trees → MayBecome change old db
    may_become clean db is = let it = inside (mid_clean clean) in ((kept (mid_clean clean)).was_open it.is_open, subst (λ t. Stores t (change (tables old))) (sym is) it.stores)

    whole : Survives old new (MayBecome change old)
    whole = survives_then old mid new _ _ (MayBecome change old) (λ _ db none. absurd none) may_become survives last

    was_kept : HasCleanDisk new → Keeps old
    was_kept clean = keeps (omega (arith, whole.clean))

    found : HasCleanDisk new → (db : Trees) → new.may_leave db → Stores db (tables_in db)
    found clean db left = elim (whole.crash clean db left) [ inl before ↦ (was_kept clean).found db before | inr made ↦ stores_all db _ made.1 ]

    pub commit_steps : {X : Type 0} (r : Result X Error)
        → (HasCleanDisk new → OnOk r (IsTrue mid.in_transaction × Shows mid new mid.now mid.now false × KeepsCounts mid new × (new.marks ≡ [])))
        → (HasCleanDisk new → IfErr r (FailsToCommit mid new)) → Steps change old new r
    commit_steps (Ok x) ok err =
        let shown = λ (clean : HasCleanDisk new). (ok clean).1 in
        let in_mid = λ (clean : HasCleanDisk new). inside (mid_clean clean) in
        let stored : HasCleanDisk new → Stores new.now.trees (change (tables old)) = λ clean. subst (λ (d : Database). Stores d.trees (change (tables old))) (sym (shown clean).now_is) (in_mid clean).stores in
        let stores = λ (clean : HasCleanDisk new). stores_all new.now.trees _ (stored clean) in
        let committed : HasCleanDisk new → new.committed ≡ new.now = λ clean. (shown clean).committed_is ∙ sym (shown clean).now_is in
        let settled : (clean : HasCleanDisk new) (db : Trees) → new.may_leave db → Stores db (tables new) =
        λ clean db left. subst (λ t. Stores t (tables new)) (sym (law (shown clean).is_open db left ∙ ap (λ (d : Database). d.trees) (committed clean))) (stores clean) in
        record {
          keeps = λ clean. record {
            autocommit = (shown clean).mode;
            serves = λ up. record { schema_is = ap (λ (d : Database). d.schema) (shown clean).now_is ∙ (in_mid clean).schema_is; stores = stores clean; committed = committed clean; settled = settled clean };
            found = found clean;
          };
          made = λ clean. record { is_open = (shown clean).is_open; made = tables_are new.now.trees _ (stored clean); settled = settled clean };
          kept = λ clean. tt;
          was_open = λ clean up. (kept (mid_clean clean)).was_open (in_mid clean).is_open;
          survives = whole;
        }
    commit_steps (Err e) ok err =
        let same : HasCleanDisk new → IsSame old new = λ clean. elim (err clean) [
          | inl failed ↦ undone_same (mid_clean clean) failed.3
          | inr late ↦ absurd (not_ended mid (inside (mid_clean clean)).in_transaction late.1)
        ] in
        record {
          keeps = λ clean. keeps_same old new law (was_kept clean) (same clean) (found clean);
          made = λ clean. tt;
          kept = λ clean. left_alone old new law (was_kept clean) (same clean);
          was_open = λ clean. (same clean).was_open;
          survives = whole;
        }

-- what `transaction` begins
module _ {S : Type 0} (g : Ghosts S) (old : Held S) where
  pub begins_inside : Serves (state g old) → IsTrue (state g old).is_open → Inside (state g old).committed (tables (state g old)) (state g (record old { in_transaction = true }))
  begins_inside was up = record { is_open = up; in_transaction = refl; schema_is = was.schema_is; stores = was.stores; committed = refl }

  pub kept_from_begin : (new : State) → KeepsCommit (state g (record old { in_transaction = true })) new → KeepsCommit (state g old) new
  kept_from_begin new k = record { was_open = k.was_open; committed = k.committed }

-- ---- a transaction that makes one change and commits

module _ {S : Type 0} (g : Ghosts S) (old mid end : Held S) (law : IsSettled (state g end)) (keeps : HasCleanDisk (state g old) → Keeps (state g old)) (opened : HasCleanDisk (state g old) → IsTrue (state g old).is_open) where
  abbrev begun : State
  begun = state g (record old { in_transaction = true })

  module _ {X : Type 0} (change : Tables → Tables) (r : Result X Error) (ran : Advances change begun (state g mid) r) where
    mid_survives : Survives (state g old) (state g mid) (λ _. ⊥)
    mid_survives = survives_begin g old (state g mid) _ ran.survives

    mid_kept : HasCleanDisk (state g mid) → KeepsCommit (state g old) (state g mid)
    mid_kept clean = kept_from_begin g old (state g mid) (ran.kept clean)

    -- it is refused, and what it did is undone
    pub refused : {Y : Type 0} → Survives (state g mid) (state g end) (λ _. ⊥) → (HasCleanDisk (state g end) → IsRolledBack (state g mid) (state g end)) → (s : Result Y Error) → IsErr s → Steps change (state g old) (state g end) s
    refused dropped undone s is =
        undone_steps (state g old) (state g mid) (state g end) law keeps mid_kept mid_survives.clean change dropped.clean undone
        (survives_then (state g old) (state g mid) (state g end) _ _ (λ _. ⊥) (λ _ db none. none) (λ _ db none. none) mid_survives dropped) s is

  -- it is made, and the commit goes through or not
  pub committed : {X Y : Type 0} (change : Tables → Tables) (x : X) → Advances change begun (state g mid) (Ok x) → Survives (state g mid) (state g end) (λ db. db ≡ (state g mid).now.trees) → (s : Result Y Error)
      → (HasCleanDisk (state g end) → OnOk s (IsTrue (state g mid).in_transaction × Shows (state g mid) (state g end) (state g mid).now (state g mid).now false × KeepsCounts (state g mid) (state g end) × ((state g end).marks ≡ [])))
      → (HasCleanDisk (state g end) → IfErr s (FailsToCommit (state g mid) (state g end))) → Steps change (state g old) (state g end) s
  committed change x ran last s ok err =
      commit_steps (state g old) (state g mid) (state g end) law keeps (mid_kept change (Ok x) ran) (mid_survives change (Ok x) ran).clean change (state g old).committed
      (λ clean. let early : HasCleanDisk (state g old) = omega (arith, (mid_survives change (Ok x) ran).clean) in
      ran.made clean (state g old).committed (tables (state g old)) (begins_inside g old ((keeps early).serves (opened early)) (opened early)))
      (mid_survives change (Ok x) ran) last s ok err
