-- What a call does to what a connection keeps.
use Rattle.std.proofs.Common.{◌≡◌, ◌⊎◌, inl, inr, ℕ, List, [], false, Some, None, Ok, Err, Option, Result, refl, sym, ap, subst, ◌∙◌, arith}
use Rattle.std.specs.Prelude.{IsTrue, OnOk, OnErr, IfOk, IfErr, Vec}
use Rattle.std.specs.declared.alloc.Global.{Global}
use Rattle.sqlite_value.specs.declared.value.Value.{Value}
use Rattle.sqlite_schema.specs.declared.command.Returning.{Returning}
use Rattle.sqlite.specs.Clock.{timed}
use Rattle.sqlite_value.specs.Order.{Row}
use Rattle.sqlite_trees.specs.Tree.{Trees}
use Rattle.sqlite.specs.declared.error.Error.{Error}
use Rattle.sqlite.specs.Effect.{Database}
use Rattle.sqlite.specs.Listing.{understood, reads_listing, IsSourceOf}
use Rattle.sqlite.specs.State.{State, CommitsShowing, FailsToQuery, FailsToShow, Shown, ShowsRows, HasCleanDisk, IsUnchanged, IsRolledBack, Survives, IsNotRun}
use Rattle.sqlite.proofs.Callers.{IsPlain, never_commits, unchanged_then}
use Rattle.sqlite.proofs.StateLemmas.{survives_weaker, survives_then}
use Rattle.s3_rows.specs.Columns.{Tables}
use Rattle.s3_tables.specs.Schema.{schema}
use Rattle.s3_tables.specs.Stored.{Stores, tables_in}
use Rattle.s3_tables.specs.Keeping.{tables, Serves, Keeps, LeavesAlone, Makes, MayBecome, Steps}
use Rattle.s3_tables.specs.Keeping as spec

-- what an open store may leave at a crash is its last commit
abbrev pub IsSettled : State → Type 0
IsSettled s = IsTrue s.is_open → (db : Trees) → s.may_leave db → db ≡ s.committed.trees

-- nothing is changed, or the connection is shut
pub record IsSame (old new : State) : Type 0 where
  pub autocommit : new.in_transaction ≡ false
  pub was_open : IsTrue new.is_open → IsTrue old.is_open
  pub now : IsTrue new.is_open → (new.now ≡ old.now) × (new.committed ≡ old.now)

module _ (old new : State) (law : IsSettled new) (kept : Keeps old) where
  same_if_unchanged : IsUnchanged old new → IsSame old new
  same_if_unchanged h = record { autocommit = h.0.mode ∙ kept.autocommit; was_open = λ up. h.0.was_open; now = λ up. (h.0.now_is, h.0.committed_is ∙ (kept.serves h.0.was_open).committed) }

  same_if_undone : IsRolledBack old new → IsSame old new
  same_if_undone h = record {
    autocommit = h.autocommit;
    was_open = h.was_open;
    now = λ up. ((h.undone up).0 ∙ (kept.serves (h.was_open up)).committed, (h.undone up).1 ∙ (kept.serves (h.was_open up)).committed);
  }

  pub same_if_left : IsUnchanged old new ⊎ IsRolledBack old new → IsSame old new
  same_if_left (inl h) = same_if_unchanged h
  same_if_left (inr h) = same_if_undone h

  pub left_alone : IsSame old new → LeavesAlone old new
  left_alone same up = ap (λ (d : Database). tables_in d.trees) (same.now up).0

  pub keeps_same : IsSame old new → ((db : Trees) → new.may_leave db → Stores db (tables_in db)) → Keeps new
  keeps_same same found =
      record {
        autocommit = same.autocommit;
        serves = λ up.
            let was = kept.serves (same.was_open up) in
            let now = (same.now up).0 in
            let stores = subst (λ (d : Database). Stores d.trees (tables_in d.trees)) (sym now) was.stores in
            record {
              schema_is = ap (λ (d : Database). d.schema) now ∙ was.schema_is;
              stores = stores;
              committed = (same.now up).1 ∙ sym now;
              settled = λ db left. subst (λ t. Stores t (tables new)) (sym (law up db left ∙ ap (λ (d : Database). d.trees) ((same.now up).1 ∙ sym now))) stores;
            };
        found = found;
      }

  -- where nothing is committed
  pub found_before : ((db : Trees) → new.may_leave db → old.may_leave db ⊎ ⊥) → (db : Trees) → new.may_leave db → Stores db (tables_in db)
  found_before crash db left = elim (crash db left) [ inl before ↦ kept.found db before | inr none ↦ absurd none ]

-- ---- reading

query_err_leaves : (sql : List ℕ) (params : Row) (old new : State) (e : Error) → FailsToQuery sql params old new e → IsUnchanged old new ⊎ IsRolledBack old new
unfolding FailsToQuery IsNotRun
query_err_leaves sql params old new e (inl (inl h)) = inl h.1
query_err_leaves sql params old new e (inl (inr h)) = inr h.3
query_err_leaves sql params old new e (inr h) = fails h.0.returning h.2
  where
    fails : (r : Option Returning) → FailsToShow old new sql h.0 (timed params h.0.formats h.1.now) e r → IsUnchanged old new ⊎ IsRolledBack old new
    fails None it = inl it.3
    fails (Some what) (inl it) = inl it.1
    fails (Some what) (inr it) = inr it.3

not_run_leaves : (sql : List ℕ) (params : Row) (old new : State) (e : Error) → IsNotRun old new sql params e → IsUnchanged old new ⊎ IsRolledBack old new
unfolding IsNotRun
not_run_leaves sql params old new e (inl h) = inl h.1
not_run_leaves sql params old new e (inr h) = inr h.3

shown_leaves : (sql : List ℕ) (params : Row) (old new : State) (rows : List Row) → IsPlain (understood old.now.schema sql) → Shown sql params old new rows → IsUnchanged old new
unfolding Shown
shown_leaves sql params old new rows plain h =
    let none = (subst IsPlain h.1.is plain).0 in
    (subst (ShowsRows old new sql h.0 (timed params h.0.formats h.1.now) rows) none h.2).3

query_leaves : (sql : List ℕ) (params : Row) (old new : State) (r : Result (Vec (List Value) Global) Error) → IsPlain (understood old.now.schema sql) → IfOk r (λ rows. Shown sql params old new rows.items) → IfErr r (FailsToQuery sql params old new)
    → IsUnchanged old new ⊎ IsRolledBack old new
query_leaves sql params old new (Ok rows) plain shown failed = inl (shown_leaves sql params old new rows.items plain shown)
query_leaves sql params old new (Err e) plain shown failed = query_err_leaves sql params old new e failed

module _ (old new : State) (law : IsSettled new) (keeps : HasCleanDisk old → Keeps old) where
  -- one that reads, or is only prepared
  pub reads : (HasCleanDisk new → IsUnchanged old new ⊎ IsRolledBack old new) → Survives old new (λ _. ⊥) → spec.Reads old new
  reads left survives =
      let was = λ (clean : HasCleanDisk new). let early : HasCleanDisk old = omega (arith, survives.clean) in early in
      let same = λ (clean : HasCleanDisk new). same_if_left old new law (keeps (was clean)) (left clean) in
      record {
        keeps = λ clean. keeps_same old new law (keeps (was clean)) (same clean) (found_before old new law (keeps (was clean)) (survives.crash clean));
        kept = λ clean. left_alone old new law (keeps (was clean)) (same clean);
        was_open = λ clean. (same clean).was_open;
        survives = survives;
      }

  -- a query that answers all its rows
  pub reads_rows : (HasCleanDisk old → IsTrue old.is_open) → (sql : List ℕ) (params : Row) → IsPlain (understood schema sql) → (r : Result (Vec (List Value) Global) Error)
      → (HasCleanDisk new → IfOk r (λ rows. Shown sql params old new rows.items)) → (HasCleanDisk new → IfErr r (FailsToQuery sql params old new)) → Survives old new (CommitsShowing sql params old)
      → spec.Reads old new
  reads_rows opened sql params plain r shown failed survives =
      let was = λ (clean : HasCleanDisk new). let early : HasCleanDisk old = omega (arith, survives.clean) in early in
      let plain_now = λ (clean : HasCleanDisk new). subst (λ k. IsPlain (understood k sql)) (sym ((keeps (was clean)).serves (opened (was clean))).schema_is) plain in
      reads (λ clean. query_leaves sql params old new r (plain_now clean) (shown clean) (failed clean))
      (survives_weaker old new _ (λ _. ⊥) (λ clean db. never_commits sql params old db (plain_now clean)) survives)

pub stays_open : (sql : List ℕ) (params : Row) (old new : State) (r : Result (Vec (List Value) Global) Error) → IsPlain (understood schema sql) → Serves old → IfOk r (λ rows. Shown sql params old new rows.items) → OnOk r (IsTrue new.is_open)
stays_open sql params old new (Ok rows) plain was shown = (shown_leaves sql params old new rows.items (subst (λ k. IsPlain (understood k sql)) (sym was.schema_is) plain) shown).0.is_open
stays_open sql params old new (Err e) plain was shown = tt

pub prepared_leaves : {X : Type 0} (P : X → Type 0) (sql : List ℕ) (old new : State) (r : Result X Error) → IfOk r (λ s. P s × IsUnchanged old new) → IfErr r (λ e. (params : Row) → IsNotRun old new sql params e)
    → IsUnchanged old new ⊎ IsRolledBack old new
prepared_leaves P sql old new (Ok s) ok err = inl ok.1
prepared_leaves P sql old new (Err e) ok err = not_run_leaves sql [] old new e (err [])

-- ---- one call after another

pub survives_itself : (s : State) (P : Trees → Type 0) → Survives s s P
survives_itself s P = record { clean = omega arith; shield = λ h. h; counts = omega arith; limit = refl; closes = λ _ up. inl up; crash = λ _ db left. inl left }

-- nothing is called
pub idle_reads : (s : State) → (HasCleanDisk s → Keeps s) → spec.Reads s s
idle_reads s keeps = record { keeps = keeps; kept = λ _ _. refl; was_open = λ _ up. up; survives = survives_itself s _ }

-- after an error the connection is asked whether it still answers
pub then_asked : {X Y : Type 0} (change : Tables → Tables) (a b c : State) (e f : Error) → Steps {X = X} change a b (Err e) → spec.Reads b c → Steps {X = Y} change a c (Err f)
then_asked change a b c e f one two =
    let early = λ (clean : HasCleanDisk c). let it : HasCleanDisk b = omega (arith, two.survives.clean) in it in
    record {
      keeps = two.keeps;
      made = λ _. tt;
      kept = λ clean up. two.kept clean up ∙ one.kept (early clean) (two.was_open clean up);
      was_open = λ clean up. one.was_open (early clean) (two.was_open clean up);
      survives = survives_then a b c _ _ (MayBecome change a) (λ _ db made. made) (λ _ db none. absurd none) one.survives two.survives;
    }

-- a connection that still answers is asked before a change
pub asked_then : {X : Type 0} (change : Tables → Tables) (a b c : State) → spec.Reads a b → (HasCleanDisk b → IsTrue b.is_open) → (r : Result X Error) → Steps change b c r → Steps change a c r
asked_then {X = X} change a b c one up r two =
    let early = λ (clean : HasCleanDisk c). let it : HasCleanDisk b = omega (arith, two.survives.clean) in it in
    let same = λ (clean : HasCleanDisk c). one.kept (early clean) (up (early clean)) in
    record {
      keeps = two.keeps;
      made = λ clean. made (same clean) r (two.made clean);
      kept = λ clean. kept (same clean) r (two.kept clean);
      was_open = λ clean opened. one.was_open (early clean) (two.was_open clean opened);
      survives = survives_then a b c _ _ (MayBecome change a) (λ _ db none. absurd none)
          (λ clean db made. (one.was_open (early clean) made.0, subst (λ t. Stores db (change t)) (same clean) made.1)) one.survives two.survives;
    }
  where
    made : tables b ≡ tables a → (r : Result X Error) → OnOk r (Makes change b c) → OnOk r (Makes change a c)
    made same (Ok x) h = record { is_open = h.is_open; made = h.made ∙ ap change same; settled = h.settled }
    made same (Err e) h = tt

    kept : tables b ≡ tables a → (r : Result X Error) → OnErr r (LeavesAlone b c) → OnErr r (LeavesAlone a c)
    kept same (Ok x) h = tt
    kept same (Err e) h = λ opened. h opened ∙ same

-- and one that doesn't is left
pub asked_in_vain : {X : Type 0} (change : Tables → Tables) (a b : State) (e : Error) → spec.Reads a b → Steps {X = X} change a b (Err e)
asked_in_vain change a b e one = record { keeps = one.keeps; made = λ _. tt; kept = one.kept; was_open = one.was_open; survives = survives_weaker a b _ _ (λ clean db none. absurd none) one.survives }

pub asked_again : (a b c : State) → spec.Reads a b → spec.Reads b c → spec.Reads a c
asked_again a b c one two =
    let early = λ (clean : HasCleanDisk c). let it : HasCleanDisk b = omega (arith, two.survives.clean) in it in
    record {
      keeps = two.keeps;
      kept = λ clean up. two.kept clean up ∙ one.kept (early clean) (two.was_open clean up);
      was_open = λ clean up. one.was_open (early clean) (two.was_open clean up);
      survives = survives_then a b c _ _ (λ _. ⊥) (λ _ db none. none) (λ _ db none. none) one.survives two.survives;
    }

-- what it shows, it shows of the connection as it was before it was asked
pub shown_since : (a b c : State) (sql : List ℕ) (params : Row) (rows : List Row) → IsUnchanged a b → IsPlain (understood b.now.schema sql) → Shown sql params b c rows → Shown sql params a c rows
unfolding Shown
shown_since a b c sql params rows since plain h =
    let none = (subst IsPlain h.1.is plain).0 in
    let full = timed params h.0.formats h.1.now in
    let it = subst (ShowsRows b c sql h.0 full rows) none h.2 in
    let same = since.0.now_is in (
      h.0,
      record { is = subst (λ (d : Database). understood d.schema sql ≡ Ok h.0) same h.1.is; whole = h.1.whole; given = h.1.given; now = h.1.now },
      subst (ShowsRows a c sql h.0 full rows) (sym none)
          (it.0, subst (λ (d : Database). IsSourceOf (reads_listing d.schema sql) d it.0) same it.1, it.2, unchanged_then a b c since it.3),
    )

pub served_since : (a b c : State) (sql : List ℕ) (params : Row) (r : Result (Vec (List Value) Global) Error) → Serves a → IsUnchanged a b → IsPlain (understood schema sql) → IfOk r (λ rows. Serves b × Shown sql params b c rows.items)
    → IfOk r (λ rows. Serves a × Shown sql params a c rows.items)
served_since a b c sql params (Ok rows) was since plain h = (was, shown_since a b c sql params rows.items since (subst (λ k. IsPlain (understood k sql)) (sym h.0.schema_is) plain) h.1)
served_since a b c sql params (Err e) was since plain h = tt

pub shown_serving : (sql : List ℕ) (params : Row) (old new : State) (r : Result (Vec (List Value) Global) Error) → Serves old → IfOk r (λ rows. Shown sql params old new rows.items)
    → IfOk r (λ rows. Serves old × Shown sql params old new rows.items)
shown_serving sql params old new (Ok rows) was shown = (was, shown)
shown_serving sql params old new (Err e) was shown = tt
