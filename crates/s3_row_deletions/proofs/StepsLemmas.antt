-- Several deletions, one after another.
use Rattle.std.proofs.Common.{◌≡◌, refl, sym, ap, ap₂, subst, ◌∙◌, ℕ, ◌+◌, ℤ, IsTrue, List, [], ◌∷◌, ◌++◌, Option, Some, None, Result, Ok, Err, OnOk, arith}
use Rattle.std.proofs.lemmas.List.Sums.{fold-append}
use Rattle.std.specs.FinMap as map
use Rattle.s3_versions.proofs.LawLemmas.{later_is_new}
use Rattle.s3_deletions.specs.declared.named.NamedObject.{NamedObject}
use Rattle.s3_records.specs.Catalogue.{Catalogue, versioning_of}
use Rattle.s3_records.specs.Deletions.{deleted, all_deleted, marker_of, markers_of}
use Rattle.s3_records.specs.Places.{AreBelow}
use Rattle.s3_records.proofs.PlaceLemmas.{later_is_below}
use Rattle.s3_rows.specs.Columns.{Tables}
use Rattle.s3_rows.specs.Meaning.{catalogue_of}
use Rattle.s3_rows.specs.Soundness.{AreSound, has_bucket_row}
use Rattle.s3_stored_bodies.specs.Numbers.{Contents, times}
use Rattle.s3_stored_bodies.proofs.NumberLemmas.{times-append}
use Rattle.s3_stored_rows.specs.Bodies.{encoding, numbers_named}
use Rattle.s3_stored_rows.specs.Changes.{changed_by, after_all}
use Rattle.s3_stored_rows.specs.Rowids.{AreRowsBelow}
use Rattle.s3_stored_rows.specs.declared.rows.StoredVersion.{StoredVersion}
use Rattle.s3_row_deletions.specs.Deletions.{AreDeletions}
use Rattle.s3_row_deletions.specs.declared.deletions.Deletions.{Deletions}
use Rattle.s3_row_deletions.specs.declared.standing.Standing.{Standing}
use Rattle.s3_row_deletions.specs.declared.steps.Entry.{Entry}
use Rattle.s3_row_deletions.specs.declared.steps.Step.{Step}
use Rattle.s3_row_deletions.specs.Standing.{MayComeAll}
use Rattle.s3_row_deletions.specs.Steps.{rows_gone, rows_come, changes_of, numbers_gone, AreReady, IsStep, AreSteps, IsAdded}
use Rattle.s3_row_deletions.proofs.MadeLemmas.{none_has}
use Rattle.s3_row_deletions.proofs.StandingLemmas.{may_come_more}

-- one object more
pub all_deleted-push : {B : Type 0} (c : Catalogue B) (name : List ℕ) (n t : ℕ) (objects : List NamedObject) (object : NamedObject)
    → all_deleted c name n t (objects ++ object ∷ []) ≡ deleted (all_deleted c name n t objects) name n t object
all_deleted-push c name n t [] object = refl
all_deleted-push c name n t (first ∷ objects) object = all_deleted-push (deleted c name n t first) name n t objects object

pub markers-push : {B : Type 0} (c : Catalogue B) (name : List ℕ) (n t : ℕ) (objects : List NamedObject) (object : NamedObject)
    → markers_of c name n t (objects ++ object ∷ []) ≡ markers_of c name n t objects ++ marker_of (all_deleted c name n t objects) name n object ∷ []
markers-push c name n t [] object = refl
markers-push c name n t (first ∷ objects) object = ap (λ ids. marker_of c name n first ∷ ids) (markers-push (deleted c name n t first) name n t objects object)

-- a deletion leaves the row of the store
store_stays : (t : Tables) (gone : Option Standing) (comes : Option StoredVersion) → (after_all (rows_gone gone ++ rows_come comes) t).store ≡ t.store
store_stays t None None = refl
store_stays t None (Some v) = refl
store_stays t (Some s) None = refl
store_stays t (Some s) (Some v) = refl

module _ (t : Tables) (bucket : List ℕ) (e : Entry) where
  -- the tables as they are found
  pub ready_first : (next : ℤ) → AreSound t → AreRowsBelow next t → IsTrue (has_bucket_row t.buckets bucket)
      → ((contents : Contents) → versioning_of (catalogue_of (encoding contents) t) bucket ≡ e.versioning)
      → ((contents : Contents) → AreBelow e.number (catalogue_of (encoding contents) t)) → AreReady t bucket e next
  ready_first next sound rowids there versioning below = record {
    sound = sound;
    rowids = rowids;
    there = there;
    versioning = versioning;
    below = λ contents. later_is_below later_is_new e.number (e.number + 1) (catalogue_of (encoding contents) t) (omega arith) (below contents);
    own = none_has (encoding map.empty) t sound bucket e.versioning e.number (below map.empty);
  }

  -- no deletions
  pub steps_none : (next : ℤ) (d : Deletions) → AreReady t bucket e next → d.changes.items ≡ [] → d.gone.items ≡ [] → d.markers.items ≡ [] → d.next ≡ next → AreSteps t bucket e [] d
  steps_none next d ready changes gone markers is =
      let after : after_all d.changes.items t ≡ t = ap (λ cs. after_all cs t) changes in
      record {
        may_come = subst (MayComeAll t) (sym changes) tt;
        ready = subst (λ u. AreReady u bucket e d.next) (sym after) (subst (AreReady t bucket e) (sym is) ready);
        means = λ contents. ap (catalogue_of (encoding contents)) after;
        told = λ contents. markers;
        trades = λ n. ap₂ (λ u l. times n (numbers_named u) + times n l) after gone;
        store = ap (λ u. u.store) after;
      }

  -- one deletion more
  pub steps_more : (objects : List NamedObject) (object : NamedObject) (old new : Deletions) (step : Step) → AreSteps t bucket e objects old
      → IsStep (after_all old.changes.items t) bucket e old.next object step → IsAdded old step new → AreSteps t bucket e (objects ++ object ∷ []) new
  steps_more objects object old new step so_far is added =
      let before : Tables = after_all old.changes.items t in
      let after : after_all new.changes.items t ≡ after_all (changes_of step) before =
      ap (λ cs. after_all cs t) added.changes ∙ fold-append (λ now change. changed_by change now) t old.changes.items (changes_of step) in
      let cat = λ (contents : Contents). catalogue_of (encoding contents) t in
      record {
        may_come = subst (MayComeAll t) (sym added.changes) (may_come_more t old.changes.items (changes_of step) so_far.may_come is.may_come);
        ready = subst (λ u. AreReady u bucket e new.next) (sym after) (subst (AreReady (after_all (changes_of step) before) bucket e) (sym added.next) is.ready);
        means = λ contents. ap (catalogue_of (encoding contents)) after ∙ is.is.means contents
            ∙ ap (λ c. deleted c bucket e.number e.moment object) (so_far.means contents) ∙ sym (all_deleted-push (cat contents) bucket e.number e.moment objects object);
        told = λ contents. added.markers
            ∙ ap₂ (λ ids id. ids ++ id ∷ []) (so_far.told contents) (is.is.told contents ∙ ap (λ c. marker_of c bucket e.number object) (so_far.means contents))
            ∙ sym (markers-push (cat contents) bucket e.number e.moment objects object);
        trades = λ n.
            let now = ap (λ u. times n (numbers_named u)) after in
            let gone = ap (times n) added.gone in
            let both = times-append n old.gone.items (numbers_gone step.gone) in
            let first = so_far.trades n in
            let then = is.is.trades n in
            omega (arith, now, gone, both, first, then);
        store = ap (λ u. u.store) after ∙ store_stays before step.gone step.comes ∙ so_far.store;
      }

  -- all deletions
  pub steps_all : (objects : List NamedObject) (d : Deletions) → AreSteps t bucket e objects d → AreDeletions t bucket e.number e.moment objects d
  steps_all objects d steps = record {
    sound = steps.ready.sound;
    rowids = steps.ready.rowids;
    means = steps.means;
    told = steps.told;
    trades = steps.trades;
    store = steps.store;
  }

-- what holds where a call came through
pub on_ok : {T E P Q : Type 0} (r : Result T E) → (P → Q) → OnOk r P → OnOk r Q
on_ok (Ok x) then holds = then holds
on_ok (Err e) then holds = tt
