-- Rows that were found, with another row of the store.
use Rattle.std.proofs.Common.{◌≡◌, refl, sym, subst, ◌∙◌, ℕ, true, false, ◌<◌, ◌≤◌, List, Result, Ok, Err, arith}
use Rattle.std.specs.Prelude.{◌==◌, if◌then◌else◌, IsTrue, IfOk}
use Rattle.std.proofs.lemmas.Bool.Decides.{nat_tests}
use Rattle.sqlite.specs.State.{State, HasCleanDisk}
use Rattle.s3_tables.specs.Keeping.{tables as file_tables, Reads}
use Rattle.s3_found_rows.specs.declared.loading.Found.{Found}
use Rattle.s3_rows.specs.Columns.{StoreColumns, Tables}
use Rattle.s3_rows.specs.Meaning.{catalogue_of}
use Rattle.s3_stored_bodies.specs.Numbers.{Contents}
use Rattle.s3_stored_rows.specs.Bodies.{encoding, numbers_named}
use Rattle.s3_table_records.specs.Numbered.{IsAbove}
use Rattle.s3_table_records.proofs.NumberLemmas.{later_above}
use Rattle.s3_file_records.specs.Found.{said, IsFound, WasOpen}

with_store : (found : Found) (t : Tables) (store : List StoreColumns) → IsFound found t → IsFound found (record t { store = store })
unfolding catalogue_of numbers_named
with_store found t store is =
    let sound = is.kept.sound in
    let rowids = is.kept.rowids in
    let small = is.kept.small in
    record {
      kept = record {
        sound = record {
          buckets = sound.buckets;
          versions = sound.versions;
          uploads = sound.uploads;
          parts = sound.parts;
          version_buckets = sound.version_buckets;
          upload_buckets = sound.upload_buckets;
          part_uploads = sound.part_uploads;
        };
        rowids = record { buckets = rowids.buckets; versions = rowids.versions; uploads = rowids.uploads; parts = rowids.parts };
        small = record { versions = small.versions; uploads = small.uploads };
      };
      named = is.named;
      sound = is.sound;
    }

no_lower : (n : ℕ) → n ≤ said n
no_lower n =
    elim (n == 0) as (λ b. (n == 0) ≡ b → n ≤ (if b then 1 else n)) [
      | true ↦ λ is. let none : n ≡ 0 = grind (arith, nat_tests) in omega (arith, none)
      | false ↦ λ is. omega arith
    ] refl

pub said_same : (n : ℕ) → 0 < n → said n ≡ n
said_same n above =
    elim (n == 0) as (λ b. (n == 0) ≡ b → (if b then 1 else n) ≡ n) [
      | true ↦ λ is. let none : n ≡ 0 = grind (arith, nat_tests) in absurd (omega (arith, none, above))
      | false ↦ λ is. refl
    ] refl

pub still_found : (found : Found) (t u : Tables) (store : List StoreColumns) → u ≡ record t { store = store } → IsFound found t → IsFound found u
still_found found t u store same is = subst (IsFound found) (sym same) (with_store found t store is)

-- the number that the row of the store says is above all that was found
pub above_found : (found : Found) (t : Tables) (contents : Contents) → IsFound found t → IsAbove (said found.number) (catalogue_of (encoding contents) t)
above_found found t contents is =
    let sound = is.sound contents in
    later_above found.number (said found.number) (catalogue_of (encoding contents) t) (no_lower found.number) (record { versions = sound.versions; uploads = sound.uploads })

-- what was loaded is what was read
pub loaded_same : {R E : Type 0} (of : R → Tables) (r : Result R E) (s : State) (t : Tables) → IfOk r (λ x. of x ≡ t) → (HasCleanDisk s → IsTrue s.is_open → file_tables s ≡ t)
    → IfOk r (λ x. HasCleanDisk s → IsTrue s.is_open → file_tables s ≡ of x)
loaded_same of (Ok x) s t same read = λ clean up. read clean up ∙ sym same
loaded_same of (Err e) s t same read = tt

-- a file that was only asked has the same tables
pub asked_same : (old new : State) (t : Tables) → Reads old new → (HasCleanDisk old → IsTrue old.is_open → file_tables old ≡ t) → (HasCleanDisk new → IsTrue new.is_open) → HasCleanDisk new → file_tables new ≡ t
asked_same old new t reads same live clean =
    let up = live clean in
    reads.kept clean up ∙ same (omega (arith, reads.survives.clean, clean)) (reads.was_open clean up)

-- and was open where it is
pub asked_was : (old new : State) → Reads old new → (HasCleanDisk new → IsTrue new.is_open) → HasCleanDisk new → WasOpen old
asked_was old new reads live clean = (omega (arith, reads.survives.clean, clean), reads.was_open clean (live clean))

-- what is so is so of each answer
pub always_so : {P R E : Type 0} (r : Result R E) → P → IfOk r (λ _. P)
always_so (Ok x) so = so
always_so (Err e) so = tt

-- what is so of a value is so of what an answer has in its place
pub so_of_same : {X R E : Type 0} (of : R → X) (x : X) (P : X → Type 0) (r : Result R E) → IfOk r (λ y. of y ≡ x) → P x → IfOk r (λ y. P (of y))
so_of_same of x P (Ok y) same so = subst P (sym same) so
so_of_same of x P (Err e) same so = tt
