-- The tables as an entry's deletions find and leave them, as a row is taken out or put in.
use Rattle.std.proofs.Common.{◌≡◌, refl, sym, ap, ◌∙◌, ℕ, ◌+◌, ℤ, pos, ◌+ℤ◌, ◌<ℤ◌, Bool, true, false, int_lt, List, [], ◌++◌, Option, Some, None, option_map, arith}
use Rattle.std.proofs.lemmas.Int.{ints}
use Rattle.std.proofs.lemmas.List.Elements.{recursion_from_All, All-weaker}
use Rattle.std.specs.List.{flat_map}
use Rattle.sqlite_keyed.specs.Keyed.{has_key}
use Rattle.sqlite_keyed.specs.Lists.{delete_where, without_key}
use Rattle.sqlite_keyed.specs.Rules.{AllPass}
use Rattle.sqlite_keyed.proofs.ListLemmas.{all_weaker}
use Rattle.sqlite_keyed.proofs.RuleLemmas.{pass_insert, pass_delete}
use Rattle.s3_rows.specs.Columns.{VersionColumns, Tables}
use Rattle.s3_rows.specs.Finding.{is_version}
use Rattle.s3_rows.specs.Soundness.{version_row, same_version, AreSound}
use Rattle.s3_rows.specs.TableChanges.{version_dropped}
use Rattle.s3_stored_bodies.specs.Numbers.{times}
use Rattle.s3_stored_bodies.proofs.NumberLemmas.{times-append}
use Rattle.s3_stored_rows.specs.Bodies.{version_numbers, part_numbers, numbers_named}
use Rattle.s3_stored_rows.specs.Changes.{with_version, after_all}
use Rattle.s3_stored_rows.specs.Queries.{version_of_id}
use Rattle.s3_stored_rows.specs.Rowids.{AreRowsBelow}
use Rattle.s3_row_changes.specs.Trading.{Trades}
use Rattle.s3_row_deletions.specs.declared.standing.Standing.{Standing}
use Rattle.s3_row_deletions.specs.Standing.{shown, row_shown, MayComeAll}
use Rattle.s3_row_deletions.specs.Steps.{rows_gone, numbers_gone}
use Rattle.s3_row_deletions.proofs.FoundLemmas.{none_out, out_times, without_found, put_names_none, free_above, same_some}
use Rattle.s3_row_deletions.proofs.StandingLemmas.{one_place}

-- ---- rowids

less_later : (a next : ℤ) → int_lt a next ≡ true → int_lt a (next +ℤ pos 1) ≡ true
less_later a next less = grind (arith, ints)

pass_later : {X : Type 0} (row : X → ℤ) (next : ℤ) (xs : List X) → AllPass (λ x. int_lt (row x) next) xs → AllPass (λ x. int_lt (row x) (next +ℤ pos 1)) xs
pass_later row next xs below = All-weaker (λ x. int_lt (row x) next ≡ true) (λ x. int_lt (row x) (next +ℤ pos 1) ≡ true) (λ x less. less_later (row x) next less) xs below

pub rowids_dropped : (next : ℤ) (t : Tables) (p : VersionColumns → Bool) → AreRowsBelow next t → AreRowsBelow next (record t { versions = delete_where p t.versions })
rowids_dropped next t p below = record {
  buckets = below.buckets;
  versions = pass_delete (λ v. int_lt v.row next) p t.versions below.versions;
  uploads = below.uploads;
  parts = below.parts;
}

less_next : (next : ℤ) → int_lt next (next +ℤ pos 1) ≡ true
less_next next = grind (arith, ints)

pub rowids_put : (next : ℤ) (t : Tables) (row : VersionColumns) → row.row ≡ next → AreRowsBelow next t → AreRowsBelow (next +ℤ pos 1) (with_version row t)
rowids_put next t row is below = record {
  buckets = pass_later (λ b. b.row) next t.buckets below.buckets;
  versions = pass_insert version_row (λ v. int_lt v.row (next +ℤ pos 1)) t.versions row (ap (λ r. int_lt r (next +ℤ pos 1)) is ∙ less_next next) (pass_later version_row next t.versions below.versions);
  uploads = pass_later (λ u. u.row) next t.uploads below.uploads;
  parts = pass_later (λ p. p.row) next t.parts below.parts;
}

lt_from_test : (a b : ℤ) → int_lt a b ≡ true → a <ℤ b
lt_from_test a b less = grind (arith, ints)

-- no row has the next rowid
pub next_free : (next : ℤ) (t : Tables) (row : ℤ) → row ≡ next → AreRowsBelow next t → has_key version_row t.versions row ≡ false
next_free next t row is below =
    ap (has_key version_row t.versions) is
    ∙ free_above version_row t.versions next (all_weaker (λ v. int_lt v.row next ≡ true) (λ v. v.row <ℤ next) (λ v less. lt_from_test v.row next less) t.versions (recursion_from_All (λ v. int_lt v.row next ≡ true) t.versions below.versions))

-- ---- a row is taken out

-- that of the version of an id goes by its rowid
pub gone_is : (t : Tables) (bucket key : List ℕ) (id : ℤ) (found : Option Standing) → AreSound t → option_map shown found ≡ option_map row_shown (version_of_id bucket key id t)
    → after_all (rows_gone found) t ≡ version_dropped bucket key id t
gone_is t bucket key id found s told = go found (version_of_id bucket key id t) refl told
  where
    go : (f : Option Standing) (o : Option VersionColumns) → version_of_id bucket key id t ≡ o → option_map shown f ≡ option_map row_shown o → after_all (rows_gone f) t ≡ version_dropped bucket key id t
    go None None is same = ap (λ vs. record t { versions = vs }) (sym (none_out (is_version bucket key id) t.versions is))
    go None (Some v) is same = cc
    go (Some f) None is same = cc
    go (Some f) (Some v) is same =
        let row : f.row ≡ v.row = ap (λ s. s.0) (same_some (shown f) (row_shown v) same) in
        ap (λ vs. record t { versions = vs })
        (ap (without_key version_row t.versions) row ∙ without_found same_version (is_version bucket key id) (one_place bucket key id) version_row t.versions v s.versions.rise s.versions.ids is)

-- it is one row, and may go
pub gone_may_come : (t : Tables) (found : Option Standing) → AreSound t → MayComeAll t (rows_gone found)
gone_may_come t None s = tt
gone_may_come t (Some f) s = (s.versions.ids, tt)

-- its numbers are named once less
pub gone_trades : (t : Tables) (bucket key : List ℕ) (id : ℤ) (found : Option Standing) → AreSound t → option_map shown found ≡ option_map row_shown (version_of_id bucket key id t)
    → Trades t (version_dropped bucket key id t) (numbers_gone found) []
unfolding numbers_named
gone_trades t bucket key id found s told n = go found (version_of_id bucket key id t) refl told
  where
    parts : List ℕ
    parts = flat_map part_numbers t.parts

    go : (f : Option Standing) (o : Option VersionColumns) → version_of_id bucket key id t ≡ o → option_map shown f ≡ option_map row_shown o
        → times n (flat_map version_numbers (delete_where (is_version bucket key id) t.versions) ++ flat_map part_numbers t.parts) + times n (numbers_gone f) ≡ times n (flat_map version_numbers t.versions ++ flat_map part_numbers t.parts) + times n []
    go None None is same = ap (λ vs. times n (flat_map version_numbers vs ++ flat_map part_numbers t.parts) + 0) (none_out (is_version bucket key id) t.versions is)
    go None (Some v) is same = cc
    go (Some f) None is same = cc
    go (Some f) (Some v) is same =
        let numbers : f.numbers.items ≡ version_numbers v = ap (λ s. s.3) (same_some (shown f) (row_shown v) same) in
        let here = ap (times n) numbers in
        let versions = out_times same_version (is_version bucket key id) (one_place bucket key id) version_numbers n t.versions v s.versions.ids is in
        omega (
          arith,
          here,
          versions,
          times-append n (flat_map version_numbers (delete_where (is_version bucket key id) t.versions)) (flat_map part_numbers t.parts),
          times-append n (flat_map version_numbers t.versions) (flat_map part_numbers t.parts),
        )

-- ---- a row is put in that names no numbers

pub put_trades : (t : Tables) (row : VersionColumns) → has_key version_row t.versions row.row ≡ false → version_numbers row ≡ [] → numbers_named (with_version row t) ≡ numbers_named t
unfolding numbers_named
put_trades t row free none = ap (λ l. l ++ flat_map part_numbers t.parts) (put_names_none version_row version_numbers t.versions row none free)
