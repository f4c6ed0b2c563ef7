-- All tables, one after another.
use Rattle.std.proofs.Common.{◌≡◌, sym, ap, subst, ◌∙◌, ℕ, ℤ, ◌≤ℤ◌, Bool, true, List, ◌++◌, append_assoc, flat_map, int_le, arith}
use Rattle.std.proofs.lemmas.Int.{ints}
use Rattle.std.proofs.lemmas.List.Elements.{All-weaker}
use Rattle.s3_rows.specs.Columns.{BucketColumns, VersionColumns, UploadColumns, PartColumns, Tables}
use Rattle.s3_rows.specs.Soundness.{bucket_row, version_row, upload_row, part_row, is_bucket_row}
use Rattle.s3_stored_rows.specs.Bodies.{version_numbers, part_numbers, numbers_named}
use Rattle.s3_found_rows.specs.Order.{IsFilled}
use Rattle.s3_found_rows.specs.Fitting.{version_fits, upload_fits, part_fits, AreFilled}

le_later : (a b c : ℤ) → b ≤ℤ c → int_le a b ≡ true → int_le a c ≡ true
le_later a b c later le = grind (arith, ints)

pub le_then : (a b c : ℤ) → a ≤ℤ b → b ≤ℤ c → a ≤ℤ c
le_then a b c one two = grind (arith, ints)

filled_later : {X : Type 0} (key : X → ℤ) (fits : X → Bool) (xs : List X) (a b : ℤ) → a ≤ℤ b → IsFilled key a fits xs → IsFilled key b fits xs
filled_later key fits xs a b later filled = record {
  reached = All-weaker (λ x. int_le (key x) a ≡ true) (λ x. int_le (key x) b ≡ true) (λ x le. le_later (key x) a b later le) xs filled.reached;
  fit = filled.fit;
}

module _ (t0 t1 t2 t3 t4 : Tables) (bs : List BucketColumns) (vs : List VersionColumns) (us : List UploadColumns) (ps : List PartColumns)
    (one : t1 ≡ record t0 { buckets = bs }) (two : t2 ≡ record t1 { versions = vs }) (three : t3 ≡ record t2 { uploads = us }) (four : t4 ≡ record t3 { parts = ps }) where
  -- the tables, after one more was filled each time
  pub are_whole : t4 ≡ record { buckets = bs; versions = vs; uploads = us; parts = ps; store = t0.store }
  are_whole =
      four
      ∙ ap (λ (t : Tables). record t { parts = ps }) three
      ∙ ap (λ (t : Tables). record t { uploads = us; parts = ps }) two
      ∙ ap (λ (t : Tables). record t { versions = vs; uploads = us; parts = ps }) one

  buckets_are : t1.buckets ≡ bs
  buckets_are = ap (λ (t : Tables). t.buckets) one

  pub all_filled : (last number b v u p : ℤ) → b ≤ℤ last → v ≤ℤ last → u ≤ℤ last → p ≤ℤ last
      → IsFilled bucket_row b is_bucket_row bs → IsFilled version_row v (version_fits number t1.buckets) vs
      → IsFilled upload_row u (upload_fits number t2.buckets) us → IsFilled part_row p (part_fits t3.uploads) ps
      → AreFilled last number t4
  all_filled last number b v u p lb lv lu lp fb fv fu fp =
      subst (AreFilled last number) (sym are_whole) (record {
        buckets = filled_later bucket_row is_bucket_row bs b last lb fb;
        versions = filled_later version_row (version_fits number bs) vs v last lv
            (subst (λ (l : List BucketColumns). IsFilled version_row v (version_fits number l) vs) buckets_are fv);
        uploads = filled_later upload_row (upload_fits number bs) us u last lu
            (subst (λ (l : List BucketColumns). IsFilled upload_row u (upload_fits number l) us) (ap (λ (t : Tables). t.buckets) two ∙ buckets_are) fu);
        parts = filled_later part_row (part_fits us) ps p last lp
            (subst (λ (l : List UploadColumns). IsFilled part_row p (part_fits l) ps) (ap (λ (t : Tables). t.uploads) three) fp);
      })

  pub all_named : (n0 n2 n4 : List ℕ) → n2 ≡ n0 ++ flat_map version_numbers vs → n4 ≡ n2 ++ flat_map part_numbers ps → n4 ≡ n0 ++ numbers_named t4
  unfolding numbers_named
  all_named n0 n2 n4 versions parts =
      parts ∙ ap (λ l. l ++ flat_map part_numbers ps) versions ∙ append_assoc n0 (flat_map version_numbers vs) (flat_map part_numbers ps)
      ∙ ap (λ (t : Tables). n0 ++ (flat_map version_numbers t.versions ++ flat_map part_numbers t.parts)) (sym are_whole)
