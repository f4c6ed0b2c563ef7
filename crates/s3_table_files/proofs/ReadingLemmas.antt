-- What several calls that read one after another found.
use Rattle.std.proofs.Common.{◌≡◌, Ok, Err, Result, Some, inl, refl, ap, sym, ◌∙◌, arith, subst}
use Rattle.std.specs.Prelude.{IsTrue, IfOk}
use Rattle.std.specs.Result.{result_ok}
use Rattle.sqlite.specs.declared.error.Error.{Error}
use Rattle.sqlite.specs.State.{State, HasCleanDisk}
use Rattle.s3_rows.specs.Columns.{Tables}
use Rattle.s3_tables.specs.Keeping.{tables, Keeps, Reads}
use Rattle.s3_table_files.specs.Opening.{StaysTo}

pub of_ok : {R : Type 0} (P : R → Type 0) (answer : Result R Error) (x : R) → Some x ≡ result_ok answer → IfOk answer P → P x
of_ok P (Ok y) x same value = let is : y ≡ x = cc in subst P is value
of_ok P (Err e) x same value = absurd cc

five_same : {a b : Tables} → a.buckets ≡ b.buckets → a.versions ≡ b.versions → a.uploads ≡ b.uploads → a.parts ≡ b.parts → a.store ≡ b.store → a ≡ b
five_same p q r s t = λ i. record { buckets = p i; versions = q i; uploads = r i; parts = s i; store = t i }

clean_before : (old new : State) → Reads old new → HasCleanDisk new → HasCleanDisk old
clean_before old new reads clean = omega (arith, reads.survives.clean, clean)

module _ (s0 s1 s2 s3 s4 s5 : State) (r1 : Reads s0 s1) (r2 : Reads s1 s2) (r3 : Reads s2 s3) (r4 : Reads s3 s4) (r5 : Reads s4 s5) (found : Tables)
    (buckets : HasCleanDisk s1 → found.buckets ≡ (tables s0).buckets) (versions : HasCleanDisk s2 → found.versions ≡ (tables s1).versions)
    (uploads : HasCleanDisk s3 → found.uploads ≡ (tables s2).uploads) (parts : HasCleanDisk s4 → found.parts ≡ (tables s3).parts)
    (store : HasCleanDisk s5 → found.store ≡ (tables s4).store) where
  pub all_read : HasCleanDisk s5 → IsTrue s5.is_open → tables s5 ≡ found
  all_read c5 o5 =
      let c4 = clean_before s4 s5 r5 c5 in
      let c3 = clean_before s3 s4 r4 c4 in
      let c2 = clean_before s2 s3 r3 c3 in
      let c1 = clean_before s1 s2 r2 c2 in
      let o4 = r5.was_open c5 o5 in
      let o3 = r4.was_open c4 o4 in
      let o2 = r3.was_open c3 o3 in
      let o1 = r2.was_open c2 o2 in
      let e5 : tables s5 ≡ tables s4 = r5.kept c5 o5 in
      let e4 : tables s5 ≡ tables s3 = e5 ∙ r4.kept c4 o4 in
      let e3 : tables s5 ≡ tables s2 = e4 ∙ r3.kept c3 o3 in
      let e2 : tables s5 ≡ tables s1 = e3 ∙ r2.kept c2 o2 in
      let e1 : tables s5 ≡ tables s0 = e2 ∙ r1.kept c1 o1 in
      five_same {a = tables s5} {b = found}
      (ap (λ (t : Tables). t.buckets) e1 ∙ sym (buckets c1)) (ap (λ (t : Tables). t.versions) e2 ∙ sym (versions c2))
      (ap (λ (t : Tables). t.uploads) e3 ∙ sym (uploads c3)) (ap (λ (t : Tables). t.parts) e4 ∙ sym (parts c4)) (ap (λ (t : Tables). t.store) e5 ∙ sym (store c5))

-- tables that were only read stay
module _ (s0 s1 s2 s3 s4 s5 : State) (r1 : Reads s0 s1) (r2 : Reads s1 s2) (r3 : Reads s2 s3) (r4 : Reads s3 s4) (r5 : Reads s4 s5) where
  stays : (old mid new : State) → StaysTo old mid → Reads mid new → StaysTo old new
  stays old mid new before reads = λ clean up.
      let was = before (clean_before mid new reads clean) (reads.was_open clean up) in
      (was.0, was.1, reads.kept clean up ∙ was.2)

  pub all_stay : StaysTo s0 s5
  all_stay = stays s0 s4 s5 (stays s0 s3 s4 (stays s0 s2 s3 (stays s0 s1 s2 (λ clean up. (clean_before s0 s1 r1 clean, r1.was_open clean up, r1.kept clean up)) r2) r3) r4) r5

-- where nothing is done nothing is read
pub none_read : (s : State) → (HasCleanDisk s → Keeps s) → Reads s s
none_read s keeps = record {
  keeps = keeps;
  kept = λ _ _. refl;
  was_open = λ _ up. up;
  survives = record {
    clean = omega arith;
    shield = λ shielded. shielded;
    counts = omega arith;
    limit = refl;
    closes = λ _ up. inl up;
    crash = λ _ db left. inl left;
  };
}
