-- A bucket that is made where it was missing.
use Rattle.std.proofs.Common.{◌≡◌, refl, sym, ap, subst, ◌∙◌, ℕ, List, [], ◌∷◌, ◌++◌, Bool, true, false, cond, if◌then◌else◌, Option, Some, Result, Ok, Err}
use Rattle.std.specs.Prelude.{is_some, OnOk, OnErr}
use Rattle.std.specs.List.{AllByRecursion}
use Rattle.std.specs.FinMap.{get, get-insert}
use Rattle.std.specs.Cmp.Lexicographic.{nat_list_cmp_total}
use Rattle.std.specs.Ordering.{eq_by_cmp}
use Rattle.s3_text.specs.Order.{byte_order}
use Rattle.s3_records.specs.Catalogue.{Catalogue, has_bucket, new_bucket}
use Rattle.s3_records.specs.Changes.{BucketAdded, changed}
use Rattle.s3_records.proofs.MapLemmas.{get-put_here}
use Rattle.s3_keepers.specs.Begun.{with_bucket, with_buckets}
use Rattle.s3_keepers.specs.Sound.{IsSoundCatalogue, NewBucketsStaySound}

kept : {X : Type 0} (b : Bool) (x : X) (found : Option X) → is_some found ≡ true → is_some (cond b (Some x) found) ≡ true
kept true x found there = refl
kept false x found there = there

module _ {E : Type 0} (c d e : Catalogue (List ℕ)) (name copy : List ℕ) (t : ℕ) (same : d ≡ c) (copied : copy ≡ name)
    (r : Result (Unit {0}) E)
    (ok : OnOk r (e ≡ changed d copy (BucketAdded t))) (err : OnErr r (e ≡ d)) where
  made : e ≡ changed d copy (BucketAdded t) → e ≡ changed c name (BucketAdded t)
  made is = is ∙ ap (λ (m : Catalogue (List ℕ)). changed m copy (BucketAdded t)) same ∙ ap (λ n. changed c n (BucketAdded t)) copied

  pub made_value : has_bucket c name ≡ false → t ≡ 0 → OnOk r (e ≡ with_bucket c name)
  made_value none first = go r ok
    where
      go : (r : Result (Unit {0}) E) → OnOk r (e ≡ changed d copy (BucketAdded t)) → OnOk r (e ≡ with_bucket c name)
      go (Ok x) is = made is ∙ ap (λ n. changed c name (BucketAdded n)) first ∙ sym (ap (λ b. if b then c else changed c name (BucketAdded 0)) none)
      go (Err x) is = tt

  pub made_there : OnOk r (has_bucket e name ≡ true)
  made_there = go r ok
    where
      go : (r : Result (Unit {0}) E) → OnOk r (e ≡ changed d copy (BucketAdded t)) → OnOk r (has_bucket e name ≡ true)
      go (Ok x) is = ap (λ (m : Catalogue (List ℕ)). has_bucket m name) (made is) ∙ ap is_some (get-put_here c name (new_bucket t))
      go (Err x) is = tt

  pub made_others : (other : List ℕ) → has_bucket c other ≡ true → has_bucket e other ≡ true
  made_others other there = go r ok err
    where
      go : (r : Result (Unit {0}) E) → OnOk r (e ≡ changed d copy (BucketAdded t)) → OnErr r (e ≡ d) → has_bucket e other ≡ true
      go (Ok x) is other_way =
          ap (λ (m : Catalogue (List ℕ)). has_bucket m other) (made is)
          ∙ ap is_some (get-insert nat_list_cmp_total c name (new_bucket t) other)
          ∙ kept (eq_by_cmp byte_order other name) (new_bucket t) (get c other) there
      go (Err x) other_way is = ap (λ (m : Catalogue (List ℕ)). has_bucket m other) (is ∙ same) ∙ there

  pub made_sound : NewBucketsStaySound (List ℕ) → has_bucket c name ≡ false → (number : ℕ) → IsSoundCatalogue c number → IsSoundCatalogue e number
  made_sound stay none number sound = go r ok err
    where
      go : (r : Result (Unit {0}) E) → OnOk r (e ≡ changed d copy (BucketAdded t)) → OnErr r (e ≡ d) → IsSoundCatalogue e number
      go (Ok x) is other_way = subst (λ (m : Catalogue (List ℕ)). IsSoundCatalogue m number) (sym (made is))
          (stay c name t number none sound)
      go (Err x) other_way is = subst (λ (m : Catalogue (List ℕ)). IsSoundCatalogue m number) (sym (is ∙ same)) sound

-- the names so far are there, and one more
pub one_more : (P Q : List ℕ → Type 0) (so : (n : List ℕ) → P n → Q n) (names : List (List ℕ)) (name : List ℕ)
    → AllByRecursion P names → Q name
    → AllByRecursion Q (names ++ name ∷ [])
one_more P Q so [] name all here = (here, tt)
one_more P Q so (n ∷ names) name all here = (so n all.0, one_more P Q so names name all.1 here)

-- one bucket more is made behind the others
pub one_bucket_more : (names : List (List ℕ)) (name : List ℕ) (c : Catalogue (List ℕ)) → with_buckets (names ++ name ∷ []) c ≡ with_bucket (with_buckets names c) name
one_bucket_more [] name c = refl
one_bucket_more (n ∷ names) name c = one_bucket_more names name (with_bucket c n)

-- a bucket that is there isn't made
pub there_already : (c d : Catalogue (List ℕ)) (name : List ℕ) → d ≡ c → has_bucket c name ≡ true → d ≡ with_bucket c name
there_already c d name same there = same ∙ sym (ap (λ b. if b then c else changed c name (BucketAdded 0)) there)
