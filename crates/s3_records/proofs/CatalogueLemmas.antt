-- The catalogue, as its buckets change.
use Rattle.std.proofs.Common.{◌≡◌, refl, sym, ap, ◌∙◌, IsTrue, ℕ, List, [], ◌∷◌, ◌++◌, Some, None, is_some}
use Rattle.std.proofs.lemmas.Bool.{false≢true}
use Rattle.std.specs.BTreeMap.{BTreeMap, WritesThrough}
use Rattle.std.specs.FinMap as map
use Rattle.s3_text.specs.Order.{byte_order}
use Rattle.s3_records.specs.Catalogue.{Bucket, Catalogue, new_bucket, opening, has_bucket}
use Rattle.s3_records.specs.Changes.{Change, bucket_after, with_bucket, changed}
use Rattle.s3_text.proofs.MapLemmas.{value_at, get_by_tree, made_by_write, put-put}

-- a bucket that is there is found in its tree
pub not_absent : {B : Type 0} (tree : BTreeMap (List ℕ) (Bucket B)) (c : Catalogue B) (name : List ℕ) → map.from_entries tree.entries ≡ c → None ≡ value_at tree.entries name → IsTrue (has_bucket c name) → ⊥
not_absent tree c name view absent there = false≢true (sym (ap is_some (get_by_tree tree.entries c name None view absent)) ∙ there)

-- a tree in which one bucket was changed
pub bucket_written : {B : Type 0} (before after : BTreeMap (List ℕ) (Bucket B)) (c : Catalogue B) (name : List ℕ) (old new : Bucket B) (change : Change B) → map.from_entries before.entries ≡ c → Some old ≡ value_at before.entries name
    → WritesThrough byte_order (byte_order name) before new after → Some new ≡ bucket_after change (Some old) → map.from_entries after.entries ≡ changed c name change
bucket_written before after c name old new change view found writes is =
    made_by_write before after c name old new view found writes
    ∙ ap (with_bucket c name) (is ∙ sym (ap (bucket_after change) (get_by_tree before.entries c name (Some old) view found)))

-- one more bucket to open with
pub opening-push : {B : Type 0} (names : List (List ℕ)) (name : List ℕ) → opening {B = B} (names ++ name ∷ []) ≡ map.insert (opening names) name (new_bucket 0)
opening-push [] name = refl
opening-push (first ∷ names) name =
    ap (λ c. map.insert c first (new_bucket 0)) (opening-push names name) ∙ put-put (opening names) name first (new_bucket 0)
