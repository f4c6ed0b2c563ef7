-- The first buckets, where a name stands twice.
use Rattle.std.proofs.Common.{◌≡◌, refl, sym, ap, ◌∙◌, ℕ, List, [], ◌∷◌, Bool, true, false, cond, Option, Some, None}
use Rattle.std.specs.Prelude.{IsTrue, is_some}
use Rattle.std.specs.Cmp.Lexicographic.{nat_list_cmp_total}
use Rattle.std.specs.FinMap.{get, insert, get-insert, get-empty}
use Rattle.std.specs.Ordering.{eq_by_cmp}
use Rattle.s3_text.specs.Order.{byte_order}
use Rattle.s3_records.specs.Catalogue.{Bucket, Catalogue, opening, new_bucket}
use Rattle.s3_rows.proofs.MeaningLemmas.{texts_differ}
use Rattle.s3_rows.proofs.CollectedLemmas.{tied_same, same_by_get}

-- a bucket of the opening is a new one
one_of_both : (tied : Bool) (others : Option (Bucket (List ℕ))) (b : Bucket (List ℕ)) → cond tied (Some (new_bucket 0)) others ≡ Some b → (others ≡ Some b → b ≡ new_bucket 0) → b ≡ new_bucket 0
one_of_both true others b is more = cc
one_of_both false others b is more = more is

pub is_new : (names : List (List ℕ)) (name : List ℕ) (b : Bucket (List ℕ)) → get (opening names) name ≡ Some b → b ≡ new_bucket 0
is_new [] name b there = let nothing : None ≡ Some b = sym (get-empty byte_order name) ∙ there in cc
is_new (first ∷ names) name b there =
    one_of_both (eq_by_cmp byte_order name first) (get (opening names) name) b (sym (get-insert nat_list_cmp_total (opening names) first (new_bucket 0) name) ∙ there) (is_new names name b)

-- to put again what is there changes nothing
pub put_again : (c : Catalogue (List ℕ)) (name : List ℕ) (b : Bucket (List ℕ)) → get c name ≡ Some b → c ≡ insert c name b
put_again c name b there =
    same_by_get nat_list_cmp_total texts_differ c (insert c name b)
    (λ q. go q (eq_by_cmp byte_order q name) refl ∙ sym (get-insert nat_list_cmp_total c name b q))
  where
    go : (q : List ℕ) (tied : Bool) → eq_by_cmp byte_order q name ≡ tied → get c q ≡ cond tied (Some b) (get c q)
    go q true is = ap (get c) (tied_same nat_list_cmp_total texts_differ q name is) ∙ there
    go q false is = refl

-- a bucket of the opening is there as if it were made again
pub opened_again : (c : Catalogue (List ℕ)) (names : List (List ℕ)) (name : List ℕ) → c ≡ opening names → IsTrue (is_some (get c name)) → c ≡ insert c name (new_bucket 0)
opened_again c names name is there = go (get c name) refl there
  where
    go : (found : Option (Bucket (List ℕ))) → get c name ≡ found → IsTrue (is_some found) → c ≡ insert c name (new_bucket 0)
    go None at no_bucket = cc
    go (Some b) at there = put_again c name (new_bucket 0) (at ∙ ap Some (is_new names name b (ap (λ m. get m name) (sym is) ∙ at)))
