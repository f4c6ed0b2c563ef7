-- The finite map that the entries of a tree make, whose keys rise, and from which entries are taken out.
use Rattle.std.proofs.Common.{◌≡◌, ◌≢◌, sym, ap, refl, ◌∙◌, Bool, true, false, cond, ℕ, List, length, Option, Some, None}
use Rattle.std.proofs.lemmas.Bool.{false_from_ne_true}
use Rattle.std.specs.BTreeMap.{is_at}
use Rattle.std.specs.Cmp.{eq_by_cmp_equiv}
use Rattle.std.specs.Cmp.Lexicographic.{nat_list_cmp_total}
use Rattle.std.specs.FinMap.{FinMap, get, insert, from_entries, entries, len, remove, get-remove}
use Rattle.std.specs.List.Sorted.{IsStrictlySortedBy}
use Rattle.std.specs.Map.{keys_of}
use Rattle.std.specs.Ordering.{eq_by_cmp}
use Rattle.s3_text.specs.Order.{byte_order}
use Rattle.s3_text.proofs.MapLemmas.{value_at, same_by_get, get-put, tied_equal}
use Rattle.s3_records.proofs.OrderedLemmas.{entries_are, len_is, taken_out, keys_differ}

-- the keys of a tree rise, so its map has its entries
pub entries-made : {X : Type 0} (es : List (List ℕ × X)) → IsStrictlySortedBy byte_order (keys_of es) → entries (from_entries {R = byte_order} es) ≡ es
entries-made es sorted = entries_are nat_list_cmp_total keys_differ es sorted

pub len-made : {X : Type 0} (es : List (List ℕ × X)) → IsStrictlySortedBy byte_order (keys_of es) → len (from_entries {R = byte_order} es) ≡ length es
len-made es sorted = len_is nat_list_cmp_total keys_differ es sorted

-- what a tree becomes where an entry is taken out
pub made_by_remove : {X : Type 0} (es fs : List (List ℕ × X)) (k : List ℕ) → ((q : List ℕ) → value_at fs q ≡ cond (is_at (byte_order k) q) None (value_at es q)) → from_entries {R = byte_order} fs ≡ remove (from_entries es) k
made_by_remove es fs k h = taken_out nat_list_cmp_total keys_differ es fs k h

absent_at_key : {X : Type 0} (m : FinMap byte_order X) (k q : List ℕ) (b : Bool) → get m k ≡ None → eq_by_cmp byte_order q k ≡ b → cond b None (get m q) ≡ get m q
absent_at_key m k q true is tied = sym is ∙ ap (get m) (sym (tied_equal q k tied))
absent_at_key m k q false is tied = refl

-- to take out what is not there leaves the map
pub remove_absent : {X : Type 0} (m : FinMap byte_order X) (k : List ℕ) → get m k ≡ None → remove m k ≡ m
remove_absent m k is = same_by_get _ _ (λ q. get-remove nat_list_cmp_total m k q ∙ absent_at_key m k q _ is refl)

over : {X : Type 0} (b : Bool) (v w : Option X) (other : Option X) → cond b v (cond b w other) ≡ cond b v other
over true v w other = refl
over false v w other = refl

-- what was put goes with what is taken out
pub remove-over : {X : Type 0} (m : FinMap byte_order X) (k : List ℕ) (w : X) → remove (insert m k w) k ≡ remove m k
remove-over m k w = same_by_get _ _ (λ q.
    get-remove nat_list_cmp_total (insert m k w) k q ∙ ap (cond (eq_by_cmp byte_order q k) None) (get-put m k w q)
    ∙ over (eq_by_cmp byte_order q k) None (Some w) (get m q) ∙ sym (get-remove nat_list_cmp_total m k q))

-- what was put is there
pub get-put_here : {X : Type 0} (m : FinMap byte_order X) (k : List ℕ) (v : X) → get (insert m k v) k ≡ Some v
get-put_here m k v = get-put m k v k ∙ ap (λ b. cond b (Some v) (get m k)) ((eq_by_cmp_equiv nat_list_cmp_total).refl k)

-- a write at one key leaves what is at another
not_tied : (q k : List ℕ) → q ≢ k → eq_by_cmp byte_order q k ≡ false
not_tied q k differ = false_from_ne_true (eq_by_cmp byte_order q k) (λ tied. differ (tied_equal q k tied))

pub get-put_other : {X : Type 0} (m : FinMap byte_order X) (k : List ℕ) (v : X) (q : List ℕ) → q ≢ k → get (insert m k v) q ≡ get m q
get-put_other m k v q differ = get-put m k v q ∙ ap (λ b. cond b (Some v) (get m q)) (not_tied q k differ)

pub get-remove_other : {X : Type 0} (m : FinMap byte_order X) (k q : List ℕ) → q ≢ k → get (remove m k) q ≡ get m q
get-remove_other m k q differ = get-remove nat_list_cmp_total m k q ∙ ap (λ b. cond b None (get m q)) (not_tied q k differ)

pub get-remove_here : {X : Type 0} (m : FinMap byte_order X) (k : List ℕ) → get (remove m k) k ≡ None
get-remove_here m k = get-remove nat_list_cmp_total m k k ∙ ap (λ b. cond b None (get m k)) ((eq_by_cmp_equiv nat_list_cmp_total).refl k)

pub ruleset made_entries = (entries-made)
