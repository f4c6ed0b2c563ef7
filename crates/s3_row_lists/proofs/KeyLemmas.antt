-- What is told of keys, as pages of rows are read.
use Rattle.std.proofs.Common.{◌≡◌, refl, sym, ap, subst, ◌∙◌, Bool, true, false, cond, ◌&&◌, ℕ, ◌<◌, ◌≤◌, List, [], ◌∷◌, ◌++◌, append_assoc, drop, filter, length, take, Option, Some, None, Ordering, Less, Equal, Greater, is_eq, is_gt, is_lt, arith, true≢false}
use Rattle.std.specs.Ordering.{is_le, ordering_reverse, ordering_then}
use Rattle.std.proofs.lemmas.Bool.{false≢true, and_parts}
use Rattle.std.proofs.lemmas.Cmp.{upto}
use Rattle.std.proofs.lemmas.List.{length-take, take_all, take-append-drop}
use Rattle.std.specs.Cmp.{IsTotalOrder, tied_itself}
use Rattle.std.specs.Cmp.Lexicographic.{nat_list_cmp_total}
use Rattle.std.specs.List.{AllByRecursion}
use Rattle.sqlite_trees.specs.Tree.{IsAscending}
use Rattle.sqlite_keyed.specs.Lists.{insert_sorted, sort_by}
use Rattle.sqlite_keyed.proofs.ListLemmas.{all_of, all_weaker, filter_all}
use Rattle.s3_text.specs.Order.{byte_order}
use Rattle.s3_records.proofs.ListLemmas.{cut_again}
use Rattle.s3_records.proofs.RowLemmas.{is_less}
use Rattle.s3_records.specs.Rows.{is_from}
use Rattle.s3_records.specs.declared.rows.KeyRow.{KeyRow}
use Rattle.s3_records.specs.declared.rows.Start.{Start}
use Rattle.s3_records.specs.declared.rows.Start.TheVariants.{First, From, Behind}
use Rattle.s3_rows.specs.Columns.{VersionColumns, Tables}
use Rattle.s3_rows.specs.Encoding.{Encoding}
use Rattle.s3_rows.specs.Finding.{is_in, newest_first}
use Rattle.s3_rows.specs.KeyListLaws.{key_listed, keys_listed}
use Rattle.s3_rows.specs.VersionListLaws.{by_key_and_number, is_last}
use Rattle.s3_rows.proofs.EditLemmas.{filter_alike, filter_both}
use Rattle.s3_rows.proofs.MeaningLemmas.{texts_differ}
use Rattle.s3_rows.proofs.SortedLemmas.{all_passing, all-sort_by, sort_by-filter}
use Rattle.s3_rows.proofs.VersionListLemmas.{by_key_total}
use Rattle.s3_stored_rows.specs.Queries.{is_key_behind, versions_behind}
use Rattle.s3_row_lists.proofs.StartLemmas.{from_versions}

-- ---- rows in the order of their keys

-- a sorted list is in order
module _ {X : Type 0} (cmp : X → X → Ordering) (total : IsTotalOrder cmp) where
  abbrev AtMost : X → X → Type 0
  AtMost a b = is_gt (cmp a b) ≡ false

  gt_turned : (a b : X) → is_gt (cmp a b) ≡ true → AtMost b a
  gt_turned a b h = ap is_gt (total.antisymm b a) ∙ go (cmp a b) h
    where
      go : (o : Ordering) → is_gt o ≡ true → is_gt (ordering_reverse o) ≡ false
      go Less h = absurd (false≢true h)
      go Equal h = refl
      go Greater h = refl

  all_put : (P : X → Type 0) (new : X) (xs : List X) → P new → AllByRecursion P xs → AllByRecursion P (insert_sorted cmp new xs)
  all_put P new [] h all = (h, tt)
  all_put P new (x ∷ xs) h all =
      elim (is_gt (cmp new x)) as (λ b. AllByRecursion P (cond b (x ∷ insert_sorted cmp new xs) (new ∷ x ∷ xs))) [ true ↦ (all.0, all_put P new xs h all.1) | false ↦ (h, all) ]

  in_order-insert_sorted : (new : X) (xs : List X) → IsAscending AtMost xs → IsAscending AtMost (insert_sorted cmp new xs)
  in_order-insert_sorted new [] up = (tt, tt)
  in_order-insert_sorted new (x ∷ xs) up = go (is_gt (cmp new x)) refl (in_order-insert_sorted new xs up.1)
    where
      go : (b : Bool) → is_gt (cmp new x) ≡ b → IsAscending AtMost (insert_sorted cmp new xs) → IsAscending AtMost (cond b (x ∷ insert_sorted cmp new xs) (new ∷ x ∷ xs))
      go true is more = (all_put (AtMost x) new xs (gt_turned new x is) up.0, more)
      go false is more = ((is, all_weaker _ (AtMost new) (λ z. upto total new x z is) xs up.0), up)

  in_order-sort_by : (xs : List X) → IsAscending AtMost (sort_by cmp xs)
  in_order-sort_by [] = tt
  in_order-sort_by (x ∷ xs) = in_order-insert_sorted x _ (in_order-sort_by xs)

-- the key of one row is not above that of another
abbrev Rise : VersionColumns → VersionColumns → Type 0
Rise v w = is_gt (byte_order v.key w.key) ≡ false

ascending_so : (R S : VersionColumns → VersionColumns → Type 0) → ((v w : VersionColumns) → R v w → S v w) → (vs : List VersionColumns) → IsAscending R vs → IsAscending S vs
ascending_so R S so [] up = tt
ascending_so R S so (v ∷ vs) up = (all_weaker (R v) (S v) (so v) vs up.0, ascending_so R S so vs up.1)

keys_in_order : (vs : List VersionColumns) → IsAscending Rise (sort_by by_key_and_number vs)
keys_in_order vs = ascending_so (λ v w. is_gt (by_key_and_number v w) ≡ false) Rise (λ v w. go (byte_order v.key w.key) (newest_first v w)) (sort_by by_key_and_number vs) (in_order-sort_by by_key_and_number by_key_total vs)
  where
    go : (o p : Ordering) → is_gt (ordering_then o p) ≡ false → is_gt o ≡ false
    go Less p h = refl
    go Equal p h = refl
    go Greater p h = h

at_middle : (P : VersionColumns → Type 0) (front rest : List VersionColumns) (z : VersionColumns) → AllByRecursion P (front ++ z ∷ rest) → P z
at_middle P [] rest z all = all.0
at_middle P (f ∷ front) rest z all = at_middle P front rest z all.1

from_middle : (front rest : List VersionColumns) (z : VersionColumns) → IsAscending Rise (front ++ z ∷ rest) → IsAscending Rise (z ∷ rest)
from_middle [] rest z up = up
from_middle (f ∷ front) rest z up = from_middle front rest z up.1

-- what stands before a row or at it is not behind its key
not_behind : (v z : VersionColumns) → Rise v z → is_key_behind z.key v.key ≡ false
not_behind v z rise = ap is_lt (nat_list_cmp_total.antisymm z.key v.key) ∙ go (byte_order v.key z.key) rise
  where
    go : (o : Ordering) → is_gt o ≡ false → is_lt (ordering_reverse o) ≡ false
    go Less h = refl
    go Equal h = refl
    go Greater h = h

behind_page : (front rest : List VersionColumns) (z : VersionColumns) → IsAscending Rise (front ++ z ∷ rest)
    → filter (λ v. is_key_behind z.key v.key) (front ++ z ∷ rest) ≡ filter (λ v. is_key_behind z.key v.key) rest
behind_page [] rest z up = ap (λ o. cond (is_lt o) (z ∷ filter (λ v. is_key_behind z.key v.key) rest) (filter (λ v. is_key_behind z.key v.key) rest)) (tied_itself nat_list_cmp_total z.key)
behind_page (f ∷ front) rest z up =
    ap (λ b. cond b (f ∷ filter (λ v. is_key_behind z.key v.key) (front ++ z ∷ rest)) (filter (λ v. is_key_behind z.key v.key) (front ++ z ∷ rest))) (not_behind f z (at_middle (Rise f) front rest z up.0))
    ∙ behind_page front rest z up.1

-- a key behind one stands before those that are not below it
still_behind : (k a b : List ℕ) → byte_order k a ≡ Less → is_gt (byte_order a b) ≡ false → is_key_behind k b ≡ true
still_behind k a b less most = go (byte_order a b) refl most
  where
    go : (o : Ordering) → byte_order a b ≡ o → is_gt o ≡ false → is_key_behind k b ≡ true
    go Less is h = ap is_lt (nat_list_cmp_total.trans k a b less is)
    go Equal is h = ap is_lt (subst (λ q. byte_order k q ≡ Less) (texts_differ a b is) less)
    go Greater is h = absurd (true≢false h)

-- ---- what is told of them

module _ (e : Encoding) where
  -- the rest is told behind the last key of the first rows
  told_page : (last : Option (List ℕ)) (front rest : List VersionColumns) (z : VersionColumns) → keys_listed e last (front ++ z ∷ rest) ≡ keys_listed e last (front ++ z ∷ []) ++ keys_listed e (Some z.key) rest
  told_page last [] rest z =
      elim (is_last last z.key) as (λ b. cond b (keys_listed e (Some z.key) rest) (key_listed e z ∷ keys_listed e (Some z.key) rest) ≡ cond b [] (key_listed e z ∷ []) ++ keys_listed e (Some z.key) rest) [ true ↦ refl | false ↦ refl ]
  told_page last (f ∷ front) rest z =
      ap (λ l. cond (is_last last f.key) l (key_listed e f ∷ l)) (told_page (Some f.key) front rest z)
      ∙ elim (is_last last f.key) as (λ b. cond b (keys_listed e (Some f.key) (front ++ z ∷ []) ++ keys_listed e (Some z.key) rest) (key_listed e f ∷ keys_listed e (Some f.key) (front ++ z ∷ []) ++ keys_listed e (Some z.key) rest)
      ≡ cond b (keys_listed e (Some f.key) (front ++ z ∷ [])) (key_listed e f ∷ keys_listed e (Some f.key) (front ++ z ∷ [])) ++ keys_listed e (Some z.key) rest) [ true ↦ refl | false ↦ refl ]

  -- behind a key the rows behind it are told
  told_later : (k : List ℕ) (vs : List VersionColumns) → IsAscending Rise vs → AllByRecursion (λ v. is_gt (byte_order k v.key) ≡ false) vs → keys_listed e (Some k) vs ≡ keys_listed e None (filter (λ v. is_key_behind k v.key) vs)
  told_later k [] up all = refl
  told_later k (v ∷ vs) up all = go (byte_order k v.key) refl all.0 (told_later k vs up.1 all.1)
    where
      go : (o : Ordering) → byte_order k v.key ≡ o → is_gt o ≡ false → keys_listed e (Some k) vs ≡ keys_listed e None (filter (λ w. is_key_behind k w.key) vs)
          → cond (is_eq o) (keys_listed e (Some v.key) vs) (key_listed e v ∷ keys_listed e (Some v.key) vs) ≡ keys_listed e None (cond (is_lt o) (v ∷ filter (λ w. is_key_behind k w.key) vs) (filter (λ w. is_key_behind k w.key) vs))
      go Less is h more = ap (λ l. key_listed e v ∷ keys_listed e (Some v.key) l) (sym (filter_all (λ w. is_key_behind k w.key) vs (all_weaker (Rise v) _ (λ w rise. still_behind k v.key w.key is rise) vs up.0)))
      go Equal is h more = subst (λ q. keys_listed e (Some q) vs ≡ keys_listed e None (filter (λ w. is_key_behind k w.key) vs)) (texts_differ k v.key is) more
      go Greater is h more = absurd (true≢false h)

  told_parts : (front rest : List VersionColumns) (z : VersionColumns) → IsAscending Rise (front ++ z ∷ rest)
      → keys_listed e None (front ++ z ∷ rest) ≡ keys_listed e None (front ++ z ∷ []) ++ keys_listed e None (filter (λ v. is_key_behind z.key v.key) (front ++ z ∷ rest))
  told_parts front rest z up =
      let later = from_middle front rest z up in
      told_page None front rest z
      ∙ ap (λ l. keys_listed e None (front ++ z ∷ []) ++ l) (told_later z.key rest later.1 later.0 ∙ ap (keys_listed e None) (sym (behind_page front rest z up)))

-- ---- rows from a place on

-- a key behind one that stands from a place on stands from there on
still_from : (start : Start) (a b : List ℕ) → is_from start a ≡ true → is_key_behind a b ≡ true → is_from start b ≡ true
still_from First a b from behind = refl
still_from (From first) a b from behind = go (byte_order first a) refl from
  where
    go : (o : Ordering) → byte_order first a ≡ o → is_le o ≡ true → is_le (byte_order first b) ≡ true
    go Less is h = ap is_le (nat_list_cmp_total.trans first a b is (is_less (byte_order a b) behind))
    go Equal is h = ap is_le (subst (λ q. byte_order q b ≡ Less) (sym (texts_differ first a is)) (is_less (byte_order a b) behind))
    go Greater is h = absurd (false≢true h)
still_from (Behind last) a b from behind = ap is_lt (nat_list_cmp_total.trans last a b (is_less (byte_order last a) from) (is_less (byte_order a b) behind))

narrower : (here from behind : Bool) → (behind ≡ true → from ≡ true) → ((here && from) && behind) ≡ (here && behind)
narrower false from behind so = refl
narrower true from true so = ap (λ b. b && true) (so refl)
narrower true true false so = refl
narrower true false false so = refl

behind_from : (bucket : List ℕ) (start : Start) (k : List ℕ) (t : Tables) → is_from start k ≡ true → filter (λ v. is_key_behind k v.key) (from_versions bucket start t) ≡ versions_behind bucket k t
behind_from bucket start k t from =
    sym (sort_by-filter by_key_and_number by_key_total (λ v. is_key_behind k v.key) (filter (λ v. is_in bucket v && is_from start v.key) t.versions))
    ∙ ap (sort_by by_key_and_number)
    (sym (filter_both (λ v. is_in bucket v && is_from start v.key) (λ v. is_key_behind k v.key) t.versions)
    ∙ filter_alike (λ v. (is_in bucket v && is_from start v.key) && is_key_behind k v.key) (λ v. is_in bucket v && is_key_behind k v.key) (λ v. narrower (is_in bucket v) (is_from start v.key) (is_key_behind k v.key) (still_from start k v.key from)) t.versions)

all_from : (bucket : List ℕ) (start : Start) (t : Tables) → AllByRecursion (λ v. is_from start v.key ≡ true) (from_versions bucket start t)
all_from bucket start t =
    all-sort_by by_key_and_number by_key_total (λ v. is_from start v.key ≡ true) (filter (λ v. is_in bucket v && is_from start v.key) t.versions)
    (all_passing (λ v. is_from start v.key ≡ true) (λ v. is_in bucket v && is_from start v.key) t.versions
    (all_of (λ v. (is_in bucket v && is_from start v.key) ≡ true → is_from start v.key ≡ true) (λ v is. (and_parts (is_in bucket v) _ is).1) t.versions))

module _ (e : Encoding) (bucket : List ℕ) (start : Start) (t : Tables) where
  told_whole : (front rest : List VersionColumns) (z : VersionColumns) → from_versions bucket start t ≡ front ++ z ∷ rest
      → keys_listed e None (from_versions bucket start t) ≡ keys_listed e None (front ++ z ∷ []) ++ keys_listed e None (versions_behind bucket z.key t)
  told_whole front rest z is =
      ap (keys_listed e None) is
      ∙ told_parts e front rest z (subst (IsAscending Rise) is (keys_in_order (filter (λ v. is_in bucket v && is_from start v.key) t.versions)))
      ∙ ap (λ l. keys_listed e None (front ++ z ∷ []) ++ keys_listed e None l)
      (ap (filter (λ v. is_key_behind z.key v.key)) (sym is)
      ∙ behind_from bucket start z.key t (at_middle (λ v. is_from start v.key ≡ true) front rest z (subst (AllByRecursion (λ v. is_from start v.key ≡ true)) is (all_from bucket start t))))

  -- a full page, and then what is behind its last key
  pub full_page : (n most : ℕ) (page front : List VersionColumns) (z : VersionColumns) (told now : List KeyRow) → page ≡ take n (from_versions bucket start t) → page ≡ front ++ z ∷ []
      → now ≡ take most (told ++ keys_listed e None page) → take most (now ++ keys_listed e None (versions_behind bucket z.key t)) ≡ take most (told ++ keys_listed e None (from_versions bucket start t))
  full_page n most page front z told now cut ends adds =
      let rest = drop n (from_versions bucket start t) in
      let behind = keys_listed e None (versions_behind bucket z.key t) in
      ap (λ l. take most (l ++ behind)) (adds ∙ ap (λ l. take most (told ++ keys_listed e None l)) ends)
      ∙ cut_again most (told ++ keys_listed e None (front ++ z ∷ [])) behind
      ∙ ap (take most) (append_assoc told (keys_listed e None (front ++ z ∷ [])) behind)
      ∙ ap (λ l. take most (told ++ l))
      (sym (told_whole front rest z
      (sym (take-append-drop n (from_versions bucket start t)) ∙ ap (λ l. l ++ rest) (sym cut ∙ ends) ∙ append_assoc front (z ∷ []) rest)))

  -- a page that is not full is all
  pub last_page : (n most : ℕ) (page : List VersionColumns) (told now : List KeyRow) → page ≡ take n (from_versions bucket start t) → length page < n
      → now ≡ take most (told ++ keys_listed e None page) → now ≡ take most (told ++ keys_listed e None (from_versions bucket start t))
  last_page n most page told now cut few adds =
      adds ∙ ap (λ l. take most (told ++ keys_listed e None l)) (cut ∙ take_all n (from_versions bucket start t) (all_taken n (from_versions bucket start t) (subst (λ l. length l < n) cut few)))
    where
      all_taken : (n : ℕ) (vs : List VersionColumns) → length (take n vs) < n → length vs ≤ n
      all_taken n vs less = omega (arith, length-take n vs)
