-- Lists that begin at a place.
use Rattle.std.proofs.Common.{◌≡◌, ◌≢◌, ◌↔◌, inl, inr, refl, sym, ap, subst, ◌∙◌, Bool, true, false, cond, T, ℕ, nat_lt, List, [], ◌∷◌, ◌++◌, map, filter, Contains, Option, Some, None, lt_trans}
use Rattle.std.specs.Prelude.{if◌then◌else◌}
use Rattle.std.proofs.lemmas.Bool.{false≢true, ltb-true, lt-ltb}
use Rattle.std.specs.Cmp.{eq_by_cmp_equiv}
use Rattle.std.specs.Cmp.Lexicographic.{nat_list_cmp_total, texts_ties}
use Rattle.std.specs.FinMap.{get, entries, entries_sorted}
use Rattle.std.specs.FinMap.Entries.{is_sorted, below_all}
use Rattle.std.specs.Ordering.{is_lt, is_le, ordering_reverse}
use Rattle.std.specs.Str.{bytes_eq}
use Rattle.std.specs.declared.cmp.Ordering.{Ordering}
use Rattle.std.specs.declared.cmp.Ordering.TheVariants.{Less, Equal, Greater}
use Rattle.s3_text.specs.Order.{byte_order}
use Rattle.s3_text.proofs.MapLemmas.{tied_equal}
use Rattle.s3_records.specs.Catalogue.{Bucket}
use Rattle.s3_records.specs.Rows.{Held, held_in, is_from, key_row, key_rows}
use Rattle.s3_records.specs.OpenUploads.{upload_rows, uploads_from, is_upload_from}
use Rattle.s3_records.specs.Laws.{UploadsFollow}
use Rattle.s3_records.specs.declared.rows.KeyRow.{KeyRow}
use Rattle.s3_records.specs.declared.rows.Start.{Start}
use Rattle.s3_records.specs.declared.rows.Start.TheVariants.{First, From, Behind}
use Rattle.s3_records.specs.declared.rows.UploadRow.{UploadRow}
use Rattle.s3_records.specs.declared.rows.UploadStart.{UploadStart}
use Rattle.s3_records.specs.declared.rows.UploadStart.TheVariants.{At, BehindUpload}
use Rattle.s3_catalogue_laws.specs.ListPlaces.{StandsFrom, IsEndOf, KeysStandFrom, KeysAreEnds, UploadStandsBehind, UploadsAreOrdered, UploadsStandFrom, UploadsStandBehind, UploadsAreEnds}
use Rattle.s3_catalogue_laws.proofs.EntryLemmas.{held_first, held_later, filter_held, filter_holds, is_true, first_of, second_of, is_less, apart_below}

-- ---- keys

-- the test of a place
turned : (key first : List ℕ) → byte_order key first ≡ ordering_reverse (byte_order first key)
turned key first = nat_list_cmp_total.antisymm key first

not_below : (r : Ordering) → is_le r ≡ true → ordering_reverse r ≢ Less
not_below Less is = λ other. cc
not_below Equal is = λ other. cc
not_below Greater is = absurd (false≢true is)

not_above : (r : Ordering) → ordering_reverse r ≢ Less → is_le r ≡ true
not_above Less other = refl
not_above Equal other = refl
not_above Greater other = absurd (other refl)

pub stands_from : (start : Start) (key : List ℕ) → (is_from start key ≡ true → StandsFrom start key) × (StandsFrom start key → is_from start key ≡ true)
stands_from First key = (λ is. tt, λ stands. refl)
stands_from (From first) key = (
  λ is below. not_below (byte_order first key) is (sym (turned key first) ∙ below),
  λ stands. not_above (byte_order first key) (λ below. stands (turned key first ∙ below)),
)
stands_from (Behind last) key = (is_less (byte_order last key), λ less. ap is_lt less)

-- what is kept by it of some rows
pub kept_from : {R : Type 0} (key_of : R → List ℕ) (start : Start) (rows : List R) (row : R)
    → Contains (filter (λ r. is_from start (key_of r)) rows) row ↔ (Contains rows row × StandsFrom start (key_of row))
kept_from key_of start rows row = (
  λ held.
      let both = filter_held (λ r. is_from start (key_of r)) rows row held in
      (both.0, (stands_from start (key_of row)).0 both.1),
  λ both. filter_holds (λ r. is_from start (key_of r)) rows row both.0 ((stands_from start (key_of row)).1 both.1),
)

pub keys_stand_from : {B : Type 0} → KeysStandFrom B
keys_stand_from c name start row = kept_from (λ (r : KeyRow). r.key) start (key_rows c name) row

-- keys behind one that stands at a place stand there, too
le_then : (first k q : List ℕ) (r : Ordering) → byte_order first k ≡ r → is_le r ≡ true → byte_order k q ≡ Less → is_le (byte_order first q) ≡ true
le_then first k q Less at is less = ap is_le (nat_list_cmp_total.trans first k q at less)
le_then first k q Equal at is less = ap is_le (nat_list_cmp_total.congr first k q at ∙ less)
le_then first k q Greater at is less = absurd (false≢true is)

pub stays_from : (start : Start) (k q : List ℕ) → is_from start k ≡ true → byte_order k q ≡ Less → is_from start q ≡ true
stays_from First k q is less = refl
stays_from (From first) k q is less = le_then first k q (byte_order first k) refl is less
stays_from (Behind last) k q is less = ap is_lt (nat_list_cmp_total.trans last k q (is_less (byte_order last k) is) less)

-- so all entries behind it are kept
kept_all : {B : Type 0} (start : Start) (k : List ℕ) (es : List (Held B)) → is_from start k ≡ true → T (below_all byte_order k es) → filter (λ (r : KeyRow). is_from start r.key) (map key_row es) ≡ map key_row es
kept_all start k [] is below = refl
kept_all start k (e ∷ es) is below =
    let less = is_less (byte_order k e.0) (is_true _ (first_of _ (below_all byte_order k es) below)) in
    ap (λ b. cond b (key_row e ∷ filter (λ (r : KeyRow). is_from start r.key) (map key_row es)) (filter (λ (r : KeyRow). is_from start r.key) (map key_row es))) (stays_from start k e.0 is less)
    ∙ ap (λ rows. key_row e ∷ rows) (kept_all start k es is (second_of (is_lt (byte_order k e.0)) _ below))

pub one_more : {X : Type 0} (x : X) (whole rest : List X) → IsEndOf whole rest → IsEndOf (x ∷ whole) rest
one_more x whole rest end = (x ∷ end.0, ap (λ xs. x ∷ xs) end.1)

end_of_keys : {B : Type 0} (start : Start) (es : List (Held B)) → T (is_sorted byte_order es) → IsEndOf (map key_row es) (filter (λ (r : KeyRow). is_from start r.key) (map key_row es))
end_of_keys start [] sorted = ([], refl)
end_of_keys start (e ∷ es) sorted =
    elim (is_from start e.0) as (λ b. is_from start e.0 ≡ b → IsEndOf (key_row e ∷ map key_row es) (cond b (key_row e ∷ filter (λ (r : KeyRow). is_from start r.key) (map key_row es)) (filter (λ (r : KeyRow). is_from start r.key) (map key_row es)))) [
      | true ↦ λ is. ([], ap (λ rows. key_row e ∷ rows) (sym (kept_all start e.0 es is (first_of (below_all byte_order e.0 es) _ sorted))))
      | false ↦ λ is. one_more (key_row e) (map key_row es) _ (end_of_keys start es (second_of (below_all byte_order e.0 es) _ sorted))
    ] refl

keys_end_in : {B : Type 0} (start : Start) (found : Option (Bucket B)) → IsEndOf (map key_row (held_in found)) (filter (λ (r : KeyRow). is_from start r.key) (map key_row (held_in found)))
keys_end_in start None = ([], refl)
keys_end_in start (Some b) = end_of_keys start (entries b.keys) (entries_sorted b.keys)

pub keys_are_ends : {B : Type 0} → KeysAreEnds B
keys_are_ends c name start = keys_end_in start (get c name)

-- ---- uploads

pub uploads_stand_from : {B : Type 0} → UploadsStandFrom B
uploads_stand_from c name start row = kept_from (λ (r : UploadRow). r.key) start (upload_rows c name) row

-- the test of a place behind an upload
pub same_text : (k q : List ℕ) → bytes_eq k q ≡ true → k ≡ q
same_text k q same = tied_equal k q (sym (texts_ties k q) ∙ same)

pub own_text : (k q : List ℕ) → k ≡ q → bytes_eq k q ≡ true
own_text k q same = ap (λ p. bytes_eq p q) same ∙ texts_ties q q ∙ (eq_by_cmp_equiv nat_list_cmp_total).refl q

pub other_text : (k q : List ℕ) → byte_order k q ≡ Less → bytes_eq q k ≡ false
other_text k q less = texts_ties q k ∙ apart_below k q less

behind_upload : (key : List ℕ) (id : ℕ) (row : UploadRow) → is_upload_from (BehindUpload key id) row ≡ true → UploadStandsBehind key id row
behind_upload key id row is =
    elim (bytes_eq row.key key) as (λ b. bytes_eq row.key key ≡ b → (if b then nat_lt id row.id else is_lt (byte_order key row.key)) ≡ true → UploadStandsBehind key id row) [
      | true ↦ λ same below. inr (same_text row.key key same, ltb-true id row.id below)
      | false ↦ λ other less. inl (is_less (byte_order key row.key) less)
    ] refl is

upload_behind : (key : List ℕ) (id : ℕ) (row : UploadRow) → UploadStandsBehind key id row → is_upload_from (BehindUpload key id) row ≡ true
upload_behind key id row (inl less) =
    ap (λ b. if b then nat_lt id row.id else is_lt (byte_order key row.key)) (other_text key row.key less) ∙ ap is_lt less
upload_behind key id row (inr above) =
    ap (λ b. if b then nat_lt id row.id else is_lt (byte_order key row.key)) (own_text row.key key above.0) ∙ lt-ltb id row.id above.1

pub uploads_stand_behind : {B : Type 0} → UploadsStandBehind B
uploads_stand_behind c name key id row = (
  λ held.
      let both = filter_held (is_upload_from (BehindUpload key id)) (upload_rows c name) row held in
      (both.0, behind_upload key id row both.1),
  λ both. filter_holds (is_upload_from (BehindUpload key id)) (upload_rows c name) row both.0 (upload_behind key id row both.1),
)

pub uploads_are_ordered : {B : Type 0} → UploadsFollow B → UploadsAreOrdered B
uploads_are_ordered follow c name front rest row next is held =
    let told : Contains (uploads_from c name (BehindUpload row.key row.id)) next =
    subst (λ rows. Contains rows next) (sym (follow c name front rest row is)) held in
    behind_upload row.key row.id next (filter_held (is_upload_from (BehindUpload row.key row.id)) (upload_rows c name) next told).1

-- what is kept of a list is an end of it, where all behind one that is kept are
all_kept : {X : Type 0} (p : X → Bool) (xs : List X) → ((x : X) → Contains xs x → p x ≡ true) → filter p xs ≡ xs
all_kept p [] pass = refl
all_kept p (x ∷ xs) pass =
    ap (λ b. cond b (x ∷ filter p xs) (filter p xs)) (pass x (held_first x x xs refl)) ∙ ap (λ ys. x ∷ ys) (all_kept p xs (λ y held. pass y (held_later y x xs held)))

kept_end : {X : Type 0} (p : X → Bool) (xs : List X) → ((front rest : List X) (x y : X) → xs ≡ front ++ x ∷ rest → Contains rest y → p x ≡ true → p y ≡ true) → IsEndOf xs (filter p xs)
kept_end p [] stays = ([], refl)
kept_end p (x ∷ xs) stays =
    elim (p x) as (λ b. p x ≡ b → IsEndOf (x ∷ xs) (cond b (x ∷ filter p xs) (filter p xs))) [
      | true ↦ λ is. ([], ap (λ ys. x ∷ ys) (sym (all_kept p xs (λ y held. stays [] xs x y refl held is))))
      | false ↦ λ is. one_more x xs (filter p xs) (kept_end p xs (λ front rest y z split held. stays (x ∷ front) rest y z (ap (λ ys. x ∷ ys) split) held))
    ] refl

-- an upload behind one that stands at a place stands there, too
behind_both : (key : List ℕ) (id : ℕ) (row next : UploadRow) → UploadStandsBehind key id row → UploadStandsBehind row.key row.id next → UploadStandsBehind key id next
behind_both key id row next (inl less) (inl above) = inl (nat_list_cmp_total.trans key row.key next.key less above)
behind_both key id row next (inl less) (inr above) = inl (ap (byte_order key) above.0 ∙ less)
behind_both key id row next (inr less) (inl above) = inl (ap (λ k. byte_order k next.key) (sym less.0) ∙ above)
behind_both key id row next (inr less) (inr above) = inr (above.0 ∙ less.0, lt_trans less.1 above.1)

stays_behind : (start : UploadStart) (row next : UploadRow) → UploadStandsBehind row.key row.id next → is_upload_from start row ≡ true → is_upload_from start next ≡ true
stays_behind (At start) row next (inl less) is = stays_from start row.key next.key is less
stays_behind (At start) row next (inr above) is = ap (is_from start) above.0 ∙ is
stays_behind (BehindUpload key id) row next behind is = upload_behind key id next (behind_both key id row next (behind_upload key id row is) behind)

pub uploads_are_ends : {B : Type 0} → UploadsFollow B → UploadsAreEnds B
uploads_are_ends follow c name start =
    kept_end (is_upload_from start) (upload_rows c name) (λ front rest row next is held. stays_behind start row next (uploads_are_ordered follow c name front rest row next is held))
