-- The rows of a bucket's keys, by what is under each key.
use Rattle.std.proofs.Common.{◌≡◌, inl, inr, refl, sym, ap, subst, ◌∙◌, Bool, true, false, cond, ℕ, List, [], ◌∷◌, T, Option, Some, None, Result, Ok, Err}
use Rattle.std.specs.Cmp.{eq_by_cmp_equiv}
use Rattle.std.specs.Cmp.Lexicographic.{nat_list_cmp_total}
use Rattle.std.specs.FinMap.{FinMap, get, get-entries, entries, entries_sorted}
use Rattle.std.specs.FinMap.Entries.{find, is_sorted, below_all}
use Rattle.std.specs.List.{AllByRecursion}
use Rattle.std.specs.Ordering.{is_lt, eq_by_cmp}
use Rattle.std.specs.Result.{result_ok}
use Rattle.std.proofs.lemmas.Bool.{false_from_ne_true, and_parts}
use Rattle.std.proofs.lemmas.Option.{none-some, same_Some}
use Rattle.s3_text.specs.Order.{byte_order}
use Rattle.s3_text.proofs.MapLemmas.{tied_equal}
use Rattle.s3_versions.specs.declared.picking.Facts.{Facts}
use Rattle.s3_versions.specs.declared.picking.Refusal.{Refusal}
use Rattle.s3_versions.specs.declared.version.Version.{Version}
use Rattle.s3_versions.specs.Rules.{pick, facts_read}
use Rattle.s3_records.specs.Catalogue.{Bucket, Catalogue, found_versions, versions_in, versions_of}
use Rattle.s3_records.specs.Rows.{Held, held_in, held_of, key_row, key_rows}
use Rattle.s3_records.specs.declared.rows.KeyRow.{KeyRow}
use Rattle.s3_listings.proofs.MemberLemmas.{Member, Before, Rising, each_at, member-map, member_of_map}
use Rattle.s3_listings.proofs.OrderLemmas.{not_before_itself}

-- a test that passes
passed : (b : Bool) → T b → b ≡ true
passed true h = refl
passed false h = absurd h

-- the key of an entry
abbrev pub key_at : {X : Type 0} → List ℕ × X → List ℕ
key_at e = e.0

-- entries in the order of their keys
each_below : {X : Type 0} (key : List ℕ) (es : List (List ℕ × X)) → below_all byte_order key es ≡ true → AllByRecursion (λ e. is_lt (byte_order key (key_at e)) ≡ true) es
each_below key [] all = tt
each_below key (e ∷ es) all = ((and_parts _ _ all).0, each_below key es (and_parts _ _ all).1)

rising_entries : {X : Type 0} (es : List (List ℕ × X)) → is_sorted byte_order es ≡ true → Rising key_at es
rising_entries [] up = tt
rising_entries (e ∷ es) up = (each_below e.0 es (and_parts _ _ up).0, rising_entries es (and_parts _ _ up).1)

pub rising-map_entries : {X : Type 0} (m : FinMap byte_order X) → Rising key_at (entries m)
rising-map_entries m = rising_entries (entries m) (passed _ (entries_sorted m))

-- an entry is what is found under its key
found_here : {X : Type 0} (e entry : List ℕ × X) (es : List (List ℕ × X)) → entry ≡ e → find byte_order entry.0 (e ∷ es) ≡ Some entry.1
found_here e entry es is = subst (λ f. find byte_order f.0 (e ∷ es) ≡ Some f.1) (sym is) (rw ((eq_by_cmp_equiv nat_list_cmp_total).refl e.0) refl)

pub found_member : {X : Type 0} (es : List (List ℕ × X)) (entry : List ℕ × X) → Rising key_at es → Member entry es → find byte_order entry.0 es ≡ Some entry.1
found_member [] entry up is_in = absurd is_in
found_member (e ∷ es) entry up (inl is) = found_here e entry es is
found_member {X} (e ∷ es) entry up (inr in_rest) =
    let before : Before {X = List ℕ × X} key_at e entry = each_at (Before key_at e) es entry up.0 in_rest in
    rw (false_from_ne_true (eq_by_cmp byte_order entry.0 e.0) (λ tied. not_before_itself e.0 (subst (λ k. is_lt (byte_order e.0 k) ≡ true) (tied_equal entry.0 e.0 tied) before)))
    (found_member es entry up.1 in_rest)

pub member_of_found : {X : Type 0} (es : List (List ℕ × X)) (key : List ℕ) (v : X) → find byte_order key es ≡ Some v → Member (key, v) es
member_of_found [] key v is = absurd (none-some v is)
member_of_found (e ∷ es) key v is =
    elim (eq_by_cmp byte_order key e.0) as (λ b. eq_by_cmp byte_order key e.0 ≡ b → cond b (Some e.1) (find byte_order key es) ≡ Some v → Member (key, v) (e ∷ es)) [
      | true ↦ λ tied here. inl (λ i. (tied_equal key e.0 tied i, sym (same_Some e.1 v here) i))
      | false ↦ λ other later. inr (member_of_found es key v later)
    ] refl is

-- the keys of a bucket that is there or not, with their versions
pub rising-held_in : {B : Type 0} (found : Option (Bucket B)) → Rising key_at (held_in found)
rising-held_in None = tt
rising-held_in (Some b) = rising-map_entries b.keys

pub versions_of_held : {B : Type 0} (found : Option (Bucket B)) (e : Held B) → Member e (held_in found) → versions_in found e.0 ≡ e.1
versions_of_held None e is_in = absurd is_in
versions_of_held (Some b) e is_in = ap found_versions (get-entries b.keys e.0 ∙ found_member (entries b.keys) e (rising-map_entries b.keys) is_in)

abbrev pub known_of : {B : Type 0} → List (Version B) → Result Facts Refusal
known_of vs = facts_read (pick None vs)

none_known : (B : Type 0) (facts : Facts) → known_of {B = B} [] ≡ Ok facts → ⊥
none_known B facts is = absurd (cc)

held_at : {B : Type 0} (b : Bucket B) (key : List ℕ) (facts : Facts) (got : Option (List (Version B))) → get b.keys key ≡ got → known_of (found_versions got) ≡ Ok facts → Member (key, found_versions got) (entries b.keys)
held_at {B} b key facts None is known = absurd (none_known B facts known)
held_at b key facts (Some vs) is known = member_of_found (entries b.keys) key vs (sym (get-entries b.keys key) ∙ is)

pub held_of_known : {B : Type 0} (found : Option (Bucket B)) (key : List ℕ) (facts : Facts) → known_of (versions_in found key) ≡ Ok facts → Member (key, versions_in found key) (held_in found)
held_of_known {B} None key facts known = absurd (none_known B facts known)
held_of_known (Some b) key facts known = held_at b key facts (get b.keys key) refl known

-- a row tells of an object exactly where a read finds it
known_from : (known : Result Facts Refusal) (facts : Facts) → result_ok known ≡ Some facts → known ≡ Ok facts
known_from (Ok found) facts is = ap Ok (same_Some found facts is)
known_from (Err refusal) facts is = absurd (none-some facts is)

abbrev pub row_of : List ℕ → Facts → KeyRow
row_of key facts = record { key = key; facts = Some facts }

pub read_of_row : {B : Type 0} (c : Catalogue B) (name key : List ℕ) (facts : Facts) → Member (row_of key facts) (key_rows c name) → known_of (versions_of c name key) ≡ Ok facts
read_of_row c name key facts is_in =
    let held = member-map key_row (held_of c name) (row_of key facts) is_in in
    let same_key : key ≡ held.0.0 = ap (λ (row : KeyRow). row.key) held.2 in
    ap (λ k. known_of (versions_of c name k)) same_key ∙ ap known_of (versions_of_held (get c name) held.0 held.1)
    ∙ known_from (known_of held.0.1) facts (sym (ap (λ (row : KeyRow). row.facts) held.2))

pub row_of_read : {B : Type 0} (c : Catalogue B) (name key : List ℕ) (facts : Facts) → known_of (versions_of c name key) ≡ Ok facts → Member (row_of key facts) (key_rows c name)
row_of_read c name key facts known =
    subst (λ row. Member row (key_rows c name)) (λ i. record { key = key; facts = ap result_ok known i })
    (member_of_map key_row (held_of c name) (key, versions_of c name key) (held_of_known (get c name) key facts known))
