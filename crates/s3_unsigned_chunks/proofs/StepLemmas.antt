-- One byte of a body, and runs of such bytes, before the end of Content-Length.
use Rattle.std.proofs.Common.{◌≡◌, ℕ, suc, ◌+◌, ◌-◌, ◌*◌, ◌<◌, ◌≤◌, ⊎_elim, Bool, true, false, not, ◌&&◌, ◌==◌, nat_lt, List, [], ◌∷◌, ◌++◌, length, map, drop, refl, sym, ap, ◌∙◌, subst, arith, append_assoc, eqb, eq-eqb, ne_eqb, lt-ltb, length-append, get_or, Some}
use Rattle.std.proofs.lemmas.Bool.{false≢true, and_parts}
use Rattle.std.proofs.lemmas.List.{append-nil, length_push}
use Rattle.std.proofs.Math.Seq.{get_or-append_seam}
use Rattle.std.specs.Char.{digit_value, eq_ignore_ascii_case, is_ascii_graphic, to_ascii_lowercase}
use Rattle.std.specs.List.{list_all}
use Rattle.std.specs.Prelude.{slice_index}
use Rattle.std.specs.Str.Parse.{digits_value_after}
use Rattle.s3_unsigned_chunks.specs.Body.{IsGap}
use Rattle.s3_unsigned_chunks.specs.Place.{is_hex, more_digits, read, read_size, to_digits}
use Rattle.s3_unsigned_chunks.specs.Reading.{Terms, Reading, after_byte, byte_read, data_read, finished, is_closed, is_data, is_settled, opened, place_behind, run, settled, turned}
use Rattle.s3_unsigned_chunks.specs.declared.place.Place.{Place}
use Rattle.s3_unsigned_chunks.specs.declared.place.Place.TheVariants.{Size, SizeEnd, Data, Name, Value, Gap, ValueEnd, LastEnd, Over}
use Rattle.s3_unsigned_chunks.specs.declared.place.Step.{Step}
use Rattle.s3_unsigned_chunks.specs.declared.place.Step.TheVariants.{Moves, Opens, Spells, Ends}
use Rattle.s3_unsigned_chunks.proofs.RunLemmas.{after_other, run_data}

-- a reading by its parts
abbrev pub reading_at : Place → ℕ → ℕ → List ℕ → List ℕ → Reading
reading_at place taken left value held = record { place = place; taken = taken; left = left; value = value; held = held }

and_false : (s : Bool) → (s && false) ≡ false
and_false true = refl
and_false false = refl

-- before the end of Content-Length nothing is refused for it
pub settled_going : (terms : Terms) (r : Reading) → r.taken < terms.encoded → settled terms.encoded r ≡ r
unfolding settled
settled_going terms r below =
    let apart : eqb r.taken terms.encoded ≡ false = ne_eqb _ _ (λ same. omega (arith, below, same)) in
    let none : (not (is_settled r.place) && eqb r.taken terms.encoded) ≡ false =
    ap (λ b. not (is_settled r.place) && b) apart ∙ and_false (not (is_settled r.place)) in
    rw none refl

-- a byte that is no data
byte_goes : (terms : Terms) (place : Place) (taken left : ℕ) (value held : List ℕ) (byte : ℕ) (step : Step) → is_settled place ≡ false → is_data place ≡ false → taken < terms.encoded → read terms.name (length value) place byte ≡ step → after_byte terms (reading_at place taken left value held) byte ≡ settled terms.encoded (turned terms.encoded (reading_at place (taken + 1) left value held) step byte)
unfolding byte_read
byte_goes terms place taken left value held byte step open' other below is =
    let reads : is_closed terms.encoded place taken ≡ false = rw (open', lt-ltb taken terms.encoded below) refl in
    after_other terms (reading_at place taken left value held) byte reads other
    ∙ ap (λ (s : Step). settled terms.encoded (turned terms.encoded (reading_at place (taken + 1) left value held) s byte)) is

pub moves : (terms : Terms) (place next : Place) (taken left : ℕ) (value held : List ℕ) (byte : ℕ) → is_settled place ≡ false → is_data place ≡ false → taken + 1 < terms.encoded → read terms.name (length value) place byte ≡ Moves next → after_byte terms (reading_at place taken left value held) byte ≡ reading_at next (taken + 1) left value held
unfolding turned
moves terms place next taken left value held byte open' other below is =
    byte_goes terms place taken left value held byte (Moves next) open' other (omega (arith, below)) is
    ∙ settled_going terms (reading_at next (taken + 1) left value held) below

-- the end of the line of a size
pub opens : (terms : Terms) (size taken left : ℕ) (value held : List ℕ) → size ≤ left → taken + 1 < terms.encoded → after_byte terms (reading_at (SizeEnd size) taken left value held) 10 ≡ reading_at (place_behind size) (taken + 1) (left - size) value held
unfolding turned opened read
opens terms size taken left value held fits below =
    let shut : nat_lt left size ≡ false = grind (arith, fits) in
    let first : opened (reading_at (SizeEnd size) (taken + 1) left value held) size ≡ reading_at (place_behind size) (taken + 1) (left - size) value held = rw shut refl in
    byte_goes terms (SizeEnd size) taken left value held 10 (Opens size) refl refl (omega (arith, below)) refl
    ∙ ap (settled terms.encoded) first
    ∙ settled_going terms (reading_at (place_behind size) (taken + 1) (left - size) value held) below

-- the end of a body
pub ends : (terms : Terms) (taken : ℕ) (value held : List ℕ) → taken + 1 ≡ terms.encoded → after_byte terms (reading_at LastEnd taken 0 value held) 10 ≡ reading_at Over (taken + 1) 0 value held
unfolding turned finished read settled
ends terms taken value held whole =
    let past : nat_lt (taken + 1) terms.encoded ≡ false = grind (arith, whole) in
    let first : finished terms.encoded (reading_at LastEnd (taken + 1) 0 value held) ≡ reading_at Over (taken + 1) 0 value held = rw past refl in
    byte_goes terms LastEnd taken 0 value held 10 Ends refl refl (omega (arith, whole)) refl
    ∙ ap (settled terms.encoded) first

-- ---- digits

read_digit : (name : List ℕ) (worth count number byte : ℕ) → is_hex byte ≡ true → count < 8 → read name worth (Size (count, number)) byte ≡ Moves (Size (count + 1, number * 16 + digit_value byte))
unfolding read
read_digit name worth count number byte hex room =
    let apart : (byte == 13) ≡ false = ne_eqb _ _ (λ same. false≢true (sym (ap is_hex same) ∙ hex)) in
    let more : more_digits (count, number) byte ≡ Some (count + 1, number * 16 + digit_value byte) = rw (hex, lt-ltb count 8 room) refl in
    let step : read_size (count, number) byte ≡ to_digits (more_digits (count, number) byte) = rw apart refl in
    step ∙ ap to_digits more

pub read_return : (name : List ℕ) (worth count number : ℕ) → 0 < count → read name worth (Size (count, number)) 13 ≡ Moves (SizeEnd number)
unfolding read
read_return name worth count number some = rw (lt-ltb 0 count some) refl

pub run_digits : (terms : Terms) (text : List ℕ) (count number taken left : ℕ) (value held : List ℕ) → list_all is_hex text ≡ true → count + length text ≤ 8 → taken + length text < terms.encoded → run terms (reading_at (Size (count, number)) taken left value held) text ≡ reading_at (Size (count + length text, digits_value_after 16 number text)) (taken + length text) left value held
run_digits terms [] count number taken left value held all most below =
    let a : count ≡ count + 0 = omega arith in
    let b : taken ≡ taken + 0 = omega arith in
    ap (λ (n : ℕ). reading_at (Size (n, number)) taken left value held) a
    ∙ ap (λ (n : ℕ). reading_at (Size (count + 0, number)) n left value held) b
run_digits terms (byte ∷ text) count number taken left value held all most below =
    let both = and_parts (is_hex byte) (list_all is_hex text) all in
    let next = number * 16 + digit_value byte in
    let a : count + 1 + length text ≡ count + suc (length text) = omega arith in
    let b : taken + 1 + length text ≡ taken + suc (length text) = omega arith in
    ap (λ (r : Reading). run terms r text)
    (moves terms (Size (count, number)) (Size (count + 1, next)) taken left value held byte refl refl (omega (arith, below))
    (read_digit terms.name (length value) count number byte both.0 (omega (arith, most))))
    ∙ run_digits terms text (count + 1) next (taken + 1) left value held both.1 (omega (arith, most)) (omega (arith, below))
    ∙ ap (λ (n : ℕ). reading_at (Size (n, digits_value_after 16 next text)) (taken + 1 + length text) left value held) a
    ∙ ap (λ (n : ℕ). reading_at (Size (count + suc (length text), digits_value_after 16 next text)) n left value held) b

-- ---- data

pub run_chunk_data : (terms : Terms) (bytes : List ℕ) (more taken left : ℕ) (value held : List ℕ) → more ≡ length bytes → 0 < length bytes → taken + length bytes < terms.encoded → run terms (reading_at (Data more) taken left value held) bytes ≡ reading_at (Data 0) (taken + length bytes) left value (held ++ bytes)
unfolding data_read
run_chunk_data terms bytes more taken left value held all some below =
    let none : more - length bytes ≡ 0 = omega (arith, all) in
    run_data terms (reading_at (Data more) taken left value held) more bytes refl some (omega (arith, all)) (omega (arith, below))
    ∙ settled_going terms (reading_at (Data (more - length bytes)) (taken + length bytes) left value (held ++ bytes)) below
    ∙ ap (λ (n : ℕ). reading_at (Data n) (taken + length bytes) left value (held ++ bytes)) none

-- ---- the name of the trailer

read_same : (name : List ℕ) (worth matched byte : ℕ) → matched < length name → to_ascii_lowercase byte ≡ to_ascii_lowercase (slice_index name matched) → read name worth (Name matched) byte ≡ Moves (Name (matched + 1))
unfolding read
read_same name worth matched byte more same =
    let is : eq_ignore_ascii_case byte (slice_index name matched) ≡ true = eq-eqb _ _ same in
    rw (lt-ltb matched (length name) more, is) refl

pub read_colon : (name : List ℕ) (worth matched : ℕ) → matched ≡ length name → read name worth (Name matched) 58 ≡ Moves Value
unfolding read
read_colon name worth matched all =
    let shut : nat_lt matched (length name) ≡ false = grind (arith, all) in
    rw shut refl

first_same : (x y : ℕ) (xs ys : List ℕ) → x ∷ xs ≡ y ∷ ys → (x ≡ y) × (xs ≡ ys)
first_same x y xs ys same = (ap (λ (l : List ℕ). get_or l 0 0) same, ap (λ (l : List ℕ). drop 1 l) same)

pub run_name : (terms : Terms) (text front rest : List ℕ) (taken left : ℕ) (value held : List ℕ) → terms.name ≡ front ++ rest → map to_ascii_lowercase text ≡ map to_ascii_lowercase rest → taken + length text < terms.encoded → run terms (reading_at (Name (length front)) taken left value held) text ≡ reading_at (Name (length terms.name)) (taken + length text) left value held
run_name terms [] front [] taken left value held is same below =
    let a : length front ≡ length terms.name = ap length (sym (append-nil front) ∙ sym is) in
    let b : taken ≡ taken + 0 = omega arith in
    ap (λ (n : ℕ). reading_at (Name n) taken left value held) a
    ∙ ap (λ (n : ℕ). reading_at (Name (length terms.name)) n left value held) b
run_name terms [] front (x ∷ rest) taken left value held is same below =
    let long : 0 ≡ suc (length (map to_ascii_lowercase rest)) = ap length same in
    absurd (omega (arith, long))
run_name terms (byte ∷ text) front [] taken left value held is same below =
    let long : suc (length (map to_ascii_lowercase text)) ≡ 0 = ap length same in
    absurd (omega (arith, long))
run_name terms (byte ∷ text) front (x ∷ rest) taken left value held is same below =
    let both = first_same _ _ _ _ same in
    let there : slice_index terms.name (length front) ≡ x = ap (λ (l : List ℕ). get_or l (length front) 0) is ∙ get_or-append_seam front x rest 0 in
    let long : length terms.name ≡ length front + suc (length rest) = ap length is ∙ length-append front (x ∷ rest) in
    let a : length front + 1 ≡ length (front ++ x ∷ []) = sym (length_push front x) in
    let b : taken + 1 + length text ≡ taken + suc (length text) = omega arith in
    ap (λ (r : Reading). run terms r text)
    (moves terms (Name (length front)) (Name (length front + 1)) taken left value held byte refl refl (omega (arith, below))
    (read_same terms.name (length value) (length front) byte (omega (arith, long)) (both.0 ∙ ap to_ascii_lowercase (sym there))))
    ∙ ap (λ (n : ℕ). run terms (reading_at (Name n) (taken + 1) left value held) text) a
    ∙ run_name terms text (front ++ x ∷ []) rest (taken + 1) left value held (is ∙ sym (append_assoc front (x ∷ []) rest)) both.1 (omega (arith, below))
    ∙ ap (λ (n : ℕ). reading_at (Name (length terms.name)) n left value held) b

-- ---- its value

spelled : (name : List ℕ) (worth byte : ℕ) → is_ascii_graphic byte ≡ true → worth < 64 → read name worth Value byte ≡ Spells
unfolding read
spelled name worth byte is room =
    let apart : (byte == 13) ≡ false = ne_eqb _ _ (λ same. false≢true (sym (ap is_ascii_graphic same) ∙ is)) in
    let other : (byte == 10) ≡ false = ne_eqb _ _ (λ same. false≢true (sym (ap is_ascii_graphic same) ∙ is)) in
    let both : (is_ascii_graphic byte && nat_lt worth 64) ≡ true = ap (λ b. b && nat_lt worth 64) is ∙ lt-ltb worth 64 room in
    rw (apart, other, both) refl

spells : (terms : Terms) (taken left : ℕ) (value held : List ℕ) (byte : ℕ) → is_ascii_graphic byte ≡ true → length value < 64 → taken + 1 < terms.encoded → after_byte terms (reading_at Value taken left value held) byte ≡ reading_at Value (taken + 1) left (value ++ byte ∷ []) held
unfolding turned
spells terms taken left value held byte is room below =
    byte_goes terms Value taken left value held byte Spells refl refl (omega (arith, below)) (spelled terms.name (length value) byte is room)
    ∙ settled_going terms (reading_at Value (taken + 1) left (value ++ byte ∷ []) held) below

pub run_value : (terms : Terms) (text : List ℕ) (taken left : ℕ) (value held : List ℕ) → list_all is_ascii_graphic text ≡ true → length value + length text ≤ 64 → taken + length text < terms.encoded → run terms (reading_at Value taken left value held) text ≡ reading_at Value (taken + length text) left (value ++ text) held
run_value terms [] taken left value held all most below =
    let b : taken ≡ taken + 0 = omega arith in
    ap (λ (n : ℕ). reading_at Value n left value held) b
    ∙ ap (λ (v : List ℕ). reading_at Value (taken + 0) left v held) (sym (append-nil value))
run_value terms (byte ∷ text) taken left value held all most below =
    let both = and_parts (is_ascii_graphic byte) (list_all is_ascii_graphic text) all in
    let longer = length_push value byte in
    let b : taken + 1 + length text ≡ taken + suc (length text) = omega arith in
    ap (λ (r : Reading). run terms r text) (spells terms taken left value held byte both.0 (omega (arith, most)) (omega (arith, below)))
    ∙ run_value terms text (taken + 1) left (value ++ byte ∷ []) held both.1 (omega (arith, most, longer)) (omega (arith, below))
    ∙ ap (λ (n : ℕ). reading_at Value n left ((value ++ byte ∷ []) ++ text) held) b
    ∙ ap (λ (v : List ℕ). reading_at Value (taken + suc (length text)) left v held) (append_assoc value (byte ∷ []) text)

value_return : (name : List ℕ) (worth : ℕ) → 0 < worth → read name worth Value 13 ≡ Moves ValueEnd
unfolding read
value_return name worth some = rw (lt-ltb 0 worth some) refl

value_feed : (name : List ℕ) (worth : ℕ) → 0 < worth → read name worth Value 10 ≡ Moves Gap
unfolding read
value_feed name worth some = rw (lt-ltb 0 worth some) refl

-- behind the value: what may stand there, and the CR
pub run_gap : (terms : Terms) (gap : List ℕ) (taken left : ℕ) (value held : List ℕ) → IsGap gap → 0 < length value → taken + length gap + 1 < terms.encoded → run terms (reading_at Value taken left value held) (gap ++ 13 ∷ []) ≡ reading_at ValueEnd (taken + length gap + 1) left value held
unfolding read
run_gap terms gap taken left value held parted some below =
    ⊎_elim
    (λ (none : gap ≡ []). subst P (sym none) (alone (below_as none)))
    (λ (one : gap ≡ 10 ∷ []). subst P (sym one) (behind (below_as one)))
    parted
  where
    P : List ℕ → Type 0
    P gap = run terms (reading_at Value taken left value held) (gap ++ 13 ∷ []) ≡ reading_at ValueEnd (taken + length gap + 1) left value held

    below_as : {other : List ℕ} → gap ≡ other → taken + length other + 1 < terms.encoded
    below_as same = subst (λ (g : List ℕ). taken + length g + 1 < terms.encoded) same below

    alone : taken + 0 + 1 < terms.encoded → P []
    alone room =
        let sum : taken + 1 ≡ taken + 0 + 1 = omega arith in
        moves terms Value ValueEnd taken left value held 13 refl refl (omega (arith, room)) (value_return terms.name (length value) some)
        ∙ ap (λ (n : ℕ). reading_at ValueEnd n left value held) sum

    behind : taken + 1 + 1 < terms.encoded → P (10 ∷ [])
    behind room =
        ap (λ (r : Reading). run terms r (13 ∷ []))
        (moves terms Value Gap taken left value held 10 refl refl (omega (arith, room)) (value_feed terms.name (length value) some))
        ∙ moves terms Gap ValueEnd (taken + 1) left value held 13 refl refl room refl
