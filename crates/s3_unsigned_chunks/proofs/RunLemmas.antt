-- What comes of several bytes: data of a chunk at once, and pieces one after the other.
use Rattle.std.proofs.Common.{◌≡◌, ℕ, suc, ◌+◌, ◌-◌, ◌<◌, ◌≤◌, true, false, not, nat_lt, List, [], ◌∷◌, ◌++◌, length, take, drop, refl, sym, ap, ◌∙◌, arith, append_assoc, subst, eqb, ne_eqb, lt-ltb}
use Rattle.std.proofs.lemmas.List.{length-take-le, length-drop, take_rest}
use Rattle.std.proofs.Math.Seq.{take-add}
use Rattle.s3_unsigned_chunks.specs.Reading.{Terms, Reading, is_closed, is_data, moved, settled, data_read, byte_read, after_byte, run}
use Rattle.s3_unsigned_chunks.specs.declared.place.Place.TheVariants.{Data}

-- no byte is read any more
abbrev pub Closed : Terms → Reading → Type 0
Closed terms r = is_closed terms.encoded r.place r.taken ≡ true

-- a byte is read
abbrev pub Reads : Terms → Reading → Type 0
Reads terms r = is_closed terms.encoded r.place r.taken ≡ false

-- pieces, one after the other
pub run-append : (terms : Terms) (r : Reading) (front rest : List ℕ) → run terms r (front ++ rest) ≡ run terms (run terms r front) rest
run-append terms r [] rest = refl
run-append terms r (byte ∷ front) rest = run-append terms (after_byte terms r byte) front rest

-- nothing comes of what is not read
pub after_closed : (terms : Terms) (r : Reading) (byte : ℕ) → Closed terms r → after_byte terms r byte ≡ r
unfolding after_byte
after_closed terms r byte h = rw h refl

pub run_closed : (terms : Terms) (r : Reading) (bytes : List ℕ) → Closed terms r → run terms r bytes ≡ r
run_closed terms r [] h = refl
run_closed terms r (byte ∷ bytes) h = rw (after_closed terms r byte h) (run_closed terms r bytes h)

-- a byte that is no data
pub after_other : (terms : Terms) (r : Reading) (byte : ℕ) → Reads terms r → is_data r.place ≡ false → after_byte terms r byte ≡ byte_read terms.name terms.encoded r byte
unfolding after_byte
after_other terms r byte reads other = rw (reads, other) refl

-- a byte of data
pub after_data : (terms : Terms) (r : Reading) (byte : ℕ) → Reads terms r → is_data r.place ≡ true → after_byte terms r byte ≡ data_read terms.encoded r (byte ∷ [])
unfolding after_byte
after_data terms r byte reads inside = rw (reads, inside) refl

not_whole : (taken whole : ℕ) → taken < whole → not (nat_lt taken whole) ≡ false
not_whole taken whole h = ap not (lt-ltb taken whole h)

-- so many bytes of the data are to come
abbrev in_data : Reading → ℕ → Reading
in_data r left = moved r (Data left)

-- one of them has come
abbrev gone : Reading → ℕ → Reading
gone r byte = record r { taken = r.taken + 1; held = r.held ++ byte ∷ [] }

one_more : (terms : Terms) (r : Reading) (left byte : ℕ) → r.taken + 1 < terms.encoded → data_read terms.encoded (in_data r left) (byte ∷ []) ≡ in_data (gone r byte) (left - 1)
unfolding data_read settled
one_more terms r left byte below =
    let apart : eqb (r.taken + 1) terms.encoded ≡ false = ne_eqb _ _ (λ same. omega (arith, below, same)) in
    rw apart refl

data_more : (terms : Terms) (r : Reading) (left byte : ℕ) (bytes : List ℕ) → data_read terms.encoded (in_data (gone r byte) (left - 1)) bytes ≡ data_read terms.encoded (in_data r left) (byte ∷ bytes)
unfolding data_read settled
data_more terms r left byte bytes =
    let sum : r.taken + 1 + length bytes ≡ r.taken + suc (length bytes) = omega arith in
    let rest : left - 1 - length bytes ≡ left - suc (length bytes) = omega arith in
    rw (append_assoc r.held (byte ∷ []) bytes, sum, rest) refl

run_data_at : (terms : Terms) (r : Reading) (left byte : ℕ) (bytes : List ℕ) → suc (length bytes) ≤ left → r.taken + suc (length bytes) ≤ terms.encoded → run terms (in_data r left) (byte ∷ bytes) ≡ data_read terms.encoded (in_data r left) (byte ∷ bytes)
run_data_at terms r left byte [] within reads =
    after_data terms (in_data r left) byte
    (not_whole r.taken terms.encoded (omega (arith, reads)))
    (lt-ltb 0 left (omega (arith, within)))
run_data_at terms r left byte (next ∷ bytes) within reads =
    let first : after_byte terms (in_data r left) byte ≡ data_read terms.encoded (in_data r left) (byte ∷ []) =
    after_data terms (in_data r left) byte
    (not_whole r.taken terms.encoded (omega (arith, reads)))
    (lt-ltb 0 left (omega (arith, within))) in
    ap (λ q. run terms q (next ∷ bytes)) (first ∙ one_more terms r left byte (omega (arith, reads)))
    ∙ run_data_at terms (gone r byte) (left - 1) next bytes (omega (arith, within)) (omega (arith, reads))
    ∙ data_more terms r left byte (next ∷ bytes)

-- data of a chunk, as much as is to come or less
pub run_data : (terms : Terms) (r : Reading) (left : ℕ) (bytes : List ℕ) → r.place ≡ Data left → 0 < length bytes → length bytes ≤ left → r.taken + length bytes ≤ terms.encoded → run terms r bytes ≡ data_read terms.encoded r bytes
run_data terms r left [] is some within reads = absurd (omega (arith, some))
run_data terms r left (byte ∷ bytes) is some within reads =
    let whole : in_data r left ≡ r = ap (moved r) (sym is) in
    subst (λ (q : Reading). run terms q (byte ∷ bytes) ≡ data_read terms.encoded q (byte ∷ bytes)) whole
    (run_data_at terms r left byte bytes within reads)

-- the same of a front of what is to come
pub front_of_data : (terms : Terms) (r : Reading) (left n : ℕ) (bytes : List ℕ) → r.place ≡ Data left → 0 < n → n ≤ length bytes → n ≤ left → r.taken + n ≤ terms.encoded → run terms r (take n bytes) ≡ data_read terms.encoded r (take n bytes)
front_of_data terms r left n bytes is some within to_come reads =
    let long : length (take n bytes) ≡ n = length-take-le n bytes within in
    run_data terms r left (take n bytes) is (omega (arith, long, some)) (omega (arith, long, to_come)) (omega (arith, long, reads))

-- the first byte of some
pub first_byte : (terms : Terms) (r : Reading) (bytes : List ℕ) (byte : ℕ) → Reads terms r → is_data r.place ≡ false → take 1 bytes ≡ byte ∷ [] → run terms r (take 1 bytes) ≡ byte_read terms.name terms.encoded r byte
first_byte terms r bytes byte reads other is = ap (run terms r) is ∙ after_other terms r byte reads other

-- a front, and a front of what is behind it
pub run_more : (terms : Terms) (r : Reading) (bytes : List ℕ) (n m : ℕ) → run terms (run terms r (take n bytes)) (take m (drop n bytes)) ≡ run terms r (take (n + m) bytes)
run_more terms r bytes n m = sym (ap (run terms r) (take-add n m bytes) ∙ run-append terms r (take n bytes) (take m (drop n bytes)))

-- the same, as a slice's rest shows it
pub run_rest : (terms : Terms) (r : Reading) (bytes : List ℕ) (n m : ℕ) → run terms (run terms r (take n bytes)) (take m (take (length bytes - n) (drop n bytes))) ≡ run terms r (take (n + m) bytes)
run_rest terms r bytes n m = ap (λ x. run terms (run terms r (take n bytes)) (take m x)) (take_rest bytes n) ∙ run_more terms r bytes n m

pub fits_rest : (bytes : List ℕ) (n m : ℕ) → n ≤ length bytes → m ≤ length (take (length bytes - n) (drop n bytes)) → n + m ≤ length bytes
fits_rest bytes n m within more =
    let rest : length (take (length bytes - n) (drop n bytes)) ≡ length bytes - n = ap length (take_rest bytes n) ∙ length-drop n bytes in
    omega (arith, within, more, rest)
