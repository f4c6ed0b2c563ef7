-- What comes of several bytes: data of a chunk at once, and pieces one after the other.
use Rattle.std.proofs.Common.{◌≡◌, ℕ, suc, ◌+◌, ◌-◌, ◌<◌, ◌≤◌, ◌⊎◌, ⊎_elim, true, false, List, [], ◌∷◌, ◌++◌, length, take, drop, refl, sym, ap, ◌∙◌, arith, append_assoc, subst, lt-ltb}
use Rattle.std.proofs.lemmas.Bool.{cases_Bool, false≢true}
use Rattle.std.proofs.lemmas.List.{length-take-le, length-drop, take_all, take_rest, take-append-drop}
use Rattle.std.proofs.Math.Seq.{take-add}
use Rattle.s3_transfer_chunks.specs.Place.{read}
use Rattle.s3_transfer_chunks.specs.Reading.{Reading, is_data, is_settled, moved, data_read, turned, after_byte, run, count_taken}
use Rattle.s3_transfer_chunks.specs.declared.place.Place.TheVariants.{Data}

-- nothing more is read
abbrev pub Settled : Reading → Type 0
Settled r = is_settled r.place ≡ true

-- a byte is read
abbrev pub Reads : Reading → Type 0
Reads r = is_settled r.place ≡ false

-- pieces, one after the other
pub run-append : (r : Reading) (front rest : List ℕ) → run r (front ++ rest) ≡ run (run r front) rest
run-append r [] rest = refl
run-append r (byte ∷ front) rest = run-append (after_byte r byte) front rest

-- nothing comes of what is not read
pub after_settled : (r : Reading) (byte : ℕ) → Settled r → after_byte r byte ≡ r
unfolding after_byte
after_settled r byte h = rw h refl

pub run_settled : (r : Reading) (bytes : List ℕ) → Settled r → run r bytes ≡ r
run_settled r [] h = refl
run_settled r (byte ∷ bytes) h = rw (after_settled r byte h) (run_settled r bytes h)

-- a byte that is no data
pub after_other : (r : Reading) (byte : ℕ) → Reads r → is_data r.place ≡ false → after_byte r byte ≡ turned r (read r.place byte)
unfolding after_byte
after_other r byte reads other = rw (reads, other) refl

-- a byte of data
pub after_data : (r : Reading) (byte : ℕ) → Reads r → is_data r.place ≡ true → after_byte r byte ≡ data_read r (byte ∷ [])
unfolding after_byte
after_data r byte reads inside = rw (reads, inside) refl

-- ---- how many bytes are taken

pub count_settled : (r : Reading) (bytes : List ℕ) → Settled r → count_taken r bytes ≡ 0
count_settled r [] h = refl
count_settled r (byte ∷ bytes) h = rw h refl

pub count_reads : (r : Reading) (byte : ℕ) (bytes : List ℕ) → Reads r → count_taken r (byte ∷ bytes) ≡ count_taken (after_byte r byte) bytes + 1
count_reads r byte bytes h = rw h refl

-- where a piece is read to its end, the next one counts behind it; where it isn't, the next one counts nothing
pub count-append : (r : Reading) (front rest : List ℕ) → count_taken r (front ++ rest) ≡ count_taken r front + count_taken (run r front) rest
count-append r [] rest = omega arith
count-append r (byte ∷ front) rest =
    ⊎_elim
    (λ (h : Settled r).
    let none = count_settled r (byte ∷ front) h in
    let all = count_settled r (byte ∷ (front ++ rest)) h in
    let behind = ap (λ (q : Reading). count_taken q rest) (run_settled r (byte ∷ front) h) ∙ count_settled r rest h in
    omega (arith, none, all, behind))
    (λ (h : Reads r).
    let one = count_reads r byte front h in
    let other = count_reads r byte (front ++ rest) h in
    let rest' = count-append (after_byte r byte) front rest in
    omega (arith, one, other, rest'))
    (cases_Bool (is_settled r.place))

pub count_bound : (r : Reading) (bytes : List ℕ) → count_taken r bytes ≤ length bytes
count_bound r [] = omega arith
count_bound r (byte ∷ bytes) =
    ⊎_elim
    (λ (h : Settled r). let none = count_settled r (byte ∷ bytes) h in omega (arith, none))
    (λ (h : Reads r).
    let one = count_reads r byte bytes h in
    let rest = count_bound (after_byte r byte) bytes in
    omega (arith, one, rest))
    (cases_Bool (is_settled r.place))

-- what still reads has taken all
pub count_all : (r : Reading) (bytes : List ℕ) → Reads (run r bytes) → count_taken r bytes ≡ length bytes
count_all r [] reads = refl
count_all r (byte ∷ bytes) reads =
    ⊎_elim
    (λ (h : Settled r).
    absurd (false≢true (sym reads ∙ ap (λ (q : Reading). is_settled q.place) (run_settled r (byte ∷ bytes) h) ∙ h)))
    (λ (h : Reads r).
    let one = count_reads r byte bytes h in
    let rest = count_all (after_byte r byte) bytes reads in
    omega (arith, one, rest))
    (cases_Bool (is_settled r.place))

-- what was not taken is not read
pub run_front : (r : Reading) (bytes : List ℕ) → run r (take (count_taken r bytes) bytes) ≡ run r bytes
run_front r [] = refl
run_front r (byte ∷ bytes) =
    ⊎_elim
    (λ (h : Settled r). run_settled r (take (count_taken r (byte ∷ bytes)) (byte ∷ bytes)) h ∙ sym (run_settled r (byte ∷ bytes) h))
    (λ (h : Reads r).
    let one : count_taken r (byte ∷ bytes) ≡ suc (count_taken (after_byte r byte) bytes) = omega (arith, count_reads r byte bytes h) in
    ap (λ n. run r (take n (byte ∷ bytes))) one ∙ run_front (after_byte r byte) bytes)
    (cases_Bool (is_settled r.place))

pub count_front : (r : Reading) (bytes : List ℕ) → count_taken r (take (count_taken r bytes) bytes) ≡ count_taken r bytes
count_front r [] = refl
count_front r (byte ∷ bytes) =
    ⊎_elim
    (λ (h : Settled r). count_settled r (take (count_taken r (byte ∷ bytes)) (byte ∷ bytes)) h ∙ sym (count_settled r (byte ∷ bytes) h))
    (λ (h : Reads r).
    let next = after_byte r byte in
    let one : count_taken r (byte ∷ bytes) ≡ suc (count_taken next bytes) = omega (arith, count_reads r byte bytes h) in
    ap (λ n. count_taken r (take n (byte ∷ bytes))) one
    ∙ count_reads r byte (take (count_taken next bytes) bytes) h
    ∙ ap (λ n. n + 1) (count_front next bytes)
    ∙ sym (count_reads r byte bytes h))
    (cases_Bool (is_settled r.place))

-- ---- data of a chunk

-- so many bytes of the data are to come
abbrev in_data : Reading → ℕ → Reading
in_data r left = moved r (Data left)

-- one of them has come
abbrev gone : Reading → ℕ → Reading
gone r byte = record r { held = r.held ++ byte ∷ [] }

data_more : (r : Reading) (left byte : ℕ) (bytes : List ℕ) → data_read (in_data (gone r byte) (left - 1)) bytes ≡ data_read (in_data r left) (byte ∷ bytes)
data_more r left byte bytes =
    let rest : left - 1 - length bytes ≡ left - suc (length bytes) = omega arith in
    rw (append_assoc r.held (byte ∷ []) bytes, rest) refl

run_data_at : (r : Reading) (left byte : ℕ) (bytes : List ℕ) → suc (length bytes) ≤ left → run (in_data r left) (byte ∷ bytes) ≡ data_read (in_data r left) (byte ∷ bytes)
run_data_at r left byte [] within = after_data (in_data r left) byte refl (lt-ltb 0 left (omega (arith, within)))
run_data_at r left byte (next ∷ bytes) within =
    ap (λ q. run q (next ∷ bytes)) (after_data (in_data r left) byte refl (lt-ltb 0 left (omega (arith, within))))
    ∙ run_data_at (gone r byte) (left - 1) next bytes (omega (arith, within))
    ∙ data_more r left byte (next ∷ bytes)

-- data of a chunk, as much as is to come or less
pub run_data : (r : Reading) (left : ℕ) (bytes : List ℕ) → r.place ≡ Data left → 0 < length bytes → length bytes ≤ left → run r bytes ≡ data_read r bytes
run_data r left [] is some within = absurd (omega (arith, some))
run_data r left (byte ∷ bytes) is some within =
    subst (λ (q : Reading). run q (byte ∷ bytes) ≡ data_read q (byte ∷ bytes)) (ap (moved r) (sym is))
    (run_data_at r left byte bytes within)

-- the same of a front of what is to come
pub front_of_data : (r : Reading) (left n : ℕ) (bytes : List ℕ) → r.place ≡ Data left → 0 < n → n ≤ length bytes → n ≤ left → run r (take n bytes) ≡ data_read r (take n bytes)
front_of_data r left n bytes is some within to_come =
    let long : length (take n bytes) ≡ n = length-take-le n bytes within in
    run_data r left (take n bytes) is (omega (arith, long, some)) (omega (arith, long, to_come))

data_going : (r : Reading) (left : ℕ) (bytes : List ℕ) → r.place ≡ Data left → Reads (data_read r bytes)
data_going r left bytes is =
    subst (λ (q : Reading). Reads (data_read q bytes)) (ap (moved r) (sym is)) refl

pub count_data : (r : Reading) (left n : ℕ) (bytes : List ℕ) → r.place ≡ Data left → 0 < n → n ≤ length bytes → n ≤ left → count_taken r (take n bytes) ≡ n
count_data r left n bytes is some within to_come =
    count_all r (take n bytes)
    (ap (λ (q : Reading). is_settled q.place) (front_of_data r left n bytes is some within to_come) ∙ data_going r left (take n bytes) is)
    ∙ length-take-le n bytes within

-- the first byte of some
pub first_byte : (r : Reading) (bytes : List ℕ) (byte : ℕ) → Reads r → is_data r.place ≡ false → take 1 bytes ≡ byte ∷ [] → run r (take 1 bytes) ≡ turned r (read r.place byte)
first_byte r bytes byte reads other is = ap (run r) is ∙ after_other r byte reads other

pub count_first : (r : Reading) (bytes : List ℕ) (byte : ℕ) → Reads r → take 1 bytes ≡ byte ∷ [] → count_taken r (take 1 bytes) ≡ 1
count_first r bytes byte reads is = ap (count_taken r) is ∙ count_reads r byte [] reads

-- ---- a front, and a front of what is behind it

pub run_more : (r : Reading) (bytes : List ℕ) (n m : ℕ) → run (run r (take n bytes)) (take m (drop n bytes)) ≡ run r (take (n + m) bytes)
run_more r bytes n m = sym (ap (run r) (take-add n m bytes) ∙ run-append r (take n bytes) (take m (drop n bytes)))

-- the same, as a slice's rest shows it
pub run_rest : (r : Reading) (bytes : List ℕ) (n m : ℕ) → run (run r (take n bytes)) (take m (take (length bytes - n) (drop n bytes))) ≡ run r (take (n + m) bytes)
run_rest r bytes n m = ap (λ x. run (run r (take n bytes)) (take m x)) (take_rest bytes n) ∙ run_more r bytes n m

pub count_rest : (r q : Reading) (bytes : List ℕ) (n m : ℕ) → count_taken r (take n bytes) ≡ n → q ≡ run r (take n bytes) → count_taken q (take m (take (length bytes - n) (drop n bytes))) ≡ m → count_taken r (take (n + m) bytes) ≡ n + m
count_rest r q bytes n m front is rest =
    let there : count_taken (run r (take n bytes)) (take m (drop n bytes)) ≡ m =
    ap (λ (x : Reading). count_taken x (take m (drop n bytes))) (sym is) ∙ ap (λ x. count_taken q (take m x)) (sym (take_rest bytes n)) ∙ rest in
    let sum = count-append r (take n bytes) (take m (drop n bytes)) in
    ap (count_taken r) (take-add n m bytes) ∙ omega (arith, front, there, sum)

pub fits_rest : (bytes : List ℕ) (n m : ℕ) → n ≤ length bytes → m ≤ length (take (length bytes - n) (drop n bytes)) → n + m ≤ length bytes
fits_rest bytes n m within more =
    let rest : length (take (length bytes - n) (drop n bytes)) ≡ length bytes - n = ap length (take_rest bytes n) ∙ length-drop n bytes in
    omega (arith, within, more, rest)

-- what was taken of a piece is all of it that counts
pub whole_piece : (r : Reading) (piece : List ℕ) (n : ℕ) → (n ≡ length piece) ⊎ Settled (run r (take n piece)) → run r (take n piece) ≡ run r piece
whole_piece r piece n reached =
    ⊎_elim
    (λ (all : n ≡ length piece). ap (run r) (ap (λ k. take k piece) all ∙ take_all (length piece) piece (omega arith)))
    (λ (h : Settled (run r (take n piece))).
    sym
    (ap (run r) (sym (take-append-drop n piece))
    ∙ run-append r (take n piece) (drop n piece)
    ∙ run_settled (run r (take n piece)) (drop n piece) h))
    reached

pub whole_count : (r : Reading) (piece : List ℕ) (n : ℕ) → (n ≡ length piece) ⊎ Settled (run r (take n piece)) → count_taken r (take n piece) ≡ count_taken r piece
whole_count r piece n reached =
    ⊎_elim
    (λ (all : n ≡ length piece). ap (count_taken r) (ap (λ k. take k piece) all ∙ take_all (length piece) piece (omega arith)))
    (λ (h : Settled (run r (take n piece))).
    let sum = count-append r (take n piece) (drop n piece) in
    let none = count_settled (run r (take n piece)) (drop n piece) h in
    let same = ap (count_taken r) (take-append-drop n piece) in
    omega (arith, sum, none, same))
    reached
