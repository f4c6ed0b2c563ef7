-- What comes of several bytes: data of a chunk at once, and pieces one after the other.
use Rattle.std.proofs.Common.{◌≡◌, ℕ, suc, ◌+◌, ◌-◌, ◌<◌, ◌≤◌, Bool, true, false, not, nat_lt, List, [], ◌∷◌, ◌++◌, length, take, drop, refl, sym, ap, ◌∙◌, arith, append_assoc, subst, eqb, ne_eqb, lt-ltb}
use Rattle.std.proofs.lemmas.List.{append-nil, length-take-le, length-drop, take_rest}
use Rattle.std.proofs.Math.Seq.{take-add}
use Rattle.s3_aws_chunked.specs.Count.{Count, advanced}
use Rattle.s3_aws_chunked.specs.Decoder.{Progress, is_closed, is_data, counted, moved, settled, data_read, byte_read, stepped, run, Keeps}
use Rattle.s3_aws_chunked.specs.declared.place.Place.{Place}
use Rattle.s3_aws_chunked.specs.declared.phase.Phase.TheVariants.{Data}

-- pieces, one after the other
pub run-append : (p : Progress) (front rest : List ℕ) → run p (front ++ rest) ≡ run (run p front) rest
run-append p [] rest = refl
run-append p (byte ∷ front) rest = run-append (stepped p byte) front rest

-- nothing comes of what is not read
pub stepped_closed : (p : Progress) (byte : ℕ) → is_closed p.place ≡ true → stepped p byte ≡ p
unfolding stepped
stepped_closed p byte h = rw h refl

pub run_closed : (p : Progress) (bytes : List ℕ) → is_closed p.place ≡ true → run p bytes ≡ p
run_closed p [] h = refl
run_closed p (byte ∷ bytes) h = rw (stepped_closed p byte h) (run_closed p bytes h)

-- a byte that is no data
pub run_byte : (p : Progress) (byte : ℕ) → is_closed p.place ≡ false → is_data p.place.phase ≡ false → run p (byte ∷ []) ≡ byte_read p byte
unfolding stepped
run_byte p byte open' other = rw (open', other) refl

pub step_byte : (p : Progress) (byte : ℕ) → is_closed p.place ≡ false → is_data p.place.phase ≡ false → stepped p byte ≡ byte_read p byte
step_byte p byte open' other = run_byte p byte open' other

-- a byte of data
pub step_data : (p : Progress) (byte : ℕ) → is_closed p.place ≡ false → is_data p.place.phase ≡ true → stepped p byte ≡ data_read p (byte ∷ [])
unfolding stepped
step_data p byte open' data' = rw (open', data') refl

not_whole : (taken whole : ℕ) → taken < whole → not (nat_lt taken whole) ≡ false
not_whole taken whole h = ap not (lt-ltb taken whole h)

-- a place in data of which so many bytes are to come
abbrev in_data : Place → ℕ → Bool → List ℕ → List ℕ → Progress
in_data place left last current held = record { place = moved place (Data left last); current = current; held = held }

abbrev Fits : Place → ℕ → List ℕ → Type 0
Fits place left bytes = (length bytes ≤ left) × (place.span.taken + length bytes ≤ place.span.whole)

one_more : (place : Place) (left : ℕ) (last : Bool) (current held : List ℕ) (byte : ℕ) → place.span.taken + 1 < place.span.whole → data_read (in_data place left last current held) (byte ∷ []) ≡ in_data (counted place 1) (left - 1) last (current ++ byte ∷ []) (held ++ byte ∷ [])
unfolding data_read settled
one_more place left last current held byte below =
    let apart : eqb (place.span.taken + 1) place.span.whole ≡ false = ne_eqb _ _ (λ same. omega (arith, below, same)) in
    rw apart refl

data_more : (place : Place) (left : ℕ) (last : Bool) (current held : List ℕ) (byte : ℕ) (bytes : List ℕ) → data_read (in_data (counted place 1) (left - 1) last (current ++ byte ∷ []) (held ++ byte ∷ [])) bytes ≡ data_read (in_data place left last current held) (byte ∷ bytes)
unfolding data_read settled
data_more place left last current held byte bytes =
    let sum : place.span.taken + 1 + length bytes ≡ place.span.taken + suc (length bytes) = omega arith in
    let rest : left - 1 - length bytes ≡ left - suc (length bytes) = omega arith in
    rw (append_assoc current (byte ∷ []) bytes, append_assoc held (byte ∷ []) bytes, sum, rest) refl

run_data_at : (place : Place) (left : ℕ) (last : Bool) (current held : List ℕ) (byte : ℕ) (bytes : List ℕ) → Fits place left (byte ∷ bytes) → run (in_data place left last current held) (byte ∷ bytes) ≡ data_read (in_data place left last current held) (byte ∷ bytes)
run_data_at place left last current held byte [] fits =
    step_data (in_data place left last current held) byte
    (not_whole place.span.taken place.span.whole (omega (arith, fits.1)))
    (lt-ltb 0 left (omega (arith, fits.0)))
run_data_at place left last current held byte (next ∷ bytes) fits =
    let first : stepped (in_data place left last current held) byte ≡ data_read (in_data place left last current held) (byte ∷ []) =
    step_data (in_data place left last current held) byte
    (not_whole place.span.taken place.span.whole (omega (arith, fits.1)))
    (lt-ltb 0 left (omega (arith, fits.0))) in
    ap (λ q. run q (next ∷ bytes)) (first ∙ one_more place left last current held byte (omega (arith, fits.1)))
    ∙ run_data_at (counted place 1) (left - 1) last (current ++ byte ∷ []) (held ++ byte ∷ []) next bytes (omega (arith, fits.0), omega (arith, fits.1))
    ∙ data_more place left last current held byte (next ∷ bytes)

-- data of a chunk, as much as is to come or less
pub run_data : (p : Progress) (left : ℕ) (last : Bool) (bytes : List ℕ) → p.place.phase ≡ Data left last → 0 < length bytes → length bytes ≤ left → p.place.span.taken + length bytes ≤ p.place.span.whole → run p bytes ≡ data_read p bytes
run_data p left last [] is some within open' = absurd (omega (arith, some))
run_data p left last (byte ∷ bytes) is some within open' =
    let whole : in_data p.place left last p.current p.held ≡ p = ap (λ phase. record p { place = moved p.place phase }) (sym is) in
    subst (λ (q : Progress). run q (byte ∷ bytes) ≡ data_read q (byte ∷ bytes)) whole
    (run_data_at p.place left last p.current p.held byte bytes (within, open'))

-- the same of a reader's place, and of a front of what is to come
pub front_of_data : (place : Place) (p : Progress) (left n : ℕ) (last : Bool) (bytes : List ℕ) → place ≡ p.place → place.phase ≡ Data left last → 0 < n → n ≤ length bytes → n ≤ left → place.span.taken + n ≤ place.span.whole → run p (take n bytes) ≡ data_read p (take n bytes)
front_of_data place p left n last bytes there is some within to_come open' =
    let long : length (take n bytes) ≡ n = length-take-le n bytes within in
    let here : p.place.span.taken + n ≤ p.place.span.whole = subst (λ (q : Place). q.span.taken + n ≤ q.span.whole) there open' in
    run_data p left last (take n bytes) (ap (λ (q : Place). q.phase) (sym there) ∙ is)
    (omega (arith, long, some)) (omega (arith, long, to_come)) (omega (arith, long, here))

-- what a sink got of it
data_held : (p : Progress) (bytes : List ℕ) → (data_read p bytes).held ≡ p.held ++ bytes
unfolding data_read
data_held p bytes = refl

pub keeps_data : (old new : List ℕ) (p q : Progress) (bytes : List ℕ) → new ≡ old ++ bytes → q ≡ data_read p bytes → Keeps old new p q
keeps_data old new p q bytes gets is front had =
    gets ∙ ap (λ x. x ++ bytes) had ∙ append_assoc front p.held bytes
    ∙ ap (λ x. front ++ x) (sym (data_held p bytes)) ∙ ap (λ (x : Progress). front ++ x.held) (sym is)

-- a byte that is no data gives nothing
pub byte_held : (p : Progress) (byte : ℕ) → (byte_read p byte).held ≡ p.held
unfolding byte_read
byte_held p byte = refl

-- the first byte of some
pub first_byte : (place : Place) (p : Progress) (bytes : List ℕ) (byte : ℕ) → place ≡ p.place → is_closed place ≡ false → is_data place.phase ≡ false → take 1 bytes ≡ byte ∷ [] → run p (take 1 bytes) ≡ byte_read p byte
first_byte place p bytes byte there open' other is =
    ap (run p) is
    ∙ run_byte p byte (ap (λ (q : Place). is_closed q) (sym there) ∙ open') (ap (λ (q : Place). is_data q.phase) (sym there) ∙ other)

-- a front, and a front of what is behind it
pub run_more : (p : Progress) (bytes : List ℕ) (n m : ℕ) → run (run p (take n bytes)) (take m (drop n bytes)) ≡ run p (take (n + m) bytes)
run_more p bytes n m = sym (ap (run p) (take-add n m bytes) ∙ run-append p (take n bytes) (take m (drop n bytes)))

-- the same, as a slice's rest shows it
pub run_rest : (p : Progress) (bytes : List ℕ) (n m : ℕ) → run (run p (take n bytes)) (take m (take (length bytes - n) (drop n bytes))) ≡ run p (take (n + m) bytes)
run_rest p bytes n m = ap (λ x. run (run p (take n bytes)) (take m x)) (take_rest bytes n) ∙ run_more p bytes n m

pub fits_rest : (bytes : List ℕ) (n m : ℕ) → n ≤ length bytes → m ≤ length (take (length bytes - n) (drop n bytes)) → n + m ≤ length bytes
fits_rest bytes n m within more =
    let rest : length (take (length bytes - n) (drop n bytes)) ≡ length bytes - n = ap length (take_rest bytes n) ∙ length-drop n bytes in
    omega (arith, within, more, rest)

pub advanced_twice : (count : Count) (n m : ℕ) → advanced (advanced count n) m ≡ advanced count (n + m)
advanced_twice count n m =
    let sum : count.taken + n + m ≡ count.taken + (n + m) = omega arith in
    ap (λ (k : ℕ). record { taken = k; whole = count.whole }) sum

-- what was given before changes nothing of what is given
abbrev behind : List ℕ → Progress → Progress
behind front p = record p { held = front ++ p.held }

data_behind : (front : List ℕ) (p : Progress) (bytes : List ℕ) → data_read (behind front p) bytes ≡ behind front (data_read p bytes)
unfolding data_read
data_behind front p bytes = ap (λ (held : List ℕ). record (data_read p bytes) { held = held }) (append_assoc front p.held bytes)

byte_behind : (front : List ℕ) (p : Progress) (byte : ℕ) → byte_read (behind front p) byte ≡ behind front (byte_read p byte)
unfolding byte_read
byte_behind front p byte = refl

step_behind_as : (front : List ℕ) (p : Progress) (byte : ℕ) (shut inside : Bool) → is_closed p.place ≡ shut → is_data p.place.phase ≡ inside → stepped (behind front p) byte ≡ behind front (stepped p byte)
unfolding stepped
step_behind_as front p byte true inside h k = rw h refl
step_behind_as front p byte false true h k = rw (h, k) (data_behind front p (byte ∷ []))
step_behind_as front p byte false false h k = rw (h, k) (byte_behind front p byte)

step_behind : (front : List ℕ) (p : Progress) (byte : ℕ) → stepped (behind front p) byte ≡ behind front (stepped p byte)
step_behind front p byte = step_behind_as front p byte (is_closed p.place) (is_data p.place.phase) refl refl

run_behind : (front : List ℕ) (p : Progress) (bytes : List ℕ) → run (behind front p) bytes ≡ behind front (run p bytes)
run_behind front p [] = refl
run_behind front p (byte ∷ bytes) =
    ap (λ q. run q bytes) (step_behind front p byte) ∙ run_behind front (stepped p byte) bytes

-- nothing given yet
abbrev pub afresh : Progress → Progress
afresh p = record p { held = [] }

pub held_behind : (p : Progress) (bytes : List ℕ) → (run p bytes).held ≡ p.held ++ (run (afresh p) bytes).held
held_behind p bytes =
    let same : p ≡ behind p.held (afresh p) = ap (λ (held : List ℕ). record p { held = held }) (sym (append-nil p.held)) in
    ap (λ q. (run q bytes).held) same ∙ ap (λ (q : Progress). q.held) (run_behind p.held (afresh p) bytes)
