-- What a reading counts.
use Rattle.std.proofs.Common.{◌≡◌, ℕ, suc, ◌+◌, ◌-◌, ◌<◌, ◌≤◌, ⊎_elim, Bool, true, false, not, ◌&&◌, ◌==◌, nat_lt, List, [], ◌∷◌, length, take, min, refl, sym, ap, ◌∙◌, arith, eqb, eq-eqb, ltb-false, lt-ltb, Some, None, Option, if◌then◌else◌}
use Rattle.std.proofs.lemmas.Bool.{false≢true, cases_Bool, cases_lt}
use Rattle.std.proofs.lemmas.Option.{none-some}
use Rattle.std.specs.Char.{eq_ignore_ascii_case, is_ascii_graphic}
use Rattle.std.specs.Prelude.{slice_index}
use Rattle.s3_unsigned_chunks.specs.Place.{read, to_digits, more_digits}
use Rattle.s3_unsigned_chunks.specs.Reading.{Terms, Reading, code_at, is_settled, is_closed, is_data, opened, place_behind, finished, turned, settled, counted, byte_read, data_read, data_left, after_byte, run, started, refused, moved}
use Rattle.s3_unsigned_chunks.specs.declared.place.Fault.{Fault}
use Rattle.s3_unsigned_chunks.specs.declared.place.Fault.TheVariants.{Incomplete}
use Rattle.s3_unsigned_chunks.specs.declared.place.Place.{Place}
use Rattle.s3_unsigned_chunks.specs.declared.place.Place.TheVariants.{Size, SizeEnd, Data, DataEnd, Name, Value, Gap, ValueEnd, Last, LastEnd, Over, Refused}
use Rattle.s3_unsigned_chunks.specs.declared.place.Step.{Step}
use Rattle.s3_unsigned_chunks.specs.declared.place.Step.TheVariants.{Misspelled, Moves, Opens, Spells, Ends}
use Rattle.s3_unsigned_chunks.proofs.RunLemmas.{Closed, Reads, run_closed, after_closed, after_data, after_other}

-- the body is over
abbrev pub is_over : Place → Bool
is_over Over = true
is_over (Size digits) = false
is_over (SizeEnd size) = false
is_over (Data left) = false
is_over DataEnd = false
is_over (Name matched) = false
is_over Value = false
is_over Gap = false
is_over ValueEnd = false
is_over Last = false
is_over LastEnd = false
is_over (Refused fault) = false

over_settled : (place : Place) → is_over place ≡ true → is_settled place ≡ true
over_settled Over is = refl
over_settled (Size digits) is = absurd (false≢true is)
over_settled (SizeEnd size) is = absurd (false≢true is)
over_settled (Data left) is = absurd (false≢true is)
over_settled DataEnd is = absurd (false≢true is)
over_settled (Name matched) is = absurd (false≢true is)
over_settled Value is = absurd (false≢true is)
over_settled Gap is = absurd (false≢true is)
over_settled ValueEnd is = absurd (false≢true is)
over_settled Last is = absurd (false≢true is)
over_settled LastEnd is = absurd (false≢true is)
over_settled (Refused fault) is = absurd (false≢true is)

pub open_over : (place : Place) → is_settled place ≡ false → is_over place ≡ true → ⊥
open_over place open' is = false≢true (sym open' ∙ over_settled place is)

-- what is settled and not refused is over
pub over_from : (place : Place) → is_settled place ≡ true → code_at place ≡ None → place ≡ Over
over_from Over is none = refl
over_from (Size digits) is none = absurd (false≢true is)
over_from (SizeEnd size) is none = absurd (false≢true is)
over_from (Data left) is none = absurd (false≢true is)
over_from DataEnd is none = absurd (false≢true is)
over_from (Name matched) is none = absurd (false≢true is)
over_from Value is none = absurd (false≢true is)
over_from Gap is none = absurd (false≢true is)
over_from ValueEnd is none = absurd (false≢true is)
over_from Last is none = absurd (false≢true is)
over_from LastEnd is none = absurd (false≢true is)
over_from (Refused fault) is none = absurd (none-some _ (sym none))

-- no more was taken than Content-Length; what goes on lacks bytes of it, and what is over has all
pub record Kept (encoded : ℕ) (r : Reading) : Type 0 where
  pub within : r.taken ≤ encoded
  pub going : is_settled r.place ≡ false → r.taken < encoded
  pub over : is_over r.place ≡ true → r.taken ≡ encoded

-- what is read no more is settled
pub closed_settled : (terms : Terms) (r : Reading) → Kept terms.encoded r → Closed terms r → is_settled r.place ≡ true
closed_settled terms r kept closed =
    ⊎_elim
    (λ (is : is_settled r.place ≡ true). is)
    (λ (open' : is_settled r.place ≡ false).
    let reads : is_closed terms.encoded r.place r.taken ≡ false = rw (open', lt-ltb r.taken terms.encoded (kept.going open')) refl in
    absurd (false≢true (sym reads ∙ closed)))
    (cases_Bool (is_settled r.place))

pub settled_closed : (terms : Terms) (r : Reading) → is_settled r.place ≡ true → Closed terms r
settled_closed terms r is = rw is refl

-- what goes on is read
pub going_reads : (terms : Terms) (r : Reading) → Kept terms.encoded r → is_settled r.place ≡ false → Reads terms r
going_reads terms r kept open' = rw (open', lt-ltb r.taken terms.encoded (kept.going open')) refl

-- what is read lacks bytes, and is not settled
pub reads_open : (terms : Terms) (r : Reading) → Reads terms r → is_settled r.place ≡ false
reads_open terms r reads =
    ⊎_elim
    (λ (is : is_settled r.place ≡ true). absurd (false≢true (sym reads ∙ settled_closed terms r is)))
    (λ (open' : is_settled r.place ≡ false). open')
    (cases_Bool (is_settled r.place))

pub reads_below : (terms : Terms) (r : Reading) → Reads terms r → r.taken < terms.encoded
reads_below terms r reads =
    ⊎_elim
    (λ (below : r.taken < terms.encoded). below)
    (λ (past : terms.encoded ≤ r.taken).
    let shut : nat_lt r.taken terms.encoded ≡ false = grind (arith, past) in
    let closed : is_closed terms.encoded r.place r.taken ≡ true = rw (reads_open terms r reads, shut) refl in
    absurd (false≢true (sym reads ∙ closed)))
    (cases_lt r.taken terms.encoded)

-- ---- the end of Content-Length

apart : (s t : Bool) → false ≡ (not s && t) → s ≡ false → t ≡ false
apart false t is no' = sym is
apart true t is no' = absurd (false≢true (sym no'))

kept_if : (test : Bool) (encoded : ℕ) (r : Reading) → r.taken ≤ encoded → (is_over r.place ≡ true → r.taken ≡ encoded) → test ≡ (not (is_settled r.place) && eqb r.taken encoded) → Kept encoded (if test then refused r Incomplete else r)
kept_if true encoded r within over is =
    record { within = within; going = λ no'. absurd (false≢true (sym no')); over = λ no'. absurd (false≢true no') }
kept_if false encoded r within over is =
    record {
      within = within;
      going = λ open'.
          ⊎_elim
          (λ (below : r.taken < encoded). below)
          (λ (past : encoded ≤ r.taken).
          let same : eqb r.taken encoded ≡ true = eq-eqb r.taken encoded (omega (arith, past, within)) in
          absurd (false≢true (sym (apart (is_settled r.place) (eqb r.taken encoded) is open') ∙ same)))
          (cases_lt r.taken encoded);
      over = over;
    }

pub kept_settled : (encoded : ℕ) (r : Reading) → r.taken ≤ encoded → (is_over r.place ≡ true → r.taken ≡ encoded) → Kept encoded (settled encoded r)
unfolding settled
kept_settled encoded r within over = kept_if (not (is_settled r.place) && eqb r.taken encoded) encoded r within over refl

-- one of two readings that count the same
either : (test : Bool) (a b : Reading) (count : ℕ) → a.taken ≡ count → b.taken ≡ count → (if test then a else b).taken ≡ count
either true a b count x y = x
either false a b count x y = y

pub taken_settled : (encoded : ℕ) (r : Reading) → (settled encoded r).taken ≡ r.taken
unfolding settled
taken_settled encoded r = either (not (is_settled r.place) && eqb r.taken encoded) _ _ r.taken refl refl

-- ---- one byte

-- it leads to no end by itself
abbrev Plain : Step → Type 0
Plain (Moves place) = is_settled place ≡ false
Plain Misspelled = Unit {0}
Plain (Opens size) = Unit {0}
Plain Spells = Unit {0}
Plain Ends = Unit {0}

plain_if : (test : Bool) (a b : Step) → Plain a → Plain b → Plain (if test then a else b)
plain_if true a b x y = x
plain_if false a b x y = y

plain_digits : (digits : Option (ℕ × ℕ)) → Plain (to_digits digits)
plain_digits None = tt
plain_digits (Some digits) = refl

plain_read : (name : List ℕ) (count : ℕ) (place : Place) (byte : ℕ) → Plain (read name count place byte)
unfolding read
plain_read name count (Size digits) byte = plain_if (byte == 13 && nat_lt 0 digits.0) _ _ refl (plain_digits (more_digits digits byte))
plain_read name count (SizeEnd size) byte = plain_if (byte == 10) _ _ tt tt
plain_read name count (Data left) byte = plain_if (byte == 13) _ _ refl tt
plain_read name count DataEnd byte = plain_if (byte == 10) _ _ refl tt
plain_read name count (Name matched) byte =
    plain_if (nat_lt matched (length name)) _ _
    (plain_if (eq_ignore_ascii_case byte (slice_index name matched)) _ _ refl tt)
    (plain_if (byte == 58) _ _ refl tt)
plain_read name count Value byte =
    plain_if (byte == 13 && nat_lt 0 count) _ _ refl
    (plain_if (byte == 10 && nat_lt 0 count) _ _ refl (plain_if (is_ascii_graphic byte && nat_lt count 64) _ _ tt tt))
plain_read name count Gap byte = plain_if (byte == 13) _ _ refl tt
plain_read name count ValueEnd byte = plain_if (byte == 10) _ _ refl tt
plain_read name count Last byte = plain_if (byte == 13) _ _ refl tt
plain_read name count LastEnd byte = plain_if (byte == 10) _ _ tt tt
plain_read name count Over byte = tt
plain_read name count (Refused fault) byte = tt

taken_opened : (r : Reading) (size : ℕ) → (opened r size).taken ≡ r.taken
unfolding opened
taken_opened r size = either (nat_lt r.left size) _ _ r.taken refl refl

taken_finished : (encoded : ℕ) (r : Reading) → (finished encoded r).taken ≡ r.taken
unfolding finished
taken_finished encoded r =
    either (nat_lt 0 r.left) _ _ r.taken refl (either (nat_lt r.taken encoded) _ _ r.taken refl refl)

taken_turned : (encoded : ℕ) (r : Reading) (step : Step) (byte : ℕ) → (turned encoded r step byte).taken ≡ r.taken
unfolding turned
taken_turned encoded r Misspelled byte = refl
taken_turned encoded r (Moves place) byte = refl
taken_turned encoded r (Opens size) byte = taken_opened r size
taken_turned encoded r Spells byte = refl
taken_turned encoded r Ends byte = taken_finished encoded r

not_behind : (test : Bool) (size : ℕ) → is_over (if test then Name 0 else Data size) ≡ true → ⊥
not_behind true size is = false≢true is
not_behind false size is = false≢true is

not_opened : (test : Bool) (r : Reading) (size : ℕ) (fault : Fault) → is_over (if test then refused r fault else record r { left = r.left - size; place = place_behind size }).place ≡ true → ⊥
not_opened true r size fault is = false≢true is
not_opened false r size fault is = not_behind (size == 0) size is

over_if : (short below : Bool) (encoded : ℕ) (r : Reading) (one other : Fault) → r.taken ≤ encoded → below ≡ nat_lt r.taken encoded → is_over (if short then refused r one else if below then refused r other else moved r Over).place ≡ true → r.taken ≡ encoded
over_if true below encoded r one other within same is = absurd (false≢true is)
over_if false true encoded r one other within same is = absurd (false≢true is)
over_if false false encoded r one other within same is =
    let past : encoded ≤ r.taken = ltb-false r.taken encoded (sym same) in
    omega (arith, past, within)

over_turned : (encoded : ℕ) (r : Reading) (step : Step) (byte : ℕ) → Plain step → is_settled r.place ≡ false → r.taken ≤ encoded → is_over (turned encoded r step byte).place ≡ true → r.taken ≡ encoded
unfolding turned opened finished
over_turned encoded r Misspelled byte plain open' within is = absurd (false≢true is)
over_turned encoded r (Moves place) byte plain open' within is = absurd (open_over place plain is)
over_turned encoded r (Opens size) byte plain open' within is = absurd (not_opened (nat_lt r.left size) r size _ is)
over_turned encoded r Spells byte plain open' within is = absurd (open_over r.place open' is)
over_turned encoded r Ends byte plain open' within is =
    over_if (nat_lt 0 r.left) (nat_lt r.taken encoded) encoded r _ _ within refl is

taken_byte : (terms : Terms) (r : Reading) (byte : ℕ) → (byte_read terms.name terms.encoded r byte).taken ≡ r.taken + 1
unfolding byte_read
taken_byte terms r byte = taken_settled terms.encoded _ ∙ taken_turned terms.encoded (counted r 1) _ byte

taken_data : (terms : Terms) (r : Reading) (bytes : List ℕ) → (data_read terms.encoded r bytes).taken ≡ r.taken + length bytes
unfolding data_read
taken_data terms r bytes = taken_settled terms.encoded _

kept_byte : (terms : Terms) (r : Reading) (byte : ℕ) → Reads terms r → Kept terms.encoded (byte_read terms.name terms.encoded r byte)
unfolding byte_read
kept_byte terms r byte reads =
    let step = read terms.name (length r.value) r.place byte in
    let same : (turned terms.encoded (counted r 1) step byte).taken ≡ r.taken + 1 = taken_turned terms.encoded (counted r 1) step byte in
    let below = reads_below terms r reads in
    kept_settled terms.encoded (turned terms.encoded (counted r 1) step byte)
    (omega (arith, same, below))
    (λ is.
    same
    ∙ over_turned terms.encoded (counted r 1) step byte (plain_read terms.name (length r.value) r.place byte) (reads_open terms r reads) (omega (arith, below)) is)

data_over : (place : Place) (count : ℕ) → is_settled place ≡ false → is_over (data_left place count) ≡ true → ⊥
data_over Over count open' is = false≢true (sym open')
data_over (Size digits) count open' is = false≢true is
data_over (SizeEnd size) count open' is = false≢true is
data_over (Data left) count open' is = false≢true is
data_over DataEnd count open' is = false≢true is
data_over (Name matched) count open' is = false≢true is
data_over Value count open' is = false≢true is
data_over Gap count open' is = false≢true is
data_over ValueEnd count open' is = false≢true is
data_over Last count open' is = false≢true is
data_over LastEnd count open' is = false≢true is
data_over (Refused fault) count open' is = false≢true is

kept_data : (terms : Terms) (r : Reading) (byte : ℕ) → Reads terms r → Kept terms.encoded (data_read terms.encoded r (byte ∷ []))
unfolding data_read
kept_data terms r byte reads =
    let below = reads_below terms r reads in
    kept_settled terms.encoded _ (omega (arith, below)) (λ is. absurd (data_over r.place 1 (reads_open terms r reads) is))

after_as : (terms : Terms) (r : Reading) (byte : ℕ) (shut inside : Bool) → Kept terms.encoded r → is_closed terms.encoded r.place r.taken ≡ shut → is_data r.place ≡ inside → Kept terms.encoded (after_byte terms r byte)
after_as terms r byte true inside kept h k = rw (after_closed terms r byte h) kept
after_as terms r byte false true kept h k = rw (after_data terms r byte h k) (kept_data terms r byte h)
after_as terms r byte false false kept h k = rw (after_other terms r byte h k) (kept_byte terms r byte h)

pub kept_after : (terms : Terms) (r : Reading) (byte : ℕ) → Kept terms.encoded r → Kept terms.encoded (after_byte terms r byte)
kept_after terms r byte kept = after_as terms r byte (is_closed terms.encoded r.place r.taken) (is_data r.place) kept refl refl

taken_as : (terms : Terms) (r : Reading) (byte : ℕ) (inside : Bool) → Reads terms r → is_data r.place ≡ inside → (after_byte terms r byte).taken ≡ r.taken + 1
taken_as terms r byte true h k = ap (λ (q : Reading). q.taken) (after_data terms r byte h k) ∙ taken_data terms r (byte ∷ [])
taken_as terms r byte false h k = ap (λ (q : Reading). q.taken) (after_other terms r byte h k) ∙ taken_byte terms r byte

pub taken_after : (terms : Terms) (r : Reading) (byte : ℕ) → Reads terms r → (after_byte terms r byte).taken ≡ r.taken + 1
taken_after terms r byte reads = taken_as terms r byte (is_data r.place) reads refl

-- ---- several bytes

pub kept_run : (terms : Terms) (r : Reading) (bytes : List ℕ) → Kept terms.encoded r → Kept terms.encoded (run terms r bytes)
kept_run terms r [] kept = kept
kept_run terms r (byte ∷ bytes) kept = kept_run terms (after_byte terms r byte) bytes (kept_after terms r byte kept)

pub kept_started : (terms : Terms) → Kept terms.encoded (started terms)
kept_started terms = kept_settled terms.encoded _ (omega arith) (λ is. absurd (false≢true is))

pub kept_bytes : (terms : Terms) (bytes : List ℕ) → Kept terms.encoded (run terms (started terms) bytes)
kept_bytes terms bytes = kept_run terms (started terms) bytes (kept_started terms)

-- no more was taken than has come
pub run_bounds : (terms : Terms) (r : Reading) (bytes : List ℕ) → (r.taken ≤ (run terms r bytes).taken) × ((run terms r bytes).taken ≤ r.taken + length bytes)
run_bounds terms r [] = (omega arith, omega arith)
run_bounds terms r (byte ∷ bytes) =
    ⊎_elim
    (λ (h : is_closed terms.encoded r.place r.taken ≡ true).
    let same : (run terms r (byte ∷ bytes)).taken ≡ r.taken = ap (λ (q : Reading). q.taken) (run_closed terms r (byte ∷ bytes) h) in
    (omega (arith, same), omega (arith, same)))
    (λ (h : is_closed terms.encoded r.place r.taken ≡ false).
    let first = taken_after terms r byte h in
    let rest = run_bounds terms (after_byte terms r byte) bytes in
    (omega (arith, first, rest.0), omega (arith, first, rest.1)))
    (cases_Bool (is_closed terms.encoded r.place r.taken))

-- what refuses nothing takes all up to Content-Length
pub run_min : (terms : Terms) (r : Reading) (bytes : List ℕ) → Kept terms.encoded r → code_at (run terms r bytes).place ≡ None → (run terms r bytes).taken ≡ min terms.encoded (r.taken + length bytes)
run_min terms r [] kept none = omega (arith, kept.within)
run_min terms r (byte ∷ bytes) kept none =
    ⊎_elim
    (λ (h : is_closed terms.encoded r.place r.taken ≡ true).
    let same = run_closed terms r (byte ∷ bytes) h in
    let over : r.place ≡ Over = over_from r.place (closed_settled terms r kept h) (ap (λ (q : Reading). code_at q.place) (sym same) ∙ none) in
    let all : r.taken ≡ terms.encoded = kept.over (ap is_over over) in
    let taken : (run terms r (byte ∷ bytes)).taken ≡ r.taken = ap (λ (q : Reading). q.taken) same in
    omega (arith, taken, all))
    (λ (h : is_closed terms.encoded r.place r.taken ≡ false).
    let first = taken_after terms r byte h in
    let rest = run_min terms (after_byte terms r byte) bytes (kept_after terms r byte kept) none in
    omega (arith, first, rest))
    (cases_Bool (is_closed terms.encoded r.place r.taken))

-- what was not taken is not read
pub run_front : (terms : Terms) (r : Reading) (bytes : List ℕ) → run terms r (take ((run terms r bytes).taken - r.taken) bytes) ≡ run terms r bytes
run_front terms r [] =
    let none : r.taken - r.taken ≡ 0 = omega arith in
    ap (λ n. run terms r (take n [])) none
run_front terms r (byte ∷ bytes) =
    ⊎_elim
    (λ (h : is_closed terms.encoded r.place r.taken ≡ true).
    run_closed terms r (take ((run terms r (byte ∷ bytes)).taken - r.taken) (byte ∷ bytes)) h
    ∙ sym (run_closed terms r (byte ∷ bytes) h))
    (λ (h : is_closed terms.encoded r.place r.taken ≡ false).
    let next = after_byte terms r byte in
    let first = taken_after terms r byte h in
    let rest = run_bounds terms next bytes in
    let count : (run terms r (byte ∷ bytes)).taken - r.taken ≡ suc ((run terms next bytes).taken - next.taken) = omega (arith, first, rest.0) in
    ap (λ n. run terms r (take n (byte ∷ bytes))) count ∙ run_front terms next bytes)
    (cases_Bool (is_closed terms.encoded r.place r.taken))
