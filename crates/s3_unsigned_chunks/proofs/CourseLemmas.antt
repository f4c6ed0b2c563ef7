-- How a reader stands inside a body, and that what has come is then whole chunks and a part of what follows them.
use Rattle.std.proofs.Common.{◌≡◌, ℕ, ◌+◌, ◌-◌, ◌*◌, ◌<◌, ◌≤◌, inl, inr, Bool, true, false, not, ◌&&◌, ◌==◌, nat_le, nat_lt, List, [], ◌∷◌, ◌++◌, length, take, map, refl, sym, ap, ◌∙◌, subst, arith, append_assoc, eqb, eqb-true, le-leb, ltb-true, ltb-false, Some, None, if◌then◌else◌, get_or}
use Rattle.std.proofs.lemmas.Bool.{and_from, and_parts}
use Rattle.std.proofs.lemmas.Int.Digits.{digits_value_push}
use Rattle.std.proofs.lemmas.List.{append-nil, length_push, map-append, take_all, take_more}
use Rattle.std.proofs.lemmas.List.Folds.{list_all-append}
use Rattle.std.specs.Char.{digit_value, eq_ignore_ascii_case, is_ascii_graphic, to_ascii_lowercase}
use Rattle.std.specs.List.{list_all}
use Rattle.std.specs.Prelude.{slice_index}
use Rattle.std.specs.Str.Parse.{digits_value}
use Rattle.s3_text.specs.Characters.{colon, crlf}
use Rattle.s3_unsigned_chunks.specs.Body.{AreChunks, AreSameName, Chunk, IsChunk, IsGap, IsZero, chunk_text, chunks_text, data_of, is_size, is_value, size_of}
use Rattle.s3_unsigned_chunks.specs.Place.{is_hex, more_digits, read, read_name, read_size, read_value, to_digits}
use Rattle.s3_unsigned_chunks.specs.Reading.{Terms, Reading, is_data, is_settled, opened, place_behind, finished, turned, settled, refused}
use Rattle.s3_unsigned_chunks.specs.declared.place.Fault.TheVariants.{Incomplete}
use Rattle.s3_unsigned_chunks.specs.declared.place.Place.{Place}
use Rattle.s3_unsigned_chunks.specs.declared.place.Place.TheVariants.{Size, SizeEnd, Data, DataEnd, Name, Value, Gap, ValueEnd, Last, LastEnd, Over, Refused}
use Rattle.s3_unsigned_chunks.specs.declared.place.Step.{Step}
use Rattle.s3_unsigned_chunks.specs.declared.place.Step.TheVariants.{Misspelled, Moves, Opens, Spells, Ends}

-- one more chunk
pub text_push : (cs : List Chunk) (c : Chunk) → chunks_text cs ++ chunk_text c ≡ chunks_text (cs ++ c ∷ []) ++ []
text_push [] c = sym (append-nil (chunk_text c ++ []) ∙ append-nil (chunk_text c))
text_push (x ∷ cs) c =
    append_assoc (chunk_text x) (chunks_text cs) (chunk_text c)
    ∙ ap (λ t. chunk_text x ++ t) (text_push cs c)
    ∙ sym (append_assoc (chunk_text x) (chunks_text (cs ++ c ∷ [])) [])

pub data_push : (cs : List Chunk) (c : Chunk) → data_of (cs ++ c ∷ []) ≡ data_of cs ++ c.bytes
data_push [] c = append-nil c.bytes
data_push (x ∷ cs) c = ap (λ t. x.bytes ++ t) (data_push cs c) ∙ sym (append_assoc x.bytes (data_of cs) c.bytes)

pub chunks_push : (cs : List Chunk) (c : Chunk) → AreChunks cs → IsChunk c → AreChunks (cs ++ c ∷ [])
chunks_push [] c all is = (is, tt)
chunks_push (x ∷ cs) c all is = (all.0, chunks_push cs c all.1 is)

-- 1 to 8 digits are a size
pub size_form : (text : List ℕ) → 0 < length text → length text ≤ 8 → list_all is_hex text ≡ true → is_size text ≡ true
size_form text some most all =
    and_from (nat_le 1 (length text) && nat_le (length text) 8) (list_all is_hex text)
    (and_from (nat_le 1 (length text)) (nat_le (length text) 8) (le-leb 1 (length text) (omega (arith, some))) (le-leb (length text) 8 most))
    all

pub value_form : (text : List ℕ) → 0 < length text → length text ≤ 64 → list_all is_ascii_graphic text ≡ true → is_value text ≡ true
value_form text some most all =
    and_from (nat_le 1 (length text) && nat_le (length text) 64) (list_all is_ascii_graphic text)
    (and_from (nat_le 1 (length text)) (nat_le (length text) 64) (le-leb 1 (length text) (omega (arith, some))) (le-leb (length text) 64 most))
    all

all_push : (f : ℕ → Bool) (text : List ℕ) (byte : ℕ) → list_all f text ≡ true → f byte ≡ true → list_all f (text ++ byte ∷ []) ≡ true
all_push f text byte all is =
    list_all-append f text (byte ∷ []) ∙ and_from (list_all f text) (f byte && true) all (and_from (f byte) true is refl)

-- behind so many bytes, which are chunks and this behind them; of what is behind them, this is data
pub record Front (text : List ℕ) (chunks : List Chunk) (tail : List ℕ) (taken : ℕ) (held part : List ℕ) : Type 0 where
  pub each : AreChunks chunks
  pub written : text ≡ chunks_text chunks ++ tail
  pub count : taken ≡ length text
  pub given : held ≡ data_of chunks ++ part

push : (text : List ℕ) (chunks : List Chunk) (tail : List ℕ) (taken : ℕ) (held part : List ℕ) (byte : ℕ) (next : List ℕ) → Front text chunks tail taken held part → tail ++ byte ∷ [] ≡ next → Front (text ++ byte ∷ []) chunks next (taken + 1) held part
push text chunks tail taken held part byte next front is = record {
  each = front.each;
  written = ap (λ t. t ++ byte ∷ []) front.written ∙ append_assoc (chunks_text chunks) tail (byte ∷ []) ∙ ap (λ t. chunks_text chunks ++ t) is;
  count = ap (λ n. n + 1) front.count ∙ sym (length_push text byte);
  given = front.given;
}

-- in a size
pub record AtSize (terms : Terms) (text : List ℕ) (digits : ℕ × ℕ) (taken left : ℕ) (value held : List ℕ) : Type 0 where
  pub chunks : List Chunk
  pub tail : List ℕ
  pub front : Front text chunks tail taken held []
  pub count : digits.0 ≡ length tail
  pub most : digits.0 ≤ 8
  pub spelled : list_all is_hex tail ≡ true
  pub number : digits.1 ≡ digits_value 16 tail
  pub empty : value ≡ []
  pub sum : left + length held ≡ terms.decoded

-- behind the CR of a size
pub record AtSizeEnd (terms : Terms) (text : List ℕ) (announced taken left : ℕ) (value held : List ℕ) : Type 0 where
  pub chunks : List Chunk
  pub size : List ℕ
  pub front : Front text chunks (size ++ 13 ∷ []) taken held []
  pub form : is_size size ≡ true
  pub number : announced ≡ size_of size
  pub empty : value ≡ []
  pub sum : left + length held ≡ terms.decoded

-- in the data of a chunk, with this behind what has come of it
pub record AtData (terms : Terms) (text : List ℕ) (more : ℕ) (behind : List ℕ) (taken left : ℕ) (value held : List ℕ) : Type 0 where
  pub chunks : List Chunk
  pub size : List ℕ
  pub part : List ℕ
  pub front : Front text chunks (size ++ (crlf ++ (part ++ behind))) taken held part
  pub form : is_size size ≡ true
  pub number : size_of size ≡ length part + more
  pub some : 0 < size_of size
  pub empty : value ≡ []
  pub sum : left + (length held + more) ≡ terms.decoded

-- behind the line of a last size
pub record AtTrailer (terms : Terms) (text rest : List ℕ) (taken left : ℕ) (held : List ℕ) : Type 0 where
  pub chunks : List Chunk
  pub last : List ℕ
  pub front : Front text chunks (last ++ (crlf ++ rest)) taken held []
  pub ends : IsZero last
  pub sum : left + length held ≡ terms.decoded

-- in the name of the trailer
pub record AtName (terms : Terms) (text : List ℕ) (matched taken left : ℕ) (value held : List ℕ) : Type 0 where
  pub rest : List ℕ
  pub at : AtTrailer terms text rest taken left held
  pub same : map to_ascii_lowercase rest ≡ map to_ascii_lowercase (take matched terms.name)
  pub most : matched ≤ length terms.name
  pub empty : value ≡ []

-- in its value
pub record AtValue (terms : Terms) (text : List ℕ) (taken left : ℕ) (value held : List ℕ) : Type 0 where
  pub name : List ℕ
  pub at : AtTrailer terms text (name ++ colon ∷ value) taken left held
  pub named : AreSameName name terms.name
  pub spelled : list_all is_ascii_graphic value ≡ true
  pub most : length value ≤ 64

-- behind its value, and this
pub record AtEnd (terms : Terms) (text behind : List ℕ) (taken left : ℕ) (value held : List ℕ) : Type 0 where
  pub name : List ℕ
  pub at : AtTrailer terms text (name ++ colon ∷ (value ++ behind)) taken left held
  pub named : AreSameName name terms.name
  pub valued : is_value value ≡ true

-- behind its value, what may stand there, and this
pub record AtClose (terms : Terms) (text behind : List ℕ) (taken left : ℕ) (value held : List ℕ) : Type 0 where
  pub gap : List ℕ
  pub parted : IsGap gap
  pub at : AtEnd terms text (gap ++ behind) taken left value held

-- where a reader that stands at this place is in a body
abbrev pub At : Terms → List ℕ → ℕ → ℕ → List ℕ → List ℕ → Place → Type 0
At terms text taken left value held (Size digits) = AtSize terms text digits taken left value held
At terms text taken left value held (SizeEnd size) = AtSizeEnd terms text size taken left value held
At terms text taken left value held (Data more) = AtData terms text more [] taken left value held
At terms text taken left value held DataEnd = AtData terms text 0 (13 ∷ []) taken left value held
At terms text taken left value held (Name matched) = AtName terms text matched taken left value held
At terms text taken left value held Value = AtValue terms text taken left value held
At terms text taken left value held Gap = AtEnd terms text (10 ∷ []) taken left value held
At terms text taken left value held ValueEnd = AtClose terms text (13 ∷ []) taken left value held
At terms text taken left value held Last = AtClose terms text crlf taken left value held
At terms text taken left value held LastEnd = AtClose terms text (crlf ++ 13 ∷ []) taken left value held
At terms text taken left value held Over = AtClose terms text (crlf ++ crlf) taken left value held × (left ≡ 0) × (taken ≡ terms.encoded)
At terms text taken left value held (Refused fault) = Unit {0}

abbrev pub Course : Terms → List ℕ → Reading → Type 0
Course terms text r = At terms text r.taken r.left r.value r.held r.place

-- one of two
reading_if : (P : Reading → Type 0) (test : Bool) (a b : Reading) → (test ≡ true → P a) → (test ≡ false → P b) → P (if test then a else b)
reading_if P true a b f g = f refl
reading_if P false a b f g = g refl

step_if : (P : Step → Type 0) (test : Bool) (a b : Step) → (test ≡ true → P a) → (test ≡ false → P b) → P (if test then a else b)
step_if P true a b f g = f refl
step_if P false a b f g = g refl

digits_if : (P : Step → Type 0) (test : Bool) (digits : ℕ × ℕ) → (test ≡ true → P (Moves (Size digits))) → P Misspelled → P (to_digits (if test then Some digits else None))
digits_if P true digits f g = f refl
digits_if P false digits f g = g

place_if : (P : Place → Type 0) (test : Bool) (a b : Place) → (test ≡ true → P a) → (test ≡ false → P b) → P (if test then a else b)
place_if P true a b f g = f refl
place_if P false a b f g = g refl

pub course_settled : (terms : Terms) (text : List ℕ) (r : Reading) → Course terms text r → Course terms text (settled terms.encoded r)
unfolding settled
course_settled terms text r course =
    reading_if (Course terms text) (not (is_settled r.place) && eqb r.taken terms.encoded) (refused r Incomplete) r (λ is. tt) (λ is. course)

-- what a byte makes of the way, where it says this
abbrev Goes : Terms → List ℕ → Place → ℕ → ℕ → List ℕ → List ℕ → ℕ → Step → Type 0
Goes terms text place taken left value held byte step =
    Course terms (text ++ byte ∷ [])
    (turned terms.encoded (record { place = place; taken = taken + 1; left = left; value = value; held = held }) step byte)

-- ---- sizes

size_more : (terms : Terms) (text : List ℕ) (digits : ℕ × ℕ) (taken left : ℕ) (value held : List ℕ) (byte : ℕ) → AtSize terms text digits taken left value held → is_hex byte ≡ true → digits.0 < 8 → AtSize terms (text ++ byte ∷ []) (digits.0 + 1, digits.1 * 16 + digit_value byte) (taken + 1) left value held
size_more terms text digits taken left value held byte at hex room = record {
  chunks = at.chunks;
  tail = at.tail ++ byte ∷ [];
  front = push text at.chunks at.tail taken held [] byte (at.tail ++ byte ∷ []) at.front refl;
  count = ap (λ n. n + 1) at.count ∙ sym (length_push at.tail byte);
  most = omega (arith, room);
  spelled = all_push is_hex at.tail byte at.spelled hex;
  number = ap (λ n. n * 16 + digit_value byte) at.number ∙ sym (digits_value_push 16 at.tail byte);
  empty = at.empty;
  sum = at.sum;
}

size_ends : (terms : Terms) (text : List ℕ) (digits : ℕ × ℕ) (taken left : ℕ) (value held : List ℕ) (byte : ℕ) → AtSize terms text digits taken left value held → byte ≡ 13 → 0 < digits.0 → AtSizeEnd terms (text ++ byte ∷ []) digits.1 (taken + 1) left value held
size_ends terms text digits taken left value held byte at is some = record {
  chunks = at.chunks;
  size = at.tail;
  front = push text at.chunks at.tail taken held [] byte (at.tail ++ 13 ∷ []) at.front (ap (λ b. at.tail ++ b ∷ []) is);
  form = size_form at.tail (omega (arith, at.count, some)) (omega (arith, at.count, at.most)) at.spelled;
  number = at.number;
  empty = at.empty;
  sum = at.sum;
}

from_size : (terms : Terms) (text : List ℕ) (digits : ℕ × ℕ) (taken left : ℕ) (value held : List ℕ) (byte : ℕ) → AtSize terms text digits taken left value held → Goes terms text (Size digits) taken left value held byte (read_size digits byte)
unfolding turned
from_size terms text digits taken left value held byte at =
    let P = Goes terms text (Size digits) taken left value held byte in
    step_if P (byte == 13 && nat_lt 0 digits.0) (Moves (SizeEnd digits.1)) (to_digits (more_digits digits byte))
    (λ yes'.
    let both = and_parts (byte == 13) (nat_lt 0 digits.0) yes' in
    size_ends terms text digits taken left value held byte at (eqb-true byte 13 both.0) (ltb-true 0 digits.0 both.1))
    (λ no'.
    digits_if P (is_hex byte && nat_lt digits.0 8) (digits.0 + 1, digits.1 * 16 + digit_value byte)
    (λ yes'.
    let both = and_parts (is_hex byte) (nat_lt digits.0 8) yes' in
    size_more terms text digits taken left value held byte at both.0 (ltb-true digits.0 8 both.1))
    tt)

-- the line of a size has ended
line_written : (size : List ℕ) (byte : ℕ) → byte ≡ 10 → (size ++ 13 ∷ []) ++ byte ∷ [] ≡ size ++ (crlf ++ [])
line_written size byte is = append_assoc size (13 ∷ []) (byte ∷ []) ∙ ap (λ b. size ++ 13 ∷ b ∷ []) is

line_ends : (terms : Terms) (text : List ℕ) (announced taken left : ℕ) (value held : List ℕ) (byte : ℕ) → AtSizeEnd terms text announced taken left value held → byte ≡ 10 → announced ≤ left → At terms (text ++ byte ∷ []) (taken + 1) (left - announced) value held (place_behind announced)
line_ends terms text announced taken left value held byte at is fits =
    let front = push text at.chunks (at.size ++ 13 ∷ []) taken held [] byte (at.size ++ (crlf ++ [])) at.front (line_written at.size byte is) in
    place_if (At terms (text ++ byte ∷ []) (taken + 1) (left - announced) value held) (announced == 0) (Name 0) (Data announced)
    (λ none.
    let zero' : announced ≡ 0 = eqb-true announced 0 none in
    record {
      rest = [];
      at = record {
        chunks = at.chunks;
        last = at.size;
        front = front;
        ends = record { form = at.form; zero = sym at.number ∙ zero' };
        sum = omega (arith, at.sum, zero');
      };
      same = refl;
      most = omega arith;
      empty = at.empty;
    })
    (λ some.
    let positive : 0 < announced = grind (arith, some) in
    record {
      chunks = at.chunks;
      size = at.size;
      part = [];
      front = front;
      form = at.form;
      number = omega (arith, at.number);
      some = omega (arith, at.number, positive);
      empty = at.empty;
      sum = omega (arith, at.sum, fits);
    })

from_size_end : (terms : Terms) (text : List ℕ) (announced taken left : ℕ) (value held : List ℕ) (byte : ℕ) → AtSizeEnd terms text announced taken left value held → Goes terms text (SizeEnd announced) taken left value held byte (if byte == 10 then Opens announced else Misspelled)
unfolding turned opened
from_size_end terms text announced taken left value held byte at =
    step_if (Goes terms text (SizeEnd announced) taken left value held byte) (byte == 10) (Opens announced) Misspelled
    (λ yes'.
    reading_if (Course terms (text ++ byte ∷ [])) (nat_lt left announced) _ _
    (λ over. tt)
    (λ fits. line_ends terms text announced taken left value held byte at (eqb-true byte 10 yes') (ltb-false left announced fits)))
    (λ no'. tt)

-- ---- data

pub data_grows : (terms : Terms) (text : List ℕ) (more taken left : ℕ) (value held : List ℕ) (byte : ℕ) → AtData terms text more [] taken left value held → 0 < more → AtData terms (text ++ byte ∷ []) (more - 1) [] (taken + 1) left value (held ++ byte ∷ [])
data_grows terms text more taken left value held byte at some =
    let longer : length (held ++ byte ∷ []) ≡ length held + 1 = length_push held byte in
    let longer' : length (at.part ++ byte ∷ []) ≡ length at.part + 1 = length_push at.part byte in
    let next : (at.size ++ (crlf ++ (at.part ++ []))) ++ byte ∷ [] ≡ at.size ++ (crlf ++ ((at.part ++ byte ∷ []) ++ [])) =
    append_assoc at.size (crlf ++ (at.part ++ [])) (byte ∷ [])
    ∙ ap (λ t. at.size ++ (crlf ++ (t ++ byte ∷ []))) (append-nil at.part)
    ∙ ap (λ t. at.size ++ (crlf ++ t)) (sym (append-nil (at.part ++ byte ∷ []))) in
    let front = push text at.chunks (at.size ++ (crlf ++ (at.part ++ []))) taken held at.part byte _ at.front next in
    record {
      chunks = at.chunks;
      size = at.size;
      part = at.part ++ byte ∷ [];
      front = record {
        each = front.each;
        written = front.written;
        count = front.count;
        given = ap (λ t. t ++ byte ∷ []) front.given ∙ append_assoc (data_of at.chunks) at.part (byte ∷ []);
      };
      form = at.form;
      number = omega (arith, at.number, longer', some);
      some = at.some;
      empty = at.empty;
      sum = omega (arith, at.sum, longer, some);
    }

data_ends : (terms : Terms) (text : List ℕ) (more taken left : ℕ) (value held : List ℕ) (byte : ℕ) → AtData terms text more [] taken left value held → more ≡ 0 → byte ≡ 13 → AtData terms (text ++ byte ∷ []) 0 (13 ∷ []) (taken + 1) left value held
data_ends terms text more taken left value held byte at none is =
    let next : (at.size ++ (crlf ++ (at.part ++ []))) ++ byte ∷ [] ≡ at.size ++ (crlf ++ (at.part ++ 13 ∷ [])) =
    append_assoc at.size (crlf ++ (at.part ++ [])) (byte ∷ [])
    ∙ ap (λ t. at.size ++ (crlf ++ (t ++ byte ∷ []))) (append-nil at.part)
    ∙ ap (λ b. at.size ++ (crlf ++ (at.part ++ b ∷ []))) is in
    record {
      chunks = at.chunks;
      size = at.size;
      part = at.part;
      front = push text at.chunks (at.size ++ (crlf ++ (at.part ++ []))) taken held at.part byte _ at.front next;
      form = at.form;
      number = omega (arith, at.number, none);
      some = at.some;
      empty = at.empty;
      sum = omega (arith, at.sum, none);
    }

chunk_ends : (terms : Terms) (text : List ℕ) (taken left : ℕ) (value held : List ℕ) (byte : ℕ) → AtData terms text 0 (13 ∷ []) taken left value held → byte ≡ 10 → AtSize terms (text ++ byte ∷ []) (0, 0) (taken + 1) left value held
chunk_ends terms text taken left value held byte at is =
    let chunk : Chunk = record { size = at.size; bytes = at.part } in
    let form : IsChunk chunk = record { form = at.form; long = omega (arith, at.number); some = omega (arith, at.number, at.some) } in
    let next : (at.size ++ (crlf ++ (at.part ++ 13 ∷ []))) ++ byte ∷ [] ≡ chunk_text chunk =
    append_assoc at.size (crlf ++ (at.part ++ 13 ∷ [])) (byte ∷ [])
    ∙ ap (λ t. at.size ++ (crlf ++ t)) (append_assoc at.part (13 ∷ []) (byte ∷ []))
    ∙ ap (λ b. at.size ++ (crlf ++ (at.part ++ 13 ∷ b ∷ []))) is in
    let front = push text at.chunks (at.size ++ (crlf ++ (at.part ++ 13 ∷ []))) taken held at.part byte (chunk_text chunk) at.front next in
    record {
      chunks = at.chunks ++ chunk ∷ [];
      tail = [];
      front = record {
        each = chunks_push at.chunks chunk front.each form;
        written = front.written ∙ text_push at.chunks chunk;
        count = front.count;
        given = front.given ∙ sym (data_push at.chunks chunk) ∙ sym (append-nil (data_of (at.chunks ++ chunk ∷ [])));
      };
      count = refl;
      most = omega arith;
      spelled = refl;
      number = refl;
      empty = at.empty;
      sum = omega (arith, at.sum);
    }

-- ---- the trailer

trailer_push : (terms : Terms) (text rest : List ℕ) (taken left : ℕ) (held : List ℕ) (byte : ℕ) (next : List ℕ) → AtTrailer terms text rest taken left held → rest ++ byte ∷ [] ≡ next → AtTrailer terms (text ++ byte ∷ []) next (taken + 1) left held
trailer_push terms text rest taken left held byte next at is = record {
  chunks = at.chunks;
  last = at.last;
  front =
      push text at.chunks (at.last ++ (crlf ++ rest)) taken held [] byte (at.last ++ (crlf ++ next)) at.front
      (append_assoc at.last (crlf ++ rest) (byte ∷ []) ∙ ap (λ t. at.last ++ (crlf ++ t)) is);
  ends = at.ends;
  sum = at.sum;
}

name_more : (terms : Terms) (text : List ℕ) (matched taken left : ℕ) (value held : List ℕ) (byte : ℕ) → AtName terms text matched taken left value held → matched < length terms.name → eq_ignore_ascii_case byte (slice_index terms.name matched) ≡ true → AtName terms (text ++ byte ∷ []) (matched + 1) (taken + 1) left value held
name_more terms text matched taken left value held byte at more is =
    let lower = map to_ascii_lowercase in
    let b : to_ascii_lowercase byte ≡ to_ascii_lowercase (get_or terms.name matched 0) = eqb-true _ _ is in
    record {
      rest = at.rest ++ byte ∷ [];
      at = trailer_push terms text at.rest taken left held byte (at.rest ++ byte ∷ []) at.at refl;
      same =
          map-append to_ascii_lowercase at.rest (byte ∷ [])
          ∙ ap (λ t. t ++ to_ascii_lowercase byte ∷ []) at.same
          ∙ ap (λ x. map to_ascii_lowercase (take matched terms.name) ++ x ∷ []) b
          ∙ sym (map-append to_ascii_lowercase (take matched terms.name) (get_or terms.name matched 0 ∷ []))
          ∙ ap (map to_ascii_lowercase) (sym (take_more terms.name matched 0 more));
      most = omega (arith, more);
      empty = at.empty;
    }

name_ends : (terms : Terms) (text : List ℕ) (matched taken left : ℕ) (value held : List ℕ) (byte : ℕ) → AtName terms text matched taken left value held → length terms.name ≤ matched → byte ≡ 58 → AtValue terms (text ++ byte ∷ []) (taken + 1) left value held
name_ends terms text matched taken left value held byte at all is =
    record {
      name = at.rest;
      at =
          trailer_push terms text at.rest taken left held byte (at.rest ++ colon ∷ value) at.at
          (ap (λ b. at.rest ++ b ∷ []) is ∙ ap (λ t. at.rest ++ 58 ∷ t) (sym at.empty));
      named = at.same ∙ ap (map to_ascii_lowercase) (take_all matched terms.name all);
      spelled = ap (list_all is_ascii_graphic) at.empty;
      most = rw at.empty (omega arith);
    }

from_name : (terms : Terms) (text : List ℕ) (matched taken left : ℕ) (value held : List ℕ) (byte : ℕ) → AtName terms text matched taken left value held → Goes terms text (Name matched) taken left value held byte (read_name terms.name matched byte)
unfolding turned
from_name terms text matched taken left value held byte at =
    let P = Goes terms text (Name matched) taken left value held byte in
    step_if P (nat_lt matched (length terms.name)) _ _
    (λ more.
    step_if P (eq_ignore_ascii_case byte (slice_index terms.name matched)) (Moves (Name (matched + 1))) Misspelled
    (λ is. name_more terms text matched taken left value held byte at (ltb-true _ _ more) is)
    (λ no'. tt))
    (λ all.
    step_if P (byte == 58) (Moves Value) Misspelled
    (λ is. name_ends terms text matched taken left value held byte at (ltb-false _ _ all) (eqb-true byte 58 is))
    (λ no'. tt))

value_more : (terms : Terms) (text : List ℕ) (taken left : ℕ) (value held : List ℕ) (byte : ℕ) → AtValue terms text taken left value held → is_ascii_graphic byte ≡ true → length value < 64 → AtValue terms (text ++ byte ∷ []) (taken + 1) left (value ++ byte ∷ []) held
value_more terms text taken left value held byte at is room =
    record {
      name = at.name;
      at =
          trailer_push terms text (at.name ++ colon ∷ value) taken left held byte (at.name ++ colon ∷ (value ++ byte ∷ [])) at.at
          (append_assoc at.name (colon ∷ value) (byte ∷ []));
      named = at.named;
      spelled = all_push is_ascii_graphic value byte at.spelled is;
      most = rw (length_push value byte) (omega (arith, room));
    }

value_ends : (terms : Terms) (text : List ℕ) (taken left : ℕ) (value held : List ℕ) (byte wanted : ℕ) → AtValue terms text taken left value held → byte ≡ wanted → 0 < length value → AtEnd terms (text ++ byte ∷ []) (wanted ∷ []) (taken + 1) left value held
value_ends terms text taken left value held byte wanted at is some =
    record {
      name = at.name;
      at =
          trailer_push terms text (at.name ++ colon ∷ value) taken left held byte (at.name ++ colon ∷ (value ++ wanted ∷ [])) at.at
          (append_assoc at.name (colon ∷ value) (byte ∷ []) ∙ ap (λ b. at.name ++ colon ∷ (value ++ b ∷ [])) is);
      named = at.named;
      valued = value_form value some at.most at.spelled;
    }

-- with nothing in between
close_of : {terms : Terms} {text behind : List ℕ} {taken left : ℕ} {value held : List ℕ} → AtEnd terms text behind taken left value held → AtClose terms text behind taken left value held
close_of at = record { gap = []; parted = inl refl; at = at }

from_value : (terms : Terms) (text : List ℕ) (taken left : ℕ) (value held : List ℕ) (byte : ℕ) → AtValue terms text taken left value held → Goes terms text Value taken left value held byte (read_value (length value) byte)
unfolding turned
from_value terms text taken left value held byte at =
    let P = Goes terms text Value taken left value held byte in
    step_if P (byte == 13 && nat_lt 0 (length value)) (Moves ValueEnd) _
    (λ yes'.
    let both = and_parts (byte == 13) (nat_lt 0 (length value)) yes' in
    close_of (value_ends terms text taken left value held byte 13 at (eqb-true byte 13 both.0) (ltb-true 0 (length value) both.1)))
    (λ no'.
    step_if P (byte == 10 && nat_lt 0 (length value)) (Moves Gap) _
    (λ yes'.
    let both = and_parts (byte == 10) (nat_lt 0 (length value)) yes' in
    value_ends terms text taken left value held byte 10 at (eqb-true byte 10 both.0) (ltb-true 0 (length value) both.1))
    (λ no'.
    step_if P (is_ascii_graphic byte && nat_lt (length value) 64) Spells Misspelled
    (λ yes'.
    let both = and_parts (is_ascii_graphic byte) (nat_lt (length value) 64) yes' in
    value_more terms text taken left value held byte at both.0 (ltb-true (length value) 64 both.1))
    (λ no'. tt)))

end_push : (terms : Terms) (text behind : List ℕ) (taken left : ℕ) (value held : List ℕ) (byte wanted : ℕ) → AtEnd terms text behind taken left value held → byte ≡ wanted → AtEnd terms (text ++ byte ∷ []) (behind ++ wanted ∷ []) (taken + 1) left value held
end_push terms text behind taken left value held byte wanted at is =
    record {
      name = at.name;
      at =
          trailer_push terms text (at.name ++ colon ∷ (value ++ behind)) taken left held byte (at.name ++ colon ∷ (value ++ (behind ++ wanted ∷ []))) at.at
          (append_assoc at.name (colon ∷ (value ++ behind)) (byte ∷ [])
          ∙ ap (λ t. at.name ++ colon ∷ t) (append_assoc value behind (byte ∷ []))
          ∙ ap (λ b. at.name ++ colon ∷ (value ++ (behind ++ b ∷ []))) is);
      named = at.named;
      valued = at.valued;
    }

close_push : (terms : Terms) (text behind : List ℕ) (taken left : ℕ) (value held : List ℕ) (byte wanted : ℕ) → AtClose terms text behind taken left value held → byte ≡ wanted → AtClose terms (text ++ byte ∷ []) (behind ++ wanted ∷ []) (taken + 1) left value held
close_push terms text behind taken left value held byte wanted close is =
    record {
      gap = close.gap;
      parted = close.parted;
      at =
          subst (λ (t : List ℕ). AtEnd terms (text ++ byte ∷ []) t (taken + 1) left value held) (append_assoc close.gap behind (wanted ∷ []))
          (end_push terms text (close.gap ++ behind) taken left value held byte wanted close.at is);
    }

from_last_end : (terms : Terms) (text : List ℕ) (taken left : ℕ) (value held : List ℕ) (byte : ℕ) → AtClose terms text (crlf ++ 13 ∷ []) taken left value held → taken + 1 ≤ terms.encoded → Goes terms text LastEnd taken left value held byte (if byte == 10 then Ends else Misspelled)
unfolding turned finished
from_last_end terms text taken left value held byte at within =
    step_if (Goes terms text LastEnd taken left value held byte) (byte == 10) Ends Misspelled
    (λ is.
    reading_if (Course terms (text ++ byte ∷ [])) (nat_lt 0 left) _ _
    (λ short. tt)
    (λ all.
    reading_if (Course terms (text ++ byte ∷ [])) (nat_lt (taken + 1) terms.encoded) _ _
    (λ early. tt)
    (λ whole.
    let none = ltb-false 0 left all in
    let past = ltb-false (taken + 1) terms.encoded whole in (
      close_push terms text (crlf ++ 13 ∷ []) taken left value held byte 10 at (eqb-true byte 10 is),
      omega (arith, none),
      omega (arith, past, within),
    ))))
    (λ no'. tt)

-- a byte that is no data
pub from_place : (terms : Terms) (text : List ℕ) (place : Place) (taken left : ℕ) (value held : List ℕ) (byte : ℕ) → At terms text taken left value held place → is_data place ≡ false → taken + 1 ≤ terms.encoded → Goes terms text place taken left value held byte (read terms.name (length value) place byte)
unfolding turned read
from_place terms text (Size digits) taken left value held byte at other within = from_size terms text digits taken left value held byte at
from_place terms text (SizeEnd size) taken left value held byte at other within = from_size_end terms text size taken left value held byte at
from_place terms text (Data more) taken left value held byte at other within =
    let none = ltb-false 0 more other in
    step_if (Goes terms text (Data more) taken left value held byte) (byte == 13) (Moves DataEnd) Misspelled
    (λ is. data_ends terms text more taken left value held byte at (omega (arith, none)) (eqb-true byte 13 is))
    (λ no'. tt)
from_place terms text DataEnd taken left value held byte at other within =
    step_if (Goes terms text DataEnd taken left value held byte) (byte == 10) (Moves (Size (0, 0))) Misspelled
    (λ is. chunk_ends terms text taken left value held byte at (eqb-true byte 10 is))
    (λ no'. tt)
from_place terms text (Name matched) taken left value held byte at other within = from_name terms text matched taken left value held byte at
from_place terms text Value taken left value held byte at other within = from_value terms text taken left value held byte at
from_place terms text Gap taken left value held byte at other within =
    step_if (Goes terms text Gap taken left value held byte) (byte == 13) (Moves ValueEnd) Misspelled
    (λ is. record { gap = 10 ∷ []; parted = inr refl; at = end_push terms text (10 ∷ []) taken left value held byte 13 at (eqb-true byte 13 is) })
    (λ no'. tt)
from_place terms text ValueEnd taken left value held byte at other within =
    step_if (Goes terms text ValueEnd taken left value held byte) (byte == 10) (Moves Last) Misspelled
    (λ is. close_push terms text (13 ∷ []) taken left value held byte 10 at (eqb-true byte 10 is))
    (λ no'. tt)
from_place terms text Last taken left value held byte at other within =
    step_if (Goes terms text Last taken left value held byte) (byte == 13) (Moves LastEnd) Misspelled
    (λ is. close_push terms text crlf taken left value held byte 13 at (eqb-true byte 13 is))
    (λ no'. tt)
from_place terms text LastEnd taken left value held byte at other within = from_last_end terms text taken left value held byte at within
from_place terms text Over taken left value held byte at other within = tt
from_place terms text (Refused fault) taken left value held byte at other within = tt
