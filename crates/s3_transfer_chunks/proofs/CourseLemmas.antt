-- How a decoder stands inside a body, and that what has come is then whole chunks and a part of what follows them.
use Rattle.std.proofs.Common.{◌≡◌, ℕ, ◌+◌, ◌-◌, ◌*◌, ◌<◌, ◌≤◌, ⊎_elim, inl, inr, Bool, true, false, ◌&&◌, ◌==◌, nat_le, nat_lt, List, [], ◌∷◌, ◌++◌, length, refl, sym, ap, ◌∙◌, arith, append_assoc, eqb-true, le-leb, ltb-true, ltb-false, Some, None, if◌then◌else◌}
use Rattle.std.proofs.lemmas.Bool.{and_from, and_parts}
use Rattle.std.proofs.lemmas.Int.Digits.{digits_value_push}
use Rattle.std.proofs.lemmas.List.{append-nil, length_push}
use Rattle.std.proofs.lemmas.List.Folds.{list_all-append}
use Rattle.std.specs.Char.{digit_value}
use Rattle.std.specs.List.{list_all}
use Rattle.std.specs.Str.Parse.{digits_value}
use Rattle.s3_text.specs.Characters.{crlf}
use Rattle.s3_transfer_chunks.specs.Body.{AreChunks, Chunk, IsChunk, IsExtension, IsGivenExtension, IsLast, IsTooLarge, chunk_text, chunks_text, data_of, ends_size, is_size, line_text, size_of}
use Rattle.s3_transfer_chunks.specs.Place.{expected, is_blank, is_hex, is_passed, place_behind, read, read_behind, read_line, read_size, read_tail, to_digits}
use Rattle.s3_transfer_chunks.specs.Reading.{Reading, is_data, turned}
use Rattle.s3_transfer_chunks.specs.declared.place.Fault.{Fault}
use Rattle.s3_transfer_chunks.specs.declared.place.Fault.TheVariants.{Invalid, TooLarge, Incomplete}
use Rattle.s3_transfer_chunks.specs.declared.place.Tail.{Tail}
use Rattle.s3_transfer_chunks.specs.declared.place.Tail.TheVariants.{Blanks, Extension, End}
use Rattle.s3_transfer_chunks.specs.declared.place.Place.{Place}
use Rattle.s3_transfer_chunks.specs.declared.place.Place.TheVariants.{Size, Line, Data, DataEnd, Last, LastEnd, Over, Refused}
use Rattle.s3_transfer_chunks.specs.declared.place.Step.{Step}
use Rattle.s3_transfer_chunks.specs.declared.place.Step.TheVariants.{Misspelled, Moves, Announces}
use Rattle.s3_transfer_chunks.proofs.StepLemmas.{blank_cases}

-- one more chunk
pub text_push : (cs : List Chunk) (c : Chunk) → chunks_text cs ++ chunk_text c ≡ chunks_text (cs ++ c ∷ []) ++ []
text_push [] c = sym (append-nil (chunk_text c ++ []) ∙ append-nil (chunk_text c))
text_push (x ∷ cs) c =
    append_assoc (chunk_text x) (chunks_text cs) (chunk_text c)
    ∙ ap (λ t. chunk_text x ++ t) (text_push cs c)
    ∙ sym (append_assoc (chunk_text x) (chunks_text (cs ++ c ∷ [])) [])

pub data_push : (cs : List Chunk) (c : Chunk) → data_of (cs ++ c ∷ []) ≡ data_of cs ++ c.bytes
data_push [] c = append-nil c.bytes
data_push (x ∷ cs) c = ap (λ t. x.bytes ++ t) (data_push cs c) ∙ sym (append_assoc x.bytes (data_of cs) c.bytes)

pub chunks_push : (cs : List Chunk) (c : Chunk) → AreChunks cs → IsChunk c → AreChunks (cs ++ c ∷ [])
chunks_push [] c all is = (is, tt)
chunks_push (x ∷ cs) c all is = (all.0, chunks_push cs c all.1 is)

-- 1 to 16 digits are a size
pub size_form : (text : List ℕ) → 0 < length text → length text ≤ 16 → list_all is_hex text ≡ true → is_size text ≡ true
size_form text some most all =
    and_from (nat_le 1 (length text) && nat_le (length text) 16) (list_all is_hex text)
    (and_from (nat_le 1 (length text)) (nat_le (length text) 16) (le-leb 1 (length text) (omega (arith, some))) (le-leb (length text) 16 most))
    all

all_push : (f : ℕ → Bool) (text : List ℕ) (byte : ℕ) → list_all f text ≡ true → f byte ≡ true → list_all f (text ++ byte ∷ []) ≡ true
all_push f text byte all is =
    list_all-append f text (byte ∷ []) ∙ and_from (list_all f text) (f byte && true) all (and_from (f byte) true is refl)

-- the text is chunks and this behind them; of what is behind them, this is data
pub record Front (text : List ℕ) (chunks : List Chunk) (tail : List ℕ) (held part : List ℕ) : Type 0 where
  pub each : AreChunks chunks
  pub written : text ≡ chunks_text chunks ++ tail
  pub given : held ≡ data_of chunks ++ part

push : (text : List ℕ) (chunks : List Chunk) (tail : List ℕ) (held part : List ℕ) (byte : ℕ) (next : List ℕ) → Front text chunks tail held part → tail ++ byte ∷ [] ≡ next → Front (text ++ byte ∷ []) chunks next held part
push text chunks tail held part byte next front is = record {
  each = front.each;
  written = ap (λ t. t ++ byte ∷ []) front.written ∙ append_assoc (chunks_text chunks) tail (byte ∷ []) ∙ ap (λ t. chunks_text chunks ++ t) is;
  given = front.given;
}

-- in a size
pub record AtSize (limit : ℕ) (text : List ℕ) (digits : ℕ × ℕ) (left : ℕ) (held : List ℕ) : Type 0 where
  pub chunks : List Chunk
  pub tail : List ℕ
  pub front : Front text chunks tail held []
  pub count : digits.0 ≡ length tail
  pub most : digits.0 ≤ 16
  pub spelled : list_all is_hex tail ≡ true
  pub number : digits.1 ≡ digits_value 16 tail
  pub sum : left + length held ≡ limit

-- an extension and a CR
pub record EndsLine (text : List ℕ) : Type 0 where
  pub extension : List ℕ
  pub form : IsExtension extension
  pub written : text ≡ extension ++ 13 ∷ []

-- what may stand behind the digits of a size, where the decoder stands so
abbrev pub IsTail : Tail → List ℕ → Type 0
IsTail Blanks text = list_all is_blank text ≡ true
IsTail Extension text = IsGivenExtension text
IsTail End text = EndsLine text

-- in the line of a size, with this behind its digits
pub record AtLine (limit : ℕ) (text : List ℕ) (announced : ℕ) (tail : Tail) (left : ℕ) (held : List ℕ) : Type 0 where
  pub chunks : List Chunk
  pub size : List ℕ
  pub behind : List ℕ
  pub front : Front text chunks (size ++ behind) held []
  pub form : is_size size ≡ true
  pub number : announced ≡ size_of size
  pub follows : IsTail tail behind
  pub sum : left + (announced + length held) ≡ limit

-- in the data of a chunk, with this behind what has come of it
pub record AtData (limit : ℕ) (text : List ℕ) (more : ℕ) (behind : List ℕ) (left : ℕ) (held : List ℕ) : Type 0 where
  pub chunks : List Chunk
  pub size : List ℕ
  pub extension : List ℕ
  pub part : List ℕ
  pub front : Front text chunks (line_text size extension ++ (part ++ behind)) held part
  pub form : is_size size ≡ true
  pub extended : IsExtension extension
  pub number : size_of size ≡ length part + more
  pub some : 0 < size_of size
  pub sum : left + (length held + more) ≡ limit

-- behind the line of the last size, and this
pub record AtLast (limit : ℕ) (text rest : List ℕ) (left : ℕ) (held : List ℕ) : Type 0 where
  pub chunks : List Chunk
  pub last : List ℕ
  pub extension : List ℕ
  pub front : Front text chunks (line_text last extension ++ rest) held []
  pub ends : IsLast last extension
  pub sum : left + length held ≡ limit

-- what may be wrong before the end of the input
abbrev pub IsReason : ℕ → List ℕ → Fault → Type 0
IsReason limit text Invalid = Unit {0}
IsReason limit text TooLarge = IsTooLarge limit text
IsReason limit text Incomplete = ⊥

-- where a decoder that stands at this place is in a body
abbrev pub At : ℕ → List ℕ → ℕ → List ℕ → Place → Type 0
At limit text left held (Size digits) = AtSize limit text digits left held
At limit text left held (Line size tail) = AtLine limit text size tail left held
At limit text left held (Data more) = AtData limit text more [] left held
At limit text left held DataEnd = AtData limit text 0 (13 ∷ []) left held
At limit text left held Last = AtLast limit text [] left held
At limit text left held LastEnd = AtLast limit text (13 ∷ []) left held
At limit text left held Over = AtLast limit text crlf left held
At limit text left held (Refused fault) = IsReason limit text fault

abbrev pub Course : ℕ → List ℕ → Reading → Type 0
Course limit text r = At limit text r.left r.held r.place

-- one of two
reading_if : (P : Reading → Type 0) (test : Bool) (a b : Reading) → (test ≡ true → P a) → (test ≡ false → P b) → P (if test then a else b)
reading_if P true a b f g = f refl
reading_if P false a b f g = g refl

step_if : (P : Step → Type 0) (test : Bool) (a b : Step) → (test ≡ true → P a) → (test ≡ false → P b) → P (if test then a else b)
step_if P true a b f g = f refl
step_if P false a b f g = g refl

digits_if : (P : Step → Type 0) (test : Bool) (digits : ℕ × ℕ) (other : Step) → (test ≡ true → P (Moves (Size digits))) → P other → P (to_digits (if test then Some digits else None) other)
digits_if P true digits other f g = f refl
digits_if P false digits other f g = g

place_if : (P : Place → Type 0) (test : Bool) (a b : Place) → (test ≡ true → P a) → (test ≡ false → P b) → P (if test then a else b)
place_if P true a b f g = f refl
place_if P false a b f g = g refl

-- what a byte makes of the way, where it says this
abbrev Goes : ℕ → List ℕ → Place → ℕ → List ℕ → ℕ → Step → Type 0
Goes limit text place left held byte step =
    Course limit (text ++ byte ∷ []) (turned (record { place = place; left = left; held = held }) step)

-- a byte that has to be this one
from_expected : (limit : ℕ) (text : List ℕ) (place next : Place) (left : ℕ) (held : List ℕ) (byte wanted : ℕ) → (byte ≡ wanted → At limit (text ++ byte ∷ []) left held next) → Goes limit text place left held byte (expected byte wanted next)
unfolding turned
from_expected limit text place next left held byte wanted f =
    step_if (Goes limit text place left held byte) (byte == wanted) (Moves next) Misspelled
    (λ yes'. f (eqb-true byte wanted yes'))
    (λ no'. tt)

-- ---- sizes

size_more : (limit : ℕ) (text : List ℕ) (digits : ℕ × ℕ) (left : ℕ) (held : List ℕ) (byte : ℕ) → AtSize limit text digits left held → is_hex byte ≡ true → digits.0 < 16 → AtSize limit (text ++ byte ∷ []) (digits.0 + 1, digits.1 * 16 + digit_value byte) left held
size_more limit text digits left held byte at hex room = record {
  chunks = at.chunks;
  tail = at.tail ++ byte ∷ [];
  front = push text at.chunks at.tail held [] byte (at.tail ++ byte ∷ []) at.front refl;
  count = ap (λ n. n + 1) at.count ∙ sym (length_push at.tail byte);
  most = omega (arith, room);
  spelled = all_push is_hex at.tail byte at.spelled hex;
  number = ap (λ n. n * 16 + digit_value byte) at.number ∙ sym (digits_value_push 16 at.tail byte);
  sum = at.sum;
}

-- the digits have ended, and the limit has room for the size
size_ends : (limit : ℕ) (text : List ℕ) (digits : ℕ × ℕ) (left : ℕ) (held : List ℕ) (byte : ℕ) (tail : Tail) → AtSize limit text digits left held → 0 < digits.0 → ends_size byte ≡ true → IsTail tail (byte ∷ []) → Goes limit text (Size digits) left held byte (Announces digits.1 tail)
unfolding turned
size_ends limit text digits left held byte tail at some ends follows =
    let front = push text at.chunks at.tail held [] byte (at.tail ++ byte ∷ []) at.front refl in
    let form = size_form at.tail (omega (arith, at.count, some)) (omega (arith, at.count, at.most)) at.spelled in
    let given : length held ≡ length (data_of at.chunks) = ap length (at.front.given ∙ append-nil (data_of at.chunks)) in
    reading_if (Course limit (text ++ byte ∷ [])) (nat_lt left digits.1) _ _
    (λ over.
    let past = ltb-true left digits.1 over in
    record {
      chunks = at.chunks;
      size = at.tail;
      byte = byte;
      each = front.each;
      form = form;
      ends = ends;
      written = front.written;
      within = omega (arith, at.sum, given);
      over = omega (arith, at.sum, given, past, at.number);
    })
    (λ fits.
    let room = ltb-false left digits.1 fits in
    record {
      chunks = at.chunks;
      size = at.tail;
      behind = byte ∷ [];
      front = front;
      form = form;
      number = at.number;
      follows = follows;
      sum = omega (arith, at.sum, room);
    })

-- the first byte of an extension
semicolon_given : (blanks : List ℕ) (byte : ℕ) → list_all is_blank blanks ≡ true → byte ≡ 59 → IsGivenExtension (blanks ++ byte ∷ [])
semicolon_given blanks byte blank is = record {
  blanks = blanks;
  rest = [];
  blank = blank;
  passed = refl;
  written = ap (λ b. blanks ++ b ∷ []) is;
}

-- a blank ends the digits of a size
blank_ends : (byte : ℕ) → is_blank byte ≡ true → ends_size byte ≡ true
blank_ends byte is =
    ⊎_elim
    (λ (one : byte ≡ 32). ap ends_size one)
    (λ (other : byte ≡ 9). ap ends_size other)
    (blank_cases byte is)

from_size : (limit : ℕ) (text : List ℕ) (digits : ℕ × ℕ) (left : ℕ) (held : List ℕ) (byte : ℕ) → AtSize limit text digits left held → Goes limit text (Size digits) left held byte (read_size digits byte)
unfolding turned
from_size limit text digits left held byte at =
    let P = Goes limit text (Size digits) left held byte in
    digits_if P (is_hex byte && nat_lt digits.0 16) (digits.0 + 1, digits.1 * 16 + digit_value byte) (read_behind digits byte)
    (λ yes'.
    let both = and_parts (is_hex byte) (nat_lt digits.0 16) yes' in
    size_more limit text digits left held byte at both.0 (ltb-true digits.0 16 both.1))
    (step_if P (digits.0 == 0) Misspelled (read_tail digits.1 byte)
    (λ none. tt)
    (λ some.
    let positive : 0 < digits.0 = grind (arith, some) in
    step_if P (byte == 13) (Announces digits.1 End) _
    (λ is.
    size_ends limit text digits left held byte End at positive (ap ends_size (eqb-true byte 13 is))
    (record { extension = []; form = inl refl; written = ap (λ b. b ∷ []) (eqb-true byte 13 is) }))
    (λ no'.
    step_if P (byte == 59) (Announces digits.1 Extension) _
    (λ is.
    size_ends limit text digits left held byte Extension at positive (ap ends_size (eqb-true byte 59 is)) (semicolon_given [] byte refl (eqb-true byte 59 is)))
    (λ no'.
    step_if P (is_blank byte) (Announces digits.1 Blanks) Misspelled
    (λ is.
    size_ends limit text digits left held byte Blanks at positive (blank_ends byte is) (and_from (is_blank byte) true is refl))
    (λ no'. tt)))))

-- ---- what stands behind the digits

line_push : (limit : ℕ) (text : List ℕ) (size : ℕ) (tail next : Tail) (left : ℕ) (held : List ℕ) (byte : ℕ) (at : AtLine limit text size tail left held) → IsTail next (at.behind ++ byte ∷ []) → AtLine limit (text ++ byte ∷ []) size next left held
line_push limit text size tail next left held byte at follows = record {
  chunks = at.chunks;
  size = at.size;
  behind = at.behind ++ byte ∷ [];
  front = push text at.chunks (at.size ++ at.behind) held [] byte (at.size ++ (at.behind ++ byte ∷ [])) at.front (append_assoc at.size at.behind (byte ∷ []));
  form = at.form;
  number = at.number;
  follows = follows;
  sum = at.sum;
}

given_push : (text : List ℕ) (byte : ℕ) → IsGivenExtension text → is_passed byte ≡ true → IsGivenExtension (text ++ byte ∷ [])
given_push text byte given is = record {
  blanks = given.blanks;
  rest = given.rest ++ byte ∷ [];
  blank = given.blank;
  passed = all_push is_passed given.rest byte given.passed is;
  written = ap (λ t. t ++ byte ∷ []) given.written ∙ append_assoc given.blanks (59 ∷ given.rest) (byte ∷ []);
}

-- the line of a size has ended
line_ends : (limit : ℕ) (text : List ℕ) (size left : ℕ) (held : List ℕ) (byte : ℕ) → AtLine limit text size End left held → byte ≡ 10 → At limit (text ++ byte ∷ []) left held (place_behind size)
line_ends limit text size left held byte at is =
    let line = at.follows in
    let written : (at.size ++ at.behind) ++ byte ∷ [] ≡ line_text at.size line.extension ++ [] =
    append_assoc at.size at.behind (byte ∷ [])
    ∙ ap (λ t. at.size ++ (t ++ byte ∷ [])) line.written
    ∙ ap (λ t. at.size ++ t) (append_assoc line.extension (13 ∷ []) (byte ∷ []))
    ∙ ap (λ b. at.size ++ (line.extension ++ 13 ∷ b ∷ [])) is
    ∙ sym (append-nil (line_text at.size line.extension)) in
    let front = push text at.chunks (at.size ++ at.behind) held [] byte (line_text at.size line.extension ++ []) at.front written in
    place_if (At limit (text ++ byte ∷ []) left held) (size == 0) Last (Data size)
    (λ none.
    let zero' : size ≡ 0 = eqb-true size 0 none in
    record {
      chunks = at.chunks;
      last = at.size;
      extension = line.extension;
      front = front;
      ends = record { form = at.form; extended = line.form; zero = sym at.number ∙ zero' };
      sum = omega (arith, at.sum, zero');
    })
    (λ some.
    let positive : 0 < size = grind (arith, some) in
    record {
      chunks = at.chunks;
      size = at.size;
      extension = line.extension;
      part = [];
      front = front;
      form = at.form;
      extended = line.form;
      number = omega (arith, at.number);
      some = omega (arith, at.number, positive);
      sum = omega (arith, at.sum);
    })

from_line : (limit : ℕ) (text : List ℕ) (size : ℕ) (tail : Tail) (left : ℕ) (held : List ℕ) (byte : ℕ) → AtLine limit text size tail left held → Goes limit text (Line size tail) left held byte (read_line size tail byte)
unfolding turned
from_line limit text size Blanks left held byte at =
    step_if (Goes limit text (Line size Blanks) left held byte) (is_blank byte) (Moves (Line size Blanks)) _
    (λ is. line_push limit text size Blanks Blanks left held byte at (all_push is_blank at.behind byte at.follows is))
    (λ no'.
    from_expected limit text (Line size Blanks) (Line size Extension) left held byte 59
    (λ is. line_push limit text size Blanks Extension left held byte at (semicolon_given at.behind byte at.follows is)))
from_line limit text size Extension left held byte at =
    let P = Goes limit text (Line size Extension) left held byte in
    step_if P (byte == 13) (Moves (Line size End)) _
    (λ is.
    line_push limit text size Extension End left held byte at
    (record { extension = at.behind; form = inr at.follows; written = ap (λ b. at.behind ++ b ∷ []) (eqb-true byte 13 is) }))
    (λ no'.
    step_if P (is_passed byte) (Moves (Line size Extension)) Misspelled
    (λ is. line_push limit text size Extension Extension left held byte at (given_push at.behind byte at.follows is))
    (λ no'. tt))
from_line limit text size End left held byte at =
    from_expected limit text (Line size End) (place_behind size) left held byte 10
    (λ is. line_ends limit text size left held byte at is)

-- ---- data

pub data_grows : (limit : ℕ) (text : List ℕ) (more left : ℕ) (held : List ℕ) (byte : ℕ) → AtData limit text more [] left held → 0 < more → AtData limit (text ++ byte ∷ []) (more - 1) [] left (held ++ byte ∷ [])
data_grows limit text more left held byte at some =
    let longer : length (held ++ byte ∷ []) ≡ length held + 1 = length_push held byte in
    let longer' : length (at.part ++ byte ∷ []) ≡ length at.part + 1 = length_push at.part byte in
    let line = line_text at.size at.extension in
    let next : (line ++ (at.part ++ [])) ++ byte ∷ [] ≡ line ++ ((at.part ++ byte ∷ []) ++ []) =
    append_assoc line (at.part ++ []) (byte ∷ [])
    ∙ ap (λ t. line ++ (t ++ byte ∷ [])) (append-nil at.part)
    ∙ ap (λ t. line ++ t) (sym (append-nil (at.part ++ byte ∷ []))) in
    let front = push text at.chunks (line ++ (at.part ++ [])) held at.part byte _ at.front next in
    record {
      chunks = at.chunks;
      size = at.size;
      extension = at.extension;
      part = at.part ++ byte ∷ [];
      front = record {
        each = front.each;
        written = front.written;
        given = ap (λ t. t ++ byte ∷ []) front.given ∙ append_assoc (data_of at.chunks) at.part (byte ∷ []);
      };
      form = at.form;
      extended = at.extended;
      number = omega (arith, at.number, longer', some);
      some = at.some;
      sum = omega (arith, at.sum, longer, some);
    }

data_ends : (limit : ℕ) (text : List ℕ) (more left : ℕ) (held : List ℕ) (byte : ℕ) → AtData limit text more [] left held → more ≡ 0 → byte ≡ 13 → AtData limit (text ++ byte ∷ []) 0 (13 ∷ []) left held
data_ends limit text more left held byte at none is =
    let line = line_text at.size at.extension in
    let next : (line ++ (at.part ++ [])) ++ byte ∷ [] ≡ line ++ (at.part ++ 13 ∷ []) =
    append_assoc line (at.part ++ []) (byte ∷ [])
    ∙ ap (λ t. line ++ (t ++ byte ∷ [])) (append-nil at.part)
    ∙ ap (λ b. line ++ (at.part ++ b ∷ [])) is in
    record {
      chunks = at.chunks;
      size = at.size;
      extension = at.extension;
      part = at.part;
      front = push text at.chunks (line ++ (at.part ++ [])) held at.part byte _ at.front next;
      form = at.form;
      extended = at.extended;
      number = omega (arith, at.number, none);
      some = at.some;
      sum = omega (arith, at.sum, none);
    }

chunk_ends : (limit : ℕ) (text : List ℕ) (left : ℕ) (held : List ℕ) (byte : ℕ) → AtData limit text 0 (13 ∷ []) left held → byte ≡ 10 → AtSize limit (text ++ byte ∷ []) (0, 0) left held
chunk_ends limit text left held byte at is =
    let chunk : Chunk = record { size = at.size; extension = at.extension; bytes = at.part } in
    let form : IsChunk chunk = record { form = at.form; extended = at.extended; long = omega (arith, at.number); some = omega (arith, at.number, at.some) } in
    let line = line_text at.size at.extension in
    let next : (line ++ (at.part ++ 13 ∷ [])) ++ byte ∷ [] ≡ chunk_text chunk =
    append_assoc line (at.part ++ 13 ∷ []) (byte ∷ [])
    ∙ ap (λ t. line ++ t) (append_assoc at.part (13 ∷ []) (byte ∷ []))
    ∙ ap (λ b. line ++ (at.part ++ 13 ∷ b ∷ [])) is in
    let front = push text at.chunks (line ++ (at.part ++ 13 ∷ [])) held at.part byte (chunk_text chunk) at.front next in
    record {
      chunks = at.chunks ++ chunk ∷ [];
      tail = [];
      front = record {
        each = chunks_push at.chunks chunk front.each form;
        written = front.written ∙ text_push at.chunks chunk;
        given = front.given ∙ sym (data_push at.chunks chunk) ∙ sym (append-nil (data_of (at.chunks ++ chunk ∷ [])));
      };
      count = refl;
      most = omega arith;
      spelled = refl;
      number = refl;
      sum = omega (arith, at.sum);
    }

-- ---- the end

last_push : (limit : ℕ) (text rest : List ℕ) (left : ℕ) (held : List ℕ) (byte wanted : ℕ) → AtLast limit text rest left held → byte ≡ wanted → AtLast limit (text ++ byte ∷ []) (rest ++ wanted ∷ []) left held
last_push limit text rest left held byte wanted at is = record {
  chunks = at.chunks;
  last = at.last;
  extension = at.extension;
  front =
      push text at.chunks (line_text at.last at.extension ++ rest) held [] byte (line_text at.last at.extension ++ (rest ++ wanted ∷ [])) at.front
      (append_assoc (line_text at.last at.extension) rest (byte ∷ []) ∙ ap (λ b. line_text at.last at.extension ++ (rest ++ b ∷ [])) is);
  ends = at.ends;
  sum = at.sum;
}

-- a byte that is no data
pub from_place : (limit : ℕ) (text : List ℕ) (place : Place) (left : ℕ) (held : List ℕ) (byte : ℕ) → At limit text left held place → is_data place ≡ false → Goes limit text place left held byte (read place byte)
unfolding turned read
from_place limit text (Size digits) left held byte at other = from_size limit text digits left held byte at
from_place limit text (Line size tail) left held byte at other = from_line limit text size tail left held byte at
from_place limit text (Data more) left held byte at other =
    let none = ltb-false 0 more other in
    from_expected limit text (Data more) DataEnd left held byte 13
    (λ is. data_ends limit text more left held byte at (omega (arith, none)) is)
from_place limit text DataEnd left held byte at other =
    from_expected limit text DataEnd (Size (0, 0)) left held byte 10 (λ is. chunk_ends limit text left held byte at is)
from_place limit text Last left held byte at other =
    from_expected limit text Last LastEnd left held byte 13 (λ is. last_push limit text [] left held byte 13 at is)
from_place limit text LastEnd left held byte at other =
    from_expected limit text LastEnd Over left held byte 10 (λ is. last_push limit text (13 ∷ []) left held byte 10 at is)
from_place limit text Over left held byte at other = tt
from_place limit text (Refused fault) left held byte at other = tt
