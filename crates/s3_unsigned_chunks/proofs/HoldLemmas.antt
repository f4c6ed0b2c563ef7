-- What is open is the front of a body, and holds its data so far.
use Rattle.std.proofs.Common.{◌≡◌, ℕ, suc, zero, ◌+◌, ◌-◌, ◌<◌, ◌≤◌, ◌⊎◌, ⊎_elim, inl, inr, true, false, List, [], ◌∷◌, ◌++◌, length, take, drop, map, replicate, refl, sym, ap, ◌∙◌, subst, arith, append_assoc, length-append}
use Rattle.std.proofs.lemmas.Bool.{false≢true}
use Rattle.std.proofs.lemmas.List.{append-nil, length-replicate, map-append, nil_from_length, take-append-drop, take_all, take_at}
use Rattle.std.specs.Char.{to_ascii_lowercase}
use Rattle.std.specs.List.{list_all}
use Rattle.s3_text.specs.Characters.{colon, crlf}
use Rattle.s3_unsigned_chunks.specs.Body.{AreSameName, BeginsChunk, BeginsEnd, Chunk, HoldsSoFar, IsGap, IsZero, is_size, is_value, size_of}
use Rattle.s3_unsigned_chunks.specs.Place.{is_hex}
use Rattle.s3_unsigned_chunks.specs.Reading.{Terms, is_settled, run, started}
use Rattle.s3_unsigned_chunks.specs.Verdict.{Open, Verdict, verdict_at, verdict_of}
use Rattle.s3_unsigned_chunks.specs.Verdict as verdicts
use Rattle.s3_unsigned_chunks.specs.declared.place.Place.{Place}
use Rattle.s3_unsigned_chunks.specs.declared.place.Place.TheVariants.{Size, SizeEnd, Data, DataEnd, Name, Value, Gap, ValueEnd, Last, LastEnd, Over, Refused}
use Rattle.s3_unsigned_chunks.proofs.AcceptLemmas.{course_bytes}
use Rattle.s3_unsigned_chunks.proofs.CourseLemmas.{At, AtClose, AtEnd, AtName, AtTrailer, AtValue, Front, size_form, value_form}
use Rattle.s3_unsigned_chunks.proofs.FinalLemmas.{nothing_taken, open_place, open_taken}

-- what the definition says of a front and the data in it
abbrev Begins : Terms → List ℕ → List ℕ → Type 0
Begins terms front part = BeginsChunk front part ⊎ ((part ≡ []) × BeginsEnd terms front)

-- the shortest value
abbrev letter : List ℕ
letter = 65 ∷ []

-- the front of a chunk of so much data, within the line of its size
line_begins : (size front rest : List ℕ) → is_size size ≡ true → 0 < size_of size → size ++ crlf ≡ front ++ rest → BeginsChunk front []
line_begins size front rest form some is =
    let bytes = replicate (size_of size) 0 in
    let long : length bytes ≡ size_of size = length-replicate (size_of size) 0 in
    let whole : length size + 2 ≡ length front + length rest = sym (length-append size crlf) ∙ ap length is ∙ length-append front rest in
    let none : length front - (length size + 2) ≡ 0 = omega (arith, whole) in
    record {
      chunk = record { size = size; bytes = bytes };
      rest = rest ++ (bytes ++ crlf);
      form = record { form = form; long = sym long; some = omega (arith, long, some) };
      begun = sym (append_assoc size crlf (bytes ++ crlf)) ∙ ap (λ t. t ++ (bytes ++ crlf)) is ∙ append_assoc front rest (bytes ++ crlf);
      partial = ap (λ n. take n bytes) (sym none);
    }

-- the same of the last size
last_begins : (terms : Terms) (size front rest : List ℕ) → IsZero size → size ++ crlf ≡ front ++ rest → BeginsEnd terms front
last_begins terms size front rest zero' is =
    let behind = terms.name ++ colon ∷ (letter ++ (crlf ++ crlf)) in
    record {
      last = size;
      name = terms.name;
      value = letter;
      gap = [];
      rest = rest ++ behind;
      ends = zero';
      named = refl;
      valued = refl;
      parted = inl refl;
      begun = sym (append_assoc size crlf behind) ∙ ap (λ t. t ++ behind) is ∙ append_assoc front rest behind;
    }

-- and of either
size_begins : (terms : Terms) (size front rest : List ℕ) (number : ℕ) → is_size size ≡ true → size_of size ≡ number → size ++ crlf ≡ front ++ rest → Begins terms front []
size_begins terms size front rest zero form is same =
    inr (refl, last_begins terms size front rest (record { form = form; zero = is }) same)
size_begins terms size front rest (suc number) form is same =
    inl (line_begins size front rest form (omega (arith, is)) same)

digits_begin : (terms : Terms) (tail : List ℕ) (count : ℕ) → length tail ≡ count → count ≤ 8 → list_all is_hex tail ≡ true → Begins terms tail []
digits_begin terms tail zero long most all =
    let one : size_of (49 ∷ []) ≡ 1 = refl in
    subst (λ (t : List ℕ). Begins terms t []) (sym (nil_from_length tail long))
    (inl (line_begins (49 ∷ []) [] (49 ∷ crlf) refl (omega (arith, one)) refl))
digits_begin terms tail (suc count) long most all =
    size_begins terms tail tail crlf (size_of tail) (size_form tail (omega (arith, long)) (omega (arith, long, most)) all) refl refl

-- what a place says, where chunks and this front have come
holds : (terms : Terms) (text : List ℕ) (chunks : List Chunk) (front : List ℕ) (taken : ℕ) (held part : List ℕ) → Front text chunks front taken held part → Begins terms front part → HoldsSoFar terms text held
holds terms text chunks front taken held part come begins =
    record { chunks = chunks; front = front; part = part; each = come.each; written = come.written; begins = begins; joined = come.given }

-- the front of a chunk, behind the line of its size
data_begins : (size part rest : List ℕ) (more : ℕ) (behind : List ℕ) → is_size size ≡ true → size_of size ≡ length part + more → 0 < size_of size → (behind ≡ []) ⊎ (more ≡ 0) → replicate more 0 ++ crlf ≡ behind ++ rest → BeginsChunk (size ++ (crlf ++ (part ++ behind))) part
data_begins size part rest more behind form number some which same =
    let nulls : List ℕ = replicate more 0 in
    let bytes : List ℕ = part ++ nulls in
    let zeros : length nulls ≡ more = length-replicate more 0 in
    let long : length bytes ≡ length part + length nulls = length-append part nulls in
    let front : List ℕ = size ++ (crlf ++ (part ++ behind)) in
    let inner : length (part ++ behind) ≡ length part + length behind = length-append part behind in
    let count : length front ≡ length size + length (crlf ++ (part ++ behind)) = length-append size (crlf ++ (part ++ behind)) in
    record {
      chunk = record { size = size; bytes = bytes };
      rest = rest;
      form = record { form = form; long = omega (arith, number, long, zeros); some = omega (arith, number, long, zeros, some) };
      begun =
          ap (λ t. size ++ (crlf ++ t)) (append_assoc part nulls crlf ∙ ap (λ t. part ++ t) same ∙ sym (append_assoc part behind rest))
          ∙ sym (append_assoc size (crlf ++ (part ++ behind)) rest);
      partial =
          ⊎_elim
          (λ (none : behind ≡ []).
          let empty : length behind ≡ 0 = ap length none in
          let at : length part ≡ length front - (length size + 2) = omega (arith, count, inner, empty) in
          sym (take_at part nulls (length part) refl) ∙ ap (λ n. take n bytes) at)
          (λ (none : more ≡ 0).
          let all : bytes ≡ part = ap (λ n. part ++ replicate n 0) none ∙ append-nil part in
          sym (ap (take (length front - (length size + 2))) all ∙ take_all (length front - (length size + 2)) part (omega (arith, count, inner))))
          which;
    }

-- the trailer
trailer_holds : (terms : Terms) (text rest : List ℕ) (taken left : ℕ) (held name value gap more : List ℕ) → AtTrailer terms text rest taken left held → AreSameName name terms.name → is_value value ≡ true → IsGap gap → name ++ colon ∷ (value ++ (gap ++ (crlf ++ crlf))) ≡ rest ++ more → HoldsSoFar terms text held
trailer_holds terms text rest taken left held name value gap more at named valued parted is =
    holds terms text at.chunks (at.last ++ (crlf ++ rest)) taken held [] at.front
    (inr (
      refl,
      record {
        last = at.last;
        name = name;
        value = value;
        gap = gap;
        rest = more;
        ends = at.ends;
        named = named;
        valued = valued;
        parted = parted;
        begun = ap (λ t. at.last ++ (crlf ++ t)) is ∙ sym (append_assoc at.last (crlf ++ rest) more);
      },
    ))

name_holds : (terms : Terms) (text : List ℕ) (matched taken left : ℕ) (value held : List ℕ) → AtName terms text matched taken left value held → HoldsSoFar terms text held
name_holds terms text matched taken left value held at =
    let more = drop matched terms.name in
    let behind = colon ∷ (letter ++ (crlf ++ crlf)) in
    trailer_holds terms text at.rest taken left held (at.rest ++ more) letter [] (more ++ behind) at.at
    (map-append to_ascii_lowercase at.rest more
    ∙ ap (λ t. t ++ map to_ascii_lowercase more) at.same
    ∙ sym (map-append to_ascii_lowercase (take matched terms.name) more)
    ∙ ap (map to_ascii_lowercase) (take-append-drop matched terms.name))
    refl
    (inl refl)
    (append_assoc at.rest more behind)

value_holds : (terms : Terms) (text : List ℕ) (taken left : ℕ) (value held : List ℕ) (count : ℕ) → length value ≡ count → AtValue terms text taken left value held → HoldsSoFar terms text held
value_holds terms text taken left value held zero long at =
    let none : value ≡ [] = nil_from_length value long in
    trailer_holds terms text (at.name ++ colon ∷ value) taken left held at.name letter [] (letter ++ (crlf ++ crlf)) at.at at.named refl (inl refl)
    (sym (append_assoc at.name (colon ∷ []) (letter ++ (crlf ++ crlf)))
    ∙ ap (λ v. (at.name ++ colon ∷ v) ++ (letter ++ (crlf ++ crlf))) (sym none))
value_holds terms text taken left value held (suc count) long at =
    trailer_holds terms text (at.name ++ colon ∷ value) taken left held at.name value [] (crlf ++ crlf) at.at at.named
    (value_form value (omega (arith, long)) at.most at.spelled)
    (inl refl)
    (sym (append_assoc at.name (colon ∷ value) (crlf ++ crlf)))

end_holds : (terms : Terms) (text gap behind more : List ℕ) (taken left : ℕ) (value held : List ℕ) → AtEnd terms text behind taken left value held → IsGap gap → gap ++ (crlf ++ crlf) ≡ behind ++ more → HoldsSoFar terms text held
end_holds terms text gap behind more taken left value held at parted is =
    trailer_holds terms text (at.name ++ colon ∷ (value ++ behind)) taken left held at.name value gap more at.at at.named at.valued parted
    (ap (λ t. at.name ++ colon ∷ (value ++ t)) is
    ∙ ap (λ t. at.name ++ colon ∷ t) (sym (append_assoc value behind more))
    ∙ sym (append_assoc at.name (colon ∷ (value ++ behind)) more))

close_holds : (terms : Terms) (text behind more : List ℕ) (taken left : ℕ) (value held : List ℕ) → AtClose terms text behind taken left value held → crlf ++ crlf ≡ behind ++ more → HoldsSoFar terms text held
close_holds terms text behind more taken left value held close is =
    end_holds terms text close.gap (close.gap ++ behind) more taken left value held close.at close.parted
    (ap (λ t. close.gap ++ t) is ∙ sym (append_assoc close.gap behind more))

place_holds : (terms : Terms) (text : List ℕ) (place : Place) (taken left : ℕ) (value held : List ℕ) → At terms text taken left value held place → is_settled place ≡ false → HoldsSoFar terms text held
place_holds terms text (Size digits) taken left value held at open' =
    holds terms text at.chunks at.tail taken held [] at.front
    (digits_begin terms at.tail (length at.tail) refl (omega (arith, at.count, at.most)) at.spelled)
place_holds terms text (SizeEnd size) taken left value held at open' =
    holds terms text at.chunks (at.size ++ 13 ∷ []) taken held [] at.front
    (size_begins terms at.size (at.size ++ 13 ∷ []) (10 ∷ []) (size_of at.size) at.form refl (sym (append_assoc at.size (13 ∷ []) (10 ∷ []))))
place_holds terms text (Data more) taken left value held at open' =
    holds terms text at.chunks _ taken held at.part at.front
    (inl (data_begins at.size at.part (replicate more 0 ++ crlf) more [] at.form at.number at.some (inl refl) refl))
place_holds terms text DataEnd taken left value held at open' =
    holds terms text at.chunks _ taken held at.part at.front
    (inl (data_begins at.size at.part (10 ∷ []) 0 (13 ∷ []) at.form at.number at.some (inr refl) refl))
place_holds terms text (Name matched) taken left value held at open' = name_holds terms text matched taken left value held at
place_holds terms text Value taken left value held at open' = value_holds terms text taken left value held (length value) refl at
place_holds terms text Gap taken left value held at open' = end_holds terms text (10 ∷ []) (10 ∷ []) (crlf ++ crlf) taken left value held at (inr refl) refl
place_holds terms text ValueEnd taken left value held at open' = close_holds terms text (13 ∷ []) (10 ∷ crlf) taken left value held at refl
place_holds terms text Last taken left value held at open' = close_holds terms text crlf crlf taken left value held at refl
place_holds terms text LastEnd taken left value held at open' = close_holds terms text (crlf ++ 13 ∷ []) (10 ∷ []) taken left value held at refl
place_holds terms text Over taken left value held at open' = absurd (false≢true (sym open'))
place_holds terms text (Refused fault) taken left value held at open' = absurd (false≢true (sym open'))

abbrev data_in : Verdict → List ℕ
data_in (Open held) = held
data_in (verdicts.Refused place code) = []
data_in (verdicts.Accepted held value) = []

open_held : (place : Place) (taken : ℕ) (value held : List ℕ) → is_settled place ≡ false → data_in (verdict_at place taken value held) ≡ held
open_held (Size digits) taken value held open' = refl
open_held (SizeEnd size) taken value held open' = refl
open_held (Data left) taken value held open' = refl
open_held DataEnd taken value held open' = refl
open_held (Name matched) taken value held open' = refl
open_held Value taken value held open' = refl
open_held Gap taken value held open' = refl
open_held ValueEnd taken value held open' = refl
open_held Last taken value held open' = refl
open_held LastEnd taken value held open' = refl
open_held Over taken value held open' = absurd (false≢true (sym open'))
open_held (Refused fault) taken value held open' = absurd (false≢true (sym open'))

pub open_holds : (terms : Terms) (bytes held : List ℕ) → verdict_of terms bytes false ≡ Open held → HoldsSoFar terms bytes held
open_holds terms bytes held is =
    let r = run terms (started terms) bytes in
    let open' = (open_place r.place r.taken r.value r.held held is).0 in
    let all = (open_taken terms bytes held is).0 in
    let nothing = nothing_taken terms in
    let whole : take (r.taken - (started terms).taken) bytes ≡ bytes = take_all (r.taken - (started terms).taken) bytes (omega (arith, all, nothing)) in
    let at : At terms bytes r.taken r.left r.value r.held r.place = subst (λ (t : List ℕ). At terms t r.taken r.left r.value r.held r.place) whole (course_bytes terms bytes) in
    subst (HoldsSoFar terms bytes) (sym (open_held r.place r.taken r.value r.held open') ∙ ap data_in is)
    (place_holds terms bytes r.place r.taken r.left r.value r.held at open')
