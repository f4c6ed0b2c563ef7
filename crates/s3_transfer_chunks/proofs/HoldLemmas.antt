-- What is open begins a body, and holds its data so far.
use Rattle.std.proofs.Common.{◌≡◌, ℕ, suc, zero, ◌+◌, ◌-◌, ◌<◌, ◌≤◌, ◌⊎◌, ⊎_elim, inl, inr, true, false, List, [], ◌∷◌, ◌++◌, length, take, replicate, refl, sym, ap, ◌∙◌, subst, arith, append_assoc, length-append}
use Rattle.std.proofs.lemmas.Bool.{false≢true}
use Rattle.std.proofs.lemmas.List.{append-nil, length-replicate, nil_from_length, take_all, take_at}
use Rattle.std.specs.List.{list_all}
use Rattle.s3_text.specs.Characters.{crlf}
use Rattle.s3_transfer_chunks.specs.Body.{BeginsChunk, BeginsEnd, Chunk, HoldsSoFar, IsExtension, IsLast, is_size, line_text, size_of}
use Rattle.s3_transfer_chunks.specs.Place.{is_hex}
use Rattle.s3_transfer_chunks.specs.Reading.{is_settled, run, started, taken_in}
use Rattle.s3_transfer_chunks.specs.Verdict.{Open, Verdict, verdict_at, verdict_of}
use Rattle.s3_transfer_chunks.specs.Verdict as verdicts
use Rattle.s3_transfer_chunks.specs.declared.place.Place.{Place}
use Rattle.s3_transfer_chunks.specs.declared.place.Place.TheVariants.{Size, Line, Data, DataEnd, Last, LastEnd, Over, Refused}
use Rattle.s3_transfer_chunks.specs.declared.place.Tail.{Tail}
use Rattle.s3_transfer_chunks.specs.declared.place.Tail.TheVariants.{Blanks, Extension, End}
use Rattle.s3_transfer_chunks.proofs.AcceptLemmas.{course_bytes}
use Rattle.s3_transfer_chunks.proofs.CourseLemmas.{At, AtLast, Front, IsTail, size_form}
use Rattle.s3_transfer_chunks.proofs.FinalLemmas.{open_place, open_taken}

-- what the definition says of a front and the data in it
abbrev Begins : List ℕ → List ℕ → Type 0
Begins front part = BeginsChunk front part ⊎ ((part ≡ []) × BeginsEnd front)

-- the front of a chunk of so much data, within the line of its size
line_begins : (size extension front rest : List ℕ) → is_size size ≡ true → IsExtension extension → 0 < size_of size → line_text size extension ≡ front ++ rest → BeginsChunk front []
line_begins size extension front rest form which some is =
    let bytes : List ℕ = replicate (size_of size) 0 in
    let line = line_text size extension in
    let long : length bytes ≡ size_of size = length-replicate (size_of size) 0 in
    let whole : length line ≡ length front + length rest = ap length is ∙ length-append front rest in
    let none : length front - length line ≡ 0 = omega (arith, whole) in
    record {
      chunk = record { size = size; extension = extension; bytes = bytes };
      rest = rest ++ (bytes ++ crlf);
      form = record { form = form; extended = which; long = sym long; some = omega (arith, long, some) };
      begun = ap (λ t. t ++ (bytes ++ crlf)) is ∙ append_assoc front rest (bytes ++ crlf);
      partial = ap (λ n. take n bytes) (sym none);
    }

-- the same of the last size
last_begins : (size extension front rest : List ℕ) → IsLast size extension → line_text size extension ≡ front ++ rest → BeginsEnd front
last_begins size extension front rest ends is = record {
  last = size;
  extension = extension;
  rest = rest ++ crlf;
  ends = ends;
  begun = ap (λ t. t ++ crlf) is ∙ append_assoc front rest crlf;
}

-- and of either
size_begins : (size extension front rest : List ℕ) (number : ℕ) → is_size size ≡ true → IsExtension extension → size_of size ≡ number → line_text size extension ≡ front ++ rest → Begins front []
size_begins size extension front rest zero form which is same =
    inr (refl, last_begins size extension front rest (record { form = form; extended = which; zero = is }) same)
size_begins size extension front rest (suc number) form which is same =
    inl (line_begins size extension front rest form which (omega (arith, is)) same)

digits_begin : (tail : List ℕ) (count : ℕ) → length tail ≡ count → count ≤ 16 → list_all is_hex tail ≡ true → Begins tail []
digits_begin tail zero long most all =
    let one : size_of (49 ∷ []) ≡ 1 = refl in
    subst (λ (t : List ℕ). Begins t []) (sym (nil_from_length tail long))
    (inl (line_begins (49 ∷ []) [] [] (49 ∷ crlf) refl (inl refl) (omega (arith, one)) refl))
digits_begin tail (suc count) long most all =
    size_begins tail [] tail crlf (size_of tail) (size_form tail (omega (arith, long)) (omega (arith, long, most)) all) (inl refl) refl refl

-- what stands behind digits goes on to the end of an extension and its line
pub record Completes (behind : List ℕ) : Type 0 where
  pub extension : List ℕ
  pub rest : List ℕ
  pub form : IsExtension extension
  pub begun : extension ++ crlf ≡ behind ++ rest

tail_completes : (tail : Tail) (behind : List ℕ) → IsTail tail behind → Completes behind
tail_completes Blanks behind is = record {
  extension = behind ++ 59 ∷ [];
  rest = 59 ∷ crlf;
  form = inr (record { blanks = behind; rest = []; blank = is; passed = refl; written = refl });
  begun = append_assoc behind (59 ∷ []) crlf;
}
tail_completes Extension behind is = record { extension = behind; rest = crlf; form = inr is; begun = refl }
tail_completes End behind is = record {
  extension = is.extension;
  rest = 10 ∷ [];
  form = is.form;
  begun = sym (ap (λ t. t ++ 10 ∷ []) is.written ∙ append_assoc is.extension (13 ∷ []) (10 ∷ []));
}

tail_begins : (size behind : List ℕ) → is_size size ≡ true → Completes behind → Begins (size ++ behind) []
tail_begins size behind form completes =
    size_begins size completes.extension (size ++ behind) completes.rest (size_of size) form completes.form refl
    (ap (λ t. size ++ t) completes.begun ∙ sym (append_assoc size behind completes.rest))

-- what a place says, where chunks and this front have come
holds : (text : List ℕ) (chunks : List Chunk) (front held part : List ℕ) → Front text chunks front held part → Begins front part → HoldsSoFar text held
holds text chunks front held part come begins =
    record { chunks = chunks; front = front; part = part; each = come.each; written = come.written; begins = begins; joined = come.given }

-- the front of a chunk, behind the line of its size
data_begins : (size extension part rest : List ℕ) (more : ℕ) (behind : List ℕ) → is_size size ≡ true → IsExtension extension → size_of size ≡ length part + more → 0 < size_of size → (behind ≡ []) ⊎ (more ≡ 0) → replicate more 0 ++ crlf ≡ behind ++ rest → BeginsChunk (line_text size extension ++ (part ++ behind)) part
data_begins size extension part rest more behind form extended number some which same =
    let nulls : List ℕ = replicate more 0 in
    let bytes : List ℕ = part ++ nulls in
    let line : List ℕ = line_text size extension in
    let zeros : length nulls ≡ more = length-replicate more 0 in
    let long : length bytes ≡ length part + length nulls = length-append part nulls in
    let front : List ℕ = line ++ (part ++ behind) in
    let inner : length (part ++ behind) ≡ length part + length behind = length-append part behind in
    let count : length front ≡ length line + length (part ++ behind) = length-append line (part ++ behind) in
    record {
      chunk = record { size = size; extension = extension; bytes = bytes };
      rest = rest;
      form = record { form = form; extended = extended; long = omega (arith, number, long, zeros); some = omega (arith, number, long, zeros, some) };
      begun =
          ap (λ t. line ++ t) (append_assoc part nulls crlf ∙ ap (λ t. part ++ t) same ∙ sym (append_assoc part behind rest))
          ∙ sym (append_assoc line (part ++ behind) rest);
      partial =
          ⊎_elim
          (λ (none : behind ≡ []).
          let empty : length behind ≡ 0 = ap length none in
          let at : length part ≡ length front - length line = omega (arith, count, inner, empty) in
          sym (take_at part nulls (length part) refl) ∙ ap (λ n. take n bytes) at)
          (λ (none : more ≡ 0).
          let all : bytes ≡ part = ap (λ n. part ++ replicate n 0) none ∙ append-nil part in
          sym (ap (take (length front - length line)) all ∙ take_all (length front - length line) part (omega (arith, count, inner))))
          which;
    }

-- behind the line of the last size
last_holds : (limit : ℕ) (text rest more : List ℕ) (left : ℕ) (held : List ℕ) → AtLast limit text rest left held → crlf ≡ rest ++ more → HoldsSoFar text held
last_holds limit text rest more left held at is =
    let line = line_text at.last at.extension in
    holds text at.chunks (line ++ rest) held [] at.front
    (inr (
      refl,
      record {
        last = at.last;
        extension = at.extension;
        rest = more;
        ends = at.ends;
        begun = ap (λ t. line ++ t) is ∙ sym (append_assoc line rest more);
      },
    ))

place_holds : (limit : ℕ) (text : List ℕ) (place : Place) (left : ℕ) (held : List ℕ) → At limit text left held place → is_settled place ≡ false → HoldsSoFar text held
place_holds limit text (Size digits) left held at open' =
    holds text at.chunks at.tail held [] at.front
    (digits_begin at.tail (length at.tail) refl (omega (arith, at.count, at.most)) at.spelled)
place_holds limit text (Line size tail) left held at open' =
    holds text at.chunks (at.size ++ at.behind) held [] at.front
    (tail_begins at.size at.behind at.form (tail_completes tail at.behind at.follows))
place_holds limit text (Data more) left held at open' =
    holds text at.chunks _ held at.part at.front
    (inl (data_begins at.size at.extension at.part (replicate more 0 ++ crlf) more [] at.form at.extended at.number at.some (inl refl) refl))
place_holds limit text DataEnd left held at open' =
    holds text at.chunks _ held at.part at.front
    (inl (data_begins at.size at.extension at.part (10 ∷ []) 0 (13 ∷ []) at.form at.extended at.number at.some (inr refl) refl))
place_holds limit text Last left held at open' = last_holds limit text [] crlf left held at refl
place_holds limit text LastEnd left held at open' = last_holds limit text (13 ∷ []) (10 ∷ []) left held at refl
place_holds limit text Over left held at open' = absurd (false≢true (sym open'))
place_holds limit text (Refused fault) left held at open' = absurd (false≢true (sym open'))

abbrev data_in : Verdict → List ℕ
data_in (Open held) = held
data_in (verdicts.Refused place code) = []
data_in (verdicts.Accepted place held) = []

open_held : (place : Place) (taken : ℕ) (held : List ℕ) → is_settled place ≡ false → data_in (verdict_at place taken held) ≡ held
open_held (Size digits) taken held open' = refl
open_held (Line size tail) taken held open' = refl
open_held (Data left) taken held open' = refl
open_held DataEnd taken held open' = refl
open_held Last taken held open' = refl
open_held LastEnd taken held open' = refl
open_held Over taken held open' = absurd (false≢true (sym open'))
open_held (Refused fault) taken held open' = absurd (false≢true (sym open'))

pub open_holds : (limit : ℕ) (bytes held : List ℕ) → verdict_of limit bytes false ≡ Open held → HoldsSoFar bytes held
open_holds limit bytes held is =
    let r = run (started limit) bytes in
    let open' = open_place r.place (taken_in limit bytes) r.held held is in
    let all = open_taken limit bytes held is in
    let whole : take (taken_in limit bytes) bytes ≡ bytes = take_all (taken_in limit bytes) bytes (omega (arith, all)) in
    let at : At limit bytes r.left r.held r.place = subst (λ (t : List ℕ). At limit t r.left r.held r.place) whole (course_bytes limit bytes) in
    subst (HoldsSoFar bytes) (sym (open_held r.place (taken_in limit bytes) r.held open') ∙ ap data_in is)
    (place_holds limit bytes r.place r.left r.held at open')
