-- Bytes in a file, one behind another.
use Rattle.std.proofs.Common.{◌≡◌, ◌∙◌, inl, inr, sym, ap, subst, refl, ℕ, ◌+◌, ◌-◌, ◌<◌, ◌≤◌, List, [], ◌++◌, length, take, slice_index, append_assoc, arith, length-append, length-take}
use Rattle.std.proofs.lemmas.Bool.{cases_lt}
use Rattle.std.proofs.lemmas.List.{get_or_append_left, get_or-append_right, append-nil, take_all}
use Rattle.std.proofs.Math.Seq.{take-add}
use Rattle.sqlite_disk.specs.Disk.{Holds}
use Rattle.s3_bodies.specs.Pieces.{IsPieceAt}
use Rattle.s3_block_file.specs.declared.extent.Extent.{Extent}
use Rattle.s3_block_file.specs.Extent.{Stores, StartsWith}
use Rattle.s3_block_bodies.specs.Header.{sum_of, header_for, header_of, stored}
use Rattle.s3_block_bodies.proofs.HeaderLemmas.{length-header, length-stored, header_at}

pub holds_more : (file xs ys : List ℕ) (at next : ℕ) → next ≡ at + length xs → Holds file at xs → Holds file next ys → Holds file at (xs ++ ys)
holds_more file xs ys at next place first second = record {
  within = omega (arith, second.within, length-append xs ys);
  each = λ i low.
      elim (cases_lt i (length xs)) [
        | inl under ↦ first.each i under ∙ sym (get_or_append_left xs ys 0 i under)
        | inr over ↦
            let j = i - length xs in
            let low_j : j < length ys = omega (arith, length-append xs ys) in
            let there : next + j ≡ at + i = omega arith in
            ap (slice_index file) (sym there) ∙ second.each j low_j ∙ sym (get_or-append_right xs ys (length xs) i 0 refl over)
      ];
}

pub holds_none : (file : List ℕ) (at : ℕ) → at ≤ length file → Holds file at []
holds_none file at inside = record {
  within = omega (arith, inside);
  each = λ i low. absurd (omega (arith, low));
}

-- what an extent starts with, where it is as long
pub starts_whole : (file bytes : List ℕ) (e : Extent) → length bytes ≡ e.size → 0 < length bytes → StartsWith file e bytes → Stores file e bytes
starts_whole file bytes e size some starts = record {
  size = size;
  holds = record {
    within = omega (arith, (starts.each (length bytes - 1) (omega arith)).0);
    each = λ i low. (starts.each i low).1;
  };
}

-- a piece behind the bytes before it
pub next_piece : (bytes piece : List ℕ) (at : ℕ) → IsPieceAt at bytes piece → take (at + length piece) bytes ≡ take at bytes ++ piece
next_piece bytes piece at is = take-add at (length piece) bytes ∙ ap (λ l. take at bytes ++ l) is.stands

-- a header, and then the bytes of its body piece by piece
pub starts_none : (file : List ℕ) (e : Extent) → StartsWith file e []
starts_none file e = record { each = λ i low. absurd (omega (arith, low)) }

pub starts_header : (file bytes piece : List ℕ) (e : Extent) (size sum : ℕ) → piece ≡ header_for size sum → size ≡ length bytes → sum ≡ sum_of bytes → StartsWith file e piece → StartsWith file e (header_of bytes)
starts_header file bytes piece e size sum piece_is size_is sum_is starts = subst (StartsWith file e) (piece_is ∙ header_at size sum bytes size_is sum_is) starts

pub starts_first : (file bytes : List ℕ) (e : Extent) → StartsWith file e (header_of bytes) → StartsWith file e (header_of bytes ++ take 0 bytes)
starts_first file bytes e starts = subst (StartsWith file e) (sym (append-nil (header_of bytes))) starts

pub length-before : (bytes : List ℕ) (at : ℕ) → at ≤ length bytes → length (header_of bytes ++ take at bytes) ≡ 32 + at
length-before bytes at inside = omega (arith, length-append (header_of bytes) (take at bytes), length-header (length bytes) (sum_of bytes), length-take at bytes)

pub starts_more : (file bytes piece : List ℕ) (e : Extent) (at : ℕ) → IsPieceAt at bytes piece → StartsWith file e ((header_of bytes ++ take at bytes) ++ piece) → StartsWith file e (header_of bytes ++ take (at + length piece) bytes)
starts_more file bytes piece e at is starts =
    subst (StartsWith file e) (append_assoc (header_of bytes) (take at bytes) piece ∙ ap (λ l. header_of bytes ++ l) (sym (next_piece bytes piece at is))) starts

pub starts_stored : (file bytes : List ℕ) (e : Extent) (at : ℕ) → e.size ≡ length bytes + 32 → length bytes ≤ at → StartsWith file e (header_of bytes ++ take at bytes) → Stores file e (stored bytes)
starts_stored file bytes e at size whole starts =
    starts_whole file (stored bytes) e (length-stored bytes ∙ sym size) (omega (arith, length-stored bytes))
    (subst (λ l. StartsWith file e (header_of bytes ++ l)) (take_all at bytes whole) starts)
