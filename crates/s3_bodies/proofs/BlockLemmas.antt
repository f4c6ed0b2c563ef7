-- Blocks one behind another.
use Rattle.std.proofs.Common.{◌≡◌, refl, sym, ap, ◌∙◌, ℕ, zero, suc, min, ◌+◌, ◌-◌, ◌*◌, ◌<◌, ◌≤◌, List, [], ◌∷◌, ◌++◌, length, take, drop, get_or, arith, length-append, length-drop, length-take, append_assoc, append-nil}
use Rattle.std.proofs.lemmas.List.{take-append-drop}
use Rattle.std.proofs.lemmas.List.Folds.{concat-append}
use Rattle.std.proofs.lemmas.Grind.{elements}
use Rattle.std.specs.List.{All, concat}
use Rattle.s3_bodies.specs.Pieces.{IsPieceAt, AreBlocks}
use Rattle.s3_bodies.proofs.PieceLemmas.{piece_ends, elsewhere, rest_at, before, behind}

next_place : (block : List ℕ) (width index from : ℕ) → length block ≡ width → length block + (index * width + from) ≡ suc index * width + from
next_place block width index from is = grind (arith, is)

too_far : (width index from most : ℕ) → most ≤ width → suc index * width + from < most → ⊥
too_far width index from most fits inside = grind arith

later : (width : ℕ) (block : List ℕ) (full : List (List ℕ)) → All (λ block. length block ≡ width) (block ∷ full) → All (λ block. length block ≡ width) full
later width block full all = λ k d inside. all (suc k) d (omega arith)

-- a place in a full block
in_full : (full : List (List ℕ)) (last : List ℕ) (width index from : ℕ) → All (λ block. length block ≡ width) full
    → index < length full → from < width → (d : List ℕ) → IsPieceAt (index * width + from) (concat full ++ last) (drop from (get_or full index d))
in_full [] last width index from all index_in from_in d = absurd (omega arith)
in_full (block ∷ full) last width zero from all index_in from_in d =
    rw (append_assoc block (concat full) last)
    (elsewhere _ _ _ _ (omega arith) (before block (concat full ++ last) _ from (rest_at block from (omega (arith, all 0 d (omega arith))))))
in_full (block ∷ full) last width (suc index) from all index_in from_in d =
    rw (append_assoc block (concat full) last)
    (elsewhere _ _ _ _ (next_place block width index from (all 0 d (omega arith)))
    (behind block (concat full ++ last) _ (index * width + from)
    (in_full full last width index from (later width block full all) (omega arith) from_in d)))

-- a place in the last block
in_last : (full : List (List ℕ)) (last : List ℕ) (width index from : ℕ) → All (λ block. length block ≡ width) full → length last ≤ width
    → length full ≤ index → index * width + from < length (concat full ++ last)
    → (from < length last) × IsPieceAt (index * width + from) (concat full ++ last) (drop from last)
in_last [] last width zero from all fits past inside =
    let within : from < length last = omega arith in (within, elsewhere _ _ _ _ (omega arith) (rest_at last from within))
in_last [] last width (suc index) from all fits past inside = absurd (too_far width index from (length last) fits inside)
in_last (block ∷ full) last width zero from all fits past inside = absurd (omega arith)
in_last (block ∷ full) last width (suc index) from all fits past inside =
    let place = next_place block width index from (all 0 [] (omega arith)) in
    let length_is : length ((block ++ concat full) ++ last) ≡ length block + length (concat full ++ last) =
    ap length (append_assoc block (concat full) last) ∙ length-append block (concat full ++ last) in
    let further = in_last full last width index from (later width block full all) fits (omega arith) (omega arith) in
    (further.0, rw (append_assoc block (concat full) last) (elsewhere _ _ _ _ place (behind block (concat full ++ last) _ (index * width + from) further.1)))

-- how many bytes are left from there on
left_in_last : (full : List (List ℕ)) (last : List ℕ) (width index from : ℕ) → All (λ block. length block ≡ width) full → length last ≤ width
    → length full ≤ index → index * width + from < length (concat full ++ last)
    → length (concat full ++ last) ≡ index * width + from + (length last - from)
left_in_last [] last width zero from all fits past inside = omega arith
left_in_last [] last width (suc index) from all fits past inside = absurd (too_far width index from (length last) fits inside)
left_in_last (block ∷ full) last width zero from all fits past inside = absurd (omega arith)
left_in_last (block ∷ full) last width (suc index) from all fits past inside =
    let place = next_place block width index from (all 0 [] (omega arith)) in
    let length_is : length ((block ++ concat full) ++ last) ≡ length block + length (concat full ++ last) =
    ap length (append_assoc block (concat full) last) ∙ length-append block (concat full ++ last) in
    let further = left_in_last full last width index from (later width block full all) fits (omega arith) (omega arith) in
    omega (arith, place, length_is, further)

-- the same, as the code finds them
module _ (width : ℕ) (full : List (List ℕ)) (last bytes : List ℕ) (are : AreBlocks width full last bytes) (at index from : ℕ) (place : index * width + from ≡ at) where
  pub full_inside : (block : List ℕ) → from < width → index < length full → block ≡ get_or full index block → from ≤ length block
  full_inside block from_in index_in block_is = omega (arith, are.full_width index block index_in, ap length block_is)

  pub full_piece : (block piece : List ℕ) → from < width → index < length full → block ≡ get_or full index block → piece ≡ drop from block
      → IsPieceAt at bytes piece
  full_piece block piece from_in index_in block_is piece_is =
      rw (piece_is, ← are.bytes_are, ← place, block_is) (in_full full last width index from are.full_width index_in from_in block)

  pub last_inside : at < length bytes → length full ≤ index → from ≤ length last
  last_inside inside past =
      omega (arith, (in_last full last width index from are.full_width are.last_width past (rw (place, are.bytes_are) inside)).0)

  pub last_piece : (piece : List ℕ) → at < length bytes → length full ≤ index → piece ≡ drop from last → IsPieceAt at bytes piece
  last_piece piece inside past piece_is =
      rw (piece_is, ← are.bytes_are, ← place)
      (in_last full last width index from are.full_width are.last_width past (rw (place, are.bytes_are) inside)).1

  -- how long these pieces are
  pub full_size : (block piece : List ℕ) → from < width → index < length full → block ≡ get_or full index block → piece ≡ drop from block
      → length piece ≡ min (width - from) (length bytes - at)
  full_size block piece from_in index_in block_is piece_is =
      let ends = piece_ends bytes piece at (full_piece block piece from_in index_in block_is piece_is) in
      omega (arith, ends, are.full_width index block index_in, ap length block_is, ap length piece_is, length-drop from block)

  pub last_size : (piece : List ℕ) → at < length bytes → length full ≤ index → piece ≡ drop from last → length piece ≡ min (width - from) (length bytes - at)
  last_size piece inside past piece_is =
      let left = left_in_last full last width index from are.full_width are.last_width past (rw (place, are.bytes_are) inside) in
      omega (arith, left, place, ap length are.bytes_are, ap length piece_is, length-drop from last, are.last_width, last_inside inside past)

-- one more block
pub concat_push : (full : List (List ℕ)) (block : List ℕ) → concat (full ++ block ∷ []) ≡ concat full ++ block
concat_push full block = concat-append full (block ∷ []) ∙ ap (λ b. concat full ++ b) (append-nil block)

pub cut_more : (full : List (List ℕ)) (block left rest bytes : List ℕ) (n : ℕ) → concat full ++ left ≡ bytes → block ≡ take n left → rest ≡ drop n left
    → concat (full ++ block ∷ []) ++ rest ≡ bytes
cut_more full block left rest bytes n whole block_is rest_is =
    rw (rest_is, concat_push full block, block_is, append_assoc (concat full) (take n left) (drop n left), take-append-drop n left) whole

pub all_more : (full : List (List ℕ)) (block : List ℕ) (width : ℕ) → All (λ block. length block ≡ width) full → length block ≡ width
    → All (λ block. length block ≡ width) (full ++ block ∷ [])
all_more full block width all is = grind (arith, elements)

all_joined : (front back : List (List ℕ)) (width : ℕ) → All (λ block. length block ≡ width) front → All (λ block. length block ≡ width) back
    → All (λ block. length block ≡ width) (front ++ back)
all_joined front back width all_front all_back = grind (arith, elements)

-- bytes in the last block, which has room for them
pub in_the_last : (width : ℕ) (full : List (List ℕ)) (last next bytes more : List ℕ) → AreBlocks width full last bytes
    → next ≡ last ++ more → length last + length more ≤ width → 0 < length more → AreBlocks width full next (bytes ++ more)
in_the_last width full last next bytes more are next_is fits some = record {
  full_width = are.full_width;
  last_width = omega (arith, ap length next_is, length-append last more);
  last_alone = λ empty. absurd (omega (arith, ap length empty, ap length next_is, length-append last more));
  bytes_are = ap (λ l. concat full ++ l) next_is ∙ sym (append_assoc (concat full) last more) ∙ ap (λ l. l ++ more) are.bytes_are;
}

-- bytes that fill the last block, and blocks behind it
pub in_more_blocks : (width : ℕ) (full more all : List (List ℕ)) (last end final bytes front back added : List ℕ) (room : ℕ) → AreBlocks width full last bytes
    → room ≡ width - length last → room < length added → front ≡ take room added → back ≡ drop room added → AreBlocks width more end back
    → all ≡ (full ++ (last ++ front) ∷ []) ++ more → final ≡ end → AreBlocks width all final (bytes ++ added)
in_more_blocks width full more all last end final bytes front back added room are room_is over front_is back_is behind all_is final_is =
    let filled : length (last ++ front) ≡ width = omega (arith, length-append last front, ap length front_is, length-take room added, are.last_width) in
    let some : 0 < length back = omega (arith, ap length back_is, length-drop room added) in
    let nothing : end ≡ [] → back ≡ [] = λ empty. sym behind.bytes_are ∙ ap (λ l. concat l ++ end) (behind.last_alone empty) ∙ empty in
    record {
      full_width = rw all_is (all_joined (full ++ (last ++ front) ∷ []) more width (all_more full (last ++ front) width are.full_width filled) behind.full_width);
      last_width = rw final_is behind.last_width;
      last_alone = λ empty. absurd (omega (arith, some, ap length (nothing (sym final_is ∙ empty))));
      bytes_are = ap (λ l. concat all ++ l) final_is
          ∙ ap (λ l. concat l ++ end) all_is
          ∙ ap (λ l. l ++ end) (concat-append (full ++ (last ++ front) ∷ []) more ∙ ap (λ l. l ++ concat more) (concat_push full (last ++ front)))
          ∙ append_assoc (concat full ++ (last ++ front)) (concat more) end
          ∙ ap (λ l. (concat full ++ (last ++ front)) ++ l) behind.bytes_are
          ∙ ap (λ l. l ++ back) (sym (append_assoc (concat full) last front) ∙ ap (λ l. l ++ front) are.bytes_are)
          ∙ append_assoc bytes front back
          ∙ ap (λ l. bytes ++ l) (ap (λ l. l ++ back) front_is ∙ ap (λ l. take room added ++ l) back_is ∙ take-append-drop room added);
    }

-- what has been added, as it is kept
pub added_blocks : (width : ℕ) (full all : List (List ℕ)) (last end added : List ℕ) (size next : ℕ) → size ≡ length (concat full ++ last)
    → next ≡ size + length added → AreBlocks width all end ((concat full ++ last) ++ added)
    → AreBlocks width all end (concat all ++ end) × (next ≡ length (concat all ++ end))
added_blocks width full all last end added size next size_is next_is are = (
  record { full_width = are.full_width; last_width = are.last_width; last_alone = are.last_alone; bytes_are = refl },
  omega (arith, ap length are.bytes_are, length-append (concat full ++ last) added),
)
