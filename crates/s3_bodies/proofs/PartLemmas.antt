-- Parts of bytes.
use Rattle.std.proofs.Common.{◌≡◌, refl, sym, ap, ◌∙◌, ℕ, min, ◌+◌, ◌-◌, ◌<◌, ◌≤◌, ◌^◌, List, length, take, drop, arith, length-drop, length-take}
use Rattle.std.proofs.lemmas.List.{drop-drop, take-take, take_all, take_min, drop-take}
use Rattle.std.specs.Prelude.{OnErr, Result, Ok, Err}
use Rattle.s3_bodies.specs.Pieces.{IsPieceAt, IsWithin}
use Rattle.s3_bodies.proofs.PieceLemmas.{clipped_piece, rest_at}

-- what holds anyway holds where a call fails
pub on_err : {T E P : Type 0} (r : Result T E) → P → OnErr r P
on_err (Ok x) p = tt
on_err (Err e) p = p

less : (from size : ℕ) → from ≤ size → size ≡ from + (size - from)
less from size inside = omega arith

module _ (bytes part : List ℕ) (start have : ℕ) (within : IsWithin start have bytes) (view : take have (drop start bytes) ≡ part) where
  pub part_length : length part ≡ have
  part_length = omega (arith, sym (ap length view), length-take have (drop start bytes), length-drop start bytes, within.inside)

  pub place_fits : (from : ℕ) → from ≤ length part → start + from < 2 ^ 64
  place_fits from inside = omega (arith, part_length, within.fits)

  pub place_inside : (at : ℕ) → at < length part → start + at < length bytes
  place_inside at inside = omega (arith, part_length, within.inside)

  -- some of the bytes of a part
  pub part_of_part : (from size : ℕ) → from + size ≤ length part → take size (drop (start + from) bytes) ≡ take size (drop from part)
  part_of_part from size inside =
      let shorter : from + size ≤ have = rw part_length at inside in
      sym (ap (λ l. take size (drop from l)) (sym view) ∙ ap (λ n. take size (drop from (take n (drop start bytes)))) (less from have (omega arith))
      ∙ ap (take size) (drop-take from (have - from) (drop start bytes)) ∙ take-take size (have - from) (drop from (drop start bytes)) (omega arith)
      ∙ ap (take size) (drop-drop from start bytes))

  pub within_part : (from size : ℕ) → from + size ≤ length part → IsWithin (start + from) size bytes
  within_part from size inside = record {
    inside = omega (arith, part_length, within.inside);
    fits = omega (arith, part_length, within.fits);
  }

  -- a piece of the bytes, as far as the part goes
  pub piece_of_part : (seen piece cut : List ℕ) (at : ℕ) → at < length part → seen ≡ bytes → IsPieceAt (start + at) seen piece
      → cut ≡ take (have - at) piece → IsPieceAt at part cut
  piece_of_part seen piece cut at inside seen_is is cut_is =
      rw (cut_is, ← view) (clipped_piece bytes piece start have at (omega (arith, part_length)) (rw seen_is at is))

  -- the end of the part alone cuts a piece short
  cut_at_end : (rest piece cut : List ℕ) (run at : ℕ) → cut ≡ take (have - at) piece → piece ≡ take run rest
      → cut ≡ take (length part - at) (take run rest)
  cut_at_end rest piece cut run at cut_is piece_is =
      cut_is ∙ ap (take (have - at)) piece_is ∙ ap (λ n. take (n - at) (take run rest)) (sym part_length)

  -- the bytes from a place on, as far as the part goes
  pub rest_of_part : (cut : List ℕ) (at : ℕ) → at < length part → cut ≡ take (have - at) (drop (start + at) bytes) → IsPieceAt at part cut
  rest_of_part cut at inside cut_is =
      piece_of_part bytes (drop (start + at) bytes) cut at inside refl (rest_at bytes (start + at) (place_inside at inside)) cut_is

  pub rest_to_end : (cut : List ℕ) (at : ℕ) → at < length part → cut ≡ take (have - at) (drop (start + at) bytes) → at + length cut ≡ length part
  rest_to_end cut at inside cut_is =
      omega (arith, part_length, within.inside, ap length cut_is, length-take (have - at) (drop (start + at) bytes), length-drop (start + at) bytes)

  pub rest_cut : (cut rest : List ℕ) (run at : ℕ) → cut ≡ take (have - at) (drop (start + at) bytes) → rest ≡ drop (start + at) bytes → run ≡ length (drop (start + at) bytes)
      → cut ≡ take (length part - at) (take run rest)
  rest_cut cut rest run at cut_is rest_is run_is =
      cut_at_end rest (drop (start + at) bytes) cut run at cut_is
      (sym (ap (λ l. take run l) rest_is ∙ take_all run (drop (start + at) bytes) (omega (arith, run_is))))

  pub run_of_part : (seen run cut : List ℕ) (at size : ℕ) → at < length part → seen ≡ bytes → IsPieceAt (start + at) seen run
      → size ≡ min (length run) (have - at) → cut ≡ take size (drop 0 run) → IsPieceAt at part cut
  run_of_part seen run cut at size inside seen_is is size_is cut_is =
      let same : min (length run) (have - at) ≡ min (have - at) (length run) = omega arith in
      piece_of_part seen run cut at inside seen_is is (cut_is ∙ ap (λ n. take n run) (size_is ∙ same) ∙ take_min (have - at) run)

pub ruleset pieces_of_part = (piece_of_part, part_length)

pub ruleset pieces_of_own = (rest_of_part, rest_to_end, rest_cut)
