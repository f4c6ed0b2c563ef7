-- Pieces of bytes that lie in several places.
use Rattle.std.proofs.Common.{◌≡◌, refl, sym, ap, ◌∙◌, ℕ, zero, suc, ◌+◌, ◌-◌, ◌<◌, ◌≤◌, List, [], ◌∷◌, ◌++◌, length, take, drop, arith, length-drop, length-take, append_assoc}
use Rattle.std.proofs.lemmas.List.{drop-drop, drop_at, drop-append-le, take-append-le, take_all, take-append-drop, drop-take}
use Rattle.std.proofs.Math.Seq.{take-add}
use Rattle.s3_bodies.specs.Pieces.{IsPieceAt}

pub piece_ends : (bytes piece : List ℕ) (at : ℕ) → IsPieceAt at bytes piece → at + length piece ≤ length bytes
piece_ends bytes piece at is = omega (arith, ap length is.stands, length-take (length piece) (drop at bytes), length-drop at bytes, is.some)

-- a place that is told in another way
pub elsewhere : (a b : ℕ) (bytes piece : List ℕ) → a ≡ b → IsPieceAt a bytes piece → IsPieceAt b bytes piece
elsewhere a b bytes piece same is = rw (← same) is

-- all of the rest
pub rest_at : (bytes : List ℕ) (at : ℕ) → at < length bytes → IsPieceAt at bytes (drop at bytes)
rest_at bytes at inside = record {
  some = omega (arith, length-drop at bytes);
  stands = take_all (length (drop at bytes)) (drop at bytes) (omega arith);
}

-- a piece behind other bytes
pub behind : (first bytes piece : List ℕ) (at : ℕ) → IsPieceAt at bytes piece → IsPieceAt (length first + at) (first ++ bytes) piece
behind first bytes piece at is = record {
  some = is.some;
  stands = ap (take (length piece)) (sym (drop-drop at (length first) (first ++ bytes)) ∙ ap (drop at) (drop_at first bytes (length first) refl)) ∙ is.stands;
}

-- a piece before other bytes
pub before : (bytes more piece : List ℕ) (at : ℕ) → IsPieceAt at bytes piece → IsPieceAt at (bytes ++ more) piece
before bytes more piece at is =
    let ends = piece_ends bytes piece at is in
    record {
      some = is.some;
      stands = ap (take (length piece)) (drop-append-le at bytes more (omega arith))
          ∙ take-append-le (length piece) (drop at bytes) more (omega (arith, length-drop at bytes)) ∙ is.stands;
    }

take_of_front : (most : ℕ) (piece more : List ℕ) → take (length (take most piece)) (take most (piece ++ more)) ≡ take most piece
take_of_front zero piece more = refl
take_of_front (suc most) [] more = refl
take_of_front (suc most) (x ∷ piece) more = ap (λ l. x ∷ l) (take_of_front most piece more)

between : (size at : ℕ) → at < size → size ≡ at + (size - at)
between size at inside = omega arith

-- a piece of some of the bytes
pub clipped_piece : (bytes piece : List ℕ) (from size at : ℕ) → at < size → IsPieceAt (from + at) bytes piece
    → IsPieceAt at (take size (drop from bytes)) (take (size - at) piece)
clipped_piece bytes piece from size at inside is =
    let lies = drop (from + at) bytes in
    let whole : lies ≡ piece ++ drop (length piece) lies =
    sym (ap (λ p. p ++ drop (length piece) lies) (sym is.stands) ∙ take-append-drop (length piece) lies) in
    let cut : drop at (take size (drop from bytes)) ≡ take (size - at) lies =
    ap (λ n. drop at (take n (drop from bytes))) (between size at inside) ∙ drop-take at (size - at) (drop from bytes)
    ∙ ap (take (size - at)) (drop-drop at from bytes) in
    record {
      some = omega (arith, length-take (size - at) piece, is.some);
      stands = ap (take (length (take (size - at) piece))) (cut ∙ ap (take (size - at)) whole)
          ∙ take_of_front (size - at) piece (drop (length piece) lies);
    }

-- a piece of the bytes from a place on
pub piece_behind : (bytes piece : List ℕ) (from at : ℕ) → from ≤ at → IsPieceAt at bytes piece → IsPieceAt (at - from) (drop from bytes) piece
piece_behind bytes piece from at after is = record {
  some = is.some;
  stands = ap (take (length piece)) (drop-drop (at - from) from bytes ∙ ap (λ n. drop n bytes) (omega arith)) ∙ is.stands;
}

-- bytes up to the end of a piece, behind others
pub up_to : (bytes piece first now next : List ℕ) (at : ℕ) → IsPieceAt at bytes piece → now ≡ first ++ take at bytes → next ≡ now ++ piece
    → next ≡ first ++ take (at + length piece) bytes
up_to bytes piece first now next at is now_is next_is =
    next_is ∙ ap (λ l. l ++ piece) now_is ∙ append_assoc first (take at bytes) piece
    ∙ ap (λ l. first ++ l) (sym (take-add at (length piece) bytes ∙ ap (λ l. take at bytes ++ l) is.stands))

-- a piece of bytes that are seen in another way
pub seen_piece : (bytes seen piece : List ℕ) (at : ℕ) → bytes ≡ seen → IsPieceAt at bytes piece → IsPieceAt at seen piece
seen_piece bytes seen piece at same is = rw (← same) is

-- the same where the bytes are taken from a place on
pub up_to_from : (bytes piece first now next : List ℕ) (from at : ℕ) → from ≤ at → IsPieceAt at bytes piece
    → now ≡ first ++ take (at - from) (drop from bytes) → next ≡ now ++ piece → next ≡ first ++ take (at + length piece - from) (drop from bytes)
up_to_from bytes piece first now next from at after is now_is next_is =
    let same : at - from + length piece ≡ at + length piece - from = omega arith in
    up_to (drop from bytes) piece first now next (at - from) (piece_behind bytes piece from at after is) now_is next_is
    ∙ ap (λ n. first ++ take n (drop from bytes)) same
