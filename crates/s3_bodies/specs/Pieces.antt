-- How the bytes of a body lie: in blocks, and in parts of these.
use Rattle.std.specs.Prelude.{◌≡◌, ℕ, ◌+◌, ◌^◌, ◌<◌, ◌≤◌, List, [], ◌++◌, length, take, drop}
use Rattle.std.specs.List.{All, concat}

-- some bytes, at least one, of those that stand from a place on
pub record IsPieceAt (at : ℕ) (bytes piece : List ℕ) : Type 0 where
  pub some : 0 < length piece
  pub stands : take (length piece) (drop at bytes) ≡ piece

-- the bytes of a piece; all bytes of its block from its place on; and how many of these its run has, as one of several
pub record PieceParts : Type 0 where
  pub rest : List ℕ
  pub run : ℕ
  pub bytes : List ℕ

-- blocks of one width and a last one that is no wider have these bytes; the last one is empty only where it is alone
pub record AreBlocks (width : ℕ) (full : List (List ℕ)) (last bytes : List ℕ) : Type 0 where
  pub full_width : All (λ block. length block ≡ width) full
  pub last_width : length last ≤ width
  pub last_alone : last ≡ [] → full ≡ []
  pub bytes_are : concat full ++ last ≡ bytes

-- so many bytes stand there from a place on, and the place behind them is a number of 64 bits
pub record IsWithin (from size : ℕ) (bytes : List ℕ) : Type 0 where
  pub inside : from + size ≤ length bytes
  pub fits : from + size < 2 ^ 64
