-- A list of items as bytes: each behind the one before it, and nothing else.
use Rattle.std.specs.Prelude.{ℕ, zero, suc, nat_lt, if◌then◌else◌, List, [], ◌∷◌, ◌++◌, length, take, drop, Option, Some, None}
use Rattle.std.specs.Int.{Width, byte_len, to_be_bytes, from_be_bytes}

-- one part behind another: where one can't be read, nothing is
infixl 10 ◌>>=◌
abbrev pub ◌>>=◌ : {A B : Type 0} → Option A → (A → Option B) → Option B
None >>= next = None
(Some x) >>= next = next x

-- the first n bytes, and those behind them; none where there are fewer
abbrev pub cut_at : ℕ → List ℕ → Option (List ℕ × List ℕ)
cut_at n bytes = if nat_lt (length bytes) n then None else Some (take n bytes, drop n bytes)

-- a text behind its length, of which the highest byte comes first
abbrev pub text_spelled : Width → List ℕ → List ℕ
text_spelled w text = to_be_bytes w (length text) ++ text

-- the text at the front of some bytes, and the bytes behind it
unfoldable pub text_at : Width → List ℕ → Option (List ℕ × List ℕ)
text_at w bytes = do
  len ← cut_at (byte_len w) bytes
  cut_at (from_be_bytes w len.0) len.1

-- the items that bytes have, one behind the other to the end: n of them at most
unfoldable pub items_within : {X : Type 0} → (List ℕ → Option (X × List ℕ)) → ℕ → List ℕ → Option (List X)
items_within item_at n [] = Some []
items_within item_at zero (b ∷ bs) = None
items_within item_at (suc n) (b ∷ bs) = do
  first ← item_at (b ∷ bs)
  others ← items_within item_at n first.1
  Some (first.0 ∷ others)

-- all of them, where each takes a byte or more; none where the bytes aren't such a list
abbrev pub items_read : {X : Type 0} → (List ℕ → Option (X × List ℕ)) → List ℕ → Option (List X)
items_read item_at bytes = items_within item_at (length bytes) bytes
