-- Texts and bodies that wait to be sent: the bodies stand in the text, each behind so many of its bytes.
use Rattle.std.specs.Prelude.{◌≡◌, ℕ, ◌+◌, ◌-◌, ◌<◌, ◌≤◌, Option, List, [], ◌∷◌, ◌++◌, length, drop, slice_range}
use Rattle.std.specs.Vec.{vec_len, vec_capacity}
use Rattle.std.specs.VecDeque.{deque_len, deque_capacity}
use Rattle.std.specs.declared.option.Option.TheVariants.{None, Some}
use Rattle.s3_outbox.specs.declared.placed.Placed.{Placed}
use Rattle.s3_outbox.specs.declared.pending.Pending.{Pending}

-- the bytes of a body, where there is one
abbrev pub bytes_of : Option (List ℕ) → List ℕ
bytes_of None = []
bytes_of (Some body) = body

-- bodies, and behind them one with so much text before it; an empty one has no place
abbrev pub placed : List Placed → ℕ → Option (List ℕ) → List Placed
placed bodies behind None = bodies
placed bodies behind (Some []) = bodies
placed bodies behind (Some (byte ∷ rest)) = bodies ++ record { behind = behind; body = byte ∷ rest } ∷ []

-- the text from a place on with the bodies in it, where so many bytes of the first body are gone
abbrev pub woven : List ℕ → ℕ → ℕ → List Placed → List ℕ
woven text at taken [] = drop at text
woven text at taken (first ∷ rest) = slice_range text at first.behind ++ (drop taken first.body ++ woven text first.behind 0 rest)

-- the places are in order, none is beyond the text, and each body has bytes
abbrev pub AreInOrder : ℕ → ℕ → List Placed → Type 0
AreInOrder size at [] = at ≤ size
AreInOrder size at (first ∷ rest) = (at ≤ first.behind) × (0 < length first.body) × AreInOrder size first.behind rest

-- of the first body a part is gone only where no text is left before it, and never the whole
abbrev pub IsPartGone : ℕ → ℕ → List Placed → Type 0
IsPartGone at taken [] = taken ≡ 0
IsPartGone at taken (first ∷ _) = (taken < length first.body) × (0 < taken → at ≡ first.behind)

-- where all is sent, the text is empty
abbrev pub IsCleared : List ℕ → ℕ → List Placed → Type 0
IsCleared text at [] = at ≡ length text → text ≡ []
IsCleared text at (_ ∷ _) = Unit {0}

-- a text and the bodies in it, of which so much is sent, as they should be
pub record AreSound (text : List ℕ) (at taken : ℕ) (bodies : List Placed) : Type 0 where
  pub in_order : AreInOrder (length text) at bodies
  pub part_gone : IsPartGone at taken bodies
  pub cleared : IsCleared text at bodies

-- all that waits
abbrev pub waiting : Pending → List ℕ
waiting p = woven p.text.items p.at p.taken p.bodies.items

-- what waits is as it should be
abbrev pub IsSound : Pending → Type 0
IsSound p = AreSound p.text.items p.at p.taken p.bodies.items

-- there is room for a text and a body
abbrev pub HasRoom : Pending → Type 0
HasRoom p = (vec_len p.text + 8_192 ≤ vec_capacity p.text) × (deque_len p.bodies < deque_capacity p.bodies)

-- there is, where all is sent
abbrev pub KeepsRoom : Pending → Type 0
KeepsRoom p = (8_192 ≤ vec_capacity p.text) × (0 < deque_capacity p.bodies)

-- how much text stands in front, before the first body or the end
abbrev pub text_front : ℕ → ℕ → List Placed → ℕ
text_front size at [] = size - at
text_front size at (first ∷ _) = first.behind - at

-- how many bytes the first body has, sent or not
abbrev pub body_size : List Placed → ℕ
body_size [] = 0
body_size (first ∷ _) = length first.body

-- the memory stays, and no more of it is in use
abbrev pub LeavesRoom : Pending → Pending → Type 0
LeavesRoom old new =
    (vec_capacity new.text ≡ vec_capacity old.text) × (deque_capacity new.bodies ≡ deque_capacity old.bodies)
    × (vec_len new.text ≤ vec_len old.text) × (deque_len new.bodies ≤ deque_len old.bodies)

-- there is no memory for texts and bodies
abbrev pub TakesNone : Pending → Type 0
TakesNone p = (vec_capacity p.text ≡ 0) × (deque_capacity p.bodies ≡ 0)
