-- How a search stands that is fed the bytes in front of a head's end in pieces. `IsSearched` says what a
-- piece gives; of the others nobody has to believe the inside: a law says what follows from them.
use Rattle.std.specs.Prelude.{◌≡◌, ◌≢◌, ◌≤◌, ◌<◌, ◌-◌, ◌+◌, ◌++◌, ℕ, Bool, List, [], take, length, slice_range, Some, option_map, if◌then◌else◌}
use Rattle.s3_http_heads.specs.declared.find.Found.{Found}
use Rattle.s3_http_heads.specs.declared.find.Found.TheVariants.{NeedMore}
use Rattle.s3_http_heads.specs.declared.search.HeadSearch.{HeadSearch}
use Rattle.s3_http_heads.specs.declared.search.Position.{Position}
use Rattle.s3_http_heads.specs.declared.search.Step.{Step}
use Rattle.s3_http_heads.specs.Find.{skip_pairs, text_length, found_in, head_end, head_limit}

-- no head ends in the text, and of all that may follow it the last `matched` bytes, which begin an empty
-- line, decide alone where the first one ends
pub record IsPassed (text : List ℕ) (matched : ℕ) : Type 0 where
  pub few : matched ≤ 3
  pub held : matched ≤ length text
  pub alike : (rest : List ℕ)
      → text_length (text ++ rest) ≡ option_map (λ n. length text - matched + n) (text_length (take matched head_end ++ rest))

-- so far, or up to the end of the first head and no further
abbrev pub IsScanned : List ℕ → ℕ → Type 0
IsScanned text matched = (matched ≡ 4 → text_length text ≡ Some (length text)) × (matched ≢ 4 → IsPassed text matched)

-- the place behind a text that begins with nothing that is skipped, and in which nothing is found
pub record IsOpen (text : List ℕ) (position : Position) : Type 0 where
  pub whole : skip_pairs text ≡ text
  pub count : position.len ≡ length text
  pub few : position.len < head_limit
  pub passed : IsPassed text position.matched

-- the same where something may be found with its last byte, so that nothing stands behind a head
pub record IsPlaced (text : List ℕ) (position : Position) : Type 0 where
  pub whole : skip_pairs text ≡ text
  pub count : position.len ≡ length text
  pub within : position.len ≤ head_limit
  pub scanned : IsScanned text position.matched

-- what stays of a text
abbrev pub kept : Bool → List ℕ → List ℕ
kept is_anew text = if is_anew then [] else text

-- what is held after a step, where memory doesn't run out
abbrev pub step_text : List ℕ → List ℕ → Step → List ℕ
step_text text piece step = kept step.is_anew text ++ slice_range piece step.start step.end

-- a step over a piece behind that text: it goes as far as something is found, or to the piece's end
pub record IsStep (text piece : List ℕ) (step : Step) : Type 0 where
  pub skipped : step_text text piece step ≡ skip_pairs (text ++ take step.end piece)
  pub placed : IsPlaced (step_text text piece step) step.position
  pub all : step.position.matched ≢ 4 → step.position.len < head_limit → step.end ≡ length piece

-- memory ran out for a byte of the text
abbrev pub is_lost : HeadSearch → Bool
is_lost search = search.is_lost

-- a search has taken these bytes, and nothing was found before the last of them: it knows its place, and
-- holds the bytes without the skipped pairs, or none where they are lost
pub record Holds (search : HeadSearch) (bytes : List ℕ) : Type 0 where
  pub text : search.text.items ≡ kept search.is_lost (skip_pairs bytes)
  pub placed : IsPlaced (skip_pairs bytes) search.position

-- and nothing is found yet
pub record Stands (search : HeadSearch) (bytes : List ℕ) : Type 0 where
  pub held : Holds search bytes
  pub goes_on : found_in bytes ≡ NeedMore

-- what a piece after these bytes gives: how many of its bytes are taken, what is found with them and with no
-- fewer, and the search then
pub record IsSearched (bytes piece : List ℕ) (result : ℕ × Found) (new : HeadSearch) : Type 0 where
  pub within : result.0 ≤ length piece
  pub found : result.1 ≡ found_in (bytes ++ take result.0 piece)
  pub at_once : (n : ℕ) → n < result.0 → found_in (bytes ++ take n piece) ≡ NeedMore
  pub all : result.1 ≡ NeedMore → result.0 ≡ length piece
  pub held : Holds new (bytes ++ take result.0 piece)
  pub stands : result.1 ≡ NeedMore → Stands new (bytes ++ piece)
