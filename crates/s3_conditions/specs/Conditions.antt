-- How a version is judged by what a read asks (RFC 9110, section 13.2.2): preconditions, then whether the reader knows it, then the
-- range.
use Rattle.std.specs.Prelude.{◌≤◌, ◌<◌, ◌-◌, ℕ, Bool, false, not, ◌||◌, ◌==◌, nat_lt, nat_le, min, if◌then◌else◌, List, Option, Some, None, Result, Ok, ⊤}
use Rattle.s3_terms.specs.Fault.{refuse, ◌>>◌}
use Rattle.s3_terms.specs.declared.code.Code.{Code}
use Rattle.s3_terms.specs.declared.code.Code.TheVariants.{PreconditionFailed}
use Rattle.s3_conditions.specs.Tags.{matches}
use Rattle.s3_conditions.specs.declared.conditions.Conditions.{Conditions}
use Rattle.s3_conditions.specs.declared.conditions.Selection.{Selection}
use Rattle.s3_conditions.specs.declared.conditions.Selection.TheVariants.{Whole, Part, Unchanged, Outside}
use Rattle.s3_conditions.specs.declared.range.ByteRange.{ByteRange}
use Rattle.s3_conditions.specs.declared.range.ByteRange.TheVariants.{FromTo, From, Last}

-- a read that asks nothing of the version
abbrev pub plain : Conditions
plain = record { if_match = None; if_none_match = None; modified_since = None; unmodified_since = None; range = None }

-- the version is later than the date, if there is one
abbrev pub is_later : ℕ → Option ℕ → Bool
is_later moment (Some date) = nat_lt date moment
is_later moment None = false

-- it isn't, if there is one
abbrev pub is_not_later : ℕ → Option ℕ → Bool
is_not_later moment (Some date) = nat_le moment date
is_not_later moment None = false

-- a test of the tags, or where they are absent one of the date
abbrev pub by_tags_or_date : Option (List ℕ) → (List ℕ → Bool) → Bool → Bool
by_tags_or_date (Some tags) test dated = test tags
by_tags_or_date None test dated = dated

-- If-Match is there and no item matches, or it is absent and the version is later than If-Unmodified-Since
unfoldable pub unmet : Conditions → ℕ → List ℕ → Bool
unmet asked moment tag = by_tags_or_date asked.if_match (λ tags. not (matches tags tag)) (is_later moment asked.unmodified_since)

-- If-None-Match is there and an item matches, or it is absent and the version isn't later than If-Modified-Since
unfoldable pub unchanged : Conditions → ℕ → List ℕ → Bool
unchanged asked moment tag = by_tags_or_date asked.if_none_match (λ tags. matches tags tag) (is_not_later moment asked.modified_since)

-- the part of that many bytes that is in the range: up to the last position or the last byte, or as many at the end as are asked
-- for, and all where they are more; or that no byte is in it
abbrev pub satisfied : ByteRange → ℕ → Selection
satisfied (FromTo first last) size = if nat_le size first || nat_lt last first then Outside else Part first (min last (size - 1))
satisfied (From first) size = if nat_le size first then Outside else Part first (size - 1)
satisfied (Last count) size = if count == 0 || size == 0 then Outside else Part (size - count) (size - 1)

-- what a range selects, and all where there is none
unfoldable pub selected : Option ByteRange → ℕ → Selection
selected None size = Whole
selected (Some range) size = satisfied range size

-- what is shown of a version with this moment, this tag and this size
unfoldable pub judged : Conditions → ℕ → List ℕ → ℕ → Result Selection Code
judged asked moment tag size = do
  refuse (unmet asked moment tag) PreconditionFailed
  Ok (if unchanged asked moment tag then Unchanged else selected asked.range size)

-- a part lies in that many bytes
abbrev pub LiesIn : ℕ → Selection → Type 0
LiesIn size (Part first last) = (first ≤ last) × (last < size)
LiesIn size other = ⊤
