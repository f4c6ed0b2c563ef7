-- The page of a list: what every list has in common (Amazon S3 API Reference, the members `IsTruncated` and `MaxKeys` of
-- ListObjectsV2).
use Rattle.std.specs.Prelude.{ℕ, Bool, not, ◌&&◌, ◌==◌, nat_lt, if◌then◌else◌, List, take, length, Option, None}
use Rattle.std.specs.List.{last_or}

-- what a page tells, and whether items are left behind it
pub record Page (A : Type 0) : Type 0 where
  pub given : List A
  pub is_truncated : Bool

-- the page of the items that are asked for: the first so many
abbrev pub page_of : {A : Type 0} → ℕ → List A → Page A
page_of most items = record { given = take most items; is_truncated = not (most == 0) && nat_lt most (length items) }

-- the last item that a page tells
abbrev pub last_of : {A : Type 0} → List A → Option A
last_of items = last_or None items

-- the item behind which the next page goes on, where there is one
abbrev pub next_of : {A : Type 0} → Page A → Option A
next_of page = if page.is_truncated then last_of page.given else None
