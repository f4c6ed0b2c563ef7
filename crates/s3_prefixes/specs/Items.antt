-- As which item a list of objects tells a key (Amazon S3 API Reference, ListObjectsV2; Amazon S3 User Guide, "Organizing
-- objects using prefixes").
use Rattle.std.specs.Prelude.{ℕ, Bool, true, nat_eq, ◌&&◌, ◌==◌, if◌then◌else◌, List, [], ◌∷◌, ◌++◌, drop, length, Option, Some, None, option_map, option_and_then, is_some}
use Rattle.std.specs.List.{starts_with}
use Rattle.std.specs.Option.{option_map_or}
use Rattle.std.specs.Ordering.{is_lt}
use Rattle.s3_text.specs.Order.{byte_order}
use Rattle.s3_versions.specs.declared.picking.Facts.{Facts}
use Rattle.s3_prefixes.specs.declared.asked.ObjectsAsked.{ObjectsAsked}

-- an item of the list: an object, or what the keys of several have in common
pub data Item : Type 0 where
  Object : (key : List ℕ) → Facts → Item
  CommonPrefix : List ℕ → Item

-- the text of an item, by which it stands in the list
abbrev pub text_of : Item → List ℕ
text_of (Object key facts) = key
text_of (CommonPrefix prefix) = prefix

-- one text comes before another
abbrev pub is_before : List ℕ → List ℕ → Bool
is_before text other = is_lt (byte_order text other)

-- a text up to the end of the first delimiter in it, if there is one
abbrev pub up_to_first : List ℕ → List ℕ → Option (List ℕ)
up_to_first delimiter [] = None
up_to_first delimiter (b ∷ rest) =
    if starts_with nat_eq (b ∷ rest) delimiter then Some delimiter
    else option_map (λ front. b ∷ front) (up_to_first delimiter rest)

-- the common prefix of a key: up to the end of the first delimiter behind the prefix; an empty delimiter counts as absent
abbrev pub rolled_up : (prefix delimiter key : List ℕ) → Option (List ℕ)
rolled_up prefix delimiter key =
    if length delimiter == 0 then None
    else option_map (λ front. prefix ++ front) (up_to_first delimiter (drop (length prefix) key))

abbrev pub common_prefix : ObjectsAsked → List ℕ → Option (List ℕ)
common_prefix asked key = rolled_up asked.prefix asked.delimiter key

-- the key is one that is told where there is no token: behind the one that the list is to start after
abbrev pub is_behind_start : ObjectsAsked → List ℕ → Bool
is_behind_start asked key =
    if is_some asked.token then true else option_map_or (λ start. is_before start key) asked.start_after true

-- the key is asked for
abbrev pub is_asked : ObjectsAsked → List ℕ → Bool
is_asked asked key = starts_with nat_eq key asked.prefix && is_behind_start asked key

-- as which item an object is told: by its common prefix, where it has one
abbrev pub rolled : Option (List ℕ) → List ℕ → Facts → Item
rolled None key facts = Object key facts
rolled (Some prefix) key facts = CommonPrefix prefix

-- the same of a key that is asked for
abbrev pub item_of_object : ObjectsAsked → List ℕ → Facts → Option Item
item_of_object asked key facts = if is_asked asked key then Some (rolled (common_prefix asked key) key facts) else None

-- the item stands behind the token, where there is one
abbrev pub is_behind_token : ObjectsAsked → Item → Bool
is_behind_token asked item = option_map_or (λ token. is_before token (text_of item)) asked.token true

-- an item, where it stands behind the token
abbrev pub behind_token : ObjectsAsked → Item → Option Item
behind_token asked item = if is_behind_token asked item then Some item else None

-- as which item an object is told, where it is
abbrev pub told_object : ObjectsAsked → List ℕ → Facts → Option Item
told_object asked key facts = option_and_then (behind_token asked) (item_of_object asked key facts)
