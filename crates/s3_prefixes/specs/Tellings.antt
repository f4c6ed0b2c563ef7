-- As which item a key is told, by what the code says of it.
use Rattle.std.specs.Prelude.{ℕ, Bool, false, ◌==◌, if◌then◌else◌, List, take, length, Option, Some, None, ◌≤◌, ⊤, IsUtf8}
use Rattle.std.specs.Option.{option_map_or}
use Rattle.std.specs.Str.{bytes_eq}
use Rattle.s3_versions.specs.declared.picking.Facts.{Facts}
use Rattle.s3_prefixes.specs.declared.rolling.Telling.{Telling}
use Rattle.s3_prefixes.specs.declared.rolling.Telling.TheVariants.{Nothing, Itself, Prefix}
use Rattle.s3_prefixes.specs.Items.{Item, Object, CommonPrefix, up_to_first}

-- the text is the last one
abbrev pub is_last : Option (List ℕ) → List ℕ → Bool
is_last last text = option_map_or (bytes_eq text) last false

-- as which item a key is told
abbrev pub item_by : Telling → List ℕ → Facts → Option Item
item_by Nothing key facts = None
item_by Itself key facts = Some (Object key facts)
item_by (Prefix len) key facts = Some (CommonPrefix (take len key))

-- the key may be cut where its common prefix ends
abbrev pub IsCut : Telling → List ℕ → Type 0
IsCut Nothing key = ⊤
IsCut Itself key = ⊤
IsCut (Prefix len) key = (len ≤ length key) × IsUtf8 (take len key)

-- a text up to the end of the first delimiter in it, where the delimiter isn't empty
abbrev pub first_rolled : List ℕ → List ℕ → Option (List ℕ)
first_rolled delimiter text = if length delimiter == 0 then None else up_to_first delimiter text
