-- The tree that the crate `json` reads, as the value that it is for `serde_json`: each name of an object counts once,
-- and a number by its value.
use Rattle.std.specs.Prelude.{Bool, true, ◌&&◌, Option, Some, None, is_some}
use Rattle.json.specs.Json as json
use Rattle.json.specs.Value.{value_view}
use Rattle.json.specs.declared.value.Value.{Value}
use Rattle.serde_json.specs.Data.{Num, Data, null, boolean, number, string, array, object, Items, no_items, item, Members, no_members, put}
use Rattle.serde_json.specs.Read.{number_of}

-- each of its numbers is in range, so that it has a value
abbrev mutual
  pub is_in_range : json.Json → Bool
  is_in_range json.null = true
  is_in_range (json.boolean b) = true
  is_in_range (json.number s) = is_some (number_of s)
  is_in_range (json.string s) = true
  is_in_range (json.array js) = items_in_range js
  is_in_range (json.object ms) = members_in_range ms

  pub items_in_range : json.Items → Bool
  items_in_range json.no_items = true
  items_in_range (json.item j js) = is_in_range j && items_in_range js

  pub members_in_range : json.Members → Bool
  members_in_range json.no_members = true
  members_in_range (json.member k j ms) = is_in_range j && members_in_range ms

-- a number, where it is in range
abbrev pub number_data : Option Num → Data
number_data (Some n) = number n
number_data None = null

-- the value of a tree; of several members of one name the last one counts
abbrev mutual
  pub data_of : json.Json → Data
  data_of json.null = null
  data_of (json.boolean b) = boolean b
  data_of (json.number s) = number_data (number_of s)
  data_of (json.string s) = string s
  data_of (json.array js) = array (data_of_items js)
  data_of (json.object ms) = object (data_of_members ms no_members)

  pub data_of_items : json.Items → Items
  data_of_items json.no_items = no_items
  data_of_items (json.item j js) = item (data_of j) (data_of_items js)

  pub data_of_members : json.Members → Members → Members
  data_of_members json.no_members found = found
  data_of_members (json.member k j ms) found = data_of_members ms (put k (data_of j) found)

abbrev pub seen : {A : Type 0} → Value A → Data
seen value = data_of (value_view value)
