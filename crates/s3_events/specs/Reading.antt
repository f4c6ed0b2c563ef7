-- Words for the clauses of private functions alone.
use Rattle.std.specs.Prelude.{◌≡◌, ℕ, Bool, true, false, not, ◌&&◌, ◌==◌, List, [], ◌∷◌, length, map, get_or, Option, Some, None, option_map}
use Rattle.std.specs.List.{list_all, list_any}
use Rattle.std.specs.Borrow.{Bor}
use Rattle.s3_text.specs.Characters.{space}
use Rattle.s3_text.specs.Cut.{parts_at}
use Rattle.s3_events.specs.declared.checked.Checked.{Checked}
use Rattle.s3_events.specs.declared.checked.Checked.TheVariants.{Moments, Piece, End, Turn}
use Rattle.s3_events.specs.declared.script.Script.{Script}
use Rattle.s3_events.specs.Lines.{Said, TheMoments, MoreBytes, TheEnd, ATurn, moments_of, bytes_of, is_of, are_moments, connection}
use Rattle.s3_events.specs.Script.{said_of_event, moments_said, happenings}

-- the fields of what follows a number, if something does
abbrev pub fields_of : Option (Bor (List ℕ)) → List (List ℕ)
fields_of None = []
fields_of (Some text) = parts_at space text.now

-- what a checked line says
abbrev pub meaning : Checked → Option Said
meaning (Moments c text) = option_map (TheMoments c) (moments_of (parts_at space text.now))
meaning (Piece c digits) = option_map (MoreBytes c) (bytes_of (digits.now ∷ []))
meaning (End c) = Some (TheEnd c)
meaning (Turn c) = Some (ATurn c)

-- its connection
abbrev pub connection_checked : Checked → ℕ
connection_checked (Moments c text) = c
connection_checked (Piece c digits) = c
connection_checked (End c) = c
connection_checked (Turn c) = c

-- where moments are said, there is one
abbrev pub is_full : Said → Bool
is_full (TheMoments c moments) = not (length moments == 0)
is_full said = true

-- a script of so many connections has all that is said so far, in which no list of moments is empty
pub record Collects (size : ℕ) (script : Script) (all : List Said) : Type 0 where
  pub connections : length script.moments.items ≡ size
  pub moments : (c : ℕ) → get_or (map (λ list. list.items) script.moments.items) c [] ≡ moments_said c all
  pub events : map said_of_event script.events.items ≡ happenings all
  pub full : list_all is_full all ≡ true

-- something is said of this connection
abbrev pub is_named : ℕ → List Said → Bool
is_named c all = list_any (is_of c) all

-- a line may follow others: it says something, and no moments of a connection that was named
abbrev pub may_follow : List Said → Option Said → Bool
may_follow all None = false
may_follow all (Some said) = not (are_moments said && is_named (connection said) all)
