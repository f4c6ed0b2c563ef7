-- The log that a history is. `logbook` has words that it tracks, in cells by their keys, and a log of lines. A cell is at
-- home once the log's owner holds its word; until then there is one pen that may write it. Each line brings home a word of
-- its own and names the key of the word for the line after it. So whoever has the pen of the word that the last line names
-- knows that no line follows.
use Rattle.std.specs.Prelude.{ℕ, ◌≡◌, ◌==◌, true, List, [], ◌∷◌, ◌++◌, length, Option, Some, None}
use mathlib.Core.List.{IsPrefix}
use Rattle.logbook.specs.Pages.{Cell, cell, Step, View, Book, Named, Nib, nib, may_write, may_make}
use Rattle.s3_history.specs.declared.log.Line.{Line}

-- which history it is
abbrev pub Origin : Type 0
Origin = Book

-- what is known of a history: which one it is, and its entries
pub record Trace (E : Type 0) : Type 0 where
  pub origin : Origin
  pub entries : List E

-- the word of this key is at home
abbrev pub IsHome : List Cell → ℕ → Type 0
IsHome cells key = (cell cells key).1 ≡ true

-- the key of the word for the first line: a log opens with two words, 0 and 1
abbrev pub first_key : ℕ
first_key = 2

-- the word that every step looks at has key 0
abbrev pub head_of : Book → Named
head_of book = record { tracked = true; key = 0; book = book }

module _ {E : Type 0} where
  -- the entry of a line, before others
  abbrev pub before : Option E → List E → List E
  before None entries = entries
  before (Some entry) entries = entry ∷ entries

  -- the entries that the lines tell
  abbrev pub told : List (Line E) → List E
  told [] = []
  told (line ∷ lines) = before line.entry (told lines)

  abbrev pub trace_of : Book → List (Line E) → Trace E
  trace_of book log = record { origin = book; entries = told log }

  -- the key that these lines leave to the one after them, where the first of them uses this one
  abbrev pub key_after : ℕ → List (Line E) → ℕ
  key_after key [] = key
  key_after key (line ∷ lines) = key_after line.next lines

  -- the word that each line uses is at home
  abbrev pub AreHome : List Cell → ℕ → List (Line E) → Type 0
  AreHome cells key [] = Unit {0}
  AreHome cells key (line ∷ lines) = IsHome cells key × AreHome cells line.next lines

  -- what holds between any two steps: the head is at home; where it was never changed, there are the two words of the
  -- opening alone, and no line; and the word of each line is at home
  pub record IsChained (cells : List Cell) (log : List (Line E)) : Type 0 where
    pub head : IsHome cells 0
    pub unchanged : (cell cells 0).0 ≡ 0 → (log ≡ []) × (length cells ≡ first_key)
    pub lines : AreHome cells first_key log

  -- there is a pen for a new word; and where the head was never changed before, it is for the first line, and there is none
  abbrev pub WordMade : Step (Line E) → View (Line E) ℕ → ℕ → View (Line E) ℕ → Type 0
  WordMade step old found new =
      ((key : ℕ) × (new.1.0 ≡ nib may_make key 0)) × (found ≡ 0 → (new.0 ≡ []) × (new.1.0 ≡ nib may_make first_key 0))

  -- the line stands behind all that was seen
  abbrev pub LineAdded : Step (Line E) → View (Line E) ℕ → ℕ → View (Line E) ℕ → Type 0
  LineAdded step old found new = new.0 ≡ old.0 ++ step.ask ∷ []

  -- the lines that leave the pen's key are all; and the pen stays
  abbrev pub EndFound : Step (Line E) → View (Line E) ℕ → ℕ → View (Line E) ℕ → Type 0
  EndFound step old found new =
      ((lines : List (Line E)) → IsPrefix lines new.0 → key_after first_key lines ≡ old.1.0.key → lines ≡ new.0) × (new.1.0 ≡ old.1.0)

  -- a recorder with this head and this pen stands at the end of the log
  pub record IsAtEnd (book : Book) (log : List (Line E)) (head : Named) (pen_book : Book) (pen : Nib) : Type 0 where
    pub head_is : head ≡ head_of book
    pub same_book : pen_book ≡ book
    pub writes_next : pen ≡ nib may_write (key_after first_key log) 0
