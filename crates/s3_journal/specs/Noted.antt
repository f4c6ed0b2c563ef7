-- What stands in the history of a recorded store: its entries, and its commits.
use Rattle.std.specs.Prelude.{Bool, true, false, List, [], ◌∷◌, Option, Some, None, option_map, unwrap_or}
use Rattle.s3_history.specs.Log.{Origin, Trace}
use Rattle.s3_journal.specs.Recorded.{Recorded}
use Rattle.s3_journal.specs.declared.entry.Note.{Note}
use Rattle.s3_journal.specs.declared.entry.Note.TheVariants as notes

-- the entries
abbrev pub entries_in : List Note → List Recorded
entries_in [] = []
entries_in (notes.Entry r ∷ more) = r ∷ entries_in more
entries_in (notes.Commit ∷ more) = entries_in more

-- those that were committed: none where no commit is known
abbrev pub front_of : Option (List Recorded) → List Recorded
front_of committed = unwrap_or committed []

-- the entries before the last commit, if there is one
abbrev pub committed_in : List Note → Option (List Recorded)
committed_in [] = None
committed_in (notes.Entry r ∷ more) = option_map (λ (front : List Recorded). r ∷ front) (committed_in more)
committed_in (notes.Commit ∷ more) = Some (front_of (committed_in more))

-- what is known of a recorded store's history: which one it is, its entries, and those that were committed
pub record Known : Type 0 where
  pub origin : Origin
  pub entries : List Recorded
  pub committed : List Recorded

abbrev pub known_of : Trace Note → Known
known_of trace = record { origin = trace.origin; entries = entries_in trace.entries; committed = front_of (committed_in trace.entries) }

-- The rest serves the invariant of a recorded store, and clauses of private functions.

-- whether a commit is the last of these, or was before them where there are none
abbrev pub ends_with_commit : Bool → List Note → Bool
ends_with_commit was [] = was
ends_with_commit was (notes.Entry r ∷ more) = ends_with_commit false more
ends_with_commit was (notes.Commit ∷ more) = ends_with_commit true more

-- with what a history begins: a commit, or nothing
abbrev pub begun_with : Bool → List Note
begun_with true = notes.Commit ∷ []
begun_with false = []
