-- The entries and the commits of a history, as it goes on.
use Rattle.std.proofs.Common.{◌≡◌, ◌≢◌, Bool, true, false, List, [], ◌∷◌, ◌++◌, Option, Some, None, refl, ap, sym, subst, ◌∙◌}
use Rattle.std.specs.Prelude.{option_map}
use mathlib.Core.List.{IsPrefix}
use Rattle.s3_journal.specs.Recorded.{Recorded}
use Rattle.s3_journal.specs.Noted.{committed_in, ends_with_commit, entries_in, front_of}
use Rattle.s3_journal.specs.declared.entry.Note.{Note}
use Rattle.s3_journal.specs.declared.entry.Note.TheVariants as notes

-- ---- one note more

pub entries_push : (all : List Note) (r : Recorded) → entries_in (all ++ notes.Entry r ∷ []) ≡ entries_in all ++ r ∷ []
entries_push [] r = refl
entries_push (notes.Entry e ∷ all) r = ap (λ (es : List Recorded). e ∷ es) (entries_push all r)
entries_push (notes.Commit ∷ all) r = entries_push all r

pub entries_still : (all : List Note) → entries_in (all ++ notes.Commit ∷ []) ≡ entries_in all
entries_still [] = refl
entries_still (notes.Entry e ∷ all) = ap (λ (es : List Recorded). e ∷ es) (entries_still all)
entries_still (notes.Commit ∷ all) = entries_still all

pub committed_still : (all : List Note) (r : Recorded) → committed_in (all ++ notes.Entry r ∷ []) ≡ committed_in all
committed_still [] r = refl
committed_still (notes.Entry e ∷ all) r = ap (λ (c : Option (List Recorded)). option_map (λ (front : List Recorded). e ∷ front) c) (committed_still all r)
committed_still (notes.Commit ∷ all) r = ap (λ (c : Option (List Recorded)). Some (front_of c)) (committed_still all r)

pub committed_push : (all : List Note) → committed_in (all ++ notes.Commit ∷ []) ≡ Some (entries_in all)
committed_push [] = refl
committed_push (notes.Entry e ∷ all) = ap (λ (c : Option (List Recorded)). option_map (λ (front : List Recorded). e ∷ front) c) (committed_push all)
committed_push (notes.Commit ∷ all) = ap (λ (c : Option (List Recorded)). Some (front_of c)) (committed_push all)

pub ends_push : (was : Bool) (all : List Note) (r : Recorded) → ends_with_commit was (all ++ notes.Entry r ∷ []) ≡ false
ends_push was [] r = refl
ends_push was (notes.Entry e ∷ all) r = ends_push false all r
ends_push was (notes.Commit ∷ all) r = ends_push true all r

pub ends_committed : (was : Bool) (all : List Note) → ends_with_commit was (all ++ notes.Commit ∷ []) ≡ true
ends_committed was [] = refl
ends_committed was (notes.Entry e ∷ all) = ends_committed false all
ends_committed was (notes.Commit ∷ all) = ends_committed true all

-- ---- more of them

entries_join : (all more : List Note) → entries_in (all ++ more) ≡ entries_in all ++ entries_in more
entries_join [] more = refl
entries_join (notes.Entry e ∷ all) more = ap (λ (es : List Recorded). e ∷ es) (entries_join all more)
entries_join (notes.Commit ∷ all) more = entries_join all more

pub entries_begin : (all later : List Note) → IsPrefix all later → IsPrefix (entries_in all) (entries_in later)
entries_begin all later begins = (entries_in begins.0, sym (entries_join all begins.0) ∙ ap entries_in begins.1)

-- what was committed stays so
abbrev IsWithin : Option (List Recorded) → Option (List Recorded) → Type 0
IsWithin None later = Unit {0}
IsWithin (Some front) None = ⊥
IsWithin (Some front) (Some later) = IsPrefix front later

within_next : (r : Recorded) (front later : Option (List Recorded)) → IsWithin front later
    → IsWithin (option_map (λ (es : List Recorded). r ∷ es) front) (option_map (λ (es : List Recorded). r ∷ es) later)
within_next r None later within = tt
within_next r (Some front) None within = within
within_next r (Some front) (Some later) within = (within.0, ap (λ (es : List Recorded). r ∷ es) within.1)

within_front : (front later : Option (List Recorded)) → IsWithin front later → IsPrefix (front_of front) (front_of later)
within_front None later within = (front_of later, refl)
within_front (Some front) None within = absurd within
within_front (Some front) (Some later) within = within

within_join : (all more : List Note) → IsWithin (committed_in all) (committed_in (all ++ more))
within_join [] more = tt
within_join (notes.Entry e ∷ all) more = within_next e (committed_in all) (committed_in (all ++ more)) (within_join all more)
within_join (notes.Commit ∷ all) more = within_front (committed_in all) (committed_in (all ++ more)) (within_join all more)

pub front_begins : (all later : List Note) → IsPrefix all later → IsPrefix (front_of (committed_in all)) (front_of (committed_in later))
front_begins all later begins =
    subst (λ (ns : List Note). IsPrefix (front_of (committed_in all)) (front_of (committed_in ns))) begins.1
    (within_front (committed_in all) (committed_in (all ++ begins.0)) (within_join all begins.0))

front_next : (r : Recorded) (front : Option (List Recorded)) (entries : List Recorded) → IsPrefix (front_of front) entries
    → IsPrefix (front_of (option_map (λ (es : List Recorded). r ∷ es) front)) (r ∷ entries)
front_next r None entries begins = (r ∷ entries, refl)
front_next r (Some front) entries begins = (begins.0, ap (λ (es : List Recorded). r ∷ es) begins.1)

-- it begins the entries
pub front_in : (all : List Note) → IsPrefix (front_of (committed_in all)) (entries_in all)
front_in [] = ([], refl)
front_in (notes.Entry e ∷ all) = front_next e (committed_in all) (entries_in all) (front_in all)
front_in (notes.Commit ∷ all) = front_in all

-- ---- where all is committed

not_next : (r : Recorded) (front : Option (List Recorded)) (entries : List Recorded) → front ≢ Some entries
    → option_map (λ (es : List Recorded). r ∷ es) front ≢ Some (r ∷ entries)
not_next r None entries not is = absurd (cc)
not_next r (Some front) entries not is = let same : front ≡ entries = cc in not (ap (λ (es : List Recorded). Some es) same)

not_front_next : (r : Recorded) (front : Option (List Recorded)) (entries : List Recorded) → front ≢ Some entries
    → front_of (option_map (λ (es : List Recorded). r ∷ es) front) ≢ r ∷ entries
not_front_next r None entries not is = absurd (cc)
not_front_next r (Some front) entries not is = let same : front ≡ entries = cc in not (ap (λ (es : List Recorded). Some es) same)

-- what isn't so where an entry is the last
abbrev IsOpen : Bool → List Note → Type 0
IsOpen false all = committed_in all ≢ Some (entries_in all)
IsOpen true all = front_of (committed_in all) ≢ entries_in all

open_so : (was : Bool) (all : List Note) → ends_with_commit was all ≡ false → IsOpen was all
open_so false [] is = λ all_is. cc
open_so true [] is = absurd (cc)
open_so false (notes.Entry e ∷ all) is = not_next e (committed_in all) (entries_in all) (open_so false all is)
open_so true (notes.Entry e ∷ all) is = not_front_next e (committed_in all) (entries_in all) (open_so false all is)
open_so false (notes.Commit ∷ all) is = λ (all_is : Some (front_of (committed_in all)) ≡ Some (entries_in all)). open_so true all is (let same : front_of (committed_in all) ≡ entries_in all = cc in same)
open_so true (notes.Commit ∷ all) is = open_so true all is

-- all is committed just where a commit is the last
pub settled_so : (settled : Bool) (all : List Note) → settled ≡ ends_with_commit false all → committed_in all ≡ Some (entries_in all) → settled ≡ true
settled_so true all is committed = refl
settled_so false all is committed = absurd (open_so false all (sym is) committed)

-- what holds where a commit is the last
abbrev IsAll : Bool → List Note → Type 0
IsAll false all = committed_in all ≡ Some (entries_in all)
IsAll true all = front_of (committed_in all) ≡ entries_in all

all_next : (r : Recorded) (front : Option (List Recorded)) (entries : List Recorded) → front ≡ Some entries
    → option_map (λ (es : List Recorded). r ∷ es) front ≡ Some (r ∷ entries)
all_next r front entries is = ap (λ (c : Option (List Recorded)). option_map (λ (es : List Recorded). r ∷ es) c) is

all_so : (was : Bool) (all : List Note) → ends_with_commit was all ≡ true → IsAll was all
all_so false [] is = absurd (cc)
all_so true [] is = refl
all_so false (notes.Entry e ∷ all) is = all_next e (committed_in all) (entries_in all) (all_so false all is)
all_so true (notes.Entry e ∷ all) is = ap front_of (all_next e (committed_in all) (entries_in all) (all_so false all is))
all_so false (notes.Commit ∷ all) is = ap (λ (es : List Recorded). Some es) (all_so true all is)
all_so true (notes.Commit ∷ all) is = all_so true all is

pub all_settled : (all : List Note) → true ≡ ends_with_commit false all → committed_in all ≡ Some (entries_in all)
all_settled all is = all_so false all (sym is)
