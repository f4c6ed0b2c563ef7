-- What a crash leaves, as rows and bodies change and are committed.
use Rattle.std.proofs.Common.{◌≡◌, refl, sym, ap, subst, ◌∙◌, ℕ, List, [], ◌∷◌, Option, Some, None, ◌↔◌, ◌⊎◌, inl, inr, arith}
use Rattle.std.specs.Prelude.{unwrap_or}
use Rattle.std.specs.FinMap.{get}
use Rattle.s3_records.specs.Catalogue.{Catalogue}
use Rattle.s3_records.specs.Leaving.{IsOneOf}
use Rattle.s3_rows.specs.Columns.{Tables}
use Rattle.s3_rows.specs.Meaning.{catalogue_of}
use Rattle.s3_stored_bodies.specs.Numbers.{Contents}
use Rattle.s3_stored_rows.specs.Bodies.{encoding}
use Rattle.s3_table_records.specs.Leaving.{IsLeft, IsKnown, LeavesOneOf, one_of_more}
use Rattle.s3_table_records.proofs.KeptLemmas.{AreNamed}
use Rattle.s3_table_records.proofs.SameBytesLemmas.{same_catalogue}

-- rows are known where more outlives a crash
known_still : (had has : ℕ → List ℕ → Type 0) → ((n : ℕ) (bytes : List ℕ) → had n bytes → has n bytes) → (t : Tables) (known : List (Catalogue (List ℕ))) → IsKnown had t known → IsKnown has t known
known_still had has still t known is =
    record {
      contents = is.contents;
      last = λ n named. let at = is.last n named in (at.0, at.1, still n at.0 at.2);
      among = is.among;
    }

-- a crash leaves what it could leave, where it leaves no more rows and what outlived it does so still
pub stays_known : {before after : Tables → Type 0} {had has : ℕ → List ℕ → Type 0} → ((t : Tables) → after t → before t) → ((n : ℕ) (bytes : List ℕ) → had n bytes → has n bytes)
    → (known : List (Catalogue (List ℕ))) → LeavesOneOf before had known → LeavesOneOf after has known
stays_known {before} {after} {had} {has} fewer still known leaves t left = known_still had has still t known (leaves t (fewer t left))

-- what it leaves is one of the catalogues of which that is known
pub is_one_of : (rows : Tables → Type 0) (bodies : Contents → Type 0) (outlives : ℕ → List ℕ → Type 0)
    → ((d : Contents) → bodies d → (n : ℕ) (bytes : List ℕ) → outlives n bytes → get d n ≡ Some bytes)
    → (known : List (Catalogue (List ℕ))) (left : Catalogue (List ℕ)) → LeavesOneOf rows outlives known → IsLeft rows bodies left → IsOneOf left known
is_one_of rows bodies outlives outlive known left leaves found =
    let is = leaves found.tables found.of_rows in
    let same = same_catalogue is.contents found.contents found.tables
    (λ n named. let at = is.last n named in ap (λ bytes. unwrap_or bytes []) (outlive found.contents found.of_bodies n at.0 at.2 ∙ sym at.1)) in
    subst (λ c. IsOneOf c known) (sym (found.means ∙ same)) is.among

-- ---- a commit

some_there : (found : Option (List ℕ)) → (found ≡ None → ⊥) → (bytes : List ℕ) × (found ≡ Some bytes)
some_there None there = absurd (there refl)
some_there (Some bytes) there = (bytes, refl)

module _ (t : Tables) (c : Contents) (uses : ℕ → ℕ) (named : AreNamed uses t) (there : (m : ℕ) → (uses m ≡ 0) ↔ (get c m ≡ None)) where
  -- rows are the catalogue as it is, where all that they name outlives a crash
  now_known : (outlives : ℕ → List ℕ → Type 0) → ((n : ℕ) (bytes : List ℕ) → get c n ≡ Some bytes → outlives n bytes) → (known : List (Catalogue (List ℕ))) → IsKnown outlives t (catalogue_of (encoding c) t ∷ known)
  now_known outlives settled known =
      record {
        contents = c;
        last = λ n is. let at = some_there (get c n) (λ none. let nothing = (there n).1 none in omega (arith, named n)) in (at.0, at.1, settled n at.0 at.1);
        among = inl refl;
      }

  module _ (rows : Tables → Type 0) (outlives : ℕ → List ℕ → Type 0) (settled : (n : ℕ) (bytes : List ℕ) → get c n ≡ Some bytes → outlives n bytes) where
    -- a crash leaves the catalogue alone, where it leaves the rows as they are
    pub all_settled : ((s : Tables) → rows s → s ≡ t) → LeavesOneOf rows outlives (catalogue_of (encoding c) t ∷ [])
    all_settled alone s left = subst (λ s. IsKnown outlives s (catalogue_of (encoding c) t ∷ [])) (sym (alone s left)) (now_known outlives settled [])

    -- or what it could leave before
    pub still_in_doubt : (before : Tables → Type 0) → ((s : Tables) → rows s → before s ⊎ (s ≡ t)) → (known : List (Catalogue (List ℕ))) → LeavesOneOf before outlives known
        → LeavesOneOf rows outlives (catalogue_of (encoding c) t ∷ known)
    still_in_doubt before survives known leaves s left = either (survives s left)
      where
        either : before s ⊎ (s ≡ t) → IsKnown outlives s (catalogue_of (encoding c) t ∷ known)
        either (inl was) = let is = leaves s was in record { contents = is.contents; last = is.last; among = inr is.among }
        either (inr same) = subst (λ s. IsKnown outlives s (catalogue_of (encoding c) t ∷ known)) (sym same) (now_known outlives settled known)

-- one of one is one of more
pub one_or_known : (rows : Tables → Type 0) (outlives : ℕ → List ℕ → Type 0) (c : Catalogue (List ℕ)) (known : List (Catalogue (List ℕ))) → LeavesOneOf rows outlives (c ∷ []) → LeavesOneOf rows outlives (c ∷ known)
one_or_known rows outlives c known = one_of_more rows outlives (c ∷ []) (c ∷ known) first
  where
    first : (d : Catalogue (List ℕ)) → IsOneOf d (c ∷ []) → IsOneOf d (c ∷ known)
    first d (inl is) = inl is
    first d (inr none) = absurd none

-- one that was known is one of more
pub known_or_now : (rows : Tables → Type 0) (outlives : ℕ → List ℕ → Type 0) (c : Catalogue (List ℕ)) (known : List (Catalogue (List ℕ))) → LeavesOneOf rows outlives known → LeavesOneOf rows outlives (c ∷ known)
known_or_now rows outlives c known = one_of_more rows outlives known (c ∷ known) (λ d is. inr is)
