-- What a crash leaves of the file, and what waits for it.
use Rattle.std.proofs.Common.{◌≡◌, ◌⊎◌, inl, inr, Result, Ok, Err, List, [], ◌∷◌, length, refl, sym, ap, ◌∙◌, arith}
use Rattle.std.specs.Prelude.{IsTrue, is_ok}
use Rattle.sqlite_trees.specs.Tree.{Trees}
use Rattle.sqlite.specs.declared.error.Error.{Error}
use Rattle.sqlite.specs.State.{State, HasCleanDisk}
use Rattle.s3_rows.specs.Columns.{Tables}
use Rattle.s3_stored_rows.specs.declared.change.Change.{Change}
use Rattle.s3_stored_rows.specs.Changes.{after_all}
use Rattle.s3_tables.specs.Stored.{Stores, tables_in}
use Rattle.s3_tables.specs.Keeping.{tables, Keeps, Steps, Reads}
use Rattle.s3_mirrored_rows.specs.Mirror.{Awaits, MayLeave, Commits}

-- what is read in trees that store tables is those
abbrev pub ShownLaw : Type 0
ShownLaw = (db : Trees) (t : Tables) → Stores db t → tables_in db ≡ t

-- of a file that answers, and has these tables, a crash leaves these
pub left_is : ShownLaw → (s : State) (known : Tables) → (HasCleanDisk s → Keeps s) → (HasCleanDisk s → IsTrue s.is_open) → (HasCleanDisk s → tables s ≡ known) → (t : Tables) → MayLeave s t → t ≡ known
left_is shown s known keeps up same t (clean, db, left, is) = sym is ∙ shown db (tables s) (((keeps clean).serves (up clean)).settled db left) ∙ same clean

-- the changes that waited were made in the file, or not
module _ (shown : ShownLaw) (waiting : List Change) (old new : State) (t : Tables) (awaits : Awaits old waiting t) where
  pub made_is : {X : Type 0} (x : X) → Steps (after_all waiting) old new (Ok x) → HasCleanDisk new → IsTrue new.is_open → tables new ≡ t
  made_is x steps clean up =
      let early : HasCleanDisk old = omega (arith, steps.survives.clean, clean) in
      (steps.made clean).made ∙ awaits early (steps.was_open clean up)

  made_survives : {X : Type 0} (r : Result X Error) → Steps (after_all waiting) old new r → (u : Tables) → MayLeave new u → MayLeave old u ⊎ (u ≡ t)
  made_survives r steps u (clean, db, left, is) =
      let early : HasCleanDisk old = omega (arith, steps.survives.clean, clean) in
      elim (steps.survives.crash clean db left) [
        | inl kept ↦ inl (early, db, kept, is)
        | inr changed ↦ inr (sym is ∙ shown db (after_all waiting (tables old)) changed.1 ∙ awaits early changed.0)
      ]

  pub commits_made : {X Y E : Type 0} (x : X) (y : Y) → Steps (after_all waiting) old new (Ok x) → (left : List Change) → left ≡ [] → Commits {X = Y} {E = E} t old new left (Ok y)
  commits_made x y steps left none = record {
    awaits = λ clean up. ap (λ (l : List Change). after_all l (tables new)) none ∙ made_is x steps clean up;
    settled = λ u (clean, db, may, is).
        let made = steps.made clean in
        sym is ∙ shown db (tables new) (made.settled db may) ∙ made_is x steps clean made.is_open;
    survives = made_survives (Ok x) steps;
  }

  pub commits_failed : {X Y E : Type 0} (error : Error) (told : E) → Steps {X = X} (after_all waiting) old new (Err error) → Commits {X = Y} t old new waiting (Err told)
  commits_failed error told steps = record {
    awaits = λ clean up.
        let early : HasCleanDisk old = omega (arith, steps.survives.clean, clean) in
        ap (after_all waiting) (steps.kept clean up) ∙ awaits early (steps.was_open clean up);
    settled = tt;
    survives = made_survives (Err error) steps;
  }

-- a call that asks leaves what waits, and what a crash leaves
module _ (old new : State) (reads : Reads old new) where
  early : HasCleanDisk new → HasCleanDisk old
  early clean = omega (arith, reads.survives.clean, clean)

  pub read_awaits : (waiting : List Change) (t : Tables) → Awaits old waiting t → Awaits new waiting t
  read_awaits waiting t awaits clean up = ap (after_all waiting) (reads.kept clean up) ∙ awaits (early clean) (reads.was_open clean up)

  pub read_stays : (t : Tables) → MayLeave new t → MayLeave old t
  read_stays t (clean, db, left, is) = (early clean, db, (elim (reads.survives.crash clean db left) [ inl before ↦ before | inr never ↦ absurd never ]), is)

  pub commits_unasked : {X E : Type 0} (told : E) (waiting : List Change) (t : Tables) → Awaits old waiting t → Commits {X = X} t old new waiting (Err told)
  commits_unasked told waiting t awaits = record { awaits = read_awaits waiting t awaits; settled = tt; survives = λ u left. inl (read_stays u left) }

  -- where nothing waits, and the file answers
  pub commits_none : {X E : Type 0} → ShownLaw → (x : X) (waiting : List Change) (t : Tables) → waiting ≡ [] → (HasCleanDisk new → IsTrue new.is_open) → Awaits old waiting t → Commits {E = E} t old new waiting (Ok x)
  commits_none shown x waiting t none up awaits = record {
    awaits = read_awaits waiting t awaits;
    settled = left_is shown new t reads.keeps up (λ clean. ap (λ (l : List Change). after_all l (tables new)) (sym none) ∙ read_awaits waiting t awaits clean (up clean));
    survives = λ u left. inl (read_stays u left);
  }

  pub commits_asked : {X E : Type 0} (last : State) (left : List Change) (t : Tables) (r : Result X E) → Commits t new last left r → Commits t old last left r
  commits_asked last left t r commits = record {
    awaits = commits.awaits;
    settled = commits.settled;
    survives = λ u may. elim (commits.survives u may) [ inl mid ↦ inl (read_stays u mid) | inr is ↦ inr is ];
  }

-- a list of no length has nothing
pub none_where : (xs : List Change) → length xs ≡ 0 → xs ≡ []
none_where [] none = refl
none_where (x ∷ xs) none = absurd (omega (arith, none))

-- two commits, one after another
pub commits_again : {X E Y F : Type 0} (old mid new : State) (before after : List Change) (t : Tables) (first : Result X E) (second : Result Y F) → Commits t old mid before first → Commits t mid new after second → Commits t old new after second
commits_again old mid new before after t first second one two = record {
  awaits = two.awaits;
  settled = two.settled;
  survives = λ u may. elim (two.survives u may) [ inl between ↦ one.survives u between | inr is ↦ inr is ];
}

-- and one that is told otherwise
pub commits_told : {X E Y F : Type 0} (old new : State) (waiting : List Change) (t : Tables) (made : Result X E) (told : Result Y F) → is_ok told ≡ is_ok made → Commits t old new waiting made → Commits t old new waiting told
commits_told old new waiting t (Ok x) (Ok y) same commits = record { awaits = commits.awaits; settled = commits.settled; survives = commits.survives }
commits_told old new waiting t (Ok x) (Err f) same commits = record { awaits = commits.awaits; settled = tt; survives = commits.survives }
commits_told old new waiting t (Err e) (Err f) same commits = record { awaits = commits.awaits; settled = tt; survives = commits.survives }
commits_told old new waiting t (Err e) (Ok y) same commits = absurd cc
