-- Changes that are copied one after another.
use Rattle.std.proofs.Common.{◌≡◌, ℕ, ◌+◌, ◌<◌, List, [], ◌∷◌, ◌++◌, take, length, get_or, sym, ap, ◌∙◌}
use Rattle.std.proofs.lemmas.List.Sums.{fold_more, fold_push}
use Rattle.s3_rows.specs.Columns.{Tables}
use Rattle.s3_stored_rows.specs.declared.change.Change.{Change}
use Rattle.s3_stored_rows.specs.Changes.{changed_by, after_all}

-- one more
pub copied_more : (changes copies more : List Change) (i : ℕ) (change copy : Change) → i < length changes → change ≡ get_or changes i change → more ≡ copies ++ copy ∷ []
    → ((t : Tables) → changed_by copy t ≡ changed_by change t) → ((t : Tables) → after_all copies t ≡ after_all (take i changes) t) → (t : Tables) → after_all more t ≡ after_all (take (i + 1) changes) t
copied_more changes copies more i change copy low found is same so_far t =
    ap (λ (l : List Change). after_all l t) is ∙ fold_push (λ (now : Tables) (x : Change). changed_by x now) t copies copy ∙ same (after_all copies t) ∙ ap (changed_by change) (so_far t)
    ∙ ap (λ (x : Change). changed_by x (after_all (take i changes) t)) found ∙ sym (fold_more (λ (now : Tables) (x : Change). changed_by x now) t changes i change low)
