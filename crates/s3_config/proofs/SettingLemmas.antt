-- Lists of which no two entries have one name, and the secret of an id among keys.
use Rattle.std.proofs.Common.{◌≡◌, ℕ, ◌+◌, ◌<◌, Bool, ◌||◌, List, [], ◌∷◌, map, length, get_or, drop, refl, ap, add-one, Some, if◌then◌else◌}
use Rattle.std.specs.List.{list_any}
use Rattle.std.specs.Str.{bytes_eq}
use Rattle.std.proofs.Math.Seq.{drop-cons}
use Rattle.s3_config.specs.Settings.{Credentials, secret_of}

-- a test of names is a test of what has them
pub list_any-map : {X : Type 0} (p : List ℕ → Bool) (f : X → List ℕ) (xs : List X) → list_any p (map f xs) ≡ list_any (λ x. p (f x)) xs
list_any-map p f [] = refl
list_any-map p f (x ∷ xs) = ap (λ b. p (f x) || b) (list_any-map p f xs)

pub ruleset settings = (list_any-map)

-- the key at an index decides, or those behind it do
pub secret_here : (keys : List Credentials) (id : List ℕ) (i : ℕ) (d : Credentials) → i < length keys → secret_of (drop i keys) id ≡ (if bytes_eq (get_or keys i d).id id then Some (get_or keys i d).secret else secret_of (drop (i + 1) keys) id)
secret_here keys id i d lt = rw (drop-cons keys i d lt, add-one) refl
