-- What is signed of a target: its path, and its parameters in an order of their own (AWS Signature Version 4, "Create a canonical
-- request").
use Rattle.std.specs.Prelude.{◌≡◌, ◌↔◌, ◌<◌, ℕ, List, ◌∷◌, ◌++◌, filter, codes}
use Rattle.std.specs.Cmp.{IsTotalOrder}
use Rattle.std.specs.List.{All}
use Rattle.std.specs.List.Sorted.{IsPermutation}
use Rattle.s3_http_heads.specs.Target.{TargetParts}
use Rattle.s3_canonical.specs.CanonicalTarget.{pair_cmp, sorted_pairs, is_signed_parameter, canonical_uri, canonical_query}
use Rattle.s3_rule_laws.specs.Sorting.{IsInOrder, TellsApart}

-- the order of parameters is total, and only equal ones tie
pub record ParametersAreOrdered : Type 0 where
  pub total : IsTotalOrder pair_cmp
  pub apart : TellsApart pair_cmp

-- sorting keeps each pair as often, in order; no other list is so
abbrev pub ParametersAreSorted : Type 0
ParametersAreSorted =
    (sent sorted : List (List ℕ × List ℕ)) → (sorted ≡ sorted_pairs sent) ↔ (IsPermutation sent sorted × IsInOrder pair_cmp sorted)

-- two targets have the same parameters, each as often
abbrev pub HaveSameParameters : TargetParts → TargetParts → Type 0
HaveSameParameters target other = IsPermutation target.parameters other.parameters

-- so it isn't signed in which order they were sent
abbrev pub SentOrderIsNotSigned : Type 0
SentOrderIsNotSigned = (target other : TargetParts) → HaveSameParameters target other → canonical_query target ≡ canonical_query other

-- nor the signature, wherever it stands
abbrev pub SignatureIsNotSigned : Type 0
SignatureIsNotSigned =
    (target : TargetParts) (front rest : List (List ℕ × List ℕ)) (signature : List ℕ)
    → target.parameters ≡ front ++ (codes "X-Amz-Signature", signature) ∷ rest
    → canonical_query target ≡ canonical_query (record target { parameters = front ++ rest })

-- ---- what is signed fixes the path, and the parameters but for their order and the signature

-- a text has bytes, as each does that is read of a target
abbrev pub IsOfBytes : List ℕ → Type 0
IsOfBytes text = All (λ b. b < 256) text

pub record HasBytes (target : TargetParts) : Type 0 where
  pub path : IsOfBytes target.path
  pub names : All (λ (parameter : List ℕ × List ℕ). IsOfBytes parameter.0) target.parameters
  pub values : All (λ (parameter : List ℕ × List ℕ). IsOfBytes parameter.1) target.parameters

-- the parameters that are signed
abbrev pub signed_of : TargetParts → List (List ℕ × List ℕ)
signed_of target = filter is_signed_parameter target.parameters

-- targets of one canonical URI have one path, and those of one canonical query the same parameters but the signature, each as
-- often
pub record HaveOnePathAndParameters (target other : TargetParts) : Type 0 where
  pub path : canonical_uri target ≡ canonical_uri other → target.path ≡ other.path
  pub parameters : canonical_query target ≡ canonical_query other → IsPermutation (signed_of target) (signed_of other)

abbrev pub SignedTargetsHaveTheSameParameters : Type 0
SignedTargetsHaveTheSameParameters =
    (target other : TargetParts) → HasBytes target → HasBytes other → HaveOnePathAndParameters target other
