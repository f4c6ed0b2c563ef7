-- The JSON of a body that is a text, and of one that is none.
use Rattle.std.proofs.Common.{◌≡◌, refl, sym, ap, ◌∙◌, ◌<◌, List, [], ◌∷◌, length, arith, ℕ, Some, None, true, false, true≢false, if◌then◌else◌}
use Rattle.std.proofs.lemmas.Bool.{false_from_ne_true}
use Rattle.std.proofs.lemmas.Str.{is_utf8-from_IsUtf8, IsUtf8-from_is_utf8}
use Rattle.std.proofs.lemmas.Option.{none-some}
use Rattle.std.specs.Str.{IsUtf8, is_utf8}
use Rattle.json.specs.Lex.{tokens}
use Rattle.json.specs.Reads.{opens}
use Rattle.serde_json.specs.Data.{Data}
use Rattle.serde_json.specs.Read.{read}
use Rattle.serde_json.proofs.OnLiterals.{serde_json_on_literals}
use Rattle.s3_request_documents.specs.Json.{json_of}

pub json_of-text : (body text : List ℕ) (value : Data) → text ≡ body → IsUtf8 body → read text ≡ Some value → json_of body ≡ Some value
json_of-text body text value same valid is =
    ap (λ b. if b then read body else None) (is_utf8-from_IsUtf8 body valid) ∙ ap read (sym same) ∙ is

pub json_of-none : (body text : List ℕ) → text ≡ body → read text ≡ None → json_of body ≡ None
json_of-none body text same is =
    elim (is_utf8 body) as (λ b. (if b then read body else None) ≡ None) [ true ↦ ap read (sym same) ∙ is | false ↦ refl ]

pub json_of-bytes : (body : List ℕ) → ¬ (IsUtf8 body) → json_of body ≡ None
json_of-bytes body invalid =
    ap (λ b. if b then read body else None) (false_from_ne_true (is_utf8 body) (λ valid. invalid (IsUtf8-from_is_utf8 body valid)))

-- where a body is JSON, it has bytes
nothing_read : read [] ≡ None
unfolding serde_json_on_literals
nothing_read = refl

pub some_read : (body : List ℕ) (value : Data) → json_of body ≡ Some value → 0 < length body
some_read [] value is = absurd (none-some value (sym nothing_there ∙ is))
  where
    nothing_there : json_of [] ≡ None
    nothing_there = elim (is_utf8 []) as (λ b. (if b then read [] else None) ≡ None) [ true ↦ nothing_read | false ↦ refl ]
some_read (b ∷ body) value is = omega arith

-- and where the first token opens an array or an object
nothing_opens : opens (tokens []) ≡ false
unfolding serde_json_on_literals
nothing_opens = refl

pub some_opens : (text : List ℕ) → opens (tokens text) ≡ true → 0 < length text
some_opens [] is = absurd (true≢false (sym is ∙ nothing_opens))
some_opens (b ∷ text) is = omega arith
