-- What a writer wrote after its calls.
use Rattle.std.proofs.Common.{◌≡◌, refl, ap, ◌∙◌, ℕ, List, [], ◌∷◌, ◌++◌, codes, append-nil, append_assoc}
use Rattle.s3_xml.specs.Events.{Event, end, text_in}
use Rattle.s3_xml.specs.Printed.{declaration, namespace_text, event_text, markup, escaped, document_text}
use Rattle.s3_xml.specs.Writer.{opening}

-- a text, which may be empty
pub markup_text : (content : List ℕ) → markup (text_in content) ≡ escaped content
unfolding escaped
markup_text [] = refl
markup_text (b ∷ bs) = append-nil (escaped (b ∷ bs))

regroup : (old a b c d e : List ℕ) → ((((old ++ a) ++ b) ++ c) ++ d) ++ e ≡ old ++ ((((a ++ b) ++ c) ++ d) ++ e)
regroup old a b c d e = simp append_assoc

-- the beginning of a document, piece by piece
pub opened : (b0 b1 b2 b3 b4 b5 root namespace : List ℕ) → b1 ≡ b0 ++ declaration → b2 ≡ b1 ++ codes "<" → b3 ≡ b2 ++ root
    → b4 ≡ b3 ++ namespace_text namespace → b5 ≡ b4 ++ codes ">" → b5 ≡ b0 ++ opening root namespace
unfolding opening
opened b0 b1 b2 b3 b4 b5 root namespace e1 e2 e3 e4 e5 =
    rw (e5, e4, e3, e2, e1) (regroup b0 declaration (codes "<") root (namespace_text namespace) (codes ">"))

-- the end of a document
pub finished : (old new root namespace : List ℕ) (inner : List Event) → new ≡ old ++ markup (end root ∷ []) → old ≡ opening root namespace ++ markup inner
    → new ≡ document_text root namespace inner
unfolding opening document_text
finished old new root namespace inner is told =
    is ∙ ap (λ front. front ++ markup (end root ∷ [])) told ∙ ap (λ behind. (opening root namespace ++ markup inner) ++ behind) (append-nil (event_text (end root)))
