-- What a head says of its request, as it was sent (RFC 9112, section 3): percent-encoded, where its client encoded it.
use Rattle.std.specs.Prelude.{ℕ, ◌==◌, nat_eq, if◌then◌else◌, List, [], ◌∷◌}
use Rattle.std.specs.List.{after_first, before_first, starts_with}
use Rattle.s3_text.specs.Characters.{line_feed, question_mark, slash, space}

-- what stands in front of the first such byte, and behind it
abbrev pub before : ℕ → List ℕ → List ℕ
before byte text = before_first (λ b. b == byte) text

abbrev pub behind : ℕ → List ℕ → List ℕ
behind byte text = after_first (λ b. b == byte) text

-- the first line
abbrev pub first_line : List ℕ → List ℕ
first_line head = before line_feed head

-- the method, which a space ends
abbrev pub method_of : List ℕ → List ℕ
method_of head = before space (first_line head)

-- the target, which stands between two spaces
abbrev pub target_of : List ℕ → List ℕ
target_of head = before space (behind space (first_line head))

-- its query
abbrev pub query_of : List ℕ → List ℕ
query_of head = behind question_mark (target_of head)

-- a path behind the slash with which it begins
abbrev pub behind_slash : List ℕ → List ℕ
behind_slash path = if starts_with nat_eq path (slash ∷ []) then behind slash path else []

-- the path of the target
abbrev pub path_of : List ℕ → List ℕ
path_of head = behind_slash (before question_mark (target_of head))

-- the bucket and the key that it names (Amazon S3 User Guide, "Path-style requests")
abbrev pub bucket_of : List ℕ → List ℕ
bucket_of head = before slash (path_of head)

abbrev pub key_of : List ℕ → List ℕ
key_of head = behind slash (path_of head)
