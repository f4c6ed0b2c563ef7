-- The methods of requests (RFC 9110, section 9.3).
use Rattle.std.specs.Prelude.{ℕ, Bool, true, false, if◌then◌else◌, List, codes}
use Rattle.std.specs.Str.{bytes_eq}
use Rattle.s3_http_heads.specs.declared.method.Method.{Method}
use Rattle.s3_http_heads.specs.declared.method.Method.TheVariants.{Get, Head, Put, Post, Delete, Other}

-- the method of a name (RFC 9110, section 9.1), whose case counts
unfoldable pub method_of : List ℕ → Method
method_of name =
    if bytes_eq name (codes "GET") then Get
    else if bytes_eq name (codes "HEAD") then Head
    else if bytes_eq name (codes "PUT") then Put
    else if bytes_eq name (codes "POST") then Post
    else if bytes_eq name (codes "DELETE") then Delete
    else Other

-- it is PUT
abbrev pub is_put : Method → Bool
is_put Put = true
is_put _ = false

-- it is HEAD
abbrev pub is_head : Method → Bool
is_head Head = true
is_head _ = false
