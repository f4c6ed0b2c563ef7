-- The statuses of replies (RFC 9110, section 15).
use Rattle.std.specs.Prelude.{ℕ, Bool, true, false, List, codes}
use Rattle.s3_terms.specs.declared.status.Status.{Status}
use Rattle.s3_terms.specs.declared.status.Status.TheVariants.{Ok, NoContent, PartialContent, NotModified, BadRequest, Forbidden, NotFound, MethodNotAllowed, Conflict, LengthRequired, PreconditionFailed, RangeNotSatisfiable, InternalServerError, NotImplemented}

-- a status: its number, its reason phrase, and whether a reply with it tells the size of its body
-- (section 8.6 of that RFC)
abbrev pub Row : Type 0
Row = ℕ × List ℕ × Bool

-- the row of a status
abbrev pub status_row : Status → Row
status_row Ok = (200, codes "OK", true)
status_row NoContent = (204, codes "No Content", false)
status_row PartialContent = (206, codes "Partial Content", true)
status_row NotModified = (304, codes "Not Modified", false)
status_row BadRequest = (400, codes "Bad Request", true)
status_row Forbidden = (403, codes "Forbidden", true)
status_row NotFound = (404, codes "Not Found", true)
status_row MethodNotAllowed = (405, codes "Method Not Allowed", true)
status_row Conflict = (409, codes "Conflict", true)
status_row LengthRequired = (411, codes "Length Required", true)
status_row PreconditionFailed = (412, codes "Precondition Failed", true)
status_row RangeNotSatisfiable = (416, codes "Range Not Satisfiable", true)
status_row InternalServerError = (500, codes "Internal Server Error", true)
status_row NotImplemented = (501, codes "Not Implemented", true)

-- its number
abbrev pub number_of : Status → ℕ
number_of status = (status_row status).0

-- its reason phrase
abbrev pub reason_phrase : Status → List ℕ
reason_phrase status = (status_row status).1

-- a reply with it tells the size of its body
abbrev pub tells_size : Status → Bool
tells_size status = (status_row status).2
