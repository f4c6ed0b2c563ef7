-- The names and the messages of codes fit into a document.
use Rattle.std.proofs.Common.{◌≤◌, length, lit≤}
use Rattle.s3_terms.specs.Code.{name_of, message_of}
use Rattle.s3_terms.specs.declared.code.Code.{Code}
use Rattle.s3_terms.specs.declared.code.Code.TheVariants.{MalformedHead}
use Rattle.s3_replies.specs.declared.document.TheConstants.{TEXT_MAX}

pub length-name_of : (code : Code) → length (name_of code) ≤ TEXT_MAX
length-name_of MalformedHead = lit≤ tt
length-name_of _ = lit≤ tt

pub length-message_of : (code : Code) → length (message_of code) ≤ TEXT_MAX
length-message_of MalformedHead = lit≤ tt
length-message_of _ = lit≤ tt

pub ruleset texts_fit = (length-name_of, length-message_of)
