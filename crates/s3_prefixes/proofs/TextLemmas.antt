-- Texts of UTF-8.
use Rattle.std.proofs.lemmas.Str.{IsUtf8-from_is_utf8}

pub ruleset texts = (IsUtf8-from_is_utf8)
