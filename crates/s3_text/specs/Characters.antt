-- The bytes that stand between the parts of a text, and letters and digits of ASCII.
use Rattle.std.specs.Prelude.{ℕ, Bool, ◌&&◌, ◌||◌, nat_le, List, [], ◌∷◌}
use Rattle.std.specs.Char.{is_ascii_digit}

abbrev pub line_feed : ℕ
line_feed = 10

abbrev pub carriage_return : ℕ
carriage_return = 13

abbrev pub space : ℕ
space = 32

abbrev pub double_quote : ℕ
double_quote = 34

abbrev pub ampersand : ℕ
ampersand = 38

abbrev pub comma : ℕ
comma = 44

abbrev pub hyphen : ℕ
hyphen = 45

abbrev pub dot : ℕ
dot = 46

abbrev pub slash : ℕ
slash = 47

abbrev pub colon : ℕ
colon = 58

abbrev pub semicolon : ℕ
semicolon = 59

abbrev pub equals_sign : ℕ
equals_sign = 61

abbrev pub question_mark : ℕ
question_mark = 63

abbrev pub underscore : ℕ
underscore = 95

abbrev pub tilde : ℕ
tilde = 126

-- the end of a line of HTTP
abbrev pub crlf : List ℕ
crlf = carriage_return ∷ line_feed ∷ []

-- a lower-case letter or a digit
abbrev pub is_letter_or_digit : ℕ → Bool
is_letter_or_digit b = (nat_le 97 b && nat_le b 122) || is_ascii_digit b

-- a lower-case hexadecimal digit
abbrev pub is_lower_hex : ℕ → Bool
is_lower_hex b = is_ascii_digit b || (nat_le 97 b && nat_le b 102)
