-- What a token spans: the table of tokens.
use Rattle.std.specs.Prelude.{ℕ, Bool, not, ◌||◌}
use Rattle.fill_text.specs.Classes.{class_of}
use Rattle.fill_tokens.specs.declared.kind.RunClass.{RunClass}
use Rattle.fill_tokens.specs.declared.kind.RunClass.TheVariants as class
use Rattle.fill_tokens.specs.declared.kind.Kind.{Kind}
use Rattle.fill_tokens.specs.declared.kind.Kind.TheVariants.{AtStart, AtEnd, Run, Single}
use Rattle.fill_tokens.specs.declared.token.Token.{Token}
use Rattle.fill_tokens.specs.declared.token.Token.TheVariants.{Start, End, Digits, Upper, Lower, Alpha, Word, Space, Hyphen, Dot, Comma, Semicolon, Colon, Slash, Backslash, Underscore, At, Hash, Ampersand, LeftParen, RightParen, DoubleQuote, SingleQuote, Percent, Plus, Dollar, NonSpace, NonDigit, NonAlpha, Equals, Less, Greater, LeftBracket, RightBracket, LeftBrace, RightBrace, Bar, Newline}

-- the characters of a class of runs; a word has letters and digits, and a negated class has what the class has not
abbrev pub run_has : RunClass → ℕ → Bool
run_has class.Digit c = (class_of c).digit
run_has class.Upper c = (class_of c).upper
run_has class.Lower c = (class_of c).lower
run_has class.Alpha c = (class_of c).alpha
run_has class.Word c = (class_of c).alpha || (class_of c).digit
run_has class.Space c = (class_of c).space
run_has class.NonSpace c = not (class_of c).space
run_has class.NonDigit c = not (class_of c).digit
run_has class.NonAlpha c = not (class_of c).alpha

abbrev pub kind_of : Token → Kind
kind_of Start = AtStart
kind_of End = AtEnd
kind_of Digits = Run class.Digit
kind_of Upper = Run class.Upper
kind_of Lower = Run class.Lower
kind_of Alpha = Run class.Alpha
kind_of Word = Run class.Word
kind_of Space = Run class.Space
kind_of Hyphen = Single 45
kind_of Dot = Single 46
kind_of Comma = Single 44
kind_of Semicolon = Single 59
kind_of Colon = Single 58
kind_of Slash = Single 47
kind_of Backslash = Single 92
kind_of Underscore = Single 95
kind_of At = Single 64
kind_of Hash = Single 35
kind_of Ampersand = Single 38
kind_of LeftParen = Single 40
kind_of RightParen = Single 41
kind_of DoubleQuote = Single 34
kind_of SingleQuote = Single 39
kind_of Percent = Single 37
kind_of Plus = Single 43
kind_of Dollar = Single 36
kind_of NonSpace = Run class.NonSpace
kind_of NonDigit = Run class.NonDigit
kind_of NonAlpha = Run class.NonAlpha
kind_of Equals = Single 61
kind_of Less = Single 60
kind_of Greater = Single 62
kind_of LeftBracket = Single 91
kind_of RightBracket = Single 93
kind_of LeftBrace = Single 123
kind_of RightBrace = Single 125
kind_of Bar = Single 124
kind_of Newline = Single 10
