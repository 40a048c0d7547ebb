-- The numbers and the names of tokens.
use Rattle.std.specs.Prelude.{ℕ, List, codes}
use Rattle.fill_tokens.specs.declared.token.Token.{Token}
use Rattle.fill_tokens.specs.declared.token.Token.TheVariants.{Start, End, Digits, Upper, Lower, Alpha, Word, Space, Hyphen, Dot, Comma, Semicolon, Colon, Slash, Backslash, Underscore, At, Hash, Ampersand, LeftParen, RightParen, DoubleQuote, SingleQuote, Percent, Plus, Dollar, NonSpace, NonDigit, NonAlpha, Equals, Less, Greater, LeftBracket, RightBracket, LeftBrace, RightBrace, Bar, Newline}

-- the numbers, by which tokens are ordered
abbrev pub token_number : Token → ℕ
token_number Start = 1
token_number End = 2
token_number Digits = 3
token_number Upper = 4
token_number Lower = 5
token_number Alpha = 6
token_number Word = 7
token_number Space = 8
token_number Hyphen = 9
token_number Dot = 10
token_number Comma = 11
token_number Semicolon = 12
token_number Colon = 13
token_number Slash = 14
token_number Backslash = 15
token_number Underscore = 16
token_number At = 17
token_number Hash = 18
token_number Ampersand = 19
token_number LeftParen = 20
token_number RightParen = 21
token_number DoubleQuote = 22
token_number SingleQuote = 23
token_number Percent = 24
token_number Plus = 25
token_number Dollar = 26
token_number NonSpace = 27
token_number NonDigit = 28
token_number NonAlpha = 29
token_number Equals = 30
token_number Less = 31
token_number Greater = 32
token_number LeftBracket = 33
token_number RightBracket = 34
token_number LeftBrace = 35
token_number RightBrace = 36
token_number Bar = 37
token_number Newline = 38

-- the names, as texts of trees spell them
abbrev pub token_name : Token → List ℕ
token_name Start = codes "Start"
token_name End = codes "End"
token_name Digits = codes "Digits"
token_name Upper = codes "Upper"
token_name Lower = codes "Lower"
token_name Alpha = codes "Alpha"
token_name Word = codes "Word"
token_name Space = codes "Space"
token_name Hyphen = codes "Hyphen"
token_name Dot = codes "Dot"
token_name Comma = codes "Comma"
token_name Semicolon = codes "Semicolon"
token_name Colon = codes "Colon"
token_name Slash = codes "Slash"
token_name Backslash = codes "Backslash"
token_name Underscore = codes "Underscore"
token_name At = codes "At"
token_name Hash = codes "Hash"
token_name Ampersand = codes "Ampersand"
token_name LeftParen = codes "LeftParen"
token_name RightParen = codes "RightParen"
token_name DoubleQuote = codes "DoubleQuote"
token_name SingleQuote = codes "SingleQuote"
token_name Percent = codes "Percent"
token_name Plus = codes "Plus"
token_name Dollar = codes "Dollar"
token_name NonSpace = codes "NonSpace"
token_name NonDigit = codes "NonDigit"
token_name NonAlpha = codes "NonAlpha"
token_name Equals = codes "Equals"
token_name Less = codes "Less"
token_name Greater = codes "Greater"
token_name LeftBracket = codes "LeftBracket"
token_name RightBracket = codes "RightBracket"
token_name LeftBrace = codes "LeftBrace"
token_name RightBrace = codes "RightBrace"
token_name Bar = codes "Bar"
token_name Newline = codes "Newline"
