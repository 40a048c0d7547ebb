use Rattle.std.proofs.Common.{◌≡◌, ◌++◌, drop}
use Rattle.std.specs.Prelude.{encode_utf8_all, string_bytes}
use Rattle.fill_text.proofs.text.spelling.Given as goal

-- what is spelled, before the spelling of the characters that are left
abbrev pub invariant-loop-c : goal.invariant-loop-c
invariant-loop-c l = string_bytes l.spelled ++ encode_utf8_all (drop l.c-index l.chars) ≡ encode_utf8_all l.chars
