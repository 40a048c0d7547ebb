-- The classes of a character, by its general category and its property White_Space.
use Rattle.std.specs.Prelude.{ℕ, Bool, true, false, not, ◌||◌}
use Rattle.unicode.specs.GeneralCategory.{general_category}
use Rattle.unicode.specs.Binary.{is_white_space}
use Rattle.unicode.specs.declared.properties.GeneralCategory.{GeneralCategory}
use Rattle.unicode.specs.declared.properties.GeneralCategory.TheVariants as category
use Rattle.fill_text.specs.declared.class.Class.{Class}

-- decimal numbers, Nd
abbrev pub is_digit_category : GeneralCategory → Bool
is_digit_category category.DecimalNumber = true
is_digit_category _ = false

-- Lu
abbrev pub is_upper_category : GeneralCategory → Bool
is_upper_category category.UppercaseLetter = true
is_upper_category _ = false

-- Ll
abbrev pub is_lower_category : GeneralCategory → Bool
is_lower_category category.LowercaseLetter = true
is_lower_category _ = false

-- letters of any case, and those that have none: Lu, Ll, Lt, Lm and Lo
abbrev pub is_alpha_category : GeneralCategory → Bool
is_alpha_category category.UppercaseLetter = true
is_alpha_category category.LowercaseLetter = true
is_alpha_category category.TitlecaseLetter = true
is_alpha_category category.ModifierLetter = true
is_alpha_category category.OtherLetter = true
is_alpha_category _ = false

-- the classes of a character
unfoldable pub class_of : ℕ → Class
class_of c = record {
  digit = is_digit_category (general_category c);
  upper = is_upper_category (general_category c);
  lower = is_lower_category (general_category c);
  alpha = is_alpha_category (general_category c);
  space = is_white_space c;
}

-- neither a letter nor a digit
abbrev pub is_separator : ℕ → Bool
is_separator c = not ((class_of c).alpha || (class_of c).digit)
