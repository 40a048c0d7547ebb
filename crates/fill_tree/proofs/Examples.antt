-- The definitions compute: costs and orders of some programs, which of their parts are in the grammar, and values.
use Rattle.std.proofs.Common.{◌≡◌, ℕ, true, false, [], ◌∷◌, pos, negsuc, refl}
use Rattle.std.specs.declared.cmp.Ordering.TheVariants.{Less}
use Rattle.fill_tokens.specs.declared.token.Token.TheVariants.{Upper, Hyphen, Space}
use Rattle.fill_tokens.specs.declared.place.Place.TheVariants.{CPos, Pos}
use Rattle.fill_tokens.specs.declared.prices.TheConstants.Prices as price
use Rattle.fill_text.specs.Classes.{is_separator}
use Rattle.fill_tree.specs.declared.profile.TheConstants.Profile as profile
use Rattle.fill_tree.specs.Tree.{AtomTree, Atoms, col, select, constant, whole, sub, end, more}
use Rattle.fill_tree.specs.Cost.{program_cost}
use Rattle.fill_tree.specs.Order.{source_cmp, atom_cmp, atoms_cmp, program_cmp}

abbrev one : AtomTree → Atoms
one a = more a end

-- from the last capital to the end
abbrev last_name : AtomTree
last_name = sub (col 1) (Pos [] (Upper ∷ []) (negsuc 0)) (CPos (negsuc 0))

-- the same by the blank before it
abbrev after_space : AtomTree
after_space = sub (col 1) (Pos (Space ∷ []) [] (pos 1)) (CPos (negsuc 0))

-- the month's name by its number, which stands between two hyphens
abbrev month : AtomTree
month = whole (select 2 1 1 (one (sub (col 1) (Pos (Hyphen ∷ []) [] (pos 1)) (Pos [] (Hyphen ∷ []) (negsuc 0)))))

-- a price by the item and the year 2012
abbrev item_price : AtomTree
item_price = whole (select 3 1 1 (more (whole (col 1)) (one (constant (50 ∷ 48 ∷ 49 ∷ 50 ∷ [])))))

costs_last_name : program_cost price.FIRST (one last_name) ≡ 16
costs_last_name = refl

costs_after_space : program_cost price.FIRST (one after_space) ≡ 16
costs_after_space = refl

earlier : program_cmp price.FIRST (one last_name) (one after_space) ≡ Less
earlier = refl

costs_first_letter : program_cost price.FIRST (one (sub (col 1) (CPos (pos 0)) (CPos (pos 1)))) ≡ 22
costs_first_letter = refl

-- a letter
costs_letter : (c : ℕ) → is_separator c ≡ false → program_cost price.FIRST (one (constant (c ∷ []))) ≡ 27
costs_letter c h = rw h

costs_month : program_cost price.FIRST (one month) ≡ 31
costs_month = refl

-- a separator and a digit, as $2
costs_dollar : (c d : ℕ) → is_separator c ≡ true → is_separator d ≡ false → program_cost price.FIRST (one (constant (c ∷ d ∷ []))) ≡ 28
costs_dollar c d h k = rw (h, k)

costs_price : program_cost price.FIRST (one item_price) ≡ 34
costs_price = refl

-- three lookups inside each other
costs_chain : program_cost price.FIRST (one (whole (select 2 3 1 (one (whole (select 2 2 1 (one (whole (select 2 1 1 (one (whole (col 1)))))))))))) ≡ 43
costs_chain = refl

costs_nothing : program_cost price.FIRST end ≡ 0
costs_nothing = refl

-- by the third table
costs_last_name_more : program_cost price.THIRD (one last_name) ≡ 20
costs_last_name_more = refl

costs_after_space_less : program_cost price.THIRD (one after_space) ≡ 15
costs_after_space_less = refl

costs_letter_more : (c : ℕ) → is_separator c ≡ false → program_cost price.THIRD (one (constant (c ∷ []))) ≡ 55
costs_letter_more c h = rw h

costs_price_more : program_cost price.THIRD (one item_price) ≡ 59
costs_price_more = refl

-- a letter by each profile
pub letter_by_first : (c : ℕ) → is_separator c ≡ false → (let p = profile.FIRST in program_cost p.prices (more (constant (c ∷ [])) end)) ≡ 27
letter_by_first c h = rw h

pub letter_by_second : (c : ℕ) → is_separator c ≡ false → (let p = profile.SECOND in program_cost p.prices (more (constant (c ∷ [])) end)) ≡ 27
letter_by_second c h = rw h

pub letter_by_third : (c : ℕ) → is_separator c ≡ false → (let p = profile.THIRD in program_cost p.prices (more (constant (c ∷ [])) end)) ≡ 55
letter_by_third c h = rw h

-- a constant is before a whole source, and that before a piece, also where the first word or number is greater
constant_first : atom_cmp (constant (122 ∷ [])) (whole (col 1)) ≡ Less
constant_first = refl

whole_next : atom_cmp (whole (col 9)) (sub (col 1) (CPos (pos 0)) (CPos (pos 1))) ≡ Less
whole_next = refl

prefix_first : atoms_cmp (one (whole (col 1))) (more (whole (col 1)) (one (whole (col 1)))) ≡ Less
prefix_first = refl

-- the second character decides, and not the length
text_order : atom_cmp (constant (97 ∷ 98 ∷ [])) (constant (97 ∷ 99 ∷ [])) ≡ Less
text_order = refl

column_first : source_cmp (select 1 2 2 end) (select 2 1 1 end) ≡ Less
column_first = refl

table_next : source_cmp (select 1 1 2 end) (select 1 2 1 end) ≡ Less
table_next = refl
