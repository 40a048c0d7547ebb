-- The lines that say why a file, a table or a key is refused.
use Rattle.std.specs.Prelude.{ℕ, List, ◌++◌, codes}
use Rattle.std.specs.Fmt.{decimal}
use Rattle.fill_tables.specs.declared.error.TableError.{TableError}
use Rattle.fill_tables.specs.declared.error.TableError.TheVariants as table

-- the line of a file's name and of a text, which has the line's end
abbrev pub line_of : List ℕ → List ℕ → List ℕ
line_of name text = codes "fillcsv: " ++ (name ++ (codes ": " ++ text))

-- the line of a file that has more than these bytes
abbrev pub long_line : ℕ → List ℕ → List ℕ
long_line most name = line_of name (codes "more than " ++ (decimal most ++ codes " bytes\n"))

abbrev pub memory_line : List ℕ
memory_line = codes "fillcsv: out of memory\n"

-- the line of a table or a key that is not added; it begins with the file of the table, or with the table of the key
abbrev pub lookup_line : List ℕ → TableError → List ℕ
lookup_line place (table.TooManyTables limit) = line_of place (codes "more than " ++ (decimal limit ++ codes " tables\n"))
lookup_line place (table.SameName first) = line_of place (codes "table " ++ (decimal first ++ codes " has the same name\n"))
lookup_line place (table.TooManyRows limit) = line_of place (codes "more than " ++ (decimal limit ++ codes " records\n"))
lookup_line place (table.NotUtf8 number column) =
    line_of place (codes "record " ++ (decimal number ++ (codes ", column " ++ (decimal column ++ codes ": not UTF-8\n"))))
lookup_line place table.NoSuchTable = line_of place (codes "no such table, and --key names it\n")
lookup_line place (table.NoSuchColumn columns) = line_of place (codes "only " ++ (decimal columns ++ codes " columns, and --key names another\n"))
lookup_line place (table.TooManyKeys limit) = line_of place (codes "more than " ++ (decimal limit ++ codes " keys\n"))
lookup_line place (table.NotAKey row1 row2) =
    line_of place (codes "rows " ++ (decimal row1 ++ (codes " and " ++ (decimal row2 ++ codes " agree in the key\n"))))
lookup_line place table.NoMemory = memory_line
