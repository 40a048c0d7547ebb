use Rattle.std.proofs.Common.{◌≡◌, ◌≢◌, ◌∙◌, length, true, false, sym, arith, is_ok, None, string_bytes}
use Rattle.std.specs.Str.{chars, IsUtf8}
use Rattle.fill_tables.specs.Tables.{place_of}
use Rattle.fill_tables.proofs.Found.{pushed-tables}
use Rattle.fill_tables.proofs.Names.{index-pushed}
use Rattle.fill_tables.proofs.tables.Tables.add_table.Goals as goal

pub invariant_of-self : goal.invariant_of-self
invariant_of-self c =
    let no : is_ok c.push.result ≡ false = rw c.if-is_err.true at c.is_err.ensures.negation in
    let after = rw no at c.push.ensures.items in
    rw after c.self.invariant

pub invariant_of-self-in_default-insert : goal.invariant_of-self-in_default-insert
invariant_of-self-in_default-insert c =
    let before = c.self.inside.tables.items in
    let t = c.in_ok-table.table in
    let ok : is_ok c.push.result ≡ true = rw c.if-is_err.false at c.is_err.ensures.negation in
    let items = rw ok at c.push.ensures.items in
    let key : string_bytes c.in-Ok.key ≡ c.args.name.now = c.in-Ok.ensures.ok in
    let text : IsUtf8 (string_bytes c.in-Ok.key) = rw key c.utf8.name in
    let name : t.name ≡ chars c.args.name.now = c.in_ok-table.ensures.name ∙ c.in_ok-name_of.ensures in
    let free : place_of before (chars c.args.name.now) ≡ None = rw (← c.self.view_is) at (sym c.place_of.ensures ∙ c.in_default.is) in
    let keyed : t.name ≡ chars (string_bytes c.in-Ok.key) = rw key name in
    let none : place_of before (chars (string_bytes c.in-Ok.key)) ≡ None = rw key free in
    let unnamed : place_of before t.name ≡ None = rw name free in
    let room : length before ≢ 8 = omega arith in
    rw (items, c.in_default-insert.ensures.keys) (
      pushed-tables before t c.self.invariant.0 c.in_ok-table.ensures.shape room unnamed,
      index-pushed c.self.inside.names.keys before c.in-Ok.key t c.self.invariant.1 text keyed none,
    )
