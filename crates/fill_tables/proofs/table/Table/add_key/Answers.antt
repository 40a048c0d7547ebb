use Rattle.std.proofs.Common.{◌≡◌, ◌≢◌, ◌∙◌, ◌++◌, ◌∷◌, [], List, ℕ, length, map, true, false, ap, sym, arith, is_ok}
use Rattle.std.proofs.lemmas.List.{length-map, map-append}
use Rattle.std.proofs.lemmas.List.Elements.{All-push}
use Rattle.fill_tables.specs.Orders.{IsOrder}
use Rattle.fill_tables.specs.declared.table.Key.{Key}
use Rattle.fill_tables.proofs.Found.{keyed-table}
use Rattle.fill_tables.proofs.table.Table.add_key.Goals as goal

pub invariant_of-self : goal.invariant_of-self
invariant_of-self c =
    let no : is_ok c.push.result ≡ false = rw c.if-is_err.true at c.is_err.ensures.negation in
    let after = rw no at c.push.ensures.items in
    rw after c.self.invariant

pub invariant_of-self-2 : goal.invariant_of-self-2
invariant_of-self-2 c =
    let before = c.self.inside.keys.items in
    let f = λ (key : Key). key.columns in
    let ok : is_ok c.push.result ≡ true = rw c.if-is_err.false at c.is_err.ensures.negation in
    let after = rw ok at c.push.ensures.items in
    let none = rw c.deref.ensures.value at c.in-Ok.ensures.apart in
    let size = length-map before f in
    let room : length (map f before) ≢ 4 = omega arith in
    let keys : map f (before ++ c.in_ok-key.key ∷ []) ≡ map f before ++ c.args.columns.now ∷ [] = map-append f before (c.in_ok-key.key ∷ []) ∙ ap (λ (key : List ℕ). map f before ++ key ∷ []) c.in_ok-key.ensures.columns in
    let table = keyed-table c.self.inside.name c.self.inside.width c.self.inside.rows.items (map f before) c.args.columns.now c.self.invariant.0 c.requires.columns (sym c.is_past.ensures ∙ c.if-is_past.false) room none in
    let rows = c.self.inside.rows.items in
    let order : IsOrder c.in_ok-key.key.columns rows (length rows) c.in_ok-key.key.order = rw (c.in_ok-key.ensures.columns, c.in_ok-key.ensures.order, c.as_slice.ensures.value) (rw c.deref.ensures.value at c.in-Ok.ensures.order) in
    rw after (rw keys table, All-push (λ (key : Key). IsOrder key.columns rows (length rows) key.order) before c.in_ok-key.key c.self.invariant.1 order)

pub returns-clause-shape : goal.returns-clause-shape
returns-clause-shape c =
    let before = c.self.inside.keys.items in
    let f = λ (key : Key). key.columns in
    let ok : is_ok c.push.result ≡ true = rw c.if-is_err.false at c.is_err.ensures.negation in
    let after = rw ok at c.push.ensures.items in
    let none = rw c.deref.ensures.value at c.in-Ok.ensures.apart in
    let size = length-map before f in
    let room : length (map f before) ≢ 4 = omega arith in
    let keys : map f (before ++ c.in_ok-key.key ∷ []) ≡ map f before ++ c.args.columns.now ∷ [] = map-append f before (c.in_ok-key.key ∷ []) ∙ ap (λ (key : List ℕ). map f before ++ key ∷ []) c.in_ok-key.ensures.columns in
    let table = keyed-table c.self.inside.name c.self.inside.width c.self.inside.rows.items (map f before) c.args.columns.now c.self.invariant.0 c.requires.columns (sym c.is_past.ensures ∙ c.if-is_past.false) room none in
    rw after (rw keys table)
