use Rattle.std.proofs.Common.{◌∙◌, length, Result, refl, ap, sym}
use Rattle.std.specs.Str.{chars}
use Rattle.std.proofs.lemmas.Option.{slice_get_read}
use Rattle.fill_text.specs.Data.{TableData}
use Rattle.fill_tables.specs.declared.error.TableError.{TableError}
use Rattle.fill_tables.proofs.Found.{add_key_to-at, add_key_to-missing, set-tables, replaced, place-within, OnOk-map, IfErr-map}
use Rattle.fill_tables.proofs.Names.{index-set}
use Rattle.fill_tables.proofs.tables.Tables.add_key.Goals as goal

pub returns-in_default-clause-err : goal.returns-in_default-clause-err
returns-in_default-clause-err c = λ _. add_key_to-missing c.args.self.now (chars c.args.name.now) c.args.columns.now (sym c.place_of.ensures ∙ c.in_default.is)

pub invariant_of-self : goal.invariant_of-self
invariant_of-self c =
    let found = rw (← c.self.view_is) at (sym c.place_of.ensures ∙ c.in-Some.is) in
    let lt = place-within c.self.inside.tables.items (chars c.args.name.now) c.in-Some.place found in
    let there = slice_get_read c.self.inside.tables.items (length c.self.inside.tables.items) c.in-Some.place c.index_mut.result.now refl lt c.index_mut.ensures.value in (
      set-tables c.self.inside.tables.items c.in-Some.place c.add_key.new.self c.index_mut.result.now c.self.invariant.0 c.add_key.ensures.shape lt there c.add_key.ensures.name,
      index-set c.self.inside.names.keys c.self.inside.tables.items c.in-Some.place c.add_key.new.self c.index_mut.result.now c.self.invariant.1 there c.add_key.ensures.name,
    )

pub returns-clause-ok : goal.returns-clause-ok
returns-clause-ok c =
    let found = rw (← c.self.view_is) at (sym c.place_of.ensures ∙ c.in-Some.is) in
    let lt = place-within c.self.inside.tables.items (chars c.args.name.now) c.in-Some.place found in
    let there = slice_get_read c.self.inside.tables.items (length c.self.inside.tables.items) c.in-Some.place c.index_mut.result.now refl lt c.index_mut.ensures.value in
    let whole = add_key_to-at c.self.inside.tables.items (chars c.args.name.now) c.args.columns.now c.in-Some.place c.index_mut.result.now found there in
    rw (← c.self.view_is)
    (OnOk-map c.add_key.result _ _ (λ made. whole ∙ ap (λ (r : Result TableData TableError). replaced c.self.inside.tables.items c.in-Some.place r) made) c.add_key.ensures.ok)

pub returns-clause-err : goal.returns-clause-err
returns-clause-err c =
    let found = rw (← c.self.view_is) at (sym c.place_of.ensures ∙ c.in-Some.is) in
    let lt = place-within c.self.inside.tables.items (chars c.args.name.now) c.in-Some.place found in
    let there = slice_get_read c.self.inside.tables.items (length c.self.inside.tables.items) c.in-Some.place c.index_mut.result.now refl lt c.index_mut.ensures.value in
    let whole = add_key_to-at c.self.inside.tables.items (chars c.args.name.now) c.args.columns.now c.in-Some.place c.index_mut.result.now found there in
    rw (← c.self.view_is)
    (IfErr-map c.add_key.result _ _ (λ e made other. whole ∙ ap (λ (r : Result TableData TableError). replaced c.self.inside.tables.items c.in-Some.place r) (made other)) c.add_key.ensures.err)
