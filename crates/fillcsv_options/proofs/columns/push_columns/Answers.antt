use Rattle.std.proofs.Common.{lit<, ap, map, string_bytes, ◌++◌, ◌∙◌}
use Rattle.std.proofs.lemmas.Iterator.Consumers.{YieldsList-end}
use Rattle.std.proofs.lemmas.Iterator.Splits.{YieldsList-from_str_split}
use Rattle.fillcsv_options.proofs.columns.push_columns.Goals as goal

pub returns : goal.returns
returns c =
    let t = YieldsList-end (YieldsList-from_str_split 44 c.args.list.now (lit< tt) (cc) (cc) (cc))
    c.loop-column.yielded _ c.loop-column.yielded_by _ _ c.in-None.is c.next.ensures.steps in
    c.loop-column.invariant ∙ ap (λ l. map string_bytes c.args.columns.now.items ++ l) t.0
