-- What is known stays known as the arena grows.
use Rattle.std.proofs.Common.{List}
use Rattle.fill_arena.specs.Contents.{Extends}
use Rattle.fill_arena.specs.WellMade.{IsWellMade}
use Rattle.fill_arena.specs.declared.entry.Entry.{Entry}
use Rattle.fill_sources.specs.Sets.{AreRowTexts}
use Rattle.fill_sources.specs.declared.row_texts.RowTexts.{RowTexts}
use Rattle.fill_sources.specs.declared.row.OnRow.{OnRow}
use Rattle.fill_sources.proofs.Made.{known_stays}

pub known_grows : (on : OnRow) (c d : List Entry) (k : RowTexts) → IsWellMade c → Extends c d → AreRowTexts on c k → AreRowTexts on d k
known_grows on c d k made o h = known_stays on c d o k h
