-- Words that ask are not quiet.
use Rattle.std.proofs.Common.{◌≡◌, ◌∙◌, Bool, true, false, List, Option, Some, ap, sym}
use Rattle.std.specs.Prelude.{codes}
use Rattle.clap.specs.Words.{Row, Text, first_of, matches_of}
use Rattle.fillcsv_options.specs.Options.{app}
use Rattle.fillcsv_options.specs.Words.{AskedData, Asks, ask_in, asked_in, is_set}
use Rattle.fillcsv_options.proofs.Choice.{ComesOf, are_chosen, words_come}

ask_loud : (ask quiet : Bool) (file : Option Text) (x : Bool) → ask_in ask quiet file ≡ Some x → quiet ≡ true → x ≡ false
ask_loud false quiet file x is loud = cc
ask_loud true true file x is loud = cc
ask_loud true false file x is loud = cc

pub comes_loud : (rows : List Row) (a : AskedData) → ComesOf rows a → a.quiet ≡ true → a.ask ≡ false
comes_loud rows a comes quiet =
    let asks : comes.choice.ask ≡ a.ask = ap (λ (x : AskedData). x.ask) comes.same in
    let silent : is_set (codes "quiet") rows ≡ true = ap (λ (x : AskedData). x.quiet) comes.same ∙ quiet in
    sym asks ∙ ask_loud (is_set (codes "ask") rows) (is_set (codes "quiet") rows) (first_of (codes "FILE") rows) comes.choice.ask (are_chosen _ _ _ _ _ _ _ comes.choice comes.means).ask silent

-- words that ask for questions do not ask for quiet
pub asks_loud : (words : List Text) (a : AskedData) → asked_in words ≡ Asks a → a.quiet ≡ true → a.ask ≡ false
asks_loud words a is quiet = comes_loud (matches_of app words) a (words_come words a is) quiet
