use Rattle.fill_print.proofs.Chains.{reads_via}
use Rattle.fill_print.proofs.Dispatch.{reads_else}
use Rattle.fill_print.proofs.PlaceRules.{place_count, place_between}
use Rattle.fill_print.specs.Tokens.{tokens_of}
use Rattle.fill_print.proofs.read.places.place.Goals as goal

pub returns-in-Some : goal.returns-in-Some
returns-in-Some c = reads_via (λ x. x.0) (λ x. x.1.now) 67 c.args.bytes.now c.in-Some._rest.now c.at_count.result (place_count (tokens_of c.args.notation)) c.in-Some.ensures c.at_count.ensures

pub returns-in-None : goal.returns-in-None
returns-in-None c = reads_else (λ x. x.0) (λ x. x.1.now) 67 c.args.bytes.now c.between.result (place_between (tokens_of c.args.notation)) c.in-None.ensures c.between.ensures
