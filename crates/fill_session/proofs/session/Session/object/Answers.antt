use Rattle.std.proofs.Common.{◌∙◌, ap, subst}
use Rattle.fill_tables.specs.Keys.{KeysDistinguish}
use Rattle.fill_session.specs.State.{SessionData}
use Rattle.fill_session.proofs.Objecting.{doubts_too}
use Rattle.fill_session.proofs.session.Session.object.Goals as goal

pub returns-clause-doubtful : goal.returns-clause-doubtful
returns-clause-doubtful c =
    let s = c.args.self.now in
    let keys : KeysDistinguish s.spaces.ground.tables = subst KeysDistinguish (c.tables.ensures ∙ ap (λ (v : SessionData). v.spaces.ground.tables) c.self.view_is) c.keeps_keys.ensures in
    doubts_too s.spaces.ground s.examples c.args.row c.objector_on.result keys c.objector_on.ensures.objector
