use Rattle.fill_session.proofs.edit.present_after.Goals as goal

pub returns-in-Err-clause-cleared : goal.returns-in-Err-clause-cleared
returns-in-Err-clause-cleared g c = λ clear. let none = c.change_of.ensures.cleared clear in cc

pub returns-in-Err-clause-same : goal.returns-in-Err-clause-same
returns-in-Err-clause-same g c = λ clear. let none = c.change_of.ensures.cleared clear in cc
