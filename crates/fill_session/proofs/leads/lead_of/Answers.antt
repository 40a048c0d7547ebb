use Rattle.fill_tree.specs.declared.user.TheConstants.{MOST_PROGRAMS}
use Rattle.fill_session.proofs.Leading.{few_first}
use Rattle.fill_session.proofs.leads.lead_of.Goals as goal

pub returns-clause-stands : goal.returns-clause-stands
returns-clause-stands c =
    let s = c.args.spaces.now in
    let l = c.requires.0 in
    record {
      guide = c.in_ok-guide.ensures;
      candidates = c.in_ok-candidates.ensures;
      few = few_first s c.args.space l MOST_PROGRAMS c.in_ok-candidates.candidates c.requires.1 (c.in_ok-candidates.ensures l c.requires.1)
          (c.keep_costs.ensures c.args.space l c.requires.1);
    }
