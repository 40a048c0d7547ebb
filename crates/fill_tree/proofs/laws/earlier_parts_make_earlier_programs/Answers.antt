use Rattle.fill_tree.proofs.ProgramOrder as order
use Rattle.fill_tree.proofs.laws.earlier_parts_make_earlier_programs.Goals as goal

pub returns : goal.returns
returns c = record {
  head = order.before-head;
  tail = order.before-tail;
  both = order.not_after-more;
  head_back = order.not_after-head;
  tail_back = order.not_after-tail;
}
