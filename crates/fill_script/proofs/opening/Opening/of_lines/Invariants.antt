use Rattle.std.proofs.Common.{◌≡◌, ◌+◌, drop}
use Rattle.fill_script.specs.Opening.{after_lines, unset}
use Rattle.fill_script.proofs.opening.Opening.of_lines.Given as goal

abbrev pub invariant-loop-line : goal.invariant-loop-line
invariant-loop-line l = record {
  number : l.number ≡ 1 + l.line-index;
  rest : after_lines unset 1 l.lines ≡ after_lines l.opening l.number (drop l.line-index l.lines);
}
