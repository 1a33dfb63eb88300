use Rattle.dm_check.proofs.Names.{◌≡◌, ◌≤◌, ◌+◌, ◌++◌, length, take, drop, List, Course, Step, pieces, text_of_lines, behind_line, judged_from}
use Rattle.dm_check.proofs.follow.follow_lines.Given as goal

abbrev pub invariant-lines : goal.invariant-lines
invariant-lines l = record {
  goes : (k : Course) (es : List Step) → judged_from k (behind_line l.lines es) l.initial.at (pieces 10 l.initial.rest) ≡ judged_from k (behind_line (drop l.due-index l.lines) es) l.at (pieces 10 l.rest);
  read : l.initial.rest ≡ text_of_lines (take l.due-index l.lines) ++ l.rest;
  number : l.at ≡ l.initial.at + l.due-index;
  room : l.at + length l.rest ≤ l.initial.at + length l.initial.rest;
}
