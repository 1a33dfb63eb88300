use Rattle.dm_text.proofs.Names.{◌≡◌, ◌≤◌, ◌++◌, take, vec_len, All, LineFits, text_of_lines}
use Rattle.dm_text.proofs.text.put_lines.Given as goal

abbrev pub invariant-loop-line : goal.invariant-loop-line
invariant-loop-line l = record {
  written : take l.at l.page.items ≡ take l.start l.initial.page.items ++ text_of_lines (take l.line-index l.lines);
  within : l.at ≤ vec_len l.page;
  fits : All LineFits (take l.line-index l.lines);
}
