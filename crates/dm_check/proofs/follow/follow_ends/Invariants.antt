use Rattle.dm_check.proofs.Names.{◌≡◌, ◌≤◌, ℕ, ◌+◌, ◌++◌, length, take, drop, All, Course, IsFull, pieces, text_of_ends, judged_from}
use Rattle.dm_check.specs.Judge as judge
use Rattle.dm_check.proofs.follow.follow_ends.Given as goal

abbrev pub invariant-ends : goal.invariant-ends
invariant-ends l = record {
  goes : (k : Course) (n : ℕ) → All IsFull l.ends → judged_from k (judge.End l.ends n) l.initial.at (pieces 10 l.initial.rest) ≡ judged_from k (judge.End (drop l.due-index l.ends) n) l.at (pieces 10 l.rest);
  read : l.initial.rest ≡ text_of_ends (take l.due-index l.ends) ++ l.rest;
  number : l.at ≡ l.initial.at + l.due-index;
  room : l.at + length l.rest ≤ l.initial.at + length l.initial.rest;
}
