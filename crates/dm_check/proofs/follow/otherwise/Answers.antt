use Rattle.dm_check.proofs.Names.{◌≡◌, ◌+◌, ap, sym, ◌∙◌, refl, pieces, some_piece, NotDue, taken_of, Falls, Stands, judged_from, taken, told, TellsFewer}
use Rattle.dm_check.specs.Judge as judge
use Rattle.dm_check.proofs.Judging.{at_text_end, falls_from, goes_from, other_line, strayed_as, told_other}
use Rattle.dm_check.proofs.Straying.{strays_here}
use Rattle.dm_check.proofs.follow.otherwise.Goals as goal

pub returns-in-Nothing-clause-refused : goal.returns-in-Nothing-clause-refused
returns-in-Nothing-clause-refused c = λ k ls es q.
    strayed_as (judged_from k (judge.InGroup c.args.due.now ls es) c.args.number (pieces 10 c.args.text.now)) c.here.result c.args.number NotDue c.args.due.now c.here.ensures
    (ap (λ t. judged_from k (judge.InGroup c.args.due.now ls es) c.args.number (pieces 10 t)) c.in-Nothing.ensures ∙ at_text_end k (judge.InGroup c.args.due.now ls es) c.args.number)

pub returns-in-Nothing-clause-stray : goal.returns-in-Nothing-clause-stray
returns-in-Nothing-clause-stray c = strays_here c.args.quantum c.args.due.now c.args.text.now c.args.number NotDue c.here.result c.here.ensures

pub returns-in-NoLine-clause-stray : goal.returns-in-NoLine-clause-stray
returns-in-NoLine-clause-stray c = strays_here c.args.quantum c.args.due.now c.args.text.now c.args.number _ c.here-in-NoLine.result c.here-in-NoLine.ensures

pub returns-in-Falls-clause-refused : goal.returns-in-Falls-clause-refused
returns-in-Falls-clause-refused c = λ k ls es q.
    let due = judge.InGroup c.args.due.now ls es in
    let is : taken k due c.in-Line.line.now ≡ Falls c.in-Falls.fault =
    told_other k c.args.due.now ls es c.args.text.now c.in-Line.line.now c.in-Line.others.now c.requires.other c.in-Line.ensures.0
    ∙ ap (λ m. told m c.args.due.now (pieces 32 c.in-Line.line.now)) q ∙ sym c.told.ensures ∙ ap taken_of c.in-Falls.is in
    strayed_as (judged_from k due c.args.number (pieces 10 c.args.text.now)) c.here-in-Falls.result c.args.number c.in-Falls.fault c.args.due.now c.here-in-Falls.ensures
    (ap (judged_from k due c.args.number) c.in-Line.ensures.0
    ∙ falls_from k due c.in-Falls.fault c.args.number c.in-Line.line.now (pieces 10 c.in-Line.others.now) (some_piece 10 c.in-Line.others.now) c.in-Line.ensures.1 is)

pub returns-in-Falls-clause-stray : goal.returns-in-Falls-clause-stray
returns-in-Falls-clause-stray c = strays_here c.args.quantum c.args.due.now c.args.text.now c.args.number c.in-Falls.fault c.here-in-Falls.result c.here-in-Falls.ensures

pub returns-in-Fewer-clause-refused : goal.returns-in-Fewer-clause-refused
returns-in-Fewer-clause-refused c = λ k ls es q.
    let due = judge.InGroup c.args.due.now ls es in
    let is : taken k due c.in-Line.line.now ≡ Stands (judge.Nothing c.in-Fewer.pid) =
    told_other k c.args.due.now ls es c.args.text.now c.in-Line.line.now c.in-Line.others.now c.requires.other c.in-Line.ensures.0
    ∙ ap (λ m. told m c.args.due.now (pieces 32 c.in-Line.line.now)) q ∙ sym c.told.ensures ∙ ap taken_of c.in-Fewer.is in
    ap (judged_from k due c.args.number) c.in-Line.ensures.0
    ∙ goes_from k due (judge.Nothing c.in-Fewer.pid) c.args.number c.in-Line.line.now (pieces 10 c.in-Line.others.now) (some_piece 10 c.in-Line.others.now) c.in-Line.ensures.1 is
    ∙ c.behind_fewer.ensures k (c.args.number + 1)

pub returns-in-Fewer-clause-stray : goal.returns-in-Fewer-clause-stray
returns-in-Fewer-clause-stray c =
    let fewer : TellsFewer c.args.quantum c.args.due.now c.args.text.now = record {
      line = c.in-Line.line.now;
      rest = c.in-Line.others.now;
      pid = c.in-Fewer.pid;
      cut = c.in-Line.ensures.0;
      shape = c.in-Line.ensures.1;
      other = other_line c.args.due.now c.args.text.now c.in-Line.line.now c.in-Line.others.now c.requires.other c.in-Line.ensures.0;
      tells = sym c.told.ensures ∙ ap taken_of c.in-Fewer.is;
    } in
    (refl, refl, fewer)
