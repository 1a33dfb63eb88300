use Rattle.std.proofs.lemmas.List.Elements.{All-more}
use Rattle.std.proofs.lemmas.List.{take_all}
use Rattle.dm_text.proofs.Names.{◌<◌, ◌++◌, length, take, ap, ◌∙◌, arith, LineFits, text_of_lines}
use Rattle.dm_text.proofs.Lines.{lines-none, lines-more}
use Rattle.dm_text.proofs.Pages.{room_back, same_before}
use Rattle.dm_text.proofs.text.put_lines.Goals as goal

pub loop-line-init : goal.loop-line-init
loop-line-init c = record {
  written = lines-none _ c.args.lines.now;
  within = omega arith;
  fits = λ k d h. absurd (omega arith);
}

pub loop-line-preserved : goal.loop-line-preserved
loop-line-preserved c =
    let h : c.loop-line.line-index < length c.args.lines.now = omega arith in
    let before = ap (λ s. take c.loop-line.at s) c.as_mut_slice.ensures.value ∙ c.in_ok-make_room.ensures.text ∙ c.loop-line.invariant.written in
    let back = room_back c.make_room.new.page.len c.put_text-at.new.room c.make_room.new.page.items (omega arith) in
    record {
      written = lines-more _ _ _ _ _ _ h before (ap (λ s. take c.put_text-at.result s) back ∙ c.put_text-at.ensures.text);
      within = omega arith;
      fits = All-more LineFits c.args.lines.now c.loop-line.line-index _ h c.loop-line.invariant.fits c.line_fits.ensures;
    }

pub returns-in_err-make_room-clause-same : goal.returns-in_err-make_room-clause-same
returns-in_err-make_room-clause-same c =
    same_before c.args.start c.loop-line.at c.args.page.now.items c.make_room.new.page.items _ (omega arith) (omega arith) (c.in_err-make_room.ensures.text ∙ c.loop-line.invariant.written)

pub returns-clause-same : goal.returns-clause-same
returns-clause-same c =
    same_before c.args.start c.loop-line.at c.args.page.now.items c.loop-line.page.items _ (omega arith) (omega arith) c.loop-line.invariant.written

pub returns-clause-written : goal.returns-clause-written
returns-clause-written c = c.loop-line.invariant.written ∙ ap (λ ls. take c.args.start c.args.page.now.items ++ text_of_lines ls) (take_all c.loop-line.line-index c.args.lines.now c.loop-line-test.false)
