-- One register more is set to its operand, an operand is refused, or none is left.
use Rattle.dm_asm.proofs.Names.{argument_of, suc, ◌≡◌, ◌+◌, ◌++◌, ◌∙◌, ap, sym, arith, length, source_words, place_in, bytes_behind, settings}
use Rattle.dm_asm.proofs.Calling.{settings-more, settings-none, settings-refused}
use Rattle.dm_asm.proofs.calls.add_settings.Goals as goal

pub returns-in-Err : goal.returns-in-Err
returns-in-Err c =
    sym c.loop-word.invariant.all
    ∙ ap (λ ws. bytes_behind c.loop-word.image.items (settings (place_in c.args.labels.now) c.args.call c.loop-word.place ws)) c.in-Some.ensures.some
    ∙ settings-refused (place_in c.args.labels.now) c.args.call c.loop-word.place c.loop-word.image.items c.in-Some.word.now (source_words c.in-Some.others.now) c.in-Err.why
    (c.in-Err.ensures ∙ ap (λ p. argument_of (place_in c.args.labels.now) c.args.call p c.in-Some.word.now) c.from.ensures)

pub loop-word-preserved : goal.loop-word-preserved
loop-word-preserved c =
    let one : length (source_words c.loop-word.rest.now) ≡ suc (length (source_words c.in-Some.others.now)) = ap length c.in-Some.ensures.some in
    record {
      count = omega (arith, one, c.loop-word.invariant.count);
      all =
          ap (λ items. bytes_behind items (settings (place_in c.args.labels.now) c.args.call (c.loop-word.place + 1) (source_words c.in-Some.others.now)))
          (c.in_ok-extend_from_slice-in-Ok.ensures.items ∙ ap (λ bytes. c.loop-word.image.items ++ bytes) c.setting.ensures)
          ∙ settings-more (place_in c.args.labels.now) c.args.call c.loop-word.place c.loop-word.image.items c.in-Some.word.now (source_words c.in-Some.others.now) c.in-Ok.argument
          (c.in-Ok.ensures ∙ ap (λ p. argument_of (place_in c.args.labels.now) c.args.call p c.in-Some.word.now) c.from.ensures)
          ∙ ap (λ ws. bytes_behind c.loop-word.image.items (settings (place_in c.args.labels.now) c.args.call c.loop-word.place ws)) (sym c.in-Some.ensures.some)
          ∙ c.loop-word.invariant.all;
    }

pub returns : goal.returns
returns c =
    sym c.loop-word.invariant.all
    ∙ ap (λ ws. bytes_behind c.loop-word.image.items (settings (place_in c.args.labels.now) c.args.call c.loop-word.place ws)) c.in_default.ensures.none
    ∙ settings-none (place_in c.args.labels.now) c.args.call c.loop-word.place c.loop-word.image.items
