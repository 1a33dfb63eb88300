use Rattle.dm_world.proofs.Names.{◌+◌, ◌<◌, ◌++◌, drop, length, arith, ap, ◌∙◌, sym, Vec, Global, EndLine, Named, name_lines}
use Rattle.dm_world.proofs.Ending.{name_more, short_name, within_some}
use Rattle.dm_world.proofs.end_servers.say_names.Goals.{in-Some+in_ok-say_name, in_default}
use Rattle.dm_world.proofs.end_servers.say_names.Goals as goal

pub say_name-requires : goal.say_name-requires
say_name-requires c =
    short_name c.args.board.now.names c.loop-place.place (record { name = c.in-Some.bytes.now; link = c.in-Some.link.now }) c.requires (sym c.in-Some.ensures)

pub loop-place-preserved : goal.loop-place-preserved
loop-place-preserved c =
    let ks = c.args.board.now.names in
    let i = c.loop-place.place in
    let within : i < length ks = grind (arith, c.loop-place-test.true, c.len-place-end.ensures) in
    elim c.match-name.branch [
      | in-Some+in_ok-say_name w ↦
          let k : Named = record { name = w.in-Some.bytes.now; link = w.in-Some.link.now } in
          ap (λ (v : Vec EndLine Global). v.items ++ name_lines (drop (i + 1) ks)) w.lines-is
          ∙ ap (λ ls. ls ++ name_lines (drop (i + 1) ks)) w.in_ok-say_name.ensures
          ∙ name_more ks i k c.loop-place.lines.items (c.args.lines.now.items ++ name_lines ks) (sym w.in-Some.ensures) c.loop-place.invariant
      | in_default w ↦ absurd (within_some ks i within (sym w.in_default.ensures))
    ]
