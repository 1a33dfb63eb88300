use Rattle.dm_boot.proofs.Imports.{◌≡◌, ◌≤◌, ◌<◌, ◌++◌, ◌∷◌, [], ◌&&◌, ap, sym, ◌∙◌, arith, length, view, count, linked, linked_all, has_sound_links, all_items}
use Rattle.dm_boot.proofs.Elements.{count-view}
use Rattle.dm_boot.proofs.Linked.{linked-end, linked-more}
use Rattle.dm_boot.proofs.Sound.{sound-more, sound-end, both-sound, first-unsound}
use Rattle.dm_boot.proofs.processes.processes_of.Goals as goal
use Rattle.dm_boot.proofs.processes.processes_of.Goals.{then-sound, else-sound}

pub bounds-tables-i : goal.bounds-tables-i
bounds-tables-i c =
    let vs = c.items_at-tables.result.now in
    let many : length c.args.starts.now ≡ length vs = c.requires.many ∙ ap count (sym c.items_at-tables.ensures) ∙ count-view vs in
    omega (arith, many, c.loop-i-test.true)

pub loop-i-preserved : goal.loop-i-preserved
loop-i-preserved c =
    let d = view c.args.document.now.top.now in
    let all = c.args.starts.now in
    let vs = c.items_at-tables.result.now in
    let i = c.loop-i.i in
    let read = c.in_ok-read.read in
    let said : c.if-sound.sound ≡ (c.loop-i.sound && read.sound) = elim c.if-sound.branch [
      | then-sound w ↦ both-sound c.loop-i.sound read.sound c.if-sound.sound w.if-sound.true w.sound-is
      | else-sound w ↦ first-unsound c.loop-i.sound read.sound c.if-sound.sound w.if-sound.false w.sound-is
    ] in
    let many : length all ≡ length vs = c.requires.many ∙ ap count (sym c.items_at-tables.ensures) ∙ count-view vs in
    let within : i < length vs = omega (arith, many, c.loop-i-test.true) in
    let new : c.push.new.list.items ≡ c.loop-i.processes.items ++ linked c.index-starts-i.result c.in_ok-name.name read.links ∷ [] = c.in_ok-push.ensures.items in
    record {
      processes = rw new (sym (linked-more d c.loop-i.processes.items all all vs i c.index-starts-i.result c.index-tables-i.result c.in_ok-name.name read.links c.loop-i-test.true c.index-starts-i.is within c.index-tables-i.is c.in_ok-name.ensures c.in_ok-read.ensures.links) ∙ c.loop-i.invariant.processes);
      sound = rw said (sym (sound-more (has_sound_links d) c.loop-i.sound read.sound vs i c.index-tables-i.result within c.index-tables-i.is c.in_ok-read.ensures.sound) ∙ c.loop-i.invariant.sound);
    }

pub returns-clause-sound : goal.returns-clause-sound
returns-clause-sound c =
    let d = view c.args.document.now.top.now in
    let vs = c.items_at-tables.result.now in
    let many : length c.args.starts.now ≡ length vs = c.requires.many ∙ ap count (sym c.items_at-tables.ensures) ∙ count-view vs in
    let past : length vs ≤ c.loop-i.i = omega (arith, many, c.loop-i-test.false) in
    sym (sound-end (has_sound_links d) c.loop-i.sound vs c.loop-i.i past) ∙ c.loop-i.invariant.sound ∙ ap (all_items (has_sound_links d)) c.items_at-tables.ensures

pub returns-clause-processes : goal.returns-clause-processes
returns-clause-processes c =
    let d = view c.args.document.now.top.now in
    let all = c.args.starts.now in
    c.from_vec.ensures
    ∙ (sym (linked-end d c.loop-i.processes.items all all c.items_at-tables.result.now c.loop-i.i c.loop-i-test.false)
    ∙ (c.loop-i.invariant.processes ∙ ap (linked_all d all all) c.items_at-tables.ensures))
