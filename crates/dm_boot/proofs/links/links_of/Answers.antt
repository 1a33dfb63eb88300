use Rattle.dm_boot.proofs.Imports.{◌≡◌, ◌++◌, ◌∷◌, [], ◌&&◌, ap, sym, ◌∙◌, view, all_items, map_items, link_of, is_sound}
use Rattle.dm_boot.proofs.Elements.{map-end, map-more}
use Rattle.dm_boot.proofs.Sound.{sound-more, sound-end, both-sound, first-unsound}
use Rattle.dm_boot.proofs.links.links_of.Goals as goal
use Rattle.dm_boot.proofs.links.links_of.Goals.{then-sound, else-sound}

pub loop-table-preserved : goal.loop-table-preserved
loop-table-preserved c =
    let d = view c.args.document.now.top.now in
    let vs = c.items_at-tables.result.now in
    let i = c.loop-table.table-index in
    let read = c.link_of-read.result in
    let said : c.if-sound.sound ≡ (c.loop-table.sound && read.sound) = elim c.if-sound.branch [
      | then-sound w ↦ both-sound c.loop-table.sound read.sound c.if-sound.sound w.if-sound.true w.sound-is
      | else-sound w ↦ first-unsound c.loop-table.sound read.sound c.if-sound.sound w.if-sound.false w.sound-is
    ] in
    let new : c.push.new.list.items ≡ c.loop-table.links.items ++ read.link ∷ [] = c.in_ok-push.ensures.items in
    record {
      links = rw new (sym (map-more (link_of d c.args.starts.now) c.loop-table.links.items vs i c.table-item.result read.link c.loop-table-test.true c.table-item.is (sym c.link_of-read.ensures.link)) ∙ c.loop-table.invariant.links);
      sound = rw said (sym (sound-more (is_sound d) c.loop-table.sound read.sound vs i c.table-item.result c.loop-table-test.true c.table-item.is c.link_of-read.ensures.sound) ∙ c.loop-table.invariant.sound);
    }

pub returns-clause-links : goal.returns-clause-links
returns-clause-links c =
    let link = link_of (view c.args.document.now.top.now) c.args.starts.now in
    c.from_vec.ensures
    ∙ (sym (map-end link c.loop-table.links.items c.items_at-tables.result.now c.loop-table.table-index c.loop-table-test.false)
    ∙ (c.loop-table.invariant.links ∙ ap (map_items link) c.items_at-tables.ensures))

pub returns-clause-sound : goal.returns-clause-sound
returns-clause-sound c =
    let sound = is_sound (view c.args.document.now.top.now) in
    sym (sound-end sound c.loop-table.sound c.items_at-tables.result.now c.loop-table.table-index c.loop-table-test.false)
    ∙ (c.loop-table.invariant.sound ∙ ap (all_items sound) c.items_at-tables.ensures)
