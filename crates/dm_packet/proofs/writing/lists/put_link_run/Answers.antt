use Rattle.dm_packet.proofs.Names.{get_or, take, flat_map, link, FitsLink}
use Rattle.dm_packet.proofs.Writes.{all_next, next_has_room, no_link, pieces_next, then_put}
use Rattle.dm_packet.proofs.writing.lists.put_link_run.Goals as goal

pub put_link-requires : goal.put_link-requires
put_link-requires c =
    record { room = next_has_room link.spell c.args.links.now c.loop-link.link-index no_link c.args.out.now.items c.loop-link.out.items c.loop-link-test.true c.loop-link.invariant.0 c.requires.room }

pub loop-link-preserved : goal.loop-link-preserved
loop-link-preserved c =
    let links = c.args.links.now in
    let i = c.loop-link.link-index in
    let next = get_or links i no_link in
    let put = then_put c.args.out.now.items c.loop-link.out.items c.put_link.new.out.items (flat_map link.spell (take i links)) (link.spell next) c.loop-link.invariant.0 c.put_link.ensures.put in
    (rw (pieces_next link.spell links i no_link c.loop-link-test.true) put, all_next FitsLink links i no_link c.loop-link-test.true c.loop-link.invariant.1 c.put_link.ensures.fits)
