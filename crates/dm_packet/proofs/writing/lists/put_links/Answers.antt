use Rattle.dm_packet.proofs.Names.{◌≡◌, ◌+◌, ap, ◌∙◌, length, arith, length-append, number}
use Rattle.dm_packet.proofs.Sizes.{links_size}
use Rattle.dm_packet.proofs.writing.lists.put_links.Goals as goal

pub put_link_run-requires : goal.put_link_run-requires
put_link_run-requires c =
    let count = (number 1).spell (length c.args.links.now) in
    let put : length c.put_byte.new.out.items ≡ length c.args.out.now.items + 1 = ap length c.put_byte.ensures.put ∙ length-append c.args.out.now.items count in
    record { room = omega (arith, put, links_size c.args.links.now, c.requires.room, c.requires.few) }
