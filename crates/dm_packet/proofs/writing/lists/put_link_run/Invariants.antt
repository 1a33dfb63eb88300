use Rattle.dm_packet.proofs.Names.{◌≡◌, ◌++◌, take, All, flat_map, link, FitsLink}
use Rattle.dm_packet.proofs.writing.lists.put_link_run.Given as goal

abbrev pub invariant-loop-link : goal.invariant-loop-link
invariant-loop-link l = (l.out.items ≡ l.fn.out.items ++ flat_map link.spell (take l.link-index l.links)) × All FitsLink (take l.link-index l.links)
