-- How long packets are.
use Rattle.dm_packet.proofs.Names.{◌≡◌, ℕ, ◌+◌, ◌*◌, ◌≤◌, List, [], ◌∷◌, length, None, Some, Ok, refl, sym, ap, subst, ◌∙◌, arith, flat_map, length-append, flat_map-cons, Link, What, Message, IsLawfulWhat}
use Rattle.dm_packet.proofs.Names.{Packet, Data, Ack, link, links, IsLawfulPacket, head, head_of, packet_of, spell_message, spelling, spell_what, FitsPacket, FitsWhat}
use Rattle.dm_message.specs.declared.What.TheVariants as what
use Rattle.dm_packet.proofs.Numbers.{IsBytes}
use Rattle.dm_packet.proofs.Packets.{packet_takes}

pub links_size : (ls : List Link) → length (flat_map link.spell ls) ≡ 24 * length ls
links_size [] = refl
links_size (l ∷ ls) =
    let one : length (flat_map link.spell (l ∷ ls)) ≡ length (link.spell l) + length (flat_map link.spell ls) = ap length (flat_map-cons link.spell l ls) ∙ length-append (link.spell l) (flat_map link.spell ls) in
    let others = links_size ls in
    omega (arith, one, others)

what_size : (w : What) → IsLawfulWhat w → FitsWhat w → length (spell_what w) ≤ 600
unfolding spell_what
what_size (what.User code channel body ls) lawful fits = omega (arith, lawful.1, lawful.2, links_size ls.items, length-append body.items ((links 4).spell ls.items))
what_size what.Stop lawful fits = omega arith
what_size what.Resume lawful fits = omega arith
what_size what.Kill lawful fits = omega arith
what_size (what.Read base len) lawful fits = omega arith
what_size (what.Write base bytes) lawful fits = omega (arith, lawful.0)
what_size (what.Block bytes) lawful fits = omega (arith, lawful)
what_size what.Written lawful fits = omega arith
what_size what.Gone lawful fits = omega arith
what_size (what.Create image ls) lawful fits = omega (arith, lawful.0, links_size ls.items)
what_size (what.Created a) lawful fits = omega arith
what_size what.NoRoom lawful fits = omega arith
what_size (what.Migrate a) lawful fits = omega arith
what_size (what.Update a) lawful fits = omega arith
what_size (what.Ask p blocks moves size None) lawful fits = omega arith
what_size (what.Ask p blocks moves size (Some a)) lawful fits = omega arith
what_size (what.Refuse p slots blocks) lawful fits = omega arith
what_size (what.PullState p chunk) lawful fits = omega arith
what_size (what.State p chunk last bytes) lawful fits = omega (arith, lawful.2)
what_size (what.PullBlock p block) lawful fits = omega arith
what_size (what.Memory p block bytes) lawful fits = omega (arith, fits.2)
what_size (what.AllTaken a) lawful fits = omega arith
what_size (what.Restart a) lawful fits = omega arith
what_size (what.Move a) lawful fits = omega arith
what_size (what.Moved a) lawful fits = omega arith
what_size (what.CallOff a) lawful fits = omega arith
what_size (what.Bury a) lawful fits = omega arith

message_size : (m : Message) → length (spell_what m.what) ≤ 600 → length (spell_message m) ≤ 700
unfolding spell_message
message_size m small = omega (arith, small, length-append (head.spell (head_of m)) (spell_what m.what))

pub packet_size : (p : Packet) → IsLawfulPacket p → FitsPacket p → length (spelling p) ≤ 1024
unfolding spelling
packet_size (Data a b seq m) lawful fits = omega (arith, message_size m (what_size m.what lawful.1.what fits.1.what))
packet_size (Ack a b count) lawful fits = omega arith

pub is_short : (bytes : List ℕ) (p : Packet) → IsBytes bytes → packet_of bytes ≡ Ok p → length bytes ≤ 1024
is_short bytes p h e = let t = packet_takes bytes p h e in subst (λ (spelled : List ℕ). length spelled ≤ 1024) (sym t.0) (packet_size p t.1 t.2)
