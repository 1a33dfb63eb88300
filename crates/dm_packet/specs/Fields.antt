-- The fields of packets: names, places, links and bytes.
use Rattle.std.specs.Prelude.{ℕ, ◌+◌, ◌*◌, ◌/◌, ◌%◌, Bool, true, false, List, nat_lt, nat_le, ◌==◌, ◌&&◌, if◌then◌else◌}
use Rattle.dm_link.specs.declared.Pid.{Pid}
use Rattle.dm_link.specs.declared.Addr.{Addr}
use Rattle.dm_link.specs.declared.Kind.{Kind}
use Rattle.dm_link.specs.declared.Kind.TheVariants.{General, Reply}
use Rattle.dm_link.specs.declared.Link.{Link}
use Rattle.dm_packet.specs.declared.PacketError.TheVariants as bad
use Rattle.dm_packet.specs.Field.{Field, number, number_within, run, tested, both, made, repeated_field, counted}

-- a machine, 0 to 15
abbrev pub machine : Field ℕ
machine = tested (number 1) (λ m. nat_le m 15) bad.Machine

abbrev pub pid : Field Pid
pid = made (both machine (λ _. number 4)) (λ p. record { home = p.0; num = p.1 }) (λ p. (p.home, p.num))

abbrev pub addr : Field Addr
addr = made (both pid (λ _. both machine (λ _. number 4))) (λ a. record { pid = a.0; at = a.1.0; moves = a.1.1 }) (λ a. (a.pid, (a.at, a.moves)))

-- a yes or no: 1 or 0
abbrev pub bit_of : Bool → ℕ
bit_of true = 1
bit_of false = 0

abbrev pub kind_bit : Kind → ℕ
kind_bit Reply = 1
kind_bit General = 0

abbrev pub kind_of_bit : ℕ → Kind
kind_of_bit b = if b == 0 then General else Reply

-- a link's kind and rights: 1 for a reply link, 4 for read, 8 for write; a link to the kernel, 2, is never enclosed
abbrev pub are_flags : ℕ → Bool
are_flags n = nat_lt n 16 && (n / 2 % 2 == 0)

abbrev pub flags_of : ℕ → Kind × Bool × Bool
flags_of n = (kind_of_bit (n % 2), n / 4 % 2 == 1, n / 8 == 1)

abbrev pub number_of_flags : Kind × Bool × Bool → ℕ
number_of_flags f = kind_bit f.0 + 4 * bit_of f.1 + 8 * bit_of f.2

abbrev pub flags : Field (Kind × Bool × Bool)
flags = made (tested (number 1) are_flags bad.Flags) flags_of number_of_flags

-- a length that keeps what begins at base within a memory of so many bytes
abbrev pub len_from : ℕ → ℕ → Field ℕ
len_from size base = tested (number 4) (λ len. nat_le (base + len) size) bad.Limit

abbrev pub channel : Field ℕ
channel = number_within 1 0 31

-- an enclosed link: its address, flags, code, channel, and the first byte and the length of its area
abbrev pub LinkParts : Type 0
LinkParts = Addr × ((Kind × Bool × Bool) × (ℕ × (ℕ × (ℕ × ℕ))))

abbrev pub link_of_parts : LinkParts → Link
link_of_parts l = record {
  addr = l.0;
  kind = l.1.0.0;
  to_kernel = false;
  code = l.1.1.0;
  channel = l.1.1.1.0;
  area = record { base = l.1.1.1.1.0; len = l.1.1.1.1.1; read = l.1.0.1; write = l.1.0.2 };
}

abbrev pub parts_of_link : Link → LinkParts
parts_of_link l = (l.addr, ((l.kind, l.area.read, l.area.write), (l.code, (l.channel, (l.area.base, l.area.len)))))

abbrev pub link : Field Link
link = made (both addr (λ _. both flags (λ _. both (number 4) (λ _. both channel (λ _. both (number 4) (len_from 65536)))))) link_of_parts parts_of_link

-- at most so many links
abbrev pub links : ℕ → Field (List Link)
links most = counted (number_within 1 0 most) (λ n. repeated_field link n)

-- bytes behind their number
abbrev pub bytes_within : ℕ → ℕ → Field (List ℕ)
bytes_within least most = counted (number_within 2 least most) run
