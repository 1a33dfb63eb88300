-- A table and its index after a link was put into an empty slot.
use Rattle.dm_linktable.proofs.Names.{◌≡◌, ℕ, ◌<◌, ◌&&◌, ◌==◌, List, Option, None, Some, cond, length, set, arith, common_steps, position-Some, bit_at, is_none, Link, Pid, pid_eq, Entry, Agrees, IsIndex, IsTable, mask_of, first_empty}
use Rattle.dm_linktable.proofs.Names.{link_at}
use Rattle.dm_linktable.proofs.Entries.{get_or-set}

pub first_is_empty : (slots : List (Option Link)) (s : ℕ) → first_empty slots ≡ Some s → link_at slots s ≡ None
first_is_empty slots s e =
    let empty = (position-Some (is_none {T = Link}) slots s None e).1 in
    grind (arith, empty)

agrees_put : (es news : List Entry) (slots : List (Option Link)) (agrees : Agrees es slots) (s : ℕ) (l : Link) → s < length slots → link_at slots s ≡ None → ((q : Pid) (t : ℕ) → bit_at (mask_of news q) t ≡ cond (pid_eq l.addr.pid q && (t == s)) 1 (bit_at (mask_of es q) t)) → Agrees news (set slots s (Some l))
agrees_put es news slots agrees s l lt empty bits q t = grind (arith, bits q t, agrees q t, get_or-set slots s (Some l) None t lt)

pub table_put : (es news : List Entry) (slots : List (Option Link)) (table : IsTable slots es) (s : ℕ) (l : Link) → s < length slots → link_at slots s ≡ None → IsIndex news → ((q : Pid) (t : ℕ) → bit_at (mask_of news q) t ≡ cond (pid_eq l.addr.pid q && (t == s)) 1 (bit_at (mask_of es q) t)) → IsTable (set slots s (Some l)) news
table_put es news slots table s l lt empty index bits = record {
  cap = grind (arith, common_steps, table.cap);
  index = index;
  agrees = agrees_put es news slots table.agrees s l lt empty bits;
}
