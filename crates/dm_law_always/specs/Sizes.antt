-- How large a server becomes: its state bytes have a number of 32 bits, as long as no pair of machines counts more messages than it may.
use Rattle.std.specs.Prelude.{◌≡◌, ℕ, ◌+◌, ◌*◌, ◌≤◌, ◌<◌, ◌^◌, true, if◌then◌else◌, List, [], ◌∷◌, length}
use Rattle.std.specs.Option.{option_map_or}
use Rattle.dm_link.specs.declared.Pid.{Pid}
use Rattle.dm_link.specs.Names.{pid_eq}
use Rattle.dm_message.specs.declared.MsgId.{MsgId}
use Rattle.dm_onekernel.specs.declared.boot.Boot.{Boot}
use Rattle.dm_onekernel.specs.Boot.{IsValid}
use Rattle.dm_onekernel.specs.Kernel.{OneKernel}
use Rattle.dm_schedule.specs.declared.Step.{Step}
use Rattle.dm_line.specs.Each.{sum_below}
use Rattle.dm_law_rule.specs.Laws.{Leads}
use Rattle.dm_law_rule.specs.Migrating.{size_of}
use Rattle.dm_law_rule.specs.Phases.{has_it}
use Rattle.dm_law_rule.specs.Point.{Point, first_point}
use Rattle.dm_law_rule.specs.Spots.{untaken}
use Rattle.dm_law_rule.specs.View.{Incoming, View, is_server}

-- the state bytes of a server
abbrev pub server_size : OneKernel → Pid → ℕ
server_size s p = option_map_or (λ z. z.state) (size_of s p) 0

-- no pair of machines has counted more messages than it may at the most
abbrev pub AreFew : View → Type 0
AreFew v = (a c : ℕ) → length (v.pair a c).ids ≤ 2 ^ 20

-- how many of some messages are for a server, by what their first puts told
abbrev pub for_it : View → Pid → MsgId → ℕ
for_it v p i = option_map_or (λ t. if pid_eq t.receiver p then 1 else 0) (v.told i) 0

abbrev pub count_for : View → Pid → List MsgId → ℕ
count_for v p [] = 0
count_for v p (i ∷ is) = for_it v p i + count_for v p is

-- of those that were ever routed to machine m from the first n, and of those that wait there: in its inbox, not taken yet, or held back
-- for the server
abbrev pub routed_to : ℕ → View → Pid → ℕ → ℕ
routed_to n v p m = sum_below (λ a. count_for v p (v.pair a m).ids) n

abbrev pub waiting_at : ℕ → View → Pid → ℕ → ℕ
waiting_at n v p m = count_for v p (v.inbox m) + (sum_below (λ a. count_for v p (untaken (v.pair a m))) n + count_for v p (v.held m p))

-- where a server is, or leaves from, each message that was for it and waits no more has made it larger by at most 41 bytes: a name and its
-- link, or a pending request and its link. It came there in at most 2 ^ 20 chunks of 512 bytes
pub record SizeStands (n : ℕ) (s : OneKernel) (v : View) (p : Pid) : Type 0 where
  -- no more wait at a machine than were routed to it
  pub within : (m : ℕ) → waiting_at n v p m ≤ routed_to n v p m
  pub grown : (m : ℕ) → has_it (v.known m p) ≡ true → server_size s p + 41 * waiting_at n v p m ≤ 2 ^ 29 + 41 * routed_to n v p m
  pub carried : (m from : ℕ) → v.known m p ≡ Incoming from → v.come p ≡ true → server_size s p ≤ 2 ^ 29

-- wherever the rule leads, as long as no pair has counted more than it may, this stands, and each server is small enough to be carried:
-- each machine takes at most 2 ^ 24 messages, so a server has at most 2 ^ 29 + 41 * 2 ^ 24 bytes
abbrev pub SizesAlways : Type 0
SizesAlways = (b : Boot) (es : List Step) (pt : Point) (p : Pid) → IsValid b → Leads b (first_point b) es pt → AreFew pt.view → is_server p ≡ true → SizeStands pt.kernel.machines pt.kernel pt.view p × (server_size pt.kernel p < 2 ^ 31)
