-- Each message that a sender counts was routed, under its own name; so its count is at most what was routed on all pairs.
use Rattle.std.specs.Prelude.{◌≡◌, ℕ, ◌<◌, ◌≤◌, List, [], ◌∷◌, length}
use Rattle.std.specs.declared.option.Option.TheVariants.{Some}
use Rattle.dm_link.specs.declared.Pid.{Pid}
use Rattle.dm_message.specs.declared.MsgId.{MsgId}
use Rattle.dm_message.specs.Ids.{id_of}
use Rattle.dm_onekernel.specs.declared.boot.Boot.{Boot}
use Rattle.dm_onekernel.specs.Boot.{IsValid, switchboard, manager}
use Rattle.dm_onekernel.specs.Kernel.{Alive, OneKernel}
use Rattle.dm_onekernel.specs.PlainProcess.{PlainProcess}
use Rattle.dm_schedule.specs.declared.Step.{Step}
use Rattle.dm_line.specs.declared.line.Line.{Line}
use Rattle.dm_line.specs.declared.line.Line.TheVariants as line
use Rattle.dm_law_rule.specs.Point.{Point, first_point}
use Rattle.dm_law_rule.specs.Spots.{times}
use Rattle.dm_law_always.specs.Order.{LeadsBy}

-- the message that a line routes, before others; a row a line
abbrev pub with_put : Line → List MsgId → List MsgId
with_put (line.Put a b id k q) ids = id ∷ ids
with_put (line.Head d) ids = ids
with_put (line.Idle m) ids = ids
with_put (line.Label l) ids = ids
with_put (line.Packet a b k l) ids = ids
with_put (line.Taken a b n) ids = ids
with_put (line.Old a b n) ids = ids
with_put (line.Early a b n) ids = ids
with_put (line.Acked a b n) ids = ids
with_put line.Nothing ids = ids
with_put (line.Resent m n) ids = ids
with_put (line.Queued id) ids = ids
with_put (line.Held id) ids = ids
with_put (line.Forwarded id m) ids = ids
with_put (line.Updated id n) ids = ids
with_put (line.Buried id n) ids = ids
with_put (line.Migration s q) ids = ids
with_put (line.SentOn q n) ids = ids
with_put (line.Called q n) ids = ids
with_put (line.Lacks q s b) ids = ids
with_put (line.Stays q) ids = ids
with_put (line.Here id) ids = ids
with_put (line.NoMove id) ids = ids
with_put (line.Stale id) ids = ids
with_put (line.Proto id) ids = ids
with_put (line.NoChild q) ids = ids
with_put (line.NoCall q) ids = ids
with_put line.Away ids = ids

-- all messages that these lines route, on whatever pair, each as often as it is
abbrev pub routed : List Line → List MsgId
routed [] = []
routed (l ∷ ls) = with_put l (routed ls)

-- the messages that a sender named with the numbers below n were routed; so at least n were
pub record AreRouted (ls : List Line) (p : Pid) (n : ℕ) : Type 0 where
  pub each : (k : ℕ) → k < n → 1 ≤ times (id_of p k) (routed ls)
  pub count : n ≤ length (routed ls)

-- of each living process, and of each server
pub record SentIsRouted (s : OneKernel) (ls : List Line) : Type 0 where
  pub process : (p : Pid) (x : PlainProcess) → s.processes p ≡ Some (Alive x) → AreRouted ls p x.sent
  pub board : AreRouted ls switchboard s.switchboard.sent
  pub manager_ : AreRouted ls manager s.manager.sent

-- wherever the rule leads
abbrev pub RoutedAlways : Type 0
RoutedAlways = (b : Boot) (es : List Step) (ls : List Line) (pt : Point) → IsValid b → LeadsBy b (first_point b) es ls pt → SentIsRouted pt.kernel ls
