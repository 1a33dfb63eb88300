-- How much is put where no process moves, and only user messages for processes and updates are on their way.
use Rattle.std.specs.Prelude.{◌≡◌, ℕ, ◌≤◌, Bool, true, false, not, List, [], ◌∷◌, ◌++◌, ◌||◌}
use Rattle.std.specs.declared.option.Option.{Option}
use Rattle.std.specs.declared.option.Option.TheVariants.{None, Some}
use Rattle.dm_link.specs.declared.Pid.{Pid}
use Rattle.dm_message.specs.declared.MsgId.{MsgId}
use Rattle.dm_message.specs.declared.kind.MessageKind.{MessageKind}
use Rattle.dm_message.specs.Sorts.{Sort, sort_of}
use Rattle.dm_message.specs.Sorts as sort
use Rattle.dm_onekernel.specs.declared.boot.Boot.{Boot}
use Rattle.dm_schedule.specs.declared.Step.{Step}
use Rattle.dm_line.specs.declared.line.Line.{Line}
use Rattle.dm_law_rule.specs.Acts.{Act, act_of}
use Rattle.dm_law_rule.specs.Acts as act
use Rattle.dm_law_rule.specs.Laws.{IsStep}
use Rattle.dm_law_rule.specs.Parts.{Spelled}
use Rattle.dm_law_rule.specs.Point.{Point}
use Rattle.dm_law_rule.specs.Rule.{group_of}
use Rattle.dm_law_rule.specs.Spots.{Spot, Queue, Held, Inbox, Untaken, standing}
use Rattle.dm_law_rule.specs.View.{Told, View}
use Rattle.dm_law_always.specs.Found.{is_fixed}
use Rattle.dm_law_rule.specs.View.{is_server}
use Rattle.dm_law_moves.specs.AtRest.{is_moving}
use Rattle.dm_law_moves.specs.Settles.Passes.{IsSettleStep}

-- a user message for a process, no kernel and no server, or an update
abbrev pub is_light_sort : Sort → Pid → Bool
is_light_sort sort.Letter q = not (is_fixed q || is_server q)
is_light_sort sort.Notice q = true
is_light_sort s q = false

abbrev pub is_light_kind : MessageKind → Pid → Bool
is_light_kind k q = is_light_sort (sort_of k) q

-- by what its first put told of it
abbrev pub is_light : Option Told → Bool
is_light None = false
is_light (Some t) = is_light_kind t.kind t.receiver

-- a message in an inbox, or that was routed and not taken yet, is on its way
abbrev pub is_way : Spot → Bool
is_way (Queue m p) = false
is_way (Held m p) = false
is_way (Inbox m) = true
is_way (Untaken a b) = true

pub record OnlyLight (v : View) : Type 0 where
  -- no machine waits for a process to leave or to come
  pub still : (m : ℕ) (p : Pid) → is_moving (v.known m p) ≡ false
  -- and whatever is on its way is such a message
  pub light : (i : MsgId) (z : Spot) → is_way z ≡ true → 1 ≤ standing v i z → is_light (v.told i) ≡ true

-- the rule leads from a point to another by steps of a settle, and these are the lines, group after group
abbrev pub SettlesBy : Boot → Point → List Step → List Line → Point → Type 0
SettlesBy b pt [] ls end = (ls ≡ []) × (pt ≡ end)
SettlesBy b pt (e ∷ es) ls end =
    (w : Spelled) × (rest : List Line) × IsStep pt.kernel.machines e × IsSettleStep pt.view e × (group_of b pt e ≡ Some w) × (ls ≡ w.lines ++ rest) × SettlesBy b w.point es rest end

-- a line that routes a message
abbrev pub is_route : Act → Bool
is_route (act.Routes a b id k q) = true
is_route x = false

abbrev pub says_put : Line → Bool
says_put l = is_route (act_of l)
