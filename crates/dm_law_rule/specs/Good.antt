-- Runs: one group after the other, each by the rule.
use Rattle.std.specs.Prelude.{◌≡◌, ℕ, ◌+◌, ◌≤◌, if◌then◌else◌, List, [], ◌∷◌, length}
use Rattle.std.specs.declared.option.Option.{Option}
use Rattle.std.specs.declared.option.Option.TheVariants.{None, Some}
use Rattle.dm_message.specs.declared.MsgId.{MsgId}
use Rattle.dm_onekernel.specs.declared.boot.Boot.{Boot}
use Rattle.dm_line.specs.declared.line.Line.{Line}
use Rattle.dm_line.specs.Todo.{Todo, Next, Seen, following}
use Rattle.dm_law_rule.specs.View.{View, SentLoad}
use Rattle.dm_law_rule.specs.Point.{Point}
use Rattle.dm_law_rule.specs.Parts.{Spelled}
use Rattle.dm_law_rule.specs.Quiet.{has_mail, is_quiet}
use Rattle.dm_law_rule.specs.Rest.{serves_some}
use Rattle.dm_law_rule.specs.Rule.{group_of}
use Rattle.dm_law_rule.specs.Spots.{StandsRight, standing}

-- the first packet of a wire that was never delivered, counted from k
abbrev pub first_undelivered : ℕ → List SentLoad → Option ℕ
first_undelivered k [] = None
first_undelivered k (s ∷ ss) = if s.delivered then first_undelivered (k + 1) ss else Some k

-- as the lines say
abbrev pub undelivered : View → ℕ → ℕ → Option ℕ
undelivered v a b = first_undelivered 0 (v.pair a b).wire

-- what is seen of so many machines, as the lines say
abbrev pub seen_at : ℕ → Point → Seen
seen_at machines pt = record { first = undelivered pt.view; mail = has_mail pt.view; serves = serves_some pt; quiet = is_quiet machines pt.view }

abbrev pub next_step : ℕ → Point → Todo → Option Next
next_step machines pt t = following machines (seen_at machines pt) t

-- each message that the kernel without machines holds stands exactly once among the printed queues, held lists, inboxes
-- and streams, a kernel's own message at most once, and no other stands there; no pair of machines counts more messages than
-- it may
pub record IsKept (b : Boot) (pt : Point) : Type 0 where
  pub once : (id : MsgId) → StandsRight id (pt.kernel.bag id) (standing pt.view id)
  pub counts : (m n : ℕ) → length (pt.view.pair m n).ids ≤ b.numbers

-- one group after the other, each by the rule, for the directives one by one; what is left of them, and where it leads
abbrev pub IsRun : Boot → Point → Todo → List (List Line) → Point → Todo → Type 0
IsRun b pt t [] end left = (pt ≡ end) × (t ≡ left)
IsRun b pt t (g ∷ gs) end left =
    (n : Next) × (w : Spelled) × (next_step pt.kernel.machines pt t ≡ Some n) × (group_of b pt n.step ≡ Some w) × (w.lines ≡ g) × IsKept b w.point × IsRun b w.point n.left gs end left
