-- The manager's requests to make processes and to move them: they stand in the order in which it sent them, and each has one message
-- in the bag, or a process follows it.
use Rattle.std.specs.Prelude.{◌≡◌, ◌⊎◌, ℕ, ◌+◌, Bool, true, false, is_some, List}
use Rattle.std.specs.declared.option.Option.TheVariants.{Some}
use Rattle.dm_link.specs.declared.Pid.{Pid}
use Rattle.dm_message.specs.declared.MsgId.{MsgId}
use Rattle.dm_message.specs.declared.kind.MessageKind.{MessageKind}
use Rattle.dm_message.specs.Sorts.{Sort, sort_of}
use Rattle.dm_message.specs.Sorts as sort
use Rattle.dm_message.specs.Ids.{id_of}
use Rattle.dm_message.specs.Kinds.{plain_kind}
use Rattle.dm_message.specs.Plain.{PlainMessage}
use Rattle.dm_onekernel.specs.declared.boot.Boot.{Boot}
use Rattle.dm_onekernel.specs.Boot.{IsValid, manager}
use Rattle.dm_onekernel.specs.declared.request.PendingKind.{PendingKind}
use Rattle.dm_onekernel.specs.declared.request.PendingKind.TheVariants as wanted
use Rattle.dm_onekernel.specs.Kernel.{OneKernel, Pending}
use Rattle.dm_onekernel.specs.Manager.{pending_numbered}
use Rattle.dm_onekernel.specs.Pieces.{answer_id}
use Rattle.dm_schedule.specs.declared.Step.{Step}
use Rattle.dm_law_rule.specs.Homes.{ascends}
use Rattle.dm_law_rule.specs.Laws.{Leads}
use Rattle.dm_law_rule.specs.Point.{Point, first_point}
use Rattle.dm_law_one.specs.Laws.{in_bag}

-- a request to make a process or to move one, or an answer to one
abbrev pub is_of_request : Sort → Bool
is_of_request sort.MakingAsked = true
is_of_request sort.MakingAnswered = true
is_of_request sort.MoveAsked = true
is_of_request sort.MoveAnswered = true
is_of_request s = false

abbrev pub requests : MessageKind → Bool
requests k = is_of_request (sort_of k)

-- what asks for it, and what answers it
abbrev pub asked_by : PendingKind → Sort
asked_by wanted.Create = sort.MakingAsked
asked_by wanted.Move = sort.MoveAsked

abbrev pub answered_by : PendingKind → Sort
answered_by wanted.Create = sort.MakingAnswered
answered_by wanted.Move = sort.MoveAnswered

-- the manager has sent a request with this number, and has taken no answer to it
abbrev pub is_pending : OneKernel → ℕ → Bool
is_pending s n = is_some (pending_numbered n s.manager.pending)

-- under a request's number there is one message in the bag, the request or its answer, or else a process follows it
pub record HasOne (s : OneKernel) (r : Pending) : Type 0 where
  pub one : in_bag (s.bag (id_of manager r.n)) + in_bag (s.bag (answer_id (id_of manager r.n))) + in_bag (s.noted (id_of manager r.n)) ≡ 1
  pub request : (m : PlainMessage) → s.bag (id_of manager r.n) ≡ Some m → sort_of (plain_kind m.what) ≡ asked_by r.kind
  pub answer : (m : PlainMessage) → s.bag (answer_id (id_of manager r.n)) ≡ Some m → sort_of (plain_kind m.what) ≡ answered_by r.kind
  pub followed : (p : Pid) → s.noted (id_of manager r.n) ≡ Some p → r.kind ≡ wanted.Move

-- a message is under the number of a pending request
pub record IsOfPending (s : OneKernel) (i : MsgId) : Type 0 where
  pub name : (i ≡ id_of manager i.n) ⊎ (i ≡ answer_id (id_of manager i.n))
  pub pending : is_pending s i.n ≡ true

-- wherever the rule leads, the pending requests ascend by their numbers, below the count of the manager's messages
abbrev pub PendingAscends : Type 0
PendingAscends = (b : Boot) (es : List Step) (pt : Point) → IsValid b → Leads b (first_point b) es pt → ascends 0 pt.kernel.manager.pending pt.kernel.manager.sent ≡ true

-- each pending request has one message, or is followed, and each message of these kinds, and each request that is followed, is of a
-- pending request
pub record EachHasOne (s : OneKernel) : Type 0 where
  pub has : (n : ℕ) (r : Pending) → pending_numbered n s.manager.pending ≡ Some r → HasOne s r
  pub only : (i : MsgId) (m : PlainMessage) → s.bag i ≡ Some m → requests (plain_kind m.what) ≡ true → IsOfPending s i
  pub followed : (i : MsgId) (p : Pid) → s.noted i ≡ Some p → (i ≡ id_of manager i.n) × (is_pending s i.n ≡ true)

-- wherever the rule leads, it is so
abbrev pub PendingHasOne : Type 0
PendingHasOne = (b : Boot) (es : List Step) (pt : Point) → IsValid b → Leads b (first_point b) es pt → EachHasOne pt.kernel
