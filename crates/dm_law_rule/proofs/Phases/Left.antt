-- What is left over of a migration and stands in an inbox, and is no stale piece, asks for one: the migration is being called off.
use Rattle.dm_law_rule.proofs.Names.{◌≡◌, ℕ, ◌≤◌, ◌&&◌, Bool, true, false, not, refl, ap, ◌∙◌, sym, Option, false≢true, Pid, pid_of, MsgId, MessageKind, View, Told, Inbox, standing, Phase, Moves, sort_of, pulls_piece, brings_piece, Incoming}
use Rattle.dm_law_rule.proofs.Names.{IsLeft, Asks, Comes, is_waited_from}
use Rattle.dm_law_rule.proofs.Phases.Answers.{inbox_is, waited_is}

pub record Pulled (v : View) (p : Pid) (phase : Phase) (i : MsgId) (t : Told) (m : ℕ) : Type 0 where
  pub s : ℕ
  pub d : ℕ
  pub id : Option MsgId
  pub pulls : pulls_piece (sort_of t.kind) ≡ true
  pub is : phase ≡ Moves MessageKind.CallOff s d id
  pub from : i.from ≡ pid_of d 0
  pub here : m ≡ s

awaited : (brings waits : Bool) → brings ≡ true → (brings && not waits) ≡ false → waits ≡ true
awaited true true e f = refl
awaited true false e f = absurd (false≢true (sym f))
awaited false waits e f = absurd (false≢true e)

pub pulled : (v : View) (p : Pid) (phase : Phase) (i : MsgId) (t : Told) (m : ℕ) → IsLeft v p phase i t → 1 ≤ standing v i (Inbox m) → (brings_piece (sort_of t.kind) && not (is_waited_from i.from.home (v.known m p))) ≡ false → Pulled v p phase i t m
pulled v p phase i t m (Asks s d j pulls say way is first) st fresh = record { s = s; d = d; id = j; pulls = pulls; is = is; from = way.sender; here = inbox_is m d s (way.ways (Inbox m) st) }
pulled v p phase i t m (Comes s d brings say way off first) st fresh =
    let here : m ≡ d = inbox_is m s d (way.ways (Inbox m) st) in
    let waits : is_waited_from i.from.home (v.known m p) ≡ true = awaited (brings_piece (sort_of t.kind)) (is_waited_from i.from.home (v.known m p)) brings fresh in
    absurd (off (ap (λ (n : ℕ). v.known n p) (sym here) ∙ waited_is i.from.home (v.known m p) waits ∙ ap (λ (q : Pid). Incoming q.home) way.sender))
