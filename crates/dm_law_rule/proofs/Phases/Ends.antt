-- Processes that have ended, and those that live: on which machines they are; and that kernels are told to forget only what has ended.
use Rattle.dm_law_rule.proofs.Names.{◌≡◌, ℕ, ◌==◌, Bool, true, false, refl, ap, ◌∙◌, sym, inl, inr, if◌then◌else◌, Option, Some, cases_Bool, false≢true, Pid, MsgId, MessageKind, Why, PlainProcess, Alive, OneKernel, View, Told, Of, Known}
use Rattle.dm_law_rule.proofs.Names.{Unknown, Here, Point, is_away, is_here, is_unknown, is_restart, is_early, is_calloff, is_server, Phase, Nowhere, Rests, Over, Moves, knows, IsIn, Ended}
use Rattle.dm_law_rule.proofs.Lines.{eq_self}
use Rattle.dm_law_rule.proofs.Trails.Steps.{source_holds, destination_expects}

-- a process was made, and has ended
abbrev pub IsEnded : OneKernel → Pid → Type 0
IsEnded s p = (because : Why) × (s.processes p ≡ Some (Ended because))

pub record Ends (pt : Point) : Type 0 where
  -- what has ended is on no machine: those that know it forward
  pub away : (m : ℕ) (p : Pid) → IsEnded pt.kernel p → is_away (pt.view.known m p) ≡ true
  -- what lives is here on one, leaves it or comes to it
  pub there : (p : Pid) (x : PlainProcess) → pt.kernel.processes p ≡ Some (Alive x) → (m : ℕ) × (is_away (pt.view.known m p) ≡ false)
  -- and so is a server
  pub servers : (p : Pid) → is_server p ≡ true → (m : ℕ) × (is_away (pt.view.known m p) ≡ false)
  -- and what a kernel is told to forget has ended
  pub buries : (i : MsgId) (t : Told) (p : Pid) → pt.view.told i ≡ Some t → t.kind ≡ MessageKind.Bury → t.about ≡ Of p → IsEnded pt.kernel p

-- as a word that searches through what holds don't open
unfoldable pub HaveEnds : Point → Type 0
HaveEnds pt = Ends pt

pub have_ends : (pt : Point) → Ends pt → HaveEnds pt
unfolding HaveEnds
have_ends pt h = h

pub ends_in : (pt : Point) → HaveEnds pt → Ends pt
unfolding HaveEnds
ends_in pt h = h

-- the process is on no machine in this phase
abbrev pub is_gone : Phase → Bool
is_gone Nowhere = true
is_gone (Rests at) = false
is_gone (Over at) = true
is_gone (Moves k s d id) = false

-- the source of a move has the process, or its destination
restart_late : (k : MessageKind) → is_restart k ≡ true → (is_early k ≡ false) × (is_calloff k ≡ false)
restart_late MessageKind.Restart e = (refl, refl)
restart_late _ e = cc

pub moves_there : (v : View) (p : Pid) (k : MessageKind) (s d : ℕ) (o : Option MsgId) → IsIn v p (Moves k s d o) → (m : ℕ) × (is_away (v.known m p) ≡ false)
moves_there v p k s d o h = elim (cases_Bool (is_restart k)) [
  | inl restart ↦ let late = restart_late k restart in (d, ap is_away (destination_expects v p k s d o h late.0 late.1))
  | inr held ↦ (s, ap is_away (source_holds v p k s d o h held))
]

here_not_away : (x : Known) → is_here x ≡ true → is_away x ≡ false
here_not_away Here e = refl
here_not_away _ e = cc

pub rests_there : (v : View) (p : Pid) (at : ℕ) → IsIn v p (Rests at) → is_away (v.known at p) ≡ false
rests_there v p at h = here_not_away (v.known at p) (sym (ap (λ (c : Bool). if c then is_here (v.known at p) else is_away (v.known at p)) (eq_self at)) ∙ h.known at)

-- so the phase of what has ended
pub gone_away : (v : View) (p : Pid) (phase : Phase) → IsIn v p phase → ((m : ℕ) → is_away (v.known m p) ≡ true) → is_gone phase ≡ true
gone_away v p Nowhere h away = refl
gone_away v p (Rests at) h away = absurd (false≢true (sym (rests_there v p at h) ∙ away at))
gone_away v p (Over at) h away = refl
gone_away v p (Moves k s d o) h away = let (m, is) = moves_there v p k s d o h in absurd (false≢true (sym is ∙ away m))

pub ended_gone : (pt : Point) (p : Pid) (phase : Phase) → Ends pt → IsEnded pt.kernel p → IsIn pt.view p phase → is_gone phase ≡ true
ended_gone pt p phase h over is = gone_away pt.view p phase is (λ m. h.away m p over)

-- and of what lives
unknown_away : (x : Known) → is_unknown x ≡ true → is_away x ≡ true
unknown_away Unknown e = refl
unknown_away _ e = cc

over_away : (x : Known) (c : Bool) → (if c then is_unknown x else is_away x) ≡ true → is_away x ≡ true
over_away x true e = unknown_away x e
over_away x false e = e

pub gone_known : (phase : Phase) (m : ℕ) (x : Known) → is_gone phase ≡ true → knows phase m x ≡ true → is_away x ≡ true
gone_known Nowhere m x gone e = unknown_away x e
gone_known (Rests at) m x gone e = cc
gone_known (Over at) m x gone e = over_away x (at == m) e
gone_known (Moves k s d o) m x gone e = cc

pub living_on : (pt : Point) (p : Pid) (x : PlainProcess) (phase : Phase) → Ends pt → pt.kernel.processes p ≡ Some (Alive x) → IsIn pt.view p phase → is_gone phase ≡ false
living_on pt p x phase h alive is = elim (cases_Bool (is_gone phase)) [
  | inl gone ↦ let (m, on) = h.there p x alive in absurd (false≢true (sym on ∙ gone_known phase m (pt.view.known m p) gone (is.known m)))
  | inr off ↦ off
]

pub server_on : (pt : Point) (p : Pid) (phase : Phase) → Ends pt → is_server p ≡ true → IsIn pt.view p phase → is_gone phase ≡ false
server_on pt p phase h server is = elim (cases_Bool (is_gone phase)) [
  | inl gone ↦ let (m, on) = h.servers p server in absurd (false≢true (sym on ∙ gone_known phase m (pt.view.known m p) gone (is.known m)))
  | inr off ↦ off
]
