-- Where all is at rest no request is pending, no process moves data, and each living process waits, or is stopped.
use Rattle.dm_law_moves.proofs.Names.{◌≡◌, ◌≤◌, ◌+◌, ◌&&◌, ◌||◌, ℕ, Bool, true, false, not, is_some, if◌then◌else◌, List, [], ◌∷◌, refl, ap, ◌∙◌, sym, subst, inl, inr, arith, Option, None, Some, false≢true, Pid, Boot, Point, PlainProcess}
use Rattle.dm_law_moves.proofs.Names.{Alive, manager, id_of, MsgId, Pending, AtRest, Here, PlainMessage, eq_self, is_server, not_server, pid_eq, pid_eq-is, run_always, Run, rings, turns_here, in_bag, answer_id, plain_kind}
use Rattle.dm_law_moves.proofs.At.Always.{at_rest_always}
use Rattle.dm_law_moves.proofs.Names.{PlainWhat, sort_of, Life, OneKernel, pending_numbered, PlainStatus, Ready, Waiting, Moving, Direction, PendingKind, IsAtRest, AnswersFor, AsksFor, HasPiece, HasOne, answered_by, asked_by}
use Rattle.dm_law_moves.proofs.Names.{StillAlways, is_mover, is_wait}
use Rattle.dm_law_moves.proofs.Movers.Always.{movers_have_pieces}
use Rattle.dm_law_moves.proofs.Pending.Always.{pending_has_one}
use Rattle.dm_message.specs.declared.kind.MessageKind.TheVariants as kind
use Rattle.dm_onekernel.specs.Step as kernel
use Rattle.dm_process.specs.declared.process.Direction.TheVariants as direction
use Rattle.dm_onekernel.specs.declared.request.PendingKind.TheVariants as wanted
use Rattle.dm_law_rule.specs.Rule as rule

-- no message of the bag is anything but a user message
no_other : (pt : Point) (i : MsgId) → AtRest pt → ((m : PlainMessage) → pt.kernel.bag i ≡ Some m → plain_kind m.what ≡ kind.User → ⊥) → pt.kernel.bag i ≡ None
no_other pt i rest other = by (pt.kernel.bag i) refl
  where
    by : (o : Option PlainMessage) → pt.kernel.bag i ≡ o → o ≡ None
    by None e = refl
    by (Some m) e = absurd (other m e (rest.waiting i m e).user)

-- a request that is pending isn't a user message, nor is its answer
not_asked : (k : PendingKind) → sort_of kind.User ≡ asked_by k → ⊥
not_asked wanted.Create e = cc
not_asked wanted.Move e = cc

not_answered : (k : PendingKind) → sort_of kind.User ≡ answered_by k → ⊥
not_answered wanted.Create e = cc
not_answered wanted.Move e = cc

-- nor is one that a process follows
none_followed : (b : Boot) (pt : Point) (i : MsgId) → Run b pt → AtRest pt → pt.kernel.noted i ≡ None
none_followed b pt i run rest = by (pt.kernel.noted i) refl
  where
    by : (o : Option Pid) → pt.kernel.noted i ≡ o → o ≡ None
    by None e = refl
    by (Some p) e =
        let (n, noted, same) = run.based.phased.state.sound.notes.follows i p e in
        let f : None ≡ Some n = sym (rest.unasked p) ∙ noted in
        cc

pending_one : (b : Boot) (pt : Point) (r : Pending) → Run b pt → AtRest pt → HasOne pt.kernel r → ⊥
pending_one b pt r run rest h =
    let i = id_of manager r.n in
    let asked = no_other pt i rest (λ m there user. not_asked r.kind (sym (ap sort_of user) ∙ h.request m there)) in
    let answered = no_other pt (answer_id i) rest (λ m there user. not_answered r.kind (sym (ap sort_of user) ∙ h.answer m there)) in
    let followed = none_followed b pt i run rest in
    let zero : in_bag (pt.kernel.bag i) ≡ 0 = ap in_bag asked in
    let nought : in_bag (pt.kernel.bag (answer_id i)) ≡ 0 = ap in_bag answered in
    let none : in_bag (pt.kernel.noted i) ≡ 0 = ap in_bag followed in
    let one = h.one in
    omega (arith, zero, nought, none, one)

none_pending : (b : Boot) (pt : Point) (rs : List Pending) → pt.kernel.manager.pending ≡ rs → Run b pt → AtRest pt → ((n : ℕ) (r : Pending) → pending_numbered n pt.kernel.manager.pending ≡ Some r → HasOne pt.kernel r) → rs ≡ []
none_pending b pt [] e run rest has = refl
none_pending b pt (r ∷ rs) e run rest has =
    let here : pending_numbered r.n (r ∷ rs) ≡ Some r = ap (λ (c : Bool). if c then Some r else pending_numbered r.n rs) (eq_self r.n) in
    absurd (pending_one b pt r run rest (has r.n r (ap (pending_numbered r.n) e ∙ here)))

-- a request for a piece isn't a user message, nor is its answer
not_asks : (dir : Direction) (base left : ℕ) (w : PlainWhat) → AsksFor dir base left w → plain_kind w ≡ kind.User → ⊥
not_asks direction.FromArea base left w asks user = let f = sym (ap plain_kind asks) ∙ user in cc
not_asks direction.IntoArea base left w asks user = let f = sym (ap plain_kind asks.is) ∙ user in cc

not_answers : (dir : Direction) (left : ℕ) (w : PlainWhat) → AnswersFor dir left w → plain_kind w ≡ kind.User → ⊥
not_answers direction.FromArea left w (inl bytes) user = let f = sym (ap plain_kind bytes.is) ∙ user in cc
not_answers direction.FromArea left w (inr gone) user = let f = sym (ap plain_kind gone) ∙ user in cc
not_answers direction.IntoArea left w (inl written) user = let f = sym (ap plain_kind written) ∙ user in cc
not_answers direction.IntoArea left w (inr gone) user = let f = sym (ap plain_kind gone) ∙ user in cc

no_piece : (pt : Point) (p owner : Pid) (dir : Direction) (base left pending : ℕ) → AtRest pt → HasPiece pt.kernel p dir owner base left pending → ⊥
no_piece pt p owner dir base left pending rest h =
    let i = id_of p pending in
    let asked = no_other pt i rest (λ m there user. not_asks dir base left m.what (h.request m there).asks user) in
    let answered = no_other pt (answer_id i) rest (λ m there user. not_answers dir left m.what (h.answer m there).answers user) in
    let zero : in_bag (pt.kernel.bag i) ≡ 0 = ap in_bag asked in
    let nought : in_bag (pt.kernel.bag (answer_id i)) ≡ 0 = ap in_bag answered in
    let one = h.one in
    omega (arith, zero, nought, one)

no_mover : (pt : Point) (p : Pid) (x : PlainProcess) (st : PlainStatus) → x.status ≡ st → AtRest pt
    → ((dir : Direction) (owner : Pid) (base own left pending : ℕ) → x.status ≡ Moving dir owner base own left pending → HasPiece pt.kernel p dir owner base left pending) → is_mover st ≡ false
no_mover pt p x Ready e rest has = refl
no_mover pt p x (Waiting mask base cap_) e rest has = refl
no_mover pt p x (Moving dir owner base own left pending) e rest has = absurd (no_piece pt p owner dir base left pending rest (has dir owner base own left pending e))

-- no process of a ring can be served
if_none : {X : Type 0} (c : Bool) (x : X) (o : Option X) → (if c then Some x else o) ≡ None → (c ≡ false) × (o ≡ None)
if_none true x o e = cc
if_none false x o e = (refl, e)

none_goes : (s : OneKernel) (queue : Pid → List MsgId) (ps : List Pid) (p : Pid) → 1 ≤ rings p ps → rule.first_runnable s queue ps ≡ None → rule.can_go s (queue p) (kernel.alive (s.processes p)) ≡ false
none_goes s queue [] p least none = absurd (omega (arith, least))
none_goes s queue (q ∷ qs) p least none =
    let k = if_none (rule.can_go s (queue q) (kernel.alive (s.processes q))) q (rule.first_runnable s queue qs) none in
    here_or_later (pid_eq p q) refl k.0 (λ more. none_goes s queue qs p more k.1)
  where
    here_or_later : (c : Bool) → pid_eq p q ≡ c → rule.can_go s (queue q) (kernel.alive (s.processes q)) ≡ false → (1 ≤ rings p qs → rule.can_go s (queue p) (kernel.alive (s.processes p)) ≡ false) → rule.can_go s (queue p) (kernel.alive (s.processes p)) ≡ false
    here_or_later true same off later = subst (λ (z : Pid). rule.can_go s (queue z) (kernel.alive (s.processes z)) ≡ false) (sym (pid_eq-is p q same)) off
    here_or_later false other off later =
        let fewer : rings p (q ∷ qs) ≡ 0 + rings p qs = ap (λ (c : Bool). (if c then 1 else 0) + rings p qs) other in
        later (omega (arith, fewer, least))

-- what a process does that isn't served
waits_or : (s : OneKernel) (queue : List MsgId) (stopped : Bool) (st : PlainStatus) → is_mover st ≡ false → (not stopped && rule.status_can_go s queue st) ≡ false → (stopped || is_wait st) ≡ true
waits_or s queue true st mover off = refl
waits_or s queue false Ready mover off = absurd (false≢true (sym off))
waits_or s queue false (Waiting mask base cap_) mover off = refl
waits_or s queue false (Moving dir owner base own left pending) mover off = absurd (false≢true (sym mover))

none_of : {X : Type 0} (o : Option X) → is_some o ≡ false → o ≡ None
none_of None e = refl
none_of (Some x) e = absurd (false≢true (sym e))

-- a living process that is on a machine isn't served there
module _ (b : Boot) (pt : Point) (run : Run b pt) (all : IsAtRest pt.kernel.machines pt) where
  not_served : (p : Pid) (x : PlainProcess) (m : ℕ) → pt.kernel.processes p ≡ Some (Alive x) → pt.view.known m p ≡ Here → (not x.stopped && rule.status_can_go pt.kernel (pt.view.queue m p) x.status) ≡ false
  not_served p x m alive here =
      let k = not_server pt.kernel p x alive run.based.phased.state.sound.made in
      let server : is_server p ≡ false = ap (λ (c : Bool). c || pid_eq p manager) k.0 ∙ k.1 in
      let ring : rings p (pt.view.ring m) ≡ 1 = run.based.known.ring m p ∙ ap (λ (c : Bool). turns_here c (pt.view.known m p)) server ∙ ap (turns_here false) here in
      let below = run.found.known_within m p (λ unknown. (let f = sym here ∙ unknown in cc)) in
      let off = none_goes pt.kernel (pt.view.queue m) (pt.view.ring m) p (omega (arith, ring)) (all.served m below) in
      sym (ap (λ (o : Option Life). rule.can_go pt.kernel (pt.view.queue m p) (kernel.alive o)) alive) ∙ off

pub still_always : StillAlways
still_always b es pt valid leads all =
    let run = (run_always b es pt valid leads).run in
    let rest = at_rest_always b es pt valid leads all.quiet in
    let movers = movers_have_pieces b es pt valid leads in
    let mover = λ (p : Pid) (x : PlainProcess) (alive : pt.kernel.processes p ≡ Some (Alive x)). no_mover pt p x x.status refl rest (λ dir owner base own left pending e. movers.has p x dir owner base own left pending alive e) in
    record {
      rest = rest;
      pending = none_pending b pt pt.kernel.manager.pending refl run rest (pending_has_one b es pt valid leads).has;
      moves = mover;
      waits = λ p x alive.
          let at = rest.lives p x alive in
          waits_or pt.kernel (pt.view.queue at.machine p) x.stopped x.status (mover p x alive) (not_served b pt run all p x at.machine alive at.here);
      deaf = λ p x m mask base cap_ alive going waiting here.
          let off = not_served b pt run all p x m alive here in
          none_of (rule.first_awaited pt.kernel mask (pt.view.queue m p))
          (sym (ap (λ (st : PlainStatus). not x.stopped && rule.status_can_go pt.kernel (pt.view.queue m p) st) waiting
          ∙ ap (λ (c : Bool). not c && is_some (rule.first_awaited pt.kernel mask (pt.view.queue m p))) going) ∙ off);
    }
