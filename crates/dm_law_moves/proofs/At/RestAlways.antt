-- Where nothing is on its way between machines all is at rest.
use Rattle.dm_law_moves.proofs.Names.{◌≡◌, ◌≢◌, ℕ, ◌<◌, ◌≤◌, Bool, true, false, List, [], ◌∷◌, drop, refl, ap, ◌∙◌, sym, subst, inl, inr, nat_lt, arith, if◌then◌else◌, drop-length, drop-nil, cases_Bool, false≢true, nat_tests, Option, None}
use Rattle.dm_law_moves.proofs.Names.{Some, Pid, MsgId, MessageKind, PlainMessage, Boot, Alive, PlainProcess, id_eq-same, Receiver, to_of, Phase, Nowhere, Rests, Over, Moves, is_unknown, is_here, is_away, is_due, IsToken, IsIn, Point}
use Rattle.dm_law_moves.proofs.Names.{IsQuiet, Spot, Queue, Held, Inbox, Untaken, times, untaken, standing, View, Known, Unknown, Here, is_kernels, stands_right, kernels_fresh, phases_always, AtRest, AllForgotten, IsValid, Leads, Step}
use Rattle.dm_law_moves.proofs.Names.{first_point, IsAt, IsWaiting, is_moving, has_no_queue, has_nothing_held, Run, run_always, living_phase, server_phase, told_of, eq_self, own_by, user_kind, MoveNote, machine_of, is_gone, ListsStand}
use Rattle.dm_law_moves.proofs.At.RestPairs.{Routed, routed_always}
use Rattle.dm_law_moves.proofs.At.RestQueues.{dropped_always, lists_stand}
pub use Rattle.dm_law_always.proofs.Found.Groups.{here_is as is_here_is}

within_by : (b : Boot) (pt : Point) (i : MsgId) (z : Spot) (o : Option PlainMessage) → pt.kernel.bag i ≡ o → Run b pt → 1 ≤ standing pt.view i z → (pt.addresses (Receiver i)).at < pt.kernel.machines
within_by b pt i z (Some x) there h least = h.found.within (Receiver i) x.to (ap to_of there)
within_by b pt i z None there h least =
    let (t, told) = told_of (pt.view.told i) (h.found.told i z least) in
    h.found.own_within i t told (own_by (is_kernels i) (standing pt.view i) z least (stands_right pt i h.based.phased.state None there))

pub within : (b : Boot) (pt : Point) (i : MsgId) (z : Spot) → Run b pt → 1 ≤ standing pt.view i z → machine_of z < pt.kernel.machines
within b pt i z h least = subst (λ (n : ℕ). n < pt.kernel.machines) (h.found.at_ i z least) (within_by b pt i z (pt.kernel.bag i) refl h least)

-- no message is on its way
no_inbox : (b : Boot) (pt : Point) (m : ℕ) (is : List MsgId) → pt.view.inbox m ≡ is → Run b pt → IsQuiet pt.kernel.machines pt.view → pt.view.inbox m ≡ []
no_inbox b pt m [] e h quiet = e
no_inbox b pt m (i ∷ is) e h quiet = quiet.inbox m (within b pt i (Inbox m) h (grind (arith, nat_tests, id_eq-same)))

no_untaken : (b : Boot) (pt : Point) (x y : ℕ) (is : List MsgId) → untaken (pt.view.pair x y) ≡ is → Run b pt → Routed pt.kernel.machines pt.view → IsQuiet pt.kernel.machines pt.view → untaken (pt.view.pair x y) ≡ []
no_untaken b pt x y [] e h routed quiet = e
no_untaken b pt x y (i ∷ is) e h routed quiet =
    let to = within b pt i (Untaken x y) h (grind (arith, nat_tests, id_eq-same)) in
    let p = pt.view.pair x y in
    elim (cases_Bool (nat_lt x pt.kernel.machines)) [
      | inl less ↦ ap (λ (n : ℕ). drop n p.ids) (quiet.taken x y (let f : x < pt.kernel.machines = grind (arith, nat_tests) in f) to) ∙ drop-length p.ids
      | inr more ↦ ap (drop p.taken) (routed.none x y (let f : pt.kernel.machines ≤ x = grind (arith, nat_tests) in f)) ∙ drop-nil p.taken
    ]

pub record Calm (v : View) : Type 0 where
  pub inbox : (m : ℕ) → v.inbox m ≡ []
  pub untaken : (x y : ℕ) → untaken (v.pair x y) ≡ []

calm : (b : Boot) (pt : Point) → Run b pt → Routed pt.kernel.machines pt.view → IsQuiet pt.kernel.machines pt.view → Calm pt.view
calm b pt h routed quiet = record {
  inbox = λ m. no_inbox b pt m (pt.view.inbox m) refl h quiet;
  untaken = λ x y. no_untaken b pt x y (untaken (pt.view.pair x y)) refl h routed quiet;
}

-- so no process moves
no_token : (v : View) (p : Pid) (k : MessageKind) (s d : ℕ) (id : MsgId) → Calm v → IsToken v p k s d id → ⊥
no_token v p k s d id h t = grind (arith, nat_tests)

pub still_held : (k : Known) → is_moving k ≡ false → has_nothing_held k ≡ true
still_held k e = grind (arith, nat_tests)

-- all that stands stands in a queue
pub record Rest (pt : Point) : Type 0 where
  pub calm : Calm pt.view
  pub still : (m : ℕ) (p : Pid) → is_moving (pt.view.known m p) ≡ false
  pub held : (m : ℕ) (p : Pid) → pt.view.held m p ≡ []
  pub lists : ListsStand pt.view

waits_in : (b : Boot) (pt : Point) (i : MsgId) (x : PlainMessage) (m : ℕ) (p : Pid) → Run b pt → Rest pt → pt.kernel.bag i ≡ Some x → standing pt.view i (Queue m p) ≡ 1 → ((z : Spot) → z ≢ Queue m p → standing pt.view i z ≡ 0) → IsWaiting pt i x
waits_in b pt i x m p h rest there one others =
    -- a queue is where a process is
    let still_queue : (k : Known) → is_moving k ≡ false → has_no_queue k ≡ false → k ≡ Here = λ k e f. grind (arith, nat_tests) in
    let q = h.based.queued m p i (omega (arith, one)) in
    let k = q.is x there in
    let same : p ≡ x.to = sym k.0 in
    let full : has_no_queue (pt.view.known m p) ≡ false = elim (cases_Bool (has_no_queue (pt.view.known m p))) [
      | inl none ↦ absurd (let f : times i (pt.view.queue m p) ≡ 0 = ap (times i) (rest.lists.queue m p none) in omega (arith, one, f))
      | inr some ↦ some
    ] in
    record {
      machine = m;
      user = user_kind x.what k.1;
      here = subst (λ (r : Pid). pt.view.known m r ≡ Here) same (still_queue (pt.view.known m p) (rest.still m p) full);
      queued = subst (λ (r : Pid). standing pt.view i (Queue m r) ≡ 1) same one;
      alone = subst (λ (r : Pid). (z : Spot) → z ≢ Queue m r → standing pt.view i z ≡ 0) same others;
    }

waits_at : (b : Boot) (pt : Point) (i : MsgId) (x : PlainMessage) (z : Spot) → Run b pt → Rest pt → pt.kernel.bag i ≡ Some x → standing pt.view i z ≡ 1 → ((y : Spot) → y ≢ z → standing pt.view i y ≡ 0) → IsWaiting pt i x
waits_at b pt i x (Queue m p) h rest there one others = waits_in b pt i x m p h rest there one others
waits_at b pt i x (Held m p) h rest there one others = absurd (let f : times i (pt.view.held m p) ≡ 0 = ap (times i) (rest.held m p) in omega (arith, one, f))
waits_at b pt i x (Inbox m) h rest there one others = absurd (let f : times i (pt.view.inbox m) ≡ 0 = ap (times i) (rest.calm.inbox m) in omega (arith, one, f))
waits_at b pt i x (Untaken c d) h rest there one others = absurd (let f : times i (untaken (pt.view.pair c d)) ≡ 0 = ap (times i) (rest.calm.untaken c d) in omega (arith, one, f))

pub is_unknown_is : (k : Known) → is_unknown k ≡ true → k ≡ Unknown
is_unknown_is k e = grind (arith, nat_tests)

phase_at : (v : View) (p : Pid) (phase : Phase) → Calm v → is_gone phase ≡ false → IsIn v p phase → is_due phase ≡ false → IsAt v p
phase_at v p Nowhere h there is due = absurd (false≢true (sym there))
phase_at v p (Over n) h there is due = absurd (false≢true (sym there))
phase_at v p (Rests n) h there is due = record {
  machine = n;
  here = is_here_is (v.known n p) (sym (ap (λ (c : Bool). if c then is_here (v.known n p) else is_away (v.known n p)) (eq_self n)) ∙ is.known n);
  away = λ m off. sym (ap (λ (c : Bool). if c then is_here (v.known m p) else is_away (v.known m p)) off) ∙ is.known m;
}
phase_at v p (Moves k s d None) h there is due = absurd (false≢true (sym due))
phase_at v p (Moves k s d (Some id)) h there is due = absurd (no_token v p k s d id h is.token)

lives_at : (b : Boot) (pt : Point) (p : Pid) (x : PlainProcess) (phase : Phase) → Run b pt → Calm pt.view → pt.kernel.processes p ≡ Some (Alive x) → IsIn pt.view p phase → is_due phase ≡ false → IsAt pt.view p
lives_at b pt p x phase h calm_ alive is due = phase_at pt.view p phase calm_ (living_phase pt p x phase h.based.phased alive is) is due

-- so none follows a request to move
unasked_at : (b : Boot) (pt : Point) (p : Pid) (o : Option MoveNote) (phase : Phase) → Run b pt → Calm pt.view → pt.kernel.notes p ≡ o → IsIn pt.view p phase → is_due phase ≡ false → o ≡ None
unasked_at b pt p None phase h calm_ noted is due = refl
unasked_at b pt p (Some n) phase h calm_ noted is due =
    let (x, alive) = h.based.phased.state.sound.notes.lives p n noted in
    let at = lives_at b pt p x phase h calm_ alive is due in
    absurd (false≢true (sym (h.based.noted.away p n noted tt at.machine) ∙ ap is_here at.here))

-- where all is quiet
pub at_rest : (b : Boot) (es : List Step) (pt : Point) → IsValid b → Leads b (first_point b) es pt → IsQuiet pt.kernel.machines pt.view → Rest pt
at_rest b es pt valid leads quiet =
    let phase_still : (v : View) (p : Pid) (phase : Phase) (m : ℕ) → Calm v → IsIn v p phase → is_due phase ≡ false → is_moving (v.known m p) ≡ false = λ v p phase m h is due. grind (arith, nat_tests, no_token) in
    let h = (run_always b es pt valid leads).run in
    let routed = subst (λ (n : ℕ). Routed n pt.view) (sym h.based.machines) (routed_always b es pt valid leads) in
    let calm_ = calm b pt h routed quiet in
    let still : (m : ℕ) (p : Pid) → is_moving (pt.view.known m p) ≡ false = λ m p. let (phase, is, due) = phases_always b es pt p valid leads in phase_still pt.view p phase m calm_ is due in
    record { calm = calm_; still = still; held = λ m p. h.based.lists.held m p (still_held (pt.view.known m p) (still m p)); lists = lists_stand b pt h (dropped_always b es pt valid leads) }

-- so all is at rest, where what has ended is forgotten
pub at_rest_by : (b : Boot) (es : List Step) (pt : Point) → IsValid b → Leads b (first_point b) es pt → Rest pt → AllForgotten pt → AtRest pt
at_rest_by b es pt valid leads rest forgotten =
    let own_nowhere : (b : Boot) (pt : Point) (i : MsgId) (z : Spot) → Run b pt → Rest pt → is_kernels i ≡ true → standing pt.view i z ≡ 0 = λ b pt i z h1 h2 h3. search (arith, kernels_fresh) in
    let h = (run_always b es pt valid leads).run in
    record {
      lives = λ p x alive. let (phase, is, due) = phases_always b es pt p valid leads in lives_at b pt p x phase h rest.calm alive is due;
      servers = λ p server. let (phase, is, due) = phases_always b es pt p valid leads in phase_at pt.view p phase rest.calm (server_phase pt p phase h.based.phased server is) is due;
      forgotten = forgotten;
      still = rest.still;
      held = rest.held;
      inbox = rest.calm.inbox;
      untaken = rest.calm.untaken;
      waiting = λ i x there. let (z, one, others) = stands_right pt i h.based.phased.state (Some x) there in waits_at b pt i x z h rest there one others;
      unasked = λ p. (let (phase, is, due) = phases_always b es pt p valid leads in unasked_at b pt p (pt.kernel.notes p) phase h rest.calm refl is due);
      own = λ i z own. own_nowhere b pt i z h rest own;
    }
