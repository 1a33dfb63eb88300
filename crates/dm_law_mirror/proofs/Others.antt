-- A turn on one machine leaves the kernels of the others as they stand, and each pair.
use Rattle.dm_law_mirror.proofs.Names.{◌≡◌, ◌≢◌, ℕ, zero, suc, ◌+◌, ◌≤◌, ◌==◌, true, not, List, refl, ap, ◌∙◌, sym, subst, inl, inr, arith, if◌then◌else◌, drop, slice_get, eqb_tells, Pid, nat_tests, pid_of, MsgId, Boot, first_number, Point}
use Rattle.dm_law_mirror.proofs.Names.{Room, and, blocks_of, takes_room, taken_at, taken_by, taken_of_home, Queue, Held, Inbox, Untaken, standing, Placed, KernelState, room_of, WorldState, AreMessages, KnownStands, RoomStands}
use Rattle.dm_law_mirror.proofs.Names.{KernelStands, History, PairStands, stream_of}
use Rattle.dm_law_mirror.proofs.Streams.{Joined, joined, pair_stands}
pub use Rattle.dm_law_rule.proofs.QuietTests.{eq_not as apart_tells}
use Rattle.dm_onekernel.specs.Step as kernel
use Rattle.dm_law_rule.specs.View as view
use Rattle.dm_law_mirror.proofs.Rooms.{same_home, same_homes}
use Rattle.dm_law_mirror.proofs.Turning.{Elsewhere}
use Rattle.dm_law_mirror.proofs.Kernel.Sets.{known_same, messages_on as messages_stay}

-- what a process takes of a machine's room
abbrev no_room : Room
no_room = record { slots = 0; blocks = 0 }

none_taken : (pt : Point) (n : ℕ) (p : Pid) (k : view.Known) → pt.view.known n p ≡ k → takes_room k ≡ 0 → taken_by pt n p ≡ no_room
none_taken pt n p k e z = grind (arith, nat_tests)

taken_life : (pt next : Point) (n : ℕ) (p : Pid) → next.view.known n p ≡ pt.view.known n p → next.kernel.processes p ≡ pt.kernel.processes p → taken_by next n p ≡ taken_by pt n p
taken_life pt next n p known life = λ i. record { slots = takes_room (known i); blocks = if takes_room (known i) == 0 then 0 else blocks_of (kernel.alive (life i)) }

-- processes that are made now are known to no other machine
pub record MadeHere (m n : ℕ) (pt next : Point) : Type 0 where
  pub more : pt.kernel.made m ≤ next.kernel.made m
  pub fresh : (k : ℕ) → pt.kernel.made m ≤ k → pt.view.known n (pid_of m (first_number + k)) ≡ view.Unknown

module _ (pt next : Point) (n m : ℕ) (made : MadeHere m n pt next) (same : (p : Pid) → taken_by next n p ≡ taken_by pt n p) where
  and_none : (r s : Room) → s ≡ no_room → and r s ≡ r
  and_none r s e = grind (arith, nat_tests)

  -- those that were made now take nothing there
  home_more : (k j : ℕ) → j ≡ pt.kernel.made m + k → taken_of_home next n m j ≡ taken_of_home pt n m (pt.kernel.made m)
  home_more zero j e = ap (taken_of_home next n m) (let f : j ≡ pt.kernel.made m = omega (arith, e) in f) ∙ same_home pt next n m (pt.kernel.made m) (λ i low. same (pid_of m (first_number + i)))
  home_more (suc k) j e =
      let f : j ≡ suc (pt.kernel.made m + k) = omega (arith, e) in
      let p : Pid = pid_of m (first_number + (pt.kernel.made m + k)) in
      ap (taken_of_home next n m) f
      ∙ and_none (taken_of_home next n m (pt.kernel.made m + k)) (taken_by next n p) (same p ∙ none_taken pt n p view.Unknown (made.fresh (pt.kernel.made m + k) (omega arith)) refl)
      ∙ home_more k (pt.kernel.made m + k) refl

  made_so : (a c : ℕ) → a ≤ c → (k : ℕ) × (c ≡ a + k)
  made_so zero c le = (c, omega arith)
  made_so (suc a) zero le = absurd (omega (arith, le))
  made_so (suc a) (suc c) le = let (k, e) = made_so a c (omega (arith, le)) in (k, omega (arith, e))

  home_is : (home : ℕ) → (home ≢ m → next.kernel.made home ≡ pt.kernel.made home) → taken_of_home next n home (next.kernel.made home) ≡ taken_of_home pt n home (pt.kernel.made home)
  home_is home others = elim (eqb_tells home m) [
    | inl e ↦
        let (k, is) = made_so (pt.kernel.made m) (next.kernel.made m) made.more in
        subst (λ (h : ℕ). taken_of_home next n h (next.kernel.made h) ≡ taken_of_home pt n h (pt.kernel.made h)) (sym e.1) (home_more k (next.kernel.made m) is)
    | inr e ↦ ap (taken_of_home next n home) (others e.1) ∙ same_home pt next n home (pt.kernel.made home) (λ i low. same (pid_of home (first_number + i)))
  ]

-- the kernel of another machine stays
pub kernel_stays : (b : Boot) (m n : ℕ) (pt next : Point) (l placed : Placed) (k : KernelState) → n ≢ m → MadeHere m n pt next → Elsewhere m pt l next placed → KernelStands b pt l n k
    → KernelStands b next placed n k
kernel_stays b m n pt next l placed k apart made e h =
    let other : not (n == m) ≡ true = ap not (apart_tells n m apart) in
    record {
      here = h.here;
      known = λ p.
          subst (λ (ids : List MsgId). KnownStands placed p ids (next.view.held n p) (next.view.known n p) (k.records p)) (sym (e.queue n p apart))
          (subst (λ (js : List MsgId). KnownStands placed p (pt.view.queue n p) js (next.view.known n p) (k.records p)) (sym (e.held n p apart))
          (subst (λ (c : view.Known). KnownStands placed p (pt.view.queue n p) (pt.view.held n p) c (k.records p)) (sym (e.known n p apart))
          (known_same l placed p (pt.view.queue n p) (pt.view.held n p) e.system (λ i stands. e.bag i (Queue n p) other stands) (λ i stands. e.bag i (Held n p) other stands) (pt.view.known n p) (k.records p)
          (λ is. e.resident n p apart is) (λ is. e.notes n p apart is) (h.known p))));
      preds = record { same = λ p. h.preds.same p ∙ sym (e.preds n p apart); within = h.preds.within };
      ring = h.ring ∙ sym (e.ring n apart);
      inbox = subst (λ (ids : List MsgId). AreMessages placed.bag ids k.inbox) (sym (e.inbox n apart)) (messages_stay l.bag placed.bag (pt.view.inbox n) k.inbox (λ i stands. e.bag i (Inbox n) other stands) h.inbox);
      made = h.made ∙ sym (e.made n apart);
      room =
          subst (RoomStands k.room (room_of (slice_get b.machines n)))
          (sym (ap (taken_at next n) e.machines ∙ same_homes pt next n pt.kernel.machines (λ h low. home_is pt next n m made (λ p. grind (arith, nat_tests, taken_life, none_taken)) h (e.made h))))
          h.room;
    }

-- both ends of a stream, its wire and its pair stay, and the messages that were not taken yet
pub pair_stays : (b : Boot) (pt next : Point) (l placed : Placed) (w u : WorldState) (h : History) (a c : ℕ) → (u.nodes a).senders c ≡ (w.nodes a).senders c → (u.nodes c).receivers a ≡ (w.nodes c).receivers a
    → u.wires a c ≡ w.wires a c → next.view.pair a c ≡ pt.view.pair a c → ((i : MsgId) → 1 ≤ standing pt.view i (Untaken a c) → placed.bag i ≡ l.bag i)
    → PairStands b pt l w h a c → PairStands b next placed u h a c
pair_stays b pt next l placed w u h a c sends receives wire pair bag x =
    let j = joined b pt l w h a c x in
    let p = pt.view.pair a c in
    let rest : Joined b placed.bag a c (stream_of w h a c) (w.wires a c) p = search (j, messages_stay l.bag placed.bag (drop p.taken p.ids) (drop p.taken (h.given a c)) bag x.untaken) in
    pair_stands b next placed u h a c (stream_of w h a c) (w.wires a c) p (record { sender = sends; receiver = receives; given = refl; out = refl; back = refl; wire = wire; pair = pair }) rest
