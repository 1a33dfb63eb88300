-- Where nothing is on its way, no machine has a record of a process that has ended.
use Rattle.dm_law_moves.proofs.Names.{◌≡◌, ◌≢◌, ℕ, zero, suc, ◌-◌, ◌≤◌, ◌==◌, ◌||◌, Bool, true, false, not, nat_lt, List, [], refl, ap, ◌∙◌, sym, arith, nat_tests, is_some, false≢true, Boot, Step, IsValid, Leads, Pid, Point, first_point}
use Rattle.dm_law_moves.proofs.Names.{MsgId, MessageKind, View, Known, Unknown, Frozen, Forward, kind_leaves, source_knows, is_away, Spot, Inbox, Untaken, standing, times, untaken, parts, Run, run_always, None, is_moving, is_server, agrees}
use Rattle.dm_law_moves.proofs.Names.{Life, ByForward, Place, Option, is_alive, leads, leads_on, AllForgotten, IsHeldBack, ByPreds, ByBury, ByCallOff, is_way_to}
use Rattle.dm_onekernel.specs.Step as kernel
use Rattle.dm_law_moves.proofs.Trail.Standing.{addresses_lead}
use Rattle.dm_law_moves.proofs.Preds.Always.{predecessors_always}

-- a walk along forwarding addresses, of which each leads to a machine with a record, doesn't end where a process has ended
pub record Onward (next : ℕ → ℕ → Bool) (x : Known) : Type 0 where
  pub at : ℕ
  pub moves : ℕ
  pub is : x ≡ Forward at moves
  pub leads : next moves at ≡ true

one_on : (next : ℕ → ℕ → Bool) (x : Known) (c : ℕ) → x ≢ Unknown → is_away x ≡ true → leads_on true x c next ≡ true → Onward next x
one_on next Unknown c some away e = absurd (some refl)
one_on next (Forward at moves) c some away e = record { at = at; moves = moves; is = refl; leads = (parts (nat_lt c moves) (next moves at) e).1 }
one_on next _ c some away e = absurd (false≢true away)

pub never_ends : (v : View) (p : Pid) → ((m k c : ℕ) → v.known m p ≡ Forward k c → v.known k p ≢ Unknown) → ((m : ℕ) → is_away (v.known m p) ≡ true) → (n c m : ℕ) → v.known m p ≢ Unknown → leads true v p n c m ≡ true → ⊥
never_ends v p kept away zero c m some e = false≢true (one_on (λ d k. false) (v.known m p) c some (away m) e).leads
never_ends v p kept away (suc n) c m some e =
    let k = one_on (leads true v p n) (v.known m p) c some (away m) e in
    never_ends v p kept away n k.moves k.at (kept m k.at k.moves k.is) k.leads

-- at rest each does
calls_moving : (d : ℕ) (x : Known) → kind_leaves MessageKind.CallOff d x ≡ true → is_moving x ≡ true
calls_moving d (Frozen to) e = refl
calls_moving d _ e = absurd (false≢true e)

no_way : (v : View) (i : MsgId) (m : ℕ) (z : Spot) → ((k : ℕ) → v.inbox k ≡ []) → ((x y : ℕ) → untaken (v.pair x y) ≡ []) → is_way_to m z ≡ true → 1 ≤ standing v i z → ⊥
no_way v i m (Inbox k) inbox pairs way st = let f : times i (v.inbox k) ≡ 0 = ap (times i) (inbox k) in omega (arith, st, f)
no_way v i m (Untaken a k) inbox pairs way st = let f : times i (untaken (v.pair a k)) ≡ 0 = ap (times i) (pairs a k) in omega (arith, st, f)
no_way v i m _ inbox pairs way st = false≢true way

target_known : (pt : Point) (p : Pid) (m k : ℕ) → ((n : ℕ) → pt.view.inbox n ≡ []) → ((x y : ℕ) → untaken (pt.view.pair x y) ≡ []) → ((n : ℕ) (q : Pid) → is_moving (pt.view.known n q) ≡ false) → IsHeldBack pt p m k → pt.view.known k p ≢ Unknown
target_known pt p m k inbox pairs still (ByPreds pred some) = some
target_known pt p m k inbox pairs still (ByBury i t z told kind to about way st) = absurd (no_way pt.view i m z inbox pairs way st)
target_known pt p m k inbox pairs still (ByCallOff j is) =
    absurd (false≢true (sym (still k p) ∙ calls_moving m (pt.view.known k p) (source_knows MessageKind.CallOff k m j (pt.view.known k p) (is.known k))))

-- what has ended is on no machine
server_off : (p : Pid) → 3 ≤ p.num → is_server p ≡ false
server_off p least = grind (arith, nat_tests)

ended_off : (k : Known) (o : Option Life) → kernel.alive o ≡ None → agrees k o ≡ true → is_away k ≡ true
ended_off k o over e = grind (arith, nat_tests)

pub forgotten_at : (b : Boot) (es : List Step) (pt : Point) → IsValid b → Leads b (first_point b) es pt → ((m : ℕ) → pt.view.inbox m ≡ []) → ((x y : ℕ) → untaken (pt.view.pair x y) ≡ []) → ((m : ℕ) (p : Pid) → is_moving (pt.view.known m p) ≡ false) → AllForgotten pt
forgotten_at b es pt valid leads_ inbox pairs still m p (y, ended) = by_known (pt.view.known m p) refl
  where
    run : Run b pt
    run = (run_always b es pt valid leads_).run

    least : 3 ≤ p.num
    least = let k = run.based.phased.state.sound.made.least p (ap is_some ended) in grind (arith, nat_tests)

    server : is_server p ≡ false
    server = server_off p least

    over : is_alive pt.kernel p ≡ false
    over = ap (λ (c : Bool). c || is_some (kernel.alive (pt.kernel.processes p))) server ∙ ap (λ (o : Option Life). is_some (kernel.alive o)) ended

    away : (n : ℕ) → is_away (pt.view.known n p) ≡ true
    away n = ended_off (pt.view.known n p) (pt.kernel.processes p) (ap kernel.alive ended) (run.based.known.agree n p server)

    kept : (n k c : ℕ) → pt.view.known n p ≡ Forward k c → pt.view.known k p ≢ Unknown
    kept n k c e = target_known pt p n k inbox pairs still ((predecessors_always b es pt valid leads_).back n k c p e)

    by_known : (x : Known) → pt.view.known m p ≡ x → x ≡ Unknown
    by_known Unknown is = refl
    by_known (Forward k c) is =
        let place : Place = record { at = k; moves = c } in
        let led = (addresses_lead b es pt p place valid leads_ (ByForward m is)).led (let f : (p.num == 0) ≡ false = grind (arith, nat_tests, least) in f) in
        let walk : leads true pt.view p (pt.kernel.machines - 1) c k ≡ true = ap (λ (l : Bool). leads (not l) pt.view p (pt.kernel.machines - 1) c k) (sym over) ∙ led in
        absurd (never_ends pt.view p kept away (pt.kernel.machines - 1) c k (kept m k c is) walk)
    by_known x is = absurd (false≢true (sym (ap is_away is) ∙ away m))
