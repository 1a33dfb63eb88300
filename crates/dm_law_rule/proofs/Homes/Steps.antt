-- Each label of a process keeps addresses where they may be.
use Rattle.dm_law_rule.proofs.Names.{◌≡◌, ℕ, ◌==◌, ◌&&◌, Bool, true, false, List, [], refl, ap, ◌∙◌, sym, subst, arith, if◌then◌else◌, Option, None, Some, nat_tests, Pid, Place, pid_eq, MsgId, id_eq, Label, Reply, Why, reply_eq, reply_code}
use Rattle.dm_law_rule.proofs.Names.{why_eq, bind, PlainProcess, Alive, OneKernel, with_process, with_sent, Replies, Sends, Ends, id_eq-is, bind-is, when-is, View, Addresses, Gets, given, gives, Slot, acting_place, fills, fills_by, call_gets}
use Rattle.dm_law_rule.proofs.Names.{sending_gets, Ended, none_some}
use Rattle.dm_law_rule.proofs.Homes.{AtHome, place_as}
use Rattle.dm_law_rule.proofs.Homes.Rows.{SameProcess, SameMessage, SameServers, running_home, at_home_process, home_goes, at_home_goes, alive_on, set_home, sent_home}
use Rattle.dm_law_rule.proofs.Homes.Calls.{Nexts, next_home, gives_by}
use Rattle.dm_onekernel.specs.Calls as calls
use Rattle.dm_onekernel.specs.Step as kernel
use Rattle.dm_law_rule.specs.Addresses as addresses

-- ran
pub ran_home : (P : Pid → Place → Type 0) (s t : OneKernel) (v : View) (a : Addresses) (p : Pid) (k : ℕ) → kernel.step s (Label.Ran p k) ≡ Some t → AtHome P s a → AtHome P t a
ran_home P s t v a p k is h =
    let (x, running, rest) = bind-is (kernel.running s p) (λ (w : PlainProcess). bind (kernel.plain_steps k (kernel.machine_of w)) (λ (m : kernel.Machine). Some (kernel.goes_on s p (kernel.with_machine w m)))) t is in
    let (m, plain, last) = bind-is (kernel.plain_steps k (kernel.machine_of x)) (λ (m : kernel.Machine). Some (kernel.goes_on s p (kernel.with_machine x m))) t rest in
    let w = running_home P s a p x h running in
    subst (λ (u : OneKernel). AtHome P u a) (let eq : kernel.goes_on s p (kernel.with_machine x m) ≡ t = cc in eq) (home_goes P s a p (kernel.with_machine x m) h (record { slots = w.slots; owner = w.owner }))

pub made_is : (v : View) (a : Addresses) (p : Pid) (n : ℕ) (c : Reply) (x : PlainProcess) → call_gets v a p n c (Some x) ≡ gives_by v a p x (calls.call_number n) c
made_is v a p n Reply.Done x = refl
made_is v a p n _ x = refl

gives_code : (v : View) (a : Addresses) (p : Pid) (x : PlainProcess) (n : calls.CallNumber) (c : Reply) → gives_by v a p x n c ≡ (if reply_code c == 0 then fills_by v a p x n else [])
gives_code v a p x n Reply.Done = refl
gives_code v a p x n _ = refl

pub gives_same : (v : View) (a : Addresses) (p : Pid) (x : PlainProcess) (n : calls.CallNumber) (c d : Reply) → reply_eq c d ≡ true → gives_by v a p x n c ≡ gives_by v a p x n d
gives_same v a p x n c d e =
    gives_code v a p x n c ∙ ap (λ (i : ℕ). if i == 0 then fills_by v a p x n else []) (let k : reply_code c ≡ reply_code d = grind (arith, nat_tests) in k) ∙ sym (gives_code v a p x n d)

-- what a reply gives is a slot of the process's own
fills_others : (a : Addresses) (p : Pid) (o : Option ℕ) (place : Place) (q : Pid) → pid_eq p q ≡ false → SameProcess a (given a (fills p o place)) q
fills_others a p None place q e = record { slot = λ k. refl; owner = refl }
fills_others a p (Some slot) place q e = record { slot = λ k. ap (λ (c : Bool). if c && (slot == k) then place else a (Slot q k)) e; owner = refl }

-- addresses beyond slots stay
pub record OnlySlots (a b : Addresses) (p : Pid) : Type 0 where
  pub others : (q : Pid) → pid_eq p q ≡ false → SameProcess a b q
  pub messages : (i : MsgId) → SameMessage a b i
  pub servers : SameServers a b

pub only_none : (a : Addresses) (p : Pid) → OnlySlots a a p
only_none a p = search arith

pub only_gives_by : (v : View) (a : Addresses) (p : Pid) (x : PlainProcess) (n : calls.CallNumber) (c : Reply) → OnlySlots a (given a (gives_by v a p x n c)) p
only_gives_by v a p x n c =
    let only_fills_by : (v : View) (a : Addresses) (p : Pid) (x : PlainProcess) (n : calls.CallNumber) → OnlySlots a (given a (fills_by v a p x n)) p = λ v a p x n.
    let only_fills : (a : Addresses) (p : Pid) (o : Option ℕ) (place : Place) → OnlySlots a (given a (fills p o place)) p = λ a p o place. search (arith, only_none, fills_others) in
    search (arith, only_fills, only_none) in
    subst (λ (gs : List Gets). OnlySlots a (given a gs) p) (sym (gives_code v a p x n c))
    (elim (reply_code c == 0) as (λ c_. OnlySlots a (given a (if c_ then (fills_by v a p x n) else [])) p) [ true ↦ (only_fills_by v a p x n) | false ↦ only_none a p ])

reply_row : (P : Pid → Place → Type 0) (s t : OneKernel) (v : View) (a : Addresses) (p : Pid) (n : ℕ) (c : Reply) (next : kernel.Trap) → Nexts P v s a p next → kernel.replies s p n c next ≡ Some t → AtHome P s a → AtHome P t (given a (call_gets v a p n c (kernel.running s p)))
reply_row P s t v a p n c (kernel.Calls number (calls.Replies d y)) w is h =
    let k = when-is ((n == number) && reply_eq c d) (kernel.goes_on s p y) t is in
    let both = k.0 in
    let number_is : number ≡ n = grind (arith, nat_tests) in
    let same : reply_eq c d ≡ true = grind (arith, nat_tests) in
    let x = w.x in
    let gs = gives_by v a p x (calls.call_number number) d in
    let gs_is : gs ≡ call_gets v a p n c (kernel.running s p) =
    sym (gives_same v a p x (calls.call_number number) c d same) ∙ ap (λ (i : ℕ). gives_by v a p x (calls.call_number i) c) number_is ∙ sym (made_is v a p n c x) ∙ ap (call_gets v a p n c) (sym w.running) in
    let o = only_gives_by v a p x (calls.call_number number) d in
    subst (λ (u : OneKernel). AtHome P u (given a (call_gets v a p n c (kernel.running s p)))) k.1
    (subst (λ (g : List Gets). AtHome P (kernel.goes_on s p y) (given a g)) gs_is
    (at_home_process P s a (given a gs) p (Alive y) h o.others (alive_on P (given a gs) p y w.home) o.messages o.servers))
reply_row P s t v a p n c _ w is h = none_some t is

pub call_home : (P : Pid → Place → Type 0) (s t : OneKernel) (v : View) (a : Addresses) (p : Pid) (n : ℕ) (c : Reply) → kernel.step s (Label.Call p n c) ≡ Some t → P p (acting_place v p) → AtHome P s a → AtHome P t (given a (gives s v a (Label.Call p n c)))
call_home P s t v a p n c is at h =
    let (x, next, rest) = bind-is (kernel.next_trap s p) (kernel.replies s p n c) t is in
    reply_row P s t v a p n c x (next_home P v s a p x h at next) rest h

-- a sending
send_row : (P : Pid → Place → Type 0) (s t : OneKernel) (v : View) (a : Addresses) (p : Pid) (id : MsgId) (next : kernel.Trap) → kernel.next_trap s p ≡ Some next → Nexts P v s a p next → kernel.sends s p id next ≡ Some t → AtHome P s a
    → AtHome P t (given a (gives s v a (Label.Send p id)))
send_row P s t v a p id (kernel.Calls number (calls.Sends m y)) nx w is h =
    let k = when-is (id_eq id m.id) (with_sent (kernel.goes_on s p y) (Some m)) t is in
    let x = w.x in
    let gs = sending_gets v a p x m.id m.what in
    let gs_is : gs ≡ gives s v a (Label.Send p id) =
    ap (λ (i : MsgId). sending_gets v a p x i m.what) (sym (id_eq-is id m.id k.0)) ∙ ap (addresses.sends_next v a p x id) (sym nx) ∙ ap (addresses.send_gets s v a p id) (sym w.running) in
    let o = w.home in
    subst (λ (u : OneKernel). AtHome P u (given a (gives s v a (Label.Send p id)))) k.1
    (subst (λ (g : List Gets). AtHome P (with_sent (kernel.goes_on s p y) (Some m)) (given a g)) gs_is
    (record {
      processes = set_home P s a (given a gs) p (Alive y) h o.others (alive_on P (given a gs) p y o.process);
      messages = sent_home P s a (given a gs) m h.messages o.messages o.message;
      children = λ n q e. place_as P (o.servers.child n) (h.children n q e);
      named = λ n k e. place_as P (o.servers.name n) (h.named n k e);
      answers = λ n r l e f. place_as P (o.servers.answer n) (h.answers n r l e f);
      askers = λ q n e. place_as P (o.servers.asked q) (h.askers q n e);
      board = place_as P o.servers.board h.board;
      rooted = h.rooted;
      pending = h.pending;
    }))
send_row P s t v a p id _ nx w is h = none_some t is

pub send_home : (P : Pid → Place → Type 0) (s t : OneKernel) (v : View) (a : Addresses) (p : Pid) (id : MsgId) → kernel.step s (Label.Send p id) ≡ Some t → P p (acting_place v p) → AtHome P s a → AtHome P t (given a (gives s v a (Label.Send p id)))
send_home P s t v a p id is at h =
    let (x, next, rest) = bind-is (kernel.next_trap s p) (kernel.sends s p id) t is in
    send_row P s t v a p id x next (next_home P v s a p x h at next) rest h

pub wait_home : (P : Pid → Place → Type 0) (s t : OneKernel) (v : View) (a : Addresses) (p : Pid) → kernel.step s (Label.Wait p) ≡ Some t → P p (acting_place v p) → AtHome P s a → AtHome P t a
wait_home P s t v a p is at h =
    -- a receive begins
    let wait_row : (P : Pid → Place → Type 0) (s t : OneKernel) (v : View) (a : Addresses) (p : Pid) (next : kernel.Trap) → Nexts P v s a p next → kernel.waits s p next ≡ Some t → AtHome P s a → AtHome P t a =
    λ P s t v a p next h1 h2 h3. search (arith, home_goes) in
    let (x, next, rest) = bind-is (kernel.next_trap s p) (kernel.waits s p) t is in
    wait_row P s t v a p x (next_home P v s a p x h at next) rest h

out_row : (P : Pid → Place → Type 0) (s t : OneKernel) (v : View) (a : Addresses) (p : Pid) (word : ℕ) (next : kernel.Trap) → Nexts P v s a p next → kernel.outputs s p word next ≡ Some t → AtHome P s a → AtHome P t a
out_row P s t v a p word next h1 h2 h3 = search (arith, when-is, home_goes)

pub out_home : (P : Pid → Place → Type 0) (s t : OneKernel) (v : View) (a : Addresses) (p : Pid) (word : ℕ) → kernel.step s (Label.Out p word) ≡ Some t → P p (acting_place v p) → AtHome P s a → AtHome P t a
out_home P s t v a p word is at h =
    let (x, next, rest) = bind-is (kernel.next_trap s p) (kernel.outputs s p word) t is in
    out_row P s t v a p word x (next_home P v s a p x h at next) rest h

-- the end
pub at_home_ended : (P : Pid → Place → Type 0) (s : OneKernel) (a : Addresses) (p : Pid) (y : Why) → AtHome P s a → AtHome P (with_process s p (Ended y)) a
at_home_ended P s a p y h = at_home_goes P s a p (Ended y) h (λ x e. absurd (let f : None ≡ Some x = e in cc))

pub end_row : (P : Pid → Place → Type 0) (s t : OneKernel) (a : Addresses) (p : Pid) (y : Why) (next : kernel.Trap) → kernel.ends s p y next ≡ Some t → AtHome P s a → AtHome P t a
end_row P s t a p y (kernel.Calls number (calls.Ends because)) is h =
    subst (λ (u : OneKernel). AtHome P u a) (when-is (why_eq y because) (with_process s p (Ended y)) t is).1 (at_home_ended P s a p y h)
end_row P s t a p y (kernel.Faults fault) is h =
    subst (λ (u : OneKernel). AtHome P u a) (when-is (why_eq y (Why.Fault fault)) (with_process s p (Ended y)) t is).1 (at_home_ended P s a p y h)
end_row P s t a p y _ is h = none_some t is
