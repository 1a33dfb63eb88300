-- What sides say of printed lines.
use Rattle.dm_law_always.proofs.Names.{◌≡◌, ◌≢◌, ℕ, ◌&&◌, ◌||◌, Bool, true, false, List, [], ◌∷◌, ◌++◌, refl, ap, ◌∙◌, sym, subst, is_some, inl, inr, arith, nat_tests, if◌then◌else◌, Option, None, Some, cases_Bool, Pid, pid_eq, MsgId, Boot, start, replay, bind, bind-is}
use Rattle.dm_law_always.proofs.Names.{PlainMessage, PlainWhat, PlainProcess, PlainStatus, Waiting, OneKernel, Label, switchboard, manager, pid_eq-is, Step, Line, Point, first_point, Leads, labels, WhatFits, on_mask, at_hand-is, option_map_or, Made, none_some}
use Rattle.dm_law_always.proofs.Names.{Each, IsStep, ServerSends, Spelled, came, group_of, id_of, length, board_takes_lem, manager_takes_lem, stayed, with_sent, without_message, ◌⊎◌}
use Rattle.std.proofs.Common.{append_assoc}
use Rattle.std.proofs.lemmas.Option.{cond_some}
use Rattle.dm_law_always.specs.Order.{LeadsBy}
use Rattle.dm_onekernel.specs.Receiving as receiving
use Rattle.dm_onekernel.specs.Manager as manage
use Rattle.dm_onekernel.specs.Service as service
use Rattle.dm_onekernel.specs.Step as kernel
use Rattle.dm_onekernel.specs.Switchboard as board
use Rattle.dm_law_rule.proofs.Telling.{tells_right_always}
use Rattle.dm_law_always.proofs.RunLabels.{labels-append, replay-append, group_replay}
use Rattle.dm_law_always.proofs.Fits.Rises.{both}
use Rattle.dm_law_sides.specs.Sides.{Sides, IsOn, LinkKeeps, MaybeKeeping, MessageKeeps, is_there, next_sides, side_of, sides_after}
use Rattle.dm_law_sides.specs.Printed.{CreatesKeep, LinesKeep, PutsKeep, ReceivesKeep, SidedLines, TakesKeep}
use Rattle.dm_law_sides.proofs.Changes.{created_of, took_told}
use Rattle.dm_law_sides.proofs.Calls.{not_manager, on_of}
use Rattle.dm_law_sides.proofs.Runs.{Carried, carried_run, carried_start}

leads_of : (b : Boot) (es : List Step) (ls : List Line) (pt end : Point) → LeadsBy b pt es ls end → Leads b pt es end
leads_of b [] ls pt end h = h.1
leads_of b (e ∷ es) ls pt end (w, rest, fits, is, same, more) = (w, fits, is, leads_of b es rest w.point end more)

lines_replay : (b : Boot) (es : List Step) (ls : List Line) (pt end : Point) → LeadsBy b pt es ls end → replay pt.kernel (labels ls) ≡ Some end.kernel
lines_replay b [] ls pt end h = ap (λ (xs : List Line). replay pt.kernel (labels xs)) h.0 ∙ ap (λ (v : Point). Some v.kernel) h.1
lines_replay b (e ∷ es) ls pt end (w, rest, fits, is, same, more) =
    ap (λ (xs : List Line). replay pt.kernel (labels xs)) same ∙ ap (replay pt.kernel) (labels-append w.lines rest)
    ∙ replay-append (labels w.lines) (labels rest) pt.kernel w.point.kernel end.kernel (group_replay b pt e w is) (lines_replay b es rest w.point end more)

carried_lines : (b : Boot) (k : Sides) (ls : List Line) (pt : Point) → SidedLines b k ls pt → Carried pt.kernel (sides_after (start b) (labels ls) k)
carried_lines b k ls pt h = carried_run (labels ls) (start b) pt.kernel k (lines_replay b h.steps ls (first_point b) pt h.leads) (carried_start b k h.valid h.keeps)

pub lines_keep : LinesKeep
lines_keep b k ls pt h = (carried_lines b k ls pt h).keeps

-- one label of a run
record At (s : OneKernel) (before : List Label) (l : Label) : Type 0 where
  here : OneKernel
  next : OneKernel
  reaches : replay s before ≡ Some here
  steps : kernel.step here l ≡ Some next

label_at : (before after : List Label) (l : Label) (s t : OneKernel) → replay s (before ++ l ∷ after) ≡ Some t → At s before l
label_at [] after l s t is =
    let (u, first, rest) = bind-is (kernel.step s l) (λ (v : OneKernel). replay v after) t is in
    record { here = s; next = u; reaches = refl; steps = first }
label_at (x ∷ xs) after l s t is =
    let (u, first, rest) = bind-is (kernel.step s x) (λ (v : OneKernel). replay v (xs ++ l ∷ after)) t is in
    let a = label_at xs after l u t rest in
    record { here = a.here; next = a.next; reaches = ap (λ (o : Option OneKernel). bind o (λ (v : OneKernel). replay v xs)) first ∙ a.reaches; steps = a.steps }

at_of : (b : Boot) (k : Sides) (ls : List Line) (pt : Point) (before after : List Label) (l : Label) → SidedLines b k ls pt → labels ls ≡ before ++ l ∷ after → At (start b) before l
at_of b k ls pt before after l h is = label_at before after l (start b) pt.kernel (sym (ap (replay (start b)) is) ∙ lines_replay b h.steps ls (first_point b) pt h.leads)

-- the sides behind one label more
sides_more : (before : List Label) (l : Label) (s u v : OneKernel) (k : Sides) → replay s before ≡ Some u → kernel.step u l ≡ Some v → sides_after s (before ++ l ∷ []) k ≡ next_sides u l (sides_after s before k)
sides_more [] l s u v k is steps =
    let same : s ≡ u = cc in
    let first : kernel.step s l ≡ Some v = ap (λ (w : OneKernel). kernel.step w l) same ∙ steps in
    ap (λ (o : Option OneKernel). option_map_or (λ (t : OneKernel). next_sides s l k) o k) first ∙ ap (λ (w : OneKernel). next_sides w l k) same
sides_more (x ∷ xs) l s u v k is steps =
    let (t, first, rest) = bind-is (kernel.step s x) (λ (w : OneKernel). replay w xs) u is in
    ap (λ (o : Option OneKernel). option_map_or (λ (w : OneKernel). sides_after w (xs ++ l ∷ []) (next_sides s x k)) o k) first
    ∙ sides_more xs l t u v (next_sides s x k) rest steps
    ∙ sym (ap (λ (o : Option OneKernel). next_sides u l (option_map_or (λ (w : OneKernel). sides_after w xs (next_sides s x k)) o k)) first)

pub creates_keep : CreatesKeep
creates_keep b k ls pt before after p id s x h is reaches alive =
    let a = at_of b k ls pt before after (Label.Created id p) h is in
    let j = sides_after (start b) (before ++ Label.Created id p ∷ []) k in
    let side : j.of p ≡ side_of (sides_after (start b) before k) id =
    ap (λ (v : Sides). v.of p) (sides_more before (Label.Created id p) (start b) a.here a.next k a.reaches a.steps) ∙ created_of a.here (sides_after (start b) before k) id p in
    subst (λ i. Each (MaybeKeeping s j i) x.links) side ((carried_run (before ++ Label.Created id p ∷ []) (start b) s k reaches (carried_start b k h.valid h.keeps)).keeps.links p x alive)

-- who receives
not_same : (p q : Pid) → p ≢ q → pid_eq p q ≡ false
not_same p q apart = elim (cases_Bool (pid_eq p q)) [ inl same ↦ absurd (apart (pid_eq-is p q same)) | inr off ↦ off ]

side_of_other : (k : Sides) (id : MsgId) → id.from ≢ manager → side_of k id ≡ k.of id.from
side_of_other k id apart = ap (λ (c : Bool). if c then k.told id.n else k.of id.from) (not_same id.from manager apart)

what_on : (s : OneKernel) (k : Sides) (i : ℕ) (p : Pid) (x : PlainProcess) (m : PlainMessage) (mask base size : ℕ) (w : PlainWhat) (d : receiving.Completed) → pid_eq p manager ≡ false → MessageKeeps s k i m w → receiving.completes_what p x m mask base size w ≡ Some d → IsOn s k i p
what_on s k i p x m mask base size (PlainWhat.User code channel body links) d off h e =
    let is = cond_some (pid_eq m.to p && on_mask mask channel) (receiving.completes x base size code channel body links) d e in
    let to : m.to ≡ p = pid_eq-is m.to p (both (pid_eq m.to p) (on_mask mask channel) is.0).0 in
    on_of s k i p code off (subst (λ (q : Pid). LinkKeeps s k i q code) to h.1)
what_on s k i p x m mask base size _ d off h e = none_some d e

status_on : (s : OneKernel) (k : Sides) (i : ℕ) (p : Pid) (x : PlainProcess) (m : PlainMessage) (st : PlainStatus) (d : receiving.Completed) → pid_eq p manager ≡ false → MessageKeeps s k i m m.what → receiving.completes_status p x m st ≡ Some d → IsOn s k i p
status_on s k i p x m (Waiting mask base size) d off h e = what_on s k i p x m mask base size m.what d off h e
status_on s k i p x m _ d off h e = none_some d e

with_on : (s : OneKernel) (k : Sides) (i : ℕ) (p : Pid) (x : PlainProcess) (m : PlainMessage) (b : Bool) (d : receiving.Completed) → pid_eq p manager ≡ false → MessageKeeps s k i m m.what → (if b then None else receiving.completes_status p x m x.status) ≡ Some d → IsOn s k i p
with_on s k i p x m true d off h e = none_some d e
with_on s k i p x m false d off h e = status_on s k i p x m x.status d off h e

receiver_on : (s t : OneKernel) (k : Sides) (p : Pid) (id : MsgId) → kernel.step s (Label.Receive p id) ≡ Some t → Carried s k → side_of k id ≡ k.of p
receiver_on s t k p id is c =
    let (d, e, last) = bind-is (kernel.completing s p id) (kernel.receives s p id) t is in
    let (x, hand, rest) = bind-is (kernel.at_hand s p) (λ (v : PlainProcess). bind (s.bag id) (receiving.completes_with p v)) d e in
    let (m, there, done) = bind-is (s.bag id) (receiving.completes_with p x) d rest in
    let (free, alive) = at_hand-is s p x hand in
    let on = with_on s k (side_of k m.id) p x m x.stopped d (not_manager s p (ap is_some alive) c.sound.made) (c.keeps.messages id m there) done in
    sym (ap (side_of k) (c.sound.entered.named id m there)) ∙ sym on.0

pub receives_keep : ReceivesKeep
receives_keep b k ls pt before after p id h is apart =
    let a = at_of b k ls pt before after (Label.Receive p id) h is in
    let j = sides_after (start b) before k in
    sym (side_of_other j id apart) ∙ receiver_on a.here a.next j p id a.steps (carried_run before (start b) a.here k a.reaches (carried_start b k h.valid h.keeps))

-- whom a message is for
there_off : (s : OneKernel) (p : Pid) → is_there s p ≡ true → Made s → pid_eq p manager ≡ false
there_off s p there made = elim (cases_Bool (pid_eq p switchboard)) [
  | inl same ↦ let is : p ≡ switchboard = pid_eq-is p switchboard same in ap (λ (q : Pid). pid_eq q manager) is
  | inr apart ↦ not_manager s p (sym (ap (λ (c : Bool). c || is_some (s.processes p)) apart) ∙ there) made
]

there_number : (s : OneKernel) (p : Pid) → is_there s p ≡ true → Made s → p.num ≡ 0 → ⊥
there_number s p there made zero_ = elim (cases_Bool (pid_eq p switchboard)) [
  | inl same ↦ let is : p ≡ switchboard = pid_eq-is p switchboard same in let n : p.num ≡ 1 = ap (λ (q : Pid). q.num) is in omega (arith, n, zero_)
  | inr apart ↦ let least = made.least p (sym (ap (λ (c : Bool). c || is_some (s.processes p)) apart) ∙ there) in absurd (grind (arith, nat_tests))
]

manager_off : (p : Pid) → p ≡ manager → pid_eq p manager ≡ false → ⊥
manager_off p is off = let f : pid_eq p manager ≡ true = ap (λ (q : Pid). pid_eq q manager) is in let g : true ≡ false = sym f ∙ off in cc

for_on : (s : OneKernel) (k : Sides) (i : ℕ) (id : MsgId) (m : PlainMessage) (w : PlainWhat) → is_there s m.to ≡ true → Made s → WhatFits s id m w → MessageKeeps s k i m w → k.of m.to ≡ i
for_on s k i id m (PlainWhat.User code channel body links) there made f h = (on_of s k i m.to code (there_off s m.to there made) h.1).0
for_on s k i id m PlainWhat.Stop there made f h = h.1.0
for_on s k i id m PlainWhat.Resume there made f h = h.1.0
for_on s k i id m PlainWhat.Kill there made f h = h.1.0
for_on s k i id m (PlainWhat.Move machine) there made f h = h.1.0
for_on s k i id m (PlainWhat.Read base len) there made f h = h.1.0
for_on s k i id m (PlainWhat.Write base bytes) there made f h = h.1.0
for_on s k i id m (PlainWhat.Block bytes) there made f h = h.1.0
for_on s k i id m PlainWhat.Written there made f h = h.1.0
for_on s k i id m PlainWhat.Gone there made f h = h.1.0
for_on s k i id m (PlainWhat.Create image links) there made f h = absurd (there_number s m.to there made f.0)
for_on s k i id m (PlainWhat.Created child) there made f h = absurd (manager_off m.to h.0.0 (there_off s m.to there made))
for_on s k i id m PlainWhat.NoRoom there made f h = absurd (manager_off m.to h.0 (there_off s m.to there made))
for_on s k i id m (PlainWhat.Moved outcome) there made f h = absurd (manager_off m.to h.0 (there_off s m.to there made))

bag_of : (s : OneKernel) (id : MsgId) (o : Option PlainMessage) → s.bag id ≡ o → is_some o ≡ true → (m : PlainMessage) × (s.bag id ≡ Some m)
bag_of s id None e h = absurd (let f : false ≡ true = h in cc)
bag_of s id (Some m) e h = (m, e)

pub puts_keep : PutsKeep
puts_keep b k ls pt id t h some told there =
    let c = carried_lines b k ls pt h in
    let j = sides_after (start b) (labels ls) k in
    let (m, is) = bag_of pt.kernel id (pt.kernel.bag id) refl some in
    let right = tells_right_always b h.steps pt h.valid (leads_of b h.steps ls (first_point b) pt h.leads) in
    let to : t.receiver ≡ m.to = right.receiver id m t is told in
    let on = for_on pt.kernel j (side_of j m.id) id m m.what (subst (λ (p : Pid). is_there pt.kernel p ≡ true) to there) c.sound.made (c.fits.messages id m is) (c.keeps.messages id m is) in
    ap j.of to ∙ on ∙ ap (side_of j) (c.sound.entered.named id m is)

-- what the manager sends as it takes a message has the manager's next number
new_is : (s u : OneKernel) (id i : MsgId) (x : PlainMessage) (who : Pid) (n after : ℕ) (o : Option PlainMessage) → ((v : MsgId) → u.bag v ≡ (without_message s id).bag v) → ServerSends who n o after → s.bag i ≡ None → (with_sent u o).bag i ≡ Some x → i ≡ id_of who n
new_is s u id i x who n after None same sends none is = absurd (let e : Some x ≡ None = sym (stayed s id i x (sym (same i) ∙ is)) ∙ none in cc)
new_is s u id i x who n after (Some m) same sends none is = elim (came u m x i is) [
  | inl e ↦ sym e.1 ∙ sends.0
  | inr was ↦ absurd (let e : Some x ≡ None = sym (stayed s id i x (sym (same i) ∙ was)) ∙ none in cc)
]

-- who sent it is the server that took
sent_by : (s t : OneKernel) (id i : MsgId) (x m : PlainMessage) (c d : Bool)
    → (if c then bind (board.board_takes s.switchboard m m.what) (λ v. Some (service.switchboard_took s id v))
    else if d then bind (manage.manager_takes s.manager s.machines (length s.images) m m.what) (λ v. Some (service.manager_took s id v))
    else None) ≡ Some t → s.bag i ≡ None → t.bag i ≡ Some x → (i ≡ id_of switchboard s.switchboard.sent) ⊎ (i ≡ id_of manager s.manager.sent)
sent_by s t id i x m true d e none is =
    let (v, took, last) = bind-is (board.board_takes s.switchboard m m.what) (λ v. Some (service.switchboard_took s id v)) t e in
    let same : service.switchboard_took s id v ≡ t = cc in
    inl (new_is s (record (without_message s id) { switchboard = v.switchboard }) id i x switchboard s.switchboard.sent v.switchboard.sent v.answer (λ w. refl) (board_takes_lem s.switchboard m m.what v took).2 none (ap (λ (w : OneKernel). w.bag i) same ∙ is))
sent_by s t id i x m false true e none is =
    let (v, took, last) = bind-is (manage.manager_takes s.manager s.machines (length s.images) m m.what) (λ v. Some (service.manager_took s id v)) t e in
    let same : service.manager_took s id v ≡ t = cc in
    inr (new_is s (record (without_message s id) { manager = v.manager }) id i x manager s.manager.sent v.manager.sent v.message (λ w. refl) (manager_takes_lem s.manager s.machines (length s.images) m m.what v took).2.sends none (ap (λ (w : OneKernel). w.bag i) same ∙ is))
sent_by s t id i x m false false e none is = none_some t e

took_number : (s t : OneKernel) (id i : MsgId) (x : PlainMessage) → kernel.step s (Label.Took id) ≡ Some t → s.bag i ≡ None → t.bag i ≡ Some x → i.from ≡ manager → i.n ≡ s.manager.sent
took_number s t id i x e none is from =
    let (m, there, rest) = bind-is (s.bag id) (service.takes s id) t e in
    elim (sent_by s t id i x m (pid_eq m.to switchboard) (pid_eq m.to manager) rest none is) [
      | inl board_ ↦ absurd (let f : switchboard.num ≡ manager.num = sym (ap (λ (v : MsgId). v.from.num) board_) ∙ ap (λ (p : Pid). p.num) from in omega (arith, f))
      | inr manager_ ↦ ap (λ (v : MsgId). v.n) manager_
    ]

-- one group more
leads_more : (b : Boot) (es : List Step) (e : Step) (ls : List Line) (pt end : Point) (w : Spelled) → LeadsBy b pt es ls end → IsStep end.kernel.machines e → group_of b end e ≡ Some w → LeadsBy b pt (es ++ e ∷ []) (ls ++ w.lines) w.point
leads_more b [] e ls pt end w h fits is =
    let here : pt ≡ end = h.1 in (
      w,
      [],
      subst (λ (v : Point). IsStep v.kernel.machines e) (sym here) fits,
      ap (λ (v : Point). group_of b v e) here ∙ is,
      ap (λ (xs : List Line). xs ++ w.lines) h.0 ∙ sym (append_none w.lines),
      (refl, refl),
    )
  where
    append_none : (xs : List Line) → xs ++ [] ≡ xs
    append_none [] = refl
    append_none (x ∷ xs) = ap (λ ys. x ∷ ys) (append_none xs)
leads_more b (d ∷ es) e ls pt end w (v, rest, fit, is, same, more) fits last =
    (v, rest ++ w.lines, fit, is, ap (λ (xs : List Line). xs ++ w.lines) same ∙ append_assoc v.lines rest w.lines, leads_more b es e rest v.point end w more fits last)

one_step : (s t : OneKernel) (l : Label) (ls : List Label) → ls ≡ l ∷ [] → replay s ls ≡ Some t → kernel.step s l ≡ Some t
one_step s t l ls is e =
    let (u, first, last) = bind-is (kernel.step s l) (λ (v : OneKernel). replay v []) t (sym (ap (replay s) is) ∙ e) in
    let same : u ≡ t = cc in
    first ∙ ap Some same

pub takes_keep : TakesKeep
takes_keep b k ls pt e w id sent t h fits is took none some from told there =
    let s = pt.kernel in
    let j = sides_after (start b) (labels ls) k in
    let sided : SidedLines b k (ls ++ w.lines) w.point = record { valid = h.valid; keeps = h.keeps; steps = h.steps ++ e ∷ []; leads = leads_more b h.steps e ls (first_point b) pt w h.leads fits is } in
    let step_ = one_step s w.point.kernel (Label.Took id) (labels w.lines) took (group_replay b pt e w is) in
    let sides : sides_after (start b) (labels (ls ++ w.lines)) k ≡ next_sides s (Label.Took id) j =
    ap (λ (xs : List Label). sides_after (start b) xs k) (labels-append ls w.lines ∙ ap (λ (xs : List Label). labels ls ++ xs) took)
    ∙ sides_more (labels ls) (Label.Took id) (start b) s w.point.kernel k (lines_replay b h.steps ls (first_point b) pt h.leads) step_ in
    let (x, bag) = bag_of w.point.kernel sent (w.point.kernel.bag sent) refl some in
    let number = took_number s w.point.kernel id sent x step_ none bag from in
    let same : pid_eq sent.from manager ≡ true = ap (λ (p : Pid). pid_eq p manager) from in
    let side : side_of (next_sides s (Label.Took id) j) sent ≡ side_of j id =
    ap (λ (c : Bool). if c then (next_sides s (Label.Took id) j).told sent.n else j.of sent.from) same ∙ ap (next_sides s (Label.Took id) j).told number ∙ took_told s j id in
    sym (ap (λ (v : Sides). v.of t.receiver) sides) ∙ puts_keep b k (ls ++ w.lines) w.point sent t sided some told there ∙ ap (λ (v : Sides). side_of v sent) sides ∙ side
