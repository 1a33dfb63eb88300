-- A turn of a settle, where no process moves and only user messages for processes and updates are on their way, leaves less to put.
use Rattle.dm_law_moves.proofs.Names.{◌≡◌, ℕ, suc, ◌+◌, ◌-◌, ◌*◌, ◌<◌, ◌≤◌, ◌==◌, Bool, true, false, List, [], ◌∷◌, refl, ap, ◌∙◌, sym, subst, inl, inr, arith, suc-mul, mul-one, if◌then◌else◌, Option, None, Some, cases_Bool, Pid, pid_of}
use Rattle.dm_law_moves.proofs.Names.{MsgId, MessageKind, id_eq, id_of, PlainMessage, Boot, IsValid, id_eq-is, id_eq-same, bind-is, Step, Line, at_machine, Receiver, is_told_back, to_of, Leads, Part, Says, Again, Owns, Spelled, puts}
use Rattle.dm_law_moves.proofs.Names.{spelled, Point, first_point, moved, has_mail, group_of, Inbox, Spot, StandsOutside, StandsRight, standing, times, leads, Told, View, first_told, is_kernels, own_id, view_after, group_is}
use Rattle.dm_law_moves.proofs.Names.{stands_once_always, hushed, Pairs-always, pair_home, onward, pair_same, says_view, seen, OneKernel, tells_right_always, found_always, run_always, count, ByHolder, ByOwn, IsNamed}
use Rattle.dm_law_moves.proofs.Trail.Standing.{addresses_lead}
use Rattle.dm_law_moves.proofs.Names.{weight, weight_to, is_light, says_put, not, is_alive}
use Rattle.dm_law_rule.specs.View as view
use Rattle.dm_law_moves.proofs.Settles.FewSteps.Distances.{Knows, distance, nearer, within_steps}
use Rattle.dm_law_moves.proofs.Settles.Effects.{back_in, effect, line_takes_to}
use Rattle.dm_law_moves.proofs.Settles.FewSteps.FrontRows.{FrontLine, Goes, Shape, Stops, forwarded, turn_shape}
use Rattle.dm_law_moves.proofs.Settles.Grows.{no_back, touches_none}
use Rattle.dm_law_moves.proofs.Settles.Routes.{Home, Puts, all_routes, group_count, no_spike, puts_lead}
use Rattle.dm_law_moves.proofs.Settles.Falls.TurnFalls.{some_mail}
use Rattle.dm_law_moves.proofs.Settles.FewSteps.Ways.{AllLight, Carries, Falls, Gains, LightWay, carries_fall, cost, gained, light_box, told_of, value, worth}
use Rattle.dm_law_moves.proofs.Settles.Weights.{first_times, spike}

-- from the machine where a message stands the forwarding addresses lead to its receiver, or to where that ended
own_by : (c : Bool) (f : Spot → ℕ) (z : Spot) → StandsOutside c f → 1 ≤ f z → c ≡ true
own_by true f z h stands = refl
own_by false f z h stands = let e = h z in absurd (omega (arith, stands, e))

named_by : (b : Boot) (es : List Step) (pt : Point) (i : MsgId) (t : Told) (z : Spot) (o : Option PlainMessage) → pt.kernel.bag i ≡ o → IsValid b → Leads b (first_point b) es pt → pt.view.told i ≡ Some t → 1 ≤ standing pt.view i z
    → IsNamed pt t.receiver (pt.addresses (Receiver i))
named_by b es pt i t z (Some msg) there valid way told stands =
    let to : t.receiver ≡ msg.to = (tells_right_always b es pt valid way).receiver i msg t there told in
    ByHolder (Receiver i) (ap to_of there ∙ ap Some (sym to)) refl
named_by b es pt i t z None there valid way told stands =
    let right : StandsOutside (is_kernels i) (standing pt.view i) = subst (λ (o : Option PlainMessage). StandsRight i o (standing pt.view i)) there (stands_once_always b es pt i valid way) in
    ByOwn i t (own_by (is_kernels i) (standing pt.view i) z right stands) told refl refl

leads_here : (b : Boot) (es : List Step) (pt : Point) (m : ℕ) (i : MsgId) (t : Told) → IsValid b → Leads b (first_point b) es pt → pt.view.told i ≡ Some t → 1 ≤ times i (pt.view.inbox m) → (t.receiver.num == 0) ≡ false
    → leads (not (is_alive pt.kernel t.receiver)) pt.view t.receiver (pt.kernel.machines - 1) (pt.addresses (Receiver i)).moves m ≡ true
leads_here b es pt m i t valid way told stands num =
    let at : (pt.addresses (Receiver i)).at ≡ m = (found_always b es pt valid way).at_ i (Inbox m) stands in
    let named = named_by b es pt i t (Inbox m) (pt.kernel.bag i) refl valid way told stands in
    subst (λ (k : ℕ). leads (not (is_alive pt.kernel t.receiver)) pt.view t.receiver (pt.kernel.machines - 1) (pt.addresses (Receiver i)).moves k ≡ true) at ((addresses_lead b es pt t.receiver (pt.addresses (Receiver i)) valid way named).led num)

-- the first line: the front goes
first_carries : (n : ℕ) (s : OneKernel) (v w : View) (m : ℕ) (l : Line) (i : MsgId) (is : List MsgId) → FrontLine i l → v.inbox m ≡ i ∷ is
    → w ≡ seen s (view.begins v m view.NothingElse) l → Carries n v w m i []
first_carries n s v w m l i is h front at =
    let start = view.begins v m view.NothingElse in
    let none = touches_none l h.touches_ in
    let told : w.told ≡ v.told = ap (λ (x : View). x.told) at ∙ (hushed start l none.1).told in
    record {
      weight_ = λ f x.
          let k = line_takes_to f n start l i is none.0 front refl h.takes x in
          let z : spike m (weight f (back_in start (effect l))) x ≡ 0 = ap (λ (xs : List MsgId). spike m (weight f xs) x) (no_back start (effect l) h.back) ∙ no_spike m x in
          let s : weight_to f n w x ≡ weight_to f n (view_after start l) x = ap (λ (y : View). weight_to f n y x) at in
          omega (arith, k, z, s);
      known = ap (λ (x : View). x.known) at ∙ h.known start;
      kept = λ j t e. ap (λ (f : MsgId → Option Told). f j) told ∙ e;
      light = tt;
    }

-- a route behind it
put_kept : (n : ℕ) (w z : View) (b : ℕ) (id : MsgId) (k : MessageKind) (q : Pid) (j : MsgId) (t : Told) → Puts n w z b id k q → w.told j ≡ Some t → z.told j ≡ Some t
put_kept n w z b id k q j t p e =
    let new : Told = record { kind = k; receiver = q; about = w.topic } in
    let at : z.told j ≡ (if id_eq id j then Some (first_told (w.told id) new) else w.told j) = ap (λ (f : MsgId → Option Told). f j) p.told in
    elim (cases_Bool (id_eq id j)) [
      | inl same ↦
          let there : w.told id ≡ Some t = ap w.told (id_eq-is id j same) ∙ e in
          at ∙ ap (λ (c : Bool). if c then Some (first_told (w.told id) new) else w.told j) same ∙ ap (λ (o : Option Told). Some (first_told o new)) there
      | inr off ↦ at ∙ ap (λ (c : Bool). if c then Some (first_told (w.told id) new) else w.told j) off ∙ e
    ]

put_told : (n : ℕ) (w z : View) (b : ℕ) (id : MsgId) (k : MessageKind) (q : Pid) → Puts n w z b id k q → z.told id ≡ Some (first_told (w.told id) (record { kind = k; receiver = q; about = w.topic }))
put_told n w z b id k q p =
    let new : Told = record { kind = k; receiver = q; about = w.topic } in
    ap (λ (f : MsgId → Option Told). f id) p.told ∙ ap (λ (c : Bool). if c then Some (first_told (w.told id) new) else w.told id) (id_eq-same id)

put_untold : (n : ℕ) (w z : View) (b : ℕ) (id : MsgId) (k : MessageKind) (q : Pid) (j : MsgId) (t : Told) → Puts n w z b id k q → w.told id ≡ Some t → w.told j ≡ None → z.told j ≡ None
put_untold n w z b id k q j t p there none =
    let new : Told = record { kind = k; receiver = q; about = w.topic } in
    let at : z.told j ≡ (if id_eq id j then Some (first_told (w.told id) new) else w.told j) = ap (λ (f : MsgId → Option Told). f j) p.told in
    elim (cases_Bool (id_eq id j)) [
      | inl same ↦ absurd (let f : Some t ≡ None = sym there ∙ ap w.told (id_eq-is id j same) ∙ none in cc)
      | inr off ↦ at ∙ ap (λ (c : Bool). if c then Some (first_told (w.told id) new) else w.told j) off ∙ none
    ]

lights_kept : (w z : View) (gains : Gains) → ((j : MsgId) (t : Told) → w.told j ≡ Some t → z.told j ≡ Some t) → AllLight w gains → AllLight z gains
lights_kept w z [] kept h = tt
lights_kept w z (x ∷ xs) kept h =
    let (t, is) = told_of (w.told x.1) h.0 in
    let light : is_light (z.told x.1) ≡ true = ap is_light (kept x.1 t is ∙ sym is) ∙ h.0 in
    (light, lights_kept w z xs kept h.1)

carries_put : (n : ℕ) (v w z : View) (m : ℕ) (i : MsgId) (gains : Gains) (b : ℕ) (id : MsgId) (k : MessageKind) (q : Pid) → Carries n v w m i gains → Puts n w z b id k q → is_light (z.told id) ≡ true → Carries n v z m i ((b, id) ∷ gains)
carries_put n v w z m i gains b id k q c p light = record {
  weight_ = λ f x. let a = c.weight_ f x in let d = p.weight_ f x in omega (arith, a, d);
  known = p.known ∙ c.known;
  kept = λ j t e. put_kept n w z b id k q j t p (c.kept j t e);
  light = (light, lights_kept w z gains (λ j t e. put_kept n w z b id k q j t p e) c.light);
}

-- what the message that goes on is worth, one step nearer, and the update with it
worth_is : (v w : View) (n m : ℕ) (i : MsgId) (t : Told) → w.known ≡ v.known → w.told i ≡ Some t → value w n m i ≡ distance v.known t.receiver (n - 1) m * cost n t.kind
worth_is v w n m i t known told = ap (worth w.known n m) told ∙ ap (λ (k : Knows). distance k t.receiver (n - 1) m * cost n t.kind) known

goes_alone : (v w : View) (n m at : ℕ) (i : MsgId) (t : Told) → w.known ≡ v.known → w.told i ≡ Some t → is_told_back t.kind ≡ false → distance v.known t.receiver (n - 1) m ≡ suc (distance v.known t.receiver (n - 1) at)
    → gained (value w n) ((at, i) ∷ []) + 1 ≤ value w n m i
goes_alone v w n m at i t known told back near =
    let d = distance v.known t.receiver (n - 1) at in
    let here : value w n m i ≡ suc d * cost n t.kind = worth_is v w n m i t known told ∙ ap (λ (k : ℕ). k * cost n t.kind) near in
    let there : value w n at i ≡ d * cost n t.kind = worth_is v w n at i t known told in
    let more : suc d * cost n t.kind ≡ d * cost n t.kind + cost n t.kind = suc-mul d (cost n t.kind) in
    let one : cost n t.kind ≡ 1 = ap (λ (c : Bool). if c then n + 1 else 1) back in
    omega (arith, here, there, more, one)

goes_telling : (v w : View) (n m at to : ℕ) (i u : MsgId) (t new : Told) → m < n → w.known ≡ v.known → w.told i ≡ Some t → is_told_back t.kind ≡ true → distance v.known t.receiver (n - 1) m ≡ suc (distance v.known t.receiver (n - 1) at)
    → w.told u ≡ Some new → new.kind ≡ MessageKind.Update → gained (value w n) ((to, u) ∷ (at, i) ∷ []) + 2 ≤ value w n m i
goes_telling v w n m at to i u t new small known told back near put update =
    let d = distance v.known t.receiver (n - 1) at in
    let here : value w n m i ≡ suc d * cost n t.kind = worth_is v w n m i t known told ∙ ap (λ (k : ℕ). k * cost n t.kind) near in
    let there : value w n at i ≡ d * cost n t.kind = worth_is v w n at i t known told in
    let more : suc d * cost n t.kind ≡ d * cost n t.kind + cost n t.kind = suc-mul d (cost n t.kind) in
    let many : cost n t.kind ≡ n + 1 = ap (λ (c : Bool). if c then n + 1 else 1) back in
    let steps = distance v.known new.receiver (n - 1) to in
    let other : value w n to u ≡ steps * 1 = worth_is v w n to u new known put ∙ ap (λ (k : MessageKind). steps * cost n k) update in
    let once : steps * 1 ≡ steps = mul-one steps in
    let few : steps ≤ n - 1 = within_steps v.known new.receiver (n - 1) to in
    omega (arith, here, there, more, many, other, once, few, small)

-- the groups
stops_falls : (b : Boot) (pt : Point) (m : ℕ) (i : MsgId) (is : List MsgId) (l : Line) (ps : List Part) (rest : Spelled) (n : ℕ) → LightWay n pt.view → m < n → pt.view.inbox m ≡ i ∷ is → FrontLine i l → ps ≡ Says l ∷ []
    → spelled (moved pt (Line.Head (Step.Turn m)) pt.kernel) ps ≡ Some rest → Falls n pt.view rest.point.view (all_routes ps)
stops_falls b pt m i is l ps rest n h small front f are said =
    let start = moved pt (Line.Head (Step.Turn m)) pt.kernel in
    let o = onward start (Says l) [] rest (ap (spelled start) (sym are) ∙ said) in
    let end : record { lines = []; point = o.next } ≡ o.rest = let e = o.on in cc in
    let at : rest.point.view ≡ seen start.kernel start.view l = ap (λ (q : Point). q.view) (sym o.end) ∙ ap (λ (x : Spelled). x.point.view) (sym end) ∙ says_view start l [] rest o in
    let c = first_carries n start.kernel pt.view rest.point.view m l i is f front at in
    let routes : all_routes ps ≡ (if says_put l then 1 else 0) + 0 + 0 = ap all_routes are in
    let zero_ : ◌≡◌ {A = ℕ} (if says_put l then 1 else 0) 0 = ap (λ (c : Bool). if c then 1 else 0) f.put in
    carries_fall n pt.view rest.point.view m i [] (all_routes ps) h c small (omega (arith, routes, zero_))

goes_falls : (b : Boot) (es : List Step) (pt : Point) (m : ℕ) (i : MsgId) (is : List MsgId) (t : Told) (ps : List Part) (rest : Spelled) (at moves : ℕ) (sender : Pid) (to : ℕ) (back : Bool) → IsValid b → Leads b (first_point b) es pt
    → LightWay pt.kernel.machines pt.view → m < pt.kernel.machines → pt.view.inbox m ≡ i ∷ is → pt.view.told i ≡ Some t → is_light (Some t) ≡ true → (t.receiver.num == 0) ≡ false → pt.view.known m t.receiver ≡ view.Forward at moves
    → is_told_back t.kind ≡ back → ps ≡ Says (Line.Forwarded i at) ∷ Again i at ∷ (if back then Owns MessageKind.Update sender to ∷ [] else [])
    → spelled (moved pt (Line.Head (Step.Turn m)) pt.kernel) ps ≡ Some rest → Falls pt.kernel.machines pt.view rest.point.view (all_routes ps)
goes_falls b es pt m i is t ps rest at moves sender to back valid way h small front told light num known told_back are said =
    let n = pt.kernel.machines in
    let v = pt.view in
    let start = moved pt (Line.Head (Step.Turn m)) pt.kernel in
    let tail = Again i at ∷ (if back then Owns MessageKind.Update sender to ∷ [] else []) in
    let f = forwarded i at in
    let o = onward start (Says (Line.Forwarded i at)) tail rest (ap (spelled start) (sym are) ∙ said) in
    let first_view : o.next.view ≡ seen start.kernel start.view (Line.Forwarded i at) = says_view start (Line.Forwarded i at) tail rest o in
    let first = first_carries n start.kernel v o.next.view m (Line.Forwarded i at) i is f front first_view in
    let home : Home o.next.view.pair = subst Home (sym (ap (λ (x : View). x.pair) first_view ∙ pair_same start.view (Line.Forwarded i at) refl)) (λ a. (pair_home v a (Pairs-always b es pt way)).taken) in
    let told_one : o.next.view.told i ≡ Some t = first.kept i t told in
    let again = onward o.next (Again i at) (if back then Owns MessageKind.Update sender to ∷ [] else []) o.rest o.on in
    let (u, there, lines) = bind-is (o.next.view.told i) (λ u. Some (puts o.next.view at i u.kind u.receiver)) again.lines again.lines_are in
    let put = puts_lead n o.next again.next at i u.kind u.receiver again.lines home lines again.leads in
    let told_two : again.next.view.told i ≡ Some t = put_kept n o.next.view again.next.view at i u.kind u.receiver i t put told_one in
    let second = carries_put n v o.next.view again.next.view m i [] at i u.kind u.receiver first put (ap is_light told_two ∙ light) in
    let stands : 1 ≤ times i (v.inbox m) = subst (λ (xs : List MsgId). 1 ≤ times i xs) (sym front) (first_times i is) in
    let near = nearer (not (is_alive pt.kernel t.receiver)) v t.receiver (n - 1) (pt.addresses (Receiver i)).moves m at moves (leads_here b es pt m i t valid way told stands num) known in
    let counted : again.next.view.count ≡ v.count =
    put.count ∙ ap (λ (x : Option Told). if view.is_own i x then at_machine o.next.view.count i.from.home (o.next.view.count i.from.home + 1) else o.next.view.count) told_one ∙ ap (λ (x : View). x.count) first_view ∙ (hushed start.view (Line.Forwarded i at) refl).count in
    let acts : again.next.view.acting ≡ m = put.acting ∙ ap (λ (x : View). x.acting) first_view ∙ f.acting start.view in
    let end : o.rest.point ≡ rest.point = o.end in
    let end_two : again.rest.point ≡ o.rest.point = again.end in
    let fresh : v.told (id_of (pid_of m 0) (v.count m)) ≡ None = (run_always b es pt valid way).run.based.phased.sane.numbered m (v.count m) (omega arith) in
    let own : own_id again.next.view ≡ id_of (pid_of m 0) (v.count m) =
    ap (λ (a : ℕ). id_of (pid_of a 0) (again.next.view.count a)) acts ∙ ap (λ (c : ℕ → ℕ). id_of (pid_of m 0) (c m)) counted in
    let told_first : (j : MsgId) → v.told j ≡ None → o.next.view.told j ≡ None = λ j e. ap (λ (x : View). x.told j) first_view ∙ ap (λ (g : MsgId → Option Told). g j) (hushed start.view (Line.Forwarded i at) refl).told ∙ e in
    let untold : again.next.view.told (own_id again.next.view) ≡ None =
    ap again.next.view.told own ∙ put_untold n o.next.view again.next.view at i u.kind u.receiver (id_of (pid_of m 0) (v.count m)) t put told_one (told_first (id_of (pid_of m 0) (v.count m)) fresh) in
    subst (λ (q : Point). Falls n v q.view (all_routes ps)) (end_two ∙ end)
    (ends n v again.next again.rest m at to i t sender back h small second told_two told_back near put.home untold again.on ps are)
  where
    ends : (n : ℕ) (v : View) (next : Point) (last : Spelled) (m at to : ℕ) (i : MsgId) (t : Told) (sender : Pid) (back : Bool) → LightWay n v → m < n → Carries n v next.view m i ((at, i) ∷ []) → next.view.told i ≡ Some t → is_told_back t.kind ≡ back
        → distance v.known t.receiver (n - 1) m ≡ suc (distance v.known t.receiver (n - 1) at) → Home next.view.pair → next.view.told (own_id next.view) ≡ None
        → spelled next (if back then Owns MessageKind.Update sender to ∷ [] else []) ≡ Some last → (ps : List Part) → ps ≡ Says (Line.Forwarded i at) ∷ Again i at ∷ (if back then Owns MessageKind.Update sender to ∷ [] else []) → Falls n v last.point.view (all_routes ps)
    ends n v next last m at to i t sender false h small c told back near home untold on ps are =
        let end : record { lines = []; point = next } ≡ last = cc in
        let routes : all_routes ps ≡ 1 = ap all_routes are in
        let most = goes_alone v next.view n m at i t c.known told back near in
        subst (λ (x : Spelled). Falls n v x.point.view (all_routes ps)) end
        (carries_fall n v next.view m i ((at, i) ∷ []) (all_routes ps) h c small (omega (arith, routes, most)))
    ends n v next last m at to i t sender true h small c told back near home untold on ps are =
        let o = onward next (Owns MessageKind.Update sender to) [] last on in
        let new : Told = record { kind = MessageKind.Update; receiver = sender; about = next.view.topic } in
        let put = puts_lead n next o.next to (own_id next.view) MessageKind.Update sender o.lines home o.lines_are o.leads in
        let tells : o.next.view.told (own_id next.view) ≡ Some new = put_told n next.view o.next.view to (own_id next.view) MessageKind.Update sender put ∙ ap (λ (x : Option Told). Some (first_told x new)) untold in
        let all = carries_put n v next.view o.next.view m i ((at, i) ∷ []) to (own_id next.view) MessageKind.Update sender c put (ap is_light tells) in
        let kept = put_kept n next.view o.next.view to (own_id next.view) MessageKind.Update sender i t put told in
        let end : record { lines = []; point = o.next } ≡ o.rest = let e = o.on in cc in
        let routes : all_routes ps ≡ 2 = ap all_routes are in
        let most = goes_telling v o.next.view n m at to i (own_id next.view) t new small all.known kept back near tells refl in
        subst (λ (q : Point). Falls n v q.view (all_routes ps)) (ap (λ (x : Spelled). x.point) end ∙ o.end)
        (carries_fall n v o.next.view m i ((to, own_id next.view) ∷ (at, i) ∷ []) (all_routes ps) h all small (omega (arith, routes, most)))

shape_falls : (b : Boot) (es : List Step) (pt : Point) (m : ℕ) (i : MsgId) (is : List MsgId) (t : Told) (ps : List Part) (rest : Spelled) → IsValid b → Leads b (first_point b) es pt → LightWay pt.kernel.machines pt.view → m < pt.kernel.machines
    → pt.view.inbox m ≡ i ∷ is → pt.view.told i ≡ Some t → is_light (Some t) ≡ true → Shape pt.view m i t ps → spelled (moved pt (Line.Head (Step.Turn m)) pt.kernel) ps ≡ Some rest → Falls pt.kernel.machines pt.view rest.point.view (all_routes ps)
shape_falls b es pt m i is t ps rest valid way h small front told light (Stops l f are) said = stops_falls b pt m i is l ps rest pt.kernel.machines h small front f are said
shape_falls b es pt m i is t ps rest valid way h small front told light (Goes at moves sender to num known are) said =
    goes_falls b es pt m i is t ps rest at moves sender to (is_told_back t.kind) valid way h small front told light num known refl are said

pub turn_puts : (b : Boot) (es : List Step) (pt : Point) (m : ℕ) (w : Spelled) → IsValid b → Leads b (first_point b) es pt → LightWay pt.kernel.machines pt.view → m < pt.kernel.machines → has_mail pt.view m ≡ true → group_of b pt (Step.Turn m) ≡ Some w
    → Falls pt.kernel.machines pt.view w.point.view (count says_put w.lines)
turn_puts b es pt m w valid way h small mail e =
    let (i, is, front) = some_mail (pt.view.inbox m) mail in
    let stands : 1 ≤ times i (pt.view.inbox m) = subst (λ (xs : List MsgId). 1 ≤ times i xs) (sym front) (first_times i is) in
    let light = light_box pt.kernel.machines pt.view m i h small stands in
    let (t, told) = told_of (pt.view.told i) light in
    let light_t : is_light (Some t) ≡ true = ap is_light (sym told) ∙ light in
    let g = group_is b pt (Step.Turn m) w e in
    let shape = turn_shape b pt m i is t g.parts front told light_t (tells_right_always b es pt valid way) h.still g.is in
    let falls = shape_falls b es pt m i is t g.parts g.rest valid way h small front told light_t shape g.said in
    subst (λ (k : ℕ). Falls pt.kernel.machines pt.view w.point.view k) (sym (group_count b pt (Step.Turn m) w g.parts e g.is)) (subst (λ (q : Point). Falls pt.kernel.machines pt.view q.view (all_routes g.parts)) g.point falls)
