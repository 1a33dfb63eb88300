-- First puts tell what is so, wherever the rule leads.
use Rattle.dm_law_rule.proofs.Names.{◌≡◌, ℕ, ◌+◌, ◌≤◌, ◌==◌, ◌&&◌, Bool, true, false, List, [], ◌∷◌, length, is_some, refl, ap, ◌∙◌, sym, subst, inl, inr, arith, ⊤, if◌then◌else◌, Option, None, Some, cases_Bool, false≢true, Pid, MsgId}
use Rattle.dm_law_rule.proofs.Names.{MessageKind, id_eq, plain_kind, Load, PlainMessage, PlainWhat, Boot, Label, IsValid, OneKernel, bind, Step, Line, View, Pair, Told, view_after, is_kernels, own_id, Receiver, Point, label_of, kernel_after}
use Rattle.dm_law_rule.proofs.Names.{moved, after_line, after, first_point, Part, Says, Routes, Again, Owns, Transmits, Spelled, lines_of, puts, goes_out, packet_line, behind, spelled, group_of, outcome, Leads, TellsRightAlways, is_between}
use Rattle.dm_law_rule.proofs.Names.{TellsRight, entry, in_bag, reception, id_eq-is, id_eq-same, Sound, bind-is, after_step, start-sound, at_machine, pid_of, id_of, slice_get, migrates, calls_off, none_some}
use Rattle.std.proofs.Common.{is_none}
use Rattle.dm_onekernel.specs.Step as kernel
use Rattle.dm_law_rule.specs.View as view
use Rattle.dm_law_rule.proofs.Letters.{not_kernels}
use Rattle.dm_law_rule.proofs.Hushed.{is_put, hushed}
use Rattle.dm_law_rule.proofs.States.{put_told_off, numbered_as, numbered_put}
use Rattle.dm_law_rule.proofs.Moves.States.{not_first, own_numbered}
use Rattle.dm_law_rule.specs.Rule as rule
use Rattle.dm_law_rule.proofs.Pairs.Lines.{AllFit}
use Rattle.dm_law_rule.proofs.Pairs.Turns.{turns_fit}
use Rattle.dm_law_rule.proofs.Pairs.Migrating.{migrates_fit, calls_off_fit}
use Rattle.dm_law_rule.proofs.Groups.{IsNet, arrives_net, resends_net, group_is}
use Rattle.dm_law_rule.proofs.Bags.{cases_zero}

-- a kernel's own numbers from its count on were never put
abbrev pub Numbered : View → Type 0
Numbered v = (m n : ℕ) → v.count m ≤ n → v.told (id_of (pid_of m 0) n) ≡ None

pub record Sane (pt : Point) : Type 0 where
  pub r : MsgId → ℕ
  pub e : MsgId → ℕ
  pub sound : Sound r e pt.kernel
  pub untold : (i : MsgId) → e i ≡ 0 → is_kernels i ≡ false → pt.view.told i ≡ None
  pub tells : TellsRight pt
  pub numbered : Numbered pt.view

-- a message that is in the bag behind a step was there before, the same, or enters, and nothing was told of it
pub came_from : (a b : Option PlainMessage) (e : ℕ) (x : PlainMessage) → e + (if is_none a && is_some b then 1 else 0) ≤ 1 → b ≡ Some x → ((y : PlainMessage) → a ≡ Some y → y ≡ x) → (e ≡ 0 → a ≡ Some x) → a ≡ Some x
came_from (Some y) b e x once there same none = ap Some (same y refl)
came_from None None e x once there same none = none_some x there
came_from None (Some z) e x once there same none = none (omega (arith, once))

was_there : (pt : Point) (l : Label) (s : OneKernel) (h : Sane pt) → kernel.step pt.kernel l ≡ Some s → (i : MsgId) (x : PlainMessage) (t : Told) → s.bag i ≡ Some x → pt.view.told i ≡ Some t → pt.kernel.bag i ≡ Some x
was_there pt l s h is i x t there told =
    let a = after_step h.r h.e pt.kernel s l is h.sound in
    came_from (pt.kernel.bag i) (s.bag i) (h.e i) x (a.sound.entered.once i) there (λ y was. a.only i y x was there)
    (λ zero_. absurd (let n : None ≡ Some t = sym (h.untold i zero_ (not_kernels (λ j. h.r j + reception j l) (λ j. h.e j + entry j pt.kernel s) s i x there a.sound)) ∙ told in cc))

sane_quiet : (pt : Point) (l : Line) → is_put l ≡ false → Sane pt → Sane (moved pt l pt.kernel)
sane_quiet pt l quiet h =
    let same : (i : MsgId) → (view_after pt.view l).told i ≡ pt.view.told i = λ i. ap (λ (f : MsgId → Option Told). f i) (hushed pt.view l quiet).told in
    record {
      r = h.r;
      e = h.e;
      sound = h.sound;
      untold = λ i zero_ other. same i ∙ h.untold i zero_ other;
      numbered = (let hush = hushed pt.view l quiet in numbered_as pt.view (view_after pt.view l) hush.count hush.told h.numbered);
      tells = record {
        kind = λ i m t there told. h.tells.kind i m t there (sym (same i) ∙ told);
        receiver = λ i m t there told. h.tells.receiver i m t there (sym (same i) ∙ told);
        own = λ i t told b. h.tells.own i t (sym (same i) ∙ told) b;
      };
    }

sane_by : (pt : Point) (l : Line) (o : Option Label) (s : OneKernel) → is_put l ≡ false → kernel_after pt.kernel o ≡ Some s → Sane pt → Sane (moved pt l s)
sane_by pt l None s quiet is h = let f : pt.kernel ≡ s = cc in subst (λ (k : OneKernel). Sane (moved pt l k)) f (sane_quiet pt l quiet h)
sane_by pt l (Some x) s quiet is h =
    let same : (i : MsgId) → (view_after pt.view l).told i ≡ pt.view.told i = λ i. ap (λ (f : MsgId → Option Told). f i) (hushed pt.view l quiet).told in
    record {
      r = λ i. h.r i + reception i x;
      e = λ i. h.e i + entry i pt.kernel s;
      sound = (after_step h.r h.e pt.kernel s x is h.sound).sound;
      untold = λ i zero_ other. same i ∙ h.untold i (omega (arith, zero_)) other;
      numbered = (let hush = hushed pt.view l quiet in numbered_as pt.view (view_after pt.view l) hush.count hush.told h.numbered);
      tells = record {
        kind = λ i m t there told. h.tells.kind i m t (was_there pt x s h is i m t there (sym (same i) ∙ told)) (sym (same i) ∙ told);
        receiver = λ i m t there told. h.tells.receiver i m t (was_there pt x s h is i m t there (sym (same i) ∙ told)) (sym (same i) ∙ told);
        own = λ i t told b. h.tells.own i t (sym (same i) ∙ told) b;
      };
    }

pub sane_line : (pt next : Point) (l : Line) → is_put l ≡ false → after_line pt l ≡ Some next → Sane pt → Sane next
sane_line pt next l quiet is h =
    let (s, comes, last) = bind-is (kernel_after pt.kernel (label_of l)) (λ s. Some (moved pt l s)) next is in
    let f : moved pt l s ≡ next = cc in subst Sane f (sane_by pt l (label_of l) s quiet comes h)

-- a put
pub record PutRight (pt : Point) (e : MsgId → ℕ) (i : MsgId) (k : MessageKind) (q : Pid) : Type 0 where
  pub kind : (x : PlainMessage) → pt.kernel.bag i ≡ Some x → k ≡ plain_kind x.what
  pub receiver : (x : PlainMessage) → pt.kernel.bag i ≡ Some x → q ≡ x.to
  pub own : is_between k ≡ true → is_kernels i ≡ true
  pub entered : is_kernels i ≡ false → 1 ≤ e i
  pub numbered : (a b : ℕ) → Numbered (view.after_put pt.view a b i k q)

some_entered : (r e : MsgId → ℕ) (s : OneKernel) (i : MsgId) (o : Option PlainMessage) → s.bag i ≡ o → is_some o ≡ true → Sound r e s → 1 ≤ e i
some_entered r e s i None is some h = absurd (false≢true some)
some_entered r e s i (Some x) is some h = let f = h.entered.fewer i in let g : in_bag (s.bag i) ≡ 1 = ap in_bag is in omega (arith, f, g)

pub sane_put : (pt : Point) (a b : ℕ) (i : MsgId) (k : MessageKind) (q : Pid) (h : Sane pt) → PutRight pt h.e i k q → Sane (moved pt (Line.Put a b i k q) pt.kernel)
sane_put pt a b i k q h right =
    -- an earlier put told it, or this one
    let put_by : (pt : Point) (i : MsgId) (k : MessageKind) (q : Pid) (o : Option Told) (t : Told) (P : Told → Type 0) → pt.view.told i ≡ o → Some (view.first_told o (record { kind = k; receiver = q; about = pt.view.topic })) ≡ Some t
    → ((u : Told) → pt.view.told i ≡ Some u → P u) → P (record { kind = k; receiver = q; about = pt.view.topic }) → P t =
    λ pt i k q o t P h1 h2 h3 h4. search arith in
    let v = pt.view in
    let w = view.after_put v a b i k q in
    let u : Told = record { kind = k; receiver = q; about = v.topic } in
    let told : (j : MsgId) (t : Told) (P : MsgId → Told → Type 0) → w.told j ≡ Some t → ((s : Told) → v.told j ≡ Some s → P j s) → P i u → P j t =
    λ j t P e was now. elim (cases_Bool (id_eq i j)) [
      | inl same ↦
          let is : i ≡ j = id_eq-is i j same in
          -- what is told of the message itself
          let put_at : (v : View) (a b : ℕ) (i : MsgId) (k : MessageKind) (q : Pid) → (view.after_put v a b i k q).told i ≡ Some (view.first_told (v.told i) (record { kind = k; receiver = q; about = v.topic })) =
          λ v a b i k q. ap (λ (c : Bool). if c then Some (view.first_told (v.told i) (record { kind = k; receiver = q; about = v.topic })) else v.told i) (id_eq-same i) in
          put_by pt j k q (v.told j) t (P j) refl (sym (put_at v a b j k q) ∙ ap (λ (x : MsgId). (view.after_put v a b x k q).told j) (sym is) ∙ e) was (subst (λ (x : MsgId). P x u) is now)
      | inr apart ↦ was t (sym (put_told_off v a b i j k q apart) ∙ e)
    ] in
    record {
      r = h.r;
      e = h.e;
      sound = h.sound;
      untold = λ j zero_ other. (search (arith, id_eq-is, put_told_off));
      numbered = right.numbered a b;
      tells = record {
        kind = λ j x t there e. told j t (λ n s. pt.kernel.bag n ≡ Some x → s.kind ≡ plain_kind x.what) e (λ s was in_. h.tells.kind j x s in_ was) (λ in_. right.kind x in_) there;
        receiver = λ j x t there e. told j t (λ n s. pt.kernel.bag n ≡ Some x → s.receiver ≡ x.to) e (λ s was in_. h.tells.receiver j x s in_ was) (λ in_. right.receiver x in_) there;
        own = λ j t e bt. told j t (λ n s. is_between s.kind ≡ true → is_kernels n ≡ true) e (λ s was c. h.tells.own j s was c) right.own bt;
      };
    }

-- the three kinds of put
pub plain_not : (w : PlainWhat) → is_between (plain_kind w) ≡ false
plain_not (PlainWhat.User x1 x2 x3 x4) = refl
plain_not _ = refl

-- a message that was told of before is not counted, and one that is no kernel's own neither
numbered_some : (v : View) (a b : ℕ) (i : MsgId) (k : MessageKind) (q : Pid) (t : Told) → v.told i ≡ Some t → Numbered v → Numbered (view.after_put v a b i k q)
numbered_some v a b i k q t told h m n le =
    let count : (view.after_put v a b i k q).count ≡ v.count = ap (λ (c : Bool). if c then at_machine v.count i.from.home (v.count i.from.home + 1) else v.count) (not_first i (v.told i) t told) in
    search (arith, id_eq-is, put_told_off)

-- a put with its packet
puts_sane : (pt next : Point) (b : ℕ) (i : MsgId) (k : MessageKind) (q : Pid) (c d : Bool) (h : Sane pt) → PutRight pt h.e i k q
    → after pt (Line.Put pt.view.acting b i k q ∷ (if c then [] else if d then packet_line pt.view pt.view.acting b (Load.Data (length (pt.view.pair pt.view.acting b).ids)) ∷ [] else [])) ≡ Some next → Sane next
puts_sane pt next b i k q true d h right is = search (arith, sane_put)
puts_sane pt next b i k q false false h right is =
    let f : moved pt (Line.Put pt.view.acting b i k q) pt.kernel ≡ next = cc in subst Sane f (sane_put pt pt.view.acting b i k q h right)
puts_sane pt next b i k q false true h right is =
    let l = packet_line pt.view pt.view.acting b (Load.Data (length (pt.view.pair pt.view.acting b).ids)) in
    let mid = moved pt (Line.Put pt.view.acting b i k q) pt.kernel in
    let f : moved mid l mid.kernel ≡ next = cc in subst Sane f (sane_quiet mid l refl (sane_put pt pt.view.acting b i k q h right))

puts_lead : (pt next : Point) (b : ℕ) (i : MsgId) (k : MessageKind) (q : Pid) (ls : List Line) (h : Sane pt) → PutRight pt h.e i k q → Some (puts pt.view b i k q) ≡ Some ls → after pt ls ≡ Some next → Sane next
puts_lead pt next b i k q ls h right is leads =
    puts_sane pt next b i k q (pt.view.acting == b) (goes_out (pt.view.pair pt.view.acting b)) h right (ap (after pt) (let f : puts pt.view b i k q ≡ ls = cc in f) ∙ leads)

-- no part says a put by itself
abbrev pub Sayable : Part → Type 0
Sayable (Says l) = is_put l ≡ false
Sayable _ = ⊤

abbrev pub AllSayable : List Part → Type 0
AllSayable [] = ⊤
AllSayable (p ∷ ps) = Sayable p × AllSayable ps

one_line : (pt next : Point) (l : Line) (ls : List Line) → is_put l ≡ false → Some (l ∷ []) ≡ Some ls → after pt ls ≡ Some next → Sane pt → Sane next
one_line pt next l ls quiet is leads h =
    let (mid, first, last) = bind-is (after_line pt l) (λ q. after q []) next (ap (after pt) (let f : l ∷ [] ≡ ls = cc in f) ∙ leads) in
    let g : mid ≡ next = cc in subst Sane g (sane_line pt mid l quiet first h)

pub part_sane : (pt next : Point) (p : Part) (ls : List Line) → Sayable p → lines_of pt p ≡ Some ls → after pt ls ≡ Some next → Sane pt → Sane next
part_sane pt next (Says l) ls ok is leads h = one_line pt next l ls ok is leads h
part_sane pt next (Routes i) ls ok is leads h =
    let (m, there, last) = bind-is (pt.kernel.bag i) (λ m. Some (puts pt.view (pt.addresses (Receiver i)).at i (plain_kind m.what) m.to)) ls is in
    let numbered_other : (v : View) (a b : ℕ) (i : MsgId) (k : MessageKind) (q : Pid) (o : Option Told) → v.told i ≡ o → is_kernels i ≡ false → Numbered v → Numbered (view.after_put v a b i k q) =
    λ v a b i k q o is other h. (elim o as (λ o_. v.told i ≡ o_ → Numbered (view.after_put v a b i k q)) [ None ↦ λ is'. numbered_put v a b i k q other is' h | Some t' ↦ λ is'. numbered_some v a b i k q t' is' h ]) is in
    puts_lead pt next (pt.addresses (Receiver i)).at i (plain_kind m.what) m.to ls h (record {
      kind = λ x is. (let f : Some m ≡ Some x = sym there ∙ is in let g : m ≡ x = cc in ap (λ (y : PlainMessage). plain_kind y.what) g);
      receiver = λ x is. (let f : Some m ≡ Some x = sym there ∙ is in let g : m ≡ x = cc in ap (λ (y : PlainMessage). y.to) g);
      own = λ b. absurd (false≢true (sym (plain_not m.what) ∙ b));
      entered = λ k. some_entered h.r h.e pt.kernel i (pt.kernel.bag i) refl (ap is_some there) h.sound;
      numbered = λ a b. numbered_other pt.view a b i (plain_kind m.what) m.to (pt.view.told i) refl (not_kernels h.r h.e pt.kernel i m there h.sound) h.numbered;
    }) last leads
part_sane pt next (Again i b) ls ok is leads h =
    let (t, there, last) = bind-is (pt.view.told i) (λ t. Some (puts pt.view b i t.kind t.receiver)) ls is in
    puts_lead pt next b i t.kind t.receiver ls h (record {
      kind = λ x is. h.tells.kind i x t is there;
      receiver = λ x is. h.tells.receiver i x t is there;
      own = λ b. h.tells.own i t there b;
      entered = λ k. elim (cases_zero (h.e i)) [ inl none ↦ absurd (let f : None ≡ Some t = sym (h.untold i none k) ∙ there in cc) | inr least ↦ least ];
      numbered = λ a b. numbered_some pt.view a b i t.kind t.receiver t there h.numbered;
    }) last leads
part_sane pt next (Owns k q b) ls ok is leads h = puts_lead pt next b (own_id pt.view) k q ls h ((search (arith, not_kernels, own_numbered))) is leads
part_sane pt next (Transmits a b l) ls ok is leads h = one_line pt next (packet_line pt.view a b l) ls refl is leads h

pub parts_sane : (ps : List Part) (pt : Point) (w : Spelled) → AllSayable ps → spelled pt ps ≡ Some w → Sane pt → Sane w.point
parts_sane [] pt w ok is h = let f : record { lines = []; point = pt } ≡ w = cc in subst (λ (x : Spelled). Sane x.point) f h
parts_sane (p ∷ ps) pt w ok is h =
    let (ls, lines, rest) = bind-is (lines_of pt p) (λ (xs : List Line). bind (after pt xs) (λ (q : Point). bind (spelled q ps) (λ (z : Spelled). Some (behind xs z)))) w is in
    let (next, leads, last) = bind-is (after pt ls) (λ (q : Point). bind (spelled q ps) (λ (z : Spelled). Some (behind ls z))) w rest in
    let (z, more, end) = bind-is (spelled next ps) (λ (y : Spelled). Some (behind ls y)) w last in
    subst (λ (x : Spelled). Sane x.point) (let f : behind ls z ≡ w = cc in f) (parts_sane ps next z ok.1 more (part_sane pt next p ls ok.0 lines leads h))

-- what keeps pairs, and what deliveries say, is no put
fit_sayable : (f : ℕ → ℕ → Pair) (ps : List Part) → AllFit f ps → AllSayable ps
fit_sayable f [] h = tt
fit_sayable f (Says l ∷ ps) h = ((let e_ : is_put l ≡ false = search (arith, h.0) in e_), fit_sayable f ps h.1)
fit_sayable f (Routes i ∷ ps) h = (tt, fit_sayable f ps h.1)
fit_sayable f (Again i b ∷ ps) h = (tt, fit_sayable f ps h.1)
fit_sayable f (Owns k q b ∷ ps) h = (tt, fit_sayable f ps h.1)
fit_sayable f (Transmits a b l ∷ ps) h = (tt, fit_sayable f ps h.1)

net_sayable : (ps : List Part) → IsNet ps → AllSayable ps
net_sayable [] h = tt
net_sayable (Says l ∷ ps) h = ((let e_ : is_put l ≡ false = search (arith, h.0) in e_), net_sayable ps h.1)
net_sayable (Transmits a b l ∷ ps) h = (tt, net_sayable ps h.1)
net_sayable _ h = absurd h.0

pub outcome_sayable : (b : Boot) (pt : Point) (d : Step) (ps : List Part) → outcome b pt d ≡ Some ps → AllSayable ps
outcome_sayable b pt (Step.Turn m) ps is = fit_sayable pt.view.pair ps (turns_fit pt.view.pair b pt m (pt.view.inbox m) ps is)
outcome_sayable b pt (Step.Tick m) ps is =
    let qs = Says (Line.Resent m (rule.outstanding_count pt.view m pt.kernel.machines)) ∷ rule.resends pt.view m pt.kernel.machines in
    subst AllSayable (let f : qs ≡ ps = cc in f) (refl, net_sayable (rule.resends pt.view m pt.kernel.machines) (resends_net pt.view m pt.kernel.machines))
outcome_sayable b pt (Step.Deliver a c k) ps is =
    let qs = rule.arrives a c (pt.view.pair a c) (pt.view.pair c a) (slice_get (pt.view.pair a c).wire k) in
    search (arith, net_sayable, arrives_net)
outcome_sayable b pt (Step.Migrate p m) ps is = let f : migrates pt p ≡ ps = cc in subst AllSayable f (fit_sayable pt.view.pair (migrates pt p) (migrates_fit pt.view.pair pt p))
outcome_sayable b pt (Step.CallOff p m) ps is =
    let parts = calls_off pt m p (pt.view.known m p) in
    let f : parts ≡ ps = cc in
    subst AllSayable f (fit_sayable pt.view.pair parts (calls_off_fit pt.view.pair pt m p))

pub sane_group : (b : Boot) (pt : Point) (d : Step) (w : Spelled) → group_of b pt d ≡ Some w → Sane pt → Sane w.point
sane_group b pt d w is h =
    let g = group_is b pt d w is in
    subst Sane g.point (parts_sane g.parts (moved pt (Line.Head d) pt.kernel) g.rest (outcome_sayable b pt d g.parts g.is) g.said (sane_quiet pt (Line.Head d) refl h))

pub sane_start : (b : Boot) → IsValid b → Sane (first_point b)
sane_start b valid = search (arith, start-sound b valid)

pub sane_on : (b : Boot) (es : List Step) (pt end : Point) → Leads b pt es end → Sane pt → Sane end
sane_on b [] pt end leads h = subst Sane leads h
sane_on b (d ∷ es) pt end (w, fit, is, rest) h = sane_on b es w.point end rest (sane_group b pt d w is h)

-- wherever the rule leads
pub tells_right_always : TellsRightAlways
tells_right_always b es pt valid leads = (sane_on b es (first_point b) pt leads (sane_start b valid)).tells
