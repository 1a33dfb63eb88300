-- The parts of a group keep what is known of the size of a server, where each has what it needs.
use Rattle.dm_law_always.proofs.Names.{◌≡◌, ℕ, Bool, true, false, List, [], ◌∷◌, length, refl, ap, ◌∙◌, sym, subst, ⊤, None, Some, Pid, pid_of, pid_eq, MsgId, MessageKind, Label, Line}
use Rattle.dm_law_always.proofs.Names.{Stage, Load, plain_kind, OneKernel, View, Incoming, Point, label_of, kernel_after, moved, view_after, after_stage, after, bind-is, Part, Says, Routes, Again, Owns, Transmits, Spelled, lines_of, puts, packet_line}
use Rattle.dm_law_always.proofs.Names.{spelled, own_id, Receiver, to_kernel, seen_none, Sane, AllSayable, part_sane, by_parts, pid_eq-is, behind, bind}
use Rattle.dm_law_rule.specs.Phases.{has_it}
use Rattle.dm_law_always.proofs.Based.Needs.{Steps, by_puts, said_by}
use Rattle.dm_law_always.proofs.Found.Core.{LineCore}
use Rattle.dm_law_always.proofs.Found.Parts.{AllNeed, part_core}
use Rattle.dm_law_always.proofs.Sizes.Lists.{AllTold, Fronted, HeldFor, NeedsLists, line_lists, put_lists}
use Rattle.dm_law_always.proofs.Sizes.Lines.{KnowsLine}
use Rattle.dm_law_always.proofs.Sizes.Kept.{NeedsTook, Server, Sizes, line_slow, took_keeps, restarts_keeps, sizes_about, pulls_keep}

abbrev pub Keeps : ℕ → ℕ → Pid → Point → Type 0
Keeps k n p pt = Sizes k n p pt.kernel pt.view

-- what a line needs
abbrev pub NeedsSize : Pid → Point → Line → Type 0
NeedsSize p pt (Line.Label (Label.Took id)) = NeedsTook p pt.kernel pt.view id
NeedsSize p pt (Line.Label (Label.Created id q)) = pid_eq q p ≡ false
NeedsSize p pt (Line.Put a b id k q) = ⊥
NeedsSize p pt (Line.Held id) = Fronted pt.view id
NeedsSize p pt (Line.Migration Stage.Frozen q) = q ≡ p → has_it (pt.view.known pt.view.acting p) ≡ true
NeedsSize p pt (Line.Migration Stage.Accepted q) = pid_eq q p ≡ false
NeedsSize p pt (Line.Migration Stage.StateTaken q) = pid_eq q p ≡ false
NeedsSize p pt (Line.Migration Stage.MemoryTaken q) = pid_eq q p ≡ false
NeedsSize p pt (Line.Migration Stage.Restarted q) = HeldFor pt.view q × (pid_eq q p ≡ true → (from : ℕ) × (pt.view.known pt.view.acting p ≡ Incoming from) × (pt.view.come p ≡ true))
NeedsSize p pt (Line.Stays q) = HeldFor pt.view q × (q ≡ p → has_it (pt.view.known pt.view.acting p) ≡ true)
NeedsSize p pt (Line.Proto id) = KnowsLine p pt.view (Line.Proto id)
NeedsSize p pt l = ⊤

restarted_line : (n : ℕ) (p q : Pid) (pt : Point) (c : Bool) → Server n p → pid_eq q p ≡ c → HeldFor pt.view q → (pid_eq q p ≡ true → (from : ℕ) × (pt.view.known pt.view.acting p ≡ Incoming from) × (pt.view.come p ≡ true)) → Keeps 0 n p pt → Keeps 0 n p (moved pt (Line.Migration Stage.Restarted q) pt.kernel)
restarted_line n p q pt false server off held need h = line_slow 0 n p pt pt.kernel (Line.Migration Stage.Restarted q) server.is refl held off refl h
restarted_line n p q pt true server same held need h =
    let v = pt.view in
    let (from, here, come) = need same in
    let is = pid_eq-is q p same in
    let u = after_stage v p Stage.Restarted in
    let lists = line_lists n p v (Line.Migration Stage.Restarted p) (subst (HeldFor v) is held) in
    subst (λ (r : Pid). Keeps 0 n p (moved pt (Line.Migration Stage.Restarted r) pt.kernel)) (sym is) (sizes_about 0 n p pt.kernel u u.topic (restarts_keeps n p pt.kernel v from lists here come h))

pub line_keeps : (n : ℕ) (p : Pid) (pt : Point) (t : OneKernel) (l : Line) → Server n p → NeedsSize p pt l → kernel_after pt.kernel (label_of l) ≡ Some t → Keeps 0 n p pt → Keeps 0 n p (moved pt l t)
line_keeps n p pt t (Line.Label (Label.Took id)) server need is h = took_keeps n p pt t id server need is h
line_keeps n p pt t (Line.Label (Label.Created id q)) server need is h = line_slow 0 n p pt t (Line.Label (Label.Created id q)) server.is refl tt need is h
line_keeps n p pt t (Line.Label l) server need is h = line_slow 0 n p pt t (Line.Label l) server.is refl tt tt is h
line_keeps n p pt t (Line.Put a b id k q) server need is h = absurd need
line_keeps n p pt t (Line.Taken a b k) server need is h = line_slow 0 n p pt t (Line.Taken a b k) server.is refl h.outside tt is h
line_keeps n p pt t (Line.Held id) server need is h = line_slow 0 n p pt t (Line.Held id) server.is refl need tt is h
line_keeps n p pt t (Line.Migration Stage.Restarted q) server need is h =
    let f : pt.kernel ≡ t = cc in
    subst (λ (s : OneKernel). Keeps 0 n p (moved pt (Line.Migration Stage.Restarted q) s)) f (restarted_line n p q pt (pid_eq q p) server refl need.0 need.1 h)
line_keeps n p pt t (Line.Migration Stage.Frozen q) server need is h = line_slow 0 n p pt t (Line.Migration Stage.Frozen q) server.is refl tt need is h
line_keeps n p pt t (Line.Migration Stage.Asked q) server need is h = line_slow 0 n p pt t (Line.Migration Stage.Asked q) server.is refl tt tt is h
line_keeps n p pt t (Line.Migration Stage.Left q) server need is h = line_slow 0 n p pt t (Line.Migration Stage.Left q) server.is refl tt tt is h
line_keeps n p pt t (Line.Migration Stage.Accepted q) server need is h = line_slow 0 n p pt t (Line.Migration Stage.Accepted q) server.is refl tt need is h
line_keeps n p pt t (Line.Migration Stage.StateTaken q) server need is h = line_slow 0 n p pt t (Line.Migration Stage.StateTaken q) server.is refl tt need is h
line_keeps n p pt t (Line.Migration Stage.MemoryTaken q) server need is h = line_slow 0 n p pt t (Line.Migration Stage.MemoryTaken q) server.is refl tt need is h
line_keeps n p pt t (Line.Stays q) server need is h = line_slow 0 n p pt t (Line.Stays q) server.is refl need.0 need.1 is h
line_keeps n p pt t (Line.Proto id) server need is h = line_slow 0 n p pt t (Line.Proto id) server.is refl tt need is h
line_keeps n p pt t any_ server need is h = line_slow 0 n p pt t any_ server.is refl tt tt is h

-- puts, with their packets
all_told : (n : ℕ) (pt : Point) → LineCore n pt → AllTold pt.view
all_told n pt core i z least = (core.places i z least).1

put_needs : (n k : ℕ) (p : Pid) (pt : Point) (b : ℕ) (i : MsgId) (j : MessageKind) (q : Pid) → LineCore n pt → Keeps k n p pt → NeedsLists n pt.view (Line.Put pt.view.acting b i j q)
put_needs n k p pt b i j q core h = (core.acting, all_told n pt core, h.home)

packet_keeps : (k n : ℕ) (p : Pid) (pt : Point) (a b j : ℕ) (l : Load) → Server n p → Keeps k n p pt → Keeps k n p (moved pt (Line.Packet a b j l) pt.kernel)
packet_keeps k n p pt a b j l server h = line_slow k n p pt pt.kernel (Line.Packet a b j l) server.is refl tt tt refl h

pub puts_keep : (n : ℕ) (p : Pid) (pt next : Point) (b : ℕ) (i : MsgId) (k : MessageKind) (q : Pid) (ls : List Line) → Server n p → LineCore n pt → Keeps 0 n p pt → Some (puts pt.view b i k q) ≡ Some ls → after pt ls ≡ Some next → Keeps 0 n p next
puts_keep n p pt next b i k q ls server core h is leads =
    by_puts (Keeps 0 n p) pt next b i k q ls (line_slow 0 n p pt pt.kernel (Line.Put pt.view.acting b i k q) server.is refl (put_needs n 0 p pt b i k q core h) tt refl h) (λ o x y z l kept. packet_keeps 0 n p o x y z l server kept) is leads

-- the piece that was asked for is told of
pub pull_keeps : (n : ℕ) (p : Pid) (pt next : Point) (b : ℕ) (i : MsgId) (k : MessageKind) (q : Pid) (ls : List Line) → Server n p → LineCore n pt → ((m from : ℕ) → pt.view.known m p ≡ Incoming from → (m ≡ pt.view.acting) × (from ≡ b)) → Keeps 1 n p pt
    → Some (puts pt.view b i k q) ≡ Some ls → after pt ls ≡ Some next → Keeps 0 n p next
pull_keeps n p pt next b i k q ls server core only h is leads =
    let v = pt.view in
    let l = Line.Put v.acting b i k q in
    let need = put_needs n 1 p pt b i k q core h in
    let u = view_after v l in
    by_puts (Keeps 0 n p) pt next b i k q ls (sizes_about 0 n p pt.kernel u u.topic (pulls_keep n p pt.kernel v b i k q (put_lists n p v v.acting b i k q need.0 need.1 need.2) only h)) (λ o x y z m kept. packet_keeps 0 n p o x y z m server kept) is leads

-- parts
abbrev pub NeedsPart : Pid → Point → Part → Type 0
NeedsPart p pt (Says l) = NeedsSize p pt l
NeedsPart p pt _ = ⊤

pub part_keeps : (n : ℕ) (p : Pid) (pt next : Point) (x : Part) → Server n p → NeedsPart p pt x → LineCore n pt → Steps pt x next → Keeps 0 n p pt → Keeps 0 n p next
part_keeps n p pt next (Says l) server need core s h =
    let g = said_by pt next l s in
    subst (Keeps 0 n p) g.is (line_keeps n p pt g.kernel l server need g.step h)
part_keeps n p pt next (Routes i) server need core s h =
    let (m, there, last) = bind-is (pt.kernel.bag i) (λ m. Some (puts pt.view (pt.addresses (Receiver i)).at i (plain_kind m.what) m.to)) s.lines s.are in
    puts_keep n p pt next (pt.addresses (Receiver i)).at i (plain_kind m.what) m.to s.lines server core h last s.leads
part_keeps n p pt next (Again i b) server need core s h =
    let (t, there, last) = bind-is (pt.view.told i) (λ t. Some (puts pt.view b i t.kind t.receiver)) s.lines s.are in
    puts_keep n p pt next b i t.kind t.receiver s.lines server core h last s.leads
part_keeps n p pt next (Owns k q b) server need core s h = puts_keep n p pt next b (own_id pt.view) k q s.lines server core h s.are s.leads
part_keeps n p pt next (Transmits a b l) server need core s h =
    let m = packet_line pt.view a b l in
    let f : m ∷ [] ≡ s.lines = (let e : Some (m ∷ []) ≡ Some s.lines = s.are in cc) in
    let e : Some (moved pt m pt.kernel) ≡ Some next = ap (after pt) f ∙ s.leads in
    let g : moved pt m pt.kernel ≡ next = cc in
    subst (Keeps 0 n p) g (packet_keeps 0 n p pt a b (length (pt.view.pair a b).wire) l server h)

-- each part has what it needs, where the ones before lead
abbrev pub Walks : Pid → Point → List Part → Type 0
Walks p pt [] = ⊤
Walks p pt (x ∷ xs) = NeedsPart p pt x × ((next : Point) → Steps pt x next → Walks p next xs)

abbrev pub AllLoose : Pid → List Part → Type 0
AllLoose p [] = ⊤
AllLoose p (x ∷ xs) = ((pt : Point) → NeedsPart p pt x) × AllLoose p xs

pub loose_walks : (p : Pid) (xs : List Part) (pt : Point) → AllLoose p xs → Walks p pt xs
loose_walks p [] pt h = tt
loose_walks p (x ∷ xs) pt h = (h.0 pt, λ next s. loose_walks p xs next h.1)

pub first_walks : (p : Pid) (x : Part) (xs : List Part) (pt : Point) → NeedsPart p pt x → AllLoose p xs → Walks p pt (x ∷ xs)
first_walks p x xs pt need h = (need, λ next s. loose_walks p xs next h)

-- what a group's parts keep, where all else that they need is there
abbrev pub PartsKeep : ℕ → Pid → Point → List Part → Type 0
PartsKeep n p pt ps = (w : Spelled) → AllSayable ps → AllNeed n pt ps → Sane pt → LineCore n pt → spelled pt ps ≡ Some w → Keeps 0 n p pt → Keeps 0 n p w.point

pub walks_keep : (n : ℕ) (p : Pid) → Server n p → (ps : List Part) (pt : Point) → Walks p pt ps → PartsKeep n p pt ps
walks_keep n p server qs q walks w ok need sane core is h = by_parts (λ ps pt v. Walks p pt ps → AllSayable ps → AllNeed n pt ps → Sane pt → LineCore n pt → Keeps 0 n p pt → Keeps 0 n p v.point) (λ pt walks ok need sane core h. h)
    (λ x xs pt next ls z lines leads rest walks ok need sane core h. (
    let s : Steps pt x next = record { lines = ls; are = lines; leads = leads } in
    rest (walks.1 next s) ok.1 (need.1 ls next lines leads) (part_sane pt next x ls ok.0 lines leads sane) (part_core n pt next x ls need.0 sane lines leads core) (part_keeps n p pt next x server walks.0 core s h)
    )) qs q w is walks ok need sane core h

-- a first part, and then others
pub record Then (n : ℕ) (pt : Point) (x : Part) (xs : List Part) (w : Spelled) : Type 0 where
  pub next : Point
  pub steps : Steps pt x next
  pub rest : Spelled
  pub is : spelled next xs ≡ Some rest
  pub point : rest.point ≡ w.point
  pub ok : AllSayable xs
  pub need : AllNeed n next xs
  pub sane : Sane next
  pub core : LineCore n next

pub then_of : (n : ℕ) (pt : Point) (x : Part) (xs : List Part) (w : Spelled) → AllSayable (x ∷ xs) → AllNeed n pt (x ∷ xs) → Sane pt → LineCore n pt → spelled pt (x ∷ xs) ≡ Some w → Then n pt x xs w
then_of n pt x xs w ok need sane core is =
    let (ls, lines, more) = bind-is (lines_of pt x) (λ (ls : List Line). bind (after pt ls) (λ (q : Point). bind (spelled q xs) (λ (z : Spelled). Some (behind ls z)))) w is in
    let (next, leads, last) = bind-is (after pt ls) (λ (q : Point). bind (spelled q xs) (λ (z : Spelled). Some (behind ls z))) w more in
    let (z, said, end) = bind-is (spelled next xs) (λ (y : Spelled). Some (behind ls y)) w last in
    let f : behind ls z ≡ w = cc in
    record {
      next = next;
      steps = record { lines = ls; are = lines; leads = leads };
      rest = z;
      is = said;
      point = ap (λ (y : Spelled). y.point) f;
      ok = ok.1;
      need = need.1 ls next lines leads;
      sane = part_sane pt next x ls ok.0 lines leads sane;
      core = part_core n pt next x ls need.0 sane lines leads core;
    }

-- a line by which one piece more is asked for, and the message that asks
pub asks_keep : (n : ℕ) (p : Pid) (pt : Point) (l : Line) (k : MessageKind) (b : ℕ) → Server n p → label_of l ≡ None → (Keeps 0 n p pt → Sizes 1 n p pt.kernel (view_after pt.view l))
    → ((m from : ℕ) → (view_after pt.view l).known m p ≡ Incoming from → (m ≡ (view_after pt.view l).acting) × (from ≡ b)) → PartsKeep n p pt (Says l ∷ to_kernel k b ∷ [])
asks_keep n p pt l k b server none raises only w ok need sane core is h =
    let a = then_of n pt (Says l) (to_kernel k b ∷ []) w ok need sane core is in
    let g = said_by pt a.next l a.steps in
    let same : pt.kernel ≡ g.kernel = (let e : Some pt.kernel ≡ Some g.kernel = sym (ap (kernel_after pt.kernel) none) ∙ g.step in cc) in
    let seen : (moved pt l pt.kernel).view ≡ view_after pt.view l = seen_none pt.kernel pt.view l none in
    let mid : moved pt l pt.kernel ≡ a.next = ap (moved pt l) same ∙ g.is in
    let first : Keeps 1 n p (moved pt l pt.kernel) = subst (Sizes 1 n p pt.kernel) (sym seen) (raises h) in
    let only_ : (m from : ℕ) → (moved pt l pt.kernel).view.known m p ≡ Incoming from → (m ≡ (moved pt l pt.kernel).view.acting) × (from ≡ b) =
    subst (λ (v : View). (m from : ℕ) → v.known m p ≡ Incoming from → (m ≡ v.acting) × (from ≡ b)) (sym seen) only in
    let c = then_of n a.next (to_kernel k b) [] a.rest a.ok a.need a.sane a.core a.is in
    let done : c.next ≡ c.rest.point = (let e : Some (record { lines = []; point = c.next }) ≡ Some c.rest = c.is in ap (λ (y : Spelled). y.point) (let f : record { lines = []; point = c.next } ≡ c.rest = cc in f)) in
    subst (Keeps 0 n p) (done ∙ c.point ∙ a.point)
    (pull_keeps n p a.next c.next b (own_id a.next.view) k (pid_of b 0) c.steps.lines server a.core (subst (λ (q : Point). (m from : ℕ) → q.view.known m p ≡ Incoming from → (m ≡ q.view.acting) × (from ≡ b)) mid only_) (subst (Keeps 1 n p) mid first) c.steps.are c.steps.leads)
