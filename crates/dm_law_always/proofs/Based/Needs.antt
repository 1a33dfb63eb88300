-- What a line of a group needs, so that each line keeps what is known of processes; and a walk over a group's parts.
use Rattle.dm_law_always.proofs.Names.{◌≡◌, ℕ, ◌==◌, Bool, true, false, List, [], ◌∷◌, length, refl, ap, ◌∙◌, subst, ⊤, if◌then◌else◌, Option, None, Some, Pid, MsgId, MessageKind, Stage, plain_kind, Boot, Label, PlainProcess, Alive, Ended, Life, Of}
use Rattle.dm_law_always.proofs.Names.{OneKernel, bind-is, Step, Line, Load, View, Told, Unknown, Here, Frozen, Incoming, is_kernels, own_id, Receiver, Point, label_of, kernel_after, moved, after_line, after, Part, Says, Routes, Again, Owns, Transmits}
use Rattle.dm_law_always.proofs.Names.{Spelled, lines_of, puts, goes_out, packet_line, spelled, is_away, is_here, group_of, group_is, is_kill, Sane, AllSayable, sane_line, part_sane, outcome_sayable, is_server, has_nothing_held, by_parts, is_alive}
use Rattle.dm_law_rule.specs.Rule as rule

-- nobody was made, alive or ended
abbrev pub life_sort : Option Life → Option Bool
life_sort None = None
life_sort (Some (Alive x)) = Some true
life_sort (Some (Ended y)) = Some false

abbrev pub is_over : Option Life → Bool
is_over None = false
is_over (Some (Alive x)) = false
is_over (Some (Ended y)) = true

-- a process is here, and away from every other machine
pub record Resting (v : View) (p : Pid) : Type 0 where
  pub here : v.known v.acting p ≡ Here
  pub away : (n : ℕ) → (v.acting == n) ≡ false → is_away (v.known n p) ≡ true

-- a message is told of, and if it kills its receiver rests here
pub record Serves (v : View) (id : MsgId) : Type 0 where
  pub told : Told
  pub is : v.told id ≡ Some told
  pub rests : is_kill told.kind ≡ true → Resting v told.receiver

pub record Unborn (v : View) (p : Pid) : Type 0 where
  pub home : p.home ≡ v.acting
  pub unknown : (n : ℕ) → v.known n p ≡ Unknown
  pub server : is_server p ≡ false

-- a living process
pub record Living (s : OneKernel) (p : Pid) : Type 0 where
  pub process : PlainProcess
  pub alive : s.processes p ≡ Some (Alive process)
  pub server : is_server p ≡ false

-- a user message for a process that is here
pub record Queues (v : View) (t : Told) (id : MsgId) : Type 0 where
  pub here : v.known v.acting t.receiver ≡ Here
  pub kind : t.kind ≡ MessageKind.User
  pub other : is_kernels id ≡ false

-- nothing waits any more for a process that leaves
pub record Leaving (v : View) (p : Pid) : Type 0 where
  pub to : ℕ
  pub frozen : v.known v.acting p ≡ Frozen to
  pub queue : v.queue v.acting p ≡ []
  pub held : v.held v.acting p ≡ []

-- a process is on its way here
pub record Calling (v : View) (p : Pid) : Type 0 where
  pub from : ℕ
  pub comes : v.known v.acting p ≡ Incoming from

-- a process has ended, and no machine has it
pub record Buries (s : OneKernel) (v : View) (p : Pid) : Type 0 where
  pub over : life_sort (s.processes p) ≡ Some false
  pub away : (n : ℕ) → is_away (v.known n p) ≡ true
  pub server : is_server p ≡ false

-- a message tells of the end of a process
abbrev pub TellsEnd : OneKernel → View → MsgId → Type 0
TellsEnd s v id = (t : Told) (p : Pid) → v.told id ≡ Some t → t.about ≡ Of p → Buries s v p

abbrev pub NeedsLabel : Point → Label → Type 0
NeedsLabel pt (Label.Ran p k) = pt.view.known pt.view.acting p ≡ Here
NeedsLabel pt (Label.End p y) = Resting pt.view p
NeedsLabel pt (Label.Receive p id) = pt.view.known pt.view.acting p ≡ Here
NeedsLabel pt (Label.Refuse p id c) = pt.view.known pt.view.acting p ≡ Here
NeedsLabel pt (Label.Served id) = Serves pt.view id
NeedsLabel pt (Label.Created id p) = Unborn pt.view p
NeedsLabel pt _ = ⊤

abbrev pub Needs : Point → Line → Type 0
Needs pt (Line.Label l) = NeedsLabel pt l
Needs pt (Line.Put a b i k q) = ⊥
Needs pt (Line.Packet a b k l) = ⊥
Needs pt (Line.Queued i) = (t : Told) → pt.view.told i ≡ Some t → Queues pt.view t i
Needs pt (Line.Held i) = (t : Told) → pt.view.told i ≡ Some t → has_nothing_held (pt.view.known pt.view.acting t.receiver) ≡ false
Needs pt (Line.Migration Stage.Frozen p) = (is_alive pt.kernel p ≡ true) × (pt.view.known pt.view.acting p ≡ Here)
Needs pt (Line.Migration Stage.Asked p) = ⊤
Needs pt (Line.Migration Stage.Accepted p) = (is_alive pt.kernel p ≡ true) × (is_away (pt.view.known pt.view.acting p) ≡ true)
Needs pt (Line.Migration Stage.StateTaken p) = ⊤
Needs pt (Line.Migration Stage.MemoryTaken p) = ⊤
Needs pt (Line.Migration Stage.Left p) = Leaving pt.view p
Needs pt (Line.Migration Stage.Restarted p) = (is_alive pt.kernel p ≡ true) × (is_here (pt.view.known pt.view.acting p) ≡ false)
Needs pt (Line.Called p n) = Calling pt.view p
Needs pt (Line.Buried id n) = TellsEnd pt.kernel pt.view id
Needs pt (Line.Stays p) = (is_alive pt.kernel p ≡ true) × (is_here (pt.view.known pt.view.acting p) ≡ false)
Needs pt _ = ⊤

-- what puts and packets keep
pub record Rides (P : Point → Type 0) : Type 0 where
  pub put : (pt : Point) (a b : ℕ) (i : MsgId) (k : MessageKind) (q : Pid) → P pt → P (moved pt (Line.Put a b i k q) pt.kernel)
  pub packet : (pt : Point) (a b k : ℕ) (l : Load) → P pt → P (moved pt (Line.Packet a b k l) pt.kernel)

-- and what each other line keeps too, where it has what it needs
pub record Keeps (P : Point → Type 0) : Type 0 where
  pub rides : Rides P
  pub says : (pt : Point) (t : OneKernel) (l : Line) → Needs pt l → Sane pt → kernel_after pt.kernel (label_of l) ≡ Some t → P pt → P (moved pt l t)

-- parts
abbrev pub NeedsPart : Point → Part → Type 0
NeedsPart pt (Says l) = Needs pt l
NeedsPart pt _ = ⊤

pub record Steps (pt : Point) (p : Part) (next : Point) : Type 0 where
  pub lines : List Line
  pub are : lines_of pt p ≡ Some lines
  pub leads : after pt lines ≡ Some next

-- each part has what it needs, where the ones before lead
abbrev pub Walks : Point → List Part → Type 0
Walks pt [] = ⊤
Walks pt (p ∷ ps) = NeedsPart pt p × ((next : Point) → Steps pt p next → Walks next ps)

abbrev pub WalksOf : Point → Option (List Part) → Type 0
WalksOf pt None = ⊤
WalksOf pt (Some ps) = Walks pt ps

-- only the first part needs something
abbrev pub AllLoose : List Part → Type 0
AllLoose [] = ⊤
AllLoose (p ∷ ps) = ((pt : Point) → NeedsPart pt p) × AllLoose ps

pub loose_walks : (ps : List Part) (pt : Point) → AllLoose ps → Walks pt ps
loose_walks [] pt h = tt
loose_walks (p ∷ ps) pt h = (h.0 pt, λ next s. loose_walks ps next h.1)

pub first_walks : (p : Part) (ps : List Part) (pt : Point) → NeedsPart pt p → AllLoose ps → Walks pt (p ∷ ps)
first_walks p ps pt need h = (need, λ next s. loose_walks ps next h)

-- a part that says a line
pub record Said (pt : Point) (l : Line) (next : Point) : Type 0 where
  pub kernel : OneKernel
  pub step : kernel_after pt.kernel (label_of l) ≡ Some kernel
  pub is : moved pt l kernel ≡ next

one_said : (pt next : Point) (l : Line) (ls : List Line) → Some (l ∷ []) ≡ Some ls → after pt ls ≡ Some next → Said pt l next
one_said pt next l ls is leads =
    let f : l ∷ [] ≡ ls = cc in
    let (mid, first, last) = bind-is (after_line pt l) (λ q. after q []) next (ap (after pt) f ∙ leads) in
    let (s, step_, then_) = bind-is (kernel_after pt.kernel (label_of l)) (λ s. Some (moved pt l s)) mid first in
    let g : moved pt l s ≡ mid = cc in
    let e : mid ≡ next = cc in
    record { kernel = s; step = step_; is = g ∙ e }

pub said_by : (pt next : Point) (l : Line) → Steps pt (Says l) next → Said pt l next
said_by pt next l s = one_said pt next l s.lines s.are s.leads

-- a put and its packet
by_packet : (P : Point → Type 0) (pt next : Point) (b : ℕ) (i : MsgId) (k : MessageKind) (q : Pid) (c d : Bool) → P (moved pt (Line.Put pt.view.acting b i k q) pt.kernel) → ((o : Point) (x y z : ℕ) (l : Load) → P o → P (moved o (Line.Packet x y z l) o.kernel))
    → after pt (Line.Put pt.view.acting b i k q ∷ (if c then [] else if d then packet_line pt.view pt.view.acting b (Load.Data (length (pt.view.pair pt.view.acting b).ids)) ∷ [] else [])) ≡ Some next → P next
by_packet P pt next b i k q true d h packet is = let f : moved pt (Line.Put pt.view.acting b i k q) pt.kernel ≡ next = cc in subst P f h
by_packet P pt next b i k q false false h packet is = let f : moved pt (Line.Put pt.view.acting b i k q) pt.kernel ≡ next = cc in subst P f h
by_packet P pt next b i k q false true h packet is =
    let n = length (pt.view.pair pt.view.acting b).wire in
    let l = Load.Data (length (pt.view.pair pt.view.acting b).ids) in
    let mid = moved pt (Line.Put pt.view.acting b i k q) pt.kernel in
    let f : moved mid (Line.Packet pt.view.acting b n l) mid.kernel ≡ next = cc in
    subst P f (packet mid pt.view.acting b n l h)

pub by_puts : (P : Point → Type 0) (pt next : Point) (b : ℕ) (i : MsgId) (k : MessageKind) (q : Pid) (ls : List Line) → P (moved pt (Line.Put pt.view.acting b i k q) pt.kernel) → ((o : Point) (x y z : ℕ) (l : Load) → P o → P (moved o (Line.Packet x y z l) o.kernel)) → Some (puts pt.view b i k q) ≡ Some ls
    → after pt ls ≡ Some next → P next
by_puts P pt next b i k q ls h packet is leads =
    let f : puts pt.view b i k q ≡ ls = cc in
    by_packet P pt next b i k q (pt.view.acting == b) (goes_out (pt.view.pair pt.view.acting b)) h packet (ap (after pt) f ∙ leads)

puts_keep : (P : Point → Type 0) (keeps : Rides P) (pt next : Point) (b : ℕ) (i : MsgId) (k : MessageKind) (q : Pid) (ls : List Line) → P pt → Some (puts pt.view b i k q) ≡ Some ls → after pt ls ≡ Some next → P next
puts_keep P keeps pt next b i k q ls h = by_puts P pt next b i k q ls (keeps.put pt pt.view.acting b i k q h) keeps.packet

pub again_rides : (P : Point → Type 0) (keeps : Rides P) (pt next : Point) (i : MsgId) (b : ℕ) → Steps pt (Again i b) next → P pt → P next
again_rides P keeps pt next i b s h =
    let (t, there, last) = bind-is (pt.view.told i) (λ t. Some (puts pt.view b i t.kind t.receiver)) s.lines s.are in
    puts_keep P keeps pt next b i t.kind t.receiver s.lines h last s.leads

-- a part
pub part_keeps : (P : Point → Type 0) (keeps : Keeps P) (pt next : Point) (p : Part) → NeedsPart pt p → Sane pt → Steps pt p next → P pt → P next
part_keeps P keeps pt next (Says l) need sane s h =
    let k = said_by pt next l s in
    subst P k.is (keeps.says pt k.kernel l need sane k.step h)
part_keeps P keeps pt next (Routes i) need sane s h =
    let (m, there, last) = bind-is (pt.kernel.bag i) (λ m. Some (puts pt.view (pt.addresses (Receiver i)).at i (plain_kind m.what) m.to)) s.lines s.are in
    puts_keep P keeps.rides pt next (pt.addresses (Receiver i)).at i (plain_kind m.what) m.to s.lines h last s.leads
part_keeps P keeps pt next (Again i b) need sane s h = again_rides P keeps.rides pt next i b s h
part_keeps P keeps pt next (Owns k q b) need sane s h = puts_keep P keeps.rides pt next b (own_id pt.view) k q s.lines h s.are s.leads
part_keeps P keeps pt next (Transmits a b l) need sane s h =
    let k = one_said pt next (packet_line pt.view a b l) s.lines s.are s.leads in
    let same : pt.kernel ≡ k.kernel = let e = k.step in cc in
    subst P (ap (moved pt (packet_line pt.view a b l)) same ∙ k.is) (keeps.rides.packet pt a b (length (pt.view.pair a b).wire) l h)

pub parts_keep : (P : Point → Type 0) (keeps : Keeps P) (ps : List Part) (pt : Point) (w : Spelled) → AllSayable ps → Walks pt ps → Sane pt → spelled pt ps ≡ Some w → P pt → P w.point
parts_keep P keeps qs q w ok need sane is h = by_parts (λ ps pt v. AllSayable ps → Walks pt ps → Sane pt → P pt → P v.point) (λ pt ok need sane h. h) (λ p ps pt next ls z lines leads rest ok need sane h. (
    let s : Steps pt p next = record { lines = ls; are = lines; leads = leads } in
    rest ok.1 (need.1 next s) (part_sane pt next p ls ok.0 lines leads sane) (part_keeps P keeps pt next p need.0 sane s h)
    )) qs q w is ok need sane h

-- a group
abbrev pub begun : Point → Step → Point
begun pt d = moved pt (Line.Head d) pt.kernel

pub begun_sane : (pt : Point) (d : Step) → Sane pt → Sane (begun pt d)
begun_sane pt d h = sane_line pt (begun pt d) (Line.Head d) refl refl h

pub outcome_keeps : (P : Point → Type 0) (keeps : Keeps P) (b : Boot) (pt : Point) (d : Step) (w : Spelled) → group_of b pt d ≡ Some w → WalksOf (begun pt d) (rule.outcome b pt d) → Sane pt → P pt → P w.point
outcome_keeps P keeps b pt d w e walks sane h =
    let g = group_is b pt d w e in
    subst P g.point
    (parts_keep P keeps g.parts (begun pt d) g.rest (outcome_sayable b pt d g.parts g.is) (subst (WalksOf (begun pt d)) g.is walks) (begun_sane pt d sane) g.said (keeps.says pt pt.kernel (Line.Head d) tt sane refl h))
