-- Lines, puts and packets that fit the trails anywhere, and leave each process where it is.
use Rattle.dm_law_moves.proofs.Names.{◌≡◌, ℕ, ◌+◌, ◌==◌, Bool, true, false, List, [], ◌∷◌, length, refl, ap, ◌∙◌, sym, subst, if◌then◌else◌, Option, None, Some, Pid, pid_of, MsgId, MessageKind, Stage, plain_kind, Label, OneKernel}
use Rattle.dm_law_moves.proofs.Names.{id_eq-same, bind-is, Line, Load, View, Told, own_id, view_after, handled, receiver_of, Receiver, goes_between, own_given, Point, moved, after, Part, Says, Routes, Owns, Transmits}
use Rattle.dm_law_moves.proofs.Names.{puts, goes_out, packet_line, to_kernel, Trails, IsOn, trails_after, IsNet, IsNetLine, SaidOn, not_kernels, queued_known, held_known, dropped_known, Sane, Treads, LineFits, LabelFits, KnownFits}
use Rattle.dm_law_moves.proofs.Names.{PutFits, Rides, Steps, said_by, own_outside, own_fresh, queued_moves, held_moves, dropped_moves, nat_tests, arith, ◌++◌, ⊤, PlainMessage, bind, after_line, Again, Spelled, lines_of, spelled, Trodden}
use Rattle.dm_law_moves.proofs.Names.{along, AllSayable, part_sane, line_treads, Said, plain_own, by_parts, Addresses, Sort, is_between, sort_of, false≢true, tells_between, seen, ◌≢◌, ◌≤◌, length-append, slice_get, pid_eq, Known, Frozen}
use Rattle.dm_law_moves.proofs.Names.{Incoming, Forward, forwarded_for, gone_to, Sender, is_told_back, forwards_on, sends_on, Moves, IsIn, times, destination, both_lists, forwarded_known, get_at_end, forwarded_back, Named, source_holds}
use Rattle.dm_law_moves.proofs.Names.{two_apart, sent_on_at, again_rides, named_for, again_same, eq_self, forwarded_own, other_id, leaves, map, is_away, eq_is, inl, inr, cases_Bool, destination_expects}
use Rattle.dm_law_rule.proofs.Trails.Along.{AllFit}
use Rattle.dm_law_moves.proofs.Trail.Placed.{Places, placed_same, is_held, Placed, Elsewhere, placed_left, places_set, moves_held, moves_comes}
use Rattle.dm_law_moves.proofs.Leading.{Behind, whatever_put, part_leads}
use Rattle.dm_law_rule.specs.Rule as rule
use Rattle.dm_law_rule.specs.Burying as bury
use Rattle.dm_law_always.proofs.Found.Labels.{outside}

-- each of these lines fits where the ones before lead, and behind the last each process is placed
abbrev pub AllGood : Point → Trails → List Line → Type 0
AllGood pt t [] = Places pt.view t
AllGood pt t (l ∷ ls) = LineFits pt t l × ((next : Point) → after_line pt l ≡ Some next → AllGood next (trails_after pt.view t l) ls)

pub good_fit : (ls : List Line) (pt : Point) (t : Trails) → AllGood pt t ls → AllFit pt t ls
good_fit [] pt t h = tt
good_fit (l ∷ ls) pt t h = (h.0, λ next is. good_fit ls next (trails_after pt.view t l) (h.1 next is))

pub good_places : (ls : List Line) (x y : Trodden) → along x ls ≡ Some y → AllGood x.point x.trails ls → Places y.point.view y.trails
good_places [] x y is h = let f : x ≡ y = cc in subst (λ (z : Trodden). Places z.point.view z.trails) f h
good_places (l ∷ ls) x y is h =
    let (next, comes, rest) = bind-is (after_line x.point l) (λ (n : Point). along (record { point = n; trails = trails_after x.point.view x.trails l }) ls) y is in
    good_places ls (record { point = next; trails = trails_after x.point.view x.trails l }) y rest (h.1 next comes)

pub along_after : (ls : List Line) (x y : Trodden) → along x ls ≡ Some y → after x.point ls ≡ Some y.point
along_after [] x y is = let f : x ≡ y = cc in ap (λ (z : Trodden). Some z.point) f
along_after (l ∷ ls) x y is =
    let (next, comes, rest) = bind-is (after_line x.point l) (λ (n : Point). along (record { point = n; trails = trails_after x.point.view x.trails l }) ls) y is in
    ap (λ (o : Option Point). bind o (λ (n : Point). after n ls)) comes ∙ along_after ls (record { point = next; trails = trails_after x.point.view x.trails l }) y rest

-- what a part needs
abbrev pub FitsPart : Point → Trails → Part → Type 0
FitsPart pt t (Says l) = LineFits pt t l
FitsPart pt t (Owns k q b) = PutFits pt t (own_id pt.view) k q
FitsPart pt t _ = ⊤

abbrev pub behind_part : View → Trails → Part → Trails
behind_part v t (Says l) = trails_after v t l
behind_part v t _ = t

-- each part has what it needs where the ones before lead
abbrev pub Walks : Point → Trails → List Part → Type 0
Walks pt t [] = Places pt.view t
Walks pt t (p ∷ ps) = Sane pt → Treads pt t → FitsPart pt t p × ((next : Point) → Steps pt p next → Walks next (behind_part pt.view t p) ps)

abbrev pub WalksOf : Point → Trails → Option (List Part) → Type 0
WalksOf pt t None = ⊤
WalksOf pt t (Some ps) = Walks pt t ps

-- one line
one_good : (pt next : Point) (t : Trails) (l : Line) (more : List Line) → LineFits pt t l → after pt (l ∷ []) ≡ Some next → Treads pt t → (Treads next (trails_after pt.view t l) → AllGood next (trails_after pt.view t l) more) → AllGood pt t (l ∷ more)
one_good pt next t l more fits leads h rest = grind (arith, nat_tests, line_treads)

-- a put with its packet
puts_by : (pt next : Point) (t : Trails) (b : ℕ) (i : MsgId) (k : MessageKind) (q : Pid) (more : List Line) (c d : Bool) → PutFits pt t i k q
    → after pt (Line.Put pt.view.acting b i k q ∷ (if c then [] else if d then packet_line pt.view pt.view.acting b (Load.Data (length (pt.view.pair pt.view.acting b).ids)) ∷ [] else [])) ≡ Some next → Treads pt t → (Treads next t → AllGood next t more)
    → AllGood pt t ((Line.Put pt.view.acting b i k q ∷ (if c then [] else if d then packet_line pt.view pt.view.acting b (Load.Data (length (pt.view.pair pt.view.acting b).ids)) ∷ [] else [])) ++ more)
puts_by pt next t b i k q more true d fits leads h rest = one_good pt next t (Line.Put pt.view.acting b i k q) more fits leads h rest
puts_by pt next t b i k q more false false fits leads h rest = one_good pt next t (Line.Put pt.view.acting b i k q) more fits leads h rest
puts_by pt next t b i k q more false true fits leads h rest =
    let put = Line.Put pt.view.acting b i k q in
    let packet = packet_line pt.view pt.view.acting b (Load.Data (length (pt.view.pair pt.view.acting b).ids)) in
    let mid = moved pt put pt.kernel in
    one_good pt mid t put (packet ∷ more) fits refl h (λ k. one_good mid next t packet more tt leads k rest)

puts_good : (pt next : Point) (t : Trails) (b : ℕ) (i : MsgId) (k : MessageKind) (q : Pid) (ls more : List Line) → PutFits pt t i k q → Some (puts pt.view b i k q) ≡ Some ls → after pt ls ≡ Some next → Treads pt t → (Treads next t → AllGood next t more)
    → AllGood pt t (ls ++ more)
puts_good pt next t b i k q ls more fits is leads h rest =
    let f : puts pt.view b i k q ≡ ls = cc in
    subst (λ (xs : List Line). AllGood pt t (xs ++ more)) f (puts_by pt next t b i k q more (pt.view.acting == b) (goes_out (pt.view.pair pt.view.acting b)) fits (ap (after pt) f ∙ leads) h rest)

routed_fits : (pt : Point) (t : Trails) (i : MsgId) (m : PlainMessage) (o : Option Told) → pt.view.told i ≡ o → pt.kernel.bag i ≡ Some m → Sane pt → PutFits pt t i (plain_kind m.what) m.to
routed_fits pt t i m None told there sane = PutFits.Routed (not_kernels sane.r sane.e pt.kernel i m there sane.sound) (plain_own m.what) told
routed_fits pt t i m (Some u) told there sane = PutFits.Again u told

-- a part
part_good : (pt next : Point) (t : Trails) (p : Part) (ls more : List Line) → FitsPart pt t p → Sane pt → lines_of pt p ≡ Some ls → after pt ls ≡ Some next → Treads pt t → (Treads next (behind_part pt.view t p) → AllGood next (behind_part pt.view t p) more) → AllGood pt t (ls ++ more)
part_good pt next t (Says l) ls more fits sane is leads h rest = grind (arith, nat_tests, one_good)
part_good pt next t (Routes i) ls more fits sane is leads h rest =
    let (m, there, last) = bind-is (pt.kernel.bag i) (λ m. Some (puts pt.view (pt.addresses (Receiver i)).at i (plain_kind m.what) m.to)) ls is in
    puts_good pt next t (pt.addresses (Receiver i)).at i (plain_kind m.what) m.to ls more (routed_fits pt t i m (pt.view.told i) refl there sane) last leads h rest
part_good pt next t (Again i b) ls more fits sane is leads h rest =
    let (u, there, last) = bind-is (pt.view.told i) (λ u. Some (puts pt.view b i u.kind u.receiver)) ls is in
    puts_good pt next t b i u.kind u.receiver ls more (PutFits.Again u there) last leads h rest
part_good pt next t (Owns k q b) ls more fits sane is leads h rest = puts_good pt next t b (own_id pt.view) k q ls more fits is leads h rest
part_good pt next t (Transmits a b l) ls more fits sane is leads h rest =
    let f : packet_line pt.view a b l ∷ [] ≡ ls = cc in
    subst (λ (xs : List Line). AllGood pt t (xs ++ more)) f (one_good pt next t (packet_line pt.view a b l) more tt (ap (after pt) f ∙ leads) h rest)

pub parts_good : (ps : List Part) (pt : Point) (t : Trails) (w : Spelled) → AllSayable ps → Walks pt t ps → Sane pt → Treads pt t → spelled pt ps ≡ Some w → AllGood pt t w.lines
parts_good qs q u w ok walks sane h is = by_parts (λ ps pt v. (t : Trails) → AllSayable ps → Walks pt t ps → Sane pt → Treads pt t → AllGood pt t v.lines) (λ pt t ok walks sane h. walks) (λ p ps pt next ls z lines leads rest t ok walks sane h. (
    let k = walks sane h in
    part_good pt next t p ls z.lines k.0 sane lines leads h (λ on. rest (behind_part pt.view t p) ok.1 (k.1 next (record { lines = ls; are = lines; leads = leads })) (part_sane pt next p ls ok.0 lines leads sane) on)
    )) qs q w is u ok walks sane h

-- parts that fit anywhere, and leave each process where it is
pub record Loose (p : Part) : Type 0 where
  pub fits : (pt : Point) (t : Trails) → Sane pt → Treads pt t → FitsPart pt t p
  pub leaves : (pt next : Point) (t : Trails) → Steps pt p next → Places pt.view t → Places next.view (behind_part pt.view t p)

abbrev pub AllLoose : List Part → Type 0
AllLoose [] = ⊤
AllLoose (p ∷ ps) = Loose p × AllLoose ps

pub loose_walks : (ps : List Part) (pt : Point) (t : Trails) → AllLoose ps → Places pt.view t → Walks pt t ps
loose_walks [] pt t h at = at
loose_walks (p ∷ ps) pt t h at = λ sane on. (h.0.fits pt t sane on, λ next s. loose_walks ps next (behind_part pt.view t p) h.1 (h.0.leaves pt next t s at))

-- only the first line needs something
pub first_walks : (l : Line) (ps : List Part) (pt : Point) (t : Trails) → (Sane pt → Treads pt t → LineFits pt t l × ((next : Point) → Said pt l next → Places next.view (trails_after pt.view t l))) → AllLoose ps → Walks pt t (Says l ∷ ps)
first_walks l ps pt t h loose = grind (arith, nat_tests, loose_walks, said_by)

-- what puts and packets leave
pub places_ride : (t : Trails) → Rides (λ (q : Point). Places q.view t)
places_ride t = record {
  put = λ pt a b i k q h p. placed_same pt.view (moved pt (Line.Put a b i k q) pt.kernel).view t t p (λ m. refl) refl refl (h p);
  packet = λ pt a b k l h p. placed_same pt.view (moved pt (Line.Packet a b k l) pt.kernel).view t t p (λ m. refl) refl refl (h p);
}

pub places_same : (v w : View) (t : Trails) → ((m : ℕ) (q : Pid) → w.known m q ≡ v.known m q) → ((q : Pid) → w.moves q ≡ v.moves q) → Places v t → Places w t
places_same v w t known moves h p = placed_same v w t t p (λ m. known m p) (moves p) refl (h p)

-- a put and its packet
part_rides : (p : Part) (pt next : Point) (t : Trails) → ((l : Line) → p ≡ Says l → Behind (λ q. Places q.view t) pt (Says l)) → Steps pt p next → Places pt.view t → Places next.view t
part_rides p pt next t says s h = part_leads (λ q. Places q.view t) (places_ride t).packet pt next p (whatever_put (λ q. Places q.view t) pt p says (λ b i k q. (places_ride t).put pt pt.view.acting b i k q h) h) s

pub routes_loose : (i : MsgId) → Loose (Routes i)
routes_loose i = record { fits = λ pt t sane on. tt; leaves = λ pt next t. part_rides (Routes i) pt next t (λ l is. cc) }

pub owns_leave : (k : MessageKind) (q : Pid) (b : ℕ) (pt next : Point) (t : Trails) → Steps pt (Owns k q b) next → Places pt.view t → Places next.view t
owns_leave k q b pt next t = part_rides (Owns k q b) pt next t (λ l is. cc)

-- a message to a kernel
between_loose : (k : MessageKind) (m : ℕ) → ((pt : Point) → own_given pt.kernel pt.view pt.addresses (own_id pt.view) (pid_of m 0) (sort_of k) ≡ goes_between pt.view (own_id pt.view) (pid_of m 0)) → (k ≡ MessageKind.Migrate → ⊥) → Loose (Owns k (pid_of m 0) m)
between_loose k m gives none = record {
  fits = λ pt t sane on. grind (arith, nat_tests, own_outside, own_fresh, id_eq-same);
  leaves = λ pt next t s h. owns_leave k (pid_of m 0) m pt next t s h;
}

pub to_between : (k : MessageKind) (m : ℕ) → is_between k ≡ true → AllLoose (to_kernel k m ∷ [])
to_between k m b =
    let gives_between : (s : OneKernel) (v : View) (a : Addresses) (id : MsgId) (m : ℕ) (w : Sort) → tells_between w ≡ true → own_given s v a id (pid_of m 0) w ≡ goes_between v id (pid_of m 0) = λ s v a id m w e. grind (arith, nat_tests) in
    (between_loose k m (λ pt. gives_between pt.kernel pt.view pt.addresses (own_id pt.view) m (sort_of k) b) (λ e. false≢true (sym (ap is_between e) ∙ b)), tt)

-- lines that say nothing of where processes are
pub line_loose : (l : Line) → ((pt : Point) (t : Trails) → Sane pt → Treads pt t → LineFits pt t l) → ((v : View) (t : Trails) → Places v t → Places (view_after v l) (trails_after v t l)) → Loose (Says l)
line_loose l fits leaves = record {
  fits = fits;
  leaves = λ pt next t s h. (let k = said_by pt next l s in subst (λ (q : Point). Places q.view (trails_after pt.view t l)) k.is (places_same (view_after pt.view l) (seen pt.kernel pt.view l) (trails_after pt.view t l) (λ m q. refl) (λ q. refl) (leaves pt.view t h)));
}

pub at_pid : (f g : Pid → ℕ) (q : Pid) → f ≡ g → f q ≡ g q
at_pid f g q e = ap (λ (h : Pid → ℕ). h q) e

pub quiet : (l : Line) → ((pt : Point) (t : Trails) → LineFits pt t l) → ((v : View) (t : Trails) → trails_after v t l ≡ t) → ((v : View) (m : ℕ) (q : Pid) → (view_after v l).known m q ≡ v.known m q) → ((v : View) (q : Pid) → (view_after v l).moves q ≡ v.moves q) → Loose (Says l)
quiet l fits same known moves = line_loose l (λ pt t sane on. fits pt t) (λ v t h. subst (Places (view_after v l)) (sym (same v t)) (places_same v (view_after v l) t (known v) (moves v) h))

pub queued_loose : (i : MsgId) → Loose (Says (Line.Queued i))
queued_loose i = quiet (Line.Queued i) (λ pt t. tt) (λ v t. refl) (λ v n q. queued_known (handled v i) i (receiver_of (v.told i)) n q) (λ v q. at_pid (view_after v (Line.Queued i)).moves v.moves q (queued_moves (handled v i) i (receiver_of (v.told i))))

pub held_loose : (i : MsgId) → Loose (Says (Line.Held i))
held_loose i = quiet (Line.Held i) (λ pt t. tt) (λ v t. refl) (λ v n q. held_known (handled v i) i (receiver_of (v.told i)) n q) (λ v q. at_pid (view_after v (Line.Held i)).moves v.moves q (held_moves (handled v i) i (receiver_of (v.told i))))

-- what the net says
net_line : (l : Line) → IsNetLine l → Loose (Says l)
net_line l h1 = search (arith, quiet, at_pid)

pub net_loose : (ps : List Part) → IsNet ps → AllLoose ps
net_loose [] h = tt
net_loose (Says l ∷ ps) h = (net_line l h.0, net_loose ps h.1)
net_loose (Transmits a b l ∷ ps) h = (record { fits = λ pt t sane on. tt; leaves = λ pt next t. part_rides (Transmits a b l) pt next t (λ m is. cc) }, net_loose ps h.1)
net_loose _ h = absurd h.0

pub label_fits : (pt : Point) (t : Trails) (l : Label) → Sane pt → SaidOn (IsOn t) pt.kernel pt.view pt.addresses l → KnownFits pt t l → LabelFits pt t l
label_fits pt t l sane said known = record { named = λ i m there. sane.sound.entered.named i m there; said = said; outside = λ s is. outside pt s l sane is; known = known }

-- a label and then parts that fit anywhere
pub label_walks : (pt : Point) (t : Trails) (l : Label) (ps : List Part) → (Treads pt t → SaidOn (IsOn t) pt.kernel pt.view pt.addresses l × KnownFits pt t l × Places (view_after pt.view (Line.Label l)) t) → AllLoose ps → Walks pt t (rule.says l ∷ ps)
label_walks pt t l ps need loose = first_walks (Line.Label l) ps pt t (λ sane on. let k = need on in (label_fits pt t l sane k.0 k.1, λ next s. subst (λ (q : Point). Places q.view t) s.is (places_same (view_after pt.view (Line.Label l)) (seen pt.kernel pt.view (Line.Label l)) t (λ m q. refl) (λ q. refl) k.2))) loose

pub dropped_loose : (i : MsgId) → Loose (rule.says (Label.Dropped i))
dropped_loose i =
    line_loose (Line.Label (Label.Dropped i)) (λ pt t sane on. label_fits pt t (Label.Dropped i) sane tt tt)
    (λ v t h. places_same v (view_after v (Line.Label (Label.Dropped i))) t (λ m q. dropped_known (handled v i) i (receiver_of (v.told i)) m q)
    (λ q. at_pid (view_after v (Line.Label (Label.Dropped i))).moves v.moves q (dropped_moves (handled v i) i (receiver_of (v.told i)))) h)

-- what follows an end: its queue goes, and others are told
pub buries_loose : (ms : List ℕ) → AllLoose (map (to_kernel MessageKind.Bury) ms)
buries_loose [] = tt
buries_loose (m ∷ ms) = (between_loose MessageKind.Bury m (λ pt. refl) (λ e. cc), buries_loose ms)

drops_then : (ids : List MsgId) (ps : List Part) → AllLoose ps → AllLoose (rule.drop_parts ids ++ ps)
drops_then [] ps h = h
drops_then (i ∷ is) ps h = (dropped_loose i, drops_then is ps h)

pub ends_loose : (o : Point) (m : ℕ) (p : Pid) → AllLoose (bury.ends_with o m p)
ends_loose o m p = drops_then (o.view.queue m p) (bury.buries o m p) (buries_loose (bury.preds_of o m p))

-- Where a message goes on, its address is on the trail; and where all is taken of a process that leaves, those of its messages are.

forwarded_moves : (v : View) (o : Option Pid) (q : Pid) → (forwarded_for v o).moves q ≡ v.moves q
forwarded_moves v o q = grind (arith, nat_tests)

back_walks : (pt : Point) (t : Trails) (sender : Pid) (m : ℕ) (c : Bool) → Places pt.view t → (c ≡ true → Sane pt → PutFits pt t (own_id pt.view) MessageKind.Update sender) → Walks pt t (if c then Owns MessageKind.Update sender m ∷ [] else [])
back_walks pt t sender m true h fits = λ sane on. (fits refl sane, λ next s. owns_leave MessageKind.Update sender m pt next t s h)
back_walks pt t sender m false h fits = h

pub forwards_walks : (pt : Point) (t : Trails) (id : MsgId) (u : Told) (sender : Pid) (to c : ℕ) → pt.view.told id ≡ Some u → pt.view.known pt.view.acting u.receiver ≡ Forward to c → Places pt.view t
    → (is_told_back u.kind ≡ true → Treads pt t → IsOn t sender (pt.addresses (Sender id))) → Walks pt t (forwards_on pt.addresses id u.kind sender to)
forwards_walks pt t id u sender to c told away h back = λ sane on. (
  record { u = u; d = to; n = c; told = told; away = away; for_it = λ q e. named_for pt id u q sane told e; outside = own_outside pt sane; fresh = own_fresh pt sane },
  (λ mid s.
      let k = said_by pt mid (Line.Forwarded id to) s in
      let first = moved pt (Line.Forwarded id to) k.kernel in
      let at : Places first.view t = places_same pt.view first.view t (λ m q. forwarded_known (handled pt.view id) (receiver_of (pt.view.told id)) m q) (λ q. forwarded_moves (handled pt.view id) (receiver_of (pt.view.told id)) q) h in
      subst (λ (p : Point). Walks p t (Again id to ∷ (if is_told_back u.kind then Owns MessageKind.Update sender (pt.addresses (Sender id)).at ∷ [] else []))) k.is
      (λ sane_ on_. (
        tt,
        (λ next r.
            let same = again_same first next id to r.lines r.are r.leads in
            back_walks next t sender (pt.addresses (Sender id)).at (is_told_back u.kind) (again_rides (λ (q : Point). Places q.view t) (places_ride t) first next id to r at)
            (λ yes_ later.
            let goes : next.addresses (Receiver (own_id next.view)) ≡ pt.addresses (Sender id) =
            same.addresses (Receiver (own_id next.view)) ∙ ap (λ (i : MsgId). first.addresses (Receiver i)) (same.own ∙ forwarded_own (handled pt.view id) (receiver_of (pt.view.told id)))
            ∙ forwarded_back pt.view pt.addresses id u told (other_id pt.view id u told (own_fresh pt sane)) yes_ in
            PutFits.Own (own_outside next later) (own_fresh next later) (subst (IsOn t sender) (sym goes) (back yes_ on)) (λ e. absurd (let f : MessageKind.Update ≡ MessageKind.Migrate = e in cc)))),
      ))),
)

pub apart_off : (m n : ℕ) → m ≢ n → (m == n) ≡ false
apart_off m n h = elim (cases_Bool (m == n)) [
  | inl same ↦ absurd (h (eq_is m n same))
  | inr off ↦ off
]

-- what came for a process was sent on
record Sent (q : Point) (u : Trails) (p : Pid) (d : ℕ) : Type 0 where
  holds : q.view.known q.view.acting p ≡ Frozen d
  at : slice_get (u p) (q.view.moves p + 1) ≡ Some d
  long : length (u p) ≡ q.view.moves p + 2
  apart : d ≢ q.view.acting
  none : (m : ℕ) → (q.view.acting == m) ≡ false → is_held (q.view.known m p) ≡ true → ⊥
  only : (k s : ℕ) → q.view.known k p ≡ Incoming s → k ≡ d
  other : Elsewhere q.view p
  others : (r : Pid) → pid_eq p r ≡ false → Placed q.view u r

sent_same : (u : Trails) (p : Pid) (d : ℕ) (q r : Point) → r.view.known ≡ q.view.known → r.view.acting ≡ q.view.acting → r.view.moves ≡ q.view.moves → Sent q u p d → Sent r u p d
sent_same u p d q r known acting moves h =
    let at : (m : ℕ) (x : Pid) → r.view.known m x ≡ q.view.known m x = λ m x. ap (λ (f : ℕ → Pid → Known). f m x) known in
    let same : r.view.moves p ≡ q.view.moves p = ap (λ (f : Pid → ℕ). f p) moves in
    record {
      holds = ap (λ (m : ℕ). r.view.known m p) acting ∙ at q.view.acting p ∙ h.holds;
      at = ap (λ (n : ℕ). slice_get (u p) (n + 1)) same ∙ h.at;
      long = h.long ∙ ap (λ (n : ℕ). n + 2) (sym same);
      apart = λ e. h.apart (e ∙ acting);
      none = λ m off held. h.none m (sym (ap (λ (a : ℕ). a == m) acting) ∙ off) (sym (ap is_held (at m p)) ∙ held);
      only = λ k s e. h.only k s (sym (at k p) ∙ e);
      other = record { machine = h.other.machine; off = ap (λ (a : ℕ). a == h.other.machine) acting ∙ h.other.off; there = ap is_away (at h.other.machine p) ∙ h.other.there };
      others = λ x off. placed_same q.view r.view u u x (λ m. at m x) (ap (λ (f : Pid → ℕ). f x) moves) refl (h.others x off);
    }

sent_rides : (u : Trails) (p : Pid) (d : ℕ) → Rides (λ (q : Point). Sent q u p d)
sent_rides u p d = record {
  put = λ pt a b i k q h. sent_same u p d pt (moved pt (Line.Put a b i k q) pt.kernel) refl refl refl h;
  packet = λ pt a b k l h. sent_same u p d pt (moved pt (Line.Packet a b k l) pt.kernel) refl refl refl h;
}

left_places : (q : Point) (u : Trails) (p : Pid) (d : ℕ) → Sent q u p d → Places (view_after q.view (Line.Migration Stage.Left p)) u
left_places q u p d h =
    let v = q.view in
    let w = view_after v (Line.Migration Stage.Left p) in
    let n = v.moves p + 1 in
    places_set v w u u p (gone_to (v.known v.acting p) n) refl (λ r apart. refl) (λ r apart. refl) h.others
    (λ learnt. placed_left v w u p d n (λ m. learnt m ∙ ap (λ (x : Known). if v.acting == m then gone_to x n else v.known m p) h.holds) refl h.at h.long h.none h.only h.other)

agains_walks : (u : Trails) (p : Pid) (d from to : ℕ) (ids : List MsgId) (q : Point) → Sent q u p d → Walks q u (sends_on to ids ++ Says (Line.Migration Stage.Left p) ∷ to_kernel MessageKind.Restart from ∷ [])
agains_walks u p d from to [] q h =
    let left_walks : (q : Point) (u : Trails) (p : Pid) (d from : ℕ) → Sent q u p d → Walks q u (Says (Line.Migration Stage.Left p) ∷ to_kernel MessageKind.Restart from ∷ []) = λ q u p d from h.
    first_walks (Line.Migration Stage.Left p) (to_kernel MessageKind.Restart from ∷ []) q u
    (λ sane on. (record { d = d; holds = h.holds; at = h.at; long = h.long; apart = h.apart }, λ next s. subst (λ (z : Point). Places z.view u) s.is (left_places q u p d h))) (to_between MessageKind.Restart from refl) in
    left_walks q u p d from h
agains_walks u p d from to (i ∷ is) q h = λ sane on. (tt, λ next s. agains_walks u p d from to is next (again_rides (λ (z : Point). Sent z u p d) (sent_rides u p d) q next i to s h))

sent_first : (pt : Point) (t : Trails) (p : Pid) (n s d : ℕ) (o : Option MsgId) (next : Point) → next.view ≡ view_after pt.view (Line.SentOn p n) → IsIn pt.view p (Moves MessageKind.AllTaken s d o) → pt.view.acting ≡ s → Places pt.view t → Sent next (trails_after pt.view t (Line.SentOn p n)) p d
sent_first pt t p n s d o next is phase acts h =
    let v = pt.view in
    let w = view_after v (Line.SentOn p n) in
    let u = trails_after v t (Line.SentOn p n) in
    let holds : v.known v.acting p ≡ Frozen d = ap (λ (m : ℕ). v.known m p) acts ∙ source_holds v p MessageKind.AllTaken s d o phase refl in
    let long = (h p).long v.acting (ap is_held holds) in
    let grown = sent_on_at v t p n d holds in
    let more : length (u p) ≡ length (t p) + 1 = ap length grown ∙ length-append (t p) (d ∷ []) in
    let first : Sent (record { kernel = next.kernel; view = w; addresses = next.addresses }) u p d = record {
      holds = holds;
      at = ap (λ (xs : List ℕ). slice_get xs (v.moves p + 1)) grown ∙ get_at_end (t p) d (v.moves p + 1) long;
      long = omega (arith, more, long);
      apart = λ e. two_apart v p MessageKind.AllTaken s d o phase (e ∙ acts);
      none = λ m off held. (let k = moves_held v p MessageKind.AllTaken s d m o phase held in false≢true (sym off ∙ ap (λ (i : ℕ). v.acting == i) (sym k.0 ∙ sym acts) ∙ eq_self v.acting));
      only = λ k from at. moves_comes v p MessageKind.AllTaken s d k from o phase at;
      other = record { machine = d; off = apart_off v.acting d (λ e. two_apart v p MessageKind.AllTaken s d o phase (sym e ∙ acts)); there = ap is_away (destination_expects v p MessageKind.AllTaken s d o phase refl refl) };
      others = λ r apart. placed_same v w t u r (λ m. refl) refl (ap (λ (c : Bool). if c then t p ++ destination (v.known v.acting p) else t r) apart) (h r);
    } in
    subst (λ (z : View). Sent (record { kernel = next.kernel; view = z; addresses = next.addresses }) u p d) (sym is) first

-- where all is taken of a process that leaves
pub leaves_walks : (pt : Point) (t : Trails) (id : MsgId) (p : Pid) (k : Known) (s d : ℕ) (o : Option MsgId) → IsIn pt.view p (Moves MessageKind.AllTaken s d o) → pt.view.acting ≡ s → Places pt.view t
    → (Sane pt → (i : MsgId) (q : Pid) → 1 ≤ times i (both_lists pt.view p) → Named pt.kernel pt.view (Receiver i) q → q ≡ p) → WalksOf pt t (leaves id p (both_lists pt.view p) k)
leaves_walks pt t id p (Frozen to) s d o phase acts h for = λ sane on.
    let ids = both_lists pt.view p in
    let u = trails_after pt.view t (Line.SentOn p (length ids)) in
    let holds : pt.view.known pt.view.acting p ≡ Frozen d = ap (λ (m : ℕ). pt.view.known m p) acts ∙ source_holds pt.view p MessageKind.AllTaken s d o phase refl in (
      record { s = s; d = d; o = o; phase = phase; acts = acts; long = (h p).long pt.view.acting (ap is_held holds); for_it = for sane },
      (λ next r.
          let k = said_by pt next (Line.SentOn p (length ids)) r in
          agains_walks u p d id.from.home to ids next (sent_first pt t p (length ids) s d o next (sym (ap (λ (z : Point). z.view) k.is)) phase acts h)),
    )
leaves_walks pt t id p _ s d o phase acts h for = tt
