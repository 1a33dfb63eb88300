-- What stands somewhere stands there behind messages that are put.
use Rattle.dm_law_mirror.proofs.Names.{◌≡◌, ℕ, ◌+◌, ◌≤◌, ◌==◌, Bool, true, false, List, [], ◌∷◌, ◌++◌, length, map, refl, ap, ◌∙◌, sym, subst, arith, if◌then◌else◌, Option, None, Some, Pid, MsgId, MessageKind, kind_of, plain_kind, PlainMessage}
use Rattle.dm_law_mirror.proofs.Names.{nat_tests, bind, bind-is, Line, Load, Stage, Receiver, Spelled, goes_out, puts, spelled, Point, after, moved, at_machine, Spot, standing, Told, View, is_own, own_id, fits_packet, fits_put, PairsFit, Sane}
use Rattle.dm_law_mirror.proofs.Names.{Placed, Mirrors, AllRecords, pid_of, Message, id_eq, id_of, id_eq-is, Gets, Sender, first_gives, given, own_given, not_kernels, put_told_off, not_first, zero, suc, drop, eqb-true, drop-append-le, Inbox}
use Rattle.dm_law_mirror.proofs.Names.{Untaken, times, untaken, Pair, after_packet, after_put, routed_on, two_of, put_spot, put_there, times-append, home_full, behind, sort_of, Known, inl, inr, told_of, Sort, Holder, holder_eq, Addresses}
use Rattle.dm_law_mirror.proofs.Names.{OneKernel, Place, Child, acting_place, manager, unmoved, gets, child_number, option_map, pid_eq, switchboard, incoming_of, Carries, cargo_at, destination_of, eq-eqb, cases_Bool, Cargo, LeftCarries}
use Rattle.dm_law_rule.specs.Parts as rule
use Rattle.std.specs.Option.{unwrap_or}
use Rattle.dm_law_rule.specs.Addresses.{known_place}
use Rattle.dm_law_rule.specs.Holders.{ToBoard}
use Rattle.dm_law_mirror.proofs.Turning.{own_behind, Route, First, On, Own, Late, Nothing, Leaves, MayPut, late_rule_parts, message_of, rule_part_of, MayOwn, AllMayPut, LateMay, late_owns, owns}
use Rattle.dm_law_mirror.proofs.Puts.{put_standing}
use Rattle.dm_law_mirror.proofs.Route.Puts.{after_route, route_keeps, route_more, told_stays, own_gives_same}
use Rattle.dm_law_mirror.proofs.Join.{put_end, plain_of, put_point}
use Rattle.dm_law_mirror.proofs.Turning as turning
use Rattle.dm_law_mirror.proofs.LeftOver.{known_due}

more_times : (j : MsgId) (xs ys : List MsgId) → 1 ≤ times j xs → 1 ≤ times j (xs ++ ys)
more_times j xs ys h = let a = times-append j xs ys in omega (arith, a, h)

all_gone : (i j : MsgId) (xs : List MsgId) (n : ℕ) → n ≡ length xs → 1 ≤ times j (drop n xs) → ⊥
all_gone i j [] zero e h = omega (arith, h)
all_gone i j [] (suc n) e h = omega (arith, e)
all_gone i j (x ∷ xs) zero e h = omega (arith, e)
all_gone i j (x ∷ xs) (suc n) e h = all_gone i j xs n (omega (arith, e)) h

pair_grows : (a b : ℕ) (p : Pair) (i j : MsgId) (c : Bool) → (a == b) ≡ c → p.taken ≤ length p.ids → (c ≡ true → p.taken ≡ length p.ids) → 1 ≤ times j (untaken p) → 1 ≤ times j (untaken (routed_on a b p i))
pair_grows a b p i j c e few full h = grind (arith, nat_tests, all_gone, drop-append-le, more_times)

pub put_grows : (v : View) (a b : ℕ) (i j : MsgId) (k : MessageKind) (q : Pid) → PairsFit v → (z : Spot) → 1 ≤ standing v j z → 1 ≤ standing (after_put v a b i k q) j z
put_grows v a b i j k q fits (Inbox n) h = grind (arith, nat_tests, eqb-true, more_times)
put_grows v a b i j k q fits (Untaken c d) h = grind (arith, nat_tests, two_of, pair_grows, fits.within a b, home_full v a b fits)
put_grows v a b i j k q fits _ h = h

-- behind the lines of a message that is put, with its packet
pub end_fits : (q : Point) (m c : ℕ) (x : Message) (home out : Bool) → PairsFit q.view → PairsFit (put_end q m c x home out).view
end_fits q m c x true out h = fits_put q.view m c x.id (kind_of x.what) x.to.pid h
end_fits q m c x false false h = fits_put q.view m c x.id (kind_of x.what) x.to.pid h
end_fits q m c x false true h = fits_packet (after_put q.view m c x.id (kind_of x.what) x.to.pid) m c (length (q.view.pair m c).wire) (Load.Data (length (q.view.pair m c).ids)) (fits_put q.view m c x.id (kind_of x.what) x.to.pid h)

pub end_there : (q : Point) (m c : ℕ) (x : Message) (home out : Bool) → PairsFit q.view → 1 ≤ standing (put_end q m c x home out).view x.id (put_spot m c)
end_there q m c x true out fits = put_there q.view m c x.id (kind_of x.what) x.to.pid fits
end_there q m c x false false fits = put_there q.view m c x.id (kind_of x.what) x.to.pid fits
end_there q m c x false true fits =
    let packet_grows : (v : View) (m c n : ℕ) (j : MsgId) (z : Spot) → 1 ≤ standing v j z → 1 ≤ standing (after_packet v m c (Load.Data n)) j z = λ v m c n j z h. subst (λ (k : ℕ). 1 ≤ k) (sym (put_standing v m c (Load.Data n) j z)) h in
    packet_grows (after_put q.view m c x.id (kind_of x.what) x.to.pid) m c (length (q.view.pair m c).ids) x.id (put_spot m c) (put_there q.view m c x.id (kind_of x.what) x.to.pid fits)

-- What may be put still may behind the put of another message.

-- the packet of a put leaves all that the next message is read by
pub record SameEnd (put end : Point) : Type 0 where
  pub kernel : end.kernel ≡ put.kernel
  pub addresses : end.addresses ≡ put.addresses
  pub acting : end.view.acting ≡ put.view.acting
  pub count : end.view.count ≡ put.view.count
  pub told : end.view.told ≡ put.view.told
  pub topic : end.view.topic ≡ put.view.topic
  pub asked : end.view.asked ≡ put.view.asked
  pub known : end.view.known ≡ put.view.known
  pub moves : end.view.moves ≡ put.view.moves
  pub groups : end.view.groups ≡ put.view.groups

pub same_end : (q : Point) (m c : ℕ) (x : Message) (home out : Bool) → SameEnd (put_point q m c x) (put_end q m c x home out)
same_end q m c x home out = grind (arith, nat_tests)

pub first_not_own : (pt : Point) (l : Placed) (records : AllRecords) (x : Message) → Sane pt → Mirrors pt.kernel pt.view pt.addresses l → MayPut pt l records 0 (First x) → is_own x.id (pt.view.told x.id) ≡ false
first_not_own pt l records x sane mirrors may =
    let there = plain_of pt l x mirrors may.0 may.1 in
    grind (arith, nat_tests, not_kernels sane.r sane.e pt.kernel x.id there.m there.there sane.sound)

pub on_not_own : (pt : Point) (l : Placed) (records : AllRecords) (x : Message) → MayPut pt l records 0 (On x) → is_own x.id (pt.view.told x.id) ≡ false
on_not_own pt l records x may = not_first x.id (pt.view.told x.id) may.1.0 may.1.1

-- how many own messages the machines count
own_counted : (i : MsgId) (o : Option Told) (f : ℕ → ℕ) (m n : ℕ) → is_own i o ≡ true → i.from.home ≡ m → (if is_own i o then at_machine f i.from.home (f i.from.home + 1) else f) n ≡ at_machine f m (f m + 1) n
own_counted i o f m n own home = ap (λ (t : Bool). (if t then at_machine f i.from.home (f i.from.home + 1) else f) n) own ∙ ap (λ (k : ℕ). at_machine f k (f k + 1) n) home

set_here : (f : ℕ → ℕ) (m x n : ℕ) → (m == n) ≡ true → at_machine f m x n ≡ x
set_here f m x n e = ap (λ (t : Bool). if t then x else f n) e

set_off : (f : ℕ → ℕ) (m x n : ℕ) → (m == n) ≡ false → at_machine f m x n ≡ f n
set_off f m x n e = ap (λ (t : Bool). if t then x else f n) e

pub count_here : (pt : Point) (l : Placed) (records : AllRecords) (m : ℕ) (r : Route) (home out : Bool) → Sane pt → Mirrors pt.kernel pt.view pt.addresses l → pt.view.acting ≡ m → (m == m) ≡ true → MayPut pt l records 0 r
    → (put_end pt m (message_of r).to.at (message_of r) home out).view.count m ≡ pt.view.count m + turning.is_own r
count_here pt l records m (First x) home out sane mirrors acting self may =
    ap (λ (f : ℕ → ℕ). f m) (same_end pt m x.to.at x home out).count
    ∙ ap (λ (t : Bool). (if t then at_machine pt.view.count x.id.from.home (pt.view.count x.id.from.home + 1) else pt.view.count) m) (first_not_own pt l records x sane mirrors may) ∙ omega arith
count_here pt l records m (On x) home out sane mirrors acting self may = grind (arith, nat_tests, same_end, on_not_own)
count_here pt l records m (Own x) home out sane mirrors acting self may = grind (arith, nat_tests, same_end, own_counted, set_here)

pub count_off : (pt : Point) (l : Placed) (records : AllRecords) (m n : ℕ) (r : Route) (home out : Bool) → Sane pt → Mirrors pt.kernel pt.view pt.addresses l → pt.view.acting ≡ m → (m == n) ≡ false → MayPut pt l records 0 r
    → (put_end pt m (message_of r).to.at (message_of r) home out).view.count n ≡ pt.view.count n
count_off pt l records m n (First x) home out sane mirrors acting off may =
    ap (λ (f : ℕ → ℕ). f n) (same_end pt m x.to.at x home out).count
    ∙ ap (λ (t : Bool). (if t then at_machine pt.view.count x.id.from.home (pt.view.count x.id.from.home + 1) else pt.view.count) n) (first_not_own pt l records x sane mirrors may)
count_off pt l records m n (On x) home out sane mirrors acting off may = grind (arith, nat_tests, same_end, on_not_own)
count_off pt l records m n (Own x) home out sane mirrors acting off may = grind (arith, nat_tests, same_end, own_counted, set_off)

-- what may be put as a kernel's own behind so many others still may, behind so many
record Keeps (pt end : Point) (y : Message) (i j : ℕ) : Type 0 where
  kernel : end.kernel ≡ pt.kernel
  acting : end.view.acting ≡ pt.view.acting
  own : own_behind pt.view i ≡ own_behind end.view j
  told : end.view.told y.id ≡ pt.view.told y.id
  topic : end.view.topic ≡ pt.view.topic
  asked : end.view.asked ≡ pt.view.asked
  known : end.view.known ≡ pt.view.known
  moves : end.view.moves ≡ pt.view.moves
  -- its own addresses, and those of the manager's children and of the switchboard
  receiver : end.addresses (Receiver y.id) ≡ pt.addresses (Receiver y.id)
  sender : end.addresses (Sender y.id) ≡ pt.addresses (Sender y.id)
  child : (n : ℕ) → end.addresses (Child n) ≡ pt.addresses (Child n)
  board : end.addresses ToBoard ≡ pt.addresses ToBoard

-- what its put gives it goes by these alone
given_as : (a c : Addresses) (gs : List Gets) (h : Holder) → c h ≡ a h → given c gs h ≡ given a gs h
given_as a c [] h e = e
given_as a c (g ∷ gs) h e = λ i. if holder_eq g.holder h then g.place else given_as a c gs h e i

own_given_as : (s : OneKernel) (v : View) (a c : Addresses) (id : MsgId) (q : Pid) (k : Sort) → ((n : ℕ) → c (Child n) ≡ a (Child n)) → c ToBoard ≡ a ToBoard → own_given s v c id q k ≡ own_given s v a id q k
own_given_as s v a c id q Sort.Request e f =
    λ i. gets (Receiver id) (unwrap_or (if pid_eq q switchboard then Some (f i) else if pid_eq q manager then Some (record { at = v.acting; moves = v.moves q }) else option_map (λ (n : ℕ). e n i) (child_number s q)) (unmoved 0))
    ∷ gets (Sender id) (acting_place v manager) ∷ []
own_given_as s v a c id q k e f = refl

own_stays : (pt end : Point) (l u : Placed) (records : AllRecords) (y : Message) (i j : ℕ) → Keeps pt end y i j → ((p : Pid) → cargo_at u p ≡ cargo_at l p) → u.bag y.id ≡ None → MayOwn pt l records i y → MayOwn end u records j y
own_stays pt end l u records y i j k cargo none may =
    let sort = sort_of (kind_of y.what) in
    let gives : own_given end.kernel end.view end.addresses y.id y.to.pid sort ≡ own_given pt.kernel pt.view pt.addresses y.id y.to.pid sort =
    (λ i. own_given (k.kernel i) end.view end.addresses y.id y.to.pid sort)
    ∙ own_gives_same pt.kernel pt.view end.view end.addresses y.id y.to.pid (kind_of y.what) k.acting k.moves
    ∙ own_given_as pt.kernel pt.view pt.addresses end.addresses y.id y.to.pid sort k.child k.board in
    let place : (h : Holder) → end.addresses h ≡ pt.addresses h → given end.addresses (own_given end.kernel end.view end.addresses y.id y.to.pid sort) h ≡ given pt.addresses (own_given pt.kernel pt.view pt.addresses y.id y.to.pid sort) h =
    λ h e. ap (λ (g : List Gets). given end.addresses g h) gives ∙ given_as pt.addresses end.addresses (own_given pt.kernel pt.view pt.addresses y.id y.to.pid sort) h e in
    record {
      id = may.id ∙ k.own;
      plain = may.plain;
      encloses = may.encloses;
      bag = none;
      untold = k.told ∙ may.untold;
      receiver = place (Receiver y.id) k.receiver ∙ may.receiver;
      sender = place (Sender y.id) k.sender ∙ may.sender;
      about = k.topic ∙ may.about;
      asker = may.asker;
      carried = λ between p about. elim (may.carried between p about) [
        | inl c ↦ inl (record { cargo = c.cargo; there = cargo p ∙ c.there; sender = c.sender; carries = subst (λ (f : Pid → ℕ). Carries p c.cargo (f p) (incoming_of (records (destination_of y.id (told_of y)) p)) y.what) (sym k.asked) c.carries })
        | inr c ↦
            inr (record { over = known_due pt.view end.view p y.id (told_of y) (λ n. ap (λ (f : ℕ → Pid → Known). f n p) k.known) ∙ c.over; sender = c.sender; carries = subst (λ (o : Option Cargo). LeftCarries p o y.what) (sym (cargo p)) c.carries })
      ];
    }

apart_bag : (l : Placed) (x y : Message) → l.bag x.id ≡ Some x → l.bag y.id ≡ None → id_eq x.id y.id ≡ false
apart_bag l x y there none = grind (arith, nat_tests, id_eq-is)

-- a put of a message that isn't the kernel's own
keeps_own : (pt : Point) (l : Placed) (m c : ℕ) (x y : Message) (j : ℕ) (home out : Bool) → is_own x.id (pt.view.told x.id) ≡ false → first_gives (pt.view.told x.id) (own_given pt.kernel pt.view pt.addresses x.id x.to.pid (sort_of (kind_of x.what))) ≡ [] → id_eq x.id y.id ≡ false
    → Keeps pt (put_end pt m c x home out) y (0 + j) j
keeps_own pt l m c x y j home out other gives apart =
    let s = same_end pt m c x home out in
    let places : (put_end pt m c x home out).addresses ≡ pt.addresses = s.addresses ∙ ap (λ (g : List Gets). given pt.addresses g) gives in
    let same : 0 + j ≡ j = omega arith in
    let now : own_behind (put_end pt m c x home out).view j ≡ own_behind pt.view j =
    (λ i. id_of (pid_of (s.acting i) 0) (s.count i (s.acting i) + j))
    ∙ ap (λ (t : Bool). id_of (pid_of pt.view.acting 0) ((if t then at_machine pt.view.count x.id.from.home (pt.view.count x.id.from.home + 1) else pt.view.count) pt.view.acting + j)) other in
    record {
      kernel = s.kernel;
      acting = s.acting;
      own = ap (own_behind pt.view) same ∙ sym now;
      told = ap (λ (f : MsgId → Option Told). f y.id) s.told ∙ put_told_off pt.view m c x.id y.id (kind_of x.what) x.to.pid apart;
      topic = s.topic;
      asked = s.asked;
      known = s.known;
      moves = s.moves;
      receiver = ap (λ (a : Addresses). a (Receiver y.id)) places;
      sender = ap (λ (a : Addresses). a (Sender y.id)) places;
      child = λ n. ap (λ (a : Addresses). a (Child n)) places;
      board = ap (λ (a : Addresses). a ToBoard) places;
    }

-- two of the kernel's own have different names
own_apart : (v : View) (x y : Message) (j : ℕ) → x.id ≡ own_behind v 0 → y.id ≡ own_behind v (1 + j) → id_eq x.id y.id ≡ false
own_apart v x y j first more = elim (cases_Bool (id_eq x.id y.id)) [
  | inl same ↦
      let numbers : v.count v.acting + 0 ≡ v.count v.acting + (1 + j) = sym (ap (λ (i : MsgId). i.n) first) ∙ ap (λ (i : MsgId). i.n) (id_eq-is x.id y.id same) ∙ ap (λ (i : MsgId). i.n) more in
      absurd (omega (arith, numbers))
  | inr off ↦ off
]

-- what the put of one of them gives, it gives that one
both_apart : (a : Addresses) (id : MsgId) (x y : Place) (h : Holder) → holder_eq (Receiver id) h ≡ false → holder_eq (Sender id) h ≡ false → given a (gets (Receiver id) x ∷ gets (Sender id) y ∷ []) h ≡ a h
both_apart a id x y h e f = ap (λ (t : Bool). if t then x else if holder_eq (Sender id) h then y else a h) e ∙ ap (λ (t : Bool). if t then y else a h) f

gives_apart : (a : Addresses) (s : OneKernel) (v : View) (c : Addresses) (id : MsgId) (q : Pid) (k : Sort) (h : Holder) → holder_eq (Receiver id) h ≡ false → holder_eq (Sender id) h ≡ false → given a (own_given s v c id q k) h ≡ a h
gives_apart a s v c id q Sort.Request h e f = both_apart a id (unwrap_or (known_place s v v.acting c q) (unmoved 0)) (acting_place v manager) h e f
gives_apart a s v c id q (Sort.Between passage) h e f = both_apart a id (unmoved q.home) (unmoved v.acting) h e f
gives_apart a s v c id q Sort.Buries h e f = both_apart a id (unmoved q.home) (unmoved v.acting) h e f
gives_apart a s v c id q k h e f = refl

-- a put of one of the kernel's own
keeps_next : (pt : Point) (l : Placed) (records : AllRecords) (m : ℕ) (x y : Message) (j : ℕ) (home out : Bool) → Sane pt → Mirrors pt.kernel pt.view pt.addresses l → pt.view.acting ≡ m → MayOwn pt l records 0 x → MayOwn pt l records (1 + j) y
    → Keeps pt (put_end pt m x.to.at x home out) y (1 + j) j
keeps_next pt l records m x y j home out sane mirrors acting first more =
    let s = same_end pt m x.to.at x home out in
    let apart = own_apart pt.view x y j first.id more.id in
    let new : first_gives (pt.view.told x.id) (own_given pt.kernel pt.view pt.addresses x.id x.to.pid (sort_of (kind_of x.what))) ≡ own_given pt.kernel pt.view pt.addresses x.id x.to.pid (sort_of (kind_of x.what)) =
    ap (λ (t : Option Told). first_gives t (own_given pt.kernel pt.view pt.addresses x.id x.to.pid (sort_of (kind_of x.what)))) first.untold in
    let places : (put_end pt m x.to.at x home out).addresses ≡ given pt.addresses (own_given pt.kernel pt.view pt.addresses x.id x.to.pid (sort_of (kind_of x.what))) = s.addresses ∙ ap (given pt.addresses) new in
    let stay : (h : Holder) → holder_eq (Receiver x.id) h ≡ false → holder_eq (Sender x.id) h ≡ false → (put_end pt m x.to.at x home out).addresses h ≡ pt.addresses h =
    λ h e f. ap (λ (a : Addresses). a h) places ∙ gives_apart pt.addresses pt.kernel pt.view pt.addresses x.id x.to.pid (sort_of (kind_of x.what)) h e f in
    let count : (put_end pt m x.to.at x home out).view.count m ≡ pt.view.count m + 1 = count_here pt l records m (Own x) home out sane mirrors acting (eq-eqb m m refl) first in
    let number : pt.view.count m + (1 + j) ≡ (put_end pt m x.to.at x home out).view.count m + j = omega (arith, count) in
    let here : (put_end pt m x.to.at x home out).view.acting ≡ m = s.acting ∙ acting in
    let before : own_behind pt.view (1 + j) ≡ id_of (pid_of m 0) (pt.view.count m + (1 + j)) = ap (λ (n : ℕ). id_of (pid_of n 0) (pt.view.count n + (1 + j))) acting in
    let now : own_behind (put_end pt m x.to.at x home out).view j ≡ id_of (pid_of m 0) ((put_end pt m x.to.at x home out).view.count m + j) =
    ap (λ (n : ℕ). id_of (pid_of n 0) ((put_end pt m x.to.at x home out).view.count n + j)) here in
    record {
      kernel = s.kernel;
      acting = s.acting;
      own = before ∙ ap (id_of (pid_of m 0)) number ∙ sym now;
      told = ap (λ (f : MsgId → Option Told). f y.id) s.told ∙ put_told_off pt.view m x.to.at x.id y.id (kind_of x.what) x.to.pid apart;
      topic = s.topic;
      asked = s.asked;
      known = s.known;
      moves = s.moves;
      receiver = stay (Receiver y.id) apart refl;
      sender = stay (Sender y.id) refl apart;
      child = λ n. stay (Child n) refl refl;
      board = stay ToBoard refl refl;
    }

-- what holds of an own message behind another message that is put
pub own_on : (pt : Point) (l : Placed) (records : AllRecords) (m : ℕ) (r : Route) (y : Message) (j : ℕ) (home out : Bool) → Sane pt → Mirrors pt.kernel pt.view pt.addresses l → pt.view.acting ≡ m → MayPut pt l records 0 r → MayOwn pt l records (turning.is_own r + j) y
    → MayOwn (put_end pt m (message_of r).to.at (message_of r) home out) (after_route l r) records j y
own_on pt l records m (First x) y j home out sane mirrors acting may own =
    own_stays pt (put_end pt m x.to.at x home out) l l records y (0 + j) j
    (keeps_own pt l m x.to.at x y j home out (first_not_own pt l records x sane mirrors may) (route_keeps pt l records m (First x) refl may mirrors) (apart_bag l x y may.0 own.bag)) (λ p. refl) own.bag own
own_on pt l records m (On x) y j home out sane mirrors acting may own =
    own_stays pt (put_end pt m x.to.at x home out) l l records y (0 + j) j
    (keeps_own pt l m x.to.at x y j home out (on_not_own pt l records x may) (route_keeps pt l records m (On x) refl may mirrors) (apart_bag l x y may.0 own.bag)) (λ p. refl) own.bag own
own_on pt l records m (Own x) y j home out sane mirrors acting may own =
    own_stays pt (put_end pt m x.to.at x home out) l (after_route l (Own x)) records y (1 + j) j (keeps_next pt l records m x y j home out sane mirrors acting may own) (λ p. refl)
    (ap (λ (c : Bool). if c then Some x else l.bag y.id) (own_apart pt.view x y j may.id own.id) ∙ own.bag) own

pub may_on : (pt : Point) (l : Placed) (records : AllRecords) (m : ℕ) (r s : Route) (j : ℕ) (home out : Bool) → Sane pt → Mirrors pt.kernel pt.view pt.addresses l → pt.view.acting ≡ m → MayPut pt l records 0 r → MayPut pt l records (turning.is_own r + j) s
    → MayPut (put_end pt m (message_of r).to.at (message_of r) home out) (after_route l r) records j s
may_on pt l records m r (First y) j home out sane mirrors acting may h = ((route_more pt l records r may).bag y.id y h.0, h.1)
may_on pt l records m r (On y) j home out sane mirrors acting may h =
    let x : Message = message_of r in
    let e = same_end pt m x.to.at x home out in
    let told = ap (λ (f : MsgId → Option Told). f y.id) e.told ∙ told_stays pt.view m x.to.at x.id (kind_of x.what) x.to.pid y.id h.1.0 h.1.1 in
    ((route_more pt l records r may).bag y.id y h.0, (h.1.0, told, h.1.2, h.1.3), h.2)
may_on pt l records m r (Own y) j home out sane mirrors acting may h = own_on pt l records m r y j home out sane mirrors acting may h

pub all_may_on : (pt : Point) (l : Placed) (records : AllRecords) (m : ℕ) (r : Route) (rs : List Route) (j : ℕ) (home out : Bool) → Sane pt → Mirrors pt.kernel pt.view pt.addresses l → pt.view.acting ≡ m → MayPut pt l records 0 r → AllMayPut pt l records (turning.is_own r + j) rs
    → AllMayPut (put_end pt m (message_of r).to.at (message_of r) home out) (after_route l r) records j rs
all_may_on pt l records m r [] j home out sane mirrors acting may h = tt
all_may_on pt l records m r (s ∷ rs) j home out sane mirrors acting may h =
    let n : ℕ = turning.is_own r in
    let next : (n + j) + turning.is_own s ≡ n + (j + turning.is_own s) = omega arith in (
      may_on pt l records m r s j home out sane mirrors acting may h.0,
      all_may_on pt l records m r rs (j + turning.is_own s) home out sane mirrors acting may (subst (λ (k : ℕ). AllMayPut pt l records k rs) next h.1),
    )

pub late_may_on : (pt : Point) (l : Placed) (records : AllRecords) (m : ℕ) (r : Route) (late : Late) (j : ℕ) (home out : Bool) → Sane pt → Mirrors pt.kernel pt.view pt.addresses l → pt.view.acting ≡ m → MayPut pt l records 0 r → LateMay pt l records (turning.is_own r + j) late
    → LateMay (put_end pt m (message_of r).to.at (message_of r) home out) (after_route l r) records j late
late_may_on pt l records m r Nothing j home out sane mirrors acting may h = tt
late_may_on pt l records m r (Leaves p y) j home out sane mirrors acting may h = own_on pt l records m r y j home out sane mirrors acting may h

-- The parts of a group that route messages, one after the other: what stands somewhere stays there, and what is counted.

-- a part first, and then the others
pub record Next (q : Point) (p : rule.Part) (ps : List rule.Part) (v : Spelled) : Type 0 where
  pub lines : List Line
  pub is : rule.lines_of q p ≡ Some lines
  pub next : Point
  pub leads : after q lines ≡ Some next
  pub rest : Spelled
  pub on : spelled next ps ≡ Some rest
  pub whole : behind lines rest ≡ v

pub next_of : (q : Point) (p : rule.Part) (ps : List rule.Part) (v : Spelled) → spelled q (p ∷ ps) ≡ Some v → Next q p ps v
next_of q p ps v e =
    let (ls, lines, more) = bind-is (rule.lines_of q p) (λ (xs : List Line). bind (after q xs) (λ (n : Point). bind (spelled n ps) (λ (z : Spelled). Some (behind xs z)))) v e in
    let (next, leads, last) = bind-is (after q ls) (λ (n : Point). bind (spelled n ps) (λ (z : Spelled). Some (behind ls z))) v more in
    let (rest, on, is) = bind-is (spelled next ps) (λ (z : Spelled). Some (behind ls z)) v last in
    let f : behind ls rest ≡ v = cc in
    record { lines = ls; is = lines; next = next; leads = leads; rest = rest; on = on; whole = f }

-- what parts leave that put messages
pub record Grows (q end : Point) : Type 0 where
  pub fits : PairsFit end.view
  pub spots : (i : MsgId) (z : Spot) → 1 ≤ standing q.view i z → 1 ≤ standing end.view i z
  pub kernel : end.kernel ≡ q.kernel

pub grows_same : (q : Point) → PairsFit q.view → Grows q q
grows_same q fits = record { fits = fits; spots = λ i z h. h; kernel = refl }

grows_then : (q mid end : Point) → Grows q mid → Grows mid end → Grows q end
grows_then q mid end a c = record { fits = c.fits; spots = λ i z h. c.spots i z (a.spots i z h); kernel = c.kernel ∙ a.kernel }

grows_packet : (q : Point) (a c k n : ℕ) → PairsFit q.view → Grows q (moved q (Line.Packet a c k (Load.Data n)) q.kernel)
grows_packet q a c k n fits = record { fits = fits_packet q.view a c k (Load.Data n) fits; spots = λ i z h. subst (λ (j : ℕ). 1 ≤ j) (sym (put_standing q.view a c (Load.Data n) i z)) h; kernel = refl }

grows_more : (mid end : Point) (a c k n : ℕ) (s t : Bool) → after mid (if s then [] else if t then Line.Packet a c k (Load.Data n) ∷ [] else []) ≡ Some end → PairsFit mid.view → Grows mid end
grows_more mid end a c k n true t e fits = let f : mid ≡ end = cc in subst (Grows mid) f (grows_same mid fits)
grows_more mid end a c k n false false e fits = let f : mid ≡ end = cc in subst (Grows mid) f (grows_same mid fits)
grows_more mid end a c k n false true e fits =
    let f : moved mid (Line.Packet a c k (Load.Data n)) mid.kernel ≡ end = cc in
    subst (Grows mid) f (grows_packet mid a c k n fits)

grows_puts : (q end : Point) (c : ℕ) (id : MsgId) (k : MessageKind) (t : Pid) (ls : List Line) → Some (puts q.view c id k t) ≡ Some ls → after q ls ≡ Some end → PairsFit q.view → Grows q end
grows_puts q end c id k t ls is leads fits =
    let a : ℕ = q.view.acting in
    let mid : Point = moved q (Line.Put a c id k t) q.kernel in
    let f : puts q.view c id k t ≡ ls = cc in
    let g : Grows q (moved q (Line.Put a c id k t) q.kernel) = record { fits = fits_put q.view a c id k t fits; spots = λ i z h. put_grows q.view a c id i k t fits z h; kernel = refl } in
    grows_then q mid end g (grows_more mid end a c (length (q.view.pair a c).wire) (length (q.view.pair a c).ids) (a == c) (goes_out (q.view.pair a c)) (ap (after q) f ∙ leads) g.fits)

route_grows : (q end : Point) (r : Route) (ls : List Line) → rule.lines_of q (rule_part_of r) ≡ Some ls → after q ls ≡ Some end → PairsFit q.view → Grows q end
route_grows q end (First x) ls is leads fits =
    let at : ℕ = (q.addresses (Receiver x.id)).at in
    let (y, there, last) = bind-is (q.kernel.bag x.id) (λ (z : PlainMessage). Some (puts q.view at x.id (plain_kind z.what) z.to)) ls is in
    grows_puts q end at x.id (plain_kind y.what) y.to ls last leads fits
route_grows q end (On x) ls is leads fits =
    let (t, there, last) = bind-is (q.view.told x.id) (λ (z : Told). Some (puts q.view x.to.at x.id z.kind z.receiver)) ls is in
    grows_puts q end x.to.at x.id t.kind t.receiver ls last leads fits
route_grows q end (Own x) ls is leads fits = grows_puts q end x.to.at (own_id q.view) (kind_of x.what) x.to.pid ls is leads fits

left_grows : (q end : Point) (p : Pid) (ls : List Line) → rule.lines_of q (rule.Says (Line.Migration Stage.Left p)) ≡ Some ls → after q ls ≡ Some end → PairsFit q.view → Grows q end
left_grows q end p ls is leads fits =
    -- a process leaves
    let left_spots : (q : Point) (p : Pid) (i : MsgId) (z : Spot) → standing (moved q (Line.Migration Stage.Left p) q.kernel).view i z ≡ standing q.view i z = λ q p i z. grind (arith, nat_tests) in
    let l : Line = Line.Migration Stage.Left p in
    let f : l ∷ [] ≡ ls = cc in
    let same : Some (moved q l q.kernel) ≡ Some end = ap (after q) f ∙ leads in
    let g : moved q l q.kernel ≡ end = cc in
    subst (Grows q) g (record { fits = record { within = fits.within; home = fits.home }; spots = λ i z h. subst (λ (n : ℕ). 1 ≤ n) (sym (left_spots q p i z)) h; kernel = refl })

nothing_grows : (q : Point) (v : Spelled) → spelled q [] ≡ Some v → PairsFit q.view → Grows q v.point
nothing_grows q v e fits =
    let z : Spelled = record { lines = []; point = q } in
    let f : z ≡ v = cc in
    subst (λ (u : Spelled). Grows q u.point) f (grows_same q fits)

late_grows : (late : Late) (q : Point) (v : Spelled) → spelled q (late_rule_parts late) ≡ Some v → PairsFit q.view → Grows q v.point
late_grows Nothing q v e fits = nothing_grows q v e fits
late_grows (Leaves p x) q v e fits =
    let n = next_of q (rule.Says (Line.Migration Stage.Left p)) (rule_part_of (Own x) ∷ []) v e in
    let g = left_grows q n.next p n.lines n.is n.leads fits in
    let k = next_of n.next (rule_part_of (Own x)) [] n.rest n.on in
    let j = route_grows n.next k.next (Own x) k.lines k.is k.leads g.fits in
    let i = nothing_grows k.next k.rest k.on j.fits in
    let whole : k.rest.point ≡ v.point = ap (λ (z : Spelled). z.point) k.whole ∙ ap (λ (z : Spelled). z.point) n.whole in
    subst (Grows q) whole (grows_then q n.next k.rest.point g (grows_then n.next k.next k.rest.point j i))

pub all_grow : (rs : List Route) (late : Late) (q : Point) (v : Spelled) → spelled q (map rule_part_of rs ++ late_rule_parts late) ≡ Some v → PairsFit q.view → Grows q v.point
all_grow [] late q v e fits = late_grows late q v e fits
all_grow (r ∷ rs) late q v e fits =
    let n = next_of q (rule_part_of r) (map rule_part_of rs ++ late_rule_parts late) v e in
    let g = route_grows q n.next r n.lines n.is n.leads fits in
    let j = all_grow rs late n.next n.rest n.on g.fits in
    subst (Grows q) (ap (λ (z : Spelled). z.point) n.whole) (grows_then q n.next n.rest.point g j)
