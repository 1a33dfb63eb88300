-- What is said of the servers at the end, and of the messages on the way between two machines.
use Rattle.dm_law_mirror.proofs.Names.{◌≡◌, ◌≢◌, ℕ, suc, ◌+◌, ◌-◌, ◌==◌, Bool, true, false, List, [], ◌∷◌, ◌++◌, map, drop, refl, ap, ◌∙◌, sym, arith, if◌then◌else◌, slice_get, Some, nat_tests, drop-drop, drop-map, drop_all, Addr, place_of}
use Rattle.dm_law_mirror.proofs.Names.{Place, plain_link, Message, Boot, manager, Switchboard, Manager, Named, plain_named, plain_child, plain_pending, EndLine, Addresses, Child, Name, list_line, HomeStands, Point}
use Rattle.dm_law_mirror.proofs.Names.{Placed, Mirrors, WorldState, History, PairStands, zero, ◌<◌, Option, None, Pid, pid_of, MsgId, first_number, or, home_with, joined_below, AreMessages, option_map, Link, link_at, Process, plain_process}
use Rattle.dm_law_mirror.proofs.Names.{Standing, Slot, ◌⊎◌, subst, inl, inr, cases_Bool, false≢true, MessageKind, Phase, Rests, Moves, IsIn, IsToken, kind_comes, is_away, is_due, is_restart, kind_leaves, View, Known, is_gone, Here, Frozen}
use Rattle.dm_law_mirror.proofs.Names.{Incoming, eq_self, is_it, left_true, not_false, message_id, not, ◌&&◌, Pending}
use Rattle.dm_message.specs.Ids as message
use Rattle.dm_law_rule.specs.Ends as rule
use Rattle.dm_law_rule.specs.Spots as spots
use Rattle.dm_world.specs.Ends as world

-- the names of the switchboard
names_same : (a : Addresses) (n : ℕ) (ks : List Named) → ((j : ℕ) (k : Named) → slice_get ks j ≡ Some k → a (Name (n + j)) ≡ place_of k.link.addr) → world.name_lines ks ≡ rule.name_lines a n (map plain_named ks)
names_same a n [] leads = refl
names_same a n (k ∷ ks) leads =
    let here : a (Name n) ≡ place_of k.link.addr = ap (λ (i : ℕ). a (Name i)) (let f : n ≡ n + 0 = omega arith in f) ∙ leads 0 k refl in
    let rest = names_same a (n + 1) ks (λ j k2 e. ap (λ (i : ℕ). a (Name i)) (let f : n + 1 + j ≡ n + suc j = omega arith in f) ∙ leads (suc j) k2 e) in
    ap (λ (q : Place). EndLine.Name (record { items = k.name }) (rule.leading (plain_link k.link) q) ∷ world.name_lines ks) (sym here)
    ∙ ap (λ (ls : List EndLine). EndLine.Name (record { items = k.name }) (rule.leading (plain_link k.link) (a (Name n))) ∷ ls) rest

-- the children of the manager, and its requests
children_same : (a : Addresses) (n : ℕ) (cs : List Addr) → ((j : ℕ) (c : Addr) → slice_get cs j ≡ Some c → a (Child (n + j)) ≡ place_of c) → world.child_lines n cs ≡ rule.child_lines a n (map plain_child cs)
children_same a n [] leads = refl
children_same a n (c ∷ cs) leads =
    let here : a (Child n) ≡ place_of c = ap (λ (i : ℕ). a (Child i)) (let f : n ≡ n + 0 = omega arith in f) ∙ leads 0 c refl in
    let rest = children_same a (n + 1) cs (λ j d e. ap (λ (i : ℕ). a (Child i)) (let f : n + 1 + j ≡ n + suc j = omega arith in f) ∙ leads (suc j) d e) in
    ap (λ (q : Place). EndLine.Child n c.pid q.at ∷ world.child_lines (n + 1) cs) (sym here) ∙ ap (λ (ls : List EndLine). EndLine.Child n c.pid (a (Child n)).at ∷ ls) rest

pending_same : (rs : List Pending) → world.pending_lines rs ≡ rule.pending_lines (map plain_pending rs)
pending_same [] = refl
pending_same (r ∷ rs) = ap (λ (ls : List EndLine). EndLine.Pending (message.id_of manager r.n) ∷ ls) (pending_same rs)

-- what the switchboard keeps, and what the manager does
pub names_said : (pt : Point) (l : Placed) → Mirrors pt.kernel pt.view pt.addresses l → world.name_lines l.board.names ≡ rule.name_lines pt.addresses 0 pt.kernel.switchboard.names
names_said pt l h =
    let a = pt.addresses in
    names_same a 0 l.board.names (λ j k e. ap (λ (i : ℕ). a (Name i)) (let f : 0 + j ≡ j = omega arith in f) ∙ h.places.name j k e)
    ∙ ap (λ (b : Switchboard). rule.name_lines a 0 b.names) h.plain.board

-- the lines of the manager
abbrev kept_of : Addresses → Manager → List EndLine
kept_of a g = rule.child_lines a 1 g.children ++ rule.pending_lines g.pending

pub children_said : (pt : Point) (l : Placed) → Mirrors pt.kernel pt.view pt.addresses l
    → world.child_lines 1 l.manager.children ++ world.pending_lines l.manager.pending ≡ rule.child_lines pt.addresses 1 pt.kernel.manager.children ++ rule.pending_lines pt.kernel.manager.pending
children_said pt l h =
    let a = pt.addresses in
    ap (λ (ls : List EndLine). ls ++ world.pending_lines l.manager.pending) (children_same a 1 l.manager.children (λ j c e. ap (λ (i : ℕ). a (Child i)) (let f : 1 + j ≡ suc j = omega arith in f) ∙ h.places.child (suc j) c e))
    ∙ ap (λ (ls : List EndLine). rule.child_lines a 1 (map plain_child l.manager.children) ++ ls) (pending_same l.manager.pending)
    ∙ ap (kept_of a) h.plain.manager

-- where a server stands, as the machine says it and as the lines do
here_same : (s : Standing) → world.stands_here s ≡ rule.stands_here s
here_same Standing.Here = refl
here_same Standing.Leaving = refl
here_same Standing.Arriving = refl

place_same : (m : ℕ) (p : Pid) (s : Standing) (c : Bool) → (if c then [] else EndLine.Place p m s ∷ []) ≡ (if not c then EndLine.Place p m s ∷ [] else [])
place_same m p s true = refl
place_same m p s false = refl

pub sent_same : (m : ℕ) (p : Pid) (s : Standing) (sent : ℕ) → world.sent_lines m p s sent ≡ rule.sent_lines p sent (Some (record { at = m; standing = s }))
sent_same m p s sent =
    ap (λ (c : Bool). EndLine.Server p sent ∷ (if (m == 0) && c then [] else EndLine.Place p m s ∷ [])) (here_same s)
    ∙ ap (λ (ls : List EndLine). EndLine.Server p sent ∷ ls) (place_same m p s ((m == 0) && rule.stands_here s))

-- the messages that one machine has for another, and that were not taken yet
untaken_said : (b : Boot) (pt : Point) (l : Placed) (w : WorldState) (h : History) (a c : ℕ) → PairStands b pt l w h a c → world.names_of (world.untaken w a c) ≡ spots.untaken (pt.view.pair a c)
untaken_said b pt l w h a c p =
    let s = (w.nodes a).senders c in
    let r = (w.nodes c).receivers a in
    let given = h.given a c in
    let order = p.stream.in_order in
    ap (λ (ms : List Message). world.names_of (drop (r.count - s.acked) ms)) order.unacked
    ∙ (ap world.names_of (drop-drop (r.count - s.acked) s.acked given)
    ∙ (ap (λ (n : ℕ). world.names_of (drop n given)) ((let k = order.acked_taken in omega (arith, k)) ∙ p.taken)
    ∙ (sym (drop-map message_id (pt.view.pair a c).taken given) ∙ ap (drop (pt.view.pair a c).taken) p.ids)))

home_untaken : (pt : Point) (a : ℕ) → HomeStands (pt.view.pair a a) → spots.untaken (pt.view.pair a a) ≡ []
home_untaken pt a h = drop_all (pt.view.pair a a).taken (pt.view.pair a a).ids (let k = h.taken in omega (arith, k))

-- the line of a pair; a machine's pair with itself has none
stream_by : (pt : Point) (w : WorldState) (a c : ℕ) (b : Bool) → (a == c) ≡ b → HomeStands (pt.view.pair a a) → (a ≢ c → world.names_of (world.untaken w a c) ≡ spots.untaken (pt.view.pair a c))
    → (if b then [] else list_line (EndLine.Stream a c) (world.names_of (world.untaken w a c))) ≡ list_line (EndLine.Stream a c) (spots.untaken (pt.view.pair a c))
stream_by pt w a c b e home apart = grind (arith, nat_tests, home_untaken)

pub stream_said : (b : Boot) (pt : Point) (l : Placed) (w : WorldState) (h : History) (a c : ℕ) → HomeStands (pt.view.pair a a) → (a ≢ c → PairStands b pt l w h a c) → world.stream_line w a c ≡ list_line (EndLine.Stream a c) (spots.untaken (pt.view.pair a c))
stream_said b pt l w h a c home pair = stream_by pt w a c (a == c) refl home (λ apart. untaken_said b pt l w h a c (pair apart))

-- Lines of homes and machines, one by one; the one machine that says something of a process; names of messages.

-- so many processes of a home
home_same : (f g : Pid → List EndLine) (home n : ℕ) → ((k : ℕ) → k < n → f (pid_of home (first_number + k)) ≡ g (pid_of home (first_number + k))) → home_with f home n ≡ home_with g home n
home_same f g home zero same = refl
home_same f g home (suc n) same =
    ap (λ (ls : List EndLine). ls ++ f (pid_of home (first_number + n))) (home_same f g home n (λ k h. same k (omega (arith, h))))
    ∙ ap (λ (ls : List EndLine). home_with g home n ++ ls) (same n (omega arith))

-- all processes of the first homes
pub homes_same : (w : WorldState) (pt : Point) (f g : Pid → List EndLine) (machines : ℕ) → ((m : ℕ) → m < machines → (w.nodes m).kernel.made ≡ pt.kernel.made m)
    → ((home n : ℕ) → home < machines → n < pt.kernel.made home → f (pid_of home (first_number + n)) ≡ g (pid_of home (first_number + n))) → world.homes_with w f machines ≡ rule.homes_with pt g machines
homes_same w pt f g zero made same = refl
homes_same w pt f g (suc home) made same =
    ap (λ (ls : List EndLine). ls ++ home_with f home (w.nodes home).kernel.made) (homes_same w pt f g home (λ m h. made m (omega (arith, h))) (λ other n h k. same other n (omega (arith, h)) k))
    ∙ ap (λ (ls : List EndLine). rule.homes_with pt g home ++ ls) (ap (home_with f home) (made home (omega arith)) ∙ home_same f g home (pt.kernel.made home) (λ k h. same home k (omega arith) h))

pub machines_same : (f g : ℕ → List EndLine) (n : ℕ) → ((m : ℕ) → m < n → f m ≡ g m) → joined_below f n ≡ joined_below g n
machines_same f g zero same = refl
machines_same f g (suc n) same =
    ap (λ (ls : List EndLine). ls ++ f n) (machines_same f g n (λ m h. same m (omega (arith, h)))) ∙ ap (λ (ls : List EndLine). joined_below g n ++ ls) (same n (omega arith))

-- the first of some machines, where at most one says something
module _ {X : Type 0} where
  or_none : (x : Option X) → or x None ≡ x
  or_none x = grind (arith, nat_tests)

  pub first_none : (first f : ℕ → Option X) (n : ℕ) → first 0 ≡ None → ((m : ℕ) → first (suc m) ≡ or (first m) (f m)) → ((m : ℕ) → m < n → f m ≡ None) → first n ≡ None
  first_none first f zero begins goes none = begins
  first_none first f (suc n) begins goes none = goes n ∙ (ap (λ (o : Option X). or o (f n)) (first_none first f n begins goes (λ m h. none m (omega (arith, h)))) ∙ none n (omega arith))

  first_by : (first f : ℕ → Option X) (home n : ℕ) (b : Bool) → (home == n) ≡ b → (home < n → first n ≡ f home) → first 0 ≡ None → ((m : ℕ) → first (suc m) ≡ or (first m) (f m)) → home < suc n
      → ((m : ℕ) → m < suc n → m ≢ home → f m ≡ None) → first (suc n) ≡ f home
  first_by first f home n true e before begins goes h none =
      let same : home ≡ n = grind (arith, nat_tests) in
      goes n
      ∙ (ap (λ (o : Option X). or o (f n)) (first_none first f n begins goes (λ m k. none m (omega (arith, k)) (λ is. absurd (omega (arith, is, same, k))))) ∙ ap f (sym same))
  first_by first f home n false e before begins goes h none =
      let apart : home ≢ n = grind (arith, nat_tests) in
      let below : home < n = omega (arith, h, apart) in
      goes n ∙ (ap (λ (o : Option X). or (first n) o) (none n (omega arith) (λ is. apart (sym is))) ∙ (or_none (first n) ∙ before below))

  pub first_at : (first f : ℕ → Option X) (home n : ℕ) → first 0 ≡ None → ((m : ℕ) → first (suc m) ≡ or (first m) (f m)) → home < n → ((m : ℕ) → m < n → m ≢ home → f m ≡ None) → first n ≡ f home
  first_at first f home zero begins goes h none = absurd (omega (arith, h))
  first_at first f home (suc n) begins goes h none =
      first_by first f home n (home == n) refl (λ below. first_at first f home n begins goes below (λ m k. none m (omega (arith, k)))) begins goes h none

-- the names of messages that stand under these names
pub names_are : (bag : MsgId → Option Message) (ids : List MsgId) (ms : List Message) → ((i : MsgId) (m : Message) → bag i ≡ Some m → m.id ≡ i) → AreMessages bag ids ms → world.names_of ms ≡ ids
names_are bag [] [] named e = refl
names_are bag [] (m ∷ ms) named e = cc
names_are bag (i ∷ ids) [] named e = cc
names_are bag (i ∷ ids) (m ∷ ms) named e =
    let rest : AreMessages bag ids ms = cc in
    ap (λ (j : MsgId). j ∷ world.names_of ms) (named i m (cc)) ∙ ap (λ (js : List MsgId). i ∷ js) (names_are bag ids ms named rest)

-- What is said of a process that is alive: its registers, memory and links, as the plain process and the addresses say.

-- the links of a process
slot_same : (a : Addresses) (p : Pid) (k : ℕ) (o : Option Link) → ((w : Link) → o ≡ Some w → a (Slot p k) ≡ place_of w.addr) → world.slot_line p k o ≡ rule.slot_line a p k (option_map plain_link o)
slot_same a p k o leads = grind (arith, nat_tests)

links_same : (a : Addresses) (p : Pid) (k : ℕ) (ls : List (Option Link)) → ((j : ℕ) (w : Link) → link_at ls j ≡ Some w → a (Slot p (k + j)) ≡ place_of w.addr) → world.link_lines p k ls ≡ rule.link_lines a p k (map (option_map plain_link) ls)
links_same a p k [] leads = refl
links_same a p k (o ∷ ls) leads =
    let here = slot_same a p k o (λ w e. ap (λ (n : ℕ). a (Slot p n)) (let f : k ≡ k + 0 = omega arith in f) ∙ leads 0 w e) in
    let rest = links_same a p (k + 1) ls (λ j w e. ap (λ (n : ℕ). a (Slot p n)) (let f : k + 1 + j ≡ k + suc j = omega arith in f) ∙ leads (suc j) w e) in
    ap (λ (xs : List EndLine). xs ++ world.link_lines p (k + 1) ls) here ∙ ap (λ (xs : List EndLine). rule.slot_line a p k (option_map plain_link o) ++ xs) rest

pub alive_same : (a : Addresses) (m : ℕ) (p : Pid) (s : Standing) (x : Process) → ((k : ℕ) (w : Link) → link_at x.table k ≡ Some w → a (Slot p k) ≡ place_of w.addr)
    → world.alive_lines m p s x ≡ rule.alive_lines a p (plain_process x) (Some (record { at = m; standing = s }))
alive_same a m p s x leads = grind (arith, nat_tests, links_same)

-- Where a process that lives is, by its phase: one machine has it, or it comes to one and nobody has it.

-- what says nothing of a process at the end
abbrev pub is_silent : Known → Bool
is_silent Here = false
is_silent (Frozen to) = false
is_silent _ = true

-- a machine has it
pub record HasIt (v : View) (p : Pid) : Type 0 where
  pub at : ℕ
  pub standing : Standing
  pub known : rule.standing_of (v.known at p) ≡ Some standing
  pub others : (m : ℕ) → m ≢ at → is_silent (v.known m p) ≡ true

-- it comes to one, which may restart it
pub record ComesTo (v : View) (p : Pid) : Type 0 where
  pub source : ℕ
  pub to : ℕ
  pub id : MsgId
  pub from : ℕ
  pub known : v.known to p ≡ Incoming from
  pub others : (m : ℕ) → m ≢ to → is_away (v.known m p) ≡ true
  pub token : IsToken v p MessageKind.Restart source to id

leaves_has : (k : MessageKind) (d : ℕ) (x : Known) → is_restart k ≡ false → kind_leaves k d x ≡ true → rule.standing_of x ≡ Some Standing.Leaving
leaves_has k d x off e = grind (arith, nat_tests, off, left_true)

restart_comes : (s : ℕ) (x : Known) → kind_comes MessageKind.Restart s x ≡ true → (from : ℕ) × (x ≡ Incoming from)
restart_comes s x e = grind (arith, nat_tests)

pub off : (a m : ℕ) → m ≢ a → (a == m) ≡ false
off a m apart = grind (arith, nat_tests)

other_silent : (k : MessageKind) (s : ℕ) (x : Known) (c : Bool) → (if c then kind_comes k s x else is_away x) ≡ true → is_silent x ≡ true
other_silent k s x c e = grind (arith, nat_tests)

moves_has : (v : View) (p : Pid) (k : MessageKind) (s d : ℕ) (id : Option MsgId) → is_restart k ≡ false → IsIn v p (Moves k s d id) → HasIt v p
moves_has v p k s d id early h = record {
  at = s;
  standing = Standing.Leaving;
  known = leaves_has k d (v.known s p) early
      (sym (ap (λ (c : Bool). if c then kind_leaves k d (v.known s p) else if d == s then kind_comes k s (v.known s p) else is_away (v.known s p)) (eq_self s)) ∙ h.known s);
  others = λ m apart. other_silent k s (v.known m p) (d == m)
      (sym (ap (λ (c : Bool). if c then kind_leaves k d (v.known m p) else if d == m then kind_comes k s (v.known m p) else is_away (v.known m p)) (off s m apart)) ∙ h.known m);
}

restart_to : (v : View) (p : Pid) (s d : ℕ) (id : MsgId) → IsIn v p (Moves MessageKind.Restart s d (Some id)) → ComesTo v p
restart_to v p s d id h =
    let apart : (s == d) ≡ false = not_false (s == d) h.apart in
    let (from, is) = restart_comes s (v.known d p) (grind (arith, nat_tests, eq_self)) in
    record { source = s; to = d; id = id; from = from; known = is; others = λ m other. grind (arith, nat_tests, off); token = h.token }

-- by the phase
pub where_is : (v : View) (p : Pid) (phase : Phase) → IsIn v p phase → is_due phase ≡ false → is_gone phase ≡ false → HasIt v p ⊎ ComesTo v p
where_is v p (Rests at) h put lives = inl (let e_ : HasIt v p = record { at = at; standing = Standing.Here; known = grind (arith, nat_tests); others = λ m apart. grind (arith, nat_tests) } in e_)
where_is v p (Moves k s d None) h put lives = absurd (false≢true (sym put))
where_is v p (Moves k s d (Some id)) h put lives = elim (cases_Bool (is_restart k)) [
  | inl last ↦ inr (restart_to v p s d id (subst (λ (x : MessageKind). IsIn v p (Moves x s d (Some id))) (is_it k last) h))
  | inr early ↦ inl (moves_has v p k s d (Some id) early h)
]
where_is v p _ h put lives = absurd (false≢true (sym lives))
