-- What each line keeps: where addresses lead, what machines know, and where messages stand.
use Rattle.dm_law_always.proofs.Names.{◌≡◌, ◌≢◌, ◌⊎◌, ℕ, ◌<◌, ◌==◌, ◌&&◌, Bool, true, false, is_some, refl, ap, ◌∙◌, sym, subst, inl, inr, ⊤, if◌then◌else◌, Option, Some, cases_Bool, Pid, Place, pid_eq, MsgId, PlainMessage, pid_eq-is}
use Rattle.dm_law_always.proofs.Names.{at_record, View, Told, About, Target, Known, Unknown, Frozen, Incoming, Forward, is_kernels, Addresses, Receiver, ascends, Point, eq_is, parts, is_own, KernelFits, is_fixed, times, receiver_of, ◌≤◌}
use Rattle.dm_law_always.proofs.Names.{None, false≢true, id_eq, MessageKind, Line, manager, id_eq-is, after_put, Sender, given, own_given, first_gives, moved, not_true, put_at, put_told_off, sort_of, List, [], ◌∷◌, ◌++◌, arith, own_id}
use Rattle.dm_law_always.proofs.Names.{view_after, handled, forwarded_for, forward_about, place_known, all_follow, forwards, updated, Spot, standing, one_of, Named, zero_cases, flip_zero, goes_back, Lives, is_made, is_server, OneKernel, ◌||◌}
use Rattle.dm_law_always.proofs.Found.Lists.{Places, places_put, places_line, places_handled, places_forwarded, AllAre, all_as, put_all, put_routed, put_again, put_tells, routed_gives, forwarded_all, sent_on_all, updated_all, updated_leaves}
use Rattle.dm_law_always.proofs.Found.Lists.{Sends, places_forgotten}
use Rattle.dm_law_always.proofs.Based.Needs.{is_over}
use Rattle.dm_law_rule.specs.View as view

-- there is this machine, and it knows the process or the server, if that hasn't ended
abbrev pub There : ℕ → Lives → View → ℕ → Pid → Type 0
There n l v m q = (m < n) × (is_over (l q) ≡ false → v.known m q ≢ Unknown)

-- a process or a server is at home there, or known; kernels are at home
abbrev pub KnowsAt : ℕ → Lives → View → Pid → ℕ → Type 0
KnowsAt n l v q m = (m ≡ q.home) ⊎ ((is_fixed q ≡ false) × There n l v m q)

abbrev pub Knows : ℕ → Lives → View → Pid → Place → Type 0
Knows n l v q place = KnowsAt n l v q place.at

-- a kernel of one of so many machines, or a process or a server whose home knows it
abbrev pub IsReal : ℕ → Lives → View → Pid → Type 0
IsReal n l v q = ((is_fixed q ≡ true) × (q.home < n)) ⊎ There n l v q.home q

-- a kernel's own message: for one of these, and of a kind that no message of the bag has
abbrev pub IsOwn : ℕ → Lives → View → Told → Type 0
IsOwn n l v u = IsReal n l v u.receiver × (is_own u.kind ≡ true)

abbrev pub AboutIs : ℕ → Lives → View → About → Type 0
AboutIs n l v (Target m) = m < n
AboutIs n l v (About.Place p m c) = KnowsAt n l v p m
AboutIs n l v _ = ⊤

-- what a machine knows of a process names machines that there are, and a forward one that knows the process; no kernel
-- moves
abbrev pub KnownIs : ℕ → Lives → View → ℕ → Pid → Known → Type 0
KnownIs n l v m p Unknown = ⊤
KnownIs n l v m p (Frozen to) = (m < n) × (to < n) × (is_fixed p ≡ false)
KnownIs n l v m p (Incoming from) = (m < n) × (from < n) × (is_fixed p ≡ false)
KnownIs n l v m p (Forward at moves) = (m < n) × There n l v at p × (is_fixed p ≡ false)
KnownIs n l v m p _ = m < n

-- a message's address names this machine, and its first put told of it
abbrev pub IsAt : Addresses → View → MsgId → ℕ → Type 0
IsAt a v i m = ((a (Receiver i)).at ≡ m) × (is_some (v.told i) ≡ true)

pub record LineCore (n : ℕ) (pt : Point) : Type 0 where
  pub acting : pt.view.acting < n
  pub machines : pt.kernel.machines ≡ n
  pub all : AllAre (Knows n pt.kernel.processes pt.view) pt.kernel pt.view pt.addresses
  pub tells : (i : MsgId) (u : Told) → pt.view.told i ≡ Some u → AboutIs n pt.kernel.processes pt.view u.about
  pub real : (i : MsgId) (u : Told) → pt.view.told i ≡ Some u → is_kernels i ≡ true → IsOwn n pt.kernel.processes pt.view u
  pub topic : AboutIs n pt.kernel.processes pt.view pt.view.topic
  pub known : (m : ℕ) (p : Pid) → KnownIs n pt.kernel.processes pt.view m p (pt.view.known m p)
  pub places : Places (IsAt pt.addresses pt.view) pt.view
  pub senders : (i : MsgId) (m : PlainMessage) → pt.kernel.bag i ≡ Some m → Sends n pt.kernel m.sender
  pub fits : KernelFits pt.kernel
  pub home : (q : Pid) → is_made pt.kernel q ≡ true → There n pt.kernel.processes pt.view q.home q
  pub pending : ascends 0 pt.kernel.manager.pending pt.kernel.manager.sent ≡ true

-- and what each group keeps: that what is held for a process is for it, too
pub record Core (n : ℕ) (pt : Point) : Type 0 where
  pub acting : pt.view.acting < n
  pub machines : pt.kernel.machines ≡ n
  pub all : AllAre (Knows n pt.kernel.processes pt.view) pt.kernel pt.view pt.addresses
  pub tells : (i : MsgId) (u : Told) → pt.view.told i ≡ Some u → AboutIs n pt.kernel.processes pt.view u.about
  pub real : (i : MsgId) (u : Told) → pt.view.told i ≡ Some u → is_kernels i ≡ true → IsOwn n pt.kernel.processes pt.view u
  pub topic : AboutIs n pt.kernel.processes pt.view pt.view.topic
  pub known : (m : ℕ) (p : Pid) → KnownIs n pt.kernel.processes pt.view m p (pt.view.known m p)
  pub places : Places (IsAt pt.addresses pt.view) pt.view
  pub held : (m : ℕ) (p : Pid) (i : MsgId) → 1 ≤ times i (pt.view.held m p) → receiver_of (pt.view.told i) ≡ Some p
  pub senders : (i : MsgId) (m : PlainMessage) → pt.kernel.bag i ≡ Some m → Sends n pt.kernel m.sender
  pub fits : KernelFits pt.kernel
  pub home : (q : Pid) → is_made pt.kernel q ≡ true → There n pt.kernel.processes pt.view q.home q
  pub pending : ascends 0 pt.kernel.manager.pending pt.kernel.manager.sent ≡ true

pub lines_of_core : (n : ℕ) (pt : Point) → Core n pt → LineCore n pt
lines_of_core n pt h = record {
  acting = h.acting;
  machines = h.machines;
  all = h.all;
  tells = h.tells;
  real = h.real;
  topic = h.topic;
  known = h.known;
  places = h.places;
  senders = h.senders;
  fits = h.fits;
  home = h.home;
  pending = h.pending;
}

-- what was made is, and so is a server
or_true : (c : Bool) → (c || true) ≡ true
or_true true = refl
or_true false = refl

pub some_made : (s : OneKernel) (q : Pid) → is_some (s.processes q) ≡ true → is_made s q ≡ true
some_made s q some = ap (λ (c : Bool). is_server q || c) some ∙ or_true (is_server q)

pub server_made : (s : OneKernel) (q : Pid) → is_server q ≡ true → is_made s q ≡ true
server_made s q server = ap (λ (c : Bool). c || is_some (s.processes q)) server

-- what has ended stays so
abbrev pub Older : Lives → Lives → Type 0
Older l k = (q : Pid) → is_over (k q) ≡ false → is_over (l q) ≡ false

-- and machines forget no process that hasn't ended
abbrev pub Grows : Lives → Lives → View → View → Type 0
Grows l k v w = (q : Pid) → is_over (k q) ≡ false → (is_over (l q) ≡ false) × ((m : ℕ) → v.known m q ≢ Unknown → w.known m q ≢ Unknown)

pub there_grows : (n : ℕ) (l k : Lives) (v w : View) (m : ℕ) (q : Pid) → Grows l k v w → There n l v m q → There n k w m q
there_grows n l k v w m q grows h = (h.0, λ lives. let g = grows q lives in g.1 m (h.1 g.0))

-- where nothing is learnt
pub same_grows : (l k : Lives) (v w : View) → Older l k → ((m : ℕ) (q : Pid) → w.known m q ≡ v.known m q) → Grows l k v w
same_grows l k v w older same q lives = (older q lives, λ m some e. some (sym (same m q) ∙ e))

pub stays_old : (l : Lives) → Older l l
stays_old l q lives = lives

pub nothing_grows : (l : Lives) (v w : View) → ((m : ℕ) (q : Pid) → w.known m q ≡ v.known m q) → Grows l l v w
nothing_grows l v w same = same_grows l l v w (stays_old l) same

pub knows_grow : (n : ℕ) (l k : Lives) (v w : View) (q : Pid) (m : ℕ) → Grows l k v w → KnowsAt n l v q m → KnowsAt n k w q m
knows_grow n l k v w q m grows h = elim h [
  | inl home ↦ inl home
  | inr away ↦ inr (away.0, there_grows n l k v w m q grows away.1)
]

pub real_grows : (n : ℕ) (l k : Lives) (v w : View) (q : Pid) → Grows l k v w → IsReal n l v q → IsReal n k w q
real_grows n l k v w q grows h = elim h [
  | inl fixed ↦ inl fixed
  | inr home ↦ inr (there_grows n l k v w q.home q grows home)
]

pub own_grows : (n : ℕ) (l k : Lives) (v w : View) (u : Told) → Grows l k v w → IsOwn n l v u → IsOwn n k w u
own_grows n l k v w u grows h = (real_grows n l k v w u.receiver grows h.0, h.1)

pub about_grows : (n : ℕ) (l k : Lives) (v w : View) (a : About) → Grows l k v w → AboutIs n l v a → AboutIs n k w a
about_grows n l k v w (Target m) grows h = h
about_grows n l k v w (About.Place p m c) grows h = knows_grow n l k v w p m grows h
about_grows n l k v w (About.Of p) grows h = tt
about_grows n l k v w About.NothingElse grows h = tt

pub known_grows : (n : ℕ) (l k : Lives) (v w : View) (m : ℕ) (p : Pid) (x : Known) → Grows l k v w → KnownIs n l v m p x → KnownIs n k w m p x
known_grows n l k v w m p (Forward at_ moves) grows h = (h.0, there_grows n l k v w at_ p grows h.1, h.2)
known_grows n l k v w m p (Frozen to) grows h = h
known_grows n l k v w m p (Incoming from) grows h = h
known_grows n l k v w m p Known.Here grows h = h
known_grows n l k v w m p Unknown grows h = tt

pub known_within : (n : ℕ) (l : Lives) (v : View) (m : ℕ) (p : Pid) (k : Known) → k ≢ Unknown → KnownIs n l v m p k → m < n
known_within n l v m p (Forward at_ moves) some h = h.0
known_within n l v m p (Frozen to) some h = h.0
known_within n l v m p (Incoming from) some h = h.0
known_within n l v m p Known.Here some h = h
known_within n l v m p Unknown some h = absurd (some refl)

-- a machine learns something of a process
pub record Learns (n : ℕ) (l k : Lives) (v w : View) : Type 0 where
  pub acting : w.acting ≡ v.acting
  pub grows : Grows l k v w
  pub known : (m : ℕ) (p : Pid) → KnownIs n k w m p (w.known m p)

pub learns_nothing : (n : ℕ) (l k : Lives) (v w : View) → Older l k → w.acting ≡ v.acting → ((m : ℕ) (q : Pid) → w.known m q ≡ v.known m q) → ((m : ℕ) (p : Pid) → KnownIs n l v m p (v.known m p)) → Learns n l k v w
learns_nothing n l k v w older acting same h =
    let grows = same_grows l k v w older same in
    record { acting = acting; grows = grows; known = λ m p. subst (KnownIs n k w m p) (sym (same m p)) (known_grows n l k v w m p (v.known m p) grows (h m p)) }

grows_by : (l k : Lives) (v w : View) (p : Pid) (x : Known) → Older l k → w.known ≡ at_record v.known v.acting p x → (is_over (k p) ≡ false → x ≡ Unknown → v.known v.acting p ≡ Unknown) → Grows l k v w
grows_by l k v w p x older known new q lives = (
  older q lives,
  λ m some e. elim (cases_Bool ((v.acting == m) && pid_eq p q)) [
    | inl same ↦
        let both = parts (v.acting == m) (pid_eq p q) same in
        let at : w.known m q ≡ x = ap (λ (f : ℕ → Pid → Known). f m q) known ∙ ap (λ (c : Bool). if c then x else v.known m q) same in
        let here : is_over (k p) ≡ false = ap (λ (r : Pid). is_over (k r)) (pid_eq-is p q both.1) ∙ lives in
        some (subst (λ (i : ℕ). v.known i q ≡ Unknown) (eq_is v.acting m both.0) (subst (λ (r : Pid). v.known v.acting r ≡ Unknown) (pid_eq-is p q both.1) (new here (sym at ∙ e))))
    | inr off ↦ some (sym (ap (λ (f : ℕ → Pid → Known). f m q) known ∙ ap (λ (c : Bool). if c then x else v.known m q) off) ∙ e)
  ],
)

known_by : (n : ℕ) (l k : Lives) (v w : View) (p : Pid) (x : Known) → w.known ≡ at_record v.known v.acting p x → Grows l k v w → KnownIs n k w v.acting p x → ((m : ℕ) (q : Pid) → KnownIs n l v m q (v.known m q)) → (m : ℕ) (q : Pid) → KnownIs n k w m q (w.known m q)
known_by n l k v w p x known grows new h m q = elim (cases_Bool ((v.acting == m) && pid_eq p q)) [
  | inl same ↦
      let both = parts (v.acting == m) (pid_eq p q) same in
      let at : w.known m q ≡ x = ap (λ (f : ℕ → Pid → Known). f m q) known ∙ ap (λ (c : Bool). if c then x else v.known m q) same in
      subst (KnownIs n k w m q) (sym at) (subst (λ (i : ℕ). KnownIs n k w i q x) (eq_is v.acting m both.0) (subst (λ (r : Pid). KnownIs n k w v.acting r x) (pid_eq-is p q both.1) new))
  | inr off ↦
      let at : w.known m q ≡ v.known m q = ap (λ (f : ℕ → Pid → Known). f m q) known ∙ ap (λ (c : Bool). if c then x else v.known m q) off in
      subst (KnownIs n k w m q) (sym at) (known_grows n l k v w m q (v.known m q) grows (h m q))
]

-- where the forwards that are new lead is known before
pub learns : (n : ℕ) (l k : Lives) (v w : View) (p : Pid) (x : Known) → Older l k → w.acting ≡ v.acting → w.known ≡ at_record v.known v.acting p x → (is_over (k p) ≡ false → x ≡ Unknown → v.known v.acting p ≡ Unknown) → KnownIs n l v v.acting p x
    → ((m : ℕ) (q : Pid) → KnownIs n l v m q (v.known m q)) → Learns n l k v w
learns n l k v w p x older acting known new is h =
    let grows = grows_by l k v w p x older known new in
    record { acting = acting; grows = grows; known = known_by n l k v w p x known grows (known_grows n l k v w v.acting p x grows is) h }

-- a line that changes no kernel
pub core_view : (n : ℕ) (pt : Point) (w : View) (b : Addresses) → w.acting < n → Grows pt.kernel.processes pt.kernel.processes pt.view w → ((m : ℕ) (p : Pid) → KnownIs n pt.kernel.processes w m p (w.known m p)) → w.told ≡ pt.view.told → AboutIs n pt.kernel.processes w w.topic
    → AllAre (Knows n pt.kernel.processes pt.view) pt.kernel pt.view b → Places (IsAt b pt.view) w → LineCore n pt → LineCore n (record { kernel = pt.kernel; view = w; addresses = b })
core_view n pt w b acting grows known told topic all places h = record {
  acting = acting;
  machines = h.machines;
  all = λ g q e. knows_grow n pt.kernel.processes pt.kernel.processes pt.view w q (b g).at grows (all_as (Knows n pt.kernel.processes pt.view) pt.kernel pt.view w b told all g q e);
  tells = λ i u e. about_grows n pt.kernel.processes pt.kernel.processes pt.view w u.about grows (h.tells i u (sym (ap (λ (f : MsgId → Option Told). f i) told) ∙ e));
  real = λ i u e own. own_grows n pt.kernel.processes pt.kernel.processes pt.view w u grows (h.real i u (sym (ap (λ (f : MsgId → Option Told). f i) told) ∙ e) own);
  topic = topic;
  known = known;
  places = λ i z e. let k = places i z e in (k.0, ap (λ (f : MsgId → Option Told). is_some (f i)) told ∙ k.1);
  senders = h.senders;
  fits = h.fits;
  home = λ q some. there_grows n pt.kernel.processes pt.kernel.processes pt.view w q.home q grows (h.home q some);
  pending = h.pending;
}

-- Puts, and lines that give addresses, keep where addresses lead, what machines know, and where messages stand.

-- what was told of, and what wasn't
pub told_apart : (v : View) (i j : MsgId) → v.told i ≡ None → is_some (v.told j) ≡ true → id_eq i j ≡ false
told_apart v i j none some = not_true (id_eq i j) (λ e. let f : is_some (v.told j) ≡ false = ap (λ (k : MsgId). is_some (v.told k)) (sym (id_eq-is i j e)) ∙ ap is_some none in false≢true (sym f ∙ some))

-- a put: of a message that was put before, of a kernel's own, or of one of the bag
pub data NeedsPut (n : ℕ) (pt : Point) (b : ℕ) (id : MsgId) (k : MessageKind) (q : Pid) : Type 0 where
  Again : (u : Told) → pt.view.told id ≡ Some u → (pt.addresses (Receiver id)).at ≡ b → NeedsPut n pt b id k q
  Own : pt.kernel.bag id ≡ None → pt.view.told id ≡ None → Knows n pt.kernel.processes pt.view q (given pt.addresses (own_given pt.kernel pt.view pt.addresses id q (sort_of k)) (Receiver id))
      → (k ≡ MessageKind.Migrate → Knows n pt.kernel.processes pt.view manager (given pt.addresses (own_given pt.kernel pt.view pt.addresses id q (sort_of k)) (Sender id)))
      → (given pt.addresses (own_given pt.kernel pt.view pt.addresses id q (sort_of k)) (Receiver id)).at ≡ b → IsReal n pt.kernel.processes pt.view q → is_own k ≡ true → NeedsPut n pt b id k q
  Routed : is_kernels id ≡ false → is_own k ≡ false → pt.view.told id ≡ None → (pt.addresses (Receiver id)).at ≡ b → NeedsPut n pt b id k q

put_address : (n : ℕ) (pt : Point) (b : ℕ) (id i : MsgId) (k : MessageKind) (q : Pid) → NeedsPut n pt b id k q → is_some (pt.view.told i) ≡ true
    → given pt.addresses (first_gives (pt.view.told id) (own_given pt.kernel pt.view pt.addresses id q (sort_of k))) (Receiver i) ≡ pt.addresses (Receiver i)
put_address n pt b id i k q (Again u told at) some = ap (λ (o : Option Told). given pt.addresses (first_gives o (own_given pt.kernel pt.view pt.addresses id q (sort_of k))) (Receiver i)) told
put_address n pt b id i k q (Own bag none to from at real own_) some = search (arith, sort_of k, told_apart pt.view id i none some, pt.addresses, pt.kernel)
put_address n pt b id i k q (Routed other plain none at) some = routed_gives pt.kernel pt.view pt.addresses id k q plain (pt.view.told id) (Receiver i)

put_place : (n : ℕ) (pt : Point) (b : ℕ) (id : MsgId) (k : MessageKind) (q : Pid) → NeedsPut n pt b id k q → (given pt.addresses (first_gives (pt.view.told id) (own_given pt.kernel pt.view pt.addresses id q (sort_of k))) (Receiver id)).at ≡ b
put_place n pt b id k q h1 = search (arith, pt.addresses, pt.kernel, pt.view, routed_gives, pt.view.told)

put_are : (n : ℕ) (pt : Point) (x b : ℕ) (id : MsgId) (k : MessageKind) (q : Pid) → NeedsPut n pt b id k q → LineCore n pt
    → AllAre (Knows n pt.kernel.processes pt.view) pt.kernel (after_put pt.view x b id k q) (given pt.addresses (first_gives (pt.view.told id) (own_given pt.kernel pt.view pt.addresses id q (sort_of k))))
put_are n pt x b id k q (Again u told at) h = put_again (Knows n pt.kernel.processes pt.view) pt.kernel pt.view pt.addresses x b id k q u told h.all
put_are n pt x b id k q (Own bag none to from at real own_) h = put_all (Knows n pt.kernel.processes pt.view) pt.kernel pt.view pt.addresses x b id k q bag none to from h.all
put_are n pt x b id k q (Routed other plain none at) h = put_routed (Knows n pt.kernel.processes pt.view) pt.kernel pt.view pt.addresses x b id k q other plain none h.all

put_real : (n : ℕ) (pt : Point) (b : ℕ) (id i : MsgId) (k : MessageKind) (q : Pid) (u : Told) → NeedsPut n pt b id k q → id ≡ i → pt.view.told id ≡ None → record { kind = k; receiver = q; about = pt.view.topic } ≡ u → is_kernels i ≡ true → IsOwn n pt.kernel.processes pt.view u
put_real n pt b id i k q u h1 h2 h3 h4 h5 = search (arith, pt.view)

put_keeps : (v : View) (x y : ℕ) (id i : MsgId) (k : MessageKind) (q : Pid) → is_some (v.told i) ≡ true → is_some ((after_put v x y id k q).told i) ≡ true
put_keeps v x y id i k q some = search (arith, id_eq-is, put_at, put_told_off)

pub put_core : (n : ℕ) (pt : Point) (x b : ℕ) (id : MsgId) (k : MessageKind) (q : Pid) → NeedsPut n pt b id k q → LineCore n pt → LineCore n (moved pt (Line.Put x b id k q) pt.kernel)
put_core n pt x b id k q need h =
    let v = pt.view in
    let w = after_put v x b id k q in
    let a = pt.addresses in
    let c = given a (first_gives (v.told id) (own_given pt.kernel v a id q (sort_of k))) in
    let l = pt.kernel.processes in
    let grows : Grows l l v w = nothing_grows l v w (λ m r. refl) in
    record {
      acting = h.acting;
      machines = h.machines;
      all = λ g r e. knows_grow n l l v w r (c g).at grows (put_are n pt x b id k q need h g r e);
      tells = λ i u e. about_grows n l l v w u.about grows (elim (put_tells v x b id k q i u e) [
        | inl old ↦ h.tells i u old
        | inr new ↦ subst (λ (t : Told). AboutIs n l v t.about) new.2 h.topic
      ]);
      real = λ i u e own. own_grows n l l v w u grows (elim (put_tells v x b id k q i u e) [
        | inl old ↦ h.real i u old own
        | inr new ↦ put_real n pt b id i k q u need new.0 new.1 new.2 own
      ]);
      topic = about_grows n l l v w v.topic grows h.topic;
      known = (learns_nothing n l l v w (stays_old l) refl (λ m r. refl) h.known).known;
      places = places_put (IsAt c w) v x b id k q (put_place n pt b id k q need, ap is_some (put_at v x b id k q))
          (λ i z e. let y = h.places i z e in (ap (λ (p : Place). p.at) (put_address n pt b id i k q need y.1) ∙ y.0, put_keeps v x b id i k q y.1));
      senders = h.senders;
      fits = h.fits;
      home = λ r some. there_grows n l l v w r.home r grows (h.home r some);
      pending = h.pending;
    }

-- a line that gives addresses, and says nothing of processes
abbrev gives_at : Point → View → Addresses → Point
gives_at pt w b = record { kernel = pt.kernel; view = w; addresses = b }

given_core : (n : ℕ) (pt : Point) (w : View) (b : Addresses) → w.acting ≡ pt.view.acting → ((m : ℕ) (q : Pid) → w.known m q ≡ pt.view.known m q) → w.told ≡ pt.view.told → AboutIs n pt.kernel.processes pt.view w.topic → AllAre (Knows n pt.kernel.processes pt.view) pt.kernel pt.view b
    → Places (IsAt b pt.view) w → LineCore n pt → LineCore n (gives_at pt w b)
given_core n pt w b acting known told topic all places h =
    let l = pt.kernel.processes in
    let learnt = learns_nothing n l l pt.view w (stays_old l) acting known h.known in
    core_view n pt w b (subst (λ (k : ℕ). k < n) (sym acting) h.acting) learnt.grows learnt.known told (about_grows n l l pt.view w w.topic learnt.grows topic) all places h

forwards_off : (v : View) (a : Addresses) (id i : MsgId) (u : Told) → id_eq id i ≡ false → id_eq (own_id v) i ≡ false → given a (forwards v a id (Some u)) (Receiver i) ≡ a (Receiver i)
forwards_off v a id i u e f = search (arith, v.known, v.acting, u.receiver, v.moves)

pub record NeedsForward (n : ℕ) (pt : Point) (id : MsgId) : Type 0 where
  pub u : Told
  pub told : pt.view.told id ≡ Some u
  pub knows : (q : Pid) → Named pt.kernel pt.view (Receiver id) q → Knows n pt.kernel.processes pt.view q (place_known (pt.view.known pt.view.acting u.receiver) (pt.view.moves u.receiver) (pt.addresses (Receiver id)))
  pub topic : AboutIs n pt.kernel.processes pt.view (forward_about u.receiver (pt.view.known pt.view.acting u.receiver))
  pub outside : pt.kernel.bag (own_id pt.view) ≡ None
  pub fresh : pt.view.told (own_id pt.view) ≡ None
  pub gone : (z : Spot) → standing (handled pt.view id) id z ≡ 0

pub forwarded_core : (n : ℕ) (pt : Point) (id : MsgId) (m : ℕ) → NeedsForward n pt id → LineCore n pt → LineCore n (moved pt (Line.Forwarded id m) pt.kernel)
forwarded_core n pt id m need h =
    let v = pt.view in
    let a = pt.addresses in
    let b = given a (forwards v a id (Some need.u)) in
    let w = forwarded_for (handled v id) (Some need.u.receiver) in
    let knows = Knows n pt.kernel.processes v in
    let all = subst (λ (o : Option Told). AllAre knows pt.kernel v (given a (forwards v a id o))) need.told (forwarded_all knows pt.kernel v a id need.u need.told need.knows need.outside need.fresh h.all) in
    let apart : Places (λ i k. (id_eq id i ≡ false) × IsAt a v i k) w =
    places_forwarded (λ i k. (id_eq id i ≡ false) × IsAt a v i k) (handled v id) (Some need.u.receiver)
    (λ i z e. (not_true (id_eq id i) (λ k. let f : standing (handled v id) i z ≡ 0 = ap (λ (j : MsgId). standing (handled v id) j z) (sym (id_eq-is id i k)) ∙ need.gone z in absurd (omega (arith, e, f))), places_handled (IsAt a v) v id h.places i z e)) in
    subst (λ (o : Option Told). LineCore n (gives_at pt (forwarded_for (handled v id) (receiver_of o)) (given a (forwards v a id o)))) (sym need.told)
    (given_core n pt w b refl (λ k q. refl) refl need.topic all
    (λ i z e. let k = apart i z e in (ap (λ (p : Place). p.at) (forwards_off v a id i need.u k.0 (told_apart v (own_id v) i need.fresh k.1.1)) ∙ k.1.0, k.1.1)) h)

follow_off : (v : View) (a : Addresses) (p : Pid) (i : MsgId) (ids : List MsgId) → times i ids ≡ 0 → given a (all_follow v a p ids) (Receiver i) ≡ a (Receiver i)
follow_off v a p i [] e = refl
follow_off v a p i (j ∷ js) e =
    let first : one_of i j ≡ 0 = omega (arith, e) in
    let rest : times i js ≡ 0 = omega (arith, e) in
    ap (λ (c : Bool). if c then place_known (v.known v.acting p) (v.moves p) (a (Receiver j)) else given a (all_follow v a p js) (Receiver i)) (flip_zero i j first) ∙ follow_off v a p i js rest

pub record NeedsSent (n : ℕ) (pt : Point) (p : Pid) : Type 0 where
  pub knows : (i : MsgId) (q : Pid) → 1 ≤ times i (pt.view.queue pt.view.acting p ++ pt.view.held pt.view.acting p) → Named pt.kernel pt.view (Receiver i) q
      → Knows n pt.kernel.processes pt.view q (place_known (pt.view.known pt.view.acting p) (pt.view.moves p) (pt.addresses (Receiver i)))
  pub gone : (i : MsgId) (z : Spot) (k : ℕ) → 1 ≤ times i (pt.view.queue pt.view.acting p ++ pt.view.held pt.view.acting p) → standing (view_after pt.view (Line.SentOn p k)) i z ≡ 0

pub sent_core : (n : ℕ) (pt : Point) (p : Pid) (k : ℕ) → NeedsSent n pt p → LineCore n pt → LineCore n (moved pt (Line.SentOn p k) pt.kernel)
sent_core n pt p k need h =
    let v = pt.view in
    let a = pt.addresses in
    let ids = v.queue v.acting p ++ v.held v.acting p in
    let b = given a (all_follow v a p ids) in
    let w = view_after v (Line.SentOn p k) in
    given_core n pt w b refl (λ m q. refl) refl tt (sent_on_all (Knows n pt.kernel.processes v) pt.kernel v a p ids need.knows h.all)
    (λ i z e. let x = places_line (IsAt a v) v (Line.SentOn p k) tt h.places i z e in (
      elim (zero_cases (times i ids)) [
        | inl none ↦ ap (λ (q : Place). q.at) (follow_off v a p i ids none) ∙ x.0
        | inr least ↦ absurd (let f = need.gone i z k least in omega (arith, e, f))
      ],
      x.1,
    )) h

-- a process was on its way here from a machine that knows it, and what is held for it is for it
pub record NeedsCalled (n : ℕ) (pt : Point) (p : Pid) : Type 0 where
  pub from : ℕ
  pub comes : pt.view.known pt.view.acting p ≡ Incoming from
  pub there : There n pt.kernel.processes pt.view from p
  pub knows : (i : MsgId) (q : Pid) → 1 ≤ times i (pt.view.held pt.view.acting p) → Named pt.kernel pt.view (Receiver i) q → Knows n pt.kernel.processes pt.view q (place_known (pt.view.known pt.view.acting p) (pt.view.moves p) (pt.addresses (Receiver i)))
  pub gone : (i : MsgId) (z : Spot) (k : ℕ) → 1 ≤ times i (pt.view.held pt.view.acting p) → standing (view_after pt.view (Line.Called p k)) i z ≡ 0

-- what was held goes back, and so does the process
pub called_core : (n : ℕ) (pt : Point) (p : Pid) (k : ℕ) → NeedsCalled n pt p → LineCore n pt → LineCore n (moved pt (Line.Called p k) pt.kernel)
called_core n pt p k need h =
    let v = pt.view in
    let a = pt.addresses in
    let ids = v.held v.acting p in
    let b = given a (all_follow v a p ids) in
    let w = view_after v (Line.Called p k) in
    let l = pt.kernel.processes in
    let was = subst (KnownIs n l v v.acting p) need.comes (h.known v.acting p) in
    let back : goes_back (v.known v.acting p) (v.moves p) ≡ Forward need.from (v.moves p) = ap (λ (x : Known). goes_back x (v.moves p)) need.comes in
    let learnt = learns n l l v w p (goes_back (v.known v.acting p) (v.moves p)) (stays_old l) refl refl (λ lives e. let f : Forward need.from (v.moves p) ≡ Unknown = sym back ∙ e in cc) (subst (KnownIs n l v v.acting p) (sym back) (was.0, need.there, was.2)) h.known in
    core_view n pt w b h.acting learnt.grows learnt.known refl tt (sent_on_all (Knows n pt.kernel.processes v) pt.kernel v a p ids need.knows h.all)
    (λ i z e. let x = places_line (IsAt a v) v (Line.Called p k) tt h.places i z e in (
      elim (zero_cases (times i ids)) [
        | inl none ↦ ap (λ (q : Place). q.at) (follow_off v a p i ids none) ∙ x.0
        | inr least ↦ absurd (let f = need.gone i z k least in omega (arith, e, f))
      ],
      x.1,
    )) h

-- an update
pub updated_core : (n : ℕ) (pt : Point) (id : MsgId) (k : ℕ) → LineCore n pt → LineCore n (moved pt (Line.Updated id k) pt.kernel)
updated_core n pt id k h =
    let v = pt.view in
    let a = pt.addresses in
    given_core n pt (handled v id) (updated pt.kernel v a (v.told id)) refl (λ m q. refl) refl h.topic
    (updated_all (Knows n pt.kernel.processes v) pt.kernel v a (v.told id) (λ u p m c e f. subst (AboutIs n pt.kernel.processes v) f (h.tells id u e)) h.all)
    (λ i z e. let x = places_handled (IsAt a v) v id h.places i z e in (ap (λ (q : Place). q.at) (updated_leaves pt.kernel v a (v.told id) i) ∙ x.0, x.1)) h

-- a process that has ended is forgotten
forgets_core : (n : ℕ) (pt : Point) (w : View) (p : Pid) → is_over (pt.kernel.processes p) ≡ true → w.acting ≡ pt.view.acting → w.known ≡ at_record pt.view.known pt.view.acting p Unknown → w.told ≡ pt.view.told → AboutIs n pt.kernel.processes w w.topic → Places (IsAt pt.addresses pt.view) w
    → LineCore n pt → LineCore n (record { kernel = pt.kernel; view = w; addresses = pt.addresses })
forgets_core n pt w p over acting known told topic places h =
    let l = pt.kernel.processes in
    let learnt = learns n l l pt.view w p Unknown (stays_old l) acting known (λ lives e. absurd (false≢true (sym lives ∙ over))) tt h.known in
    core_view n pt w pt.addresses (subst (λ (k : ℕ). k < n) (sym acting) h.acting) learnt.grows learnt.known told topic h.all places h

-- of these a message tells
abbrev pub NeedsOver : Point → MsgId → Type 0
NeedsOver pt id = (t : Told) (p : Pid) → pt.view.told id ≡ Some t → t.about ≡ About.Of p → is_over (pt.kernel.processes p) ≡ true

pub buried_core : (n : ℕ) (pt : Point) (id : MsgId) (k : ℕ) → NeedsOver pt id → LineCore n pt → LineCore n (moved pt (Line.Buried id k) pt.kernel)
buried_core n pt id k need h = by (v.told id) refl
  where
    v : View
    v = pt.view

    places : Places (IsAt pt.addresses v) (handled v id)
    places = places_handled (IsAt pt.addresses v) v id h.places

    handled_core : LineCore n (gives_at pt (handled v id) pt.addresses)
    handled_core = given_core n pt (handled v id) pt.addresses refl (λ m q. refl) refl h.topic h.all places h

    of : (t : Told) (a : About) → v.told id ≡ Some t → t.about ≡ a → LineCore n (gives_at pt (view.forgotten (handled v id) a) pt.addresses)
    of t (About.Of p) told about = forgets_core n pt (view.forgotten (handled v id) (About.Of p)) p (need t p told about) refl refl refl tt (places_forgotten (IsAt pt.addresses v) (handled v id) (About.Of p) places) h
    of t (About.Target m) told about = handled_core
    of t (About.Place p m c) told about = handled_core
    of t About.NothingElse told about = handled_core

    by : (o : Option Told) → v.told id ≡ o → LineCore n (gives_at pt (view.buried_for (handled v id) o) pt.addresses)
    by None told = handled_core
    by (Some t) told = of t t.about told refl
