-- A kernel's own message keeps what is known of the size of a server.
use Rattle.dm_law_always.proofs.Names.{◌≡◌, ℕ, ◌+◌, ◌≤◌, ◌==◌, ◌&&◌, not, Bool, true, false, List, [], ◌∷◌, ◌++◌, length, map, refl, ap, ◌∙◌, sym, subst, inl, inr, arith, if◌then◌else◌, Option, None, Some, cases_Bool, false≢true}
use Rattle.dm_law_always.proofs.Names.{Pid, pid_eq, pid_eq-is, pid_eq-same, MsgId, MessageKind, Line, Stage, Boot, OneKernel, View, Told, About, Of, Known, Here, Frozen, Incoming, Forward, Unknown, Sort, sort_of, Point, moved, Part, Says}
use Rattle.dm_law_always.proofs.Names.{Size, size_of, MoveNote, Outcome, answers_move, tells_asker, to_kernel, sends_on, updates, manager, forwards_on, by_forwards, left_parts, is_between, pulls_piece, receiver_in, Moves, InPhases, due, about_same}
use Rattle.dm_law_always.proofs.Names.{source_holds, destination_expects, coming_is, knows, is_early, front_of, target_of, leaves_for, told_here, told_ended, process_told, kernel_hears, bind, bind-is, preds_of}
use Rattle.dm_law_always.proofs.Names.{IsIn, is_restart, kernel_after, label_of, view_after, after_proto, handled, seen_none, buried, leaves, TurnsBack, none_some}
use Rattle.dm_message.specs.Sorts.{Passage, brings_piece}
use Rattle.dm_law_rule.specs.Burying.{tells_end}
use Rattle.dm_law_rule.specs.Phases.{has_it}
use Rattle.dm_law_rule.specs.Rule as rule
use Rattle.dm_law_rule.specs.View as view
use Rattle.dm_law_rule.specs.Migrating as moving
use Rattle.dm_law_rule.proofs.Hearing.{Tells, by_kernel, given}
use Rattle.dm_law_always.specs.Sizes.{AreFew, server_size}
use Rattle.dm_law_always.proofs.Based.Needs.{Steps, said_by}
use Rattle.dm_law_always.proofs.Based.Rows.{turned}
use Rattle.dm_law_always.proofs.Based.Sets.{set_all}
use Rattle.dm_law_always.proofs.Sizes.Lists.{HeldFor, line_lists}
use Rattle.dm_law_always.proofs.Sizes.Kept.{Server, Sizes, accepted_keeps, come_keeps, raise_keeps, chunks_small, few_before, pieces_small}
use Rattle.dm_law_always.proofs.Sizes.Walks.{Keeps, PartsKeep, AllLoose, Walks, asks_keep, first_walks, loose_walks, then_of, walks_keep}
use Rattle.dm_law_rule.proofs.Phases.Answers.{waited_is}

-- all that stands where a kernel's own message is heard
pub record Hears (o : Point) (m : ℕ) (i : MsgId) (t : Told) : Type 0 where
  pub phases : InPhases (turned o m).view
  pub rest : List MsgId
  pub front : o.view.inbox m ≡ i ∷ rest
  pub told : o.view.told i ≡ Some t
  pub held : (q : Pid) → HeldFor (turned o m).view q

-- parts that need nothing
pub loose_keep : (n : ℕ) (p : Pid) (pt : Point) → Server n p → (ps : List Part) → AllLoose p ps → PartsKeep n p pt ps
loose_keep n p pt server ps h = walks_keep n p server ps pt (loose_walks p ps pt h)

pub buries_loose : (p : Pid) (ms : List ℕ) → AllLoose p (map (to_kernel MessageKind.Bury) ms)
buries_loose p [] = tt
buries_loose p (m ∷ ms) = (λ pt. tt, buries_loose p ms)

pub sends_loose : (p : Pid) (to : ℕ) (ids : List MsgId) (ps : List Part) → AllLoose p ps → AllLoose p (sends_on to ids ++ ps)
sends_loose p to [] ps h = h
sends_loose p to (i ∷ is) ps h = (λ q. tt, sends_loose p to is ps h)

pub answers_loose : (p : Pid) (i : MsgId) (r : Outcome) → AllLoose p (answers_move i r)
answers_loose p i r = (λ q. tt, (λ q. tt, tt))

asker_loose : (p : Pid) (o : Option MoveNote) (r : Outcome) → AllLoose p (tells_asker o r)
asker_loose p None r = tt
asker_loose p (Some z) r = answers_loose p z.id r

left_loose : (p q : Pid) (i : MsgId) (ids : List MsgId) (to : ℕ) → AllLoose p (left_parts i q ids to)
left_loose p q i ids to = (λ pt. tt, sends_loose p to ids (Says (Line.Migration Stage.Left q) ∷ to_kernel MessageKind.Restart i.from.home ∷ []) (λ pt. tt, (λ pt. tt, tt)))

pub forwards_loose : (p : Pid) (o : Point) (i : MsgId) (k : MessageKind) (sender : Pid) (to : ℕ) → AllLoose p (forwards_on o.addresses i k sender to)
forwards_loose p o i k sender to = by_forwards (AllLoose p) o.addresses i k sender to (λ q. tt, (λ q. tt, tt)) (λ q. tt, (λ q. tt, (λ q. tt, tt)))

buried_loose : (p q : Pid) (o : Point) (m : ℕ) (i : MsgId) → AllLoose p (buried o m i q)
buried_loose p q o m i = (λ pt. tt, buries_loose p (preds_of o m q))

-- at a process or a server
here_keeps : (n : ℕ) (p : Pid) (o : Point) (m : ℕ) (i : MsgId) (t : Told) (s : Sort) (ps : List Part) → Server n p → o.view.known m t.receiver ≡ Here → told_here o m i t s ≡ Some ps → PartsKeep n p (turned o m) ps
here_keeps n p o m i t Sort.Request ps server here e = request (m == target_of (Some t)) e
  where
    to : ℕ
    to = target_of (Some t)

    request : (c : Bool) → Some (if c then Says (Line.Here i) ∷ [] else leaves_for t.receiver to) ≡ Some ps → PartsKeep n p (turned o m) ps
    request true e = given (PartsKeep n p (turned o m)) (Says (Line.Here i) ∷ []) ps (loose_keep n p (turned o m) server (Says (Line.Here i) ∷ []) (λ q. tt, tt)) e
    request false e =
        let rest = Says (Line.Migration Stage.Asked t.receiver) ∷ to_kernel MessageKind.Ask to ∷ [] in
        let has : t.receiver ≡ p → has_it (o.view.known m p) ≡ true = λ same. ap (λ (r : Pid). has_it (o.view.known m r)) (sym same) ∙ ap has_it here in
        given (PartsKeep n p (turned o m)) (leaves_for t.receiver to) ps (walks_keep n p server (leaves_for t.receiver to) (turned o m) (first_walks p (Says (Line.Migration Stage.Frozen t.receiver)) rest (turned o m) has (λ q. tt, (λ q. tt, tt)))) e
here_keeps n p o m i t Sort.Notice ps server here e = given (PartsKeep n p (turned o m)) (updates o i t) ps (loose_keep n p (turned o m) server (updates o i t) (λ q. tt, tt)) e
here_keeps n p o m i t _ ps server here e = none_some ps e

ended_keeps : (n : ℕ) (p : Pid) (pt : Point) (i : MsgId) (s : Sort) (ps : List Part) → Server n p → told_ended i s ≡ Some ps → PartsKeep n p pt ps
ended_keeps n p pt i Sort.Request ps server e = given (PartsKeep n p pt) (Says (Line.NoMove i) ∷ []) ps (loose_keep n p pt server (Says (Line.NoMove i) ∷ []) (λ q. tt, tt)) e
ended_keeps n p pt i Sort.Notice ps server e = given (PartsKeep n p pt) (Says (Line.Updated i 0) ∷ []) ps (loose_keep n p pt server (Says (Line.Updated i 0) ∷ []) (λ q. tt, tt)) e
ended_keeps n p pt i _ ps server e = none_some ps e

held_keeps : (n : ℕ) (p : Pid) (o : Point) (m : ℕ) (i : MsgId) (t : Told) → Server n p → Hears o m i t → PartsKeep n p (turned o m) (Says (Line.Held i) ∷ [])
held_keeps n p o m i t server h = walks_keep n p server (Says (Line.Held i) ∷ []) (turned o m) (first_walks p (Says (Line.Held i)) [] (turned o m) (h.rest, h.front) tt)

process_keeps : (n : ℕ) (p : Pid) (o : Point) (m : ℕ) (i : MsgId) (t : Told) (k : Known) (ps : List Part) → Server n p → Hears o m i t → o.view.known m t.receiver ≡ k → process_told o m i t k ≡ Some ps → PartsKeep n p (turned o m) ps
process_keeps n p o m i t Here ps server h is e = here_keeps n p o m i t (sort_of t.kind) ps server is e
process_keeps n p o m i t (Frozen to) ps server h is e = given (PartsKeep n p (turned o m)) (Says (Line.Held i) ∷ []) ps (held_keeps n p o m i t server h) e
process_keeps n p o m i t (Incoming from) ps server h is e = given (PartsKeep n p (turned o m)) (Says (Line.Held i) ∷ []) ps (held_keeps n p o m i t server h) e
process_keeps n p o m i t (Forward to moves) ps server h is e =
    given (PartsKeep n p (turned o m)) (forwards_on o.addresses i t.kind manager to) ps (loose_keep n p (turned o m) server (forwards_on o.addresses i t.kind manager to) (forwards_loose p o i t.kind manager to)) e
process_keeps n p o m i t Unknown ps server h is e = ended_keeps n p (turned o m) i (sort_of t.kind) ps server e

-- of another process or server
other_than : (p q : Pid) → pid_eq q p ≡ false → q ≡ p → ⊥
other_than p q off same = false≢true (sym off ∙ ap (λ (r : Pid). pid_eq r p) same ∙ pid_eq-same p)

other_keeps : (n : ℕ) (p q : Pid) (o : Point) (m : ℕ) (i : MsgId) (t : Told) → Server n p → Hears o m i t → t.about ≡ Of q → pid_eq q p ≡ false → Tells (PartsKeep n p (turned o m)) o m i t.kind q
other_keeps n p q o m i t server h about off =
    let pt = turned o m in
    let first : (l : Line) (ps : List Part) → Walks p pt (Says l ∷ ps) → PartsKeep n p pt (Says l ∷ ps) = λ l ps w. walks_keep n p server (Says l ∷ ps) pt w in
    let apart : (q ≡ p) → ⊥ = other_than p q off in
    let proto : (k : MessageKind) → PartsKeep n p pt (Says (Line.Proto i) ∷ to_kernel k i.from.home ∷ []) = λ k. first (Line.Proto i) (to_kernel k i.from.home ∷ []) (first_walks p (Says (Line.Proto i)) (to_kernel k i.from.home ∷ []) pt (λ u is of. absurd (apart (about_same q p (sym about ∙ ap (λ (x : Told). x.about) (let f : Some t ≡ Some u = sym h.told ∙ is in let g : t ≡ u = cc in g) ∙ of)))) (λ z. tt, tt)) in
    let stays : (ps : List Part) → AllLoose p ps → PartsKeep n p pt (Says (Line.Stays q) ∷ ps) = λ ps loose. first (Line.Stays q) ps (first_walks p (Says (Line.Stays q)) ps pt (h.held q, λ same. absurd (apart same)) loose) in
    let restarted : (ps : List Part) → AllLoose p ps → PartsKeep n p pt (Says (Line.Migration Stage.Restarted q) ∷ ps) = λ ps loose. first (Line.Migration Stage.Restarted q) ps (first_walks p (Says (Line.Migration Stage.Restarted q)) ps pt (h.held q, λ same. absurd (false≢true (sym off ∙ same))) loose) in
    record {
      accepted = λ ask. first (Line.Migration Stage.Accepted q) (to_kernel MessageKind.PullState i.from.home ∷ []) (first_walks p (Says (Line.Migration Stage.Accepted q)) (to_kernel MessageKind.PullState i.from.home ∷ []) pt off (λ z. tt, tt));
      lacks = λ slots blocks. loose_keep n p pt server (Says (Line.Lacks q slots blocks) ∷ to_kernel MessageKind.Refuse i.from.home ∷ []) (λ z. tt, (λ z. tt, tt));
      stays = λ kind free. stays [] tt;
      stays_asked = λ kind z noted. stays (answers_move z.id Outcome.Stayed) (answers_loose p z.id Outcome.Stayed);
      state = proto MessageKind.State;
      next_chunk = proto MessageKind.PullState;
      last_chunk = first (Line.Migration Stage.StateTaken q) (to_kernel MessageKind.PullBlock i.from.home ∷ []) (first_walks p (Says (Line.Migration Stage.StateTaken q)) (to_kernel MessageKind.PullBlock i.from.home ∷ []) pt off (λ z. tt, tt));
      server_chunk = λ is. first (Line.Migration Stage.StateTaken q) (Says (Line.Migration Stage.MemoryTaken q) ∷ to_kernel MessageKind.AllTaken i.from.home ∷ []) (
        off,
        λ next s. first_walks p (Says (Line.Migration Stage.MemoryTaken q)) (to_kernel MessageKind.AllTaken i.from.home ∷ []) next off (λ z. tt, tt),
      );
      memory = proto MessageKind.Memory;
      next_block = proto MessageKind.PullBlock;
      last_block = first (Line.Migration Stage.MemoryTaken q) (to_kernel MessageKind.AllTaken i.from.home ∷ []) (first_walks p (Says (Line.Migration Stage.MemoryTaken q)) (to_kernel MessageKind.AllTaken i.from.home ∷ []) pt off (λ z. tt, tt));
      left = λ ids to is. loose_keep n p pt server (left_parts i q ids to) (left_loose p q i ids to);
      restarted = λ kind free. restarted [] tt;
      restarted_asked = λ kind z noted. restarted (answers_move z.id Outcome.Done) (answers_loose p z.id Outcome.Done);
    }

-- of the server itself: where a message of its migration is due
record Now (v : View) (p : Pid) (k : MessageKind) (i : MsgId) (h : InPhases v) : Type 0 where
  pub s : ℕ
  pub d : ℕ
  pub is : h.of p ≡ Moves k s d (Some i)
  pub acting : v.acting ≡ receiver_in k s d

now : (p : Pid) (o : Point) (m : ℕ) (i : MsgId) (t : Told) (k : MessageKind) (h : Hears o m i t) → t.about ≡ Of p → t.kind ≡ k → is_between k ≡ true → pulls_piece (sort_of k) ≡ false → rule.is_stale o m i t.kind p ≡ false → Now (turned o m).view p k i h.phases
now p o m i t k h about kind between none fresh =
    let u = due (turned o m) i h.rest t h.phases p h.front h.told (ap is_between kind ∙ between) about (ap (λ (j : MessageKind). pulls_piece (sort_of j)) kind ∙ none) fresh in
    let same : u.p ≡ p = about_same u.p p (sym (ap (λ (y : Told). y.about) u.told) ∙ about) in
    let mine : u.k ≡ k = sym (ap (λ (y : Told). y.kind) u.told) ∙ kind in
    record {
      s = u.s;
      d = u.d;
      is = ap h.phases.of (sym same) ∙ u.phase ∙ ap (λ (j : MessageKind). Moves j u.s u.d (Some i)) mine;
      acting = u.acting ∙ ap (λ (j : MessageKind). receiver_in j u.s u.d) mine;
    }

phase_of : (v : View) (p : Pid) (k : MessageKind) (i : MsgId) (h : InPhases v) (u : Now v p k i h) → IsIn v p (Moves k u.s u.d (Some i))
phase_of v p k i h u = subst (IsIn v p) u.is (h.each p)

-- it comes to one machine alone, and to none before it is accepted
one_coming : (v : View) (p : Pid) (h : InPhases v) (m from j of : ℕ) → v.known m p ≡ Incoming from → v.known j p ≡ Incoming of → (j ≡ m) × (of ≡ from)
one_coming v p h m from j of is at =
    let phase = h.of p in
    let a = coming_is phase m from (sym (ap (knows phase m) is) ∙ (h.each p).known m) in
    let b = coming_is phase j of (sym (ap (knows phase j) at) ∙ (h.each p).known j) in
    let e : Moves b.kind of j b.id ≡ Moves a.kind from m a.id = sym b.is ∙ a.is in
    let there : j ≡ m = cc in
    let out : of ≡ from = cc in
    (there, out)

none_coming : (v : View) (p : Pid) (k : MessageKind) (i : MsgId) (h : InPhases v) → Now v p k i h → is_early k ≡ true → (j of : ℕ) → v.known j p ≡ Incoming of → ⊥
none_coming v p k i h u early j of at =
    let phase = h.of p in
    let b = coming_is phase j of (sym (ap (knows phase j) at) ∙ (h.each p).known j) in
    let e : Moves b.kind of j b.id ≡ Moves k u.s u.d (Some i) = sym b.is ∙ u.is in
    let kind : b.kind ≡ k = cc in
    false≢true (sym b.late ∙ ap is_early kind ∙ early)

-- a piece that isn't stale is awaited from there
awaited_by : (c : Bool) → not c ≡ false → c ≡ true
awaited_by true e = refl
awaited_by false e = absurd (false≢true (sym e))

awaited : (p : Pid) (o : Point) (m : ℕ) (i : MsgId) (k : MessageKind) → brings_piece (sort_of k) ≡ true → rule.is_stale o m i k p ≡ false → o.view.known m p ≡ Incoming i.from.home
awaited p o m i k brings fresh =
    waited_is i.from.home (o.view.known m p) (awaited_by (rule.is_waited_from i.from.home (o.view.known m p)) (sym (ap (λ (c : Bool). c && not (rule.is_waited_from i.from.home (o.view.known m p))) brings) ∙ fresh))

-- a message of the protocol asks for one piece more at the most
record Asks (p : Pid) (v w : View) : Type 0 where
  acting : w.acting ≡ v.acting
  known : w.known ≡ v.known
  pub come : w.come ≡ v.come
  pub asked : w.asked p ≤ v.asked p + 1

asks_more : (p : Pid) (v : View) (a : About) → Asks p v (view.asks_on v a)
asks_more p v (view.Of q) = record {
  acting = refl;
  known = refl;
  come = refl;
  asked = (elim (cases_Bool (pid_eq q p)) [
    | inl same ↦
        let now = ap (λ (c : Bool). if c then v.asked q + 1 else v.asked p) same in
        let at = ap v.asked (pid_eq-is q p same) in omega (arith, now, at)
    | inr off ↦ (let now = ap (λ (c : Bool). if c then v.asked q + 1 else v.asked p) off in omega (arith, now))
  ]);
}
asks_more p v _ = record { acting = refl; known = refl; come = refl; asked = omega arith }

follows_more : (p : Pid) (v : View) (a : About) (s : Sort) → Asks p v (view.follows_by v a s)
follows_more p v a (Sort.Between Passage.State) = asks_more p v a
follows_more p v a (Sort.Between Passage.Memory) = asks_more p v a
follows_more p v a _ = record { acting = refl; known = refl; come = refl; asked = omega arith }

proto_more : (p : Pid) (v : View) (o : Option Told) → Asks p v (after_proto v o)
proto_more p v None = record { acting = refl; known = refl; come = refl; asked = omega arith }
proto_more p v (Some t) = let f = follows_more p v t.about (sort_of t.kind) in record { acting = f.acting; known = f.known; come = f.come; asked = f.asked }

-- the next piece is asked for
next_keeps : (n : ℕ) (p : Pid) (o : Point) (m : ℕ) (i : MsgId) (t : Told) (k : MessageKind) → Server n p → Hears o m i t → o.view.known m p ≡ Incoming i.from.home → PartsKeep n p (turned o m) (Says (Line.Proto i) ∷ to_kernel k i.from.home ∷ [])
next_keeps n p o m i t k server h here =
    let pt = turned o m in
    let v = pt.view in
    let u = handled v i in
    let w = view_after v (Line.Proto i) in
    let more : Asks p v w = (let f = proto_more p u (v.told i) in record { acting = f.acting; known = f.known; come = f.come; asked = f.asked }) in
    asks_keep n p pt (Line.Proto i) k i.from.home server refl
    (λ kept. raise_keeps n p pt.kernel v w (line_lists n p v (Line.Proto i) tt) (λ j e. sym (ap (λ (f : ℕ → Pid → Known). has_it (f j p)) more.known) ∙ e) (λ j of e. sym (ap (λ (f : ℕ → Pid → Known). f j p) more.known) ∙ e) (ap (λ (f : Pid → Bool). f p) more.come) more.asked kept)
    (λ j of at. (let one = one_coming v p h.phases m i.from.home j of here (sym (ap (λ (f : ℕ → Pid → Known). f j p) more.known) ∙ at) in (one.0 ∙ sym more.acting, one.1)))

-- where a line leads that is no step of the kernel
record Said (pt next : Point) (l : Line) : Type 0 where
  pub is : moved pt l pt.kernel ≡ next
  pub seen : (moved pt l pt.kernel).view ≡ view_after pt.view l

said_none : (pt next : Point) (l : Line) → label_of l ≡ None → Steps pt (Says l) next → Said pt next l
said_none pt next l none s =
    let g = said_by pt next l s in
    let same : pt.kernel ≡ g.kernel = (let e : Some pt.kernel ≡ Some g.kernel = sym (ap (kernel_after pt.kernel) none) ∙ g.step in cc) in
    record { is = ap (moved pt l) same ∙ g.is; seen = seen_none pt.kernel pt.view l none }

-- a line, and then others that need nothing
line_then : (n : ℕ) (p : Pid) (pt : Point) (l : Line) (xs : List Part) → Server n p → label_of l ≡ None → AllLoose p xs → (Keeps 0 n p pt → Sizes 0 n p pt.kernel (view_after pt.view l)) → PartsKeep n p pt (Says l ∷ xs)
line_then n p pt l xs server none loose keeps w ok need sane core is h =
    let a = then_of n pt (Says l) xs w ok need sane core is in
    let b = said_none pt a.next l none a.steps in
    let first : Keeps 0 n p (moved pt l pt.kernel) = subst (Sizes 0 n p pt.kernel) (sym b.seen) (keeps h) in
    subst (Keeps 0 n p) a.point (loose_keep n p a.next server xs loose a.rest a.ok a.need a.sane a.core a.is (subst (Keeps 0 n p) b.is first))

-- two lines, and then others that need nothing
lines_then : (n : ℕ) (p : Pid) (pt : Point) (l m : Line) (xs : List Part) → Server n p → label_of l ≡ None → label_of m ≡ None → AllLoose p xs → (Keeps 0 n p pt → Sizes 0 n p pt.kernel (view_after (view_after pt.view l) m)) → PartsKeep n p pt (Says l ∷ Says m ∷ xs)
lines_then n p pt l m xs server none none_ loose keeps w ok need sane core is h =
    let a = then_of n pt (Says l) (Says m ∷ xs) w ok need sane core is in
    let b = said_none pt a.next l none a.steps in
    let c = then_of n a.next (Says m) xs a.rest a.ok a.need a.sane a.core a.is in
    let d = said_none a.next c.next m none_ c.steps in
    let kernel_ : pt.kernel ≡ a.next.kernel = ap (λ (x : Point). x.kernel) b.is in
    let view_ : view_after pt.view l ≡ a.next.view = sym b.seen ∙ ap (λ (x : Point). x.view) b.is in
    let second : Sizes 0 n p a.next.kernel (view_after a.next.view m) = subst (λ (s : OneKernel). Sizes 0 n p s (view_after a.next.view m)) kernel_ (subst (λ (v : View). Sizes 0 n p pt.kernel (view_after v m)) view_ (keeps h)) in
    let there : Keeps 0 n p c.next = subst (Keeps 0 n p) d.is (subst (Sizes 0 n p a.next.kernel) (sym d.seen) second) in
    subst (Keeps 0 n p) (c.point ∙ a.point) (loose_keep n p c.next server xs loose c.rest c.ok c.need c.sane c.core c.is there)

-- how large a server is of which as many pieces were asked for as there are
small_by : (n : ℕ) (p : Pid) (s : OneKernel) (v : View) (m from : ℕ) → v.known m p ≡ Incoming from → Sizes 0 n p s v → (v.asked p ≤ 1048576 → server_size s p ≤ 536870912) → AreFew v → server_size s p ≤ 536870912
small_by n p s v m from here h counted few = elim (cases_Bool (v.come p)) [
  | inl come ↦ h.carried few m from here come
  | inr off ↦
      let a = h.asked off m from here in
      let l : length (v.pair m from).ids ≤ 1048576 = few m from in
      counted (omega (arith, a, l))
]

-- the last chunk: it has come
last_chunk : (n : ℕ) (p : Pid) (o : Point) (m : ℕ) (i : MsgId) (t : Told) (x : Size) → Server n p → Hears o m i t → o.view.known m p ≡ Incoming i.from.home → size_of o.kernel p ≡ Some x → (o.view.asked p == moving.chunks_of x) ≡ true
    → PartsKeep n p (turned o m) (Says (Line.Migration Stage.StateTaken p) ∷ Says (Line.Migration Stage.MemoryTaken p) ∷ to_kernel MessageKind.AllTaken i.from.home ∷ [])
last_chunk n p o m i t x server h here sized all =
    let pt = turned o m in
    let v = pt.view in
    let l = Line.Migration Stage.StateTaken p in
    let k = Line.Migration Stage.MemoryTaken p in
    let u = view_after v l in
    let w = view_after u k in
    lines_then n p pt l k (to_kernel MessageKind.AllTaken i.from.home ∷ []) server refl refl (λ z. tt, tt) (λ kept. (
    let first = line_lists n p v l tt in
    let more : u.asked p ≤ v.asked p + 1 = (let e : u.asked p ≡ v.asked p + 1 = ap (λ (c : Bool). if c then v.asked p + 1 else v.asked p) (pid_eq-same p) in omega (arith, e)) in
    let raised : Sizes 1 n p pt.kernel u = raise_keeps n p pt.kernel v u first (λ j e. e) (λ j of e. e) refl more kept in
    let come : w.come p ≡ true = ap (λ (c : Bool). if c then true else u.come p) (pid_eq-same p) in
    come_keeps 1 n p pt.kernel u w (line_lists n p u k tt) (λ j e. e) come
    (λ few. small_by n p pt.kernel v m i.from.home here kept (λ le. chunks_small o.kernel p x (o.view.asked p) sized all le) (few_before n p v u first few)) raised
    ))

-- the last block
last_block : (n : ℕ) (p : Pid) (o : Point) (m : ℕ) (i : MsgId) (t : Told) (x : Size) → Server n p → Hears o m i t → o.view.known m p ≡ Incoming i.from.home → size_of o.kernel p ≡ Some x → (o.view.asked p == moving.pieces_of x) ≡ true
    → PartsKeep n p (turned o m) (Says (Line.Migration Stage.MemoryTaken p) ∷ to_kernel MessageKind.AllTaken i.from.home ∷ [])
last_block n p o m i t x server h here sized all =
    let pt = turned o m in
    let v = pt.view in
    let k = Line.Migration Stage.MemoryTaken p in
    let w = view_after v k in
    line_then n p pt k (to_kernel MessageKind.AllTaken i.from.home ∷ []) server refl (λ z. tt, tt) (λ kept. (
    let come : w.come p ≡ true = ap (λ (c : Bool). if c then true else v.come p) (pid_eq-same p) in
    come_keeps 0 n p pt.kernel v w (line_lists n p v k tt) (λ j e. e) come (λ few. small_by n p pt.kernel v m i.from.home here kept (λ le. pieces_small o.kernel p x (o.view.asked p) sized all le) few) kept
    ))

-- it is accepted
accepted_here : (n : ℕ) (p : Pid) (o : Point) (m : ℕ) (i : MsgId) (t : Told) → Server n p → (h : Hears o m i t) → Now (turned o m).view p MessageKind.Ask i h.phases → PartsKeep n p (turned o m) (Says (Line.Migration Stage.Accepted p) ∷ to_kernel MessageKind.PullState i.from.home ∷ [])
accepted_here n p o m i t server h u =
    let pt = turned o m in
    let v = pt.view in
    let l = Line.Migration Stage.Accepted p in
    asks_keep n p pt l MessageKind.PullState i.from.home server refl (λ kept. accepted_keeps n p pt.kernel v (line_lists n p v l tt) kept)
    (λ j of at. set_all (λ k r y. r ≡ p → y ≡ Incoming of → (k ≡ m) × (of ≡ i.from.home)) v.known m p (Incoming (front_of (v.inbox m)))
    (λ same e. (let f : front_of (v.inbox m) ≡ of = cc in (refl, sym f ∙ ap front_of h.front))) (λ k r off same e. absurd (none_coming v p MessageKind.Ask i h.phases u refl k of (ap (v.known k) (sym same) ∙ e))) j p refl at)

accepts_keep : (n : ℕ) (p : Pid) (o : Point) (m : ℕ) (i : MsgId) (t : Told) (c : Bool) (slots blocks : ℕ) → Server n p → (h : Hears o m i t) → Now (turned o m).view p MessageKind.Ask i h.phases → PartsKeep n p (turned o m) (moving.accepts i.from.home p c slots blocks)
accepts_keep n p o m i t true slots blocks server h u = accepted_here n p o m i t server h u
accepts_keep n p o m i t false slots blocks server h u = loose_keep n p (turned o m) server (Says (Line.Lacks p slots blocks) ∷ to_kernel MessageKind.Refuse i.from.home ∷ []) (λ z. tt, (λ z. tt, tt))

-- it stays: its source holds it
stays_here : (n : ℕ) (p : Pid) (o : Point) (m : ℕ) (i : MsgId) (t : Told) (k : MessageKind) → Server n p → (h : Hears o m i t) → TurnsBack k → Now (turned o m).view p k i h.phases → PartsKeep n p (turned o m) (Says (Line.Stays p) ∷ tells_asker (o.kernel.notes p) Outcome.Stayed)
stays_here n p o m i t k server h back u =
    let pt = turned o m in
    let v = pt.view in
    let late : is_restart k ≡ false = (elim back [ inl e ↦ ap is_restart e | inr e ↦ ap is_restart e ]) in
    let at : v.acting ≡ u.s = u.acting ∙ (elim back [ inl e ↦ ap (λ (j : MessageKind). receiver_in j u.s u.d) e | inr e ↦ ap (λ (j : MessageKind). receiver_in j u.s u.d) e ]) in
    let holds : v.known v.acting p ≡ Frozen u.d = ap (λ (j : ℕ). v.known j p) at ∙ source_holds v p k u.s u.d (Some i) (phase_of v p k i h.phases u) late in
    let rest = tells_asker (o.kernel.notes p) Outcome.Stayed in
    walks_keep n p server (Says (Line.Stays p) ∷ rest) pt (first_walks p (Says (Line.Stays p)) rest pt (h.held p, λ same. ap has_it holds) (asker_loose p (o.kernel.notes p) Outcome.Stayed))

-- it goes on here, and all of it has come
restarts_here : (n : ℕ) (p : Pid) (o : Point) (m : ℕ) (i : MsgId) (t : Told) → Server n p → (h : Hears o m i t) → Now (turned o m).view p MessageKind.Restart i h.phases → PartsKeep n p (turned o m) (Says (Line.Migration Stage.Restarted p) ∷ tells_asker (o.kernel.notes p) Outcome.Done)
restarts_here n p o m i t server h u =
    let pt = turned o m in
    let v = pt.view in
    let phase = phase_of v p MessageKind.Restart i h.phases u in
    let expects : v.known v.acting p ≡ Incoming u.s = ap (λ (j : ℕ). v.known j p) u.acting ∙ destination_expects v p MessageKind.Restart u.s u.d (Some i) phase refl refl in
    let rest = tells_asker (o.kernel.notes p) Outcome.Done in
    walks_keep n p server (Says (Line.Migration Stage.Restarted p) ∷ rest) pt (first_walks p (Says (Line.Migration Stage.Restarted p)) rest pt (h.held p, λ same. (u.s, expects, phase.come)) (asker_loose p (o.kernel.notes p) Outcome.Done))

-- a piece goes out: what asks for one asks for none itself
gives_keep : (n : ℕ) (p : Pid) (o : Point) (m : ℕ) (i : MsgId) (t : Told) (k : MessageKind) → Server n p → Hears o m i t → brings_piece (sort_of t.kind) ≡ false → PartsKeep n p (turned o m) (Says (Line.Proto i) ∷ to_kernel k i.from.home ∷ [])
gives_keep n p o m i t k server h off =
    let pt = turned o m in
    walks_keep n p server (Says (Line.Proto i) ∷ to_kernel k i.from.home ∷ []) pt (first_walks p (Says (Line.Proto i)) (to_kernel k i.from.home ∷ []) pt (λ u is of. (let f : Some t ≡ Some u = sym h.told ∙ is in let g : t ≡ u = cc in sym (ap (λ (x : Told). brings_piece (sort_of x.kind)) g) ∙ off)) (λ z. tt, tt))

leaves_keep : (n : ℕ) (p : Pid) (pt : Point) (i : MsgId) (ids : List MsgId) (k : Known) (ps : List Part) → Server n p → leaves i p ids k ≡ Some ps → PartsKeep n p pt ps
leaves_keep n p pt i ids (Frozen to) ps server e = given (PartsKeep n p pt) (left_parts i p ids to) ps (loose_keep n p pt server (left_parts i p ids to) (left_loose p p i ids to)) e
leaves_keep n p pt i ids _ ps server e = none_some ps e

-- step by step
chunk_keeps : (n : ℕ) (p : Pid) (o : Point) (m : ℕ) (i : MsgId) (t : Told) (x : Size) (c : Bool) → Server n p → Hears o m i t → o.view.known m p ≡ Incoming i.from.home → size_of o.kernel p ≡ Some x → (o.view.asked p == moving.chunks_of x) ≡ c → PartsKeep n p (turned o m) (moving.takes_chunk i p c)
chunk_keeps n p o m i t x false server h here sized all = next_keeps n p o m i t MessageKind.PullState server h here
chunk_keeps n p o m i t x true server h here sized all =
    subst (λ (c : Bool). PartsKeep n p (turned o m) (if c then Says (Line.Migration Stage.StateTaken p) ∷ Says (Line.Migration Stage.MemoryTaken p) ∷ to_kernel MessageKind.AllTaken i.from.home ∷ [] else Says (Line.Migration Stage.StateTaken p) ∷ to_kernel MessageKind.PullBlock i.from.home ∷ [])) (sym server.is)
    (last_chunk n p o m i t x server h here sized all)

block_keeps : (n : ℕ) (p : Pid) (o : Point) (m : ℕ) (i : MsgId) (t : Told) (x : Size) (c : Bool) → Server n p → Hears o m i t → o.view.known m p ≡ Incoming i.from.home → size_of o.kernel p ≡ Some x → (o.view.asked p == moving.pieces_of x) ≡ c → PartsKeep n p (turned o m) (moving.takes_block i p c)
block_keeps n p o m i t x false server h here sized all = next_keeps n p o m i t MessageKind.PullBlock server h here
block_keeps n p o m i t x true server h here sized all = last_block n p o m i t x server h here sized all

step_keeps : (n : ℕ) (p : Pid) (o : Point) (m : ℕ) (i : MsgId) (t : Told) (room : Bool × ℕ × ℕ) (x : Size) (k : MessageKind) (ps : List Part) → Server n p → Hears o m i t → t.about ≡ Of p → t.kind ≡ k → size_of o.kernel p ≡ Some x → rule.is_stale o m i t.kind p ≡ false → moving.told_step o m i p room x (sort_of k) ≡ Some ps
    → PartsKeep n p (turned o m) ps
step_keeps n p o m i t room x MessageKind.Ask ps server h about kind sized fresh e =
    given (PartsKeep n p (turned o m)) (moving.accepts i.from.home p room.0 room.1 room.2) ps (accepts_keep n p o m i t room.0 room.1 room.2 server h (now p o m i t MessageKind.Ask h about kind refl refl fresh)) e
step_keeps n p o m i t room x MessageKind.Refuse ps server h about kind sized fresh e =
    given (PartsKeep n p (turned o m)) (Says (Line.Stays p) ∷ tells_asker (o.kernel.notes p) Outcome.Stayed) ps (stays_here n p o m i t MessageKind.Refuse server h (inl refl) (now p o m i t MessageKind.Refuse h about kind refl refl fresh)) e
step_keeps n p o m i t room x MessageKind.CallOff ps server h about kind sized fresh e =
    given (PartsKeep n p (turned o m)) (Says (Line.Stays p) ∷ tells_asker (o.kernel.notes p) Outcome.Stayed) ps (stays_here n p o m i t MessageKind.CallOff server h (inr refl) (now p o m i t MessageKind.CallOff h about kind refl refl fresh)) e
step_keeps n p o m i t room x MessageKind.PullState ps server h about kind sized fresh e =
    given (PartsKeep n p (turned o m)) (moving.gives_piece i MessageKind.State) ps (gives_keep n p o m i t MessageKind.State server h (ap (λ (j : MessageKind). brings_piece (sort_of j)) kind)) e
step_keeps n p o m i t room x MessageKind.PullBlock ps server h about kind sized fresh e =
    given (PartsKeep n p (turned o m)) (moving.gives_piece i MessageKind.Memory) ps (gives_keep n p o m i t MessageKind.Memory server h (ap (λ (j : MessageKind). brings_piece (sort_of j)) kind)) e
step_keeps n p o m i t room x MessageKind.State ps server h about kind sized fresh e =
    let here = awaited p o m i t.kind (ap (λ (j : MessageKind). brings_piece (sort_of j)) kind) fresh in
    let last = o.view.asked p == moving.chunks_of x in
    given (PartsKeep n p (turned o m)) (moving.takes_chunk i p last) ps (chunk_keeps n p o m i t x last server h here sized refl) e
step_keeps n p o m i t room x MessageKind.Memory ps server h about kind sized fresh e =
    let here = awaited p o m i t.kind (ap (λ (j : MessageKind). brings_piece (sort_of j)) kind) fresh in
    let last = o.view.asked p == moving.pieces_of x in
    given (PartsKeep n p (turned o m)) (moving.takes_block i p last) ps (block_keeps n p o m i t x last server h here sized refl) e
step_keeps n p o m i t room x MessageKind.AllTaken ps server h about kind sized fresh e = leaves_keep n p (turned o m) i (o.view.queue m p ++ o.view.held m p) (o.view.known m p) ps server e
step_keeps n p o m i t room x MessageKind.Restart ps server h about kind sized fresh e =
    given (PartsKeep n p (turned o m)) (Says (Line.Migration Stage.Restarted p) ∷ tells_asker (o.kernel.notes p) Outcome.Done) ps (restarts_here n p o m i t server h (now p o m i t MessageKind.Restart h about kind refl refl fresh)) e
step_keeps n p o m i t room x _ ps server h about kind sized fresh e = none_some ps e

own_keeps : (n : ℕ) (p : Pid) (b : Boot) (o : Point) (m : ℕ) (i : MsgId) (t : Told) (over stale : Bool) (ps : List Part) → Server n p → Hears o m i t → t.about ≡ Of p → rule.is_stale o m i t.kind p ≡ stale
    → (if over then Some (buried o m i p) else if stale then Some (Says (Line.Stale i) ∷ []) else bind (size_of o.kernel p) (λ x. moving.told_step o m i p (rule.fits (rule.free_room b o m) x.blocks) x (sort_of t.kind))) ≡ Some ps → PartsKeep n p (turned o m) ps
own_keeps n p b o m i t true stale ps server h about fresh e = given (PartsKeep n p (turned o m)) (buried o m i p) ps (loose_keep n p (turned o m) server (buried o m i p) (buried_loose p p o m i)) e
own_keeps n p b o m i t false true ps server h about fresh e = given (PartsKeep n p (turned o m)) (Says (Line.Stale i) ∷ []) ps (loose_keep n p (turned o m) server (Says (Line.Stale i) ∷ []) (λ z. tt, tt)) e
own_keeps n p b o m i t false false ps server h about fresh e =
    let (x, sized, steps) = bind-is (size_of o.kernel p) (λ (x : Size). moving.told_step o m i p (rule.fits (rule.free_room b o m) x.blocks) x (sort_of t.kind)) ps e in
    step_keeps n p o m i t (rule.fits (rule.free_room b o m) x.blocks) x t.kind ps server h about refl sized fresh steps

about_keeps : (n : ℕ) (p : Pid) (b : Boot) (o : Point) (m : ℕ) (i : MsgId) (t : Told) (a : About) (ps : List Part) → Server n p → Hears o m i t → t.about ≡ a → kernel_hears b o m i t.kind a ≡ Some ps → PartsKeep n p (turned o m) ps
about_keeps n p b o m i t (view.Of q) ps server h about e = elim (cases_Bool (pid_eq q p)) [
  | inl same ↦
      let is : q ≡ p = pid_eq-is q p same in
      own_keeps n p b o m i t (tells_end (sort_of t.kind)) (rule.is_stale o m i t.kind p) ps server h (about ∙ ap Of is) refl (subst (λ (r : Pid). kernel_hears b o m i t.kind (Of r) ≡ Some ps) is e)
  | inr off ↦ by_kernel (PartsKeep n p (turned o m)) b o m i t.kind (Of q) ps (λ r is kind. loose_keep n p (turned o m) server (buried o m i r) (buried_loose p r o m i)) (λ r is late. loose_keep n p (turned o m) server (Says (Line.Stale i) ∷ []) (λ z. tt, tt))
      (λ r x is sized fresh. (let f : q ≡ r = about_same q r is in other_keeps n p r o m i t server h (about ∙ is) (sym (ap (λ (k : Pid). pid_eq k p) f) ∙ off))) e
]
about_keeps n p b o m i t _ ps server h about e = none_some ps e

receiver_keeps : (n : ℕ) (p : Pid) (b : Boot) (o : Point) (m : ℕ) (i : MsgId) (t : Told) (c : Bool) (ps : List Part) → Server n p → Hears o m i t → (if c then kernel_hears b o m i t.kind t.about else process_told o m i t (o.view.known m t.receiver)) ≡ Some ps → PartsKeep n p (turned o m) ps
receiver_keeps n p b o m i t true ps server h e = about_keeps n p b o m i t t.about ps server h refl e
receiver_keeps n p b o m i t false ps server h e = process_keeps n p o m i t (o.view.known m t.receiver) ps server h refl e

pub hears_keep : (n : ℕ) (p : Pid) (b : Boot) (o : Point) (m : ℕ) (i : MsgId) (t : Told) (ps : List Part) → Server n p → Hears o m i t → rule.hears b o m i (Some t) ≡ Some ps → PartsKeep n p (turned o m) ps
hears_keep n p b o m i t ps server h e = receiver_keeps n p b o m i t (t.receiver.num == 0) ps server h e
