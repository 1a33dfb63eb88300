-- What the answer to a request to move says was said: that the request was answered so, or that its receiver had ended.
use Rattle.dm_law_moves.proofs.Names.{◌≡◌, ◌⊎◌, ℕ, ◌+◌, Bool, true, false, List, [], ◌∷◌, ◌++◌, length, refl, ap, ◌∙◌, sym, subst, inl, inr, take, drop, false≢true, Option, None, Some, Pid, MsgId, id_of, Label, OneKernel, PlainMessage}
use Rattle.dm_law_moves.proofs.Names.{PlainWhat, Outcome, MoveNote, Line, first_point, without_note, without_message, with_sent, answer_id, answer_to, entry, reception, replay, bind-is, Sound, KernelFits, ServerSends, board_takes_lem}
use Rattle.dm_law_moves.proofs.Names.{manager_takes_lem, lands-is, after_step, fits_step, by_step, append_assoc, append-nil, ascends, came, stayed, View, switchboard, manager, labels, label_of, with_label, after_replay, start, start-sound}
use Rattle.dm_law_moves.proofs.Names.{first_view, arith, nat_tests, MovedIsSaid, IsSaidOf, note-is, Follows, start_fits, none_some}
use Rattle.dm_law_one.proofs.Entered.{asks}
use Rattle.dm_onekernel.specs.Pieces as pieces
use Rattle.dm_onekernel.specs.Service as service
use Rattle.dm_onekernel.specs.Step as kernel
use Rattle.dm_law_moves.proofs.Open.Moves.{run_after}
use Rattle.dm_law_moves.proofs.Promise.Slots.{step_pending}

-- the step that says it
abbrev said_by : MsgId → Outcome → Label
said_by i Outcome.Done = Label.Answered i Outcome.Done
said_by i Outcome.Stayed = Label.Answered i Outcome.Stayed
said_by i Outcome.Ended = Label.Gone i

-- a message of the bag that is an answer to a request to move comes with the step that says so
record Cause (l : Label) (i : MsgId) (o : Outcome) : Type 0 where
  request : MsgId
  name : i ≡ answer_id request
  asked : request.answer ≡ false
  is : l ≡ said_by request o

abbrev Came : OneKernel → Label → OneKernel → Type 0
Came s l t = (i : MsgId) (m : PlainMessage) → t.bag i ≡ Some m → (s.bag i ≡ Some m) ⊎ (i.answer ≡ true → (o : Outcome) → m.what ≡ PlainWhat.Moved o → Cause l i o)

put_came : (s u : OneKernel) (l : Label) (x : PlainMessage) → ((i : MsgId) (m : PlainMessage) → u.bag i ≡ Some m → s.bag i ≡ Some m) → (x.id.answer ≡ true → (o : Outcome) → x.what ≡ PlainWhat.Moved o → Cause l x.id o)
    → Came s l (with_sent u (Some x))
put_came s u l x sub f i m k = search (arith, came)

-- a name of its sender's own
own_none : (l : Label) (i : MsgId) (p : Pid) (n : ℕ) → i ≡ id_of p n → i.answer ≡ true → (o : Outcome) → Cause l i o
own_none l i p n is answers o = absurd (false≢true (sym (ap (λ (j : MsgId). j.answer) is) ∙ answers))

server_came : (s u : OneKernel) (l : Label) (p : Pid) (o : Option PlainMessage) (n after : ℕ) → ServerSends p n o after → ((i : MsgId) (m : PlainMessage) → u.bag i ≡ Some m → s.bag i ≡ Some m) → Came s l (with_sent u o)
server_came s u l p None n after sends sub = λ i m k. inl (sub i m k)
server_came s u l p (Some x) n after sends sub = put_came s u l x sub (λ answers o what. own_none l x.id p n sends.0 answers o)

abbrev is_moved : PlainWhat → Bool
is_moved (PlainWhat.Moved o) = true
is_moved w = false

gone_cause : (r e : MsgId → ℕ) (s : OneKernel) (l : Label) (id : MsgId) (m : PlainMessage) (v : PlainWhat) (o : Outcome) → l ≡ Label.Gone id → s.bag id ≡ Some m → service.gone_what m.what ≡ Some v → v ≡ PlainWhat.Moved o → Sound r e s
    → Cause l (answer_to m v).id o
gone_cause r e s l id m v o is there goes what h =
    let g : (asks m.what ≡ true) × (o ≡ Outcome.Ended) = grind (arith, nat_tests) in
    record { request = id; name = ap answer_id (h.entered.named id m there); asked = h.entered.requests id m there g.0; is = is ∙ sym (ap (said_by id) g.1) }

answered_cause : (r e : MsgId → ℕ) (s : OneKernel) (l : Label) (id : MsgId) (a o : Outcome) (p : Pid) (n : MoveNote) → l ≡ Label.Answered id a → PlainWhat.Moved a ≡ PlainWhat.Moved o → Follows s id a p n → Sound r e s → KernelFits s
    → Cause l (answer_id id) o
answered_cause r e s l id a o p n h1 h2 h3 h4 h5 = search (arith, note-is)

step_came : (r e : MsgId → ℕ) (s t : OneKernel) (l : Label) → Sound r e s → KernelFits s → kernel.step s l ≡ Some t → Came s l t
step_came r e s t l h fits = by_step (Came s l) s t l (record {
  ran = λ p k x m is w i z there. inl there;
  replies = λ p n k c d y is w i z there. inl there;
  sends = λ p id k m y is same w. (let (z, sent, pending, counted) = w.so.counts in put_came s (kernel.goes_on s p y) l m (λ i x there. there) (λ answers o what. own_none l m.id p z.sent counted.id answers o));
  waits = λ p k y is w i z there. inl there;
  outputs = λ p w k v y is n i z there. inl there;
  ends = λ p y next is w i z there. inl there;
  receives = λ p id y is w c i z there. inl (stayed s id i z there);
  refuses = λ p id c d y is w f i z there. inl there;
  dropped = λ id m y is w f i z there. inl (stayed s id i z there);
  gone = λ id m y is w v f. put_came s (without_message s id) l (answer_to m v) (stayed s id) (λ answers o what. gone_cause r e s l id m v o is w.there f what h);
  asked = λ id m x machine is w f i z there. inl (stayed s id i z there);
  answered = λ id a p n is f. put_came s (without_note s p id) l (record { id = answer_id id; to = n.asker; sender = p; what = PlainWhat.Moved a }) (λ i x there. there) (λ answers o what. answered_cause r e s l id a o p n is what f h fits);
  stops = λ id m x b is w f i z there. inl (stayed s id i z there);
  kills = λ id m x is w f i z there. inl (stayed s id i z there);
  reads = λ id m x base len is w f.
      (let b = PlainWhat.Block (take len (drop base x.memory)) in
      put_came s (service.changed s id m x) l (answer_to m b) (stayed s id) (λ answers o what. absurd (false≢true (sym refl ∙ ap is_moved what))));
  writes = λ id m x base bytes is w f.
      put_came s (service.changed s id m (record x { memory = pieces.written_at x.memory base bytes })) l (answer_to m PlainWhat.Written) (stayed s id) (λ answers o what. absurd (false≢true (sym refl ∙ ap is_moved what)));
  lands = λ id m x q y is w f c.
      put_came s (service.changed s id m y) l q (stayed s id) (λ answers o what. own_none l q.id m.to x.sent (lands-is m.to x m x.status (pieces.Next q y) c).0.id answers o);
  done = λ id m x c y is w f g i z there. inl (stayed s id i z there);
  board = λ id m k is there c took. server_came s (record (without_message s id) { switchboard = k.switchboard }) l switchboard k.answer s.switchboard.sent k.switchboard.sent (board_takes_lem s.switchboard m m.what k took).2 (stayed s id);
  manager = λ id m k is there c took.
      server_came s (record (without_message s id) { manager = k.manager }) l manager k.message s.manager.sent k.manager.sent (manager_takes_lem s.manager s.machines (length s.images) m m.what k took).2.sends (stayed s id);
  creates = λ id child m image links i is w found name.
      put_came s (service.with_created (without_message s id) child i links) l (answer_to m (PlainWhat.Created child)) (stayed s id) (λ answers o what. absurd (false≢true (sym refl ∙ ap is_moved what)));
  no_room = λ id a b m image links is w. put_came s (without_message s id) l (answer_to m PlainWhat.NoRoom) (stayed s id) (λ answers o what. absurd (false≢true (sym refl ∙ ap is_moved what)));
})

-- among the steps so far
record Among (l : Label) (ls : List Label) : Type 0 where
  before : List Label
  behind : List Label
  is : ls ≡ before ++ l ∷ behind

among_more : (l : Label) (xs ys : List Label) → Among l xs → Among l (xs ++ ys)
among_more l xs ys h = record { before = h.before; behind = h.behind ++ ys; is = ap (λ (zs : List Label). zs ++ ys) h.is ∙ append_assoc h.before (l ∷ h.behind) ys }

abbrev AllSaid : List Label → OneKernel → Type 0
AllSaid ls s = (i : MsgId) (m : PlainMessage) (o : Outcome) → i.answer ≡ false → s.bag (answer_id i) ≡ Some m → m.what ≡ PlainWhat.Moved o → Among (said_by i o) ls

said_step : (r e : MsgId → ℕ) (s t : OneKernel) (l : Label) (ls : List Label) → Sound r e s → KernelFits s → kernel.step s l ≡ Some t → AllSaid ls s → AllSaid (ls ++ l ∷ []) t
said_step r e s t l ls h fits is said i m o asked there what = elim (step_came r e s t l h fits is (answer_id i) m there) [
  | inl was ↦ among_more (said_by i o) ls (l ∷ []) (said i m o asked was what)
  | inr new ↦
      let c = new refl o what in
      let j : c.request ≡ i = λ k. record { from = (sym c.name k).from; n = (sym c.name k).n; answer = (c.asked ∙ sym asked) k } in
      record { before = ls; behind = []; is = ap (λ (x : Label). ls ++ x ∷ []) (c.is ∙ ap (λ (x : MsgId). said_by x o) j) }
]

said_run : (ks ls : List Label) (r e : MsgId → ℕ) (s t : OneKernel) (v : View) → replay s ks ≡ Some t → KernelFits s → ascends 0 s.manager.pending s.manager.sent ≡ true → Sound r e s → AllSaid ls s → AllSaid (ls ++ ks) t
said_run [] ls r e s t v is fits up h said = let f : s ≡ t = cc in subst (λ (xs : List Label). AllSaid xs t) (sym (append-nil ls)) (subst (AllSaid ls) f said)
said_run (l ∷ ks) ls r e s t v is fits up h said =
    let (u, first, rest) = bind-is (kernel.step s l) (λ (x : OneKernel). replay x ks) t is in
    let a = after_step r e s u l first h in
    subst (λ (xs : List Label). AllSaid xs t) (append_assoc ls (l ∷ []) ks)
    (said_run ks (ls ++ l ∷ []) (λ i. r i + reception i l) (λ i. e i + entry i s u) u t v rest (fits_step r e s u l first h up fits) (step_pending s u v l first h.entered.named up) a.sound (said_step r e s u l ls h fits first said))

-- the line of a step
record LineOf (l : Label) (ls : List Line) : Type 0 where
  earlier : List Line
  later : List Line
  is : ls ≡ earlier ++ Line.Label l ∷ later

label_is : (x : Line) (l : Label) → label_of x ≡ Some l → x ≡ Line.Label l
label_is (Line.Label k) l e = let f : k ≡ l = cc in ap Line.Label f
label_is _ l e = none_some l e

line_on : (x : Line) (ls : List Line) (l : Label) → LineOf l ls → LineOf l (x ∷ ls)
line_on x ls l h = record { earlier = x ∷ h.earlier; later = h.later; is = ap (λ (ys : List Line). x ∷ ys) h.is }

line_by : (x : Line) (ls : List Line) (l : Label) (behind : List Label) → ((xs : List Label) → labels ls ≡ xs ++ l ∷ behind → LineOf l ls) → (o : Option Label) → label_of x ≡ o → (xs : List Label)
    → with_label o (labels ls) ≡ xs ++ l ∷ behind → LineOf l (x ∷ ls)
line_by x ls l behind more None is xs f = line_on x ls l (more xs f)
line_by x ls l behind more (Some k) is [] f = let g : k ≡ l = cc in record { earlier = []; later = ls; is = ap (λ (y : Line). y ∷ ls) (label_is x l (is ∙ ap Some g)) }
line_by x ls l behind more (Some k) is (y ∷ xs) f = line_on x ls l (more xs (let g : labels ls ≡ xs ++ l ∷ behind = cc in g))

line_of : (ls : List Line) (l : Label) (before behind : List Label) → labels ls ≡ before ++ l ∷ behind → LineOf l ls
line_of [] l [] behind e = cc
line_of [] l (k ∷ before) behind e = cc
line_of (x ∷ ls) l before behind e = line_by x ls l behind (λ xs f. line_of ls l xs behind f) (label_of x) refl before e

-- wherever the rule leads
pub moved_is_said : MovedIsSaid
moved_is_said b es ls pt i m o valid leads asked there what =
    let replayed = after_replay ls (first_point b) pt (run_after b es ls (first_point b) pt leads) in
    let among = said_run (labels ls) [] (λ j. 0) (λ j. 0) (start b) pt.kernel (first_view b) replayed (start_fits b valid) refl (start-sound b valid) (λ j k c f g. cc) i m o asked there what in
    let l = line_of ls (said_by i o) among.before among.behind among.is in
    by_outcome o l
  where
    by_outcome : (c : Outcome) → LineOf (said_by i c) ls → (earlier : List Line) × (later : List Line) × (l : Line) × (ls ≡ earlier ++ l ∷ later) × IsSaidOf i c l
    by_outcome Outcome.Done l = (l.earlier, l.later, Line.Label (said_by i Outcome.Done), l.is, refl)
    by_outcome Outcome.Stayed l = (l.earlier, l.later, Line.Label (said_by i Outcome.Stayed), l.is, refl)
    by_outcome Outcome.Ended l = (l.earlier, l.later, Line.Label (said_by i Outcome.Ended), l.is, refl)
