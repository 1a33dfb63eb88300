-- What a group is about, line by line, and what follows it: how machines and their predecessors stand behind it.
use Rattle.dm_law_moves.proofs.Names.{◌≡◌, ℕ, ◌+◌, ◌<◌, ◌≤◌, ◌==◌, ◌&&◌, ◌||◌, Bool, true, false, List, [], ◌∷◌, ◌++◌, map, filter, refl, ap, ◌∙◌, sym, subst, inl, inr, arith, nat_tests, if◌then◌else◌, Option, None, Some, bind, cases_Bool}
use Rattle.dm_law_moves.proofs.Names.{false≢true, zero, suc, Pid, pid_of, pid_eq, MsgId, MessageKind, Label, Line, Told, View, Of, Unknown, OneKernel, view_after, after_put, at_record, own_id, Point, label_of, kernel_after, moved, Part}
use Rattle.dm_law_moves.proofs.Names.{Says, Again, Spelled, spelled, to_kernel, sends_on, is_put, touches, PairsFit, PacketsKeep, fits_packet, Sane, sane_line, says_next, put_at, first_none, put_there, put_spot, eq_is, numbers_from}
use Rattle.dm_law_moves.proofs.Names.{part_sane}
use Rattle.dm_law_rule.specs.View as view
use Rattle.dm_law_rule.specs.Rule as rule
use Rattle.dm_law_moves.proofs.Leading.{All, Behind, part_leads, line_fits, next_of}
use Rattle.dm_law_moves.proofs.Ends.Parts.{Somewhere, packet_smooth, own_untold}
use Rattle.dm_law_moves.proofs.Ends.Sources.{Sending, sending_put}
use Rattle.dm_law_moves.proofs.Preds.Kept.{is_word, clears_word, Buries, Word, ByWord, Preds, Lasts, lasts_trans, lasts_smooth, lasts_any, lasts_about, word_on, preds_set}
use Rattle.dm_law_moves.proofs.Preds.Lines.{Keeps, keeps_self, keeps_trans, preds_keeps, preds_about, Tail, tail_behind, tail_keeps, packet_keeps}

-- where a group has come
pub record Stood (n : ℕ) (pt : Point) : Type 0 where
  pub preds : Preds n pt.view
  pub sane : Sane pt
  pub fits : PairsFit pt.view

-- where parts lead
abbrev pub Into : ℕ → Point → List Part → Type 0
Into n pt ps = (w : Spelled) → spelled pt ps ≡ Some w → Preds n w.point.view

pub tail_into : (n : ℕ) (pt : Point) (ps : List Part) → Stood n pt → All Tail ps → Into n pt ps
tail_into n pt ps h tail w e = preds_keeps n pt.view w.point (tail_keeps ps pt w tail h.sane h.fits e) h.preds

-- a line is said first
pub line_into : (n : ℕ) (pt : Point) (l : Line) (ps : List Part) → Sane pt → PairsFit pt.view → is_put l ≡ false → touches l ≡ false → ((s : OneKernel) → kernel_after pt.kernel (label_of l) ≡ Some s → Preds n (view_after pt.view l))
    → ((s : OneKernel) → kernel_after pt.kernel (label_of l) ≡ Some s → Stood n (moved pt l s) → Into n (moved pt l s) ps) → Into n pt (Says l ∷ ps)
line_into n pt l ps sane fits quiet calm first rest w e =
    let k = says_next pt l ps w e in
    let next : Stood n (moved pt l k.s) = record {
      preds = preds_about n (view_after pt.view l) (moved pt l k.s).view.topic (first k.s k.is);
      sane = sane_line pt (moved pt l k.s) l quiet (ap (λ (o : Option OneKernel). bind o (λ s. Some (moved pt l s))) k.is) sane;
      fits = line_fits pt k.s l calm fits;
    } in
    subst (λ (q : Point). Preds n q.view) k.point (rest k.s k.is next k.rest k.more)

-- Burials: each is told to its machine, and stands.
pub record Burial (v : View) (p : Pid) (m : ℕ) : Type 0 where
  pub message : MsgId
  pub told : Told
  pub is : v.told message ≡ Some told
  pub kind : told.kind ≡ MessageKind.Bury
  pub receiver : told.receiver ≡ pid_of m 0
  pub about : told.about ≡ Of p
  pub stands : Somewhere v message

pub burial_word : (v : View) (p : Pid) (m k : ℕ) → Burial v p m → Word v p m k
burial_word v p m k h = record { message = h.message; told = h.told; is = h.is; about = h.about; clears = Buries h.kind h.receiver; stands = h.stands }

burial_on : (v w : View) (p : Pid) (m : ℕ) → Lasts None v w → Burial v p m → Burial w p m
burial_on v w p m l h = record {
  message = h.message;
  told = h.told;
  is = l.kept h.message h.told h.is;
  kind = h.kind;
  receiver = h.receiver;
  about = h.about;
  stands = l.on h.message h.told h.is (clears_word m m h.message h.told (Buries h.kind h.receiver)) (λ e. cc) h.stands;
}

burial_packet : (p : Pid) (m : ℕ) → PacketsKeep (λ (q : Point). Burial q.view p m)
burial_packet p m q a b k l h = burial_on q.view (view_after q.view (Line.Packet a b k l)) p m (lasts_smooth None q.view (view_after q.view (Line.Packet a b k l)) (packet_smooth is_word q.view a b k l)) h

-- the next own message of the acting machine's kernel is put
pub record Put (v : View) (i : MsgId) (t : Told) : Type 0 where
  pub told : v.told i ≡ Some t
  pub stands : Somewhere v i

pub own_put : (pt : Point) (b : ℕ) (k : MessageKind) (q : Pid) → Sane pt → PairsFit pt.view → Put (after_put pt.view pt.view.acting b (own_id pt.view) k q) (own_id pt.view) (record { kind = k; receiver = q; about = pt.view.topic })
own_put pt b k q sane fits =
    let v = pt.view in
    let i = own_id v in
    let u : Told = record { kind = k; receiver = q; about = v.topic } in
    record { told = put_at v v.acting b i k q ∙ first_none (v.told i) u (own_untold pt sane); stands = (put_spot v.acting b, put_there v v.acting b i k q fits) }

burial_put : (pt : Point) (p : Pid) (m : ℕ) → Sane pt → PairsFit pt.view → pt.view.topic ≡ Of p → Behind (λ (q : Point). Burial q.view p m) pt (to_kernel MessageKind.Bury m)
burial_put pt p m sane fits topic =
    let k = own_put pt m MessageKind.Bury (pid_of m 0) sane fits in
    record { message = own_id pt.view; told = record { kind = MessageKind.Bury; receiver = pid_of m 0; about = pt.view.topic }; is = k.told; kind = refl; receiver = refl; about = topic; stands = k.stands }

-- what follows an end, or a burial that has come: a queue is dropped, and other machines are told
pub record Laid (u : View) (pt : Point) (p : Pid) (ms : List ℕ) : Type 0 where
  pub keeps : Keeps u pt
  pub told : (m : ℕ) → rule.has m ms ≡ true → Burial pt.view p m

laid_on : (u : View) (mid pt : Point) (p : Pid) (ms : List ℕ) → Keeps u mid → Laid mid.view pt p ms → Laid u pt p ms
laid_on u mid pt p ms k h = record { keeps = keeps_trans u mid pt k h.keeps; told = h.told }

laid_more : (u : View) (mid pt : Point) (p : Pid) (x : ℕ) (ms : List ℕ) → Keeps u mid → Burial mid.view p x → Laid mid.view pt p ms → Laid u pt p (x ∷ ms)
laid_more u mid pt p x ms k one h = record {
  keeps = keeps_trans u mid pt k h.keeps;
  told = λ m e. elim (cases_Bool (m == x)) [
    | inl same ↦ subst (λ (y : ℕ). Burial pt.view p y) (sym (eq_is m x same)) (burial_on mid.view pt.view p x h.keeps.lasts one)
    | inr off ↦ h.told m (sym (ap (λ (c : Bool). c || rule.has m ms) off) ∙ e)
  ];
}

buries_lay : (ms : List ℕ) (pt : Point) (p : Pid) (w : Spelled) → Sane pt → PairsFit pt.view → pt.view.topic ≡ Of p → spelled pt (map (to_kernel MessageKind.Bury) ms) ≡ Some w → Laid pt.view w.point p ms
buries_lay [] pt p w sane fits topic e = record { keeps = tail_keeps [] pt w tt sane fits e; told = λ m none. absurd (false≢true none) }
buries_lay (x ∷ ms) pt p w sane fits topic e =
    let part = to_kernel MessageKind.Bury x in
    let n = next_of pt part (map (to_kernel MessageKind.Bury) ms) w e in
    let k : Keeps pt.view n.next = part_leads (Keeps pt.view) (packet_keeps pt.view) pt n.next part (tail_behind pt.view pt part tt tt sane (keeps_self pt fits)) n.steps in
    let one : Burial n.next.view p x = part_leads (λ (q : Point). Burial q.view p x) (burial_packet p x) pt n.next part (burial_put pt p x sane fits topic) n.steps in
    let rest = buries_lay ms n.next p n.rest (part_sane pt n.next part n.steps.lines tt n.steps.are n.steps.leads sane) k.fits (k.same.topic ∙ topic) n.more in
    subst (λ (q : Point). Laid pt.view q p (x ∷ ms)) n.point (laid_more pt.view n.next n.rest.point p x ms k one rest)

pub ends_lay : (ids : List MsgId) (ms : List ℕ) (pt : Point) (p : Pid) (w : Spelled) → Sane pt → PairsFit pt.view → pt.view.topic ≡ Of p → spelled pt (rule.drop_parts ids ++ map (to_kernel MessageKind.Bury) ms) ≡ Some w → Laid pt.view w.point p ms
ends_lay [] ms pt p w sane fits topic e = buries_lay ms pt p w sane fits topic e
ends_lay (i ∷ is) ms pt p w sane fits topic e =
    let part = rule.says (Label.Dropped i) in
    let n = next_of pt part (rule.drop_parts is ++ map (to_kernel MessageKind.Bury) ms) w e in
    let k : Keeps pt.view n.next = part_leads (Keeps pt.view) (packet_keeps pt.view) pt n.next part (tail_behind pt.view pt part tt refl sane (keeps_self pt fits)) n.steps in
    let rest = ends_lay is ms n.next p n.rest (part_sane pt n.next part n.steps.lines refl n.steps.are n.steps.leads sane) k.fits (k.same.topic ∙ topic) n.more in
    subst (λ (q : Point). Laid pt.view q p ms) n.point (laid_on pt.view n.next n.rest.point p ms k rest)

-- the acting machine forgets a process
pub record Forgets (v w : View) (p : Pid) : Type 0 where
  pub known : (m : ℕ) (q : Pid) → w.known m q ≡ at_record v.known v.acting p Unknown m q
  pub preds : (m : ℕ) (q : Pid) (r : ℕ) → w.preds m q r ≡ at_record v.preds v.acting p view.nobody m q r
  pub topic : w.topic ≡ Of p

pub forgets_into : (o : Option MsgId) (n : ℕ) (pt : Point) (l : Line) (ids : List MsgId) (ms : List ℕ) (p : Pid) → Sane pt → PairsFit pt.view → Preds n pt.view → is_put l ≡ false → touches l ≡ false
    → ((s : OneKernel) → kernel_after pt.kernel (label_of l) ≡ Some s → Forgets pt.view (moved pt l s).view p × Lasts o pt.view (view_after pt.view l)) → ((m : ℕ) → pt.view.preds pt.view.acting p m ≡ true → rule.has m ms ≡ true)
    → ((q : Pid) (m k : ℕ) → ((pt.view.acting == m) && pid_eq p q) ≡ false → (x : Word pt.view q m k) → o ≡ Some x.message → ⊥) → Into n pt (Says l ∷ rule.drop_parts ids ++ map (to_kernel MessageKind.Bury) ms)
forgets_into o n pt l ids ms p sane fits h quiet calm first all other w e =
    let v = pt.view in
    let k = says_next pt l (rule.drop_parts ids ++ map (to_kernel MessageKind.Bury) ms) w e in
    let mid = moved pt l k.s in
    let (f, gone) = first k.s k.is in
    let laid = ends_lay ids ms mid p k.rest (sane_line pt mid l quiet (ap (λ (o : Option OneKernel). bind o (λ s. Some (moved pt l s))) k.is) sane) (line_fits pt k.s l calm fits) f.topic k.more in
    let u = k.rest.point.view in
    let lasts : Lasts o v u = lasts_trans o v mid.view u (lasts_about o v (view_after v l) mid.view.topic gone) (lasts_any o mid.view u laid.keeps.lasts) in
    let there : Preds n u = preds_set n v u v.acting p Unknown view.nobody (record {
      known = λ m q. laid.keeps.same.known m q ∙ f.known m q;
      preds = λ m q r. laid.keeps.same.preds m q r ∙ f.preds m q r;
      mine = λ m c e. cc;
      was = λ m e. ByWord (burial_word u p m v.acting (laid.told m (all m e)));
      words = λ q m k apart x. ByWord (word_on o v u q m k lasts x (other q m k apart x));
      others = refl;
      none = λ e r. refl;
      within = λ r e. absurd (false≢true e);
      comes = λ s e. cc;
    }) h in
    subst (λ (q : Point). Preds n q.view) k.point there

-- the machines that are told are all that there are
pub in_filter : (f : ℕ → Bool) (x : ℕ) (xs : List ℕ) → f x ≡ true → rule.has x xs ≡ true → rule.has x (filter f xs) ≡ true
in_filter f x [] is there = absurd (false≢true there)
in_filter f x (y ∷ ys) is there = elim (cases_Bool (x == y)) [
  | inl same ↦
      let passes : f y ≡ true = ap f (sym (eq_is x y same)) ∙ is in
      ap (λ (c : Bool). rule.has x (if c then y ∷ filter f ys else filter f ys)) passes ∙ ap (λ (c : Bool). c || rule.has x (filter f ys)) same
  | inr off ↦
      let rest = in_filter f x ys is (sym (ap (λ (c : Bool). c || rule.has x ys) off) ∙ there) in
      by (f y) off rest
]
  where
    by : (c : Bool) → (x == y) ≡ false → rule.has x (filter f ys) ≡ true → rule.has x (if c then y ∷ filter f ys else filter f ys) ≡ true
    by true off rest = ap (λ (d : Bool). d || rule.has x (filter f ys)) off ∙ rest
    by false off rest = rest

pub in_range : (a n x : ℕ) → a ≤ x → x < a + n → rule.has x (numbers_from a n) ≡ true
in_range a zero x least less = absurd (omega (arith, least, less))
in_range a (suc n) x least less = elim (cases_Bool (x == a)) [
  | inl same ↦ ap (λ (c : Bool). c || rule.has x (numbers_from (a + 1) n)) same
  | inr off ↦
      let more : a + 1 ≤ x = grind (arith, nat_tests) in
      ap (λ (c : Bool). c || rule.has x (numbers_from (a + 1) n)) off ∙ in_range (a + 1) n x more (omega (arith, less))
]

-- Messages that were queued or held go on, after a line.
sending_packet : (v : View) (js : List MsgId) → PacketsKeep (λ (q : Point). Sending is_word v js q.view)
sending_packet v js q a b k l h =
    let c = packet_smooth is_word q.view a b k l in
    record {
      told = h.told;
      on = λ i t e y s. elim (h.on i t e y s) [ inl x ↦ inl (c.on i t (h.told i ∙ e) y x) | inr x ↦ inr x ];
      back = λ i t e y s. h.back i t e y (c.back i t (h.told i ∙ e) y s);
      from = h.from;
      known = h.known;
      fits = fits_packet q.view a b k l h.fits;
      acting = h.acting;
    }

pub record Gone (u v : View) (pt : Point) : Type 0 where
  pub sending : Sending is_word v [] pt.view
  pub keeps : Keeps u pt
  pub sane : Sane pt

pub sends_into : (n : ℕ) (u v : View) (js : List MsgId) (b : ℕ) (qs : List Part) (pt : Point) → Sending is_word v js pt.view → Keeps u pt → Sane pt → ((q : Point) → Gone u v q → Into n q qs) → Into n pt (sends_on b js ++ qs)
sends_into n u v [] b qs pt h k sane rest w e = rest pt (record { sending = h; keeps = k; sane = sane }) w e
sends_into n u v (j ∷ js) b qs pt h k sane rest w e =
    let x = next_of pt (Again j b) (sends_on b js ++ qs) w e in
    let step : Sending is_word v js x.next.view = part_leads (λ (q : Point). Sending is_word v js q.view) (sending_packet v js) pt x.next (Again j b) (λ t there. sending_put is_word v j js pt.view b t there h) x.steps in
    let keeps : Keeps u x.next = part_leads (Keeps u) (packet_keeps u) pt x.next (Again j b) (tail_behind u pt (Again j b) tt tt sane k) x.steps in
    subst (λ (q : Point). Preds n q.view) x.point (sends_into n u v js b qs x.next step keeps (part_sane pt x.next (Again j b) x.steps.lines tt x.steps.are x.steps.leads sane) rest x.rest x.more)
