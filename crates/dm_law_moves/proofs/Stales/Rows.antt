-- What each row of the rule does with the messages that ask for a piece of a process or bring one.
use Rattle.dm_law_moves.proofs.Names.{◌≡◌, ℕ, ◌+◌, ◌&&◌, Bool, true, false, List, [], ◌∷◌, length, refl, ap, ◌∙◌, sym, subst, arith, nat_tests, Option, None, Some, Pid, pid_of, pid_eq, MsgId, MessageKind, Line, View, Told, About, Of, own_id}
use Rattle.dm_law_moves.proofs.Names.{after_put, view_after, handled_first, Point, label_of, moved, Part, Says, Owns, Spelled, spelled, to_kernel, Spot, ids_at, sort_of, PairsFit, PacketsKeep, Sane, first_off, is_put, touches, line_next}
use Rattle.dm_law_moves.proofs.Names.{seen_none, said, option_map_or, brings_piece, is_about, stales}
use Rattle.dm_law_moves.proofs.Names.{Stage, is_server, memory_off, times}
use Rattle.dm_law_moves.proofs.LastPieces.{last_chunk, both_off}
use Rattle.dm_law_moves.proofs.Leading.{next_of, part_leads, line_fits}
use Rattle.dm_law_moves.proofs.Stages.Spares.{is_piece}
use Rattle.dm_law_moves.proofs.Stages.Rows.{line_sane}
use Rattle.dm_law_moves.proofs.Ends.Parts.{smooth_still, smooth_trans, told_by, Smooth, Plain, Extends, smooth_same, put_smooth, packet_smooth, own_untold, one_if, unit_if, zero_if, part_count}
use Rattle.dm_law_moves.proofs.Ends.Open.{Opens, IsOpen, own_adds, smooth_opens, close_opens, add_opens, Turn, stands_front, first_smooth, first_closes}
use Rattle.dm_law_moves.proofs.Stales.Weighs.{takes_on, takes_all}
use Rattle.dm_law_moves.proofs.Stales.Pieces.{piece_for, AllSlight, parts_smooth, slight_counts}

-- what a group does: so many that stood, and stand behind it, by what its lines say
pub record Flow (p : Pid) (w : View) (ids : List MsgId) (ps : List Part) : Type 0 where
  pub left : List MsgId
  pub opens : Opens (piece_for p) w left
  pub sum : (f : MsgId → Option Told) → Extends w.told f → part_count (takes_on p) ps + length ids ≡ part_count (takes_all p) ps + (part_count (stales f p) ps + length left)

abbrev pub Flows : Pid → View → View → List Part → Type 0
Flows p v w ps = (ids : List MsgId) → Opens (piece_for p) v ids → Flow p w ids ps

-- none comes and none goes
pub smooth_flows : (p : Pid) (v w : View) (ps : List Part) → Smooth (piece_for p) v w → part_count (takes_on p) ps ≡ 0 → part_count (takes_all p) ps ≡ 0 → ((f : MsgId → Option Told) → part_count (stales f p) ps ≡ 0) → Flows p v w ps
smooth_flows p v w ps smooth on all none ids opens = record { left = ids; opens = smooth_opens (piece_for p) v w ids smooth opens; sum = λ f ext. (let s = none f in omega (arith, on, all, s)) }

pub slight_flows : (p : Pid) (pt : Point) (ps : List Part) (w : Spelled) → Sane pt → PairsFit pt.view → AllSlight pt.view ps → spelled pt ps ≡ Some w → Flows p pt.view w.point.view ps
slight_flows p pt ps w sane fits slight e =
    let v = pt.view in
    let c = slight_counts v v.told p ps slight in
    smooth_flows p v w.point.view ps (parts_smooth p v ps pt w slight (smooth_same (piece_for p) v) sane fits e) c.0 c.1 (λ f. (slight_counts v f p ps slight).2)

-- a line that is no step of the kernel, and slight parts
pub line_smooth : (p : Pid) (pt : Point) (l : Line) (ps : List Part) (w : Spelled) → label_of l ≡ None → is_put l ≡ false → touches l ≡ false → Sane pt → PairsFit pt.view → Smooth (piece_for p) pt.view (view_after pt.view l) → AllSlight pt.view ps
    → spelled pt (Says l ∷ ps) ≡ Some w → Smooth (piece_for p) pt.view w.point.view
line_smooth p pt l ps w none quiet calm sane fits first slight e =
    let v = pt.view in
    let n = line_next pt l ps w none e in
    let next = moved pt l pt.kernel in
    let smooth : Smooth (piece_for p) v next.view = subst (Smooth (piece_for p) v) (sym (seen_none pt.kernel v l none)) first in
    subst (λ (x : Point). Smooth (piece_for p) v x.view) n.point (parts_smooth p v ps next n.rest slight smooth (line_sane pt l none quiet sane) (line_fits pt pt.kernel l calm fits) n.more)

pub line_flows : (p : Pid) (pt : Point) (l : Line) (ps : List Part) (w : Spelled) → label_of l ≡ None → is_put l ≡ false → touches l ≡ false → Sane pt → PairsFit pt.view → Smooth (piece_for p) pt.view (view_after pt.view l) → AllSlight pt.view ps
    → takes_on p l ≡ false → takes_all p l ≡ false → ((f : MsgId → Option Told) → stales f p l ≡ false) → spelled pt (Says l ∷ ps) ≡ Some w → Flows p pt.view w.point.view (Says l ∷ ps)
line_flows p pt l ps w none quiet calm sane fits first slight on all stale e =
    let v = pt.view in
    let c = slight_counts v v.told p ps slight in
    let a = zero_if (takes_on p l) on in
    let b = zero_if (takes_all p l) all in
    let x = c.0 in
    let y = c.1 in
    smooth_flows p v w.point.view (Says l ∷ ps) (line_smooth p pt l ps w none quiet calm sane fits first slight e) (omega (arith, a, x)) (omega (arith, b, y))
    (λ f. let d = zero_if (stales f p l) (stale f) in let z = (slight_counts v f p ps slight).2 in omega (arith, d, z))

-- A message about a process is handled, and one is put.

-- lists: these stood, and these stand
record Shift (p : Pid) (w : View) (ids : List MsgId) (come gone : ℕ) : Type 0 where
  left : List MsgId
  opens : Opens (piece_for p) w left
  sum : come + length ids ≡ gone + length left

-- the message at the front goes
front_goes : (p : Pid) (pt : Point) (l : Line) (i : MsgId) (is : List MsgId) (t : Told) (c : Bool) (ids : List MsgId) → Turn pt i is t → piece_for p t ≡ c → is_put l ≡ false → ((z : Spot) → ids_at (view_after pt.view l) z ≡ ids_at (handled_first pt.view) z)
    → Opens (piece_for p) pt.view ids → Shift p (view_after pt.view l) ids 0 (unit_if c)
front_goes p pt l i is t true ids h piece quiet off opens =
    let v = pt.view in
    let stood : IsOpen (piece_for p) v i = record { told = t; is = h.told; picked = piece; stands = stands_front pt i is t h } in
    let s = close_opens (piece_for p) v (view_after v l) ids i stood (first_closes (piece_for p) pt l i is t h quiet off) opens in
    record { left = s.left; opens = s.opens; sum = let less = s.less in omega (arith, less) }
front_goes p pt l i is t false ids h plain quiet off opens =
    let v = pt.view in
    let other : Plain (piece_for p) v i = λ u told. (let f : Some t ≡ Some u = sym h.told ∙ told in let g : t ≡ u = cc in subst (λ (x : Told). piece_for p x ≡ false) g plain) in
    record { left = ids; opens = smooth_opens (piece_for p) v (view_after v l) ids (first_smooth (piece_for p) v l i is h.front other quiet off) opens; sum = refl }

-- a message is put
own_comes : (p : Pid) (pt : Point) (b : ℕ) (k : MessageKind) (q : Pid) (c : Bool) (ids : List MsgId) (w : Spelled) → Sane pt → PairsFit pt.view → piece_for p (record { kind = k; receiver = q; about = pt.view.topic }) ≡ c → spelled pt (Owns k q b ∷ []) ≡ Some w
    → Opens (piece_for p) pt.view ids → Shift p w.point.view ids (unit_if c) 0
own_comes p pt b k q c ids w sane fits piece e opens =
    let v = pt.view in
    let i = own_id v in
    let u = after_put v v.acting b i k q in
    let n = next_of pt (Owns k q b) [] w e in
    let at : n.next ≡ w.point = said n.next n.rest n.more ∙ n.point in
    let open_packet : (p : Pid) (js : List MsgId) → PacketsKeep (λ (x : Point). Opens (piece_for p) x.view js) = λ p js x a c m l h. smooth_opens (piece_for p) x.view (view_after x.view (Line.Packet a c m l)) js (packet_smooth (piece_for p) x.view a c m l) h in
    let there : (js : List MsgId) → Opens (piece_for p) u js → Opens (piece_for p) w.point.view js = λ js h. subst (λ (x : Point). Opens (piece_for p) x.view js) at (part_leads (λ (x : Point). Opens (piece_for p) x.view js) (open_packet p js) pt n.next (Owns k q b) h n.steps) in
    by_piece c piece there
  where
    by_piece : (d : Bool) → piece_for p (record { kind = k; receiver = q; about = pt.view.topic }) ≡ d → ((js : List MsgId) → Opens (piece_for p) (after_put pt.view pt.view.acting b (own_id pt.view) k q) js → Opens (piece_for p) w.point.view js) → Shift p w.point.view ids (unit_if d) 0
    by_piece true piece there =
        let v = pt.view in
        let i = own_id v in
        record { left = i ∷ ids; opens = there (i ∷ ids) (add_opens (piece_for p) v (after_put v v.acting b i k q) ids i (own_adds (piece_for p) pt b k q sane fits piece) opens); sum = omega arith }
    by_piece false plain there =
        let v = pt.view in
        let i = own_id v in
        let untold : Plain (piece_for p) v i = λ t told. absurd (let f : None ≡ Some t = sym (own_untold pt sane) ∙ told in cc) in
        record { left = ids; opens = there ids (smooth_opens (piece_for p) v (after_put v v.acting b i k q) ids (put_smooth (piece_for p) v v.acting b i k q fits plain untold) opens); sum = refl }

-- by the kinds, where both are about one process
abbrev pub counted : Pid → Pid → MessageKind → Bool
counted p q k = is_piece k && pid_eq p q

pub record Even (p q : Pid) (l : Line) (j k : MessageKind) : Type 0 where
  pub sum : one_if (takes_on p) l + unit_if (counted p q j) ≡ one_if (takes_all p) l + unit_if (counted p q k)
  pub stale : (f : MsgId → Option Told) → stales f p l ≡ false

pub answer_flows : (p : Pid) (pt : Point) (i : MsgId) (is : List MsgId) (t : Told) (q : Pid) (l : Line) (j k : MessageKind) (b : ℕ) (w : Spelled) → Turn pt i is t → t.kind ≡ j → t.about ≡ Of q → label_of l ≡ None → is_put l ≡ false → touches l ≡ false
    → ((z : Spot) → ids_at (view_after pt.view l) z ≡ ids_at (handled_first pt.view) z) → (view_after pt.view l).topic ≡ Of q → Even p q l j k → spelled pt (Says l ∷ to_kernel k b ∷ []) ≡ Some w → Flows p pt.view w.point.view (Says l ∷ to_kernel k b ∷ [])
answer_flows p pt i is t q l j k b w h kind about none quiet calm off topic even e ids opens =
    let v = pt.view in
    let n = line_next pt l (to_kernel k b ∷ []) w none e in
    let next = moved pt l pt.kernel in
    let same : next.view ≡ view_after v l = seen_none pt.kernel v l none in
    let mine : piece_for p t ≡ counted p q j = ap (λ (x : MessageKind). is_piece x && is_about p t.about) kind ∙ ap (λ (a : About). is_piece j && is_about p a) about in
    let first = front_goes p pt l i is t (counted p q j) ids h mine quiet off opens in
    let behind_ : Opens (piece_for p) next.view first.left = subst (λ (x : View). Opens (piece_for p) x first.left) (sym same) first.opens in
    let topic_ : next.view.topic ≡ Of q = ap (λ (x : View). x.topic) same ∙ topic in
    let put : piece_for p (record { kind = k; receiver = pid_of b 0; about = next.view.topic }) ≡ counted p q k = ap (λ (a : About). is_piece k && is_about p a) topic_ in
    let last = own_comes p next b k (pid_of b 0) (counted p q k) first.left n.rest (line_sane pt l none quiet h.sane) (line_fits pt pt.kernel l calm h.fits) put n.more behind_ in
    record {
      left = last.left;
      opens = subst (λ (x : Point). Opens (piece_for p) x.view last.left) n.point last.opens;
      sum = λ f ext.
          let x = first.sum in
          let y = last.sum in
          let z = even.sum in
          let s = zero_if (stales f p l) (even.stale f) in
          omega (arith, x, y, z, s);
    }

-- the last chunk of a server: it goes with step 5, and all has come
pub two_flows : (p : Pid) (pt : Point) (i : MsgId) (is : List MsgId) (t : Told) (q : Pid) (b : ℕ) (w : Spelled) → Turn pt i is t → t.kind ≡ MessageKind.State → t.about ≡ Of q → is_server q ≡ true → spelled pt (last_chunk q b) ≡ Some w → Flows p pt.view w.point.view (last_chunk q b)
two_flows p pt i is t q b w h kind about server e ids opens =
    let v = pt.view in
    let l = Line.Migration Stage.StateTaken q in
    let k = Line.Migration Stage.MemoryTaken q in
    let end = to_kernel MessageKind.AllTaken b ∷ [] in
    let n = line_next pt l (Says k ∷ end) w refl e in
    let next = moved pt l pt.kernel in
    let last = moved next k next.kernel in
    let o = line_next next k end n.rest refl n.more in
    let alone = view_after v k in
    let mid = view_after next.view k in
    let mine : piece_for p t ≡ pid_eq p q = ap (λ (x : MessageKind). is_piece x && is_about p t.about) kind ∙ ap (is_about p) about in
    -- as if step 5 alone had been said
    let first = front_goes p pt k i is t (pid_eq p q) ids h mine refl (memory_off v q) opens in
    let second : Smooth (piece_for p) alone mid = smooth_still (piece_for p) alone mid (λ j. told_by next.view k refl j ∙ told_by v l refl j ∙ sym (told_by v k refl j)) (λ j z. ap (times j) (both_off v q z server ∙ sym (memory_off v q z))) in
    let sane = line_sane next k refl refl (line_sane pt l refl refl h.sane) in
    let fits = line_fits next next.kernel k refl (line_fits pt pt.kernel l refl h.fits) in
    let third : Smooth (piece_for p) mid o.rest.point.view = parts_smooth p mid end last o.rest (refl, tt) (smooth_same (piece_for p) mid) sane fits o.more in
    record {
      left = first.left;
      opens = subst (λ (x : Point). Opens (piece_for p) x.view first.left) (o.point ∙ n.point) (smooth_opens (piece_for p) alone o.rest.point.view first.left (smooth_trans (piece_for p) alone mid o.rest.point.view second third) first.opens);
      sum = λ f ext. (let x = first.sum in omega (arith, x));
    }

-- a piece that comes too late goes
pub stale_flows : (p : Pid) (pt : Point) (i : MsgId) (is : List MsgId) (t : Told) (q : Pid) (w : Spelled) → Turn pt i is t → t.about ≡ Of q → brings_piece (sort_of t.kind) ≡ true → spelled pt (Says (Line.Stale i) ∷ []) ≡ Some w → Flows p pt.view w.point.view (Says (Line.Stale i) ∷ [])
stale_flows p pt i is t q w h about brings e ids opens =
    let v = pt.view in
    let l = Line.Stale i in
    let n = line_next pt l [] w refl e in
    let at : moved pt l pt.kernel ≡ w.point = said (moved pt l pt.kernel) n.rest n.more ∙ n.point in
    let piece : is_piece t.kind ≡ true = (let brings_is : (k : MessageKind) → brings_piece (sort_of k) ≡ true → is_piece k ≡ true = λ k e. grind (arith, nat_tests) in brings_is t.kind brings) in
    let mine : piece_for p t ≡ pid_eq p q = ap (λ (c : Bool). c && is_about p t.about) piece ∙ ap (is_about p) about in
    let s = front_goes p pt l i is t (pid_eq p q) ids h mine refl (λ z. sym (first_off v i is h.front z)) opens in
    let there : Opens (piece_for p) w.point.view s.left = subst (λ (x : Point). Opens (piece_for p) x.view s.left) at s.opens in
    record {
      left = s.left;
      opens = there;
      sum = λ f ext.
          let told : w.point.view.told i ≡ Some t = ap (λ (x : Point). x.view.told i) (sym at) ∙ h.told in
          let one : stales f p l ≡ pid_eq p q = ap (λ (o : Option Told). option_map_or (λ x. is_about p x.about) o false) (ext i t told) ∙ ap (is_about p) about in
          let c : unit_if (stales f p l) ≡ unit_if (pid_eq p q) = ap unit_if one in
          let x = s.sum in
          omega (arith, c, x);
    }
