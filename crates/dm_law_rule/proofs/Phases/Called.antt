-- A migration is called off: what was held goes back, what is under way is left over, and the kernel of the machine that the process was to leave is told.
use Rattle.dm_law_rule.proofs.Names.{◌≡◌, ◌⊎◌, ℕ, ◌≤◌, ◌==◌, ◌&&◌, Bool, true, false, not, [], ◌∷◌, ◌++◌, length, refl, ap, ◌∙◌, sym, subst, inl, inr, arith, if◌then◌else◌, Option, None, Some, false≢true, Pid, MsgId, MessageKind, Line, View}
use Rattle.dm_law_rule.proofs.Names.{Told, Known, Incoming, Forward, view_after, is_kernels, Point, moved, Spelled, spelled, to_kernel, sends_on, Spot, Held, times, standing, is_between, is_early, is_restart, is_due, is_away, kind_leaves}
use Rattle.dm_law_rule.proofs.Names.{kind_comes, Phase, Nowhere, Rests, Over, Moves, knows, token_in, told_between, IsIn, sort_of, eqb-true, left_true, right_true, not-true, and_parts, IsWay, Asks, Comes, HasCome, tells_come, is_calloff}
use Rattle.dm_law_rule.proofs.Names.{pulls_piece, brings_piece, Inbox, Untaken, sender_in, pid_of}
use Rattle.dm_law_rule.specs.View as view
use Rattle.dm_law_rule.proofs.Lines.{eq_self}
use Rattle.dm_law_rule.proofs.Pairs.Lines.{pair_same}
use Rattle.dm_law_rule.proofs.Said.{fits_as}
use Rattle.dm_law_rule.proofs.Requests.{called_parts}
use Rattle.dm_law_rule.proofs.Moves.Called.{unheld, called_off, called_way}
use Rattle.dm_law_rule.proofs.Moves.States.{Between}
use Rattle.dm_law_rule.proofs.Moves.Sent.{steadied, line_next}
use Rattle.dm_law_rule.proofs.Phases.Calm.{left_on, way_on}
use Rattle.dm_law_rule.proofs.Phases.Stand.{none_only, InPhases, Learns, learns_phases, LeavesOver, held_plain, calls_in, never_called, none_first, kept_awaited, token_at, pull_ways, piece_ways}
use Rattle.dm_law_rule.proofs.Phases.Answers.{WholeBut, Whole, owns_whole}
use Rattle.dm_law_rule.proofs.Phases.Pieces.{record_off}
use Rattle.dm_law_rule.proofs.Phases.Rests.{at_acting}
use Rattle.dm_law_rule.proofs.Phases.Leaves.{WayIn, all_again, fewer_record, told_some}

-- a process that is awaited is on its way, and was accepted
record Awaited (phase : Phase) (m from : ℕ) : Type 0 where
  kind : MessageKind
  id : Option MsgId
  is : phase ≡ Moves kind from m id
  accepted : is_early kind ≡ false
  kept : is_calloff kind ≡ false

none_there : (b : Bool) → (if b then false else false) ≡ true → ⊥
none_there true e = false≢true e
none_there false e = false≢true e

awaited_by : (k : MessageKind) (s d m from : ℕ) (o : Option MsgId) (b c : Bool) → (s == m) ≡ b → (d == m) ≡ c → (if b then kind_leaves k d (Incoming from) else if c then kind_comes k s (Incoming from) else is_away (Incoming from)) ≡ true → Awaited (Moves k s d o) m from
awaited_by k s d m from o true c sm dm e = absurd (false≢true e)
awaited_by k s d m from o false false sm dm e = absurd (false≢true e)
awaited_by k s d m from o false true sm dm e =
    let both = and_parts (not (is_early k)) (not (is_calloff k) && (s == from)) e in
    let more = and_parts (not (is_calloff k)) (s == from) both.1 in
    record {
      kind = k;
      id = o;
      is = ap (λ (n : ℕ). Moves k n d o) (eqb-true s from more.1) ∙ ap (λ (n : ℕ). Moves k from n o) (eqb-true d m dm);
      accepted = not-true (is_early k) both.0;
      kept = not-true (is_calloff k) more.0;
    }

awaited : (phase : Phase) (m from : ℕ) → knows phase m (Incoming from) ≡ true → Awaited phase m from
awaited Nowhere m from e = absurd (false≢true e)
awaited (Rests at) m from e = absurd (none_there (at == m) e)
awaited (Over at) m from e = absurd (none_there (at == m) e)
awaited (Moves k s d o) m from e = awaited_by k s d m from o (s == m) (d == m) refl refl e

-- what is under way while not all of a process has come
record Piece (k : MessageKind) : Type 0 where
  which : (pulls_piece (sort_of k) ≡ true) ⊎ (brings_piece (sort_of k) ≡ true)
  held : is_restart k ≡ false

piece : (k : MessageKind) → is_between k ≡ true → is_early k ≡ false → is_calloff k ≡ false → HasCome (tells_come (sort_of k)) false → Piece k
piece MessageKind.PullState b early called come = record { which = inl refl; held = refl }
piece MessageKind.PullBlock b early called come = record { which = inl refl; held = refl }
piece MessageKind.State b early called come = record { which = inr refl; held = refl }
piece MessageKind.Memory b early called come = record { which = inr refl; held = refl }
piece MessageKind.Ask b early called come = absurd (false≢true (sym early))
piece MessageKind.Refuse b early called come = absurd (false≢true (sym early))
piece MessageKind.CallOff b early called come = absurd (false≢true (sym called))
piece MessageKind.AllTaken b early called come = absurd (false≢true come)
piece MessageKind.Restart b early called come = absurd (false≢true come)
piece _ b early called come = absurd (false≢true b)

-- the phase of a process that is called off
record Calling (v : View) (h : InPhases v) (p : Pid) (from : ℕ) : Type 0 where
  kind : MessageKind
  id : MsgId
  is : h.of p ≡ Moves kind from v.acting (Some id)
  kept : is_calloff kind ≡ false
  piece : Piece kind
  apart : (from == v.acting) ≡ false

calling : (v : View) (h : InPhases v) (p : Pid) (from : ℕ) → v.known v.acting p ≡ Incoming from → v.come p ≡ false → Calling v h p from
calling v h p from here come =
    let w = awaited (h.of p) v.acting from (ap (knows (h.of p) v.acting) (sym here) ∙ (h.each p).known v.acting) in
    by_id w w.id refl
  where
    by_id : (w : Awaited (h.of p) v.acting from) (o : Option MsgId) → w.id ≡ o → Calling v h p from
    by_id w None none = absurd (let due : is_due (h.of p) ≡ true = ap is_due (w.is ∙ ap (λ (o : Option MsgId). Moves w.kind from v.acting o) none) in let f : None ≡ Some p = h.put p due in cc)
    by_id w (Some i) some =
        let is : h.of p ≡ Moves w.kind from v.acting (Some i) = w.is ∙ ap (λ (o : Option MsgId). Moves w.kind from v.acting o) some in
        let now : IsIn v p (Moves w.kind from v.acting (Some i)) = subst (λ (x : Phase). IsIn v p x) is (h.each p) in
        record {
          kind = w.kind;
          id = i;
          is = is;
          kept = w.kept;
          piece = piece w.kind (left_true (is_between w.kind) (not (from == v.acting)) now.apart) w.accepted w.kept (subst (λ (c : Bool). HasCome (tells_come (sort_of w.kind)) c) come now.come);
          apart = not-true (from == v.acting) (right_true (is_between w.kind) (not (from == v.acting)) now.apart);
        }

-- where it was awaited it is forwarded from then on
forwards_back : (k : Known) (from n : ℕ) → k ≡ Incoming from → view.goes_back k n ≡ Forward from n
forwards_back k from n is = ap (λ (x : Known). view.goes_back x n) is

now_known : (v : View) (p : Pid) (n from : ℕ) → v.known v.acting p ≡ Incoming from → (m : ℕ) → (view_after v (Line.Called p n)).known m p ≡ (if v.acting == m then Forward from (v.moves p) else v.known m p)
now_known v p n from here m =
    at_acting v v.acting m p (view.goes_back (v.known v.acting p) (v.moves p)) refl ∙ ap (λ (x : Known). if v.acting == m then x else v.known m p) (forwards_back (v.known v.acting p) from (v.moves p) here)

leaves_same : (k : MessageKind) (d : ℕ) (y : Known) → is_restart k ≡ false → kind_leaves k d y ≡ kind_leaves MessageKind.CallOff d y
leaves_same k d y e = search arith

called_knows : (k : MessageKind) (s d m n : ℕ) (o : Option MsgId) (b : Bool) (y : Known) → is_restart k ≡ false → (s == d) ≡ false → (d == m) ≡ b → knows (Moves k s d o) m y ≡ true → knows (Moves MessageKind.CallOff s d None) m (if b then Forward s n else y) ≡ true
called_knows k s d m n o true y held apart dm e =
    let dm_ : d ≡ m = eqb-true d m dm in
    let sm : (s == m) ≡ false = subst (λ (x : ℕ). (s == x) ≡ false) dm_ apart in
    let x = Forward s n in
    ap (λ (c : Bool). if c then kind_leaves MessageKind.CallOff d x else if d == m then kind_comes MessageKind.CallOff s x else is_away x) sm
    ∙ ap (λ (c : Bool). if c then kind_comes MessageKind.CallOff s x else is_away x) dm ∙ eq_self s
called_knows k s d m n o false y held apart dm e =
    ap (λ (c : Bool). if s == m then kind_leaves MessageKind.CallOff d y else if c then kind_comes MessageKind.CallOff s y else is_away y) dm
    ∙ ap (λ (c : Bool). if s == m then c else is_away y) (sym (leaves_same k d y held))
    ∙ sym (ap (λ (c : Bool). if s == m then kind_leaves k d y else if c then kind_comes k s y else is_away y) dm) ∙ e

-- what is of the protocol stands in no list, and stays where it is
called_was : (v : View) (p : Pid) (n : ℕ) (j : MsgId) (z : Spot) → 1 ≤ standing (view_after v (Line.Called p n)) j z → 1 ≤ standing v j z
called_was v p n j z st =
    let unheld_back : (v : View) (p : Pid) (j : MsgId) (z : Spot) → 1 ≤ standing (unheld v p) j z → 1 ≤ standing v j z = λ v p j z h1. search (arith, fewer_record) in
    unheld_back v p j z (subst (λ x. 1 ≤ x) (ap (times j) (called_off v p n z)) st)

called_stays : (v : View) (h : InPhases v) (p : Pid) (n : ℕ) (j : MsgId) (t : Told) (z : Spot) → v.told j ≡ Some t → is_between t.kind ≡ true → 1 ≤ standing v j z → 1 ≤ standing (view_after v (Line.Called p n)) j z
called_stays v h p n j t (Held m q) told b st = absurd (false≢true (sym (held_plain v m q j t h told st) ∙ b))
called_stays v h p n j t z told b st = subst (λ x. 1 ≤ x) (sym (ap (times j) (called_off v p n z))) st

called_learns : (v : View) (h : InPhases v) (p : Pid) (n : ℕ) → Learns v (view_after v (Line.Called p n)) p
called_learns v h p n = record {
  calm = λ m q off. record_off v.known v.acting p (view.goes_back (v.known v.acting p) (v.moves p)) m q off;
  come = λ q off. refl;
  fresh = λ j x e b. e;
  kept = λ j x e. e;
  back = λ j x e b z st. inl (called_was v p n j z st);
  on = λ j x q apart e b ab z st. (z, called_stays v h p n j x z e b st);
}

-- the message under way is left over, and what was left over stays so
called_left : (v : View) (h : InPhases v) (p : Pid) (n from : ℕ) → v.known v.acting p ≡ Incoming from → ((j : MsgId) (t : Told) → v.told j ≡ Some t → is_between t.kind ≡ true → is_kernels j ≡ true) → Calling v h p from
    → LeavesOver v (view_after v (Line.Called p n)) p (h.of p) (Moves MessageKind.CallOff from v.acting None)
called_left v h p n from here own c j t z told b about st back was =
    let w = view_after v (Line.Called p n) in
    let a = v.acting in
    let next = Moves MessageKind.CallOff from a None in
    let never : (s : ℕ) → Forward from (v.moves p) ≡ Incoming s → ⊥ = λ s e. cc in
    elim was [
      | inl mine ↦
          (let same : c.id ≡ j = (let f : Some c.id ≡ Some j = sym (ap token_in c.is) ∙ mine in cc) in
          let token = token_at v p (h.of p) c.kind from a j (c.is ∙ ap (λ (i : MsgId). Moves c.kind from a (Some i)) same) (h.each p) in
          let say : t ≡ told_between p c.kind from a = (let f : Some t ≡ Some (told_between p c.kind from a) = sym told ∙ token.told in cc) in
          let kind_is : c.kind ≡ t.kind = sym (ap (λ (y : Told). y.kind) say) in
          let say_ : t ≡ told_between p t.kind from a = say ∙ ap (λ (k : MessageKind). told_between p k from a) kind_is in
          elim c.piece.which [
            | inl pulls ↦
                (let ends = pull_ways c.kind from a pulls in
                let way : IsWay v j a from = record {
                  sender = token.from ∙ ap (λ (m : ℕ). pid_of m 0) ends.0;
                  own = own j t told b;
                  ways = λ y s. subst (λ (m : ℕ). (y ≡ Inbox from) ⊎ (y ≡ Untaken m from)) ends.0 (subst (λ (m : ℕ). (y ≡ Inbox m) ⊎ (y ≡ Untaken (sender_in c.kind from a) m)) ends.1 (token.ways y s));
                } in
                Asks from a None (ap (λ (k : MessageKind). pulls_piece (sort_of k)) (sym kind_is) ∙ pulls) say_ (way_on v w j a from back way) refl tt)
            | inr brings ↦
                (let ends = piece_ways c.kind from a brings in
                let way : IsWay v j from a = record {
                  sender = token.from ∙ ap (λ (m : ℕ). pid_of m 0) ends.0;
                  own = own j t told b;
                  ways = λ y s. subst (λ (m : ℕ). (y ≡ Inbox a) ⊎ (y ≡ Untaken m a)) ends.0 (subst (λ (m : ℕ). (y ≡ Inbox m) ⊎ (y ≡ Untaken (sender_in c.kind from a) m)) ends.1 (token.ways y s));
                } in
                Comes from a (ap (λ (k : MessageKind). brings_piece (sort_of k)) (sym kind_is) ∙ brings) say_ (way_on v w j from a back way)
                (λ e. never from (sym (now_known v p n from here a ∙ ap (λ (x : Bool). if x then Forward from (v.moves p) else v.known a p) (eq_self a)) ∙ e))
                (λ o is. none_first next from a j o refl is))
          ])
      | inr left ↦ left_on v w p (h.of p) next j t back (λ s d o pulls way is first. absurd (never_called (h.of p) s d o (ap calls_in c.is ∙ c.kept) is))
          (λ s d brings way off first now. off (kept_awaited (a == d) (Forward from (v.moves p)) (v.known d p) s never (sym (now_known v p n from here d) ∙ now)))
          (λ s d o brings way first is. none_first next s d j o refl is) left
    ]

pub called_row : (pt : Point) (p : Pid) (from : ℕ) (w : Spelled) → Whole pt → ((j : MsgId) (t : Told) → pt.view.told j ≡ Some t → is_between t.kind ≡ true → is_kernels j ≡ true) → pt.view.known pt.view.acting p ≡ Incoming from → pt.view.come p ≡ false
    → spelled pt (called_parts p (pt.view.held pt.view.acting p) from) ≡ Some w → Whole w.point
called_row pt p from w h own here come e =
    let v = pt.view in
    let a = v.acting in
    let ids = v.held a p in
    let l = Line.Called p (length ids) in
    let end = to_kernel MessageKind.CallOff from ∷ [] in
    let k = line_next pt l (sends_on from ids ++ end) w refl e in
    let next = moved pt l pt.kernel in
    let c = calling v h.phases p from here come in
    let ph = Moves MessageKind.CallOff from a None in
    let was : (m : ℕ) → knows (Moves c.kind from a (Some c.id)) m (v.known m p) ≡ true = λ m. subst (λ (x : Phase). knows x m (v.known m p) ≡ true) c.is ((h.phases.each p).known m) in
    let turned = learns_phases v next.view p ph h.phases (none_only p) (called_learns v h.phases p (length ids)) refl (ap not c.apart)
    (λ m. ap (knows ph m) (now_known v p (length ids) from here m) ∙ called_knows c.kind from a m (v.moves p) (Some c.id) (a == m) (v.known m p) c.piece.held c.apart refl (was m)) come
    (called_left v h.phases p (length ids) from here own c) in
    let gone : Between ids next = called_way pt p (length ids) h.state in
    let way : WayIn p ph a ids next = record {
      way = record { between = gone; fits = fits_as v next.view (pair_same v l refl) h.fits };
      phases = turned.phases;
      now = turned.now;
      acting = refl;
      topic = refl;
      tame = λ j least. (let (q, x, y) = gone.way j least in let (t, told) = told_some (v.told j) q y in record { what = t; told = told; plain = held_plain v a p j t h.phases told least });
    } in
    let g = all_again p ph a ids next from end k.rest way k.more in
    let steady = steadied g.next g.stands.way in
    let whole : WholeBut (Some p) g.next = record { state = steady.state; fits = steady.fits; phases = g.stands.phases } in
    subst Whole k.point (subst Whole g.point (owns_whole g.next p MessageKind.CallOff from a from g.rest whole g.stands.now g.stands.topic g.stands.acting refl g.more))
