-- A walk over the parts of a turn that leaves a kernel's own message standing somewhere.
use Rattle.dm_law_moves.proofs.Names.{◌≡◌, ℕ, List, [], ◌∷◌, ◌++◌, refl, ap, sym, subst, inl, inr, arith, Some, Pid, Place, MsgId, Boot, Step, Line, Leads, IsStep, Spelled, Point, after, group_of, Spot, standing, Phased, phased_group}
use Rattle.dm_law_moves.proofs.Names.{LeadsBy, update_of, nat_tests, ◌⊎◌, ◌≤◌, ◌&&◌, Bool, true, false, ◌∙◌, ⊤, Option, None, cases_Bool, MessageKind, plain_kind, id_eq, id_eq-is, id_eq-same, Stage, View, Told, is_kernels, view_after}
use Rattle.dm_law_moves.proofs.Names.{label_of, kernel_after, Part, Says, Again, Owns, spelled, times, sends_on, is_put, not_true, parts, touches, pair_same, fits_as, PairsFit, fits_put, fits_packet, Sane, Sayable, part_sane, Steps, said_by}
use Rattle.dm_law_moves.proofs.Names.{OneKernel, PlainMessage, Addresses, Sender, forwards_on, Loose, loose_round, loose_handles, by_forwards, seen, Label, PlainWhat, to_kernel, moved, leaves_for, move_target, Target, length, NothingElse}
use Rattle.dm_law_moves.proofs.Names.{if◌then◌else◌, manager, Known, Unknown, Here, Forward, process_told, both_lists, last_point, by_hears, behind_count, place_told, answers_move, Outcome, false≢true, migrates, not_kernels, IsNet, fits}
use Rattle.dm_law_moves.proofs.Names.{under_way, kernels_by, begun, begun_sane, by_migrates, by_outcome, group_is, topic_by, deliver_off, migrate_off, tick_off, turn_off, option_map_or, called_parts, by_calls_off}
use Rattle.dm_law_moves.proofs.Names.{preds_of, buries, buries_kept}
use Rattle.dm_law_rule.specs.Rule as rule
use Rattle.dm_law_moves.proofs.Names.{is_server}
use Rattle.dm_law_moves.proofs.LastPieces.{last_chunk, state_front}
use Rattle.dm_law_moves.proofs.After.{after-append, group_after}
use Rattle.dm_law_moves.proofs.Promise.Spots.{Stands, Spares, line_stands, label_stands, put_this, put_stands, packet_stands, Fronts, about_stands, Front, sent_stands, held_this, fronts, net_stands, stands_off, lines_told}
use Rattle.dm_law_moves.proofs.Promise.Spots.{told_stays}
use Rattle.dm_law_moves.proofs.Leading.{Behind, whatever_put, part_leads, next_of, net_lead}
use Rattle.dm_law_moves.proofs.Promise.Spots.{called_stands}

-- a kernel's own message that was told of
pub record Base (j : MsgId) (t : Told) (pt : Point) : Type 0 where
  pub sane : Sane pt
  pub fits : PairsFit pt.view
  pub own : is_kernels j ≡ true
  pub told : pt.view.told j ≡ Some t

abbrev pub NeedsPart : MsgId → Point → Part → Type 0
NeedsPart j pt (Says l) = Spares j pt.view l
NeedsPart j pt _ = ⊤

-- parts that need nothing
abbrev pub is_loose_line : Line → Bool
is_loose_line (Line.Label l) = true
is_loose_line (Line.Idle m) = true
is_loose_line (Line.Old a b n) = true
is_loose_line Line.Nothing = true
is_loose_line (Line.Resent m n) = true
is_loose_line (Line.NoChild p) = true
is_loose_line (Line.NoCall p) = true
is_loose_line Line.Away = true
is_loose_line (Line.Migration Stage.Asked p) = true
is_loose_line (Line.Migration Stage.Left p) = true
is_loose_line _ = false

abbrev pub is_loose : Part → Bool
is_loose (Says l) = is_loose_line l
is_loose _ = true

abbrev pub all_loose : List Part → Bool
all_loose [] = true
all_loose (p ∷ ps) = is_loose p && all_loose ps

spares_quiet : (j : MsgId) (v : View) (l : Line) → Spares j v l → (touches l ≡ false) × (is_put l ≡ false)
spares_quiet j v l e = grind (arith, nat_tests)

base_on : (j : MsgId) (t : Told) (pt next : Point) (p : Part) → Sayable p → PairsFit next.view → Base j t pt → Steps pt p next → Base j t next
base_on j t pt next p ok fits h s = search (part_sane, lines_told)

-- a line that touches no pair
pub base_says : (j : MsgId) (t : Told) (pt next : Point) (l : Line) → touches l ≡ false → is_put l ≡ false → Base j t pt → Steps pt (Says l) next → Base j t next
base_says j t pt next l quiet ok h s =
    -- pairs that fit
    let says_fit : (pt next : Point) (l : Line) → touches l ≡ false → PairsFit pt.view → Steps pt (Says l) next → PairsFit next.view = λ pt next l quiet h s.
    let k = said_by pt next l s in
    subst (λ (x : Point). PairsFit x.view) k.is (fits_as pt.view (seen pt.kernel pt.view l) (pair_same pt.view l quiet) h) in
    base_on j t pt next (Says l) ok (says_fit pt next l quiet h.fits s) h s

part_base : (j : MsgId) (t : Told) (pt next : Point) (p : Part) → NeedsPart j pt p → Base j t pt → Steps pt p next → Base j t next
part_base j t pt next p need h s =
    let part_fits : (j : MsgId) (pt next : Point) (p : Part) → NeedsPart j pt p → PairsFit pt.view → Steps pt p next → PairsFit next.view = λ j pt next p need h s.
    let fits_behind : Behind (λ x. PairsFit x.view) pt p = grind (arith, nat_tests, whatever_put, fits_as, pair_same, spares_quiet, fits_put) in
    part_leads (λ x. PairsFit x.view) (λ x a c n l f. fits_packet x.view a c n l f) pt next p fits_behind s in
    base_on j t pt next p (grind (arith, nat_tests, spares_quiet)) (part_fits j pt next p need h.fits s) h s

part_stands : (j : MsgId) (t : Told) (pt next : Point) (p : Part) → NeedsPart j pt p → Base j t pt → Stands pt.view j → Steps pt p next → Stands next.view j
part_stands j t pt next p need base h s =
    -- and it stands
    let line_behind : (j : MsgId) (pt : Point) (s : OneKernel) (l : Line) → Spares j pt.view l → Sane pt → is_kernels j ≡ true → Stands pt.view j → kernel_after pt.kernel (label_of l) ≡ Some s → Stands (view_after pt.view l) j =
    λ j pt s l need sane own h step.
    line_stands pt.view j l need
    (λ x is. subst (λ (y : Line). Stands (view_after pt.view y) j) (sym is) (label_stands pt s x j sane (ap (λ (y : Line). kernel_after pt.kernel (label_of y)) (sym is) ∙ step) own h)) h in
    part_leads (λ x. Stands x.view j) (λ x a c n l f. packet_stands x.view a c n l j f) pt next p
    (whatever_put (λ x. Stands x.view j) pt p (λ l is k step. about_stands (view_after pt.view l) (moved pt l k).view.topic j (line_behind j pt k l (subst (NeedsPart j pt) is need) base.sane base.own h step)) (λ b i k q. put_stands pt.view pt.view.acting b i k q j base.fits h) h) s

-- the message itself is put again
pub again_this : (j : MsgId) (t : Told) (pt next : Point) (b : ℕ) → Base j t pt → Steps pt (Again j b) next → Stands next.view j
again_this j t pt next b base s = part_leads (λ x. Stands x.view j) (λ x a c n l f. packet_stands x.view a c n l j f) pt next (Again j b) (λ u told. put_this pt.view pt.view.acting b j u.kind u.receiver base.fits) s

-- it stands somewhere behind the parts, or they say that it was handled, and nothing else
abbrev pub Ends : MsgId → Spelled → Type 0
Ends j w = Stands w.point.view j ⊎ ((n : ℕ) × (w.lines ≡ Line.Updated j n ∷ []))

abbrev pub Goes : MsgId → Point → List Part → Type 0
Goes j pt ps = (w : Spelled) → spelled pt ps ≡ Some w → Ends j w

abbrev pub GoesOf : MsgId → Point → Option (List Part) → Type 0
GoesOf j pt None = ⊤
GoesOf j pt (Some ps) = Goes j pt ps

pub loose_stands : (ps : List Part) (j : MsgId) (t : Told) (pt : Point) (w : Spelled) → all_loose ps ≡ true → Base j t pt → Stands pt.view j → spelled pt ps ≡ Some w → Stands w.point.view j
loose_stands [] j t pt w e base h is = let f : record { lines = []; point = pt } ≡ w = cc in subst (λ (x : Spelled). Stands x.point.view j) f h
loose_stands (p ∷ ps) j t pt w e base h is =
    let both = parts (is_loose p) (all_loose ps) e in
    let n = next_of pt p ps w is in
    let need : NeedsPart j pt p = grind (arith, nat_tests, both.0) in
    subst (λ (x : Point). Stands x.view j) n.point (loose_stands ps j t n.next n.rest both.1 (part_base j t pt n.next p need base n.steps) (part_stands j t pt n.next p need base h n.steps) n.more)

pub sends_stand : (ids : List MsgId) (j : MsgId) (t : Told) (to : ℕ) (ps : List Part) (pt : Point) (w : Spelled) → all_loose ps ≡ true → Base j t pt → Stands pt.view j ⊎ (1 ≤ times j ids) → spelled pt (sends_on to ids ++ ps) ≡ Some w → Stands w.point.view j
sends_stand [] j t to ps pt w e base h is = elim h [
  | inl there ↦ loose_stands ps j t pt w e base there is
  | inr on ↦ absurd (omega (arith, on))
]
sends_stand (i ∷ is_) j t to ps pt w e base h is =
    let n = next_of pt (Again i to) (sends_on to is_ ++ ps) w is in
    let base_ = part_base j t pt n.next (Again i to) tt base n.steps in
    let there : Stands n.next.view j ⊎ (1 ≤ times j is_) = elim (cases_Bool (id_eq i j)) [
      | inl same ↦ inl (again_this j t pt n.next to base (subst (λ (x : MsgId). Steps pt (Again x to) n.next) (id_eq-is i j same) n.steps))
      | inr off ↦ elim h [
        | inl stands ↦ inl (part_stands j t pt n.next (Again i to) tt base stands n.steps)
        | inr on ↦ inr (grind (arith, nat_tests, not_true, id_eq-is, id_eq-same))
      ]
    ] in
    subst (λ (x : Point). Stands x.view j) n.point (sends_stand is_ j t to ps n.next n.rest e base_ there n.more)

-- the message stands somewhere where a turn begins
pub record Waits (j : MsgId) (t : Told) (pt : Point) : Type 0 where
  pub base : Base j t pt
  pub stands : Stands pt.view j

pub first_row : (j : MsgId) (t : Told) (pt : Point) (p : Part) (ps : List Part) → Waits j t pt → NeedsPart j pt p → all_loose ps ≡ true → Goes j pt (p ∷ ps)
first_row j t pt p ps h need e =
    let first_goes : (j : MsgId) (t : Told) (pt : Point) (p : Part) (ps : List Part) → NeedsPart j pt p → all_loose ps ≡ true → Base j t pt → Stands pt.view j → Goes j pt (p ∷ ps) = λ j t pt p ps need e base h w is.
    let n = next_of pt p ps w is in
    inl (subst (λ (x : Point). Stands x.view j) n.point (loose_stands ps j t n.next n.rest e (part_base j t pt n.next p need base n.steps) (part_stands j t pt n.next p need base h n.steps) n.more)) in
    first_goes j t pt p ps need e h.base h.stands

pub loose_row : (j : MsgId) (t : Told) (pt : Point) (ps : List Part) → Waits j t pt → all_loose ps ≡ true → Goes j pt ps
loose_row j t pt ps h e = (λ w is. inl (loose_stands ps j t pt w e h.base h.stands is))

quiet_loose : Loose (λ ps. all_loose ps ≡ true)
quiet_loose = record { none = refl; label = λ l ps h. h; routes = λ i ps h. h; buries = λ to ps h. h }

-- a process is served
pub round_goes : (j : MsgId) (t : Told) (pt : Point) (b : Boot) (o : Point) (m : ℕ) (q : Option Pid) (ps : List Part) → Waits j t pt → rule.goes_round b o m q ≡ Some ps → Goes j pt ps
round_goes j t pt b o m q ps h e = loose_row j t pt ps h (loose_round (λ xs. all_loose xs ≡ true) quiet_loose b o m q ps refl e)

-- another message is handled
pub forwards_goes : (j : MsgId) (t : Told) (pt : Point) (a : Addresses) (id : MsgId) (k : MessageKind) (sender : Pid) (to : ℕ) → Waits j t pt → id_eq id j ≡ false → Goes j pt (forwards_on a id k sender to)
forwards_goes j t pt a id k sender to h off =
    let l = Says (Line.Forwarded id to) in
    by_forwards (Goes j pt) a id k sender to (first_row j t pt l (Again id to ∷ []) h off refl) (first_row j t pt l (Again id to ∷ Owns MessageKind.Update sender (a (Sender id)).at ∷ []) h off refl)

-- a process is asked to move, and sets off: where it goes, the message said
asks_goes : (j : MsgId) (t : Told) (pt : Point) (id : MsgId) (msg : PlainMessage) (to : ℕ) → Waits j t pt → pt.kernel.bag id ≡ Some msg → msg.what ≡ PlainWhat.Move to → Goes j pt (rule.says (Label.Asked id) ∷ leaves_for msg.to to)
asks_goes j t pt id msg to h there what w is =
    let l = Line.Label (Label.Asked id) in
    let n = next_of pt (Says l) (leaves_for msg.to to) w is in
    let k = said_by pt n.next l n.steps in
    let base = base_says j t pt n.next l refl refl h.base n.steps in
    let was : Stands (moved pt l k.kernel).view j = about_stands (view_after pt.view l) (option_map_or (λ m. move_target m.what) (pt.kernel.bag id) NothingElse) j (label_stands pt k.kernel (Label.Asked id) j h.base.sane k.step h.base.own h.stands) in
    let stands : Stands n.next.view j = subst (λ (x : Point). Stands x.view j) k.is was in
    let topic : Target to ≡ n.next.view.topic = sym (ap move_target what) ∙ sym (ap (λ (o : Option PlainMessage). option_map_or (λ m. move_target m.what) o NothingElse) there) ∙ ap (λ (x : Point). x.view.topic) k.is in
    let first = Says (Line.Migration Stage.Frozen msg.to) in
    let ps = Says (Line.Migration Stage.Asked msg.to) ∷ to_kernel MessageKind.Ask to ∷ [] in
    let need : NeedsPart j n.next first = subst (Fronts n.next.view j) topic tt in
    let o = next_of n.next first ps n.rest n.more in
    inl (subst (λ (x : Point). Stands x.view j) (o.point ∙ n.point) (loose_stands ps j t o.next o.rest refl (part_base j t n.next o.next first need base o.steps) (part_stands j t n.next o.next first need base stands o.steps) o.more))

-- A turn that handles a kernel's own message leaves another standing; an update that it handles goes on, or that is said alone.

-- another is at the front of the acting machine's inbox
pub record Other (j : MsgId) (pt : Point) (i : MsgId) : Type 0 where
  pub front : Front pt.view j
  pub apart : id_eq i j ≡ false

-- the last chunk of a server: the front stays until step 5
server_goes : (j : MsgId) (t : Told) (pt : Point) (p : Pid) (b : ℕ) → is_server p ≡ true → Waits j t pt → Front pt.view j → Goes j pt (last_chunk p b)
server_goes j t pt p b server h front w is =
    let l = Line.Migration Stage.StateTaken p in
    let k = Line.Migration Stage.MemoryTaken p in
    let end = to_kernel MessageKind.AllTaken b ∷ [] in
    let n = next_of pt (Says l) (Says k ∷ end) w is in
    let s = said_by pt n.next l n.steps in
    let base = part_base j t pt n.next (Says l) front h.base n.steps in
    let stands = part_stands j t pt n.next (Says l) front h.base h.stands n.steps in
    let need : Front n.next.view j = subst (λ (x : Point). Front x.view j) s.is (record { first = front.first; rest = front.rest; is = state_front pt.view p front.first front.rest server front.is; apart = front.apart }) in
    let o = next_of n.next (Says k) end n.rest n.more in
    inl (subst (λ (x : Point). Stands x.view j) (o.point ∙ n.point) (loose_stands end j t o.next o.rest refl (part_base j t n.next o.next (Says k) need base o.steps) (part_stands j t n.next o.next (Says k) need base stands o.steps) o.more))

-- a process leaves
sent_goes : (j : MsgId) (t : Told) (pt : Point) (i : MsgId) (p : Pid) (ids : List MsgId) (to : ℕ) → both_lists pt.view p ≡ ids → Waits j t pt → Other j pt i → Goes j pt (Says (Line.SentOn p (length ids)) ∷ sends_on to ids ++ Says (Line.Migration Stage.Left p) ∷ to_kernel MessageKind.Restart i.from.home ∷ [])
sent_goes j t pt i p ids to are h k w is =
    let l = Line.SentOn p (length ids) in
    let last = Says (Line.Migration Stage.Left p) ∷ to_kernel MessageKind.Restart i.from.home ∷ [] in
    let n = next_of pt (Says l) (sends_on to ids ++ last) w is in
    let s = said_by pt n.next l n.steps in
    let on : Stands n.next.view j ⊎ (1 ≤ times j ids) = elim (sent_stands pt.view p (length ids) j k.front h.stands) [
      | inl there ↦ inl (subst (λ (x : Point). Stands x.view j) s.is there)
      | inr goes ↦ inr (subst (λ (xs : List MsgId). 1 ≤ times j xs) are goes)
    ] in
    inl (subst (λ (x : Point). Stands x.view j) n.point (sends_stand ids j t to last n.next n.rest refl (base_says j t pt n.next l refl refl h.base n.steps) on n.more))

pub hears_goes : (j : MsgId) (t : Told) (pt : Point) (b : Boot) (o : Point) (m : ℕ) (i : MsgId) (q : Option Told) (ps : List Part) → ((p : Pid) → both_lists pt.view p ≡ o.view.queue m p ++ o.view.held m p) → Waits j t pt → Other j pt i → rule.hears b o m i q ≡ Some ps → Goes j pt ps
hears_goes j t pt b o m i q ps are h k =
    let home = i.from.home in
    let proto : (c : MessageKind) → Goes j pt (Says (Line.Proto i) ∷ to_kernel c home ∷ []) = λ c. first_row j t pt (Says (Line.Proto i)) (to_kernel c home ∷ []) h k.apart refl in
    let about : (l : Line) → Spares j pt.view l → Goes j pt (Says l ∷ []) = λ l spares. first_row j t pt (Says l) [] h spares refl in
    by_hears (Goes j pt) b o m i q ps (λ u is. record {
      stale = λ p is_about late. about (Line.Stale i) k.apart;
      buried = λ p is_about kind. first_row j t pt (Says (Line.Buried i (length (preds_of o m p)))) (buries o m p) h k.apart (buries_kept (λ xs. all_loose xs ≡ true) refl (λ to xs e. e) (preds_of o m p));
      told = λ p x is_about alive due. record {
        accepted = λ ask. first_row j t pt (Says (Line.Migration Stage.Accepted p)) (to_kernel MessageKind.PullState home ∷ []) h k.front refl;
        lacks = λ slots blocks. first_row j t pt (Says (Line.Lacks p slots blocks)) (to_kernel MessageKind.Refuse home ∷ []) h k.front refl;
        stays = λ kind free. about (Line.Stays p) k.front;
        stays_asked = λ kind n noted. first_row j t pt (Says (Line.Stays p)) (answers_move n.id Outcome.Stayed) h k.front refl;
        restarted_asked = λ kind n noted. first_row j t pt (Says (Line.Migration Stage.Restarted p)) (answers_move n.id Outcome.Done) h k.front refl;
        state = proto MessageKind.State;
        next_chunk = proto MessageKind.PullState;
        last_chunk = first_row j t pt (Says (Line.Migration Stage.StateTaken p)) (to_kernel MessageKind.PullBlock home ∷ []) h k.front refl;
        server_chunk = λ server. server_goes j t pt p home server h k.front;
        memory = proto MessageKind.Memory;
        next_block = proto MessageKind.PullBlock;
        last_block = first_row j t pt (Says (Line.Migration Stage.MemoryTaken p)) (to_kernel MessageKind.AllTaken home ∷ []) h k.front refl;
        left = λ ids to leaves. sent_goes j t pt i p ids to (are p ∙ sym leaves.lists) h k;
        restarted = λ kind free. about (Line.Migration Stage.Restarted p) k.front;
      };
      updated = λ kind. about (Line.Updated i (behind_count o.kernel o.addresses u.receiver (place_told u.about))) k.apart;
      updated_none = λ kind at_. about (Line.Updated i 0) k.apart;
      no_move = λ at_. about (Line.NoMove i) k.apart;
      leaving = λ to at_. about (Line.Held i) k.apart;
      coming = λ from at_. about (Line.Held i) k.apart;
      forwarded = λ to moves at_. forwards_goes j t pt o.addresses i u.kind manager to h k.apart;
      stays_here = λ at_. about (Line.Here i) k.apart;
      frozen = λ to at_. first_row j t pt (Says (Line.Migration Stage.Frozen u.receiver)) (Says (Line.Migration Stage.Asked u.receiver) ∷ to_kernel MessageKind.Ask to ∷ []) h (fronts pt.view j pt.view.topic k.front) refl;
    })

-- a migration is called off
called_goes : (j : MsgId) (t : Told) (pt : Point) (p : Pid) (ids : List MsgId) (from : ℕ) → pt.view.held pt.view.acting p ≡ ids → Waits j t pt → Goes j pt (called_parts p ids from)
called_goes j t pt p ids from are h w is =
    let l = Line.Called p (length ids) in
    let last = to_kernel MessageKind.CallOff from ∷ [] in
    let n = next_of pt (Says l) (sends_on from ids ++ last) w is in
    let s = said_by pt n.next l n.steps in
    let on : Stands n.next.view j ⊎ (1 ≤ times j ids) = elim (called_stands pt.view p (length ids) j h.stands) [
      | inl there ↦ inl (subst (λ (x : Point). Stands x.view j) s.is there)
      | inr goes ↦ inr (subst (λ (xs : List MsgId). 1 ≤ times j xs) are goes)
    ] in
    inl (subst (λ (x : Point). Stands x.view j) n.point (sends_stand ids j t from last n.next n.rest refl (base_says j t pt n.next l refl refl h.base n.steps) on n.more))

-- the update itself
updates_this : (j : MsgId) (pt : Point) (n : ℕ) → Goes j pt (Says (Line.Updated j n) ∷ [])
updates_this j pt n w is =
    let no_lines : (pt : Point) (w : Spelled) → spelled pt [] ≡ Some w → w.lines ≡ [] = λ pt w is. let f : record { lines = []; point = pt } ≡ w = cc in sym (ap (λ (x : Spelled). x.lines) f) in
    let k = next_of pt (Says (Line.Updated j n)) [] w is in
    inr (n, let f : (Line.Updated j n) ∷ [] ≡ k.steps.lines = cc in sym (ap (λ (us : List Line). us ++ k.rest.lines) f ∙ k.lines) ∙ ap (λ (us : List Line). (Line.Updated j n) ∷ us) (no_lines k.next k.rest k.more))

forwarded_goes : (j : MsgId) (t : Told) (pt : Point) (to : ℕ) → Waits j t pt → Goes j pt (Says (Line.Forwarded j to) ∷ Again j to ∷ [])
forwarded_goes j t pt to h w is =
    let n = next_of pt (Says (Line.Forwarded j to)) (Again j to ∷ []) w is in
    let base = base_says j t pt n.next (Line.Forwarded j to) refl refl h.base n.steps in
    let k = next_of n.next (Again j to) [] n.rest n.more in
    let there = again_this j t n.next k.next to base k.steps in
    let end : k.rest.point ≡ w.point = k.point ∙ n.point in
    let last : k.next ≡ k.rest.point = last_point k.next k.rest k.more in
    inl (subst (λ (x : Point). Stands x.view j) (last ∙ end) there)

process_this : (j : MsgId) (pt o : Point) (m : ℕ) (p q : Pid) (place : Place) (c : Known) → Waits j (update_of p q place) pt → GoesOf j pt (process_told o m j (update_of p q place) c)
process_this j pt o m p q place Unknown h = updates_this j pt 0
process_this j pt o m p q place Here h = updates_this j pt _
process_this j pt o m p q place (Forward at moves) h = forwarded_goes j (update_of p q place) pt at h
process_this j pt o m p q place _ h = search (arith, next_of, said_by, held_this, loose_stands, base_says)

-- Each group leaves an update that is under way standing somewhere, or says that it was handled, and nothing else.

-- an update that is under way is a kernel's own message
pub update_own : (pt : Point) (j : MsgId) (t : Told) (o : Option PlainMessage) → pt.kernel.bag j ≡ o → t.kind ≡ MessageKind.Update → pt.view.told j ≡ Some t → Stands pt.view j → Phased pt → is_kernels j ≡ true
update_own pt j t (Some m) there update told h phased = absurd (grind (arith, nat_tests, (sym (phased.sane.tells.kind j m t there told) ∙ update)))
update_own pt j t None there update told h phased = grind (arith, nat_tests, under_way, kernels_by)

-- a turn
turned_by : (b : Boot) (o : Point) (m : ℕ) (j : MsgId) (p q : Pid) (place : Place) (i : MsgId) (is : List MsgId) (ps : List Part) (c : Bool) → id_eq i j ≡ c → o.view.inbox m ≡ i ∷ is → Waits j (update_of p q place) (begun o (Step.Turn m)) → rule.hears b o m i (o.view.told i) ≡ Some ps → Goes j (begun o (Step.Turn m)) ps
turned_by b o m j p q place i is ps true e front h said =
    let hears_this : (j : MsgId) (pt : Point) (b : Boot) (o : Point) (m : ℕ) (p q : Pid) (place : Place) → Waits j (update_of p q place) pt → GoesOf j pt (rule.hears b o m j (Some (update_of p q place))) = λ j pt b o m p q place h.
    let goes_if : (j : MsgId) (pt : Point) (c : Bool) (x y : Option (List Part)) → GoesOf j pt x → GoesOf j pt y → GoesOf j pt (if c then x else y) = λ j pt c x y h k. grind (arith, nat_tests) in
    search (goes_if, process_this) in
    let same : i ≡ j = id_eq-is i j e in
    let pt = begun o (Step.Turn m) in
    subst (GoesOf j pt) (ap (rule.hears b o m j) (sym h.base.told) ∙ ap (λ (x : MsgId). rule.hears b o m x (o.view.told x)) (sym same) ∙ said) (hears_this j pt b o m p q place h)
turned_by b o m j p q place i is ps false e front h said = search hears_goes

-- packets and what they bring
net_goes : (ps : List Part) (j : MsgId) (pt : Point) (w : Spelled) → IsNet ps → Stands pt.view j → spelled pt ps ≡ Some w → Stands w.point.view j
net_goes ps j pt w net h is = net_lead (λ x. Stands x.view j) (λ x a c n l f. packet_stands x.view a c n l j f)
    (λ q s l line there. about_stands (view_after q.view l) (topic_by q.kernel (view_after q.view l).topic (label_of l)) j (net_stands q.view l j line there)) ps pt w net is h

-- a directive to move a process
outcome_goes : (b : Boot) (o : Point) (d : Step) (ps : List Part) (j : MsgId) (p q : Pid) (place : Place) → ((e : Step) → Waits j (update_of p q place) (begun o e)) → rule.outcome b o d ≡ Some ps → Goes j (begun o d) ps
outcome_goes b o d ps j p q place h = by_outcome (λ e. Goes j (begun o e)) b o d ps (record {
  round = λ m xs box e. round_goes j (update_of p q place) (begun o (Step.Turn m)) b o m (rule.first_runnable o.kernel (o.view.queue m) (o.view.ring m)) xs (h (Step.Turn m)) e;
  handles = λ m i is msg xs box there e.
      (let w = h (Step.Turn m) in
      let bag_apart : id_eq i j ≡ false = not_true (id_eq i j) (λ f. false≢true (sym (not_kernels w.base.sane.r w.base.sane.e (begun o (Step.Turn m)).kernel i msg there w.base.sane.sound) ∙ ap is_kernels (id_eq-is i j f) ∙ w.base.own)) in
      let handles_goes : (j : MsgId) (t : Told) (pt : Point) (b : Boot) (o : Point) (m : ℕ) (id : MsgId) (msg : PlainMessage) (ps : List Part) → Waits j t pt → pt.kernel.bag id ≡ Some msg → id_eq id j ≡ false
      → rule.handles b o m id msg ≡ Some ps → Goes j pt ps = λ j t pt b o m id msg ps h there off e.
      loose_handles (Goes j pt) (λ xs. all_loose xs ≡ true) quiet_loose (λ xs. loose_row j t pt xs h) b o m id msg ps (λ here. first_row j t pt (Says (Line.Queued id)) [] h off refl) (first_row j t pt (Says (Line.Held id)) [] h off refl)
      (λ to here what apart. asks_goes j t pt id msg to h there what) (λ to moves at_. forwards_goes j t pt o.addresses id (plain_kind msg.what) msg.sender to h off) e in
      handles_goes j (update_of p q place) (begun o (Step.Turn m)) b o m i msg xs w there bag_apart e);
  hears = λ m i is xs box none e. turned_by b o m j p q place i is xs (id_eq i j) refl box (h (Step.Turn m)) e;
  ticks = λ m xs net w is. inl (net_goes xs j (begun o (Step.Tick m)) w net (h (Step.Tick m)).stands is);
  delivers = λ a c k xs net w is. inl (net_goes xs j (begun o (Step.Deliver a c k)) w net (h (Step.Deliver a c k)).stands is);
  asks = λ r m. loose_row j (update_of p q place) (begun o (Step.Migrate r m)) (migrates o r) (h (Step.Migrate r m)) (by_migrates (λ (ps : List Part). all_loose ps ≡ true) o r refl refl (λ n off is. refl));
  calls = λ r m. (let begins = begun o (Step.CallOff r m) in
      by_calls_off (Goes j begins) o m r (loose_row j (update_of p q place) begins (Says (Line.NoCall r) ∷ []) (h (Step.CallOff r m)) refl)
      (λ from is come. called_goes j (update_of p q place) begins r (o.view.held m r) from refl (h (Step.CallOff r m))));
})

-- a head leaves the streams as they are
waits_begun : (o : Point) (d : Step) (j : MsgId) (t : Told) → t.kind ≡ MessageKind.Update → o.view.told j ≡ Some t → Stands o.view j → Phased o → Waits j t (begun o d)
waits_begun o d j t update told h phased = record {
  base = record { sane = begun_sane o d phased.sane; fits = grind (arith, nat_tests, fits o.view phased.pairs); own = update_own o j t (o.kernel.bag j) refl update told h phased; told = told_stays o.view (Line.Head d) j t told };
  stands = grind (arith, nat_tests, stands_off, turn_off, tick_off, deliver_off, migrate_off);
}

pub group_ends : (b : Boot) (o : Point) (d : Step) (w : Spelled) (j : MsgId) (p q : Pid) (place : Place) → group_of b o d ≡ Some w → Phased o → o.view.told j ≡ Some (update_of p q place) → Stands o.view j → Stands w.point.view j ⊎ ((n : ℕ) × (w.lines ≡ Line.Head d ∷ Line.Updated j n ∷ []))
group_ends b o d w j p q place e phased told h =
    let g = group_is b o d w e in
    elim (outcome_goes b o d g.parts j p q place (λ e. waits_begun o e j (update_of p q place) refl told h phased) g.is g.rest g.said) [
      | inl there ↦ inl (subst (λ (x : Point). Stands x.view j) g.point there)
      | inr says ↦ let (n, is) = says in inr (n, sym (ap (λ (x : Spelled). x.lines) g.whole) ∙ ap (λ (ls : List Line). Line.Head d ∷ ls) is)
    ]

-- Where nothing is on its way any more, an update that was under way was handled by the first group that says so.

-- the lines of a run
pub record Lines (b : Boot) (pt : Point) (es : List Step) (end : Point) : Type 0 where
  pub lines : List Line
  pub goes : LeadsBy b pt es lines end
  pub leads : after pt lines ≡ Some end

pub lines_by : (b : Boot) (es : List Step) (pt end : Point) → Leads b pt es end → Lines b pt es end
lines_by b [] pt end leads = record { lines = []; goes = (refl, leads); leads = ap Some leads }
lines_by b (d ∷ es) pt end (w, fit, is, rest) =
    let k = lines_by b es w.point end rest in
    record { lines = w.lines ++ k.lines; goes = (w, k.lines, fit, is, refl, k.goes); leads = after-append w.lines k.lines pt w.point end (group_after b pt d w is) k.leads }

pub leads_append : (b : Boot) (xs ys : List Step) (pt mid end : Point) → Leads b pt xs mid → Leads b mid ys end → Leads b pt (xs ++ ys) end
leads_append b [] ys pt mid end e f = subst (λ (x : Point). Leads b x ys end) (sym e) f
leads_append b (d ∷ xs) ys pt mid end (w, fit, is, rest) f = (w, fit, is, leads_append b xs ys w.point mid end rest f)

-- the group that handles it
pub record Handles (b : Boot) (told pt : Point) (between : List Step) (id : MsgId) : Type 0 where
  pub early : List Step
  pub directive : Step
  pub late : List Step
  pub are : between ≡ early ++ directive ∷ late
  pub handled : Point
  pub comes : Leads b told early handled
  pub group : Spelled
  pub fit : IsStep handled.kernel.machines directive
  pub is : group_of b handled directive ≡ Some group
  pub count : ℕ
  pub says : group.lines ≡ Line.Head directive ∷ Line.Updated id count ∷ []
  pub rest : Leads b group.point late pt

later : (b : Boot) (pt end : Point) (d : Step) (w : Spelled) (es : List Step) (id : MsgId) → IsStep pt.kernel.machines d → group_of b pt d ≡ Some w → Handles b w.point end es id → Handles b pt end (d ∷ es) id
later b pt end d w es id fit is h = record {
  early = d ∷ h.early;
  directive = h.directive;
  late = h.late;
  are = ap (λ (xs : List Step). d ∷ xs) h.are;
  handled = h.handled;
  comes = (w, fit, is, h.comes);
  group = h.group;
  fit = h.fit;
  is = h.is;
  count = h.count;
  says = h.says;
  rest = h.rest;
}

pub find_handled : (b : Boot) (es : List Step) (pt end : Point) (id : MsgId) (p q : Pid) (place : Place) → Leads b pt es end → Phased pt → pt.view.told id ≡ Some (update_of p q place) → Stands pt.view id → ((z : Spot) → standing end.view id z ≡ 0) → Handles b pt end es id
find_handled b [] pt end id p q place leads phased told h none = grind (arith, nat_tests)
find_handled b (d ∷ es) pt end id p q place (w, fit, is, rest) phased told h none =
    elim (group_ends b pt d w id p q place is phased told h) [
      | inl there ↦
          later b pt end d w es id fit is
          (find_handled b es w.point end id p q place rest (phased_group b pt d w fit is phased) (lines_told w.lines pt w.point id (update_of p q place) (group_after b pt d w is) told) there none)
      | inr says ↦
          let (n, are) = says in
          record { early = []; directive = d; late = es; are = refl; handled = pt; comes = refl; group = w; fit = fit; is = is; count = n; says = are; rest = rest }
    ]
