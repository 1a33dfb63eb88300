-- What a turn says of a kernel's own message fits the trails.
use Rattle.dm_law_moves.proofs.Names.{◌≡◌, ℕ, ◌+◌, Bool, true, false, List, [], ◌∷◌, refl, ap, ◌∙◌, sym, subst, arith, ◌||◌, if◌then◌else◌, slice_get, Option, None, Some, Pid, pid_of, MsgId, MessageKind, Label, Line, plain_kind, proto_known}
use Rattle.dm_law_moves.proofs.Names.{PlainMessage, Boot, first_number, View, Told, Here, Forward, handled, ends_by, served_told, view_after, Receiver, Point, moved, Part, Says, Routes, Nowhere, forwards_on, Trails, IsOn, ReceivedAt, ended_on}
use Rattle.dm_law_moves.proofs.Names.{is_fixed, Unborn, said_by, Stops, by_round, by_handles, StoodOnTrail, nat_tests, ◌≤◌, inl, inr, PutFits, manager, Step, Of, is_kernels, own_id, after_head, front_of, Sender, to_of, sender_of}
use Rattle.dm_law_moves.proofs.Names.{Spelled, IsIn, is_between, group_of, Inbox, Queue, Held, times, standing, both_lists, both_times, front_kernels, Phased, outcome_sayable, Named, Links, parts, migrate_to, migrate_from, Treads}
use Rattle.dm_law_moves.proofs.Names.{line_treads, KnownStands, Begins, begins, begun, begun_sane, turned, unborn, FoundBy, KnowsAt, moves_back, own_outside, own_fresh, told_there, about_same, stands_first, queued_for, told_for, either}
use Rattle.dm_law_moves.proofs.Names.{fixed_home, by_migrates, migrates, by_outcome, by_group, answers_move, leaves_for, Outcome, asked_noted, ◌++◌, false≢true, Stage, pid_eq-same, Frozen, Incoming, to_kernel, Moves, receiver_in, sender_in}
use Rattle.dm_law_moves.proofs.Names.{Sane, source_holds, destination_expects, by_hears, place_told, behind_count, left_parts, MoveNote, OneKernel, Known, label_of, kernel_after, at_record, at_record_at, Said, aim, sets, sort_of, is_restart}
use Rattle.dm_law_moves.proofs.Names.{kind_leaves, eq_is, eq_self, tells_onward, called_parts, by_calls_off, coming_is, holds_on, two_apart, calm_phases, head_calm, knows, InPhases, sends_on, again_rides, ◌==◌, length, is_server, is_away}
use Rattle.dm_law_moves.proofs.Names.{is_alive, resting, Resting, bury_over, ended_away, map, About, living, PlainWhat, next_is_new}
use Rattle.dm_law_moves.proofs.LastPieces.{last_chunk}
use Rattle.dm_law_moves.proofs.At.RestOnly.{ended_alive}
use Rattle.dm_law_rule.proofs.KnownPlaces.{known_by}
use Rattle.dm_law_rule.specs.Addresses.{known_place}
use Rattle.dm_law_rule.specs.View.{has_seat}
use Rattle.dm_law_rule.specs.Trails.{AddressesOn}
use Rattle.dm_link.specs.Names.{Place}
use Rattle.dm_law_rule.proofs.Homes.Serves.{ServedAt}
use Rattle.dm_law_rule.specs.Burying as bury
use Rattle.dm_onekernel.specs.Pieces as pieces
use Rattle.dm_onekernel.specs.Step as kernel
use Rattle.dm_law_rule.specs.Rule as rule
use Rattle.dm_law_rule.proofs.Hearing as hearing
use Rattle.dm_law_moves.proofs.At.RestAlways.{is_here_is}
use Rattle.dm_law_moves.proofs.Trail.Placed.{is_held, Places, placed_held, places_set, places_held, places_forgets, Elsewhere, placed_comes, placed_restarts, moves_held, moves_comes}
use Rattle.dm_law_moves.proofs.Trail.Loose.{Walks, AllLoose, loose_walks, places_same, label_fits, label_walks, routes_loose, queued_loose, held_loose, dropped_loose, ends_loose, buries_loose, apart_off, AllGood, parts_good, owns_leave, at_pid}
use Rattle.dm_law_moves.proofs.Trail.Loose.{net_loose, first_walks, to_between, Loose, quiet, forwards_walks}
use Rattle.dm_law_moves.proofs.Trail.Loose.{leaves_walks}
use Rattle.dm_law_moves.proofs.Stages.Spares.{is_piece}
use Rattle.dm_law_moves.proofs.Ends.Open.{whole_due}
use Rattle.dm_law_moves.proofs.Trail.Placed.{placed_back}
use Rattle.dm_law_rule.specs.View as view
use Rattle.dm_law_moves.proofs.Trail.Loose.{places_ride}

pub at_end : (pt : Point) (t : Trails) (p : Pid) → pt.view.known pt.view.acting p ≡ Here → Places pt.view t → slice_get (t p) (pt.view.moves p) ≡ Some pt.view.acting
at_end pt t p here h = (h p).now pt.view.acting (ap is_held here)

-- the end of a move is answered, where the process is
pub answers_walks : (pt : Point) (t : Trails) (i : MsgId) (r : Outcome) → ((p : Pid) → pt.kernel.noted i ≡ Some p → pt.view.known pt.view.acting p ≡ Here) → Places pt.view t → Walks pt t (answers_move i r)
answers_walks pt t i r here h =
    label_walks pt t (Label.Answered i r) (Routes (pieces.answer_id i) ∷ []) (λ on. (
      (λ p noted. at_end pt t p (here p noted) h),
      tt,
      places_same pt.view (view_after pt.view (Line.Label (Label.Answered i r))) t (λ m q. refl) (λ q. refl) h,
    )) (routes_loose (pieces.answer_id i), tt)

-- a process sets off
pub freezes_walks : (pt : Point) (t : Trails) (p : Pid) (to : ℕ) → pt.view.known pt.view.acting p ≡ Here → Places pt.view t → Walks pt t (leaves_for p to)
freezes_walks pt t p to here h =
    let v = pt.view in
    let set = sets v p v.topic in
    let asked_loose : (p : Pid) → Loose (Says (Line.Migration Stage.Asked p)) = λ p. quiet (Line.Migration Stage.Asked p) (λ pt t. tt) (λ v t. refl) (λ v n q. refl) (λ v q. refl) in
    first_walks (Line.Migration Stage.Frozen p) (Says (Line.Migration Stage.Asked p) ∷ to_kernel MessageKind.Ask to ∷ []) pt t
    (λ sane on. (here, λ next s. subst (λ (z : Point). Places z.view t) s.is (places_held v (view_after v (Line.Migration Stage.Frozen p)) t p (Frozen (aim v v.topic)) set.known set.moves refl (ap is_held here) h))) (asked_loose p, to_between MessageKind.Ask to refl)

-- a process moves, and a message of this kind is heard about it
pub record Heard (pt : Point) (p : Pid) (k : MessageKind) : Type 0 where
  pub s : ℕ
  pub d : ℕ
  pub o : Option MsgId
  pub phase : IsIn pt.view p (Moves k s d o)
  pub acts : pt.view.acting ≡ receiver_in k s d
  pub from : front_of (pt.view.inbox pt.view.acting) ≡ sender_in k s d
  pub for_it : Sane pt → (i : MsgId) (q : Pid) → 1 ≤ times i (both_lists pt.view p) → Named pt.kernel pt.view (Receiver i) q → q ≡ p

accepted_places : (pt : Point) (t : Trails) (p : Pid) → Heard pt p MessageKind.Ask → Places pt.view t → Places (view_after pt.view (Line.Migration Stage.Accepted p)) t
accepted_places pt t p u h =
    let v = pt.view in
    let w = view_after v (Line.Migration Stage.Accepted p) in
    let from = front_of (v.inbox v.acting) in
    places_set v w t t p (Incoming from) refl (λ q apart. refl) (λ q apart. refl) (λ q apart. h q)
    (λ learnt. placed_comes v w t p from learnt refl
    (λ d c e. let f : Frozen u.d ≡ Forward d c = sym (source_holds v p MessageKind.Ask u.s u.d u.o u.phase refl) ∙ sym (ap (λ (m : ℕ). v.known m p) u.from) ∙ e in cc) (h p))

accepts_walks : (pt : Point) (t : Trails) (from : ℕ) (p : Pid) → Heard pt p MessageKind.Ask → Places pt.view t → Walks pt t (Says (Line.Migration Stage.Accepted p) ∷ to_kernel MessageKind.PullState from ∷ [])
accepts_walks pt t from p u h =
    first_walks (Line.Migration Stage.Accepted p) (to_kernel MessageKind.PullState from ∷ []) pt t
    (λ sane on. (record { k = MessageKind.Ask; s = u.s; d = u.d; o = u.o; phase = u.phase; off = refl }, λ next s. subst (λ (z : Point). Places z.view t) s.is (accepted_places pt t p u h))) (to_between MessageKind.PullState from refl)

-- the source holds the process where it is told that it stays
source_had : (pt : Point) (p : Pid) (k : MessageKind) → is_restart k ≡ false → tells_onward (sort_of k) ≡ false → Heard pt p k → is_held (pt.view.known pt.view.acting p) ≡ true
source_had pt p k late back u =
    let acts : pt.view.acting ≡ u.s = u.acts ∙ ap (λ (c : Bool). if c then u.d else u.s) back in
    ap (λ (m : ℕ). is_held (pt.view.known m p)) acts ∙ ap is_held (source_holds pt.view p k u.s u.d u.o u.phase late)

stays_walks : (pt : Point) (t : Trails) (p : Pid) (k : MessageKind) → is_restart k ≡ false → tells_onward (sort_of k) ≡ false → Heard pt p k → Places pt.view t → Walks pt t (Says (Line.Stays p) ∷ [])
stays_walks pt t p k late back u h =
    let v = pt.view in
    let had = source_had pt p k late back u in
    first_walks (Line.Stays p) [] pt t
    (λ sane on. (record { k = k; s = u.s; d = u.d; o = u.o; phase = u.phase; off = late }, λ next s. subst (λ (z : Point). Places z.view t) s.is (places_held v (view_after v (Line.Stays p)) t p Here refl refl refl had h))) tt

restarted_places : (pt : Point) (t : Trails) (p : Pid) → Heard pt p MessageKind.Restart → Places pt.view t → Places (view_after pt.view (Line.Migration Stage.Restarted p)) t
restarted_places pt t p u h =
    -- then its source forwards
    let moves_forward : (v : View) (p : Pid) (k : MessageKind) (s d : ℕ) (o : Option MsgId) → IsIn v p (Moves k s d o) → is_restart k ≡ true → (c : ℕ) × (v.known s p ≡ Forward d c) = λ v p k s d o h on.
    let forward_by : (k : MessageKind) (d : ℕ) (x : Known) → is_restart k ≡ true → kind_leaves k d x ≡ true → (c : ℕ) × (x ≡ Forward d c) = λ k d x on e. grind (arith, nat_tests, parts, eq_is) in
    grind (arith, nat_tests, forward_by, eq_self) in
    let v = pt.view in
    let w = view_after v (Line.Migration Stage.Restarted p) in
    let (c, away) = moves_forward v p MessageKind.Restart u.s u.d u.o u.phase refl in
    let comes = destination_expects v p MessageKind.Restart u.s u.d u.o u.phase refl refl in
    places_set v w t t p Here refl (λ q apart. ap (λ (b : Bool). if b then v.moves p + 1 else v.moves q) apart) (λ q apart. refl) (λ q apart. h q)
    (λ learnt. placed_restarts v w t p learnt (ap (λ (b : Bool). if b then v.moves p + 1 else v.moves p) (pid_eq-same p)) ((h p).next u.s u.d c away comes ∙ ap Some (sym u.acts)) ((h p).longer u.s u.d c away comes)
    (λ m held. false≢true (sym (moves_held v p MessageKind.Restart u.s u.d m u.o u.phase held).1)) (λ k from at. moves_comes v p MessageKind.Restart u.s u.d k from u.o u.phase at ∙ sym u.acts))

-- who asked for the move is told
answers_at : (pt : Point) (t : Trails) (p : Pid) (l : Line) (n : MoveNote) (r : Outcome) → label_of l ≡ None → (view_after pt.view l).known ≡ at_record pt.view.known pt.view.acting p Here → (view_after pt.view l).acting ≡ pt.view.acting
    → pt.kernel.notes p ≡ Some n → Sane pt
    → Places (moved pt l pt.kernel).view t → (next : Point) → Said pt l next → Walks next t (answers_move n.id r)
answers_at pt t p l n r none known acting noted sane places next s =
    let same : pt.kernel ≡ s.kernel = (let e : Some pt.kernel ≡ Some s.kernel = sym (ap (kernel_after pt.kernel) none) ∙ s.step in cc) in
    let here : (view_after pt.view l).known (view_after pt.view l).acting p ≡ Here =
    ap (λ (m : ℕ). (view_after pt.view l).known m p) acting ∙ ap (λ (f : ℕ → Pid → Known). f pt.view.acting p) known ∙ at_record_at pt.view.known pt.view.acting p Here in
    let walks : Walks (moved pt l pt.kernel) t (answers_move n.id r) = answers_walks (moved pt l pt.kernel) t n.id r (λ q e.
    let same_ : p ≡ q = (let f : Some p ≡ Some q = sym (sane.sound.notes.noted p n noted) ∙ e in cc) in
    subst (λ (x : Pid). (view_after pt.view l).known (view_after pt.view l).acting x ≡ Here) same_ here) places in
    subst (λ (z : Point). Walks z t (answers_move n.id r)) s.is (subst (λ (u : OneKernel). Walks (moved pt l u) t (answers_move n.id r)) same walks)

stays_asked : (pt : Point) (t : Trails) (p : Pid) (n : MoveNote) (k : MessageKind) → is_restart k ≡ false → tells_onward (sort_of k) ≡ false → Heard pt p k → pt.kernel.notes p ≡ Some n → Places pt.view t → Walks pt t (Says (Line.Stays p) ∷ answers_move n.id Outcome.Stayed)
stays_asked pt t p n k late back u noted h =
    let v = pt.view in
    let had = source_had pt p k late back u in
    λ sane on. (record { k = k; s = u.s; d = u.d; o = u.o; phase = u.phase; off = late }, λ next s. answers_at pt t p (Line.Stays p) n Outcome.Stayed refl refl refl noted sane (places_held v (view_after v (Line.Stays p)) t p Here refl refl refl had h) next (said_by pt next (Line.Stays p) s))

restarts_asked : (pt : Point) (t : Trails) (p : Pid) (n : MoveNote) → Heard pt p MessageKind.Restart → pt.kernel.notes p ≡ Some n → Places pt.view t → Walks pt t (Says (Line.Migration Stage.Restarted p) ∷ answers_move n.id Outcome.Done)
restarts_asked pt t p n u noted h =
    λ sane on. (record { k = MessageKind.Restart; s = u.s; d = u.d; o = u.o; phase = u.phase; off = refl }, λ next s. answers_at pt t p (Line.Migration Stage.Restarted p) n Outcome.Done refl refl refl noted sane (restarted_places pt t p u h) next (said_by pt next (Line.Migration Stage.Restarted p) s))

-- a machine forgets a process that has ended
buried_places : (v : View) (t : Trails) (id : MsgId) (o : Option Told) (u : Told) (p : Pid) → o ≡ Some u → u.about ≡ Of p → ((n : ℕ) → is_away (v.known n p) ≡ true) → Places v t → Places (view.buried_for (handled v id) o) t
buried_places v t id o u p told about away h =
    subst (λ (x : Option Told). Places (view.buried_for (handled v id) x) t) (sym told)
    (subst (λ (a : About). Places (view.forgotten (handled v id) a) t) (sym about) (places_forgets v (view.forgotten (handled v id) (Of p)) t p refl refl (λ n off. away n) ((h p).gone away) h))

buried_walks : (pt : Point) (t : Trails) (id : MsgId) (u : Told) (p : Pid) (n : ℕ) (ms : List ℕ) → pt.view.told id ≡ Some u → u.about ≡ Of p → is_alive pt.kernel p ≡ false → ((k : ℕ) → is_away (pt.view.known k p) ≡ true) → Places pt.view t
    → Walks pt t (Says (Line.Buried id n) ∷ map (to_kernel MessageKind.Bury) ms)
buried_walks pt t id u p n ms told about dead away h =
    let one : (y : Told) (q : Pid) → pt.view.told id ≡ Some y → y.about ≡ Of q → is_alive pt.kernel q ≡ false = λ y q is of.
    (let f : Some u ≡ Some y = sym told ∙ is in let g : u ≡ y = cc in let e : Of p ≡ Of q = sym about ∙ ap (λ (x : Told). x.about) g ∙ of in ap (is_alive pt.kernel) (let k : q ≡ p = cc in k) ∙ dead) in
    first_walks (Line.Buried id n) (map (to_kernel MessageKind.Bury) ms) pt t
    (λ sane on. (one, λ next s. subst (λ (z : Point). Places z.view t) s.is (buried_places pt.view t id (pt.view.told id) u p told about away h))) (buries_loose ms)

abbrev AnotherHeard : Point → Point → Trails → ℕ → MsgId → Told → Type 0
AnotherHeard pt o t m id v = hearing.Heard (Walks pt t) o m id v

pub hears_walks : (pt : Point) (b : Boot) (o : Point) (t : Trails) (m : ℕ) (id : MsgId) (u : Told) (ps : List Part) → ((p : Pid) → both_lists pt.view p ≡ o.view.queue m p ++ o.view.held m p)
    → ((p : Pid) (n : MoveNote) → o.kernel.notes p ≡ Some n → pt.kernel.notes p ≡ Some n) → pt.view.known pt.view.acting u.receiver ≡ o.view.known m u.receiver
    → ((p : Pid) → u.about ≡ Of p → is_between u.kind ≡ true → is_piece u.kind ≡ false → Heard pt p u.kind) → ((to c : ℕ) → o.view.known m u.receiver ≡ Forward to c → Walks pt t (forwards_on o.addresses id u.kind manager to)) → pt.view.told id ≡ Some u
    → ((p : Pid) → u.about ≡ Of p → u.kind ≡ MessageKind.Bury → (is_alive pt.kernel p ≡ false) × ((n : ℕ) → is_away (pt.view.known n p) ≡ true)) → Places pt.view t → rule.hears b o m id (Some u) ≡ Some ps → Walks pt t ps
hears_walks pt b o t m id u ps same notes known kernels forwards was over h =
    let proto_loose : (i : MsgId) → Loose (Says (Line.Proto i)) =
    λ i. quiet (Line.Proto i) (λ pt t. tt) (λ v t. refl) (λ v n q. proto_known (handled v i) (v.told i) n q) (λ v q. at_pid (view_after v (Line.Proto i)).moves v.moves q (grind (arith, nat_tests))) in
    let home = id.from.home in
    let proto : (k : MessageKind) → AllLoose (to_kernel k home ∷ []) → Walks pt t (Says (Line.Proto id) ∷ to_kernel k home ∷ []) = λ k loose. loose_walks (Says (Line.Proto id) ∷ to_kernel k home ∷ []) pt t (proto_loose id, loose) h in
    let one : (l : Line) → Loose (Says l) → Walks pt t (Says l ∷ []) = λ l loose. loose_walks (Says l ∷ []) pt t (loose, tt) h in
    by_hears (Walks pt t) b o m id (Some u) ps (λ v is. (
    let e : u ≡ v = cc in
    let updated_loose : (i : MsgId) (k : ℕ) → Loose (Says (Line.Updated i k)) = λ i k. quiet (Line.Updated i k) (λ pt t. tt) (λ v t. refl) (λ v n q. refl) (λ v q. refl) in
    subst (AnotherHeard pt o t m id) e (record {
      stale = λ p about late. one (Line.Stale id) (quiet (Line.Stale id) (λ pt t. tt) (λ v t. refl) (λ v n q. refl) (λ v q. refl));
      buried = λ p about kind. buried_walks pt t id u p (length (bury.preds_of o m p)) (bury.preds_of o m p) was about (over p about kind).0 (over p about kind).1 h;
      told = λ p x about alive due. (
          let at : (k : MessageKind) → u.kind ≡ k → is_between k ≡ true → is_piece k ≡ false → Heard pt p k = λ k kind between whole. subst (Heard pt p) kind (kernels p about (ap is_between kind ∙ between) (ap is_piece kind ∙ whole)) in
          let lacks_loose : (p : Pid) (a b : ℕ) → Loose (Says (Line.Lacks p a b)) = λ p a b. quiet (Line.Lacks p a b) (λ pt t. tt) (λ v t. refl) (λ v n q. refl) (λ v q. refl) in
          let memory_loose : Loose (Says (Line.Migration Stage.MemoryTaken p)) = quiet (Line.Migration Stage.MemoryTaken p) (λ pt t. tt) (λ v t. refl) (λ v n q. refl) (λ v q. refl) in
          let state_loose : Loose (Says (Line.Migration Stage.StateTaken p)) = quiet (Line.Migration Stage.StateTaken p) (λ pt t. tt) (λ v t. refl) (λ v n q. refl) (λ v q. refl) in
          record {
            accepted = λ ask. accepts_walks pt t home p (at MessageKind.Ask ask refl refl) h;
            lacks = λ slots blocks. loose_walks (Says (Line.Lacks p slots blocks) ∷ to_kernel MessageKind.Refuse home ∷ []) pt t (lacks_loose p slots blocks, to_between MessageKind.Refuse home refl) h;
            stays = λ kind free. elim kind [
              | inl refused ↦ stays_walks pt t p MessageKind.Refuse refl refl (at MessageKind.Refuse refused refl refl) h
              | inr called ↦ stays_walks pt t p MessageKind.CallOff refl refl (at MessageKind.CallOff called refl refl) h
            ];
            stays_asked = λ kind n noted. elim kind [
              | inl refused ↦ stays_asked pt t p n MessageKind.Refuse refl refl (at MessageKind.Refuse refused refl refl) (notes p n noted) h
              | inr called ↦ stays_asked pt t p n MessageKind.CallOff refl refl (at MessageKind.CallOff called refl refl) (notes p n noted) h
            ];
            restarted_asked = λ kind n noted. restarts_asked pt t p n (at MessageKind.Restart kind refl refl) (notes p n noted) h;
            state = proto MessageKind.State (to_between MessageKind.State home refl);
            next_chunk = proto MessageKind.PullState (to_between MessageKind.PullState home refl);
            last_chunk = loose_walks (Says (Line.Migration Stage.StateTaken p) ∷ to_kernel MessageKind.PullBlock home ∷ []) pt t (state_loose, to_between MessageKind.PullBlock home refl) h;
            server_chunk = λ server. loose_walks (last_chunk p home) pt t (state_loose, (memory_loose, to_between MessageKind.AllTaken home refl)) h;
            memory = proto MessageKind.Memory (to_between MessageKind.Memory home refl);
            next_block = proto MessageKind.PullBlock (to_between MessageKind.PullBlock home refl);
            last_block = loose_walks (Says (Line.Migration Stage.MemoryTaken p) ∷ to_kernel MessageKind.AllTaken home ∷ []) pt t (memory_loose, to_between MessageKind.AllTaken home refl) h;
            left = λ ids to leaves.
                (let k = at MessageKind.AllTaken leaves.kind refl refl in
                subst (λ (js : List MsgId). Walks pt t (left_parts id p js to)) (same p ∙ sym leaves.lists) (leaves_walks pt t id p (Frozen to) k.s k.d k.o k.phase k.acts h k.for_it));
            restarted = λ kind free.
                (let k = at MessageKind.Restart kind refl refl in
                first_walks (Line.Migration Stage.Restarted p) [] pt t
                (λ sane on. (record { k = MessageKind.Restart; s = k.s; d = k.d; o = k.o; phase = k.phase; off = refl }, λ next s. subst (λ (z : Point). Places z.view t) s.is (restarted_places pt t p k h))) tt);
          }
          );
      updated = λ kind. one (Line.Updated id (behind_count o.kernel o.addresses u.receiver (place_told u.about))) (updated_loose id (behind_count o.kernel o.addresses u.receiver (place_told u.about)));
      updated_none = λ kind at_. one (Line.Updated id 0) (updated_loose id 0);
      no_move = λ at_. one (Line.NoMove id) (quiet (Line.NoMove id) (λ pt t. tt) (λ v t. refl) (λ v n q. refl) (λ v q. refl));
      leaving = λ to at_. one (Line.Held id) (held_loose id);
      coming = λ from at_. one (Line.Held id) (held_loose id);
      forwarded = λ to moves at_. forwards to moves at_.known;
      stays_here = λ at_. one (Line.Here id) (quiet (Line.Here id) (λ pt t. tt) (λ v t. refl) (λ v n q. refl) (λ v q. refl));
      frozen = λ to at_. freezes_walks pt t u.receiver to (known ∙ at_.known) h;
    })
    ))

-- What each row of a turn says fits the trails: processes that run, and messages of the bag.

-- a process that runs
runs_stops : (pt : Point) (t : Trails) (p : Pid) (o : Point) (m : ℕ) → is_server p ≡ false → Resting pt.view p → Places pt.view t → Stops (Walks pt t) p (bury.ends_with o m p)
runs_stops pt t p o m server rests h = let here = rests.here in record {
  over = h;
  replies = λ n r. label_walks pt t (Label.Call p n r) [] (λ on. (at_end pt t p here h, tt, places_same pt.view (view_after pt.view (Line.Label (Label.Call p n r))) t (λ m q. refl) (λ q. refl) h)) tt;
  sends = λ id. label_walks pt t (Label.Send p id) (Routes id ∷ []) (λ on. (at_end pt t p here h, tt, places_same pt.view (view_after pt.view (Line.Label (Label.Send p id))) t (λ n q. refl) (λ q. refl) h)) (routes_loose id, tt);
  waits = label_walks pt t (Label.Wait p) [] (λ on. (at_end pt t p here h, tt, places_same pt.view (view_after pt.view (Line.Label (Label.Wait p))) t (λ m q. refl) (λ q. refl) h)) tt;
  outputs = λ word. label_walks pt t (Label.Out p word) [] (λ on. (at_end pt t p here h, tt, places_same pt.view (view_after pt.view (Line.Label (Label.Out p word))) t (λ m q. refl) (λ q. refl) h)) tt;
  ends = λ y. label_walks pt t (Label.End p y) (bury.ends_with o m p)
      (λ on. (tt, server, places_forgets pt.view (view_after pt.view (Line.Label (Label.End p y))) t p refl refl rests.away ((h p).long pt.view.acting (ap is_held here)) h)) (ends_loose o m p);
}

pub round_walks : (pt : Point) (t : Trails) (b : Boot) (o : Point) (m : ℕ) (q : Option Pid) (ps : List Part) → ((p : Pid) → q ≡ Some p → Resting pt.view p) → o.kernel ≡ pt.kernel → Places pt.view t → rule.goes_round b o m q ≡ Some ps → Walks pt t ps
round_walks pt t b o m q ps rests same h = by_round (Walks pt t) b o m q ps (loose_walks (Says (Line.Idle m) ∷ []) pt t (quiet (Line.Idle m) (λ pt t. tt) (λ v t. refl) (λ v n q. refl) (λ v q. refl), tt) h) (λ p x is alive. record {
  runs = λ k rest stops sane on. (
    label_fits pt t (Label.Ran p k) sane tt tt,
    (λ next s.
        let g = said_by pt next (Line.Label (Label.Ran p k)) s in
        let mid = moved pt (Line.Label (Label.Ran p k)) g.kernel in
        subst (λ (z : Point). Walks z t rest) g.is (stops (Walks mid t) (runs_stops mid t p o m (living pt p x sane (ap (λ (s : OneKernel). kernel.alive (s.processes p)) (sym same) ∙ alive)).server (record { here = (rests p is).here; away = (rests p is).away }) (places_same pt.view mid.view t (λ n r. refl) (λ r. refl) h)))),
  );
  takes = λ mask id first. label_walks pt t (Label.Receive p id) [] (λ on. (tt, tt, places_same pt.view (view_after pt.view (Line.Label (Label.Receive p id))) t (λ n r. refl) (λ r. refl) h)) tt;
  refuses = λ id r. label_walks pt t (Label.Refuse p id r) [] (λ on. (tt, tt, places_same pt.view (view_after pt.view (Line.Label (Label.Refuse p id r))) t (λ n s. refl) (λ s. refl) h)) tt;
})

-- the message at the front is in the bag, and its address names this machine
pub record Front (pt : Point) (t : Trails) (id : MsgId) (k : PlainMessage) : Type 0 where
  pub there : pt.kernel.bag id ≡ Some k
  pub at : (pt.addresses (Receiver id)).at ≡ pt.view.acting
  pub receiver : (u : Told) → pt.view.told id ≡ Some u → u.receiver ≡ k.to
  pub kind : (u : Told) → pt.view.told id ≡ Some u → u.kind ≡ plain_kind k.what
  pub fixed : is_fixed k.to ≡ true → k.to.home ≡ pt.view.acting
  pub rests : pt.view.known pt.view.acting k.to ≡ Here → Resting pt.view k.to
  pub places : Places pt.view t

received : (pt : Point) (t : Trails) (id : MsgId) (k : PlainMessage) → Front pt t id k → is_fixed k.to ≡ true → ReceivedAt pt.kernel pt.view.acting id
received pt t id k f fixed m there = let g : Some k ≡ Some m = sym f.there ∙ there in let e : k ≡ m = cc in ap (λ (x : PlainMessage). x.to.home) (sym e) ∙ f.fixed fixed

-- whoever the message is for is on its trail, where it is here
served_at : (pt : Point) (t : Trails) (id : MsgId) (k : PlainMessage) → Front pt t id k → pt.view.known pt.view.acting k.to ≡ Here → ServedAt (IsOn t) pt.kernel pt.view id
served_at pt t id k f here m there =
    let g : Some k ≡ Some m = sym f.there ∙ there in
    let e : k ≡ m = cc in
    subst (λ (x : PlainMessage). slice_get (t x.to) (pt.view.moves x.to) ≡ Some pt.view.acting) e (at_end pt t k.to here f.places)

gone_walks : (pt : Point) (t : Trails) (id : MsgId) (k : PlainMessage) → Front pt t id k → Walks pt t (rule.says (Label.Gone id) ∷ Routes (pieces.answer_id id) ∷ [])
gone_walks pt t id k f =
    label_walks pt t (Label.Gone id) (Routes (pieces.answer_id id) ∷ []) (λ on. (ended_on pt.kernel pt.view pt.addresses t id f.at on.links, tt, places_same pt.view (handled pt.view id) t (λ m q. refl) (λ q. refl) f.places)) (routes_loose (pieces.answer_id id), tt)

-- a message that is served may kill
kill_is : (w : PlainWhat) → plain_kind w ≡ MessageKind.Kill → w ≡ PlainWhat.Kill
kill_is PlainWhat.Kill e = refl
kill_is _ e = cc

kills_places : (v : View) (t : Trails) (k : MessageKind) (p : Pid) → (k ≡ MessageKind.Kill → Resting v p) → Places v t → Places (ends_by (sort_of k) v (Some p)) t
kills_places v t MessageKind.Kill p rests h =
    let r = rests refl in
    places_forgets v (ends_by (sort_of MessageKind.Kill) v (Some p)) t p refl refl r.away ((h p).long v.acting (ap is_held r.here)) h
kills_places v t _ p rests h = h

served_walks : (pt : Point) (t : Trails) (id : MsgId) (k : PlainMessage) (ps : List Part) → Front pt t id k → pt.view.known pt.view.acting k.to ≡ Here → is_server k.to ≡ false → AllLoose ps → Walks pt t (rule.says (Label.Served id) ∷ ps)
served_walks pt t id k ps f here server loose =
    let served_places : (v : View) (t : Trails) (o : Option Told) → ((u : Told) → o ≡ Some u → u.kind ≡ MessageKind.Kill → Resting v u.receiver) → Places v t → Places (served_told v o) t =
    λ v t o rests h. (elim o as (λ x. ((u : Told) → x ≡ Some u → u.kind ≡ MessageKind.Kill → Resting v u.receiver) → Places (served_told v x) t) [ None ↦ λ r. h | Some u ↦ λ r. kills_places v t u.kind u.receiver (λ e. r u refl e) h ]) rests in
    let known : (u : Told) → pt.view.told id ≡ Some u → u.kind ≡ MessageKind.Kill → (is_server u.receiver ≡ false) × ((m : PlainMessage) → pt.kernel.bag id ≡ Some m → (m.to ≡ u.receiver) × (m.what ≡ PlainWhat.Kill)) = λ u told kill. (
      ap is_server (f.receiver u told) ∙ server,
      (λ m there. let g : Some k ≡ Some m = sym f.there ∙ there in let e : k ≡ m = cc in (ap (λ (x : PlainMessage). x.to) (sym e) ∙ sym (f.receiver u told), ap (λ (x : PlainMessage). x.what) (sym e) ∙ kill_is k.what (sym (f.kind u told) ∙ kill))),
    ) in
    label_walks pt t (Label.Served id) ps (λ on. (
      served_at pt t id k f here,
      known,
      served_places (handled pt.view id) t (pt.view.told id) (λ u told kill. let r = subst (Resting pt.view) (sym (f.receiver u told)) (f.rests here) in record { here = r.here; away = r.away }) (places_same pt.view (handled pt.view id) t (λ m q. refl) (λ q. refl) f.places),
    )) loose

creates_walks : (pt o : Point) (t : Trails) (m : ℕ) (id : MsgId) (k : PlainMessage) (r : rule.Room) (c : Bool) → Front pt t id k → is_fixed k.to ≡ true → Unborn pt.view (pid_of m (first_number + o.kernel.made m)) → pt.view.moves (pid_of m (first_number + o.kernel.made m)) ≡ 0
    → Walks pt t ((if c then rule.says (Label.Created id (pid_of m (first_number + o.kernel.made m))) else rule.says (Label.NoSpace id r.slots r.blocks)) ∷ Routes (pieces.answer_id id) ∷ [])
creates_walks pt o t m id k r true f fixed born new =
    -- a process is made at home
    let child = pid_of m (first_number + o.kernel.made m) in
    let away : (n : ℕ) → is_away (pt.view.known n child) ≡ true = λ n. ap is_away (born.unknown n) in
    let long : length (t child) ≡ pt.view.moves child + 1 = (f.places child).gone away in
    let first : Treads pt t → slice_get (t child) (pt.view.moves child) ≡ Some child.home = λ on. ap (slice_get (t child)) new ∙ (on.trail child).begins in
    let born_stood : Treads pt t → StoodOnTrail pt.view t child Nowhere = λ on. record { now = first on; next = λ d e. absurd (let g : None ≡ Some d = e in cc); long = long ∙ (let e_ : pt.view.moves child + 1 ≡ pt.view.moves child + 1 + 0 = omega arith in e_); unmade = λ e. new } in
    let w = view_after pt.view (Line.Label (Label.Created id child)) in
    label_walks pt t (Label.Created id child) (Routes (pieces.answer_id id) ∷ []) (λ on. (
      received pt t id k f fixed,
      (born.unknown, born.home, born_stood on),
      places_set pt.view w t t child Here refl (λ q apart. refl) (λ q apart. refl) (λ q apart. f.places q) (λ learnt. placed_held pt.view w t child Here learnt refl refl (first on ∙ ap Some born.home) long (f.places child)),
    )) (routes_loose (pieces.answer_id id), tt)
creates_walks pt o t m id k r false f fixed born new = search (label_walks, received, places_same, routes_loose)

pub or_first : (a b : Bool) → a ≡ true → (a || b) ≡ true
or_first a b e = grind (arith, nat_tests)

-- a process is asked to move
asks_walks : (pt : Point) (t : Trails) (id : MsgId) (k : PlainMessage) (ps : List Part) → Front pt t id k → pt.view.known pt.view.acting k.to ≡ Here
    → ((q : Point) → ((p : Pid) → q.kernel.noted id ≡ Some p → q.view.known q.view.acting p ≡ Here) → q.view.known q.view.acting k.to ≡ Here → Places q.view t → Walks q t ps) → Walks pt t (rule.says (Label.Asked id) ∷ ps)
asks_walks pt t id k ps f here rest = λ sane on. (
  label_fits pt t (Label.Asked id) sane tt tt,
  (λ next s.
      let l = Line.Label (Label.Asked id) in
      let g = said_by pt next l s in
      let mid = moved pt l g.kernel in
      subst (λ (z : Point). Walks z t ps) g.is (rest mid (λ p noted. (let e : k.to ≡ p = (let f_ : Some k.to ≡ Some p = sym (asked_noted pt.kernel g.kernel id k g.step f.there) ∙ noted in cc) in subst (λ (x : Pid). pt.view.known pt.view.acting x ≡ Here) e here)) here
      (places_same pt.view mid.view t (λ m q. refl) (λ q. refl) f.places))),
)

pub handles_walks : (pt : Point) (b : Boot) (o : Point) (t : Trails) (m : ℕ) (id : MsgId) (k : PlainMessage) (ps : List Part) → Front pt t id k → Unborn pt.view (pid_of m (first_number + o.kernel.made m)) → pt.view.moves (pid_of m (first_number + o.kernel.made m)) ≡ 0 → pt.view.known pt.view.acting k.to ≡ o.view.known m k.to
    → ((to c : ℕ) → o.view.known m k.to ≡ Forward to c → Walks pt t (forwards_on o.addresses id (plain_kind k.what) k.sender to)) → rule.handles b o m id k ≡ Some ps → Walks pt t ps
handles_walks pt b o t m id k ps f born new known forwards = by_handles (Walks pt t) b o m id k ps (record {
  created = λ kernel_. creates_walks pt o t m id k (record { slots = 0; blocks = 0 }) true f kernel_ born new;
  no_space = λ kernel_ slots blocks. creates_walks pt o t m id k (record { slots = slots; blocks = blocks }) false f kernel_ born new;
  took = λ to sent. label_walks pt t (Label.Took id) (rule.routes sent) (λ on. (served_at pt t id k f (known ∙ to.known), tt, places_same pt.view (handled pt.view id) t (λ m q. refl) (λ q. refl) f.places)) (grind (arith, nat_tests, routes_loose));
  queued = λ to user. loose_walks (Says (Line.Queued id) ∷ []) pt t (queued_loose id, tt) f.places;
  served = λ to mild. served_walks pt t id k [] f (known ∙ to.known) to.process tt;
  answers = λ to mild i. served_walks pt t id k (Routes i ∷ []) f (known ∙ to.known) to.process (routes_loose i, tt);
  kills = λ to kills. served_walks pt t id k (bury.ends_with o m k.to) f (known ∙ to.known) to.process (ends_loose o m k.to);
  moved = λ to what. asks_walks pt t id k (answers_move id Outcome.Done) f (known ∙ to.known) (λ q noted here h. answers_walks q t id Outcome.Done noted h);
  sets_off = λ x to what apart. asks_walks pt t id k (leaves_for k.to x) f (known ∙ to.known) (λ q noted here h. freezes_walks q t k.to x here h);
  gone = λ to. gone_walks pt t id k f;
  dropped = λ to. loose_walks (rule.says (Label.Dropped id) ∷ []) pt t (dropped_loose id, tt) f.places;
  leaving = λ n to. loose_walks (Says (Line.Held id) ∷ []) pt t (held_loose id, tt) f.places;
  coming = λ n to. loose_walks (Says (Line.Held id) ∷ []) pt t (held_loose id, tt) f.places;
  forwarded = λ at_ moves to. forwards at_ moves to.known;
})

waits_for : (o : Point) (m : ℕ) (p : Pid) (i : MsgId) (q : Pid) → Begins o m → FoundBy o → 1 ≤ times i (both_lists (turned o m).view p) → Named (turned o m).kernel (turned o m).view (Receiver i) q → q ≡ p
waits_for o m p i q start h least named =
    let pt = turned o m in
    elim (either (standing pt.view i (Queue m p)) (standing pt.view i (Held m p)) (let f = both_times pt.view p i in omega (arith, least, f))) [
      | inl queue ↦ told_for pt (pt.view.told i) i p q start.sane refl (queued_for pt p i start.state queue) named
      | inr hold ↦ told_for pt (pt.view.told i) i p q start.sane refl (h.held m p i hold) named
    ]

heard : (o : Point) (m : ℕ) (i : MsgId) (is : List MsgId) (u : Told) (p : Pid) → Begins o m → FoundBy o → o.view.inbox m ≡ i ∷ is → o.view.told i ≡ Some u → u.about ≡ Of p → is_between u.kind ≡ true → is_piece u.kind ≡ false → Heard (turned o m) p u.kind
heard o m i is u p start h front told about between whole =
    let pt = turned o m in
    let w = whole_due pt i is u start.phases p front told between about whole in
    let pq : w.p ≡ p = about_same w.p p (sym (ap (λ (x : Told). x.about) w.told) ∙ about) in
    let kk : w.k ≡ u.kind = sym (ap (λ (x : Told). x.kind) w.told) in
    let first : Heard pt w.p w.k = record {
      s = w.s;
      d = w.d;
      o = Some i;
      phase = subst (IsIn pt.view w.p) w.phase (start.phases.each w.p);
      acts = w.acting;
      from = ap front_of front ∙ ap (λ (x : Pid). x.home) w.from;
      for_it = λ sane j q least named. waits_for o m w.p j q start h least named;
    } in
    subst (λ (q : Pid). Heard pt q u.kind) pq (subst (λ (k : MessageKind). Heard pt w.p k) kk first)

-- what was never made, and is no server, has never moved
abbrev Unmoved : Point → Type 0
Unmoved pt = (p : Pid) → is_server p ≡ false → pt.kernel.processes p ≡ None → pt.view.moves p ≡ 0

-- a message of the bag at the front of the inbox
front_walks : (b : Boot) (o : Point) (t : Trails) (m : ℕ) (i : MsgId) (is : List MsgId) (k : PlainMessage) (ps : List Part) → Begins o m → FoundBy o → Unmoved o → Places o.view t → o.view.inbox m ≡ i ∷ is → o.kernel.bag i ≡ Some k → rule.handles b o m i k ≡ Some ps → Walks (turned o m) t ps
front_walks b o t m i is k ps start h unmoved at front there =
    let pt = turned o m in
    let stands = h.places i (Inbox m) (stands_first o.view m i is front) in
    let (u, told) = told_there (o.view.told i) stands.1 in
    let to_same : u.receiver ≡ k.to = start.sane.tells.receiver i k u there told in
    let kind_same : u.kind ≡ plain_kind k.what = start.sane.tells.kind i k u there told in
    let placed : Places pt.view t = places_same o.view pt.view t (λ n q. refl) (λ q. refl) at in
    let f : Front pt t i k = record {
      there = there;
      at = stands.0;
      receiver = λ y e. start.sane.tells.receiver i k y there e;
      kind = λ y e. start.sane.tells.kind i k y there e;
      fixed = λ e. fixed_home o.kernel.machines o.kernel.processes o.view k.to m e (subst (KnowsAt o.kernel.machines o.kernel.processes o.view k.to) stands.0 (h.all (Receiver i) k.to (Links (ap to_of there))));
      rests = λ here. resting pt.view k.to start.phases here;
      places = placed;
    } in
    handles_walks pt b o t m i k ps f (unborn o m start.rooted) (unmoved (pid_of m (first_number + o.kernel.made m)) (unborn o m start.rooted).server (next_is_new o.kernel m start.sane.sound.made)) refl
    (λ to c e. subst (λ (y : MessageKind). Walks pt t (forwards_on o.addresses i y k.sender to)) kind_same
    (forwards_walks pt t i u k.sender to c told (ap (o.view.known m) to_same ∙ e) placed (λ yes_ on. on.links (Sender i) k.sender (ap sender_of there))))

-- one that kernels sent
own_walks : (b : Boot) (o : Point) (t : Trails) (m : ℕ) (i : MsgId) (is : List MsgId) (ps : List Part) → Phased o → Begins o m → FoundBy o → Places o.view t → o.view.inbox m ≡ i ∷ is → o.kernel.bag i ≡ None → rule.hears b o m i (o.view.told i) ≡ Some ps → Walks (turned o m) t ps
own_walks b o t m i is ps base start h at front there e =
    let pt = turned o m in
    let stands = h.places i (Inbox m) (stands_first o.view m i is front) in
    let (u, told) = told_there (o.view.told i) stands.1 in
    let own : is_kernels i ≡ true = front_kernels pt i is start.state front there in
    let placed : Places pt.view t = places_same o.view pt.view t (λ n q. refl) (λ q. refl) at in
    hears_walks pt b o t m i u ps (λ p. refl) (λ p n e. e) refl (λ p about between whole. heard o m i is u p start h front told about between whole)
    (λ to c e. forwards_walks pt t i u manager to c told e placed (λ yes_ on. on.own.sender i u own told (moves_back u.kind (h.real i u told own).1 yes_))) told
    (λ p about kind. (ended_alive o p base (bury_over o i u p base told kind about), λ n. ended_away o p base (bury_over o i u p base told kind about) n)) placed (ap (rule.hears b o m i) (sym told) ∙ e)

-- the place that the manager knows is on the trail
known_on : (pt : Point) (t : Trails) (p : Pid) (a : Place) → pt.view.known pt.view.acting manager ≡ Here → Places pt.view t → AddressesOn pt.kernel pt.addresses t
    → known_place pt.kernel pt.view pt.view.acting pt.addresses p ≡ Some a → IsOn t p a
known_on pt t p a here h on place_known = elim (known_by pt.kernel pt.view pt.view.acting pt.addresses p a place_known) [
  | inl (is, own) ↦ subst (IsOn t p) (sym own) (subst (λ (q : Pid). IsOn t q (record { at = pt.view.acting; moves = pt.view.moves q })) (sym is) (at_end pt t manager here h))
  | inr (holder, place) ↦ subst (IsOn t p) (sym place.1) (on holder p place.0)
]

-- a directive to move a process or a server
migrates_walks : (pt : Point) (t : Trails) (p : Pid) → (has_seat pt.view ≡ true → pt.view.seat ≡ pt.view.acting) → Places pt.view t → Walks pt t (migrates pt p)
migrates_walks pt t p acts h =
    let away_loose : Loose (Says Line.Away) = quiet Line.Away (λ pt t. tt) (λ v t. refl) (λ v n q. refl) (λ v q. refl) in
    let no_child_loose : Loose (Says (Line.NoChild p)) = quiet (Line.NoChild p) (λ pt t. tt) (λ v t. refl) (λ v n q. refl) (λ v q. refl) in
    by_migrates (Walks pt t) pt p (loose_walks (Says Line.Away ∷ []) pt t (away_loose, tt) h) (loose_walks (Says (Line.NoChild p) ∷ []) pt t (no_child_loose, tt) h) (λ a there knows sane on. (
      let seat : pt.view.seat ≡ pt.view.acting = acts there in
          let here : pt.view.known pt.view.acting manager ≡ Here = sym (ap (λ (m : ℕ). pt.view.known m manager) seat) ∙ is_here_is (pt.view.known pt.view.seat manager) there in
          let known : known_place pt.kernel pt.view pt.view.acting pt.addresses p ≡ Some a = sym (ap (λ (m : ℕ). known_place pt.kernel pt.view m pt.addresses p) seat) ∙ knows in
          PutFits.Own (own_outside pt sane) (own_fresh pt sane) (migrate_to pt.kernel pt.view pt.addresses t (own_id pt.view) p a known (known_on pt t p a here h on.links known))
          (λ k. migrate_from pt.kernel pt.view pt.addresses t (own_id pt.view) p (at_end pt t manager here h)),
      (λ next s. owns_leave MessageKind.Migrate p a.at pt next t s h),
    ))

-- a migration is called off: what was held goes back to the source, which holds the process
called_places : (v : View) (t : Trails) (p : Pid) (n from : ℕ) (o : Option MsgId) (c : MessageKind) → IsIn v p (Moves c from v.acting o) → v.known v.acting p ≡ Incoming from → Elsewhere v p → Places v t → Places (view_after v (Line.Called p n)) t
called_places v t p n from o c phase comes other h =
    let w = view_after v (Line.Called p n) in
    places_set v w t t p (view.goes_back (v.known v.acting p) (v.moves p)) refl (λ r apart. refl) (λ r apart. refl) (λ r apart. h r)
    (λ learnt. placed_back v w t p from (v.moves p) (λ m. learnt m ∙ ap (λ (x : Known). if v.acting == m then view.goes_back x (v.moves p) else v.known m p) comes) refl (λ m s at. moves_comes v p c from v.acting m s o phase at) other (h p))

back_walks : (t : Trails) (from to : ℕ) (ids : List MsgId) (q : Point) → Places q.view t → Walks q t (sends_on to ids ++ to_kernel MessageKind.CallOff from ∷ [])
back_walks t from to [] q h = loose_walks (to_kernel MessageKind.CallOff from ∷ []) q t (to_between MessageKind.CallOff from refl) h
back_walks t from to (i ∷ is) q h = λ sane on. (tt, λ next s. back_walks t from to is next (again_rides (λ (z : Point). Places z.view t) (places_ride t) q next i to s h))

called_walks : (pt : Point) (t : Trails) (p : Pid) (from : ℕ) → InPhases pt.view → pt.view.known pt.view.acting p ≡ Incoming from → pt.view.come p ≡ false
    → (Sane pt → (i : MsgId) (q : Pid) → 1 ≤ times i (pt.view.held pt.view.acting p) → Named pt.kernel pt.view (Receiver i) q → q ≡ p) → Places pt.view t → Walks pt t (called_parts p (pt.view.held pt.view.acting p) from)
called_walks pt t p from phases comes off for h = λ sane on.
    let v = pt.view in
    let ids = v.held v.acting p in
    let c = coming_is (phases.of p) v.acting from (sym (ap (knows (phases.of p) v.acting) comes) ∙ (phases.each p).known v.acting) in
    let in_ : IsIn v p (Moves c.kind from v.acting c.id) = subst (IsIn v p) c.is (phases.each p) in
    let holds : v.known from p ≡ Frozen v.acting = source_holds v p c.kind from v.acting c.id in_ (holds_on v p c.kind from v.acting c.id in_ off) in
    let other : Elsewhere v p = record { machine = from; off = apart_off v.acting from (λ e. two_apart v p c.kind from v.acting c.id in_ e); there = ap is_away holds } in (
      record { from = from; comes = comes; at = (h p).now from (ap is_held holds); long = (h p).long from (ap is_held holds); apart = λ e. two_apart v p c.kind from v.acting c.id in_ (sym e); for_it = for sane },
      (λ next r.
          let k = said_by pt next (Line.Called p (length ids)) r in
          back_walks t from from ids next (subst (λ (z : Point). Places z.view t) k.is (called_places v t p (length ids) from c.id c.kind in_ comes other h))),
    )

head_places : (v : View) (t : Trails) (d : Step) → Places v t → Places (after_head v d) t
head_places v t (Step.Turn m) h = places_same v (after_head v (Step.Turn m)) t (λ n q. refl) (λ q. refl) h
head_places v t any_ h = places_same v (after_head v any_) t (λ n q. refl) (λ q. refl) h

outcome_walks : (b : Boot) (pt : Point) (t : Trails) (d : Step) (ps : List Part) → Phased pt → KnownStands pt.kernel pt.view → FoundBy pt → Unmoved pt → Places pt.view t → rule.outcome b pt d ≡ Some ps → Walks (begun pt d) t ps
outcome_walks b pt t d ps base known h unmoved at = by_outcome (λ x. Walks (begun pt x) t) b pt d ps (record {
  round = λ m xs box e. (
      let start = begins pt m base known in
      round_walks (turned pt m) t b pt m (rule.first_runnable pt.kernel (pt.view.queue m) (pt.view.ring m)) xs (λ p is. resting (turned pt m).view p start.phases (start.rooted.served m p is)) refl (head_places pt.view t (Step.Turn m) at) e
      );
  handles = λ m i is k xs box there e. front_walks b pt t m i is k xs (begins pt m base known) h unmoved at box there e;
  hears = λ m i is xs box none e. own_walks b pt t m i is xs base (begins pt m base known) h at box none e;
  ticks = λ m xs net. loose_walks xs (begun pt (Step.Tick m)) t (net_loose xs net) (head_places pt.view t (Step.Tick m) at);
  delivers = λ a c k xs net. loose_walks xs (begun pt (Step.Deliver a c k)) t (net_loose xs net) (head_places pt.view t (Step.Deliver a c k) at);
  asks = λ p m. migrates_walks (begun pt (Step.Migrate p m)) t p (λ there. sym (ap (λ (c : Bool). if c then pt.view.seat else 0) there)) (head_places pt.view t (Step.Migrate p m) at);
  calls = λ p m. (
      let start = begun pt (Step.CallOff p m) in
      let places = head_places pt.view t (Step.CallOff p m) at in
      let phases : InPhases start.view = calm_phases pt.view start.view (head_calm pt.view (Step.CallOff p m)) base.phases in
      let sound = begun_sane pt (Step.CallOff p m) base.sane in
      by_calls_off (Walks start t) pt m p (loose_walks (Says (Line.NoCall p) ∷ []) start t (quiet (Line.NoCall p) (λ pt t. tt) (λ v t. refl) (λ v n q. refl) (λ v q. refl), tt) places)
      (λ from is come. called_walks start t p from phases is come (λ sane i q least named. told_for start (start.view.told i) i p q sound refl (h.held m p i least) named) places)
      );
})

-- a group
pub group_good : (b : Boot) (pt : Point) (t : Trails) (d : Step) (w : Spelled) → group_of b pt d ≡ Some w → Phased pt → KnownStands pt.kernel pt.view → FoundBy pt → Unmoved pt → Places pt.view t → Treads pt t → AllGood pt t w.lines
group_good b pt t d w e base known h unmoved at on = by_group (λ v. AllGood pt t v.lines) b pt d w (λ ps rest is said. (
    let walks = outcome_walks b pt t d ps base known h unmoved at is in
    let good : AllGood (begun pt d) t rest.lines = parts_good ps (begun pt d) t rest (outcome_sayable b pt d ps is) walks (begun_sane pt d base.sane) (line_treads pt (begun pt d) t (Line.Head d) refl tt on) said in
    (tt, (λ next comes. let f : begun pt d ≡ next = cc in subst (λ (q : Point). AllGood q t rest.lines) f good))
    )) e
