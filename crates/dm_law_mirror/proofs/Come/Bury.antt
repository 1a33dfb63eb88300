-- A machine is told that a process has ended: it forgets it, and tells its predecessors.
use Rattle.dm_law_mirror.proofs.Names.{◌≡◌, ℕ, ◌+◌, ◌≤◌, ◌==◌, Bool, true, false, List, [], ◌∷◌, ◌++◌, length, map, refl, ap, ◌∙◌, sym, subst, inl, inr, arith, if◌then◌else◌, Option, None, Some, cases_Bool, eqb_tells, nat_tests, Pid, pid_eq}
use Rattle.dm_law_mirror.proofs.Names.{pid_eq-is, pid_eq-same, Message, MsgId, What, MessageKind, Line, Boot, IsValid, Point, at_machine, without_front, standing, Spot, View, Known, Unknown, Of, Told, told_of, is_away}
use Rattle.dm_law_mirror.proofs.Names.{is_waited_from, is_process, left_true, takes_room, handled, mirrors_view, KernelState, KnownStands, AllRecords, Part, Placed, turned, to_kernel, forgetting, bury_away}
use Rattle.dm_law_rule.specs.Parts as rule
use Rattle.dm_law_rule.specs.View as view
use Rattle.dm_kernel.specs.State as machine
use Rattle.dm_kernel.specs.Burying as machine_burying
use Rattle.dm_law_mirror.proofs.Turning.{NoneEnds, Nothing, Own, Route, TurnsAt, begun, is_moving, part_of, rule_part_of}
use Rattle.dm_law_mirror.proofs.Preds.{forgotten_stand}
use Rattle.dm_law_mirror.proofs.Residents.{same_system}
use Rattle.dm_law_mirror.proofs.Buries.{absent_from, bury_messages, buries_may, machine_buries, many_buries, preds_are, rule_buries, untold_from}
use Rattle.dm_law_mirror.proofs.Rooms.{taken_same}
use Rattle.dm_law_mirror.proofs.Follow.Fronts.{append_none, front_gone}
use Rattle.dm_law_mirror.proofs.Handle.Rows.{standing_begun}
use Rattle.dm_law_mirror.proofs.Handle.Taking.{machine_off, machine_self, record_off, record_others, record_self, stands_set}
use Rattle.dm_law_mirror.proofs.Leave.Asks.{room_stays, taken_at_record}
use Rattle.dm_law_mirror.proofs.Leave.Fronts.{Hearing, outcome_hears, own_stays, records_as, to_kernel_hears, turn_hears}
use Rattle.dm_law_mirror.proofs.Leave.Fronts as fronts
use Rattle.dm_law_mirror.proofs.Row.Lines.{AwaitsAs, Fewer, awaits_set, fewer_on, handled_fewer}
use Rattle.dm_law_mirror.proofs.Row.Tokens.{LeavesMoving, tells_owns, tells_parts, tells_rule_parts, tokens_keep}

-- the view behind it
abbrev buried_view : Point → ℕ → MsgId → Pid → View
buried_view pt m i p = view.about (forgetting (handled (begun pt m).view i) p) (Of p)

buried_fewer : (v : View) (p : Pid) → Fewer v (view.about (forgetting v p) (Of p))
buried_fewer v p j z = grind (arith, nat_tests)

-- a machine that is to forget it has it not
away_waits : (k : Known) (from : ℕ) → is_away k ≡ true → is_waited_from from k ≡ false
away_waits k from e = grind (arith, nat_tests)

away_moves : (k : Known) → is_away k ≡ true → is_moving k ≡ true → ⊥
away_moves k e f = grind (arith, nat_tests)

away_room : (k : Known) → is_away k ≡ true → takes_room Unknown ≡ takes_room k
away_room k e = grind (arith, nat_tests)

pub hears_bury : (b : Boot) (m : ℕ) (pt : Point) (l : Placed) (records : AllRecords) (k : KernelState) (y : Message) (p : Pid) → IsValid b → Hearing b m pt l records k (record y { what = What.Bury p }) → TurnsAt b m pt l records k
hears_bury b m pt l records k y p valid h =
    let z : Message = record y { what = What.Bury p } in
    let v = pt.view in
    let i = y.id in
    let s : KernelState = record k { inbox = h.rest } in
    let tos = machine_burying.preds_of s p in
    let state : KernelState = machine_burying.with_told (machine.forgets s p) tos in
    let tells = bury_messages s p tos in
    let routes : List Route = map Own tells in
    let line = Line.Buried i (length tos) in
    let next : Point = record { kernel = pt.kernel; view = buried_view pt m i p; addresses = pt.addresses } in
    let after_records : AllRecords = at_machine records m state.records in
    let to_preds = preds_are b pt l m k p valid h.run.based.machines h.stands in
    let away : (n : ℕ) → is_away (v.known n p) ≡ true = bury_away pt i (told_of z) p h.run.based.phased h.told refl refl in
    let num : (y.to.pid.num == 0) ≡ true = left_true (y.to.pid.num == 0) (is_process (Of p)) (h.sorts.own i (told_of z) h.told h.mine) in
    let box : next.view.inbox m ≡ h.ids = machine_self v.inbox m (without_front i (v.inbox m)) ∙ front_gone i h.ids (v.inbox m) h.box in
    let gone_record : state.records p ≡ None = ap (λ (c : Bool). if c then None else k.records p) (pid_eq-same p) in
    let gone_known : next.view.known m p ≡ Unknown = record_self v.known m p Unknown (pid_eq-same p) in
    let mine : KnownStands l p (next.view.queue m p) (next.view.held m p) (next.view.known m p) (state.records p) =
    subst (KnownStands l p (v.queue m p) (v.held m p) (next.view.known m p)) (sym gone_record) (subst (λ (n : Known). KnownStands l p (v.queue m p) (v.held m p) n None) (sym gone_known) tt) in
    let sets : (q : Pid) → pid_eq p q ≡ false → state.records q ≡ k.records q = λ q off. ap (λ (c : Bool). if c then None else k.records q) off in
    let taken = taken_same pt next m refl (λ n. refl) (λ q. taken_at_record pt next m p q Unknown refl refl (away_room (v.known m p) (away m))) in
    let turn_parts : machine_burying.buries s p tos ≡ map part_of routes ++ [] = machine_buries s p tos ∙ tells_parts tells ∙ sym (append_none (map part_of routes)) in
    let rule_parts : map (to_kernel MessageKind.Bury) tos ≡ map rule_part_of routes ++ [] = rule_buries s p tos ∙ tells_rule_parts tells ∙ sym (append_none (map rule_part_of routes)) in
    let awaits : AwaitsAs v next.view = awaits_set (begun pt m).view p Unknown (λ from. refl) (λ from. away_waits (v.known m p) from (away m)) in
    let stood : (j : MsgId) (spot : Spot) → 1 ≤ standing next.view j spot → 1 ≤ standing v j spot = λ j spot least. (
    let w = (begun pt m).view in
    let few = fewer_on w (handled w i) next.view (handled_fewer w i) (buried_fewer (handled w i) p) j spot in
    let same = standing_begun pt m j spot in
    omega (arith, few, same, least)) in
    let leaves : LeavesMoving pt l records next l after_records = record {
      resident = λ n q is. refl;
      notes = λ n q is. refl;
      records_ = λ n q is. elim (cases_Bool (pid_eq p q)) [
        | inr off ↦ sym (records_as records m n k.records state.records q h.records_here (sets q off))
        | inl same ↦ elim (eqb_tells n m) [
          | inl e ↦ absurd (away_moves (v.known m p) (away m) (sym (λ j. is_moving (v.known (e.1 j) (sym (pid_eq-is p q same) j))) ∙ is))
          | inr off ↦ sym (ap (λ (f : Pid → Option machine.KernelKnown). f q) (machine_off records m n state.records off.1))
        ]
      ];
      told = refl;
      lines = record { asked = refl; awaits = awaits; stood = λ j spot mine least. stood j spot least };
      own = λ j x none there. there;
    } in
    record {
      state = state;
      says = line ∷ [];
      routes = routes;
      late = Nothing;
      turn = turn_hears b m pt l records k z h (turned state (Part.Says line ∷ map part_of routes ++ []))
          (fronts.to_kernel b s z num ∙ ap (λ (ps : List Part). turned state (Part.Says line ∷ ps)) turn_parts);
      outcome = outcome_hears b m pt l records k z h (Some (rule.Says line ∷ map rule_part_of routes ++ []))
          (to_kernel_hears b pt m i (told_of z) num
          ∙ ap (λ (ns : List ℕ). Some (rule.Says (Line.Buried i (length ns)) ∷ map (to_kernel MessageKind.Bury) ns)) (sym to_preds)
          ∙ ap (λ (ps : List rule.Part). Some (rule.Says line ∷ ps)) rule_parts);
      next = next;
      after = ap (λ (o : Option Told). Some (record { kernel = pt.kernel; view = view.about (view.buried_for (handled (begun pt m).view i) o) (view.buried_for (handled (begun pt m).view i) o).topic; addresses = pt.addresses })) h.told;
      placed = l;
      mirrors = mirrors_view pt.kernel v next.view pt.addresses l refl h.mirrors;
      kernel = stands_set b pt next l l m k state p (search (sets, record_others, same_system l, mine)) h.stands h.stands.ring (ap (map l.bag) box ∙ h.others) h.stands.made
          (room_stays k.room _ _ _ taken h.stands.room) (forgotten_stand b v.preds k.preds m p h.stands.preds);
      sent = λ e. (let many = many_buries s p tos in let own = tells_owns tells in omega (arith, e, many, own));
      elsewhere = search (machine_off, record_off, same_system l);
      may = buries_may next l after_records m (v.count m) 0 p s tos
          (record {
            acting = refl;
            count = refl;
            topic = refl;
            untold = λ j le. untold_from b pt m j h.run le;
            absent = λ j le. absent_from b pt l m j h.run h.mirrors h.own le;
          }) h.stands.here (let same : v.count m ≡ v.count m + 0 = omega arith in h.sent ∙ same);
      late_may = tt;
      over = NoneEnds refl (λ q. refl);
      topic = tt;
      own = own_stays v next.view l refl h.own;
      tokens = tokens_keep pt l records next l after_records h.run.based.phased.phases h.run.based.phased.sane.tells.own leaves h.own h.tokens;
    }
