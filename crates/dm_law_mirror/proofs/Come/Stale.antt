-- A piece comes that isn't awaited: a line says so, and nothing else changes.
use Rattle.dm_law_mirror.proofs.Names.{◌≡◌, ℕ, ◌+◌, ◌==◌, ◌&&◌, not, Bool, true, false, List, [], ◌∷◌, map, refl, ap, ◌∙◌, sym, arith, if◌then◌else◌, Option, Some, false≢true, Pid, Message, kind_of, Line, Boot, bind}
use Rattle.dm_law_mirror.proofs.Names.{Point, moved, incoming_of, kernel_handles, KernelState, Part, turned, told_step, fits, free_room, sort_of, kernel_hears, Of, about_of, told_of, Placed, AllRecords, at_machine, without_front}
use Rattle.dm_law_mirror.proofs.Names.{mirrors_view, hears_piece, is_expected, says_stale, takes_piece, is_stale, is_waited_from, brings_piece, false_from_ne_true, left_true, buried}
use Rattle.dm_law_rule.specs.Migrating.{Size, size_of}
use Rattle.dm_law_rule.specs.Parts as rule
use Rattle.dm_law_mirror.proofs.Turning.{NoneEnds, Nothing, TurnsAt, begun}
use Rattle.dm_law_mirror.proofs.LeftOver.{tokens_less}
use Rattle.dm_law_mirror.proofs.Recorded.{expected_waits}
use Rattle.dm_law_mirror.proofs.Rooms.{taken_same}
use Rattle.dm_law_mirror.proofs.Follow.Fronts.{front_gone}
use Rattle.dm_law_mirror.proofs.Handle.Taking.{machine_self, machine_off}
use Rattle.dm_law_mirror.proofs.Leave.Asks.{piece_goes_on, room_stays}
use Rattle.dm_law_mirror.proofs.Leave.Fronts.{FrontGone, Hearing, front_rest, outcome_hears, own_stays, records_as, stood, to_kernel, to_kernel_hears, turn_hears}

waits_not : (brings waits : Bool) → (brings && not waits) ≡ true → waits ≡ false
waits_not true true e = absurd (false≢true e)
waits_not true false e = refl
waits_not false waits e = absurd (false≢true e)

pub turns_stale : (b : Boot) (m : ℕ) (pt : Point) (l : Placed) (records : AllRecords) (k : KernelState) (y : Message) (p : Pid) → Hearing b m pt l records k y → about_of y.what ≡ Of p → (y.to.pid.num == 0) ≡ true
    → ((s : KernelState) → kernel_handles b s y y.what ≡ hears_piece s y p (incoming_of (s.records p))) → is_stale pt m y.id (kind_of y.what) p ≡ true → TurnsAt b m pt l records k
turns_stale b m pt l records k y p h about number handles stale =
    let v = pt.view in
    let s : KernelState = record k { inbox = h.rest } in
    let next : Point = moved (begun pt m) (Line.Stale y.id) pt.kernel in
    let box : next.view.inbox m ≡ h.ids = machine_self v.inbox m (without_front y.id (v.inbox m)) ∙ front_gone y.id h.ids (v.inbox m) h.box in
    let gone : FrontGone m h.ids v next.view = search (front_rest m h.ids v next.view box, machine_off) in
    let taken = taken_same pt next m refl (λ n. refl) (λ q. refl) in
    let off : is_waited_from y.id.from.home (v.known m p) ≡ false = waits_not (brings_piece (sort_of (kind_of y.what))) (is_waited_from y.id.from.home (v.known m p)) stale in
    let unexpected : is_expected (incoming_of (k.records p)) y.id.from.home ≡ false =
    false_from_ne_true (is_expected (incoming_of (k.records p)) y.id.from.home) (λ e. false≢true (sym off ∙ expected_waits b pt l m k p y.id.from.home h.stands e)) in
    let step : Size → Option (List rule.Part) = λ x. told_step pt m y.id p (fits (free_room b pt m) x.blocks) x (sort_of (kind_of y.what)) in
    record {
      state = s;
      says = Line.Stale y.id ∷ [];
      routes = [];
      late = Nothing;
      turn = turn_hears b m pt l records k y h (turned s (Part.Says (Line.Stale y.id) ∷ []))
          (to_kernel b s y number ∙ handles s ∙ ap (λ (d : Bool). if d then bind (incoming_of (k.records p)) (takes_piece s y p) else says_stale s y) unexpected);
      outcome = outcome_hears b m pt l records k y h (Some (rule.Says (Line.Stale y.id) ∷ []))
          (to_kernel_hears b pt m y.id (told_of y) number ∙ ap (kernel_hears b pt m y.id (kind_of y.what)) about
          ∙ ap (λ (d : Bool). if d then Some (buried pt m y.id p) else if is_stale pt m y.id (kind_of y.what) p then Some (rule.Says (Line.Stale y.id) ∷ []) else bind (size_of pt.kernel p) step)
          (piece_goes_on (kind_of y.what) (left_true (brings_piece (sort_of (kind_of y.what))) (not (is_waited_from y.id.from.home (v.known m p))) stale))
          ∙ ap (λ (d : Bool). if d then Some (rule.Says (Line.Stale y.id) ∷ []) else bind (size_of pt.kernel p) step) stale);
      next = next;
      after = refl;
      placed = l;
      mirrors = mirrors_view pt.kernel v next.view pt.addresses l refl h.mirrors;
      kernel = search (h.stands.known, ap (map l.bag) box ∙ h.others, room_stays k.room _ _ _ taken h.stands.room);
      sent = λ e. e ∙ (let f : (n : ℕ) → n ≡ n + 0 = λ n. omega arith in f (v.count m));
      elsewhere = search;
      may = tt;
      late_may = tt;
      over = NoneEnds refl (λ q. refl);
      topic = tt;
      own = own_stays v next.view l refl h.own;
      tokens = tokens_less v next.view l records (at_machine records m k.records) (λ i. refl) (λ q. refl) (λ n q. refl) (λ n q. records_as records m n k.records k.records q h.records_here refl)
          (λ i t spot told between least. let g = stood m y.id h.ids v next.view i spot h.box gone least in (g.spot, g.stands)) h.tokens;
    }
