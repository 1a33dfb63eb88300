-- What a turn does with a user message for a process, or with an update, where no process moves.
use Rattle.dm_law_moves.proofs.Names.{◌≡◌, ℕ, ◌==◌, ◌||◌, Bool, true, false, not, List, [], ◌∷◌, refl, ap, ◌∙◌, sym, if◌then◌else◌, Option, None, Some, false≢true, Pid, pid_eq, MsgId, MessageKind, Label, Step, plain_kind}
use Rattle.dm_law_moves.proofs.Names.{PlainMessage, PlainWhat, Boot, manager, switchboard, PlainProcess, bind-is, Line, Sender, is_told_back, behind_count, told_ended, forwards_on, told_here, told_step, process_told, size_of}
use Rattle.dm_law_moves.proofs.Names.{place_told, Part, Says, Again, Owns, Point, comes_to, ended_handles, free_room, handles, hears, here_handles, kernel_hears, outcome, process_handles, turns, TellsRight, About, Known, Of, Told}
use Rattle.dm_law_always.proofs.Names.{fits}
use Rattle.dm_law_moves.proofs.Names.{View, handled, receiver_of, view_after, touches, is_server, is_fixed, is_moving, is_light_kind, says_put, not_is, acting_dropped, or-left, queued_acting, forwarded_acting, sort_of, handles_here}
use Rattle.dm_law_moves.proofs.Names.{or-right, bind, kernel_handles, none_some}
use Rattle.dm_onekernel.specs.Step as kernel
use Rattle.dm_law_rule.specs.View as view
use Rattle.dm_law_moves.proofs.Settles.Effects.{effect, takes_front}
use Rattle.dm_law_moves.proofs.Settles.Falls.Handles.{is_back}

-- a line with which such a message leaves the inbox: it routes nothing, and machines know what they knew
pub record FrontLine (i : MsgId) (l : Line) : Type 0 where
  pub takes : takes_front i (effect l)
  pub touches_ : touches l ≡ false
  pub back : is_back (effect l) ≡ false
  pub put : says_put l ≡ false
  pub known : (v : View) → (view_after v l).known ≡ v.known
  pub acting : (v : View) → (view_after v l).acting ≡ v.acting

queued_known : (v : View) (id : MsgId) (o : Option Pid) → (view.queued_for v id o).known ≡ v.known
queued_known v id None = refl
queued_known v id (Some p) = refl

dropped_known : (v : View) (id : MsgId) (o : Option Pid) → (view.dropped_for v id o).known ≡ v.known
dropped_known v id None = refl
dropped_known v id (Some p) = refl

forwarded_known : (v : View) (o : Option Pid) → (view.forwarded_for v o).known ≡ v.known
forwarded_known v None = refl
forwarded_known v (Some p) = refl

queued : (i : MsgId) → FrontLine i (Line.Queued i)
queued i = record {
  takes = refl;
  touches_ = refl;
  back = refl;
  put = refl;
  known = λ v. queued_known (handled v i) i (receiver_of (v.told i));
  acting = λ v. queued_acting (handled v i) i (receiver_of (v.told i));
}

dropped : (i : MsgId) → FrontLine i (Line.Label (Label.Dropped i))
dropped i = record {
  takes = refl;
  touches_ = refl;
  back = refl;
  put = refl;
  known = λ v. dropped_known (handled v i) i (receiver_of (v.told i));
  acting = λ v. acting_dropped (handled v i) i (receiver_of (v.told i));
}

updated : (i : MsgId) (n : ℕ) → FrontLine i (Line.Updated i n)
updated i n = record { takes = refl; touches_ = refl; back = refl; put = refl; known = λ v. refl; acting = λ v. refl }

pub forwarded : (i : MsgId) (to : ℕ) → FrontLine i (Line.Forwarded i to)
forwarded i to = record {
  takes = refl;
  touches_ = refl;
  back = refl;
  put = refl;
  known = λ v. forwarded_known (handled v i) (receiver_of (v.told i));
  acting = λ v. forwarded_acting (handled v i) (receiver_of (v.told i));
}

-- a message goes on, and its sender may be told
abbrev pub goes_on : MsgId → ℕ → MessageKind → Pid → ℕ → List Part
goes_on i at k sender to = Says (Line.Forwarded i at) ∷ Again i at ∷ (if is_told_back k then Owns MessageKind.Update sender to ∷ [] else [])

-- it stops here, or goes on along the forwarding address of its receiver
pub data Shape (v : View) (m : ℕ) (i : MsgId) (t : Told) (ps : List Part) : Type 0 where
  Stops : (l : Line) → FrontLine i l → ps ≡ Says l ∷ [] → Shape v m i t ps
  Goes : (at moves : ℕ) → (sender : Pid) → (to : ℕ) → (t.receiver.num == 0) ≡ false → v.known m t.receiver ≡ view.Forward at moves → ps ≡ goes_on i at t.kind sender to → Shape v m i t ps

stops : (v : View) (m : ℕ) (i : MsgId) (t : Told) (l : Line) (ps : List Part) → FrontLine i l → Some (Says l ∷ []) ≡ Some ps → Shape v m i t ps
stops v m i t l ps h e = let f : Says l ∷ [] ≡ ps = cc in Stops l h (sym f)

light_plain : (w : PlainWhat) (q : Pid) → is_light_kind (plain_kind w) q ≡ true → (plain_kind w ≡ MessageKind.User) × ((is_fixed q || is_server q) ≡ false)
light_plain (PlainWhat.User code channel body links) q e = (refl, not_is (is_fixed q || is_server q) e)
light_plain w q e = cc

here_row : (pt : Point) (m : ℕ) (i : MsgId) (t : Told) (msg : PlainMessage) (x : PlainProcess) (w : PlainWhat) (ps : List Part) → plain_kind w ≡ MessageKind.User → here_handles pt m i msg x w ≡ Some ps → Shape pt.view m i t ps
here_row pt m i t msg x (PlainWhat.User code channel body links) ps is e = stops pt.view m i t (Line.Queued i) ps (queued i) e
here_row pt m i t msg x w ps is e = cc

ended_row : (pt : Point) (m : ℕ) (i : MsgId) (t : Told) (w : PlainWhat) (ps : List Part) → plain_kind w ≡ MessageKind.User → ended_handles i w ≡ Some ps → Shape pt.view m i t ps
ended_row pt m i t (PlainWhat.User code channel body links) ps is e = stops pt.view m i t (Line.Label (Label.Dropped i)) ps (dropped i) e
ended_row pt m i t w ps is e = cc

pick : {X : Type 0} (b c : Bool) (y z w : X) → (b || c) ≡ false → (if b then y else if c then z else w) ≡ w
pick true c y z w e = absurd (false≢true (sym e))
pick false true y z w e = absurd (false≢true (sym e))
pick false false y z w e = refl

process_row : (pt : Point) (m : ℕ) (i : MsgId) (t : Told) (msg : PlainMessage) (k : Known) (ps : List Part) → pt.view.known m t.receiver ≡ k → is_moving k ≡ false → plain_kind msg.what ≡ t.kind → plain_kind msg.what ≡ MessageKind.User → (t.receiver.num == 0) ≡ false → is_server msg.to ≡ false
    → process_handles pt m i msg k ≡ Some ps → Shape pt.view m i t ps
process_row pt m i t msg view.Unknown ps known still same user num free e = ended_row pt m i t msg.what ps user e
process_row pt m i t msg view.Here ps known still same user num free e =
    let row : handles_here pt m i msg ≡ bind (kernel.alive (pt.kernel.processes msg.to)) (λ x. here_handles pt m i msg x msg.what) = pick (pid_eq msg.to switchboard) (pid_eq msg.to manager) _ _ (bind (kernel.alive (pt.kernel.processes msg.to)) (λ x. here_handles pt m i msg x msg.what)) free in
    let (x, there, is) = bind-is (kernel.alive (pt.kernel.processes msg.to)) (λ x. here_handles pt m i msg x msg.what) ps (sym row ∙ e) in here_row pt m i t msg x msg.what ps user is
process_row pt m i t msg (view.Forward at moves) ps known still same user num free e =
    let f : forwards_on pt.addresses i (plain_kind msg.what) msg.sender at ≡ ps = cc in
    Goes at moves msg.sender (pt.addresses (Sender i)).at num known (sym f ∙ ap (λ (k : MessageKind). goes_on i at k msg.sender (pt.addresses (Sender i)).at) same)
process_row pt m i t msg _ ps known still same user num free e = absurd (false≢true (sym still))

bag_row : (b : Boot) (pt : Point) (m : ℕ) (i : MsgId) (t : Told) (msg : PlainMessage) (ps : List Part) → is_light_kind t.kind t.receiver ≡ true → t.kind ≡ plain_kind msg.what → t.receiver ≡ msg.to → ((n : ℕ) (p : Pid) → is_moving (pt.view.known n p) ≡ false)
    → handles b pt m i msg ≡ Some ps → Shape pt.view m i t ps
bag_row b pt m i t msg ps light same to still e =
    let user = light_plain msg.what t.receiver (ap (λ (k : MessageKind). is_light_kind k t.receiver) (sym same) ∙ light) in
    let fixed : (is_fixed msg.to || is_server msg.to) ≡ false = ap (λ (q : Pid). is_fixed q || is_server q) (sym to) ∙ user.1 in
    let num : (msg.to.num == 0) ≡ false = or-left (is_fixed msg.to) (is_server msg.to) fixed in
    let row : handles b pt m i msg ≡ process_handles pt m i msg (pt.view.known m msg.to) = ap (λ (c : Bool). if c then kernel_handles b pt m i msg.what else process_handles pt m i msg (pt.view.known m msg.to)) num in
    process_row pt m i t msg (pt.view.known m msg.to) ps (ap (pt.view.known m) to) (still m msg.to) (sym same) user.0 (or-left (is_fixed t.receiver) (is_server t.receiver) user.1) (or-right (is_fixed msg.to) (is_server msg.to) fixed) (sym row ∙ e)

-- one that isn't in the bag, by what was told of it
here_told_row : (pt : Point) (m : ℕ) (i : MsgId) (t : Told) (k : MessageKind) (ps : List Part) → is_light_kind k t.receiver ≡ true → told_here pt m i t (sort_of k) ≡ Some ps → Shape pt.view m i t ps
here_told_row pt m i t MessageKind.Update ps light e = stops pt.view m i t (Line.Updated i (behind_count pt.kernel pt.addresses t.receiver (place_told t.about))) ps (updated i _) e
here_told_row pt m i t k ps light e = cc

ended_told_row : (pt : Point) (m : ℕ) (i : MsgId) (t : Told) (k : MessageKind) (ps : List Part) → is_light_kind k t.receiver ≡ true → told_ended i (sort_of k) ≡ Some ps → Shape pt.view m i t ps
ended_told_row pt m i t MessageKind.Update ps light e = stops pt.view m i t (Line.Updated i 0) ps (updated i 0) e
ended_told_row pt m i t k ps light e = cc

told_row : (pt : Point) (m : ℕ) (i : MsgId) (t : Told) (k : Known) (ps : List Part) → pt.view.known m t.receiver ≡ k → is_moving k ≡ false → is_light_kind t.kind t.receiver ≡ true → (t.receiver.num == 0) ≡ false → process_told pt m i t k ≡ Some ps → Shape pt.view m i t ps
told_row pt m i t view.Unknown ps known still light num e = ended_told_row pt m i t t.kind ps light e
told_row pt m i t view.Here ps known still light num e = here_told_row pt m i t t.kind ps light e
told_row pt m i t (view.Forward at moves) ps known still light num e =
    let f : forwards_on pt.addresses i t.kind manager at ≡ ps = cc in Goes at moves manager (pt.addresses (Sender i)).at num known (sym f)
told_row pt m i t _ ps known still light num e = absurd (false≢true (sym still))

-- no such message is for a kernel
kernel_none : (b : Boot) (pt : Point) (m : ℕ) (i : MsgId) (a : About) (ps : List Part) → kernel_hears b pt m i MessageKind.Update a ≡ Some ps → ⊥
kernel_none b pt m i (Of p) ps e =
    let (x, there, is) = bind-is (size_of pt.kernel p) (λ x. told_step pt m i p (fits (free_room b pt m) x.blocks) x (sort_of MessageKind.Update)) ps e in cc
kernel_none b pt m i a ps e = none_some ps e

kernel_row : (b : Boot) (pt : Point) (m : ℕ) (i : MsgId) (a : About) (q : Pid) (k : MessageKind) (ps : List Part) → is_light_kind k q ≡ true → (q.num == 0) ≡ true → kernel_hears b pt m i k a ≡ Some ps → ⊥
kernel_row b pt m i a q MessageKind.User ps light num e = absurd (false≢true (ap (λ (c : Bool). not (c || is_server q)) (sym num) ∙ light))
kernel_row b pt m i a q MessageKind.Update ps light num e = kernel_none b pt m i a ps e
kernel_row b pt m i a q k ps light num e = cc

hears_by : (b : Boot) (pt : Point) (m : ℕ) (i : MsgId) (t : Told) (x : Bool) (ps : List Part) → (t.receiver.num == 0) ≡ x → is_moving (pt.view.known m t.receiver) ≡ false → is_light_kind t.kind t.receiver ≡ true
    → (if x then kernel_hears b pt m i t.kind t.about else process_told pt m i t (pt.view.known m t.receiver)) ≡ Some ps → Shape pt.view m i t ps
hears_by b pt m i t true ps num still light e = absurd (kernel_row b pt m i t.about t.receiver t.kind ps light num e)
hears_by b pt m i t false ps num still light e = told_row pt m i t (pt.view.known m t.receiver) ps refl still light num e

comes_row : (b : Boot) (pt : Point) (m : ℕ) (i : MsgId) (t : Told) (o : Option PlainMessage) (ps : List Part) → pt.kernel.bag i ≡ o → pt.view.told i ≡ Some t → is_light_kind t.kind t.receiver ≡ true → TellsRight pt → ((n : ℕ) (p : Pid) → is_moving (pt.view.known n p) ≡ false)
    → comes_to b pt m i o ≡ Some ps → Shape pt.view m i t ps
comes_row b pt m i t (Some msg) ps there told light tells still e = bag_row b pt m i t msg ps light (tells.kind i msg t there told) (tells.receiver i msg t there told) still e
comes_row b pt m i t None ps there told light tells still e =
    hears_by b pt m i t (t.receiver.num == 0) ps refl (still m t.receiver) light (ap (hears b pt m i) (sym told) ∙ e)

pub turn_shape : (b : Boot) (pt : Point) (m : ℕ) (i : MsgId) (is : List MsgId) (t : Told) (ps : List Part) → pt.view.inbox m ≡ i ∷ is → pt.view.told i ≡ Some t → is_light_kind t.kind t.receiver ≡ true → TellsRight pt
    → ((n : ℕ) (p : Pid) → is_moving (pt.view.known n p) ≡ false) → outcome b pt (Step.Turn m) ≡ Some ps → Shape pt.view m i t ps
turn_shape b pt m i is t ps front told light tells still e = comes_row b pt m i t (pt.kernel.bag i) ps refl told light tells still (ap (turns b pt m) (sym front) ∙ e)
