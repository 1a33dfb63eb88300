-- A turn with a kernel's own message at the inbox's front, a row a kind.
use Rattle.dm_law_mirror.proofs.Names.{◌≡◌, ℕ, ◌<◌, false, List, [], ◌∷◌, refl, ap, ◌∙◌, sym, inl, inr, Option, None, Some, cases_Bool, Message, MsgId, PlainMessage, plain_message, Boot, IsValid, bind, FreezesWhole, IsLawfulState, KernelState}
use Rattle.dm_law_mirror.proofs.Names.{Point, Known, Unknown, Here, is_fixed, OwnTold, Run, Placed, Mirrors, parts, MadeStands, AllOwnStand, KernelStands, AllRecords, TokensStand, true, subst, false≢true, Pid, What, kind_of, PlainWhat}
use Rattle.dm_law_mirror.proofs.Names.{plain_what, with_what, is_between, tells_onward, Of, own_sort, about_of, told_of, ◌==◌, sort_of, Inbox, MessageKind, incoming_of, kernel_handles, left_true, is_due_piece}
use Rattle.dm_law_mirror.proofs.Names.{is_piece, hears_piece, brings_piece, is_stale, pulled, is_process}
use Rattle.dm_law_mirror.proofs.Follow.Fronts.{fronted, Fronts}
use Rattle.dm_law_mirror.proofs.Leave.Fronts.{heard, Hearing, stands_first}
use Rattle.dm_law_mirror.proofs.Gone.{has_some}
use Rattle.dm_law_mirror.proofs.Residents.{made_apart, not_board, not_manager}
use Rattle.dm_law_mirror.proofs.Names.{is_server, plainly as plainly_with}
use Rattle.dm_law_mirror.proofs.Turning.{TurnsAt}
use Rattle.dm_law_mirror.proofs.Handle.Ended.{is_here}
use Rattle.dm_law_mirror.proofs.Handle.Taking.{IsProcess, Taking, took}
use Rattle.dm_law_mirror.proofs.Leave.Asked.{asked_turn}
use Rattle.dm_law_mirror.proofs.Leave.Asks.{gives_block, gives_chunk, hears_migrate}
use Rattle.dm_law_mirror.proofs.Leave.Goes.{goes}
use Rattle.dm_law_mirror.proofs.Leave.Stays.{called_off, refuses}
use Rattle.dm_law_mirror.proofs.Row.Tokens.{row_turns, serve_turns}
use Rattle.dm_law_mirror.proofs.Handle.Created.{BagFor, ForFixed, ForHere, ForUnknown, bag_row}
use Rattle.dm_law_mirror.proofs.Come.Answers.{Around, turns_come}
use Rattle.dm_law_mirror.proofs.Come.Stale.{turns_stale}
use Rattle.dm_law_mirror.proofs.Come.Bury.{hears_bury}
use Rattle.dm_law_mirror.proofs.LeftOver.{brings_on, over_of, plainly_due}
use Rattle.dm_law_rule.specs.View as view
use Rattle.dm_law_mirror.proofs.Follow.Asks.{apart_turn, migrate_apart, update_turn}

module _ (b : Boot) (m : ℕ) (pt : Point) (l : Placed) (records : AllRecords) (k : KernelState) (y : Message) (h : Hearing b m pt l records k y) (plain : plain_message y ≡ None) (valid : IsValid b) (below : m < pt.kernel.machines) (made : MadeStands pt.kernel) (around : Around b pt l) (whole : FreezesWhole k k.inbox) where
  fronts : Fronts b m pt l records k y
  fronts = search

  -- what the machine that a process leaves says
  comes : (p : Pid) (w : What) → y.what ≡ w → is_between (kind_of w) ≡ true → tells_onward (sort_of (kind_of w)) ≡ true → about_of w ≡ Of p → is_due_piece pt.view p y.id (told_of y) ≡ true → TurnsAt b m pt l records k
  comes p w e between source about due = turns_come b m pt l records k y p (search
      (due, ap (λ (x : What). is_between (kind_of x)) e ∙ between, ap (λ (x : What). tells_onward (sort_of (kind_of x))) e ∙ source, ap about_of e ∙ about)) around

  -- what asks for no piece and brings none
  plainly : (p : Pid) (w : What) → y.what ≡ w → is_piece (sort_of (kind_of w)) ≡ false → is_due_piece pt.view p y.id (told_of y) ≡ true
  plainly p w e none = plainly_due pt.view p y.id (told_of y) (ap (λ (x : What). is_piece (sort_of (kind_of x))) e ∙ none)

  -- a piece that isn't stale is due
  fresh_due : (p : Pid) → is_between (kind_of y.what) ≡ true → about_of y.what ≡ Of p → brings_piece (sort_of (kind_of y.what)) ≡ true → is_stale pt m y.id (kind_of y.what) p ≡ false → is_due_piece pt.view p y.id (told_of y) ≡ true
  fresh_due p between about brings fresh = elim (cases_Bool (is_due_piece pt.view p y.id (told_of y))) [
    | inl due ↦ due
    | inr off ↦
        let phases = h.run.based.phased.phases in
        let first = stands_first b m pt l records k y h in
        let u = pulled pt.view p (phases.of p) y.id (told_of y) m (over_of pt.view phases p y.id (told_of y) (Inbox m) h.told between about first off) first fresh in
        absurd (false≢true (sym (brings_on (kind_of y.what) brings).2 ∙ u.pulls))
  ]

  -- a kernel's message for another kernel
  number_of : (k : MessageKind) (q : Pid) (a : view.About) → brings_piece (sort_of k) ≡ true → own_sort k q a ≡ true → (q.num == 0) ≡ true
  number_of MessageKind.State q a e f = left_true (q.num == 0) (is_process a) f
  number_of MessageKind.Memory q a e f = left_true (q.num == 0) (is_process a) f
  number_of _ q a e f = absurd (false≢true e)

  -- a piece
  piece : (p : Pid) (w : What) → y.what ≡ w → is_between (kind_of w) ≡ true → tells_onward (sort_of (kind_of w)) ≡ true → about_of w ≡ Of p → brings_piece (sort_of (kind_of w)) ≡ true
      → ((s : KernelState) → kernel_handles b s y w ≡ hears_piece s y p (incoming_of (s.records p))) → TurnsAt b m pt l records k
  piece p w e between source about brings turn =
      let brings_ : brings_piece (sort_of (kind_of y.what)) ≡ true = ap (λ (x : What). brings_piece (sort_of (kind_of x))) e ∙ brings in
      let about_ : about_of y.what ≡ Of p = ap about_of e ∙ about in
      elim (cases_Bool (is_stale pt m y.id (kind_of y.what) p)) [
        | inl stale ↦ turns_stale b m pt l records k y p h about_ (number_of (kind_of y.what) y.to.pid (about_of y.what) brings_ (h.sorts.own y.id (told_of y) h.told h.mine)) (λ s. ap (kernel_handles b s y) e ∙ turn s) stale
        | inr fresh ↦ comes p w e between source about (fresh_due p (ap (λ (x : What). is_between (kind_of x)) e ∙ between) about_ brings_ fresh)
      ]

  migrates : (machine : ℕ) (w : Known) → y.what ≡ What.Migrate machine → pt.view.known m y.to.pid ≡ w → TurnsAt b m pt l records k
  migrates machine Here e knows = hears_migrate b m pt l records k y machine h e knows (subst (FreezesWhole k) h.inbox whole)
  migrates machine any_ e knows = migrate_apart b m pt l records k y fronts machine any_ e knows (λ (f : any_ ≡ Here). cc)

  -- a message with a plain meaning is none of the kernel's own
  not_plain : (w : What) (p : PlainWhat) → y.what ≡ w → plain_what w ≡ Some p → TurnsAt b m pt l records k
  not_plain w p e is = absurd (let f : Some (record { id = y.id; to = y.to.pid; sender = y.sender.pid; what = p }) ≡ None = sym (ap (with_what y) (ap plain_what e ∙ is)) ∙ plain in cc)

  as_is : (w : What) → y.what ≡ w → Hearing b m pt l records k (record y { what = w })
  as_is w e = subst (Hearing b m pt l records k) (ap (λ (x : What). record y { what = x }) e) h

  by_what : (w : What) → y.what ≡ w → TurnsAt b m pt l records k
  by_what (What.Migrate machine) e = migrates machine (pt.view.known m y.to.pid) e refl
  by_what (What.Update about) e = update_turn b m pt l records k y fronts about e
  by_what (What.Ask pid blocks moves size asker) e = comes pid (What.Ask pid blocks moves size asker) e refl refl refl (plainly pid (What.Ask pid blocks moves size asker) e refl)
  by_what (What.Refuse pid slots blocks) e = refuses b m pt l records k y pid slots blocks (as_is _ e)
  by_what (What.PullState pid chunk) e = gives_chunk b m pt l records k y pid chunk (as_is _ e)
  by_what (What.State pid chunk last bytes) e = piece pid (What.State pid chunk last bytes) e refl refl refl refl (λ s. refl)
  by_what (What.PullBlock pid block) e = gives_block b m pt l records k y pid block (as_is _ e)
  by_what (What.Memory pid block bytes) e = piece pid (What.Memory pid block bytes) e refl refl refl refl (λ s. refl)
  by_what (What.AllTaken pid) e = goes b m pt l records k y pid (as_is _ e) made
  by_what (What.Restart pid) e = comes pid (What.Restart pid) e refl refl refl (plainly pid (What.Restart pid) e refl)
  by_what (What.CallOff pid) e = called_off b m pt l records k y pid (as_is _ e)
  by_what (What.Bury pid) e = hears_bury b m pt l records k y pid valid (as_is _ e)
  by_what any_ e = not_plain any_ _ e refl

-- Each turn of a machine, whatever its inbox has at the front.

-- all that stands about machine m and its kernel
pub record About (b : Boot) (m : ℕ) (pt : Point) (l : Placed) (records : AllRecords) (k : KernelState) : Type 0 where
  pub valid : IsValid b
  pub below : m < pt.kernel.machines
  pub run : Run b pt
  pub told : OwnTold pt
  pub made : MadeStands pt.kernel
  pub mirrors : Mirrors pt.kernel pt.view pt.addresses l
  pub stands : KernelStands b pt l m k
  pub lawful : IsLawfulState k
  pub own : AllOwnStand pt.view l
  pub tokens : TokensStand pt.view l records
  pub mine : records m ≡ k.records
  pub counted : k.sent ≡ pt.view.count m
  pub around : Around b pt l
  pub whole : FreezesWhole k k.inbox

-- only a process is asked to move
move_loose : (b : Boot) (m : ℕ) (pt : Point) (l : Placed) (k : KernelState) (y : Message) (machine : ℕ) → Taking b m pt l k y (PlainWhat.Move machine) → is_server y.to.pid ≡ false
move_loose b m pt l k y machine c =
    let fits = c.run.based.fits.messages y.id (plainly_with y (PlainWhat.Move machine)) c.front.there in
    made_apart b pt y.to.pid c.run (has_some 0 (pt.kernel.processes y.to.pid) fits.0)

module _ (b : Boot) (m : ℕ) (pt : Point) (l : Placed) (records : AllRecords) (k : KernelState) (h : About b m pt l records k) where
  -- a message of the bag that is for a kernel, a server, or a process that is here or has ended
  bag_turn : (i : MsgId) (is : List MsgId) (x : PlainMessage) → pt.view.inbox m ≡ i ∷ is → pt.kernel.bag i ≡ Some x → BagFor m pt x.to x.what → TurnsAt b m pt l records k
  bag_turn i is x box there whom = row_turns b m pt l records k h.run h.own h.tokens h.mine h.counted (bag_row b m pt l k i is x h.valid h.below h.run h.told h.made h.mirrors h.stands h.own box there whom)

  -- and one for a process that is here: it may be asked to move
  here_turn : (y : Message) (c : Fronts b m pt l records k y) (x : PlainMessage) (w : PlainWhat) → x.what ≡ w → pt.kernel.bag y.id ≡ Some x → y.to.pid ≡ x.to → is_fixed y.to.pid ≡ false → pt.view.known m y.to.pid ≡ Here
      → TurnsAt b m pt l records k
  here_turn y c x (PlainWhat.Move machine) is there to fixed knows =
      let t = took b m pt l k y.id c.ids x h.valid h.below h.run h.told h.made h.mirrors h.stands h.own c.box there in
      let z = t.message in
      let taking : Taking b m pt l k z (PlainWhat.Move machine) = subst (Taking b m pt l k z) is t.taking in
      let who : z.to.pid ≡ y.to.pid = (parts z x t.plain).to ∙ sym to in
      let off : is_server z.to.pid ≡ false = move_loose b m pt l k z machine taking in
      let process : IsProcess z.to.pid = record { number = ap is_fixed who ∙ fixed; no_board = not_board z.to.pid off; no_manager = not_manager z.to.pid off } in
      asked_turn b m pt l records k z machine taking (is_here b m pt l k z (PlainWhat.Move machine) taking process (ap (pt.view.known m) who ∙ knows)) h.tokens h.mine h.counted (subst (FreezesWhole k) taking.inbox h.whole)
  here_turn y c x w is there to fixed knows =
      bag_turn y.id c.ids x c.box there (ForHere (ap (pt.view.known m) (sym to) ∙ knows) (λ machine e. let f : w ≡ PlainWhat.Move machine = sym is ∙ e in cc))

  -- and by what the machine knows of it
  process_turn : (y : Message) (c : Fronts b m pt l records k y) (x : PlainMessage) (w : Known) → pt.kernel.bag y.id ≡ Some x → y.to.pid ≡ x.to → is_fixed y.to.pid ≡ false → pt.view.known m y.to.pid ≡ w → TurnsAt b m pt l records k
  process_turn y c x Unknown there to fixed knows = bag_turn y.id c.ids x c.box there (ForUnknown (ap (pt.view.known m) (sym to) ∙ knows))
  process_turn y c x Here there to fixed knows = here_turn y c x x.what refl there to fixed knows
  process_turn y c x any_ there to fixed knows = apart_turn b m pt l records k y c any_ fixed knows refl

  front_turn : (y : Message) (c : Fronts b m pt l records k y) (o : Option PlainMessage) → pt.kernel.bag y.id ≡ o → TurnsAt b m pt l records k
  front_turn y c None none =
      let f = heard b m pt l records k y.id c.ids h.run h.told h.mirrors h.stands h.own h.tokens h.mine h.counted c.box none in
      by_what b m pt l records k f.message f.hearing f.plain h.valid h.below h.made h.around h.whole f.message.what refl
  front_turn y c (Some x) there =
      let plain : plain_message y ≡ Some x = sym (ap (λ (o : Option Message). bind o plain_message) c.there) ∙ h.mirrors.plain.bag y.id ∙ there in
      let to : y.to.pid ≡ x.to = (parts y x plain).to in
      elim (cases_Bool (is_fixed y.to.pid)) [
        | inl fixed ↦ bag_turn y.id c.ids x c.box there (ForFixed (ap is_fixed (sym to) ∙ fixed))
        | inr off ↦ process_turn y c x (pt.view.known m y.to.pid) there to off refl
      ]

  box_turn : (box : List MsgId) → pt.view.inbox m ≡ box → TurnsAt b m pt l records k
  box_turn [] box = serve_turns b m pt l records k (record { run = h.run; made = h.made; mirrors = h.mirrors; own = h.own; stands = h.stands; lawful = h.lawful; valid = h.valid }) h.tokens h.mine h.counted box
  box_turn (i ∷ is) box =
      let f = fronted b m pt l records k i is h.below h.run h.told h.mirrors h.stands h.own h.tokens h.mine h.counted box in
      front_turn f.message f.fronts (pt.kernel.bag f.message.id) refl

-- a turn comes to what the rule says
pub turns_all : (b : Boot) (m : ℕ) (pt : Point) (l : Placed) (records : AllRecords) (k : KernelState) → About b m pt l records k → TurnsAt b m pt l records k
turns_all b m pt l records k h = box_turn b m pt l records k h (pt.view.inbox m) refl
