-- The manager's table and that of the kernel without machines.
use Rattle.dm_procman.proofs.Names.{◌≡◌, ℕ, zero, suc, ◌+◌, ◌*◌, Bool, true, false, ◌==◌, ◌&&◌, nat_lt, if◌then◌else◌, List, [], ◌∷◌, ◌++◌, length, map, refl, sym, ap, ◌∙◌, arith, length-map, slice_get-map, Option, Result, Ok, Err, IfOk}
use Rattle.dm_procman.proofs.Names.{option_map, Pid, Addr, Link, retargeted, retargeted_link, PlainLink, plain_link, NoMemory, Message, What, plain_message, plain_what, with_what, Pending, Managing, at_home, plain_child, plain_manager}
use Rattle.dm_procman.proofs.Names.{plain_pending, retargeted_manager, retargeted_pending, control_link, plain_taken, plainly_taken, Taken, asks_for, bad_request, child_address, controls, controls_child, pending_request, requests}
use Rattle.dm_procman.proofs.Names.{settled, takes, takes_created, takes_no_room, takes_user, wants_child, without_pending, kernel_at, Outcome, code_of_outcome, PendingKind, message_to, answers_over, asks, first_link, takes_moved}
use Rattle.dm_procman.proofs.Names.{wants_move, option_map_or, slice_get}
use Rattle.std.specs.declared.option.Option.TheVariants.{None, Some}
use Rattle.dm_message.specs.declared.What.TheVariants as what
use Rattle.dm_message.specs.Plain as plain
use Rattle.dm_onekernel.specs.Kernel as kernel
use Rattle.dm_onekernel.specs.Manager as one
use Rattle.dm_procman.proofs.Hearing.{IsHeard, IsUser, IsCreated, IsNoRoom, IsMoved}
use Rattle.dm_onekernel.specs.declared.request.PendingKind.TheVariants as wanted

-- a taken message without places
abbrev plainly : Taken → Option one.ManagerTook
plainly t = plain_taken t.manager t.message

-- what is done to both choices is done to the choice
both : {A B : Type 0} (f : A → B) (b : Bool) (x y : A) (u v : B) → f x ≡ u → f y ≡ v → f (if b then x else y) ≡ (if b then u else v)
both f true x y u v e h = e
both f false x y u v e h = h

some_both : {A : Type 0} (b : Bool) (x y : A) → (if b then Some x else Some y) ≡ Some (if b then x else y)
some_both true x y = refl
some_both false x y = refl

pub plain_push : (rs : List Pending) (r : Pending) → map plain_pending (rs ++ r ∷ []) ≡ map plain_pending rs ++ plain_pending r ∷ []
plain_push [] r = refl
plain_push (x ∷ rs) r = ap (λ xs. plain_pending x ∷ xs) (plain_push rs r)

pub plain_bear : (cs : List Addr) (a : Addr) → map plain_child (cs ++ a ∷ []) ≡ map plain_child cs ++ a.pid ∷ []
plain_bear [] a = refl
plain_bear (x ∷ cs) a = ap (λ xs. x.pid ∷ xs) (plain_bear cs a)

-- children and requests by number
pub plain_numbered : (cs : List Addr) (n : ℕ) → one.child_numbered (map plain_child cs) n ≡ option_map plain_child (child_address cs n)
plain_numbered cs zero = refl
plain_numbered cs (suc n) = slice_get-map plain_child cs n

pub plain_pending_numbered : (n : ℕ) (rs : List Pending) → one.pending_numbered n (map plain_pending rs) ≡ option_map plain_pending (pending_request n rs)
plain_pending_numbered n [] = refl
plain_pending_numbered n (r ∷ rs) = sym (both (option_map plain_pending) (r.n == n) (Some r) (pending_request n rs) _ _ refl (sym (plain_pending_numbered n rs)))

pub plain_without : (n : ℕ) (rs : List Pending) → map plain_pending (without_pending n rs) ≡ one.without_pending n (map plain_pending rs)
plain_without n [] = refl
plain_without n (r ∷ rs) = both (map plain_pending) (r.n == n) rs (r ∷ without_pending n rs) _ _ refl (ap (λ xs. plain_pending r ∷ xs) (plain_without n rs))

module _ (here : ℕ) where
  plain_bad : (g : Managing) (ls : List Link) → plainly (bad_request here g ls) ≡ Some (one.bad_request (plain_manager g) (map plain_link ls))
  plain_bad g [] = refl
  plain_bad g (l ∷ ls) = refl

  plain_asks : (g : Managing) (kind : PendingKind) (to : Addr) (w : What) (o : Option Link) (pw : plain.PlainWhat) → plain_what w ≡ Some pw
      → plainly (asks here g kind to w o) ≡ Some (one.sends_request (plain_manager g) kind to.pid pw (option_map plain_link o))
  plain_asks g kind to w o pw is =
      let t : one.ManagerTook = one.sends_request (plain_manager g) kind to.pid pw (option_map plain_link o) in
      λ i. Some (record { manager = record t.manager { pending = plain_push g.pending (record { n = g.sent; kind = kind; answer = o }) i }; message = with_what (message_to here g.moves g.sent to w) (is i) })

  plain_asks_for : (g : Managing) (m image : ℕ) (l : Link) (ls : List Link) → plainly (asks_for here g m image l ls) ≡ Some (one.asks_for (plain_manager g) m image (plain_link l) (map plain_link ls))
  plain_asks_for g m image l ls = plain_asks g wanted.Create (kernel_at m) (what.Create image (record { items = ls })) (Some l) (plain.Create image (map plain_link ls)) refl

  plain_wants : (g : Managing) (m image : ℕ) (ls : List Link) → plainly (wants_child here g m image ls) ≡ Some (one.wants_child (plain_manager g) g.machines g.images m image (map plain_link ls))
  plain_wants g m image [] = refl
  plain_wants g m image (l ∷ ls) =
      both plainly (nat_lt m g.machines && nat_lt image g.images) (asks_for here g m image l ls) (bad_request here g (l ∷ ls)) _ _ (plain_asks_for g m image l ls) (plain_bad g (l ∷ ls))
      ∙ some_both (nat_lt m g.machines && nat_lt image g.images) _ _

  plain_requests : (g : Managing) (body : List ℕ) (ls : List Link) → plainly (requests here g body ls) ≡ Some (one.requests_child (plain_manager g) g.machines g.images body (map plain_link ls))
  plain_requests g [] ls = plain_bad g ls
  plain_requests g (a ∷ []) ls = plain_bad g ls
  plain_requests g (a ∷ b ∷ []) ls = plain_bad g ls
  plain_requests g (a ∷ b ∷ c ∷ []) ls = plain_bad g ls
  plain_requests g (a ∷ m ∷ h ∷ l ∷ []) ls =
      both plainly (a == 1) (wants_child here g m (256 * h + l) ls) (bad_request here g ls) _ _ (plain_wants g m (256 * h + l) ls) (plain_bad g ls)
      ∙ some_both (a == 1) _ _
  plain_requests g (a ∷ b ∷ c ∷ d ∷ e ∷ es) ls = plain_bad g ls

  abbrev control_by : Bool → Bool → Bool → Option What
  control_by b c d = if b then Some what.Stop else if c then Some what.Resume else if d then Some what.Kill else None

  abbrev plain_control_by : Bool → Bool → Bool → Option plain.PlainWhat
  plain_control_by b c d = if b then Some plain.Stop else if c then Some plain.Resume else if d then Some plain.Kill else None

  plain_controls_by : (g : Managing) (a : Addr) (b c d : Bool) (ls : List Link)
      → plainly (controls_child here g a (control_by b c d) ls) ≡ Some (option_map_or (one.tells (plain_manager g) a.pid) (plain_control_by b c d) (one.bad_request (plain_manager g) (map plain_link ls)))
  plain_controls_by g a true c d ls = refl
  plain_controls_by g a false true d ls = refl
  plain_controls_by g a false false true ls = refl
  plain_controls_by g a false false false ls = plain_bad g ls

  plain_first : (ls : List Link) → option_map plain_link (first_link ls) ≡ (slice_get (map plain_link ls) 0)
  plain_first [] = refl
  plain_first (l ∷ ls) = refl

  plain_wants_move : (g : Managing) (a : Addr) (m : ℕ) (ls : List Link) → plainly (wants_move here g a m ls) ≡ Some (one.moves_child (plain_manager g) g.machines a.pid m (map plain_link ls))
  plain_wants_move g a m ls =
      both plainly (nat_lt m g.machines) (asks here g wanted.Move a (what.Move m) (first_link ls)) (bad_request here g ls) _ _
      (plain_asks g wanted.Move a (what.Move m) (first_link ls) (plain.Move m) refl ∙ ap (λ o. Some (one.sends_request (plain_manager g) wanted.Move a.pid (plain.Move m) o)) (plain_first ls))
      (plain_bad g ls)
      ∙ some_both (nat_lt m g.machines) _ _

  plain_controls : (g : Managing) (o : Option Addr) (body : List ℕ) (ls : List Link) → plainly (controls here g o body ls) ≡ Some (one.controls (plain_manager g) g.machines (option_map plain_child o) body (map plain_link ls))
  plain_controls g None [] ls = plain_bad g ls
  plain_controls g None (a ∷ []) ls = plain_bad g ls
  plain_controls g None (a ∷ b ∷ []) ls = plain_bad g ls
  plain_controls g None (a ∷ b ∷ x ∷ xs) ls = plain_bad g ls
  plain_controls g (Some c) [] ls = plain_bad g ls
  plain_controls g (Some c) (a ∷ []) ls = plain_controls_by g c (a == 2) (a == 3) (a == 4) ls
  plain_controls g (Some c) (a ∷ m ∷ []) ls =
      both plainly (a == 5) (wants_move here g c m ls) (bad_request here g ls) _ _ (plain_wants_move g c m ls) (plain_bad g ls)
      ∙ some_both (a == 5) _ _
  plain_controls g (Some c) (a ∷ b ∷ x ∷ xs) ls = plain_bad g ls

  pub plain_user : (g : Managing) (code : ℕ) (body : List ℕ) (ls : List Link) → plainly (takes_user here g code body ls) ≡ Some (one.takes_user (plain_manager g) g.machines g.images code body (map plain_link ls))
  plain_user g code body ls =
      both plainly (code == 0) (requests here g body ls) (controls here g (child_address g.children code) body ls) _ _ (plain_requests g body ls)
      (plain_controls g (child_address g.children code) body ls ∙ ap (λ o. Some (one.controls (plain_manager g) g.machines o body (map plain_link ls))) (sym (plain_numbered g.children code)))
      ∙ some_both (code == 0) _ _

  plain_over : (g : Managing) (o : Option Link) (code : ℕ) (ls : List Link) → plainly (answers_over here g o code ls) ≡ Some (one.answers_over (plain_manager g) (option_map plain_link o) code (map plain_link ls))
  plain_over g None code ls = refl
  plain_over g (Some l) code ls = refl

  -- an answer of the manager that is left with these children and requests
  abbrev plain_answers : List Pid → List kernel.Pending → ℕ → Option Link → ℕ → List PlainLink → Option one.ManagerTook
  plain_answers cs rs sent o code links = Some (one.answers_over (record { children = cs; pending = rs; sent = sent }) (option_map plain_link o) code links)

  pub plain_created : (g : Managing) (n : ℕ) (p : Pid) (o : Option Pending) (t : Taken) → takes_created here g n p o ≡ Some t
      → plainly t ≡ (one.takes_answer (plain_manager g) n ((plain_manager g).children ++ p ∷ []) 0 (one.control_link (length (plain_manager g).children + 1) ∷ [])) (option_map plain_pending o)
  plain_created g n p None t e = absurd (cc e)
  plain_created g n p (Some r) t e =
      let left : Managing = record (settled g n) { children = g.children ++ at_home p ∷ [] } in
      let control : Link = control_link here g.moves (length g.children + 1) in
      let same : answers_over here left r.answer 0 (control ∷ []) ≡ t = cc e in
      ap plainly (sym same) ∙ plain_over left r.answer 0 (control ∷ [])
      ∙ (λ i. plain_answers (plain_bear g.children (at_home p) i) (plain_without n g.pending i) g.sent r.answer 0 (one.control_link (sym (length-map g.children plain_child) i + 1) ∷ []))

  plain_settled : (g : Managing) (n : ℕ) (r : Pending) (t : Taken) (code : ℕ) → answers_over here (settled g n) r.answer code [] ≡ t
      → plainly t ≡ plain_answers (map plain_child g.children) (one.without_pending n (map plain_pending g.pending)) g.sent r.answer code []
  plain_settled g n r t code same =
      ap plainly (sym same) ∙ plain_over (settled g n) r.answer code []
      ∙ (λ i. plain_answers (map plain_child g.children) (plain_without n g.pending i) g.sent r.answer code [])

  pub plain_no_room : (g : Managing) (n : ℕ) (o : Option Pending) (t : Taken) → takes_no_room here g n o ≡ Some t → plainly t ≡ (one.takes_answer (plain_manager g) n (plain_manager g).children 1 []) (option_map plain_pending o)
  plain_no_room g n None t e = absurd (cc e)
  plain_no_room g n (Some r) t e = plain_settled g n r t 1 (cc e)

  pub plain_moved : (g : Managing) (n : ℕ) (outcome : Outcome) (o : Option Pending) (t : Taken) → takes_moved here g n outcome o ≡ Some t
      → plainly t ≡ (one.takes_answer (plain_manager g) n (plain_manager g).children (code_of_outcome outcome) []) (option_map plain_pending o)
  plain_moved g n outcome None t e = absurd (cc e)
  plain_moved g n outcome (Some r) t e = plain_settled g n r t (code_of_outcome outcome) (cc e)

  plain_heard : (g : Managing) (m : Message) (t : Taken) → IsHeard m.what → takes here g m.id.n m.what ≡ Some t → plainly t ≡ plainly_taken g (plain_message m)
  plain_heard g m t (IsUser code channel body links is) e =
      let row : Some (takes_user here g code body.items links.items) ≡ Some t = ap (takes here g m.id.n) (sym is) ∙ e in
      let same : takes_user here g code body.items links.items ≡ t = cc row in
      ap plainly (sym same) ∙ plain_user g code body.items links.items ∙ sym (ap (λ w. plainly_taken g (with_what m (plain_what w))) is)
  plain_heard g m t (IsCreated p is) e =
      plain_created g m.id.n p (pending_request m.id.n g.pending) t (ap (takes here g m.id.n) (sym is) ∙ e)
      ∙ ap (one.takes_answer (plain_manager g) m.id.n ((plain_manager g).children ++ p ∷ []) 0 (one.control_link (length (plain_manager g).children + 1) ∷ [])) (sym (plain_pending_numbered m.id.n g.pending))
      ∙ sym (ap (λ w. plainly_taken g (with_what m (plain_what w))) is)
  plain_heard g m t (IsNoRoom is) e =
      plain_no_room g m.id.n (pending_request m.id.n g.pending) t (ap (takes here g m.id.n) (sym is) ∙ e)
      ∙ ap (one.takes_answer (plain_manager g) m.id.n (plain_manager g).children 1 []) (sym (plain_pending_numbered m.id.n g.pending))
      ∙ sym (ap (λ w. plainly_taken g (with_what m (plain_what w))) is)
  plain_heard g m t (IsMoved outcome is) e =
      plain_moved g m.id.n outcome (pending_request m.id.n g.pending) t (ap (takes here g m.id.n) (sym is) ∙ e)
      ∙ ap (one.takes_answer (plain_manager g) m.id.n (plain_manager g).children (code_of_outcome outcome) []) (sym (plain_pending_numbered m.id.n g.pending))
      ∙ sym (ap (λ w. plainly_taken g (with_what m (plain_what w))) is)

  -- the manager has the row of the kernel without machines
  pub plain_after : (r : Result (Option Message) NoMemory) (old new : Managing) (m : Message) → IsHeard m.what
      → IfOk r (λ sent. takes here old m.id.n m.what ≡ Some (record { manager = new; message = sent }))
      → IfOk r (λ sent. plain_taken new sent ≡ plainly_taken old (plain_message m))
  plain_after (Err e) old new m is h = h
  plain_after (Ok sent) old new m is h = plain_heard old m (record { manager = new; message = sent }) is h

-- a manager that is told of another place means the same
plain_retargeted_addr : (p : Pid) (m c : ℕ) (a : Addr) → plain_child (retargeted p m c a) ≡ plain_child a
plain_retargeted_addr p m c a = grind arith

plain_retargeted_link : (p : Pid) (m c : ℕ) (l : Link) → plain_link (retargeted_link p m c l) ≡ plain_link l
plain_retargeted_link p m c l = grind arith

plain_answer_kept : (p : Pid) (m c : ℕ) (o : Option Link) → option_map plain_link (option_map (retargeted_link p m c) o) ≡ option_map plain_link o
plain_answer_kept p m c None = refl
plain_answer_kept p m c (Some l) = ap Some (plain_retargeted_link p m c l)

plain_children : (p : Pid) (m c : ℕ) (cs : List Addr) → map plain_child (map (retargeted p m c) cs) ≡ map plain_child cs
plain_children p m c [] = refl
plain_children p m c (a ∷ cs) = λ i. plain_retargeted_addr p m c a i ∷ plain_children p m c cs i

plain_requests_kept : (p : Pid) (m c : ℕ) (rs : List Pending) → map plain_pending (map (retargeted_pending p m c) rs) ≡ map plain_pending rs
plain_requests_kept p m c [] = refl
plain_requests_kept p m c (r ∷ rs) = λ i. record { n = r.n; kind = r.kind; answer = plain_answer_kept p m c r.answer i } ∷ plain_requests_kept p m c rs i

pub plain_retargeted : (p : Pid) (m c : ℕ) (g : Managing) → plain_manager (retargeted_manager p m c g) ≡ plain_manager g
plain_retargeted p m c g = λ i. record { children = plain_children p m c g.children i; pending = plain_requests_kept p m c g.pending i; sent = g.sent }
