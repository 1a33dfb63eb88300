-- The switchboard's table and that of the kernel without machines.
use Rattle.dm_switchboard.proofs.Imports.{◌≡◌, ℕ, ◌+◌, Bool, true, false, ◌==◌, if◌then◌else◌, List, [], ◌∷◌, ◌++◌, map, refl, sym, ap, ◌∙◌, arith, Option, None, Result, Ok, Err, IfOk, option_map, ArrayVec, Pid, Link, retargeted_link}
use Rattle.dm_switchboard.proofs.Imports.{plain_link, NoMemory, Message, plain_message, plain_what, with_what, is_general, switchboard, bytes_eq, is_name, Took, Reply, Board, Named, plain_board, plain_named, retargeted_named, plain_taken}
use Rattle.dm_switchboard.proofs.Imports.{plainly_taken, Asked, Taken, answer_over, asks, asks_to_look_up, asks_to_register, bad_request, found_or_unknown, link_named, looks_up, registers, registers_new, takes_request, option_map_or}
use Rattle.std.specs.declared.option.Option.TheVariants.{Some}
use Rattle.dm_message.specs.declared.What.TheVariants as what
use Rattle.dm_onekernel.specs.Switchboard as one
use Rattle.dm_switchboard.specs.declared.reply.Reply.TheVariants as reply

abbrev pub plain_reply : Reply → one.Answer
plain_reply reply.Registered = one.Registered
plain_reply (reply.Found link) = one.Found (plain_link link)
plain_reply reply.Unknown = one.Unknown
plain_reply reply.Taken = one.Taken
plain_reply reply.BadLink = one.BadLink
plain_reply reply.BadRequest = one.BadRequest

abbrev pub plain_asked : Asked → one.Asked
plain_asked a = record { names = map plain_named a.names; answer = plain_reply a.reply }

-- what is done to both choices is done to the choice
done_to_both : {A B : Type 0} (f : A → B) (b : Bool) (x y : A) → f (if b then x else y) ≡ (if b then f x else f y)
done_to_both f true x y = refl
done_to_both f false x y = refl

both : {A : Type 0} (b : Bool) (x x' y y' : A) → x ≡ x' → y ≡ y' → (if b then x else y) ≡ (if b then x' else y')
both true x x' y y' e f = e
both false x x' y y' e f = f

plain_link_named : (name : List ℕ) (ks : List Named) → one.link_named name (map plain_named ks) ≡ option_map plain_link (link_named name ks)
plain_link_named name [] = refl
plain_link_named name (k ∷ ks) =
    both (bytes_eq k.name name) (Some (plain_link k.link)) (Some (plain_link k.link)) _ _ refl (plain_link_named name ks)
    ∙ sym (done_to_both (option_map plain_link) (bytes_eq k.name name) (Some k.link) (link_named name ks))

plain_push : (ks : List Named) (k : Named) → map plain_named (ks ++ k ∷ []) ≡ map plain_named ks ++ plain_named k ∷ []
plain_push [] k = refl
plain_push (x ∷ ks) k = ap (λ ns. plain_named x ∷ ns) (plain_push ks k)

plain_found : (o : Option Link) → (option_map_or one.Found (option_map plain_link o) one.Unknown) ≡ plain_reply (found_or_unknown o)
plain_found None = refl
plain_found (Some l) = refl

plain_looks_up : (ks : List Named) (name : List ℕ) → one.looks_up (map plain_named ks) name ≡ plain_asked (looks_up ks name)
plain_looks_up ks name = λ i. record { names = map plain_named ks; answer = (ap (λ o. option_map_or one.Found o one.Unknown) (plain_link_named name ks) ∙ plain_found (link_named name ks)) i }

plain_registers_new : (ks : List Named) (name : List ℕ) (l : Link) (kept : Option Link) → one.registers_new (map plain_named ks) name (plain_link l) (option_map plain_link kept) ≡ plain_asked (registers_new ks name l kept)
plain_registers_new ks name l None = λ i. record { names = sym (plain_push ks (record { name = name; link = l })) i; answer = one.Registered }
plain_registers_new ks name l (Some k) = refl

plain_registers : (ks : List Named) (name : List ℕ) (l : Link) → one.registers_name (map plain_named ks) name (plain_link l) ≡ plain_asked (registers ks name l)
plain_registers ks name l =
    both (is_general l.kind) _ (plain_asked (registers_new ks name l (link_named name ks))) _ (plain_asked (record { names = ks; reply = reply.BadLink }))
    (ap (one.registers_new (map plain_named ks) name (plain_link l)) (plain_link_named name ks) ∙ plain_registers_new ks name l (link_named name ks)) refl
    ∙ sym (done_to_both plain_asked (is_general l.kind) (registers_new ks name l (link_named name ks)) (record { names = ks; reply = reply.BadLink }))

plain_asks_to_register : (ks : List Named) (name : List ℕ) (ls : List Link) → one.asks_to_register (map plain_named ks) name (map plain_link ls) ≡ plain_asked (asks_to_register ks name ls)
plain_asks_to_register ks name [] = refl
plain_asks_to_register ks name (l ∷ []) =
    both (is_name name) _ (plain_asked (registers ks name l)) _ (plain_asked (bad_request ks)) (plain_registers ks name l) refl
    ∙ sym (done_to_both plain_asked (is_name name) (registers ks name l) (bad_request ks))
plain_asks_to_register ks name (l ∷ m ∷ ls) = refl

plain_asks_to_look_up : (ks : List Named) (name : List ℕ) (ls : List Link) → one.asks_to_look_up (map plain_named ks) name (map plain_link ls) ≡ plain_asked (asks_to_look_up ks name ls)
plain_asks_to_look_up ks name [] =
    both (is_name name) _ (plain_asked (looks_up ks name)) _ (plain_asked (bad_request ks)) (plain_looks_up ks name) refl
    ∙ sym (done_to_both plain_asked (is_name name) (looks_up ks name) (bad_request ks))
plain_asks_to_look_up ks name (l ∷ ls) = refl

abbrev looks_or_not : List Named → ℕ → List ℕ → List Link → Asked
looks_or_not ks operation name ls = if operation == 2 then asks_to_look_up ks name ls else bad_request ks

pub plain_asks : (ks : List Named) (body : List ℕ) (ls : List Link) → one.asks (map plain_named ks) body (map plain_link ls) ≡ plain_asked (asks ks body ls)
plain_asks ks [] ls = refl
plain_asks ks (operation ∷ name) ls =
    both (operation == 1) _ (plain_asked (asks_to_register ks name ls)) _ (plain_asked (looks_or_not ks operation name ls)) (plain_asks_to_register ks name ls)
    (both (operation == 2) _ (plain_asked (asks_to_look_up ks name ls)) _ (plain_asked (bad_request ks)) (plain_asks_to_look_up ks name ls) refl
    ∙ sym (done_to_both plain_asked (operation == 2) (asks_to_look_up ks name ls) (bad_request ks)))
    ∙ sym (done_to_both plain_asked (operation == 1) (asks_to_register ks name ls) (looks_or_not ks operation name ls))

pub plain_answer : (here moves n : ℕ) (l : Link) (r : Reply) → plain_message (answer_over here moves n l r) ≡ Some (one.goes_over switchboard n (plain_link l) (((one.answer_row (plain_reply r)).0) ∷ []) ((one.answer_row (plain_reply r)).1))
plain_answer here moves n l reply.Registered = refl
plain_answer here moves n l (reply.Found k) = refl
plain_answer here moves n l reply.Unknown = refl
plain_answer here moves n l reply.Taken = refl
plain_answer here moves n l reply.BadLink = refl
plain_answer here moves n l reply.BadRequest = refl

pub plain_request : (here : ℕ) (b : Board) (body : List ℕ) (ls : List Link) (t : Taken) → takes_request here b body ls ≡ t → plain_taken t.board t.took ≡ Some (one.takes_request (plain_board b) body (map plain_link ls))
plain_request here b body [] t e = ap (λ (t : Taken). plain_taken t.board t.took) (sym e)
plain_request here b body (l ∷ ls) t e =
    let a : Asked = asks b.names body ls in
    ap (λ (t : Taken). plain_taken t.board t.took) (sym e)
    ∙ (λ i. Some (record { switchboard = record { names = map plain_named a.names; sent = b.sent + 1 }; answer = plain_answer here b.moves b.sent l a.reply i }))
    ∙ ap (λ p. Some (one.board_answers (plain_board b) (plain_link l) p)) (sym (plain_asks b.names body ls))

-- a user message has the row of the kernel without machines
pub plain_after : (here : ℕ) (r : Result Took NoMemory) (old new : Board) (m : Message) (code channel : ℕ) (body : ArrayVec ℕ) (links : ArrayVec Link) (bs : List ℕ) (ls : List Link)
    → m.what ≡ what.User code channel body links → bs ≡ body.items → ls ≡ links.items
    → IfOk r (λ t. takes_request here old bs ls ≡ record { board = new; took = t })
    → IfOk r (λ t. plain_taken new t ≡ plainly_taken old (plain_message m))
plain_after here (Err e) old new m code channel body links bs ls is eb el h = h
plain_after here (Ok t) old new m code channel body links bs ls is eb el h =
    plain_request here old body.items links.items (record { board = new; took = t }) (ap (λ x. takes_request here old x links.items) (sym eb) ∙ ap (takes_request here old bs) (sym el) ∙ h)
    ∙ sym (ap (λ w. plainly_taken old (with_what m (plain_what w))) is)

plain_retargeted_link : (p : Pid) (m c : ℕ) (l : Link) → plain_link (retargeted_link p m c l) ≡ plain_link l
plain_retargeted_link p m c l = grind arith

-- a board that is told of another place means the same
pub plain_retargeted : (p : Pid) (m c : ℕ) (ks : List Named) → map plain_named (map (retargeted_named p m c) ks) ≡ map plain_named ks
plain_retargeted p m c [] = refl
plain_retargeted p m c (k ∷ ks) = λ i. record { name = k.name; link = plain_retargeted_link p m c k.link i } ∷ plain_retargeted p m c ks i
