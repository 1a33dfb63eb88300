-- What the switchboard keeps and gives is lawful.
use Rattle.dm_switchboard.proofs.Imports.{◌≡◌, ◌<◌, ◌≤◌, ℕ, suc, Bool, true, false, ◌==◌, if◌then◌else◌, List, [], ◌∷◌, length, map, refl, sym, subst, arith, common_steps, All-map, All-push, All, IfSome, IfOk, OnErr, Option, None, Result}
use Rattle.dm_switchboard.proofs.Imports.{Ok, Err, ArrayVec, Pid, Addr, Link, IsMachine, IsLawfulAddr, IsLawfulEnclosed, is_behind, relocated, retargeted_link, NoMemory, Message, IsLawfulMessage, IsLawfulWhat, is_general, bytes_eq, is_name}
use Rattle.dm_switchboard.proofs.Imports.{Took, Reply, Board, Named, retargeted_named, IsLawfulBoard, IsLawfulNamed, Asked, Taken, answer_over, asks, asks_to_look_up, asks_to_register, bad_request, found_or_unknown, link_named}
use Rattle.dm_switchboard.proofs.Imports.{links_of_reply, looks_up, registers, registers_new, takes_request}
use Rattle.std.specs.declared.option.Option.TheVariants.{Some}
use Rattle.dm_message.specs.declared.What.TheVariants as what
use Rattle.dm_switchboard.specs.declared.reply.Reply.TheVariants as reply

all_head : {X : Type 0} (P : X → Type 0) (x : X) (xs : List X) → All P (x ∷ xs) → P x
all_head P x xs h = h 0 x (omega arith)

all_tail : {X : Type 0} (P : X → Type 0) (x : X) (xs : List X) → All P (x ∷ xs) → All P xs
all_tail P x xs h = λ k d lt. h (suc k) d (grind (arith, common_steps, lt))

all_none : {X : Type 0} (P : X → Type 0) → All P []
all_none P = λ k d lt. absurd (omega (arith, lt))

-- a link that an answer carries can be enclosed
abbrev IsLawfulReply : Reply → Type 0
IsLawfulReply r = All IsLawfulEnclosed (links_of_reply r)

abbrev IsLawfulAsked : Asked → Type 0
IsLawfulAsked a = All IsLawfulNamed a.names × IsLawfulReply a.reply

-- what holds of both choices holds of the choice
either : {A : Type 0} (P : A → Type 0) (b : Bool) (x y : A) → (b ≡ true → P x) → P y → P (if b then x else y)
either P true x y p q = p refl
either P false x y p q = q

bad_lawful : (ks : List Named) → All IsLawfulNamed ks → IsLawfulAsked (bad_request ks)
bad_lawful ks h = (h, all_none IsLawfulEnclosed)

named_lawful : (name : List ℕ) (ks : List Named) → All IsLawfulNamed ks → IfSome (link_named name ks) IsLawfulEnclosed
named_lawful name [] h = tt {0}
named_lawful name (k ∷ ks) h =
    either (λ o. IfSome o IsLawfulEnclosed) (bytes_eq k.name name) (Some k.link) (link_named name ks) (λ _. (all_head IsLawfulNamed k ks h).link) (named_lawful name ks (all_tail IsLawfulNamed k ks h))

found_lawful : (o : Option Link) → IfSome o IsLawfulEnclosed → IsLawfulReply (found_or_unknown o)
found_lawful None h = all_none IsLawfulEnclosed
found_lawful (Some l) h = All-push IsLawfulEnclosed [] l (all_none IsLawfulEnclosed) h

new_lawful : (ks : List Named) (name : List ℕ) (l : Link) (kept : Option Link) → All IsLawfulNamed ks → is_name name ≡ true → IsLawfulEnclosed l → IsLawfulAsked (registers_new ks name l kept)
new_lawful ks name l None h n e = (All-push IsLawfulNamed ks (record { name = name; link = l }) h (record { name = n; link = e }), all_none IsLawfulEnclosed)
new_lawful ks name l (Some k) h n e = (h, all_none IsLawfulEnclosed)

register_lawful : (ks : List Named) (name : List ℕ) (ls : List Link) → All IsLawfulNamed ks → All IsLawfulEnclosed ls → IsLawfulAsked (asks_to_register ks name ls)
register_lawful ks name [] h e = bad_lawful ks h
register_lawful ks name (l ∷ []) h e =
    either IsLawfulAsked (is_name name) (registers ks name l) (bad_request ks)
    (λ n. either IsLawfulAsked (is_general l.kind) (registers_new ks name l (link_named name ks)) (record { names = ks; reply = reply.BadLink })
    (λ _. new_lawful ks name l (link_named name ks) h n (all_head IsLawfulEnclosed l [] e)) (h, all_none IsLawfulEnclosed))
    (bad_lawful ks h)
register_lawful ks name (l ∷ m ∷ ls) h e = bad_lawful ks h

look_up_lawful : (ks : List Named) (name : List ℕ) (ls : List Link) → All IsLawfulNamed ks → IsLawfulAsked (asks_to_look_up ks name ls)
look_up_lawful ks name [] h =
    either IsLawfulAsked (is_name name) (looks_up ks name) (bad_request ks) (λ _. (h, found_lawful (link_named name ks) (named_lawful name ks h))) (bad_lawful ks h)
look_up_lawful ks name (l ∷ ls) h = bad_lawful ks h

asks_lawful : (ks : List Named) (body : List ℕ) (ls : List Link) → All IsLawfulNamed ks → All IsLawfulEnclosed ls → IsLawfulAsked (asks ks body ls)
asks_lawful ks [] ls h e = bad_lawful ks h
asks_lawful ks (operation ∷ name) ls h e =
    either IsLawfulAsked (operation == 1) (asks_to_register ks name ls) (if operation == 2 then asks_to_look_up ks name ls else bad_request ks)
    (λ _. register_lawful ks name ls h e)
    (either IsLawfulAsked (operation == 2) (asks_to_look_up ks name ls) (bad_request ks) (λ _. look_up_lawful ks name ls h) (bad_lawful ks h))

few_links : (r : Reply) → length (links_of_reply r) ≤ 4
few_links reply.Registered = omega arith
few_links (reply.Found l) = omega arith
few_links reply.Unknown = omega arith
few_links reply.Taken = omega arith
few_links reply.BadLink = omega arith
few_links reply.BadRequest = omega arith

answer_lawful : (here moves n : ℕ) (l : Link) (r : Reply) → here < 16 → IsLawfulEnclosed l → IsLawfulReply r → IsLawfulMessage (answer_over here moves n l r)
answer_lawful here moves n l r machine e h = record {
  from = omega arith;
  answer = refl;
  to = e.link.addr;
  sender = record { home = omega arith; at = omega (arith, machine) };
  what = (e.link.channel, omega arith, few_links r, h);
}

-- what a request leaves and gives
request_lawful : (here : ℕ) (b : Board) (body : List ℕ) (ls : List Link) (t : Taken) → here < 16 → takes_request here b body ls ≡ t → IsLawfulBoard b → All IsLawfulEnclosed ls
    → IsLawfulBoard t.board × IfSome t.took.answer IsLawfulMessage
request_lawful here b body [] t machine is h e =
    let P : Taken → Type 0 = λ t. IsLawfulBoard t.board × IfSome t.took.answer IsLawfulMessage in
    subst P is (h, tt {0})
request_lawful here b body (l ∷ ls) t machine is h e =
    let P : Taken → Type 0 = λ t. IsLawfulBoard t.board × IfSome t.took.answer IsLawfulMessage in
    let a = asks_lawful b.names body ls h (all_tail IsLawfulEnclosed l ls e) in
    subst P is (a.0, answer_lawful here b.moves b.sent l (asks b.names body ls).reply machine (all_head IsLawfulEnclosed l ls e) a.1)

links_lawful : (m : Message) (code channel : ℕ) (body : ArrayVec ℕ) (links : ArrayVec Link) → m.what ≡ what.User code channel body links → IsLawfulMessage m → All IsLawfulEnclosed links.items
links_lawful m code channel body links is l = (subst IsLawfulWhat is l.what).3

pub board_after : (here : ℕ) (r : Result Took NoMemory) (old new : Board) (m : Message) (code channel : ℕ) (body : ArrayVec ℕ) (links : ArrayVec Link) (bs : List ℕ) (ls : List Link)
    → here < 16 → m.what ≡ what.User code channel body links → ls ≡ links.items
    → IfOk r (λ t. takes_request here old bs ls ≡ record { board = new; took = t }) → OnErr r (new ≡ old)
    → IsLawfulBoard old → IsLawfulMessage m → IsLawfulBoard new
board_after here (Err e) old new m code channel body links bs ls machine is el h same l k = subst IsLawfulBoard (sym same) l
board_after here (Ok t) old new m code channel body links bs ls machine is el h same l k =
    (request_lawful here old bs ls (record { board = new; took = t }) machine h l (subst (All IsLawfulEnclosed) (sym el) (links_lawful m code channel body links is k))).0

pub answer_after : (here : ℕ) (r : Result Took NoMemory) (old new : Board) (m : Message) (code channel : ℕ) (body : ArrayVec ℕ) (links : ArrayVec Link) (bs : List ℕ) (ls : List Link)
    → here < 16 → m.what ≡ what.User code channel body links → ls ≡ links.items
    → IfOk r (λ t. takes_request here old bs ls ≡ record { board = new; took = t })
    → IsLawfulBoard old → IsLawfulMessage m → IfOk r (λ t. IfSome t.answer IsLawfulMessage)
answer_after here (Err e) old new m code channel body links bs ls machine is el h l k = h
answer_after here (Ok t) old new m code channel body links bs ls machine is el h l k =
    (request_lawful here old bs ls (record { board = new; took = t }) machine h l (subst (All IsLawfulEnclosed) (sym el) (links_lawful m code channel body links is k))).1

addr_either : (behind : Bool) (at moves : ℕ) (a : Addr) → IsMachine at → IsLawfulAddr a → IsLawfulAddr (if behind then relocated at moves a else a)
addr_either true at moves a m l = record { home = l.home; at = m }
addr_either false at moves a m l = l

link_lawful : (about : Pid) (at moves : ℕ) (x : Link) → IsMachine at → IsLawfulEnclosed x → IsLawfulEnclosed (retargeted_link about at moves x)
link_lawful about at moves x m l =
    record {
      link = record { addr = addr_either (is_behind about moves x.addr) at moves x.addr m l.link.addr; channel = l.link.channel; area = l.link.area };
      not_to_kernel = l.not_to_kernel;
    }

pub retargeted_lawful : (about : Pid) (at moves : ℕ) (ks : List Named) → IsMachine at → All IsLawfulNamed ks → All IsLawfulNamed (map (retargeted_named about at moves) ks)
retargeted_lawful about at moves ks m h = All-map IsLawfulNamed (retargeted_named about at moves) ks (λ k d lt. record { name = (h k d lt).name; link = link_lawful about at moves _ m (h k d lt).link })
