-- The count of an address that a process or a server has doesn't fall until a step gives it a new one.
use Rattle.dm_law_moves.proofs.Names.{◌≡◌, ℕ, ◌≤◌, ◌||◌, Bool, true, false, List, [], ◌∷◌, refl, ap, ◌∙◌, sym, subst, arith, nat_tests, Option, Some, Pid, Place, MsgId, MessageKind, OneKernel, bind-is, Line, Addresses, Holder, Receiver}
use Rattle.dm_law_moves.proofs.Names.{Gets, holder_eq, forwards, all_follow, own_given, first_gives, Point, label_of, kernel_after, moved, after_line, after, View, Told, is_owned, gives_to, is_filled, in_next, refilled, act_of, addresses_by}
use Rattle.dm_law_moves.proofs.Names.{CountsStay, CountsKept, sort_of}
use Rattle.dm_law_moves.proofs.After.{group_after}
use Rattle.dm_law_moves.proofs.Updates.Always.{updates_always}
use Rattle.dm_law_moves.proofs.Promise.Slots.{neither as either, not_given}

abbrev count_of : Addresses → Holder → ℕ
count_of a h = (a h).moves

same_count : (a c : Addresses) (h : Holder) → c h ≡ a h → count_of a h ≤ count_of c h
same_count a c h e = let f : count_of c h ≡ count_of a h = ap (λ (p : Place). p.moves) e in omega (arith, f)

-- what goes on gives addresses to messages only
no_receiver : (i : MsgId) (h : Holder) → is_owned h ≡ true → holder_eq (Receiver i) h ≡ false
no_receiver i h e = grind (arith, nat_tests)

follows_none : (v : View) (a : Addresses) (p : Pid) (h : Holder) (is : List MsgId) → is_owned h ≡ true → gives_to h (all_follow v a p is) ≡ false
follows_none v a p h [] e = refl
follows_none v a p h (i ∷ is) e = ap (λ (c : Bool). c || gives_to h (all_follow v a p is)) (no_receiver i h e) ∙ follows_none v a p h is e

-- each line
by_line : (pt : Point) (l : Line) (h : Holder) → is_owned h ≡ true → is_filled pt (label_of l) h ≡ false → count_of pt.addresses h ≤ count_of (addresses_by pt.kernel pt.view pt.addresses (act_of l)) h
by_line pt l h h1 h2 =
    let forwards_none : (v : View) (a : Addresses) (id : MsgId) (h : Holder) (o : Option Told) → is_owned h ≡ true → gives_to h (forwards v a id o) ≡ false = λ v a id h o e. grind (arith, nat_tests, no_receiver) in
    let own_none : (s : OneKernel) (v : View) (a : Addresses) (id : MsgId) (r : Pid) (h : Holder) (x : MessageKind) → is_owned h ≡ true → gives_to h (own_given s v a id r (sort_of x)) ≡ false =
    λ s v a id r h x e. grind (arith, nat_tests) in
    let first_none : (h : Holder) (o : Option Told) (gs : List Gets) → gives_to h gs ≡ false → gives_to h (first_gives o gs) ≡ false = λ h o gs e. grind (arith, nat_tests) in
    search (arith, same_count, pt.addresses, pt.kernel, pt.view, not_given, forwards_none, follows_none, first_none, own_none)

by_lines : (ls : List Line) (pt end : Point) (h : Holder) → is_owned h ≡ true → after pt ls ≡ Some end → refilled h pt ls ≡ false → count_of pt.addresses h ≤ count_of end.addresses h
by_lines [] pt end h mine is e = let f : pt ≡ end = cc in same_count pt.addresses end.addresses h (sym (ap (λ (x : Point). x.addresses h) f))
by_lines (l ∷ ls) pt end h mine is e =
    let (next, first, rest) = bind-is (after_line pt l) (λ (x : Point). after x ls) end is in
    let (s, step_, last) = bind-is (kernel_after pt.kernel (label_of l)) (λ (s : OneKernel). Some (moved pt l s)) next first in
    let f : moved pt l s ≡ next = cc in
    let two = either (is_filled pt (label_of l) h) (in_next (after_line pt l) (λ next. refilled h next ls)) e in
    let one : count_of pt.addresses h ≤ count_of next.addresses h = subst (λ (x : Point). count_of pt.addresses h ≤ count_of x.addresses h) f (by_line pt l h mine two.0) in
    let others = by_lines ls next end h mine rest (sym (ap (λ (x : Option Point). in_next x (λ next. refilled h next ls)) first) ∙ two.1) in
    omega (arith, one, others)

pub counts_stay : CountsStay
counts_stay b [] pt end h mine leads = same_count pt.addresses end.addresses h (sym (ap (λ (x : Point). x.addresses h) leads))
counts_stay b (d ∷ ds) pt end h mine (w, fit, is, unfilled, more) =
    let one = by_lines w.lines pt w.point h mine (group_after b pt d w is) unfilled in
    grind (arith, nat_tests, counts_stay b ds w.point end h mine more)

pub counts_kept : CountsKept
counts_kept b es more pt end d w id n t p c h earlier later valid leads is lines told about mine slot unfilled =
    search (arith, (updates_always b es pt d w id n earlier later valid leads is lines).1, counts_stay b more w.point end h (grind (arith, nat_tests)) unfilled)
