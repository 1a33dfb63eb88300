-- Lines at the end that none of a sort is among: what each line says alone, all of them do.
use Rattle.dm_law_moves.proofs.Names.{◌≡◌, ℕ, zero, suc, ◌+◌, Bool, false, List, [], ◌++◌, filter, refl, ap, ◌∙◌, arith, nat_tests, append-nil, filter-append, Pid, pid_of, MsgId, first_number, EndLine, home_with, joined_below, list_line, homes_with, Point}

-- none of these lines is of the sort
abbrev pub Mute : (EndLine → Bool) → List EndLine → Type 0
Mute f ls = filter f ls ≡ []

pub both : (f : EndLine → Bool) (xs ys : List EndLine) → filter f (xs ++ ys) ≡ filter f xs ++ filter f ys
both f xs ys = filter-append f xs ys

pub mute_both : (f : EndLine → Bool) (xs ys : List EndLine) → Mute f xs → Mute f ys → Mute f (xs ++ ys)
mute_both f xs ys h k = both f xs ys ∙ ap (λ (ls : List EndLine). ls ++ filter f ys) h ∙ k

-- all lines of many processes or machines
mute_home : (f : EndLine → Bool) (g : Pid → List EndLine) (home n : ℕ) → ((q : Pid) → Mute f (g q)) → Mute f (home_with g home n)
mute_home f g home zero h = refl
mute_home f g home (suc n) h = mute_both f (home_with g home n) (g (pid_of home (first_number + n))) (mute_home f g home n h) (h (pid_of home (first_number + n)))

pub mute_homes : (f : EndLine → Bool) (pt : Point) (g : Pid → List EndLine) (n : ℕ) → ((q : Pid) → Mute f (g q)) → Mute f (homes_with pt g n)
mute_homes f pt g zero h = refl
mute_homes f pt g (suc home) h = mute_both f (homes_with pt g home) (home_with g home (pt.kernel.made home)) (mute_homes f pt g home h) (mute_home f g home (pt.kernel.made home) h)

pub mute_machines : (f : EndLine → Bool) (g : ℕ → List EndLine) (n : ℕ) → ((m : ℕ) → Mute f (g m)) → Mute f (joined_below g n)
mute_machines f g zero h = refl
mute_machines f g (suc m) h = mute_both f (joined_below g m) (g m) (mute_machines f g m h) (h m)

pub mute_list : (f : EndLine → Bool) (g : List MsgId → EndLine) (ids : List MsgId) → ((is : List MsgId) → f (g is) ≡ false) → Mute f (list_line g ids)
mute_list f g ids h = grind (arith, nat_tests)

-- lines of which one part alone has some
pub one_last : (f : EndLine → Bool) (xs ys ls : List EndLine) → Mute f xs → filter f ys ≡ ls → filter f (xs ++ ys) ≡ ls
one_last f xs ys ls h k = both f xs ys ∙ ap (λ (zs : List EndLine). zs ++ filter f ys) h ∙ k

pub one_first : (f : EndLine → Bool) (xs ys ls : List EndLine) → filter f xs ≡ ls → Mute f ys → filter f (xs ++ ys) ≡ ls
one_first f xs ys ls h k = both f xs ys ∙ ap (λ (zs : List EndLine). filter f xs ++ zs) k ∙ append-nil (filter f xs) ∙ h
