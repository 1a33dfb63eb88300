-- The children of the manager are found by their names.
use Rattle.dm_procman.proofs.Names.{◌≡◌, ◌∙◌, ℕ, suc, Bool, true, false, if◌then◌else◌, List, [], ◌∷◌, ◌++◌, length, slice_get, None, Some, map, refl, ap, sym, arith, Option, option_map, option_or, Pid, Addr, pid_eq, retargeted}
use Rattle.dm_procman.proofs.Names.{child_named, place_named}

-- one child more has the place behind the others, where its name had none
pushed : (here : Bool) (o : Option ℕ) (n : ℕ) (last : Bool) → (if here then Some 0 else option_map suc (option_or o (if last then Some n else None)))
    ≡ option_or (if here then Some 0 else option_map suc o) (if last then Some (suc n) else None)
pushed true o n last = refl
pushed false None n true = refl
pushed false None n false = refl
pushed false (Some k) n last = refl

first_of_one : (here : Bool) → (if here then Some 0 else option_map suc None) ≡ (if here then Some 0 else None)
first_of_one true = refl
first_of_one false = refl

pub place-push : (p : Pid) (children : List Addr) (child : Addr) → place_named p (children ++ child ∷ []) ≡ option_or (place_named p children) (if pid_eq child.pid p then Some (length children) else None)
place-push p [] child = first_of_one (pid_eq child.pid p)
place-push p (a ∷ children) child =
    ap (λ o. if pid_eq a.pid p then Some 0 else option_map suc o) (place-push p children child) ∙ pushed (pid_eq a.pid p) (place_named p children) (length children) (pid_eq child.pid p)

-- the child at the place of a name is the one of that name
behind : (a : Addr) (children : List Addr) (i : ℕ) (o : Option ℕ) (found : Option Addr) → option_map suc o ≡ Some i → ((k : ℕ) → o ≡ Some k → slice_get children k ≡ found)
    → slice_get (a ∷ children) i ≡ found
behind a children i None found e h = absurd (cc)
behind a children i (Some k) found e h = let is : suc k ≡ i = cc in ap (slice_get (a ∷ children)) (sym is) ∙ h k refl

found_at : (here : Bool) (p : Pid) (a : Addr) (children : List Addr) (i : ℕ) → (if here then Some 0 else option_map suc (place_named p children)) ≡ Some i
    → ((k : ℕ) → place_named p children ≡ Some k → slice_get children k ≡ child_named p children)
    → slice_get (a ∷ children) i ≡ (if here then Some a else child_named p children)
found_at true p a children i e h = let is : 0 ≡ i = cc in ap (slice_get (a ∷ children)) (sym is)
found_at false p a children i e h = behind a children i (place_named p children) (child_named p children) e h

pub named_at : (p : Pid) (children : List Addr) (i : ℕ) → place_named p children ≡ Some i → slice_get children i ≡ child_named p children
named_at p [] i e = absurd (cc)
named_at p (a ∷ children) i e = found_at (pid_eq a.pid p) p a children i e (named_at p children)

-- where a name has no place there is no such child
lost : (here : Bool) (p : Pid) (a : Addr) (children : List Addr) → (if here then Some 0 else option_map suc (place_named p children)) ≡ None
    → (place_named p children ≡ None → child_named p children ≡ None) → (if here then Some a else child_named p children) ≡ None
lost true p a children e h = absurd (cc)
lost false p a children e h = none_of (place_named p children) e h
  where
    none_of : (o : Option ℕ) → option_map suc o ≡ None → (o ≡ None → child_named p children ≡ None) → child_named p children ≡ None
    none_of None e h = h refl
    none_of (Some k) e h = absurd (cc)

pub not_named : (p : Pid) (children : List Addr) → place_named p children ≡ None → child_named p children ≡ None
not_named p [] e = refl
not_named p (a ∷ children) e = lost (pid_eq a.pid p) p a children e (not_named p children)

-- children that are told where one of them is keep their names
same_name : (about : Pid) (at moves : ℕ) (a : Addr) → (retargeted about at moves a).pid ≡ a.pid
same_name about at moves a = grind arith

pub place-retargeted : (p about : Pid) (at moves : ℕ) (children : List Addr) → place_named p (map (retargeted about at moves) children) ≡ place_named p children
place-retargeted p about at moves [] = refl
place-retargeted p about at moves (a ∷ children) =
    λ i. if pid_eq (same_name about at moves a i) p then Some 0 else option_map suc (place-retargeted p about at moves children i)
