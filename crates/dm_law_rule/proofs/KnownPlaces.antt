-- Where the manager knows what it is told to move: itself where it is, and others by an address of its own.
use Rattle.dm_law_rule.proofs.Names.{◌≡◌, ◌⊎◌, ℕ, Bool, true, false, refl, ap, sym, inl, inr, if◌then◌else◌, option_map, Option, None, Some, Pid, pid_eq, pid_eq-is, OneKernel, View, Addresses, Holder, Child, ToBoard, Place, child_number, known_place, names, switchboard, manager}
use Rattle.dm_law_rule.proofs.Trails.Puts.{child_is}

-- the manager's own place on machine m, or an address of the manager's that leads to the process
abbrev pub IsKnownBy : OneKernel → View → ℕ → Addresses → Pid → Place → Type 0
IsKnownBy s v m a p x = ((p ≡ manager) × (x ≡ record { at = m; moves = v.moves p })) ⊎ ((h : Holder) × ((names s h ≡ Some p) × (x ≡ a h)))

by_child : (s : OneKernel) (v : View) (m : ℕ) (a : Addresses) (p : Pid) (x : Place) (o : Option ℕ) → child_number s p ≡ o → option_map (λ n. a (Child n)) o ≡ Some x → IsKnownBy s v m a p x
by_child s v m a p x None is e = absurd (cc)
by_child s v m a p x (Some n) is e = inr (Child n, (child_is s p n is, cc))

by_receiver : (s : OneKernel) (v : View) (m : ℕ) (a : Addresses) (p : Pid) (x : Place) (c d : Bool) → pid_eq p switchboard ≡ c → pid_eq p manager ≡ d
    → (if c then Some (a ToBoard) else if d then Some (record { at = m; moves = v.moves p }) else option_map (λ n. a (Child n)) (child_number s p)) ≡ Some x → IsKnownBy s v m a p x
by_receiver s v m a p x true d board g e = inr (ToBoard, (ap Some (sym (pid_eq-is p switchboard board)), cc))
by_receiver s v m a p x false true board g e = inl (pid_eq-is p manager g, cc)
by_receiver s v m a p x false false board g e = by_child s v m a p x (child_number s p) refl e

pub known_by : (s : OneKernel) (v : View) (m : ℕ) (a : Addresses) (p : Pid) (x : Place) → known_place s v m a p ≡ Some x → IsKnownBy s v m a p x
known_by s v m a p x e = by_receiver s v m a p x (pid_eq p switchboard) (pid_eq p manager) refl refl e
