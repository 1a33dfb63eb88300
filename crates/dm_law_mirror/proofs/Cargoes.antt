-- What moves, as the kernel with places has it: what it is of, and that it stays where that does.
use Rattle.dm_law_mirror.proofs.Names.{◌≡◌, ◌∙◌, ℕ, List, [], refl, ap, sym, subst, Option, None, Some, option_map, Pid, MsgId, Asker, Departure, Placed, IsSuch, LeavesStand, Cargo, CanCome, CanBeCarried, ComesStand, Arrival, Nothing}
use Rattle.dm_law_mirror.proofs.Names.{coming, comes_back, restarted, can_come, cargo_at, cargo_of, Resident, resident_at, none_some}
use Rattle.dm_resident.specs.Residents as residents
use Rattle.dm_law_mirror.proofs.Residents.{cargo_queue, moved_queue, of_system_queue}

-- where it stays, and who waits to hear of it, so does what moves
pub cargo_same : (l u : Placed) (p : Pid) → resident_at u p ≡ resident_at l p → u.notes p ≡ l.notes p → cargo_at u p ≡ cargo_at l p
cargo_same l u p e f = λ i. option_map (λ (r : Resident). cargo_of r (f i)) (e i)

pub same_cargo : (c d : Cargo) → Some c ≡ Some d → c ≡ d
same_cargo c d e = cc

-- what it is of
pub record IsCargoOf (o : Option Resident) (asker : Option Asker) (c : Cargo) : Type 0 where
  pub resident : Resident
  pub there : o ≡ Some resident
  pub is : cargo_of resident asker ≡ c

pub is_cargo_of : (o : Option Resident) (asker : Option Asker) (c : Cargo) → option_map (λ (r : Resident). cargo_of r asker) o ≡ Some c → IsCargoOf o asker c
is_cargo_of None asker c e = none_some c e
is_cargo_of (Some r) asker c e = record { resident = r; there = refl; is = same_cargo (cargo_of r asker) c e }

-- it can come, where what it is of can be carried
carried_comes : (r : Resident) (asker : Option Asker) (cap machines images : ℕ) → CanBeCarried cap machines images r → CanCome (cargo_of r asker) cap
carried_comes r asker cap machines images h =
    subst (λ (c : Cargo). CanCome c cap) (cargo_queue [] r asker) (can_come (residents.with_queue [] r) cap machines images asker h.0 (of_system_queue [] cap machines images r h.1))

pub cargo_comes : (o : Option Resident) (asker : Option Asker) (c : Cargo) (cap machines images : ℕ) → option_map (λ (r : Resident). cargo_of r asker) o ≡ Some c → IsSuch (CanBeCarried cap machines images) o → CanCome c cap
cargo_comes None asker c cap machines images e h = absurd h
cargo_comes (Some r) asker c cap machines images e h = subst (λ (z : Cargo). CanCome z cap) (same_cargo (cargo_of r asker) c e) (carried_comes r asker cap machines images h)

-- who waits to hear of what leaves
pub waits_for : (l : Placed) (p : Pid) (queue held : List MsgId) (to : ℕ) (d : Departure) → LeavesStand l p queue held to d → d.asker ≡ l.notes p
waits_for l p queue held to d h =
    let r = residents.with_queue h.here.0.0 d.resident in
    let same : cargo_of r (l.notes p) ≡ cargo_of d.resident d.asker = same_cargo (cargo_of r (l.notes p)) (cargo_of d.resident d.asker) (sym (ap (option_map (λ (y : Resident). cargo_of y (l.notes p))) h.here.0.1) ∙ h.cargo) in
    sym (ap (λ (c : Cargo). c.asker) same)

-- what has come whole is what left
pub comes_again : (l : Placed) (p : Pid) (from : ℕ) (held : List MsgId) (a : Arrival) (r : Resident) → resident_at l p ≡ Some r → a.wanted ≡ Nothing → ComesStand l p from held a → restarted l.manager.machines l.manager.images a ≡ Some (residents.moved r)
comes_again l p from held a r there wanted h =
    let carried : CanBeCarried a.cap l.manager.machines l.manager.images r = subst (IsSuch (CanBeCarried a.cap l.manager.machines l.manager.images)) there h.whole in
    let is : cargo_of r (l.notes p) ≡ h.cargo = same_cargo (cargo_of r (l.notes p)) h.cargo (sym (ap (option_map (λ (y : Resident). cargo_of y (l.notes p))) there) ∙ h.there) in
    let come : a ≡ coming (cargo_of (residents.with_queue [] r) (l.notes p)) a.source a.cap a.held Nothing = h.pieces ∙ (λ i. coming ((sym is ∙ sym (cargo_queue [] r (l.notes p))) i) a.source a.cap a.held (wanted i)) in
    ap (restarted l.manager.machines l.manager.images) come
    ∙ comes_back (residents.with_queue [] r) a.source a.cap l.manager.machines l.manager.images (l.notes p) a.held carried.0 (of_system_queue [] a.cap l.manager.machines l.manager.images r carried.1)
    ∙ ap Some (moved_queue [] r)
