-- A run ends with four statuses alone.
use Rattle.dm_front.proofs.Names.{◌≡◌, ◌⊎◌, inl, inr, ℕ, refl, TheNoMemory, RoseOrFull, BlamesSink, IsWant, Status, Done, Usage, ReadFault, NoMemory, WriteFault, BootRefused, ScheduleRefused, TooLong, Worn, TraceRefused, LabelsRefused}
use Rattle.dm_front.proofs.Names.{NotFound, Undecided, RanSays}

-- what holds with each of these holds with the status
pub ran : (Whole First Begun : Type 0) (Wears : ℕ → ℕ → Type 0) (P : Status → Type 0) → (Whole → P Done) → ((lack : TheNoMemory) → First → P (NoMemory lack)) → (Begun → P WriteFault) → ((from to : ℕ) → Wears from to → P (Worn from to)) → (s : Status) → RanSays Whole First Begun Wears s → P s
ran Whole First Begun Wears P whole first begun wears Done h = whole h
ran Whole First Begun Wears P whole first begun wears (NoMemory lack) h = first lack h
ran Whole First Begun Wears P whole first begun wears WriteFault h = begun h
ran Whole First Begun Wears P whole first begun wears (Worn from to) h = wears from to h
ran Whole First Begun Wears P whole first begun wears Usage h = absurd h
ran Whole First Begun Wears P whole first begun wears (ReadFault i) h = absurd h
ran Whole First Begun Wears P whole first begun wears (BootRefused number place) h = absurd h
ran Whole First Begun Wears P whole first begun wears (ScheduleRefused line why) h = absurd h
ran Whole First Begun Wears P whole first begun wears (TooLong i) h = absurd h
ran Whole First Begun Wears P whole first begun wears (TraceRefused line why) h = absurd h
ran Whole First Begun Wears P whole first begun wears (LabelsRefused line) h = absurd h
ran Whole First Begun Wears P whole first begun wears NotFound h = absurd h
ran Whole First Begun Wears P whole first begun wears Undecided h = absurd h

-- what is said with each is said in other terms
pub ran_said : (Whole First Begun More Others Some : Type 0) (Wears Wore : ℕ → ℕ → Type 0) → (Whole → More) → (First → Others) → (Begun → Some) → ((from to : ℕ) → Wears from to → Wore from to) → (s : Status) → RanSays Whole First Begun Wears s → RanSays More Others Some Wore s
ran_said Whole First Begun More Others Some Wears Wore whole first begun wears s h =
    ran Whole First Begun Wears (λ x. RanSays More Others Some Wore x) whole (λ lack k. first k) begun wears s h

-- a run that can't come to a worn pair ends, unless memory lacks or a write fails
pub to_end : (Whole First Begun : Type 0) (Wears : ℕ → ℕ → Type 0) (old new : ℕ) (s : Status) → RanSays Whole First Begun Wears s → BlamesSink old new s → ((from to : ℕ) → Wears from to → ⊥) → (RoseOrFull old new → ⊥) → (s ≡ Done) ⊎ IsWant s
to_end Whole First Begun Wears old new s h sink never quiet =
    ran Whole First Begun Wears (λ x. BlamesSink old new x → (x ≡ Done) ⊎ IsWant x) (λ k blames. inl refl) (λ lack k blames. inr (lack, refl)) (λ k blames. absurd (quiet blames)) (λ from to k blames. absurd (never from to k)) s h sink

-- and one that can't come to its end stops at such a pair: at the one that it comes to
pub to_worn : (Whole First Begun : Type 0) (Wears : ℕ → ℕ → Type 0) (old new : ℕ) (s : Status) (from to : ℕ) → RanSays Whole First Begun Wears s → BlamesSink old new s → (Whole → ⊥) → ((x y : ℕ) → Wears x y → (x ≡ from) × (y ≡ to)) → (RoseOrFull old new → ⊥) → (s ≡ Worn from to) ⊎ IsWant s
to_worn Whole First Begun Wears old new s from to h sink never same quiet =
    ran Whole First Begun Wears (λ x. BlamesSink old new x → (x ≡ Worn from to) ⊎ IsWant x) (λ k blames. absurd (never k)) (λ lack k blames. inr (lack, refl)) (λ k blames. absurd (quiet blames))
    (λ x y k blames. let e = same x y k in inl (λ i. Worn (e.0 i) (e.1 i))) s h sink
