-- Where no read and no write fails and memory is there, the files decide what a run comes to.
use Rattle.dm_front.proofs.Names.{◌≡◌, ◌⊎◌, inl, inr, ℕ, List, subst, sym, refl, Option, Some, Boot, Directive, Line, TheNoMemory, Notion, WearsAfter, RoseOrFull, BlamesSink, IsWant, Status, Done, Worn, Lasts, RunIsDecided, Wears, SaysBoot}
use Rattle.dm_front.proofs.Names.{Outside, RanSays, RunSaying, SaysRun}
use Rattle.dm_front.proofs.Outcomes.{Files, only_want, same_boot, same_inputs}
use Rattle.dm_front.proofs.Ran.{to_end, to_worn}

-- a notion of a run decides: where a run is over none is worn, and two that are worn are so between the same machines
pub record Decides (r : Notion) : Type 0 where
  pub lasts : (b : Boot) (ds : List Directive) (groups : List (List Line)) (p : r.Place) → r.Leads b ds groups p → r.IsOver b ds p → r.Rests b ds p → Lasts r b ds
  pub once : (b : Boot) (ds : List Directive) (gs hs : List (List Line)) (from to x y : ℕ) → WearsAfter r b ds gs from to → WearsAfter r b ds hs x y → (from ≡ x) × (to ≡ y)

-- what is said of a run's directives with each of its four statuses: that they last, or come to a worn pair
pub record Tells (r : Notion) (Says : Status → Type 0) (b : Boot) (ds : List Directive) : Type 1 where
  pub Whole : Type 0
  pub First : Type 0
  pub Begun : Type 0
  pub Worn_ : ℕ → ℕ → Type 0
  pub is : (s : Status) → Says s → RanSays Whole First Begun Worn_ s
  pub done : Whole → Lasts r b ds
  pub worn : (from to : ℕ) → Worn_ from to → Wears r b ds from to

pub ends : (r : Notion) (Says : Status → Type 0) (b : Boot) (ds : List Directive) (old new : ℕ) (s : Status) → Tells r Says b ds → Says s → BlamesSink old new s → Lasts r b ds → (RoseOrFull old new → ⊥) → (s ≡ Done) ⊎ IsWant s
ends r Says b ds old new s t h sink lasts quiet =
    to_end t.Whole t.First t.Begun t.Worn_ old new s (t.is s h) sink (λ from to k. let w = t.worn from to k in lasts w.0 from to w.1) quiet

pub wears_out : (r : Notion) (Says : Status → Type 0) (b : Boot) (ds : List Directive) (old new : ℕ) (s : Status) (from to : ℕ) → Decides r → Tells r Says b ds → Says s → BlamesSink old new s → Wears r b ds from to → (RoseOrFull old new → ⊥) → (s ≡ Worn from to) ⊎ IsWant s
wears_out r Says b ds old new s from to d t h sink w quiet =
    to_worn t.Whole t.First t.Begun t.Worn_ old new s from to (t.is s h) sink (λ k. t.done k w.0 from to w.1) (λ x y k. let v = t.worn x y k in d.once b ds v.0 w.0 x y from to v.1 w.1) quiet

-- a run, or the picture of one
pub run_decided : (r : Notion) (Says : RunSaying) (boot schedule : List ℕ) (o : Outside) (s : Status) → Decides r → ((b : Boot) (ds : List Directive) → Tells r (Says b ds o.before o.after o.world) b ds) → SaysRun Says boot schedule o s → BlamesSink o.writes_before o.writes_after s → RunIsDecided r boot schedule o s
run_decided r Says boot schedule o s d tells says sink = record {
  completes = λ files b ds told a lasts never. elim says [
    | inl k ↦
        let same = same_inputs boot schedule o.files files k.system b k.directives ds told k.accepts a in
        ends r (Says k.system k.directives o.before o.after o.world) k.system k.directives o.writes_before o.writes_after s (tells k.system k.directives) k.says sink
        (subst (λ (x : Boot). Lasts r x k.directives) (sym same.boots) (subst (λ (xs : List Directive). Lasts r b xs) (sym same.directives) lasts)) never.writes
    | inr n ↦ inr (only_want boot schedule o.files files o.reads_before o.reads_after b ds s told n.why a never.reads)
  ];
  wears = λ files b ds from to told a wears never. elim says [
    | inl k ↦
        let same = same_inputs boot schedule o.files files k.system b k.directives ds told k.accepts a in
        wears_out r (Says k.system k.directives o.before o.after o.world) k.system k.directives o.writes_before o.writes_after s from to d (tells k.system k.directives) k.says sink
        (subst (λ (x : Boot). Wears r x k.directives from to) (sym same.boots) (subst (λ (xs : List Directive). Wears r b xs from to) (sym same.directives) wears)) never.writes
    | inr n ↦ inr (only_want boot schedule o.files files o.reads_before o.reads_after b ds s told n.why a never.reads)
  ];
}

-- a boot file says one system
pub said_same : (boot : List ℕ) (told : Option Files) (files : Files) (b c : Boot) → told ≡ Some files → SaysBoot told boot b → SaysBoot (Some files) boot c → b ≡ c
said_same boot told files b c is h k = same_boot files boot boot b c refl (subst (λ f. SaysBoot f boot b) is h) k
