-- What a drill of a boot file's system promises.
use Rattle.dm_cmd_count.proofs.Names.{◌≡◌, ◌≤◌, inl, inr, ℕ, true, arith, List, length, refl, ap, subst, Option, Some, None, nat_le, nat_tests, Boot, IsValid, Directive, World, All, IsFor, Input, Status, Done, Usage, ReadFault, BootRefused}
use Rattle.dm_cmd_count.proofs.Names.{NoBoot, SaysBoot, directives_fit, own_fits, own_drawn, OwnDrill, Shows, Notion, all_read, unwritten, Alone, MeetsShelf, MeetsSink, Around, OwnMeets, ShownSays, directives_for, RunSaying, only_lack}
use Rattle.dm_cmd_count.proofs.Names.{one_lack}
use Rattle.dm_draw.specs.declared.drill.Shows.TheVariants as shows
use Rattle.dm_ending.specs.declared.status.Input.TheVariants as input
use Rattle.dm_cmd_count.proofs.Drills.{all_for}

pub some_machines : (n : ℕ) → nat_le 1 n ≡ true → 1 ≤ n
some_machines n e = grind (arith, nat_tests)

-- what is drawn for a system is for its machines
pub own_for : (b : Boot) (d : OwnDrill) → IsValid b → All (IsFor (length b.machines)) (directives_for b d)
own_for b d valid =
    let n = length b.machines in
    all_for n (directives_for b d) (directives_fit n (own_drawn n b.processes) d.seed d.lines (λ x. own_fits n b.processes x (some_machines n valid.some_machines)))

-- no status of a drill is that of words that were refused, and none says of a read that it failed
pub never_usage : (r : Notion) (d : OwnDrill) (shown : Shows) (b : Boot) (ds : List Directive) (before after : Option (List ℕ)) (w : Option World) → ShownSays r d shown b ds before after w Usage → ⊥
never_usage r d shows.Summary b ds before after w h = h
never_usage r d shows.Groups b ds before after w h = h
never_usage r d shows.Directives b ds before after w h = h

pub never_read : (r : Notion) (d : OwnDrill) (shown : Shows) (b : Boot) (ds : List Directive) (before after : Option (List ℕ)) (w : Option World) (i : Input) → ShownSays r d shown b ds before after w (ReadFault i) → ⊥
never_read r d shows.Summary b ds before after w i h = h
never_read r d shows.Groups b ds before after w i h = h
never_read r d shows.Directives b ds before after w i h = h

-- and none that the boot file is refused
pub never_refused : (r : Notion) (d : OwnDrill) (shown : Shows) (b : Boot) (ds : List Directive) (before after : Option (List ℕ)) (w : Option World) (number place : ℕ) → ShownSays r d shown b ds before after w (BootRefused number place) → ⊥
never_refused r d shows.Summary b ds before after w number place h = h
never_refused r d shows.Groups b ds before after w number place h = h
never_refused r d shows.Directives b ds before after w number place h = h

-- the file gives a system, and something was done with it that reads nothing
pub own_meets : {F K : Type 0} (Says : RunSaying) (boot : List ℕ) (d : OwnDrill) (a : Around F K) (world : Option World) (s : Status) (b : Boot) → SaysBoot (a.shelf.told a.shelf.old) boot b → IsValid b → MeetsShelf (Alone input.Boot boot) a.shelf Done
    → Says b (directives_for b d) (a.sink.told a.sink.old) (a.sink.told a.sink.new) world s → ((i : Input) → Says b (directives_for b d) (a.sink.told a.sink.old) (a.sink.told a.sink.new) world (ReadFault i) → ⊥) → MeetsSink a.sink s → OwnMeets Says boot d a world s
own_meets Says boot d a world s b says_boot valid shelf says never sink = record {
  says = inl (record { system = b; says_boot = says_boot; valid = valid; says = says });
  refuses = λ files due told why some quiet. absurd (some (only_lack boot (Some files) files _ _ b due refl why (subst (λ f. SaysBoot f boot b) told says_boot) quiet));
  met = record {
    shelf = all_read (Alone input.Boot boot) a.shelf s shelf (λ i e. never i (subst (λ (x : Status). Says b (directives_for b d) (a.sink.told a.sink.old) (a.sink.told a.sink.new) world x) e says));
    sink = sink;
  };
}

-- it doesn't, and nothing was done
pub own_never : {F K : Type 0} (Says : RunSaying) (boot : List ℕ) (d : OwnDrill) (a : Around F K) (world : Option World) (s : Status) → NoBoot (a.shelf.told a.shelf.old) boot (a.shelf.faults a.shelf.old) (a.shelf.faults a.shelf.new) s
    → MeetsShelf (Alone input.Boot boot) a.shelf s → a.sink.new ≡ a.sink.old → world ≡ None → OwnMeets Says boot d a world s
own_never Says boot d a world s why shelf same no_world = record {
  says = inr (record { why = why; nothing = ap a.sink.told same; no_world = no_world });
  refuses = λ files due told other some quiet. one_lack boot (a.shelf.told a.shelf.old) files _ _ due s told why other some quiet;
  met = record { shelf = shelf; sink = unwritten a.sink s same (λ e. subst (λ (x : Status). NoBoot (a.shelf.told a.shelf.old) boot (a.shelf.faults a.shelf.old) (a.shelf.faults a.shelf.new) x) e why) };
}

-- the words were not refused
pub own_taken : {F K : Type 0} (r : Notion) (boot : List ℕ) (d : OwnDrill) (a : Around F K) (world : Option World) (s : Status) → OwnMeets (ShownSays r d d.shows) boot d a world s → s ≡ Usage → ⊥
own_taken r boot d a world s h e = elim h.says [
  | inl k ↦ never_usage r d d.shows k.system (directives_for k.system d) (a.sink.told a.sink.old) (a.sink.told a.sink.new) world (subst (ShownSays r d d.shows k.system (directives_for k.system d) (a.sink.told a.sink.old) (a.sink.told a.sink.new) world) e k.says)
  | inr n ↦ subst (NoBoot (a.shelf.told a.shelf.old) boot (a.shelf.faults a.shelf.old) (a.shelf.faults a.shelf.new)) e n.why
]
