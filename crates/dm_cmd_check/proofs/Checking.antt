-- What `check` promises.
use Rattle.dm_cmd_check.proofs.Names.{◌≡◌, inl, inr, ℕ, List, refl, ap, subst, Option, Some, None, Boot, IsValid, World, Input, Status, Done, ReadFault, HasTrace, NoTrace, all_read, unwritten, Both, CheckMeets, CheckSaying, MeetsShelf}
use Rattle.dm_cmd_check.proofs.Names.{MeetsSink, Around}
use Rattle.dm_ending.specs.declared.status.Input.TheVariants as input
use Rattle.dm_cmd_check.proofs.CheckOutcomes.{one_reason, only_want}

-- there is a trace, and something was said of it that reads nothing
pub checks_meet : {F K : Type 0} (Says : CheckSaying) (boot trace : List ℕ) (a : Around F K) (s : Status) (b : Boot) (bytes : List ℕ) → HasTrace (a.shelf.told a.shelf.old) boot trace b bytes → IsValid b → MeetsShelf (Both boot input.Trace trace) a.shelf Done
    → Says b bytes (a.sink.told a.sink.old) (a.sink.told a.sink.new) s → ((i : Input) → Says b bytes (a.sink.told a.sink.old) (a.sink.told a.sink.new) (ReadFault i) → ⊥) → MeetsSink a.sink s → CheckMeets Says boot trace a None s
checks_meet Says boot trace a s b bytes has valid shelf says never sink = record {
  says = inl (record { system = b; bytes = bytes; has = has; valid = valid; says = says });
  refuses = λ files due told why some quiet. absurd (some (only_want boot trace (Some files) files _ _ b bytes due refl why (subst (λ f. HasTrace f boot trace b bytes) told has) quiet));
  no_world = refl;
  met = record {
    shelf = all_read (Both boot input.Trace trace) a.shelf s shelf (λ i e. never i (subst (λ (x : Status). Says b bytes (a.sink.told a.sink.old) (a.sink.told a.sink.new) x) e says));
    sink = sink;
  };
}

-- there is none, and nothing was done
pub never_meets : {F K : Type 0} (Says : CheckSaying) (boot trace : List ℕ) (a : Around F K) (world : Option World) (s : Status) → NoTrace (a.shelf.told a.shelf.old) boot trace (a.shelf.faults a.shelf.old) (a.shelf.faults a.shelf.new) s → MeetsShelf (Both boot input.Trace trace) a.shelf s → a.sink.new ≡ a.sink.old
    → world ≡ None → CheckMeets Says boot trace a world s
never_meets Says boot trace a world s why shelf same no_world = record {
  says = inr (record { why = why; nothing = ap a.sink.told same; no_world = no_world });
  refuses = λ files due told other some quiet. one_reason boot trace (a.shelf.told a.shelf.old) files _ _ due s told why other some quiet;
  no_world = no_world;
  met = record { shelf = shelf; sink = unwritten a.sink s same (λ e. subst (λ (x : Status). NoTrace (a.shelf.told a.shelf.old) boot trace (a.shelf.faults a.shelf.old) (a.shelf.faults a.shelf.new) x) e why) };
}
