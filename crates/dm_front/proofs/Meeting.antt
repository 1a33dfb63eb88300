-- What calls promise of the shelf and of the sink, put together.
use Rattle.dm_front.proofs.Names.{◌≡◌, inl, inr, ℕ, List, ap, sym, subst, ◌∙◌, arith, refl, Result, Ok, Err, Option, None, Some, false≢true, IfErr, IsErr, IsErrAnd, Boot, Input, Status, Done, Usage, ReadFault, NoMemory, WriteFault}
use Rattle.dm_front.proofs.Names.{BootRefused, ScheduleRefused, TooLong, Worn, TraceRefused, LabelsRefused, NotFound, Undecided, SaysBoot, BlamesShelf, BlamesSink, Alone, Asks, AsksBoth, Both, Named, Nothing, perhaps_both, MeetsShelf}
use Rattle.dm_front.proofs.Names.{MeetsSink, status_so_far, ShelfAround, SinkAround, TheNoMemory, Around, Untouched, World}
use Rattle.dm_ending.specs.declared.status.Input.TheVariants as input

-- where the call passes on how another ended
pub passed_on : {A : Type 0} (P : Status → Type 0) (r : Result A Status) (e : Status) → IsErr r × IsErrAnd r (λ y. y ≡ e) → P e → P (status_so_far r)
passed_on P (Ok x) e h p = absurd (false≢true h.0)
passed_on P (Err y) e h p = subst P (sym h.1) p

pub err_passed : {A : Type 0} (P : Status → Type 0) (r : Result A Status) (e : Status) → IsErr r × IsErrAnd r (λ y. y ≡ e) → P e → IfErr r P
err_passed P (Ok x) e h p = absurd (false≢true h.0)
err_passed P (Err y) e h p = subst P (sym h.1) p

-- a boot file was to be read and another behind it, and the boot file gave nothing
pub first_read : {F : Type 0} (f : ShelfAround F) (boot : List ℕ) (which : Input) (name : List ℕ) (s : Status) → MeetsShelf (Alone input.Boot boot) f s → MeetsShelf (Both boot which name) f s
first_read f boot which name s h = record { same = h.same; blames = h.blames; last = h.last; counts = h.counts; asks = inl h.asks; fails = λ i e. inl (h.fails i e) }

-- the same where there may be another
pub perhaps_first : {F : Type 0} (f : ShelfAround F) (boot : List ℕ) (schedule : Option (List ℕ)) (s : Status) → MeetsShelf (Alone input.Boot boot) f s → MeetsShelf (perhaps_both boot schedule) f s
perhaps_first f boot None s h = h
perhaps_first f boot (Some schedule) s h = first_read f boot input.Schedule schedule s h

-- it gave a system, and then the other was read
pub both_read : {F : Type 0} (f : ShelfAround F) (between : F) (boot : List ℕ) (which : Input) (name : List ℕ) (b : Boot) (s : Status) → SaysBoot (f.told f.old) boot b → MeetsShelf (Alone input.Boot boot) (record f { new = between }) Done
    → MeetsShelf (Alone which name) (record f { old = between }) s → MeetsShelf (Both boot which name) f s
both_read f between boot which name b s says h k =
    let both : AsksBoth f boot name = record { b = b; says = says; between = between; first = h.asks; second = k.asks } in
    record {
      same = k.same ∙ h.same;
      blames = subst (λ n. BlamesShelf n (f.faults f.new) s) h.blames k.blames;
      last = k.last;
      counts = let x = h.counts in let y = k.counts in omega (arith, x, y);
      asks = inr both;
      fails = λ i e. let x = k.fails i e in inr (record { is = x.is; asked = both; rose = x.rose });
    }

blames_nobody : (old new : ℕ) (s : Status) → new ≡ old → ((i : Input) → s ≡ ReadFault i → ⊥) → BlamesShelf old new s
blames_nobody old new Done e never = e
blames_nobody old new Usage e never = e
blames_nobody old new (ReadFault i) e never = absurd (never i refl)
blames_nobody old new (NoMemory lack) e never = e
blames_nobody old new WriteFault e never = e
blames_nobody old new (BootRefused number place) e never = e
blames_nobody old new (ScheduleRefused line why) e never = e
blames_nobody old new (TooLong i) e never = e
blames_nobody old new (Worn from to) e never = e
blames_nobody old new (TraceRefused line why) e never = e
blames_nobody old new (LabelsRefused line) e never = e
blames_nobody old new NotFound e never = e
blames_nobody old new Undecided e never = e

-- files were read, and what the call ends with blames none of these reads
pub all_read : {F : Type 0} (names : Named) (f : ShelfAround F) (s : Status) → MeetsShelf names f Done → ((i : Input) → s ≡ ReadFault i → ⊥) → MeetsShelf names f s
all_read names f s h never = record {
  same = h.same;
  blames = blames_nobody (f.faults f.old) (f.faults f.new) s h.blames never;
  last = λ i e. absurd (never i e);
  counts = h.counts;
  asks = h.asks;
  fails = λ i e. absurd (never i e);
}

sink_stays : (old new : ℕ) (s : Status) → new ≡ old → (s ≡ WriteFault → ⊥) → BlamesSink old new s
sink_stays old new Done e never = e
sink_stays old new Usage e never = e
sink_stays old new (ReadFault i) e never = e
sink_stays old new (NoMemory lack) e never = e
sink_stays old new WriteFault e never = absurd (never refl)
sink_stays old new (BootRefused number place) e never = e
sink_stays old new (ScheduleRefused line why) e never = e
sink_stays old new (TooLong i) e never = e
sink_stays old new (Worn from to) e never = e
sink_stays old new (TraceRefused line why) e never = e
sink_stays old new (LabelsRefused line) e never = e
sink_stays old new NotFound e never = e
sink_stays old new Undecided e never = e

-- no write failed, and what the call ends with blames none
pub all_written : {K : Type 0} (k : SinkAround K) (s : Status) → k.faults k.new ≡ k.faults k.old → (s ≡ WriteFault → ⊥) → MeetsSink k s
all_written k s e never = record { blames = sink_stays (k.faults k.old) (k.faults k.new) s e never; last = λ f. absurd (never f); counts = omega (arith, e) }

-- nothing was written
pub unwritten : {K : Type 0} (k : SinkAround K) (s : Status) → k.new ≡ k.old → (s ≡ WriteFault → ⊥) → MeetsSink k s
unwritten k s e never = all_written k s (ap k.faults e) never

-- where nothing is asked for, no file is but these
pub asks_nothing : {F : Type 0} (names : Named) (f : ShelfAround F) → f.new ≡ f.old → ((name : List ℕ) → f.asked f.old name f.old) → Asks names f
asks_nothing Nothing f e nothing = e
asks_nothing (Alone which name) f e nothing = subst (λ x. f.asked f.old name x) (sym e) (nothing name)
asks_nothing (Both boot which name) f e nothing = inl (subst (λ x. f.asked f.old boot x) (sym e) (nothing boot))

-- nothing was read
pub unread : {F : Type 0} (names : Named) (f : ShelfAround F) (s : Status) → f.new ≡ f.old → Asks names f → ((i : Input) → s ≡ ReadFault i → ⊥) → MeetsShelf names f s
unread names f s e asks never = record {
  same = ap f.told e;
  blames = blames_nobody (f.faults f.old) (f.faults f.new) s (ap f.faults e) never;
  last = λ i h. absurd (never i h);
  counts = let x = ap f.faults e in omega (arith, x);
  asks = asks;
  fails = λ i h. absurd (never i h);
}

-- want of memory blames nobody
pub no_read : (lack : TheNoMemory) (i : Input) → NoMemory lack ≡ ReadFault i → ⊥
no_read lack i e = cc

pub no_write : (lack : TheNoMemory) → NoMemory lack ≡ WriteFault → ⊥
no_write lack e = cc

-- nothing was read for want of memory
pub lack_unread : {F K : Type 0} (names : Named) (a : Around F K) (world : Option World) (lack : TheNoMemory) → Untouched a world → ((name : List ℕ) → a.shelf.asked a.shelf.old name a.shelf.old) → MeetsShelf names a.shelf (NoMemory lack)
lack_unread names a world lack h nothing = unread names a.shelf (NoMemory lack) h.unread (asks_nothing names a.shelf h.unread nothing) (no_read lack)
