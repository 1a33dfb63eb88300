-- Files say one thing: why there is no run is a function of them, where no read fails and memory is there.
use Rattle.dm_front.proofs.Names.{◌≡◌, ◌⊎◌, inl, inr, ◌≤◌, ◌<◌, ℕ, true, false, List, length, refl, ap, ap₂, sym, subst, ◌∙◌, cond, arith, Option, Some, Result, Ok, Err, None, nat_lt, nat_tests, Boot, BootRule, rule_number, Directive}
use Rattle.dm_front.proofs.Names.{Schedule, Accepted, Refused, RoseOrFull, Status, Done, Usage, ReadFault, NoMemory, WriteFault, BootRefused, ScheduleRefused, TooLong, Worn, TraceRefused, LabelsRefused, NotFound, Undecided, AcceptsFiles}
use Rattle.dm_front.proofs.Names.{AfterBoot, HasFile, NoFiles, RefusesBoot, RefusesSchedule, SaysBoot, SaysDirectives, most_boot, most_schedule, IsLonger, IsWant, boot_of, directives_of, number_of_fault}
use Rattle.dm_ending.specs.declared.status.Input.TheVariants as input

abbrev pub Files : Type 0
Files = List ℕ → Option (List ℕ)

-- what a boot file's bytes come to, and what is done with its system
abbrev pub boot_read : Result Boot (BootRule × ℕ) → (Boot → Status) → Status
boot_read (Ok b) k = k b
boot_read (Err e) k = BootRefused (rule_number e.0) e.1

abbrev pub boot_part : Option (List ℕ) → (Boot → Status) → Status
boot_part None k = Usage
boot_part (Some bytes) k = cond (nat_lt most_boot (length bytes)) (TooLong input.Boot) (boot_read (boot_of bytes) k)

-- what a schedule's bytes come to, and what is done with its directives
abbrev pub schedule_read : Schedule → (List Directive → Status) → Status
schedule_read (Accepted ds) k = k ds
schedule_read (Refused line fault) k = ScheduleRefused line (number_of_fault fault)

abbrev pub schedule_part : Option (List ℕ) → ℕ → (List Directive → Status) → Status
schedule_part None machines k = Usage
schedule_part (Some bytes) machines k = cond (nat_lt most_schedule (length bytes)) (TooLong input.Schedule) (schedule_read (directives_of bytes machines) k)

-- directives that are read make a run
abbrev pub last_part : List Directive → Status
last_part ds = Done

-- why two files give no run
abbrev pub outcome : Files → List ℕ → List ℕ → Status
outcome files boot schedule = boot_part (files boot) (λ b. schedule_part (files schedule) (length b.machines) last_part)

pub above : (a b : ℕ) → a < b → nat_lt a b ≡ true
above a b h = grind (arith, nat_tests)

pub not_above : (a b : ℕ) → b ≤ a → nat_lt a b ≡ false
not_above a b h = grind (arith, nat_tests)

pub long_boot : (files : Files) (boot : List ℕ) (k : Boot → Status) → IsLonger (Some files) boot most_boot → boot_part (files boot) k ≡ TooLong input.Boot
long_boot files boot k h =
    ap (λ o. boot_part o k) h.1 ∙ ap (λ t. cond t (TooLong input.Boot) (boot_read (boot_of h.0) k)) (above most_boot (length h.0) h.2)

read_boot_file : (files : Files) (boot bytes : List ℕ) (r : Result Boot (BootRule × ℕ)) (k : Boot → Status) → HasFile (Some files) boot most_boot bytes → boot_of bytes ≡ r → boot_part (files boot) k ≡ boot_read r k
read_boot_file files boot bytes r k h e =
    ap (λ o. boot_part o k) h.is
    ∙ ap (λ t. cond t (TooLong input.Boot) (boot_read (boot_of bytes) k)) (not_above most_boot (length bytes) h.within)
    ∙ ap (λ x. boot_read x k) e

pub refused_boot : (files : Files) (boot : List ℕ) (number place : ℕ) (k : Boot → Status) → RefusesBoot (Some files) boot number place → boot_part (files boot) k ≡ BootRefused number place
refused_boot files boot number place k h = read_boot_file files boot h.bytes (Err (h.rule, place)) k h.file h.refused ∙ ap (λ n. BootRefused n place) (sym h.number_is)

pub said_boot : (files : Files) (boot : List ℕ) (b : Boot) (k : Boot → Status) → SaysBoot (Some files) boot b → boot_part (files boot) k ≡ k b
said_boot files boot b k h = read_boot_file files boot h.bytes (Ok b) k h.file h.says

long_schedule : (files : Files) (schedule : List ℕ) (machines : ℕ) (k : List Directive → Status) → IsLonger (Some files) schedule most_schedule → schedule_part (files schedule) machines k ≡ TooLong input.Schedule
long_schedule files schedule machines k h =
    ap (λ o. schedule_part o machines k) h.1
    ∙ ap (λ t. cond t (TooLong input.Schedule) (schedule_read (directives_of h.0 machines) k)) (above most_schedule (length h.0) h.2)

read_schedule_file : (files : Files) (schedule bytes : List ℕ) (machines : ℕ) (r : Schedule) (k : List Directive → Status) → HasFile (Some files) schedule most_schedule bytes → directives_of bytes machines ≡ r → schedule_part (files schedule) machines k ≡ schedule_read r k
read_schedule_file files schedule bytes machines r k h e =
    ap (λ o. schedule_part o machines k) h.is
    ∙ ap (λ t. cond t (TooLong input.Schedule) (schedule_read (directives_of bytes machines) k)) (not_above most_schedule (length bytes) h.within)
    ∙ ap (λ x. schedule_read x k) e

refused_schedule : (files : Files) (schedule : List ℕ) (machines line why : ℕ) (k : List Directive → Status) → RefusesSchedule (Some files) schedule machines line why → schedule_part (files schedule) machines k ≡ ScheduleRefused line why
refused_schedule files schedule machines line why k h =
    read_schedule_file files schedule h.bytes machines (Refused line h.fault) k h.file h.refused ∙ ap (λ w. ScheduleRefused line w) (sym h.why_is)

said_directives : (files : Files) (schedule : List ℕ) (machines : ℕ) (ds : List Directive) (k : List Directive → Status) → SaysDirectives (Some files) schedule machines ds → schedule_part (files schedule) machines k ≡ k ds
said_directives files schedule machines ds k h = read_schedule_file files schedule h.bytes machines (Accepted ds) k h.file h.says

-- files that say a system and directives
pub said_files : (files : Files) (boot schedule : List ℕ) (b : Boot) (ds : List Directive) → AcceptsFiles (Some files) boot schedule b ds → outcome files boot schedule ≡ Done
said_files files boot schedule b ds h =
    said_boot files boot b (λ x. schedule_part (files schedule) (length x.machines) last_part) h.says_boot
    ∙ said_directives files schedule (length b.machines) ds last_part h.says_directives

bad_schedule : (files : Files) (boot schedule : List ℕ) (line why : ℕ) → AfterBoot (Some files) boot (λ machines. RefusesSchedule (Some files) schedule machines line why) → outcome files boot schedule ≡ ScheduleRefused line why
bad_schedule files boot schedule line why h =
    said_boot files boot h.b (λ x. schedule_part (files schedule) (length x.machines) last_part) h.says
    ∙ refused_schedule files schedule (length h.b.machines) line why last_part h.holds

late_schedule : (files : Files) (boot schedule : List ℕ) → AfterBoot (Some files) boot (λ machines. IsLonger (Some files) schedule most_schedule) → outcome files boot schedule ≡ TooLong input.Schedule
late_schedule files boot schedule h =
    said_boot files boot h.b (λ x. schedule_part (files schedule) (length x.machines) last_part) h.says
    ∙ long_schedule files schedule (length h.b.machines) last_part h.holds

-- why files give no run is their outcome
pub no_files : (files : Files) (boot schedule : List ℕ) (old new : ℕ) (s : Status) → (RoseOrFull old new → ⊥) → (IsWant s → ⊥) → NoFiles (Some files) boot schedule old new s → outcome files boot schedule ≡ s
no_files files boot schedule old new Done quiet some h = absurd h
no_files files boot schedule old new Usage quiet some h = absurd h
no_files files boot schedule old new (ReadFault input.Boot) quiet some h = absurd (quiet h)
no_files files boot schedule old new (ReadFault input.Schedule) quiet some h = absurd (quiet h.holds)
no_files files boot schedule old new (ReadFault input.Trace) quiet some h = absurd h
no_files files boot schedule old new (ReadFault input.Labels) quiet some h = absurd h
no_files files boot schedule old new (NoMemory lack) quiet some h = absurd (some (lack, refl))
no_files files boot schedule old new WriteFault quiet some h = absurd h
no_files files boot schedule old new (BootRefused number place) quiet some h = refused_boot files boot number place _ h
no_files files boot schedule old new (ScheduleRefused line why) quiet some h = bad_schedule files boot schedule line why h
no_files files boot schedule old new (TooLong input.Boot) quiet some h = long_boot files boot _ h
no_files files boot schedule old new (TooLong input.Schedule) quiet some h = late_schedule files boot schedule h
no_files files boot schedule old new (TooLong input.Trace) quiet some h = absurd h
no_files files boot schedule old new (TooLong input.Labels) quiet some h = absurd h
no_files files boot schedule old new (Worn from to) quiet some h = absurd h
no_files files boot schedule old new (TraceRefused line why) quiet some h = absurd h
no_files files boot schedule old new (LabelsRefused line) quiet some h = absurd h
no_files files boot schedule old new NotFound quiet some h = absurd h
no_files files boot schedule old new Undecided quiet some h = absurd h

-- a status is want of memory, or isn't
pub want_or_not : (s : Status) → IsWant s ⊎ (IsWant s → ⊥)
want_or_not (NoMemory lack) = inl (lack, refl)
want_or_not Done = inr (λ w. let e : Done ≡ NoMemory w.0 = w.1 in cc)
want_or_not Usage = inr (λ w. let e : Usage ≡ NoMemory w.0 = w.1 in cc)
want_or_not (ReadFault i) = inr (λ w. let e : ReadFault i ≡ NoMemory w.0 = w.1 in cc)
want_or_not WriteFault = inr (λ w. let e : WriteFault ≡ NoMemory w.0 = w.1 in cc)
want_or_not (BootRefused number place) = inr (λ w. let e : BootRefused number place ≡ NoMemory w.0 = w.1 in cc)
want_or_not (ScheduleRefused line why) = inr (λ w. let e : ScheduleRefused line why ≡ NoMemory w.0 = w.1 in cc)
want_or_not (TooLong i) = inr (λ w. let e : TooLong i ≡ NoMemory w.0 = w.1 in cc)
want_or_not (Worn from to) = inr (λ w. let e : Worn from to ≡ NoMemory w.0 = w.1 in cc)
want_or_not (TraceRefused line why) = inr (λ w. let e : TraceRefused line why ≡ NoMemory w.0 = w.1 in cc)
want_or_not (LabelsRefused line) = inr (λ w. let e : LabelsRefused line ≡ NoMemory w.0 = w.1 in cc)
want_or_not NotFound = inr (λ w. let e : NotFound ≡ NoMemory w.0 = w.1 in cc)
want_or_not Undecided = inr (λ w. let e : Undecided ≡ NoMemory w.0 = w.1 in cc)

-- two reasons why there is no run are one, unless one of them is want of memory
pub one_reason : (boot schedule : List ℕ) (told : Option Files) (files : Files) (old new : ℕ) (s t : Status) → told ≡ Some files → NoFiles told boot schedule old new t → NoFiles (Some files) boot schedule old new s → (IsWant s → ⊥) → (RoseOrFull old new → ⊥) → (t ≡ s) ⊎ IsWant t
one_reason boot schedule told files old new s t is h g some quiet = elim (want_or_not t) [
  | inl want ↦ inr want
  | inr other ↦ inl (sym (no_files files boot schedule old new t quiet other (subst (λ f. NoFiles f boot schedule old new t) is h)) ∙ no_files files boot schedule old new s quiet some g)
]

-- where files are accepted, only want of memory comes before the run
pub only_want : (boot schedule : List ℕ) (told : Option Files) (files : Files) (old new : ℕ) (b : Boot) (ds : List Directive) (t : Status) → told ≡ Some files → NoFiles told boot schedule old new t → AcceptsFiles (Some files) boot schedule b ds → (RoseOrFull old new → ⊥) → IsWant t
only_want boot schedule told files old new b ds t is h a quiet = elim (want_or_not t) [
  | inl want ↦ want
  | inr other ↦
      let k : NoFiles (Some files) boot schedule old new t = subst (λ f. NoFiles f boot schedule old new t) is h in
      absurd (subst (NoFiles (Some files) boot schedule old new) (sym (no_files files boot schedule old new t quiet other k) ∙ said_files files boot schedule b ds a) k)
]

-- and files that are accepted say one system and one list of directives
pub record SaysSame (b c : Boot) (ds es : List Directive) : Type 0 where
  pub boots : b ≡ c
  pub directives : ds ≡ es

pub some_one : {A : Type 0} (o : Option A) (x y : A) → o ≡ Some x → o ≡ Some y → x ≡ y
some_one o x y e f = let g : Some x ≡ Some y = sym e ∙ f in cc

abbrev boot_or : Boot → Result Boot (BootRule × ℕ) → Boot
boot_or d (Ok x) = x
boot_or d (Err e) = d

ok_one : (r : Result Boot (BootRule × ℕ)) (x y : Boot) → r ≡ Ok x → r ≡ Ok y → x ≡ y
ok_one r x y e f = let g : boot_or x (Ok x) ≡ boot_or x (Ok y) = ap (boot_or x) (sym e ∙ f) in g

accepted_one : (s : Schedule) (x y : List Directive) → s ≡ Accepted x → s ≡ Accepted y → x ≡ y
accepted_one s x y e f = let g : Accepted x ≡ Accepted y = sym e ∙ f in cc

pub same_boot : (files : Files) (x y : List ℕ) (b c : Boot) → x ≡ y → SaysBoot (Some files) x b → SaysBoot (Some files) y c → b ≡ c
same_boot files x y b c e h k =
    let bytes : h.bytes ≡ k.bytes = some_one (files x) h.bytes k.bytes h.file.is (ap files e ∙ k.file.is) in
    ok_one (boot_of h.bytes) b c h.says (ap boot_of bytes ∙ k.says)

same_directives : (files : Files) (x y : List ℕ) (m n : ℕ) (ds es : List Directive) → x ≡ y → m ≡ n → SaysDirectives (Some files) x m ds → SaysDirectives (Some files) y n es → ds ≡ es
same_directives files x y m n ds es e f h k =
    let bytes : h.bytes ≡ k.bytes = some_one (files x) h.bytes k.bytes h.file.is (ap files e ∙ k.file.is) in
    accepted_one (directives_of h.bytes m) ds es h.says (ap₂ directives_of bytes f ∙ k.says)

pub same_inputs : (boot schedule : List ℕ) (told : Option Files) (files : Files) (b c : Boot) (ds es : List Directive) → told ≡ Some files → AcceptsFiles told boot schedule b ds → AcceptsFiles (Some files) boot schedule c es → SaysSame b c ds es
same_inputs boot schedule told files b c ds es is h k =
    let g : AcceptsFiles (Some files) boot schedule b ds = subst (λ f. AcceptsFiles f boot schedule b ds) is h in
    let boots : b ≡ c = same_boot files boot boot b c refl g.says_boot k.says_boot in
    record {
      boots = boots;
      directives = same_directives files schedule schedule (length b.machines) (length c.machines) ds es refl (ap (λ (x : Boot). length x.machines) boots) g.says_directives k.says_directives;
    }
