-- What exploring promises.
use Rattle.dm_cmd_explore.proofs.Names.{◌≡◌, inl, inr, ℕ, suc, true, false, List, length, refl, ap, sym, subst, ◌∙◌, Option, None, Some, Result, Ok, Err, ◌<◌, ◌+◌, Bool, [], ◌∷◌, arith, Boot, IsValid, World, Input, Status, Done, Usage}
use Rattle.dm_cmd_explore.proofs.Names.{ReadFault, NoMemory, WriteFault, BootRefused, ScheduleRefused, TooLong, Worn, TraceRefused, LabelsRefused, NoBoot, SaysBoot, appended, OnErr, OnOk, ◌&&◌, nat_lt, ⊤, map, zero, Failed, IsCutShort}
use Rattle.dm_cmd_explore.proofs.Names.{unless_failed, nat_tests, All, list_all, All-cons, All-nil, All-append, Step, WrittenMove, AllWent, AreAsked, IsRequest, Answer, Enough, Found, FoundAt, Looked, NoneWithin, Nothing, and_then, answer}
use Rattle.dm_cmd_explore.proofs.Names.{by_length, look_through, answer_text, Bounds, Question, finds, tried, ExploreIsWithin, Exploration, all_read, unwritten, one_lack, only_lack, Alone, AnswerMeans, Answers, ExploreMeets, ExploreSays}
use Rattle.dm_cmd_explore.proofs.Names.{GivesNone, IsOutside, RefusesNames, TellsOrNot, all_written, are_for, bounds_for, call_asked, is_move_for, is_name_for, move_asked, question_for, status_of_answer, MeetsShelf, MeetsSink, Around}
use Rattle.dm_cmd_explore.proofs.Names.{answered_by_world}
use Rattle.dm_ending.specs.declared.status.Input.TheVariants as input
use Rattle.dm_ending.specs.declared.status.Status.TheVariants as status
use Rattle.dm_explore.specs.Answers.{Undecided}

-- an answer speaks of the bounds that were asked for
abbrev pub IsWithinBounds : ℕ → ℕ → Answer → Type 0
IsWithinBounds depth most (Found es) = ⊤
IsWithinBounds depth most (NoneWithin d count) = d ≡ depth
IsWithinBounds depth most (Undecided n) = n ≡ most

then_within : (q : Bounds) (l : Looked) (next : ℕ → Answer) → ((left : ℕ) → IsWithinBounds q.depth q.most (next left)) → IsWithinBounds q.depth q.most (and_then q l next)
then_within q (FoundAt p) next h = tt
then_within q (Nothing left) next h = h left
then_within q Enough next h = refl

lengths_within : (b : Boot) (q : Bounds) (x : Question) (lengths n left : ℕ) → IsWithinBounds q.depth q.most (by_length b q x lengths n left)
lengths_within b q x zero n left = refl
lengths_within b q x (suc lengths) n left =
    then_within q (look_through (finds b x) left (tried b q n)) (λ rest. by_length b q x lengths (n + 1) rest) (λ rest. lengths_within b q x lengths (n + 1) rest)

pub answer_within : (b : Boot) (q : Bounds) (x : Question) (a : Answer) → answer b q x ≡ a → IsWithinBounds q.depth q.most a
answer_within b q x a is = subst (IsWithinBounds q.depth q.most) is (lengths_within b q x q.depth 1 q.most)

-- what is named of moves and callings off can be, and of processes that may be stuck
abbrev pub moves_fit : ℕ → Exploration → Bool
moves_fit machines e = list_all (is_move_for machines) (all_written e.moves) && list_all (is_move_for machines) (all_written e.call_offs)

abbrev pub stuck_fit : ℕ → Exploration → Bool
stuck_fit machines e = list_all (is_name_for machines) (all_written e.stuck)

-- what is asked for, once all that is named may be so
both_true : (a b : Bool) → (a && b) ≡ true → (a ≡ true) × (b ≡ true)
both_true true b e = (refl, e)
both_true false b e = cc

below : (m machines : ℕ) → nat_lt m machines ≡ true → m < machines
below m machines e = grind (arith, nat_tests)

move_machine : (machines : ℕ) (x : WrittenMove) → is_move_for machines x ≡ true → x.machine < machines
move_machine machines x e = below x.machine machines (both_true (is_name_for machines x.name) (nat_lt x.machine machines) e).1

requests_asked : (machines : ℕ) (ask : WrittenMove → Step) (xs : List WrittenMove) → ((x : WrittenMove) → x.machine < machines → IsRequest machines (ask x)) → list_all (is_move_for machines) xs ≡ true → All (IsRequest machines) (map ask xs)
requests_asked machines ask [] is e = All-nil (IsRequest machines)
requests_asked machines ask (x ∷ xs) is e =
    let h = both_true (is_move_for machines x) (list_all (is_move_for machines) xs) e in
    All-cons (IsRequest machines) (ask x) (map ask xs) (is x (move_machine machines x h.0)) (requests_asked machines ask xs is h.1)

pub asked_for : (machines : ℕ) (e : Exploration) → are_for machines e ≡ true → ExploreIsWithin e → AreAsked machines (bounds_for e)
asked_for machines e named within =
    let all = both_true (moves_fit machines e) (stuck_fit machines e) named in
    let moves = both_true (list_all (is_move_for machines) (all_written e.moves)) (list_all (is_move_for machines) (all_written e.call_offs)) all.0 in
    record {
      requests = All-append (IsRequest machines) (map move_asked (all_written e.moves)) (map call_asked (all_written e.call_offs))
          (requests_asked machines move_asked (all_written e.moves) (λ x h. h) moves.0) (requests_asked machines call_asked (all_written e.call_offs) (λ x h. h) moves.1);
      least = within.least;
      most = within.most;
    }

-- an answer of so many bounds that was written, or begun, or not
pub told : (Means : AnswerMeans) (b : Boot) (line : Option (List ℕ)) (e : Exploration) (before after : Option (List ℕ)) (a : Answer) (s : Status)
    → IsWithinBounds e.depth e.most a → are_for (length b.machines) e ≡ true → Answers Means b line e a → TellsOrNot before after a s → ExploreSays Means b line e before after s
told Means b line e before after a (NoMemory lack) within named means h = h
told Means b line e before after a WriteFault within named means h = record { answer = a; named = named; means = means; begun = h }
told Means b line e before after (Found es) Done within named means h = (es, record { named = named; means = means; written = h.1 })
told Means b line e before after (Found es) status.NotFound within named means h = absurd (let f : status.NotFound ≡ Done = h.0 in cc)
told Means b line e before after (Found es) status.Undecided within named means h = absurd (let f : status.Undecided ≡ Done = h.0 in cc)
told Means b line e before after (NoneWithin d count) status.NotFound within named means h =
    (count, record { named = named; means = subst (λ n. Answers Means b line e (NoneWithin n count)) within means; written = subst (λ n. after ≡ appended before (answer_text (NoneWithin n count))) within h.1 })
told Means b line e before after (NoneWithin d count) Done within named means h = absurd (let f : Done ≡ status.NotFound = h.0 in cc)
told Means b line e before after (NoneWithin d count) status.Undecided within named means h = absurd (let f : status.Undecided ≡ status.NotFound = h.0 in cc)
told Means b line e before after (Undecided n) status.Undecided within named means h =
    record { named = named; means = subst (λ m. Answers Means b line e (Undecided m)) within means; written = subst (λ m. after ≡ appended before (answer_text (Undecided m))) within h.1 }
told Means b line e before after (Undecided n) Done within named means h = absurd (let f : Done ≡ status.Undecided = h.0 in cc)
told Means b line e before after (Undecided n) status.NotFound within named means h = absurd (let f : status.NotFound ≡ status.Undecided = h.0 in cc)
told Means b line e before after a Usage within named means h = absurd h
told Means b line e before after a (ReadFault i) within named means h = absurd h
told Means b line e before after a (BootRefused number place) within named means h = absurd h
told Means b line e before after a (ScheduleRefused l why) within named means h = absurd h
told Means b line e before after a (TooLong i) within named means h = absurd h
told Means b line e before after a (Worn from to) within named means h = absurd h
told Means b line e before after a (TraceRefused l why) within named means h = absurd h
told Means b line e before after a (LabelsRefused l) within named means h = absurd h

-- it was written whole, or begun
written_so : (before after : Option (List ℕ)) (a : Answer) → after ≡ appended before (answer_text a) → TellsOrNot before after a (status_of_answer a)
written_so before after (Found es) h = (refl, h)
written_so before after (NoneWithin depth count) h = (refl, h)
written_so before after (Undecided most) h = (refl, h)

pub told_or_begun : {A : Type 0} (before after : Option (List ℕ)) (a : Answer) (wrote : Result A Failed) → OnOk wrote (after ≡ appended before (answer_text a)) → OnErr wrote (IsCutShort before (answer_text a) after)
    → TellsOrNot before after a (unless_failed wrote (status_of_answer a))
told_or_begun before after a (Ok done) whole cut = written_so before after a whole
told_or_begun before after a (Err failed) whole cut = cut

-- something is named that can't be
false_behind : (a b : Bool) → b ≡ false → (a && b) ≡ false
false_behind true b e = e
false_behind false b e = refl

pub no_move : (machines : ℕ) (e : Exploration) (s : Status) → IsOutside (moves_fit machines e) s → GivesNone machines e s
no_move machines e Usage h = ap (λ (b : Bool). b && stuck_fit machines e) h
no_move machines e (NoMemory lack) h = tt
no_move machines e Done h = absurd h
no_move machines e (ReadFault i) h = absurd h
no_move machines e WriteFault h = absurd h
no_move machines e (BootRefused number place) h = absurd h
no_move machines e (ScheduleRefused l why) h = absurd h
no_move machines e (TooLong i) h = absurd h
no_move machines e (Worn from to) h = absurd h
no_move machines e (TraceRefused l why) h = absurd h
no_move machines e (LabelsRefused l) h = absurd h
no_move machines e status.NotFound h = absurd h
no_move machines e status.Undecided h = absurd h

pub no_process : (machines : ℕ) (e : Exploration) (s : Status) → IsOutside (stuck_fit machines e) s → GivesNone machines e s
no_process machines e Usage h = false_behind (moves_fit machines e) (stuck_fit machines e) h
no_process machines e (NoMemory lack) h = tt
no_process machines e Done h = absurd h
no_process machines e (ReadFault i) h = absurd h
no_process machines e WriteFault h = absurd h
no_process machines e (BootRefused number place) h = absurd h
no_process machines e (ScheduleRefused l why) h = absurd h
no_process machines e (TooLong i) h = absurd h
no_process machines e (Worn from to) h = absurd h
no_process machines e (TraceRefused l why) h = absurd h
no_process machines e (LabelsRefused l) h = absurd h
no_process machines e status.NotFound h = absurd h
no_process machines e status.Undecided h = absurd h

-- all that is named can be
pub all_fit : (machines : ℕ) (e : Exploration) → moves_fit machines e ≡ true → stuck_fit machines e ≡ true → are_for machines e ≡ true
all_fit machines e moves stuck = ap (λ (b : Bool). b && stuck_fit machines e) moves ∙ stuck

-- bounds with these requests are those that were asked for
pub same_bounds : (e : Exploration) (rs : List Step) → rs ≡ (bounds_for e).requests → (record (bounds_for e) { requests = rs }) ≡ bounds_for e
same_bounds e rs is = ap (λ (xs : List Step). record (bounds_for e) { requests = xs }) is

pub asked_by : (machines : ℕ) (e : Exploration) (q : Bounds) → q ≡ bounds_for e → are_for machines e ≡ true → ExploreIsWithin e → AreAsked machines q
asked_by machines e q is named within = subst (AreAsked machines) (sym is) (asked_for machines e named within)

-- an answer of them is one of what was asked for
pub answered_so : (b : Boot) (line : Option (List ℕ)) (e : Exploration) (q : Bounds) (x : Question) (a : Answer) → q ≡ bounds_for e → x ≡ question_for line e → a ≡ answer b q x → AllWent b q a → Answers answered_by_world b line e a
answered_so b line e q x a bounds asked is went =
    subst (λ (k : Bounds). answered_by_world b k (question_for line e) a) bounds (subst (λ (y : Question). answered_by_world b q y a) asked (sym is, went))

-- no answer was given
pub none_told : (Means : AnswerMeans) (b : Boot) (line : Option (List ℕ)) (e : Exploration) (told : Option (List ℕ)) (s : Status) → GivesNone (length b.machines) e s → ExploreSays Means b line e told told s
none_told Means b line e told Usage h = record { named = h; nothing = refl }
none_told Means b line e told (NoMemory lack) h = refl
none_told Means b line e told Done h = absurd h
none_told Means b line e told (ReadFault i) h = absurd h
none_told Means b line e told WriteFault h = absurd h
none_told Means b line e told (BootRefused number place) h = absurd h
none_told Means b line e told (ScheduleRefused l why) h = absurd h
none_told Means b line e told (TooLong i) h = absurd h
none_told Means b line e told (Worn from to) h = absurd h
none_told Means b line e told (TraceRefused l why) h = absurd h
none_told Means b line e told (LabelsRefused l) h = absurd h
none_told Means b line e told status.NotFound h = absurd h
none_told Means b line e told status.Undecided h = absurd h

pub none_writes : (machines : ℕ) (e : Exploration) (s : Status) → GivesNone machines e s → s ≡ WriteFault → ⊥
none_writes machines e s h is = subst (GivesNone machines e) is h

-- none says of a read that it failed, and none that the boot file is refused
pub never_read : (Means : AnswerMeans) (b : Boot) (line : Option (List ℕ)) (e : Exploration) (before after : Option (List ℕ)) (i : Input) → ExploreSays Means b line e before after (ReadFault i) → ⊥
never_read Means b line e before after i h = h

pub never_refused : (Means : AnswerMeans) (b : Boot) (line : Option (List ℕ)) (e : Exploration) (before after : Option (List ℕ)) (number place : ℕ) → ExploreSays Means b line e before after (BootRefused number place) → ⊥
never_refused Means b line e before after number place h = h

-- the file gives a system, and something was done with it that reads nothing
pub explore_meets : {F K : Type 0} (Means : AnswerMeans) (boot : List ℕ) (line : Option (List ℕ)) (e : Exploration) (a : Around F K) (s : Status) (b : Boot) → ExploreIsWithin e → SaysBoot (a.shelf.told a.shelf.old) boot b → IsValid b → MeetsShelf (Alone input.Boot boot) a.shelf Done
    → ExploreSays Means b line e (a.sink.told a.sink.old) (a.sink.told a.sink.new) s → MeetsSink a.sink s → ExploreMeets Means boot line e a None s
explore_meets Means boot line e a s b within says_boot valid shelf says sink = record {
  within = within;
  says = inl (record { system = b; says_boot = says_boot; valid = valid; says = says });
  refuses = λ files due told why some quiet. absurd (some (only_lack boot (Some files) files _ _ b due refl why (subst (λ f. SaysBoot f boot b) told says_boot) quiet));
  no_world = refl;
  met = record {
    shelf = all_read (Alone input.Boot boot) a.shelf s shelf (λ i is. subst (λ (x : Status). ExploreSays Means b line e (a.sink.told a.sink.old) (a.sink.told a.sink.new) x) is says);
    sink = sink;
  };
}

-- it doesn't, and nothing was done
pub explore_never : {F K : Type 0} (Means : AnswerMeans) (boot : List ℕ) (line : Option (List ℕ)) (e : Exploration) (a : Around F K) (world : Option World) (s : Status) → ExploreIsWithin e → NoBoot (a.shelf.told a.shelf.old) boot (a.shelf.faults a.shelf.old) (a.shelf.faults a.shelf.new) s
    → MeetsShelf (Alone input.Boot boot) a.shelf s → a.sink.new ≡ a.sink.old → world ≡ None → ExploreMeets Means boot line e a world s
explore_never Means boot line e a world s within why shelf same no_world = record {
  within = within;
  says = inr (record { why = why; nothing = ap a.sink.told same; no_world = no_world });
  refuses = λ files due told other some quiet. one_lack boot (a.shelf.told a.shelf.old) files _ _ due s told why other some quiet;
  no_world = no_world;
  met = record { shelf = shelf; sink = unwritten a.sink s same (λ is. subst (λ (x : Status). NoBoot (a.shelf.told a.shelf.old) boot (a.shelf.faults a.shelf.old) (a.shelf.faults a.shelf.new) x) is why) };
}

-- words are refused only for a name that can't be in the system
pub explore_taken : {F K : Type 0} (Means : AnswerMeans) (boot : List ℕ) (line : Option (List ℕ)) (e : Exploration) (a : Around F K) (world : Option World) (s : Status) → ExploreMeets Means boot line e a world s → s ≡ Usage → RefusesNames (a.shelf.told a.shelf.old) boot e
explore_taken Means boot line e a world s h is = elim h.says [
  | inl k ↦ record { system = k.system; says_boot = k.says_boot; named = (subst (ExploreSays Means k.system line e (a.sink.told a.sink.old) (a.sink.told a.sink.new)) is k.says).named }
  | inr n ↦ absurd (subst (NoBoot (a.shelf.told a.shelf.old) boot (a.shelf.faults a.shelf.old) (a.shelf.faults a.shelf.new)) is n.why)
]

-- what an answer means is carried to what another one says
pub explore_said : (Means More : AnswerMeans) (b : Boot) (line : Option (List ℕ)) (e : Exploration) (before after : Option (List ℕ)) (s : Status)
    → ((a : Answer) → are_for (length b.machines) e ≡ true → Answers Means b line e a → Answers More b line e a) → ExploreSays Means b line e before after s → ExploreSays More b line e before after s
explore_said Means More b line e before after Done more h = (h.0, record { named = h.1.named; means = more _ h.1.named h.1.means; written = h.1.written })
explore_said Means More b line e before after status.NotFound more h = (h.0, record { named = h.1.named; means = more _ h.1.named h.1.means; written = h.1.written })
explore_said Means More b line e before after status.Undecided more h = record { named = h.named; means = more _ h.named h.means; written = h.written }
explore_said Means More b line e before after Usage more h = h
explore_said Means More b line e before after (NoMemory lack) more h = h
explore_said Means More b line e before after WriteFault more h = record { answer = h.answer; named = h.named; means = more _ h.named h.means; begun = h.begun }
explore_said Means More b line e before after (ReadFault i) more h = absurd h
explore_said Means More b line e before after (BootRefused number place) more h = absurd h
explore_said Means More b line e before after (ScheduleRefused l why) more h = absurd h
explore_said Means More b line e before after (TooLong i) more h = absurd h
explore_said Means More b line e before after (Worn from to) more h = absurd h
explore_said Means More b line e before after (TraceRefused l why) more h = absurd h
explore_said Means More b line e before after (LabelsRefused l) more h = absurd h

pub explore_met : {F K : Type 0} (Means More : AnswerMeans) (boot : List ℕ) (line : Option (List ℕ)) (e : Exploration) (a : Around F K) (world : Option World) (s : Status)
    → ((b : Boot) → IsValid b → ExploreIsWithin e → (x : Answer) → are_for (length b.machines) e ≡ true → Answers Means b line e x → Answers More b line e x) → ExploreMeets Means boot line e a world s → ExploreMeets More boot line e a world s
explore_met Means More boot line e a world s more h = record {
  within = h.within;
  says = elim h.says [
    | inl k ↦ inl (record { system = k.system; says_boot = k.says_boot; valid = k.valid; says = explore_said Means More k.system line e _ _ s (more k.system k.valid h.within) k.says })
    | inr n ↦ inr n
  ];
  refuses = h.refuses;
  no_world = h.no_world;
  met = h.met;
}
