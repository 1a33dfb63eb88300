-- What the command `explore` promises is kept.
use Rattle.dm_cmd_explore.proofs.Names.{◌≡◌, ◌⊎◌, inl, inr, ℕ, true, false, List, length, refl, ap, sym, subst, ◌∙◌, Option, Some, IsValid, Boot, RoseOrFull, Answer, answer, Bounds, Question, ExploreIsWithin, Exploration, BlamesSink}
use Rattle.dm_cmd_explore.proofs.Names.{IsWant, Status, Done, Usage, ReadFault, NoMemory, WriteFault, BootRefused, ScheduleRefused, TooLong, Worn, TraceRefused, LabelsRefused, NotFound, Undecided, said_same, Kept, lack_unread, only_lack}
use Rattle.dm_cmd_explore.proofs.Names.{Alone, SaysBoot, Outside, outside, AnswerMeans, Answers, ExploreIsDecided, ExploreSays, SaysExplore, are_for, bounds_for, explore_promise, question_for, status_of_answer}
use Rattle.dm_ending.specs.declared.status.Input.TheVariants as input
use Rattle.dm_cmd_explore.proofs.Exploring.{explore_met, explore_never, explore_taken}

-- what an answer means decides which one it is
pub record DecidesAnswers (Means : AnswerMeans) : Type 0 where
  pub is : (b : Boot) (q : Bounds) (x : Question) (a : Answer) → Means b q x a → answer b q x ≡ a

-- exploring, where all that is named may be so, and where something may not
explored : (Means : AnswerMeans) (b : Boot) (line : Option (List ℕ)) (e : Exploration) (before after : Option (List ℕ)) (old new : ℕ) (s : Status) → DecidesAnswers Means → ExploreSays Means b line e before after s → BlamesSink old new s
    → are_for (length b.machines) e ≡ true → (RoseOrFull old new → ⊥)
    → (s ≡ status_of_answer (answer b (bounds_for e) (question_for line e))) ⊎ IsWant s
explored Means b line e before after old new Done d h k named q = inl (sym (ap status_of_answer (d.is b (bounds_for e) (question_for line e) _ h.1.means)))
explored Means b line e before after old new NotFound d h k named q = inl (sym (ap status_of_answer (d.is b (bounds_for e) (question_for line e) _ h.1.means)))
explored Means b line e before after old new Undecided d h k named q = inl (sym (ap status_of_answer (d.is b (bounds_for e) (question_for line e) _ h.means)))
explored Means b line e before after old new Usage d h k named q = let f : true ≡ false = sym named ∙ h.named in absurd cc
explored Means b line e before after old new (NoMemory lack) d h k named q = inr (lack, refl)
explored Means b line e before after old new WriteFault d h k named q = absurd (q k)
explored Means b line e before after old new (ReadFault i) d h k named q = absurd h
explored Means b line e before after old new (BootRefused number place) d h k named q = absurd h
explored Means b line e before after old new (ScheduleRefused l why) d h k named q = absurd h
explored Means b line e before after old new (TooLong i) d h k named q = absurd h
explored Means b line e before after old new (Worn from to) d h k named q = absurd h
explored Means b line e before after old new (TraceRefused l why) d h k named q = absurd h
explored Means b line e before after old new (LabelsRefused l) d h k named q = absurd h

misnamed : (Means : AnswerMeans) (b : Boot) (line : Option (List ℕ)) (e : Exploration) (before after : Option (List ℕ)) (old new : ℕ) (s : Status) → ExploreSays Means b line e before after s → BlamesSink old new s
    → are_for (length b.machines) e ≡ false → (RoseOrFull old new → ⊥) → (s ≡ Usage) ⊎ IsWant s
misnamed Means b line e before after old new Usage h k named q = inl refl
misnamed Means b line e before after old new (NoMemory lack) h k named q = inr (lack, refl)
misnamed Means b line e before after old new WriteFault h k named q = absurd (q k)
misnamed Means b line e before after old new Done h k named q = let f : true ≡ false = sym h.1.named ∙ named in absurd cc
misnamed Means b line e before after old new NotFound h k named q = let f : true ≡ false = sym h.1.named ∙ named in absurd cc
misnamed Means b line e before after old new Undecided h k named q = let f : true ≡ false = sym h.named ∙ named in absurd cc
misnamed Means b line e before after old new (ReadFault i) h k named q = absurd h
misnamed Means b line e before after old new (BootRefused number place) h k named q = absurd h
misnamed Means b line e before after old new (ScheduleRefused l why) h k named q = absurd h
misnamed Means b line e before after old new (TooLong i) h k named q = absurd h
misnamed Means b line e before after old new (Worn from to) h k named q = absurd h
misnamed Means b line e before after old new (TraceRefused l why) h k named q = absurd h
misnamed Means b line e before after old new (LabelsRefused l) h k named q = absurd h

explore_decided : (Means : AnswerMeans) (boot : List ℕ) (line : Option (List ℕ)) (e : Exploration) (o : Outside) (s : Status) → DecidesAnswers Means → SaysExplore Means boot line e o s → BlamesSink o.writes_before o.writes_after s → ExploreIsDecided boot line e o s
explore_decided Means boot line e o s d says sink = record {
  answers = λ files b told gives named never. elim says [
    | inl r ↦
        let same : r.system ≡ b = said_same boot o.files files r.system b told r.says_boot gives in
        explored Means b line e o.before o.after o.writes_before o.writes_after s d (subst (λ (x : Boot). ExploreSays Means x line e o.before o.after s) same r.says) sink named never.writes
    | inr n ↦ inr (only_lack boot o.files files o.reads_before o.reads_after b s told n.why gives never.reads)
  ];
  refuses = λ files b told gives named never. elim says [
    | inl r ↦
        let same : r.system ≡ b = said_same boot o.files files r.system b told r.says_boot gives in
        misnamed Means b line e o.before o.after o.writes_before o.writes_after s (subst (λ (x : Boot). ExploreSays Means x line e o.before o.after s) same r.says) sink named never.writes
    | inr n ↦ inr (only_lack boot o.files files o.reads_before o.reads_after b s told n.why gives never.reads)
  ];
}

pub explore_kept : (Means More : AnswerMeans) (boot : List ℕ) (line : Option (List ℕ)) (e : Exploration) → ExploreIsWithin e → DecidesAnswers More
    → ((b : Boot) → IsValid b → ExploreIsWithin e → (x : Answer) → are_for (length b.machines) e ≡ true → Answers Means b line e x → Answers More b line e x) → Kept (explore_promise Means boot line e) (explore_promise More boot line e)
explore_kept Means More boot line e within d more = record {
  carried = λ a world s h. explore_met Means More boot line e a world s more h;
  first = λ files s said h. h;
  lacks = λ a world lack h nothing. explore_never Means boot line e a world (NoMemory lack) within tt (lack_unread (Alone input.Boot boot) a world lack h nothing) h.unwritten h.no_world;
  silent = λ files lack said e. e;
  met = λ a world s h. h.met;
  taken = λ a world s h is. explore_taken Means boot line e a world s h is;
  decided = λ a world s h. explore_decided More boot line e (outside a world) s d h.says h.met.sink.blames;
}
