-- Where no read and no write fails and memory is there, the files decide what `check` comes to on a trace.
use Rattle.dm_cmd_check.proofs.Names.{◌≡◌, ◌⊎◌, inl, inr, ℕ, Bool, true, false, List, refl, ap, ap₂, sym, subst, ◌∙◌, Option, Some, Boot, RoseOrFull, appended, number_of_trace_fault, good_verdict, Refused, Verdict, TraceFault, BlamesSink}
use Rattle.dm_cmd_check.proofs.Names.{IsWant, Status, Done, Usage, ReadFault, NoMemory, WriteFault, BootRefused, ScheduleRefused, TooLong, Worn, TraceRefused, LabelsRefused, NotFound, Undecided, Files, same_boot, some_one, Outside}
use Rattle.dm_cmd_check.proofs.Names.{CheckSays, HasTrace, SaysCheck, TraceMeans, good_line, CheckIsDecided, GivesGood, GivesRefused}
use Rattle.dm_cmd_check.proofs.CheckOutcomes.{only_want}

-- files say one system and one trace
record SaysSame (b c : Boot) (xs ys : List ℕ) : Type 0 where
  boots : b ≡ c
  bytes : xs ≡ ys

same_trace : (boot trace : List ℕ) (told : Option Files) (files : Files) (b c : Boot) (xs ys : List ℕ) → told ≡ Some files → HasTrace told boot trace b xs → HasTrace (Some files) boot trace c ys → SaysSame b c xs ys
same_trace boot trace told files b c xs ys is h k =
    let g : HasTrace (Some files) boot trace b xs = subst (λ f. HasTrace f boot trace b xs) is h in
    record { boots = same_boot files boot boot b c refl g.says_boot k.says_boot; bytes = some_one (files trace) xs ys g.file.is k.file.is }

same_line : (n m : ℕ) (e f : Bool) → good_verdict n e ≡ good_verdict m f → good_line n e ≡ good_line m f
same_line n m false false h = let g : n ≡ m = cc in ap (λ k. good_line k false) g
same_line n m true true h = let g : n ≡ m = cc in ap (λ k. good_line k true) g
same_line n m false true h = absurd (cc)
same_line n m true false h = absurd (cc)

-- a good verdict is no refusal
good_or_not : (n line : ℕ) (ended : Bool) (fault : TraceFault) → good_verdict n ended ≡ Refused line fault → ⊥
good_or_not n line false fault h = cc
good_or_not n line true fault h = cc

same_refusal : (line l : ℕ) (f g : TraceFault) → Refused line f ≡ Refused l g → TraceRefused line (number_of_trace_fault f) ≡ TraceRefused l (number_of_trace_fault g)
same_refusal line l f g h = let x : line ≡ l = cc in let y : f ≡ g = cc in ap₂ (λ (k : ℕ) (e : TraceFault). TraceRefused k (number_of_trace_fault e)) x y

-- a notion of traces decides: one verdict comes of a trace
pub record DecidesTraces (m : TraceMeans) : Type 0 where
  pub one : (b : Boot) (bytes : List ℕ) (v w : Verdict) → m.comes_to b bytes v → m.comes_to b bytes w → v ≡ w

-- what comes of the one comes of the other
moved : (m : TraceMeans) (b c : Boot) (xs ys : List ℕ) (v : Verdict) → SaysSame b c xs ys → m.comes_to b xs v → m.comes_to c ys v
moved m b c xs ys v same h = subst (λ (x : Boot). m.comes_to x ys v) same.boots (subst (λ (zs : List ℕ). m.comes_to b zs v) same.bytes h)

accepts : (m : TraceMeans) (boot trace : List ℕ) (told : Option Files) (files : Files) (b : Boot) (bytes : List ℕ) (before after : Option (List ℕ)) (k k' : ℕ) (s : Status) (groups : ℕ) (ended : Bool) → DecidesTraces m → told ≡ Some files → HasTrace told boot trace b bytes → CheckSays m b bytes before after s
    → BlamesSink k k' s → GivesGood m files boot trace groups ended → (RoseOrFull k k' → ⊥) → ((s ≡ Done) × (after ≡ appended before (good_line groups ended))) ⊎ IsWant s
accepts m boot trace told files b bytes before after k k' Done groups ended d is has says sink gives quiet =
    let same = same_trace boot trace told files b gives.system bytes gives.bytes is has gives.has in
    let one : good_verdict says.groups says.ended ≡ good_verdict groups ended = d.one gives.system gives.bytes _ _ (moved m b gives.system bytes gives.bytes _ same says.good.verdict) gives.good in
    inl (refl, says.written ∙ ap (appended before) (same_line says.groups groups says.ended ended one))
accepts m boot trace told files b bytes before after k k' (NoMemory lack) groups ended d is has says sink gives quiet = inr (lack, refl)
accepts m boot trace told files b bytes before after k k' WriteFault groups ended d is has says sink gives quiet = absurd (quiet sink)
accepts m boot trace told files b bytes before after k k' (TraceRefused line why) groups ended d is has says sink gives quiet =
    let same = same_trace boot trace told files b gives.system bytes gives.bytes is has gives.has in
    absurd (good_or_not groups line ended says.0.fault (d.one gives.system gives.bytes _ _ gives.good (moved m b gives.system bytes gives.bytes _ same says.0.refused)))
accepts m boot trace told files b bytes before after k k' Usage groups ended d is has says sink gives quiet = absurd says
accepts m boot trace told files b bytes before after k k' (ReadFault i) groups ended d is has says sink gives quiet = absurd says
accepts m boot trace told files b bytes before after k k' (BootRefused number place) groups ended d is has says sink gives quiet = absurd says
accepts m boot trace told files b bytes before after k k' (ScheduleRefused line why) groups ended d is has says sink gives quiet = absurd says
accepts m boot trace told files b bytes before after k k' (TooLong i) groups ended d is has says sink gives quiet = absurd says
accepts m boot trace told files b bytes before after k k' (Worn from to) groups ended d is has says sink gives quiet = absurd says
accepts m boot trace told files b bytes before after k k' (LabelsRefused line) groups ended d is has says sink gives quiet = absurd says
accepts m boot trace told files b bytes before after k k' NotFound groups ended d is has says sink gives quiet = absurd says
accepts m boot trace told files b bytes before after k k' Undecided groups ended d is has says sink gives quiet = absurd says

finds : (m : TraceMeans) (boot trace : List ℕ) (told : Option Files) (files : Files) (b : Boot) (bytes : List ℕ) (before after : Option (List ℕ)) (s : Status) (line why : ℕ) → DecidesTraces m → told ≡ Some files → HasTrace told boot trace b bytes → CheckSays m b bytes before after s
    → GivesRefused m files boot trace line why → (s ≡ TraceRefused line why) ⊎ IsWant s
finds m boot trace told files b bytes before after Done line why d is has says gives =
    let same = same_trace boot trace told files b gives.system bytes gives.bytes is has gives.has in
    absurd (good_or_not says.groups line says.ended gives.refused.fault (d.one gives.system gives.bytes _ _ (moved m b gives.system bytes gives.bytes _ same says.good.verdict) gives.refused.refused))
finds m boot trace told files b bytes before after (NoMemory lack) line why d is has says gives = inr (lack, refl)
finds m boot trace told files b bytes before after WriteFault line why d is has says gives =
    let same = same_trace boot trace told files b gives.system bytes gives.bytes is has gives.has in
    absurd (good_or_not says.groups line says.ended gives.refused.fault (d.one gives.system gives.bytes _ _ (moved m b gives.system bytes gives.bytes _ same says.good.verdict) gives.refused.refused))
finds m boot trace told files b bytes before after (TraceRefused l w) line why d is has says gives =
    let same = same_trace boot trace told files b gives.system bytes gives.bytes is has gives.has in
    let one : Refused l says.0.fault ≡ Refused line gives.refused.fault = d.one gives.system gives.bytes _ _ (moved m b gives.system bytes gives.bytes _ same says.0.refused) gives.refused.refused in
    inl (ap (λ x. TraceRefused l x) says.0.why_is ∙ same_refusal l line says.0.fault gives.refused.fault one ∙ ap (λ x. TraceRefused line x) (sym gives.refused.why_is))
finds m boot trace told files b bytes before after Usage line why d is has says gives = absurd says
finds m boot trace told files b bytes before after (ReadFault i) line why d is has says gives = absurd says
finds m boot trace told files b bytes before after (BootRefused number place) line why d is has says gives = absurd says
finds m boot trace told files b bytes before after (ScheduleRefused l w) line why d is has says gives = absurd says
finds m boot trace told files b bytes before after (TooLong i) line why d is has says gives = absurd says
finds m boot trace told files b bytes before after (Worn from to) line why d is has says gives = absurd says
finds m boot trace told files b bytes before after (LabelsRefused l) line why d is has says gives = absurd says
finds m boot trace told files b bytes before after NotFound line why d is has says gives = absurd says
finds m boot trace told files b bytes before after Undecided line why d is has says gives = absurd says

-- a trace
pub check_decided : (m : TraceMeans) (boot trace : List ℕ) (o : Outside) (s : Status) → DecidesTraces m → SaysCheck (CheckSays m) boot trace o s → BlamesSink o.writes_before o.writes_after s → CheckIsDecided m boot trace o s
check_decided m boot trace o s d says sink = record {
  accepts = λ files groups ended told gives never. elim says [
    | inl r ↦ accepts m boot trace o.files files r.system r.bytes o.before o.after o.writes_before o.writes_after s groups ended d told r.has r.says sink gives never.writes
    | inr n ↦ inr (only_want boot trace o.files files o.reads_before o.reads_after gives.system gives.bytes s told n.why gives.has never.reads)
  ];
  finds = λ files line why told gives quiet. elim says [
    | inl r ↦ finds m boot trace o.files files r.system r.bytes o.before o.after s line why d told r.has r.says gives
    | inr n ↦ inr (only_want boot trace o.files files o.reads_before o.reads_after gives.system gives.bytes s told n.why gives.has quiet)
  ];
}
