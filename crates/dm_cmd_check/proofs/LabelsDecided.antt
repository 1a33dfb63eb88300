-- Where no read and no write fails and memory is there, the files decide what `check` comes to on labels.
use Rattle.dm_cmd_check.proofs.Names.{◌≡◌, ◌⊎◌, inl, inr, ℕ, List, refl, ap, ap₂, sym, subst, ◌∙◌, Option, Some, Boot, RoseOrFull, appended, good_is, line_is, judged, Good, BlamesSink, IsWant, Status, Done, Usage, ReadFault, NoMemory}
use Rattle.dm_cmd_check.proofs.Names.{WriteFault, BootRefused, ScheduleRefused, TooLong, Worn, TraceRefused, LabelsRefused, NotFound, Undecided, Files, same_boot, some_one, Outside, HasLabels, LabelsSay, SaysLabels, good_labels_line}
use Rattle.dm_cmd_check.proofs.Names.{GivesLabels, LabelsAreDecided}
use Rattle.dm_labels.specs.declared.judge.Verdict.{Verdict}
use Rattle.dm_labels.specs.declared.judge.Verdict.TheVariants.{Refused}
use Rattle.dm_cmd_check.proofs.LabelOutcomes.{only_want}

good_or_refused : (n line : ℕ) → Good n ≡ Refused line → ⊥
good_or_refused n line e = cc

-- files say one system and the same labels, so one verdict
same_verdict : (boot labels : List ℕ) (told : Option Files) (files : Files) (b : Boot) (bytes : List ℕ) (v w : Verdict) → told ≡ Some files → HasLabels told boot labels b bytes → judged b bytes ≡ v → GivesLabels files boot labels w → v ≡ w
same_verdict boot labels told files b bytes v w is has e gives =
    let h : HasLabels (Some files) boot labels b bytes = subst (λ f. HasLabels f boot labels b bytes) is has in
    let boots : b ≡ gives.system = same_boot files boot boot b gives.system refl h.says_boot gives.has.says_boot in
    let same : bytes ≡ gives.bytes = some_one (files labels) bytes gives.bytes h.file.is gives.has.file.is in
    sym e ∙ ap₂ judged boots same ∙ gives.judged_so

accepts : (boot labels : List ℕ) (told : Option Files) (files : Files) (b : Boot) (bytes : List ℕ) (before after : Option (List ℕ)) (k k' : ℕ) (s : Status) (n : ℕ) → told ≡ Some files → HasLabels told boot labels b bytes → LabelsSay b bytes before after s
    → BlamesSink k k' s → GivesLabels files boot labels (Good n) → (RoseOrFull k k' → ⊥) → ((s ≡ Done) × (after ≡ appended before (good_labels_line n))) ⊎ IsWant s
accepts boot labels told files b bytes before after k k' Done n is has says sink gives quiet =
    let one : says.count ≡ n = good_is says.count n (same_verdict boot labels told files b bytes (Good says.count) (Good n) is has says.good gives) in
    inl (refl, says.written ∙ ap (λ n. appended before (good_labels_line n)) one)
accepts boot labels told files b bytes before after k k' (NoMemory lack) n is has says sink gives quiet = inr (lack, refl)
accepts boot labels told files b bytes before after k k' WriteFault n is has says sink gives quiet = absurd (quiet sink)
accepts boot labels told files b bytes before after k k' (LabelsRefused line) n is has says sink gives quiet =
    absurd (good_or_refused n line (sym (same_verdict boot labels told files b bytes (Refused line) (Good n) is has says.0 gives)))
accepts boot labels told files b bytes before after k k' Usage n is has says sink gives quiet = absurd says
accepts boot labels told files b bytes before after k k' (ReadFault i) n is has says sink gives quiet = absurd says
accepts boot labels told files b bytes before after k k' (BootRefused number place) n is has says sink gives quiet = absurd says
accepts boot labels told files b bytes before after k k' (ScheduleRefused line why) n is has says sink gives quiet = absurd says
accepts boot labels told files b bytes before after k k' (TooLong i) n is has says sink gives quiet = absurd says
accepts boot labels told files b bytes before after k k' (Worn from to) n is has says sink gives quiet = absurd says
accepts boot labels told files b bytes before after k k' (TraceRefused line why) n is has says sink gives quiet = absurd says
accepts boot labels told files b bytes before after k k' NotFound n is has says sink gives quiet = absurd says
accepts boot labels told files b bytes before after k k' Undecided n is has says sink gives quiet = absurd says

finds : (boot labels : List ℕ) (told : Option Files) (files : Files) (b : Boot) (bytes : List ℕ) (before after : Option (List ℕ)) (s : Status) (line : ℕ) → told ≡ Some files → HasLabels told boot labels b bytes → LabelsSay b bytes before after s
    → GivesLabels files boot labels (Refused line) → (s ≡ LabelsRefused line) ⊎ IsWant s
finds boot labels told files b bytes before after Done line is has says gives = absurd (good_or_refused says.count line (same_verdict boot labels told files b bytes (Good says.count) (Refused line) is has says.good gives))
finds boot labels told files b bytes before after (NoMemory lack) line is has says gives = inr (lack, refl)
finds boot labels told files b bytes before after WriteFault line is has says gives = absurd (good_or_refused says.count line (same_verdict boot labels told files b bytes (Good says.count) (Refused line) is has says.good gives))
finds boot labels told files b bytes before after (LabelsRefused l) line is has says gives =
    inl (ap (λ (n : ℕ). LabelsRefused n) (line_is l line (same_verdict boot labels told files b bytes (Refused l) (Refused line) is has says.0 gives)))
finds boot labels told files b bytes before after Usage line is has says gives = absurd says
finds boot labels told files b bytes before after (ReadFault i) line is has says gives = absurd says
finds boot labels told files b bytes before after (BootRefused number place) line is has says gives = absurd says
finds boot labels told files b bytes before after (ScheduleRefused l w) line is has says gives = absurd says
finds boot labels told files b bytes before after (TooLong i) line is has says gives = absurd says
finds boot labels told files b bytes before after (Worn from to) line is has says gives = absurd says
finds boot labels told files b bytes before after (TraceRefused l w) line is has says gives = absurd says
finds boot labels told files b bytes before after NotFound line is has says gives = absurd says
finds boot labels told files b bytes before after Undecided line is has says gives = absurd says

pub labels_decided : (boot labels : List ℕ) (o : Outside) (s : Status) → SaysLabels boot labels o s → BlamesSink o.writes_before o.writes_after s → LabelsAreDecided boot labels o s
labels_decided boot labels o s says sink = record {
  accepts = λ files n told gives never. elim says [
    | inl r ↦ accepts boot labels o.files files r.system r.bytes o.before o.after o.writes_before o.writes_after s n told r.has r.says sink gives never.writes
    | inr k ↦ inr (only_want boot labels o.files files o.reads_before o.reads_after gives.system gives.bytes s told k.why gives.has never.reads)
  ];
  finds = λ files line told gives quiet. elim says [
    | inl r ↦ finds boot labels o.files files r.system r.bytes o.before o.after s line told r.has r.says gives
    | inr k ↦ inr (only_want boot labels o.files files o.reads_before o.reads_after gives.system gives.bytes s told k.why gives.has quiet)
  ];
}
