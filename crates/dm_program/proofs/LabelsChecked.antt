-- The labels of what `run` writes, `check` finds good.
use Rattle.dm_program.proofs.Names.{◌≡◌, ◌⊎◌, inl, inr, ℕ, List, [], ◌∷◌, ◌++◌, length, refl, ap, sym, subst, ◌∙◌, Option, Some, All, All-cons, All-head, All-nil, All-tail, Boot, Directive, appended, Done, Status, AcceptsFiles, SaysBoot}
use Rattle.dm_program.proofs.Names.{IsWant, append-nil, Label, OneKernel, start, replay, EndLine, Line, end_lines, labels, joined, EndFits, LineFits, text_of_ends, text_of_lines, printed_are_good, Good, label_lines, text_of_labels, IsWhole}
use Rattle.dm_program.proofs.Names.{RunWears, HasLabels, NeverFails, Outside, GivesLabels, LabelsAreDecided, KeepsLabels, RunLabelsCheck, SaysLabelsAre, by_rule}
use Rattle.dm_line.specs.declared.line.Line.TheVariants as line

-- what is readable of all lines is so of the labels among them
labels_fit : (ls : List Line) → All LineFits ls → All LineFits (label_lines (labels ls))
labels_fit [] h = All-nil LineFits
labels_fit (line.Label x ∷ ls) h = All-cons LineFits (line.Label x) (label_lines (labels ls)) (All-head LineFits (line.Label x) ls h) (labels_fit ls (All-tail LineFits (line.Label x) ls h))
labels_fit (l ∷ ls) h = labels_fit ls (All-tail LineFits l ls h)

-- from nothing on, what was appended is what is there
from_nothing : (before after : Option (List ℕ)) (bytes : List ℕ) → before ≡ Some [] → after ≡ appended before bytes → after ≡ Some bytes
from_nothing before after bytes none written = written ∙ ap (λ (o : Option (List ℕ)). appended o bytes) none

-- labels that replay are said to be good, where they were kept
kept_are_good : (boot kept : List ℕ) (run check : Outside) (s : Status) (b : Boot) (lines : List Line) (ends : List EndLine) (end : OneKernel) (k : KeepsLabels boot kept run check) → SaysBoot (Some k.files) boot b
    → All LineFits lines → All EndFits ends → run.after ≡ appended run.before (text_of_lines lines ++ text_of_ends ends) → replay (start b) (labels lines) ≡ Some end → LabelsAreDecided boot kept check s → NeverFails check → SaysLabelsAre check s ⊎ IsWant s
kept_are_good boot kept run check s b lines ends end k says fits ends_fit written leads decided never =
    let bytes : List ℕ = text_of_labels (labels lines) in
    let there : k.later kept ≡ Some bytes = k.labels_are lines ends fits ends_fit (from_nothing run.before run.after (text_of_lines lines ++ text_of_ends ends) k.from_nothing written) in
    let has : HasLabels (Some k.later) boot kept b bytes =
    record {
      says_boot = record { bytes = says.bytes; file = record { is = k.boot_is ∙ says.file.is; within = says.file.within }; says = says.says };
      file = record { is = there; within = k.short bytes there };
    } in
    let gives : GivesLabels k.later boot kept (Good (length (labels lines))) = record { system = b; bytes = bytes; has = has; judged_so = printed_are_good b (labels lines) end (labels_fit lines fits) leads } in
    elim (decided.accepts k.later (length (labels lines)) k.at_check gives never) [
      | inl said ↦ inl (record { count = length (labels lines); done = said.0; said = said.1 })
      | inr want ↦ inr want
    ]

said_boot : (boot schedule kept : List ℕ) (run check : Outside) (b : Boot) (ds : List Directive) (k : KeepsLabels boot kept run check) → AcceptsFiles run.files boot schedule b ds → SaysBoot (Some k.files) boot b
said_boot boot schedule kept run check b ds k h = subst (λ (f : Option (List ℕ → Option (List ℕ))). SaysBoot f boot b) k.at_run h.says_boot

-- where a run stopped no lines stand at its end
no_ends : (t : List ℕ) → t ++ text_of_ends [] ≡ t
unfolding text_of_ends
no_ends t = append-nil t

pub run_labels_check : RunLabelsCheck
run_labels_check = record {
  done = λ boot schedule kept run check s says k decided never. elim says [
    | inl r ↦
        let w : IsWhole by_rule r.system r.directives run.before run.after run.world = r.says in
        kept_are_good boot kept run check s r.system (joined w.groups) (end_lines w.at.end) w.at.end.kernel k (said_boot boot schedule kept run check r.system r.directives k r.accepts) w.fits w.ends_fit w.written w.good.replays decided never
    | inr r ↦ absurd r.why
  ];
  worn = λ from to boot schedule kept run check s says k decided never. elim says [
    | inl r ↦
        let w : RunWears by_rule r.system r.directives run.before run.after from to = r.says in
        kept_are_good boot kept run check s r.system (joined w.groups) [] w.wears.at.end.kernel k (said_boot boot schedule kept run check r.system r.directives k r.accepts) w.fits (All-nil EndFits)
        (w.written ∙ ap (appended run.before) (sym (no_ends (text_of_lines (joined w.groups))))) w.wears.good.replays decided never
    | inr r ↦ absurd r.why
  ];
}
