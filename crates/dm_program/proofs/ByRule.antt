-- What the program promises, whatever its words ask for.
use Rattle.dm_program.proofs.Names.{◌≡◌, inl, inr, ℕ, List, [], refl, sym, subst, ◌∙◌, Option, Some, None, TheNoMemory, Status, NoMemory, ReadFault, Usage, WriteFault, Fits, status_of_no, Request, WordsError, World, no_read, no_write}
use Rattle.dm_program.proofs.Names.{unread, unwritten, Files, Nothing, MeetsOutside, Around, Untouched, RefusesWords, of_world, promised, ProgramMeets, of_rule}
use Rattle.dm_words.specs.declared.words.WordsError.TheVariants as why
use Rattle.dm_program.proofs.Kept.{kept}

-- words that ask for nothing ask for no file
nothing_met : {F K : Type 0} (a : Around F K) (world : Option World) (s : Status) → RefusesWords a world s → MeetsOutside Nothing a s
nothing_met a world s h = record {
  shelf = unread Nothing a.shelf s h.untouched.unread h.untouched.unread (λ i e. elim h.why [ inl usage ↦ let f : Usage ≡ ReadFault i = sym usage ∙ e in cc | inr want ↦ no_read want.0 i (sym want.1 ∙ e) ]);
  sink = unwritten a.sink s h.untouched.unwritten (λ e. elim h.why [ inl usage ↦ let f : Usage ≡ WriteFault = sym usage ∙ e in cc | inr want ↦ no_write want.0 (sym want.1 ∙ e) ]);
}

-- what was done as the machines have it was done as the rule has it
pub program_meets : {F K : Type 0} (r : Option Request) (a : Around F K) (world : Option World) (s : Status) → Fits r → (promised of_world r).meets a world s → ProgramMeets r a world s
program_meets None a world s fits h = record { does = h; decided = tt; met = nothing_met a world s h }
program_meets (Some r) a world s fits h =
    let k = kept r fits in
    let does = k.carried a world s h in
    record { does = does; decided = k.decided a world s does; met = k.met a world s does }

-- nothing was done for want of memory
pub program_lacks : {F K : Type 0} (r : Option Request) (a : Around F K) (world : Option World) (lack : TheNoMemory) → Fits r → Untouched a world → ((name : List ℕ) → a.shelf.asked a.shelf.old name a.shelf.old) → ProgramMeets r a world (NoMemory lack)
program_lacks None a world lack fits untouched nothing = program_meets None a world (NoMemory lack) fits (record { why = inr (lack, refl); untouched = untouched })
program_lacks (Some r) a world lack fits untouched nothing = program_meets (Some r) a world (NoMemory lack) fits ((kept r fits).lacks a world lack untouched nothing)

-- the words ask for nothing, or memory lacks
pub no_request : {F K : Type 0} (r : Option Request) (a : Around F K) (world : Option World) (reason : WordsError) → Fits r → Untouched a world → ((name : List ℕ) → a.shelf.asked a.shelf.old name a.shelf.old) → (reason ≡ why.Usage → r ≡ None) → ProgramMeets r a world (status_of_no reason)
no_request r a world why.Usage fits h nothing usage =
    subst (λ x. ProgramMeets x a world Usage) (sym (usage refl)) (program_meets None a world Usage tt (record { why = inl refl; untouched = h }))
no_request r a world (why.NoMemory lack) fits h nothing usage = program_lacks r a world lack fits h nothing

-- then nothing is said of a file
pub silent_lack : (r : Option Request) (files : Option Files) (lack : TheNoMemory) (said : List ℕ) → Fits r → said ≡ [] → (promised of_rule r).first files (NoMemory lack) said
silent_lack None files lack said fits none = none
silent_lack (Some r) files lack said fits none = (kept r fits).silent files lack said none

pub silent_words : (r : Option Request) (files : Option Files) (reason : WordsError) (said : List ℕ) → Fits r → (reason ≡ why.Usage → r ≡ None) → said ≡ [] → (promised of_rule r).first files (status_of_no reason) said
silent_words r files why.Usage said fits usage none = subst (λ x. (promised of_rule x).first files Usage said) (sym (usage refl)) none
silent_words r files (why.NoMemory lack) said fits usage none = silent_lack r files lack said fits none

-- words are refused as such
pub words_usage : (reason : WordsError) → status_of_no reason ≡ Usage → reason ≡ why.Usage
words_usage why.Usage e = refl
words_usage (why.NoMemory lack) e = cc
