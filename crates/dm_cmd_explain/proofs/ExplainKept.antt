-- What the command `explain` promises is kept.
use Rattle.dm_cmd_explain.proofs.Names.{◌≡◌, inl, inr, ℕ, List, refl, sym, subst, ◌∙◌, Option, Some, None, World, Status, Done, NoMemory, Usage, WriteFault, Kept, lack_unread, perhaps_both, Around, ExplainMeets, NoInputs, explain_promise}
use Rattle.dm_cmd_explain.proofs.ExplainOutcomes.{never_meets, wants_memory}

-- words that were taken are not refused as words
explain_taken : {F K : Type 0} (boot : List ℕ) (schedule : Option (List ℕ)) (a : Around F K) (world : Option World) (s : Status) → ExplainMeets boot schedule a world s → s ≡ Usage → ⊥
explain_taken boot schedule a world s h e = elim h.as_run [
  | inl w ↦ let f : WriteFault ≡ Usage = sym w ∙ e in cc
  | inr b ↦ elim b [
    | inl done ↦ let f : Done ≡ Usage = sym done.0 ∙ e in cc
    | inr why ↦ unnamed (a.shelf.told a.shelf.old) boot schedule (a.shelf.faults a.shelf.old) (a.shelf.faults a.shelf.new) (subst (NoInputs (a.shelf.told a.shelf.old) boot schedule (a.shelf.faults a.shelf.old) (a.shelf.faults a.shelf.new)) e why)
  ]
]
  where
    unnamed : (files : Option (List ℕ → Option (List ℕ))) (boot : List ℕ) (schedule : Option (List ℕ)) (old new : ℕ) → NoInputs files boot schedule old new Usage → ⊥
    unnamed files boot None old new h = h
    unnamed files boot (Some schedule) old new h = h

-- it speaks of no machines, so there is one promise
pub explain_kept : (boot : List ℕ) (schedule : Option (List ℕ)) → Kept (explain_promise boot schedule) (explain_promise boot schedule)
explain_kept boot schedule = record {
  carried = λ a world s h. h;
  first = λ files s said h. h;
  lacks = λ a world lack h nothing.
      never_meets boot schedule a world (NoMemory lack) (wants_memory (a.shelf.told a.shelf.old) boot schedule (a.shelf.faults a.shelf.old) (a.shelf.faults a.shelf.new) lack) (lack_unread (perhaps_both boot schedule) a world lack h nothing) h.unwritten h.no_world;
  silent = λ files lack said e. e;
  met = λ a world s h. h.met;
  taken = λ a world s h e. explain_taken boot schedule a world s h e;
  decided = λ a world s h. tt;
}
