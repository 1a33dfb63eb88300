-- What is seen where a run has come.
use Rattle.dm_run.proofs.Names.{◌≡◌, ◌≤◌, ℕ, Bool, ◌++◌, List, length, ap, sym, subst, ◌∙◌, inl, inr, Boot, Directive, Line, World, world_state, by_world}
use Rattle.dm_look.specs.LetterText.{text_of_letters}
use Rattle.dm_text.specs.Text.{text_of_ends, text_of_lines}
use Rattle.dm_world.specs.Ends.{end_lines}
use Rattle.dm_look.specs.Waiting.{AreLetters, waiting}
use Rattle.dm_look.specs.Groups.{IsThere, last_group}
use Rattle.dm_look.specs.Looked.{IsSeen, TellsLetters, held_by_world}
use Rattle.dm_look.specs.Names.{names_if}

-- the text of names, of a group, of where everything stands, and of what is in the messages
pub seen : (b : Boot) (ds : List Directive) (most : ℕ) (names : Bool) (head : List ℕ) (lines : List Line) (w : World) (text : List ℕ) → (h : IsThere b ds most lines w) → head ≡ names_if names b
    → TellsLetters (waiting (length w.boot.machines) (world_state w)) (head ++ text_of_lines lines ++ text_of_ends (end_lines w.boot (world_state w))) text → IsSeen by_world held_by_world b ds most names text
seen b ds most names head lines w text h named told =
    let come = h.come in
    record {
      groups = come.groups;
      at = record { way = h.way; steps = come.steps; state = world_state w };
      there = record {
        good = come.led;
        few = subst (λ k. k ≤ most) (sym come.kept.count_is) h.few;
        enough = elim h.enough [ inl all ↦ inl (come.kept.count_is ∙ all) | inr done ↦ inr done ];
      };
      letters = told.letters;
      holds = subst (λ (x : Boot). AreLetters (waiting (length x.machines) (world_state w)) told.letters) h.boot told.are;
      text_is = told.told
          ∙ ap (λ (ls : List Line). head ++ text_of_lines ls ++ text_of_ends (end_lines w.boot (world_state w)) ++ text_of_letters told.letters) come.kept.lines_are
          ∙ ap (λ (x : Boot). head ++ text_of_lines (last_group come.groups) ++ text_of_ends (end_lines x (world_state w)) ++ text_of_letters told.letters) h.boot
          ∙ ap (λ (t : List ℕ). t ++ text_of_lines (last_group come.groups) ++ text_of_ends (end_lines b (world_state w)) ++ text_of_letters told.letters) named;
    }
