-- There are no words.
use Rattle.dm_program.proofs.Names.{◌≡◌, ℕ, List, sym, ◌∙◌, Option, World, WordsError, status_of_no, Input, Status, Usage, ReadFault, NoMemory, WriteFault, unread, unwritten, Nothing, Around, Untouched, HasNoWords}
use Rattle.dm_words.specs.declared.words.WordsError.TheVariants as why

reads_none : (reason : WordsError) (i : Input) → status_of_no reason ≡ ReadFault i → ⊥
reads_none why.Usage i e = cc
reads_none (why.NoMemory lack) i e = cc

writes_none : (reason : WordsError) → status_of_no reason ≡ WriteFault → ⊥
writes_none why.Usage e = cc
writes_none (why.NoMemory lack) e = cc

pub no_words : {F K : Type 0} (reason : WordsError) (a : Around F K) (world : Option World) (s : Status) → s ≡ status_of_no reason → Untouched a world → HasNoWords reason a world s
no_words reason a world s e h = record {
  why = e;
  untouched = h;
  met = record {
    shelf = unread Nothing a.shelf s h.unread h.unread (λ i f. reads_none reason i (sym e ∙ f));
    sink = unwritten a.sink s h.unwritten (λ f. writes_none reason (sym e ∙ f));
  };
}
