-- The lines with the table of the labels give what the text means.
use Rattle.dm_asm.proofs.Names.{◌∙◌, ℕ, List, Vec, Global, Ok, ap, sym, assembled}
use Rattle.dm_asm.proofs.Meant.{meant, refused_alike}
use Rattle.dm_asm.proofs.assembler.assemble.Goals as goal

pub returns-in-Ok-all_lines : goal.returns-in-Ok-all_lines
returns-in-Ok-all_lines c = record {
  exact =
      ap assembled (sym c.as_bytes-text.ensures.value)
      ∙ sym (meant c.in-Ok.labels c.as_bytes-text.result.now c.in-Ok.ensures.ok)
      ∙ c.in-Ok-all_lines.ensures.exact
      ∙ ap Ok (sym c.new.ensures);
}

pub returns : goal.returns
returns c = record {
  exact =
      refused_alike {A = Vec ℕ Global} {B = List ℕ} (λ v. v.items) (λ image. image) c.in-Err-all_lines.no _ _ (meant c.in-Ok.labels c.as_bytes-text.result.now c.in-Ok.ensures.ok ∙ ap assembled c.as_bytes-text.ensures.value) c.in-Err-all_lines.ensures.exact;
}
